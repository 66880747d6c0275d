use Rattle.std.proofs.Common.{◌≡◌, take}
use Rattle.ts_order.specs.Orders.{turned}
use Rattle.ts_order.specs.Places.{place_of}
use Rattle.ts_order.proofs.places.place_in.Given as goal

abbrev pub invariant-loop-rank : goal.invariant-loop-rank
invariant-loop-rank l = l.place ≡ place_of (take l.rank (turned l.order l.low)) (take l.rank (turned l.order l.high)) (take l.rank (turned l.order l.at))
