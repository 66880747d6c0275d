-- The places of the runs of the blocks so far.
use Rattle.std.proofs.Common.{◌≡◌, ◌*◌, [], get_or, map}
use Rattle.std.specs.List.{range_with_len}
use Rattle.ts_order.specs.Orders.{coords_in_order}
use Rattle.ts_gather.specs.Parts.{place_in, run_in}
use Rattle.ts_gather.proofs.starts.run_starts.Given as goal

abbrev pub invariant-loop-block : goal.invariant-loop-block
invariant-loop-block l = l.starts.items ≡ map (λ run. place_in l.order l.outer (get_or (coords_in_order l.order l.inner) (run * run_in l.order l.inner) [])) (range_with_len 0 (l.block * l.rows))
