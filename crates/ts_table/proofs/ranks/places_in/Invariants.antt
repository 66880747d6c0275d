-- The places are counted by the dimensions so far.
use Rattle.ts_table.specs.Ranks.{ArePlaces, front_place}
use Rattle.ts_table.proofs.ranks.places_in.Given as goal

abbrev pub invariant-loop-rank : goal.invariant-loop-rank
invariant-loop-rank l = ArePlaces (front_place l.counted l.domain l.order l.rank) l.table l.places.items
