-- The places so far.
use Rattle.std.proofs.Common.{◌≡◌, map, take}
use Rattle.ts_table.specs.declared.ranks.Ranked.{Ranked}
use Rattle.ts_table.proofs.ranks.places_of.Given as goal

abbrev pub invariant-loop-ranked : goal.invariant-loop-ranked
invariant-loop-ranked l = l.places ≡ map (λ (r : Ranked). r.place) (take l.ranked-index l.ranks)
