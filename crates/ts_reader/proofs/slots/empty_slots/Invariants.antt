use Rattle.std.proofs.Common.{◌≡◌, None, map, take}
use Rattle.ts_domain.specs.Boxes.{coords_of_box}
use Rattle.ts_reader.proofs.slots.empty_slots.Given as goal

-- none at the places so far
abbrev pub invariant-loop-place : goal.invariant-loop-place
invariant-loop-place l = l.slots ≡ map (λ c. None) (take l._place (coords_of_box l.sub))
