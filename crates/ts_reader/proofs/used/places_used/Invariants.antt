use Rattle.std.proofs.Common.{◌≡◌, ◌++◌, drop}
use Rattle.ts_model.specs.Used.{places_used}
use Rattle.ts_reader.proofs.used.places_used.Given as goal

-- those so far, and those of the attributes from here on
abbrev pub invariant-loop-place : goal.invariant-loop-place
invariant-loop-place l = l.places ++ places_used l.reading l.place (drop l.place l.attrs) ≡ places_used l.reading 0 l.attrs
