use Rattle.std.proofs.Common.{◌≡◌, map, take}
use Rattle.ts_reader.specs.Sources.{place_in}
use Rattle.ts_reader.proofs.sources.places_in.Given as goal

-- the places for the bindings so far
abbrev pub invariant-loop-binding : goal.invariant-loop-binding
invariant-loop-binding l = l.places ≡ map (λ b. place_in b.attrs l.wanted) (take l.binding-index l.bindings)
