use Rattle.std.proofs.Common.{◌≡◌, map, drop}
use Rattle.ts_script.specs.Shapes.{is_one_of}
use Rattle.ts_script.proofs.forms.is_one_of.Given as goal

abbrev pub invariant-loop-candidate : goal.invariant-loop-candidate
invariant-loop-candidate l =
    is_one_of l.key (map (λ k. k.now) (drop l.candidate-index l.known)) ≡ is_one_of l.key (map (λ k. k.now) l.known)
