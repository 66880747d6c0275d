use Rattle.std.proofs.Common.{◌≡◌, [], map, drop}
use Rattle.ts_script.specs.Options.{boxes_onto}
use Rattle.ts_script.proofs.options.boxes_of_parts.Given as goal

abbrev pub invariant-loop-part : goal.invariant-loop-part
invariant-loop-part l =
    boxes_onto l.done (map (λ p. p.now) (drop l.part-index l.parts)) ≡ boxes_onto [] (map (λ p. p.now) l.parts)
