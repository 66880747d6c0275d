use Rattle.std.proofs.Common.{◌≡◌, ◌++◌, drop}
use Rattle.ts_model.specs.Answers.{fills_of}
use Rattle.ts_model.proofs.selection.fills_of.Given as goal

-- the fills so far, and those of the attributes from here on
abbrev pub invariant-loop-attr : goal.invariant-loop-attr
invariant-loop-attr l = l.row ++ fills_of (drop l.attr-index l.schema.attrs) ≡ fills_of l.schema.attrs
