-- The names so far.
use Rattle.std.proofs.Common.{take}
use Rattle.ts_schema.specs.Attrs.{has_attr, HasNames}
use Rattle.ts_schema.proofs.evolution.attr_names.Given as goal

abbrev pub invariant-loop-attr : goal.invariant-loop-attr
invariant-loop-attr l = HasNames l.names (has_attr (take l.attr-index l.attrs))
