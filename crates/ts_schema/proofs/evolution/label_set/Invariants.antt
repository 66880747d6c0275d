-- The names so far.
use Rattle.std.proofs.Common.{take}
use Rattle.ts_schema.specs.Attrs.{has_label, HasNames}
use Rattle.ts_schema.proofs.evolution.label_set.Given as goal

abbrev pub invariant-loop-label : goal.invariant-loop-label
invariant-loop-label l = HasNames l.names (has_label (take l.label-index l.labels))
