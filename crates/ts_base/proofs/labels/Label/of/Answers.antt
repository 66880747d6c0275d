use Rattle.ts_base.proofs.LabelText.{label_buffer}
use Rattle.ts_base.proofs.labels.Label.of.Goals as goal

pub invariant_of-result : goal.invariant_of-result
invariant_of-result c = label_buffer _ _ c.requires c.copy_from_slice.ensures.after
