use Rattle.ts_base.proofs.LabelText.{IsAscii-from_is_label}
use Rattle.ts_base.proofs.labels.Label.text.Goals as goal

pub ascii_text-requires : goal.ascii_text-requires
ascii_text-requires c = IsAscii-from_is_label _ c.as_bytes.ensures.label
