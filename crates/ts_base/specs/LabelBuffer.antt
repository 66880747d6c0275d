-- A label in a buffer of 64 bytes.
use Rattle.std.specs.Prelude.{◌≡◌, ℕ, true, List, length, take}
use Rattle.ts_base.specs.Buffers.{pad, IsPadded}
use Rattle.ts_base.specs.Labels.{is_label}
use Rattle.ts_base.specs.declared.labels.Label.TheInside.{Inside}

-- the text that the buffer holds
abbrev pub text_of : Inside → List ℕ
text_of inside = take inside.count inside.bytes

-- the text is a label, and the rest of the buffer is 0
pub record IsLabelBuffer (inside : Inside) : Type 0 where
  pub label : is_label (text_of inside) ≡ true
  pub buffer : IsPadded 64 0 inside.bytes inside.count

-- the buffer that holds the text
abbrev pub buffer_of : List ℕ → Inside
buffer_of text = record { bytes = pad 64 0 text; count = length text }

pub buffer_of-text_of : (inside : Inside) → IsLabelBuffer inside → buffer_of (text_of inside) ≡ inside
buffer_of-text_of inside is = λ i. record { bytes = is.buffer.rest i; count = is.buffer.used i }
