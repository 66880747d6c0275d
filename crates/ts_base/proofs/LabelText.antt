-- A label is ASCII, and fits the buffer.
use Rattle.std.proofs.Common.{◌≡◌, ℕ, zero, suc, Bool, true, false, ◌&&◌, ◌<◌, ◌≤◌, ◌++◌, List, [], ◌∷◌, length, drop, replicate, refl, arith, nat_le, lit<}
use Rattle.std.proofs.Math.Seq.{take-append_seam}
use Rattle.std.specs.Char.{is_ascii_alphabetic}
use Rattle.std.specs.List.{list_all, slice_index}
use Rattle.std.specs.Str.{IsAscii}
use Rattle.std.proofs.lemmas.Bool.Decides.{nat_tests}
use Rattle.ts_base.specs.Buffers.{padded_is}
use Rattle.ts_base.specs.LabelBuffer.{IsLabelBuffer}
use Rattle.ts_base.specs.Labels.{is_word_byte, is_word, is_label}

word_byte_fits : (b : ℕ) → is_word_byte b ≡ true → b < 128
word_byte_fits b h = grind (arith, nat_tests)

letter_fits : (b : ℕ) → is_ascii_alphabetic b ≡ true → b < 128
letter_fits b h = grind (arith, nat_tests)

both_hold : (s t : Bool) → (s && t) ≡ true → (s ≡ true) × (t ≡ true)
both_hold true t h = (refl, h)
both_hold false t h = cc

word_bytes_fit : (bs : List ℕ) → list_all is_word_byte bs ≡ true → (i : ℕ) → slice_index bs i < 128
word_bytes_fit [] h i = lit< tt
word_bytes_fit (b ∷ bs) h zero = word_byte_fits b ((both_hold _ _ h).0)
word_bytes_fit (b ∷ bs) h (suc i) = word_bytes_fit bs ((both_hold _ _ h).1) i

word_fits : (text : List ℕ) → is_word text ≡ true → IsAscii text
word_fits [] h i = lit< tt
word_fits (b ∷ bs) h zero = letter_fits b ((both_hold _ _ h).0)
word_fits (b ∷ bs) h (suc i) = word_bytes_fit bs ((both_hold _ _ h).1) i

-- what a label's test says: it is a word, and short
label_parts : (text : List ℕ) → is_label text ≡ true → (is_word text ≡ true) × (nat_le (length text) 64 ≡ true)
label_parts text h = both_hold _ _ ((both_hold _ _ h).0)

pub IsAscii-from_is_label : (text : List ℕ) → is_label text ≡ true → IsAscii text
IsAscii-from_is_label text h = word_fits text ((label_parts text h).0)

-- a label has 64 bytes at most
pub label_is_short : (text : List ℕ) → is_label text ≡ true → length text ≤ 64
label_is_short text h = let short = label_parts text h in grind (arith, nat_tests)

-- a label written over the front of a buffer of zeros
pub label_buffer : (text ys : List ℕ) → is_label text ≡ true → ys ≡ text
    → IsLabelBuffer record { bytes = ys ++ drop (length text) (replicate 64 0); count = length text }
label_buffer text ys h same = rw same (record {
  label = rw take-append_seam h;
  buffer = padded_is 64 0 text text refl (label_is_short text h);
})
