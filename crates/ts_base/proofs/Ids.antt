-- Identifiers as text: 32 ASCII digits, which tell the identifier.
use Rattle.std.proofs.Common.{◌≡◌, ℕ, zero, suc, ◌<◌, ◌^◌, length, List, get_or, IsAscii, Some, refl, sym, ap, ◌∙◌, inl, arith}
use Rattle.std.specs.Int.{byte_at, bytes_high_first, to_be_bytes, from_be_bytes, w128}
use Rattle.uuid.specs.Text.{parsed, parsed_simple, lower}
use Rattle.uuid.proofs.TextLemmas.{by_index_length, simple_ascii}
use Rattle.uuid.proofs.RoundTrips.{parses_simple, parses_simple_text}
use Rattle.uuid.proofs.OrderLemmas.{from_be_bytes-to_be_bytes_16}
use Rattle.ts_base.specs.Spelling.{id_text}

pub length_of_id : (id : ℕ) → length (id_text id) ≡ 32
length_of_id id = by_index_length 32 _

pub ascii_id : (id : ℕ) → IsAscii (id_text id)
ascii_id id = simple_ascii lower (to_be_bytes w128 id) (inl refl)

byte_small : (place n : ℕ) → byte_at place n < 256
byte_small zero n = omega arith
byte_small (suc place) n = omega arith

bytes_small : (count n place past : ℕ) → place < length (bytes_high_first count n) → get_or (bytes_high_first count n) place past < 256
bytes_small zero n place past within = absurd (omega arith)
bytes_small (suc count) n zero past within = byte_small count n
bytes_small (suc count) n (suc place) past within = bytes_small count n place past (omega arith)

-- the text of an identifier reads back as its bytes
reads_back : (id : ℕ) → Some (to_be_bytes w128 id) ≡ parsed_simple (id_text id)
reads_back id = parses_simple_text lower (to_be_bytes w128 id) (inl refl) refl (bytes_small 16 id)

-- one text, one identifier
pub id_injective : (a b : ℕ) → a < 2 ^ 128 → b < 2 ^ 128 → id_text a ≡ id_text b → a ≡ b
id_injective a b fits_a fits_b same =
    let read : Some (to_be_bytes w128 a) ≡ Some (to_be_bytes w128 b) = reads_back a ∙ ap parsed_simple same ∙ sym (reads_back b) in
    let bytes : to_be_bytes w128 a ≡ to_be_bytes w128 b = cc in
    sym (from_be_bytes-to_be_bytes_16 a fits_a) ∙ ap (from_be_bytes w128) bytes ∙ from_be_bytes-to_be_bytes_16 b fits_b

-- the text of an identifier parses to its bytes
pub id_parses : (id : ℕ) (text : List ℕ) → text ≡ id_text id → Some (to_be_bytes w128 id) ≡ parsed text
id_parses id text same = parses_simple lower (to_be_bytes w128 id) (inl refl) refl (bytes_small 16 id) ∙ ap parsed (sym same)
