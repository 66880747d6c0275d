-- The parts of a text, one after another.
use Rattle.std.proofs.Common.{◌≡◌, ℕ, ◌+◌, ◌<◌, List, [], ◌∷◌, length, take, drop, Bool, true, false, cond, eqb, nat_lt, Option, Some, None, refl, arith}
use Rattle.std.specs.List.{position, position_or_len}
use Rattle.std.proofs.lemmas.List.Splits.{slice_split_first, slice_split_none}
use Rattle.std.proofs.lemmas.List.Sums.{fails_before_first}
use Rattle.std.proofs.lemmas.List.Elements.{All-from_get_or}
use borrow.Author.Tests.{ltb-true, ltb-false}
use Rattle.ts_script.specs.Parts.{parts_at}

-- the mark itself
abbrev pub is_mark : ℕ → ℕ → Bool
is_mark mark b = eqb b mark

-- a line feed
abbrev pub is_feed : ℕ → Bool
is_feed b = eqb b 10

-- what the place of the first mark says of the parts
abbrev pub Cuts : ℕ → List ℕ → Option ℕ → Type 0
Cuts mark bytes None = parts_at mark bytes ≡ bytes ∷ []
Cuts mark bytes (Some i) = (i < length bytes) × (parts_at mark bytes ≡ take i bytes ∷ parts_at mark (drop (i + 1) bytes))

cuts_by : (mark : ℕ) (bytes : List ℕ) (b : Bool) → nat_lt (position_or_len (is_mark mark) bytes) (length bytes) ≡ b → Cuts mark bytes (cond b (Some (position_or_len (is_mark mark) bytes)) None)
cuts_by mark bytes true e =
    let h : position_or_len (is_mark mark) bytes < length bytes = ltb-true _ _ e in
    (h, slice_split_first (is_mark mark) bytes 0 h)
cuts_by mark bytes false e =
    let h = ltb-false _ _ e in
    slice_split_none (is_mark mark) bytes (All-from_get_or (λ x. is_mark mark x ≡ false) bytes 0 (λ i lt. fails_before_first (is_mark mark) bytes i 0 (omega arith)))

pub cuts : (mark : ℕ) (bytes : List ℕ) → Cuts mark bytes (position (is_mark mark) bytes)
cuts mark bytes = cuts_by mark bytes _ refl
