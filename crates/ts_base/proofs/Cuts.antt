-- Texts cut at the first of a byte.
use Rattle.std.proofs.Common.{◌≡◌, ◌⊎◌, ℕ, zero, suc, ◌+◌, ◌<◌, ◌^◌, ◌==◌, false, List, [], ◌∷◌, ◌++◌, length, length-append, drop, decimal, refl, sym, ap, ◌∙◌, inl, inr, arith}
use Rattle.std.specs.Char.{digit_value}
use Rattle.std.specs.List.{position_or_len, before_first, after_first}
use Rattle.std.specs.Str.Parse.{AllDigits}
use Rattle.std.proofs.lemmas.Bool.Decides.{nat_tests}
use Rattle.std.proofs.lemmas.List.{append_assoc, take_at, take_all, drop_at, drop_all}
use Rattle.std.proofs.lemmas.Bool.{ne_eqb}
use Rattle.std.proofs.lemmas.Fmt.{decimal_is_IsNumeral}
use Rattle.uuid.specs.Text.{by_index, hex_digit, nibble, lower}
use Rattle.uuid.proofs.TextLemmas.{nibble_small}
use Rattle.std.specs.Int.{to_be_bytes, w128}
use Rattle.ts_base.specs.Spelling.{id_text}
use Rattle.ts_base.proofs.Splits.{IsStop}

-- no byte of the text is the mark
abbrev pub Lacks : ℕ → List ℕ → Type 0
Lacks mark [] = Unit {0}
Lacks mark (x ∷ xs) = ((x == mark) ≡ false) × Lacks mark xs

-- the text before the first mark, or all of it
abbrev pub before : ℕ → List ℕ → List ℕ
before mark text = before_first (λ b. b == mark) text

-- the text after the first mark, or none
abbrev pub after : ℕ → List ℕ → List ℕ
after mark text = after_first (λ b. b == mark) text

place_at : (mark : ℕ) (front rest : List ℕ) → Lacks mark front → position_or_len (λ b. b == mark) (front ++ mark ∷ rest) ≡ length front
place_at mark [] rest lacks = grind (arith, nat_tests)
place_at mark (x ∷ xs) rest lacks = rw lacks.0 (omega (arith, place_at mark xs rest lacks.1))

place_none : (mark : ℕ) (text : List ℕ) → Lacks mark text → position_or_len (λ b. b == mark) text ≡ length text
place_none mark [] lacks = refl
place_none mark (x ∷ xs) lacks = rw lacks.0 (omega (arith, place_none mark xs lacks.1))

pub before_at : (mark : ℕ) (front rest : List ℕ) → Lacks mark front → before mark (front ++ mark ∷ rest) ≡ front
before_at mark front rest lacks = take_at front (mark ∷ rest) _ (sym (place_at mark front rest lacks))

pub after_at : (mark : ℕ) (front rest : List ℕ) → Lacks mark front → after mark (front ++ mark ∷ rest) ≡ rest
after_at mark front rest lacks =
    let place = place_at mark front rest lacks in
    let one : length (front ++ mark ∷ []) ≡ position_or_len (λ b. b == mark) (front ++ mark ∷ rest) + 1 = omega (arith, length-append front (mark ∷ [])) in
    let split : (front ++ mark ∷ []) ++ rest ≡ front ++ mark ∷ rest = append_assoc front (mark ∷ []) rest in
    ap (drop (position_or_len (λ b. b == mark) (front ++ mark ∷ rest) + 1)) (sym split) ∙ drop_at (front ++ mark ∷ []) rest _ one

pub before_none : (mark : ℕ) (text : List ℕ) → Lacks mark text → before mark text ≡ text
before_none mark text lacks = take_all _ text (omega (arith, place_none mark text lacks))

pub after_none : (mark : ℕ) (text : List ℕ) → Lacks mark text → after mark text ≡ []
after_none mark text lacks = drop_all _ text (omega (arith, place_none mark text lacks))

pub lacks_append : (mark : ℕ) (xs ys : List ℕ) → Lacks mark xs → Lacks mark ys → Lacks mark (xs ++ ys)
lacks_append mark [] ys lacks_x lacks_y = lacks_y
lacks_append mark (x ∷ xs) ys lacks_x lacks_y = (lacks_x.0, lacks_append mark xs ys lacks_x.1 lacks_y)

other_byte : (x mark : ℕ) → digit_value x < 10 → IsStop mark → (x == mark) ≡ false
other_byte x mark digit stop = ne_eqb x mark (λ same. omega (arith, ap digit_value same))

lacks_digits : (mark : ℕ) (digits : List ℕ) → IsStop mark → AllDigits 10 digits → Lacks mark digits
lacks_digits mark [] stop all = tt
lacks_digits mark (x ∷ xs) stop all = (other_byte x mark all.0 stop, lacks_digits mark xs stop all.1)

-- a number holds no mark that is no digit
pub lacks_decimal : (mark n : ℕ) → IsStop mark → n < 2 ^ 64 → Lacks mark (decimal n)
lacks_decimal mark n stop fits = lacks_digits mark (decimal n) stop (decimal_is_IsNumeral n fits).0.1

lacks_by_index : (mark n : ℕ) (f : ℕ → ℕ) → ((k : ℕ) → (f k == mark) ≡ false) → Lacks mark (by_index n f)
unfolding by_index
lacks_by_index mark zero f lacks = tt
lacks_by_index mark (suc n) f lacks = lacks_append mark (by_index n f) (f n ∷ []) (lacks_by_index mark n f lacks) (lacks n, tt)

hex_digit_other : (mark d : ℕ) → (mark < 48) ⊎ (mark ≡ 95) → d < 16 → (hex_digit lower d == mark) ≡ false
hex_digit_other mark d kind small = elim kind [ inl low ↦ grind (arith, nat_tests) | inr line ↦ grind (arith, nat_tests) ]

-- an identifier holds no `_`, `.` or `/`
pub lacks_id : (mark id : ℕ) → (mark < 48) ⊎ (mark ≡ 95) → Lacks mark (id_text id)
lacks_id mark id kind =
    let bytes = to_be_bytes w128 id in
    lacks_by_index mark 32 (λ k. hex_digit lower (nibble bytes k)) (λ k. hex_digit_other mark (nibble bytes k) kind (nibble_small bytes k))
