-- The texts that bytes hold, once it is known where each starts.
use Rattle.std.proofs.Common.{◌≡◌, ℕ, zero, suc, ◌+◌, ◌-◌, ◌<◌, ◌≤◌, Bool, true, false, nat_eq, nat_lt, if◌then◌else◌, List, [], ◌∷◌, length, map, take, drop, get_or, Option, Some, None, Ok, Err, refl, sym, ap, ◌∙◌, arith, length-drop, add-one}
use Rattle.std.specs.List.{list_all}
use Rattle.std.specs.Str.{IsAscii}
use Rattle.std.proofs.lemmas.Bool.{le-ltb, ne_eqb}
use Rattle.std.proofs.lemmas.Bool.Decides.{nat_tests}
use Rattle.std.proofs.lemmas.Str.{IsUtf8-from_ascii, IsAscii-take, IsAscii-drop}
use Rattle.std.proofs.lemmas.List.{drop-drop, drop_all}
use Rattle.std.proofs.lemmas.Grind.{get_or_default_zero}
use Rattle.ts_base.specs.declared.values.Val.{Val}
use Rattle.ts_base.specs.declared.values.Val.TheVariants.{Bytes}
use Rattle.ts_base.specs.declared.values.ValType.{ValType}
use Rattle.ts_base.specs.declared.values.ValType.TheVariants.{Text}
use Rattle.ts_value.specs.Fits.{fits_of}
use Rattle.ts_value.proofs.Texts.{is_utf8_true}
use Rattle.ts_wire.specs.Place.{Place, Read, place, ◌>>=◌, each_at}
use Rattle.ts_table.specs.Texts.{first_or, texts_in, RisesTo, IsTexts, end_at}
use Rattle.ts_table.proofs.Spans.{first_below, start_low, end_low}
use Rattle.ts_column.specs.Tiles.{lengths_to, text_at, texts_of}
use Rattle.ts_column.specs.Faults.{text_fault}
use Rattle.ts_column.proofs.BulkLaws.{both_true}

-- what is read of texts whose first faulty one begins here, if there is one
abbrev Told : List Val → Place → Option ℕ → Read (List Val)
Told vals q None = Ok (vals, q)
Told vals q (Some at) = Err at

-- one text behind the others
one_text : (ty : ValType) (n at : ℕ) (bytes : List ℕ) → n ≤ length bytes → text_at ty n (place bytes at) ≡ (if fits_of ty false (Bytes (take n bytes)) then Ok (Bytes (take n bytes), place (drop n bytes) (at + n)) else Err at)
one_text ty n at bytes room = let is : nat_lt (length bytes) n ≡ false = le-ltb (length bytes) n room in rw is refl

abbrev others_of : (Place → Read (List Val)) → Val × Place → Read (Val × List Val)
others_of others a = others a.1 >>= λ b. Ok ((a.0, b.0), b.1)

abbrev list_of : (Val × List Val) × Place → Read (List Val)
list_of y = Ok (y.0.0 ∷ y.0.1, y.1)

told_more : (first : Read Val) (others : Place → Read (List Val)) (val : Val) (p q : Place) (fits : Bool) (at : ℕ) (vals : List Val) (fault : Option ℕ)
    → first ≡ (if fits then Ok (val, p) else Err at) → others p ≡ Told vals q fault
    → ((first >>= others_of others) >>= list_of) ≡ Told (val ∷ vals) q (if fits then fault else Some at)
told_more first others val p q true at vals None is more = rw (is, more) refl
told_more first others val p q true at vals (Some far) is more = rw (is, more) refl
told_more first others val p q false at vals fault is more = rw is refl

-- the texts with these starts
pub texts_told : (ty : ValType) (starts bytes : List ℕ) → RisesTo starts (length bytes)
    → each_at (text_at ty) (lengths_to starts (length bytes)) (place (drop (first_or starts (length bytes)) bytes) (first_or starts (length bytes)))
    ≡ Told (map Bytes (texts_in starts bytes)) (place [] (length bytes)) (text_fault ty starts bytes)
unfolding each_at
texts_told ty [] bytes rises = ap (λ rest. Ok ([], place rest (length bytes))) (drop_all (length bytes) bytes (omega arith))
texts_told ty (s ∷ starts) bytes rises =
    let e = first_or starts (length bytes) in
    let low : s ≤ e = rises.0 in
    let high : e ≤ length bytes = first_below starts (length bytes) rises.1 in
    let far : s + (e - s) ≡ e = omega (arith, low) in
    let behind : drop (e - s) (drop s bytes) ≡ drop e bytes = drop-drop (e - s) s bytes ∙ ap (λ k. drop k bytes) far in
    let first = one_text ty (e - s) s (drop s bytes) (omega (arith, length-drop s bytes)) in
    told_more _ _ _ _ _ _ s _ _ (first ∙ ap (λ (q : Place). if fits_of ty false (Bytes (take (e - s) (drop s bytes))) then Ok (Bytes (take (e - s) (drop s bytes)), q) else Err s) (ap (λ rest. place rest (s + (e - s))) behind ∙ ap (place (drop e bytes)) far)) (texts_told ty starts bytes rises.1)

-- where there are no starts there are no bytes
pub surplus : (ty : ValType) (starts bytes : List ℕ) → starts ≡ [] → 1 ≤ length bytes → texts_of ty starts bytes ≡ Err 0
unfolding texts_of each_at
surplus ty starts bytes none some = let is : nat_eq (length bytes) 0 ≡ false = ne_eqb (length bytes) 0 (λ e. omega (arith, e, some)) in rw (none, is) refl

whole_none : (r : Read (List Val)) (vals : List Val) (n : ℕ) → r ≡ Ok (vals, place [] n) → (r >>= λ x. if nat_eq (length x.1.rest) 0 then Ok x.0 else Err x.1.at) ≡ Ok vals
whole_none r vals n is = rw is refl

whole_some : (r : Read (List Val)) (at : ℕ) → r ≡ Err at → (r >>= λ x. if nat_eq (length x.1.rest) 0 then Ok x.0 else Err x.1.at) ≡ Err at
whole_some r at is = rw is refl

-- all texts from the first on
from_first : (ty : ValType) (starts bytes : List ℕ) → IsTexts starts bytes
    → each_at (text_at ty) (lengths_to starts (length bytes)) (place bytes 0) ≡ Told (map Bytes (texts_in starts bytes)) (place [] (length bytes)) (text_fault ty starts bytes)
from_first ty starts bytes are =
    ap (λ k. each_at (text_at ty) (lengths_to starts (length bytes)) (place (drop k bytes) k)) (sym are.from_zero) ∙ texts_told ty starts bytes are.rises

pub texts_whole : (ty : ValType) (starts bytes : List ℕ) → IsTexts starts bytes → text_fault ty starts bytes ≡ None → texts_of ty starts bytes ≡ Ok (map Bytes (texts_in starts bytes))
unfolding texts_of
texts_whole ty starts bytes are none = whole_none _ _ (length bytes) (from_first ty starts bytes are ∙ ap (Told (map Bytes (texts_in starts bytes)) (place [] (length bytes))) none)

pub texts_broken : (ty : ValType) (starts bytes : List ℕ) (at : ℕ) → IsTexts starts bytes → text_fault ty starts bytes ≡ Some at → texts_of ty starts bytes ≡ Err at
unfolding texts_of
texts_broken ty starts bytes at are some = whole_some _ at (from_first ty starts bytes are ∙ ap (Told (map Bytes (texts_in starts bytes)) (place [] (length bytes))) some)

-- the starts that rise from 0 are those of byte lists, where they are some or there are no bytes
pub texts_are : (starts bytes : List ℕ) → first_or starts 0 ≡ 0 → RisesTo starts (length bytes) → (length starts ≡ 0 → length bytes ≡ 0) → IsTexts starts bytes
texts_are [] bytes first rises some = record { from_zero = some refl; rises = rises }
texts_are (s ∷ starts) bytes first rises some = record { from_zero = first; rises = rises }

-- ---- the first text that its type does not allow

fault_next : (ty : ValType) (starts bytes : List ℕ) (i : ℕ) → i < length starts
    → text_fault ty (drop i starts) bytes ≡ (if fits_of ty false (Bytes (take (end_at starts i (length bytes) - get_or starts i 0) (drop (get_or starts i 0) bytes))) then text_fault ty (drop (suc i) starts) bytes else Some (get_or starts i 0))
fault_next ty [] bytes i within = absurd (omega (arith, within))
fault_next ty (s ∷ starts) bytes zero within = refl
fault_next ty (s ∷ starts) bytes (suc i) within = fault_next ty starts bytes i (omega (arith, within))

pub fault_on : (ty : ValType) (starts bytes : List ℕ) (i : ℕ) → i < length starts
    → fits_of ty false (Bytes (take (end_at starts i (length bytes) - get_or starts i 0) (drop (get_or starts i 0) bytes))) ≡ true → text_fault ty (drop (i + 1) starts) bytes ≡ text_fault ty (drop i starts) bytes
fault_on ty starts bytes i within fits = sym (fault_next ty starts bytes i within ∙ rw fits (ap (λ k. text_fault ty (drop k starts) bytes) (sym (add-one i))))

pub fault_here : (ty : ValType) (starts bytes : List ℕ) (i : ℕ) → i < length starts
    → fits_of ty false (Bytes (take (end_at starts i (length bytes) - get_or starts i 0) (drop (get_or starts i 0) bytes))) ≡ false → text_fault ty (drop i starts) bytes ≡ Some (get_or starts i 0)
fault_here ty starts bytes i within fits = fault_next ty starts bytes i within ∙ rw fits refl

pub fault_none : (ty : ValType) (starts bytes : List ℕ) (i : ℕ) → length starts ≤ i → text_fault ty (drop i starts) bytes ≡ None
fault_none ty starts bytes i past = rw (drop_all i starts past) refl

-- ---- where each part of the bytes is allowed

pub all_allowed : (ty : ValType) (starts bytes : List ℕ) → ((start count : ℕ) → fits_of ty false (Bytes (take count (drop start bytes))) ≡ true) → text_fault ty starts bytes ≡ None
all_allowed ty [] bytes all = refl
all_allowed ty (s ∷ starts) bytes all = rw (all s (first_or starts (length bytes) - s)) (all_allowed ty starts bytes all)

are_ascii : (bytes : List ℕ) → list_all (λ b. nat_lt b 128) bytes ≡ true → IsAscii bytes
are_ascii [] all i = omega arith
are_ascii (b ∷ bytes) all zero = let two = both_true (nat_lt b 128) _ all in grind (arith, nat_tests, two.0)
are_ascii (b ∷ bytes) all (suc i) = are_ascii bytes (both_true (nat_lt b 128) _ all).1 i

-- each part of ASCII is a text
pub ascii_part : (bytes : List ℕ) (start count : ℕ) → list_all (λ b. nat_lt b 128) bytes ≡ true → fits_of Text false (Bytes (take count (drop start bytes))) ≡ true
ascii_part bytes start count all = is_utf8_true _ (IsUtf8-from_ascii _ (IsAscii-take _ count (IsAscii-drop bytes start (are_ascii bytes all))))

pub ruleset allowed = (all_allowed)

pub ruleset ascii_parts = (ascii_part)

pub ruleset faults = (fault_on, fault_here, fault_none)

pub ruleset spans = (start_low, end_low, get_or_default_zero)

pub ruleset checks = (surplus, texts_whole, texts_broken, texts_are)
