-- Texts and blobs of a tile are read exactly: where each starts, and the bytes.
use Rattle.std.proofs.Common.{◌≡◌, ℕ, suc, ◌+◌, ◌-◌, ◌^◌, ◌<◌, ◌≤◌, Bool, true, false, ◌&&◌, nat_eq, nat_le, List, [], ◌∷◌, ◌++◌, length, map, Some, refl, sym, ap, ◌∙◌, arith, length-append}
use Rattle.std.specs.List.{flat_map}
use Rattle.std.proofs.lemmas.Bool.Decides.{nat_tests}
use Rattle.ts_base.specs.declared.values.Val.{Val}
use Rattle.ts_base.specs.declared.values.Val.TheVariants.{Bytes}
use Rattle.ts_base.specs.declared.values.ValType.{ValType}
use Rattle.ts_value.specs.Fits.{fits_of}
use Rattle.ts_wire.specs.Place.{items_at, each_at, whole}
use Rattle.ts_wire.specs.Exact.{Exact, EachFits, InTurn}
use Rattle.ts_wire.specs.Numbers.{number_bytes}
use Rattle.ts_wire.proofs.Laws.{AreBytes, AreInTurn, restated, bytes_exact, mapped_exact, ruled_exact, items_exact, each_exact}
use Rattle.ts_wire.proofs.Numbers.{number_exact}
use Rattle.ts_table.specs.Texts.{first_or, RisesTo, joined, starts_from}
use Rattle.ts_column.specs.Tiles.{last_of, may_follow, start_at, lengths_to, text_at}
use Rattle.ts_column.specs.Spelled.{text_of}

-- ---- starts

abbrev pub IsStart : ℕ → List ℕ → ℕ → Type 0
IsStart end front s = (s < 256 ^ 8) × ((may_follow (last_of front) s && nat_le s end) ≡ true)

pub starts_exact : (end count : ℕ) → Exact (AreInTurn (IsStart end) count []) (flat_map (number_bytes 8)) (items_at (start_at end) count [])
starts_exact end count = items_exact (λ front. ruled_exact (λ s. may_follow (last_of front) s && nat_le s end) (number_exact 8)) count []

both_true : (a b : Bool) → (a && b) ≡ true → (a ≡ true) × (b ≡ true)
both_true true true h = (refl, refl)
both_true true false h = absurd (cc)
both_true false b h = absurd (cc)

pub true_both : (a b : Bool) → a ≡ true → b ≡ true → (a && b) ≡ true
true_both a b h k = rw (h, k) refl

pub last_pushed : (front : List ℕ) (s : ℕ) → last_of (front ++ s ∷ []) ≡ Some s
last_pushed [] s = refl
last_pushed (t ∷ []) s = refl
last_pushed (t ∷ u ∷ front) s = last_pushed (u ∷ front) s

-- a start at or behind another
follows_up : (a s : ℕ) → may_follow (Some a) s ≡ true → a ≤ s
follows_up a s h = grind (arith, nat_tests)

-- starts in turn, behind one
rise_behind : (end a : ℕ) (front starts : List ℕ) → last_of front ≡ Some a → a ≤ end → InTurn (IsStart end) front starts → RisesTo (a ∷ starts) end
rise_behind end a front [] last high fits = (high, tt)
rise_behind end a front (s ∷ starts) last high fits =
    let two = both_true (may_follow (last_of front) s) (nat_le s end) fits.0.1 in
    let up : a ≤ s = follows_up a s (ap (λ o. may_follow o s) (sym last) ∙ two.0) in
    let top : s ≤ end = grind (arith, nat_tests, two.1) in
    (up, rise_behind end s (front ++ s ∷ []) starts (last_pushed front s) top fits.1)

-- starts in turn: the first is 0, and they rise
pub starts_rise : (end : ℕ) (starts : List ℕ) → InTurn (IsStart end) [] starts → RisesTo starts end × (first_or starts 0 ≡ 0)
starts_rise end [] fits = (tt, refl)
starts_rise end (s ∷ starts) fits =
    let two = both_true (nat_eq s 0) (nat_le s end) fits.0.1 in
    let none : s ≡ 0 = grind (arith, nat_tests, two.0) in
    let top : s ≤ end = grind (arith, nat_tests, two.1) in
    (rise_behind end s (s ∷ []) starts refl top fits.1, none)

-- the starts of byte lists behind one are in turn
behind_in_turn : (end a at : ℕ) (front : List ℕ) (texts : List (List ℕ)) → last_of front ≡ Some a → a ≤ at → at + length (joined texts) ≡ end → end < 2 ^ 64 → InTurn (IsStart end) front (starts_from at texts)
behind_in_turn end a at front [] last low whole room = tt
behind_in_turn end a at front (t ∷ texts) last low whole room =
    let parts = length-append t (joined texts) in
    let up : may_follow (last_of front) at ≡ true = rw last (grind (arith, nat_tests)) in
    let top : nat_le at end ≡ true = grind (arith, nat_tests, parts) in
    ((omega (arith, parts), true_both _ _ up top), behind_in_turn end at (at + length t) (front ++ at ∷ []) texts (last_pushed front at) (omega arith) (omega (arith, parts)) room)

pub starts_in_turn : (texts : List (List ℕ)) → length (joined texts) < 2 ^ 64 → InTurn (IsStart (length (joined texts))) [] (starts_from 0 texts)
starts_in_turn [] room = tt
starts_in_turn (t ∷ texts) room =
    let parts = length-append t (joined texts) in
    let top : nat_le 0 (length (joined (t ∷ texts))) ≡ true = grind (arith, nat_tests) in
    ((omega arith, true_both _ _ refl top), behind_in_turn (length (joined (t ∷ texts))) 0 (0 + length t) (0 ∷ []) texts refl (omega arith) (omega (arith, parts)) room)

pub starts_count : (at : ℕ) (texts : List (List ℕ)) → length (starts_from at texts) ≡ length texts
starts_count at [] = refl
starts_count at (t ∷ texts) = ap suc (starts_count (at + length t) texts)

-- ---- texts

-- a value of so many bytes, which its type allows
abbrev pub IsText : ValType → ℕ → Val → Type 0
IsText ty n v = (bytes : List ℕ) × (v ≡ Bytes bytes) × AreBytes n bytes × (fits_of ty false v ≡ true)

pub text_exact : (ty : ValType) (n : ℕ) → Exact (IsText ty n) text_of (text_at ty n)
text_exact ty n = restated (ruled_exact (fits_of ty false) (mapped_exact {FitsB = λ v. (bytes : List ℕ) × (v ≡ Bytes bytes) × AreBytes n bytes} {spellB = text_of} (bytes_exact n) (record {
  there = λ bytes fits. ((bytes, refl, fits), refl);
  back = λ v is. (is.0, is.2, sym is.1, sym (ap text_of is.1));
}))) (λ v is. ((is.0.0, is.0.1, is.0.2, is.1), refl)) (λ v is. ((is.0, is.1, is.2), is.3))

pub texts_exact : (ty : ValType) (lengths : List ℕ) → Exact (EachFits (IsText ty) lengths) (flat_map text_of) (each_at (text_at ty) lengths)
texts_exact ty lengths = each_exact (text_exact ty) lengths

-- values with these lengths have these starts
pub starts_back : (ty : ValType) (starts : List ℕ) (end : ℕ) (vals : List Val) → RisesTo starts end → EachFits (IsText ty) (lengths_to starts end) vals → starts_from (first_or starts end) (map text_of vals) ≡ starts
starts_back ty [] end [] rises fits = refl
starts_back ty [] end (v ∷ vals) rises fits = absurd fits
starts_back ty (s ∷ starts) end [] rises fits = absurd fits
starts_back ty (s ∷ starts) end (v ∷ vals) rises fits =
    let text = fits.0 in
    let long : length (text_of v) ≡ first_or starts end - s = ap (λ w. length (text_of w)) text.1 ∙ text.2.0 in
    let next : s + length (text_of v) ≡ first_or starts end = omega (arith, long, rises.0) in
    ap (λ k. s ∷ starts_from k (map text_of vals)) next ∙ ap (λ l. s ∷ l) (starts_back ty starts end vals rises.1 fits.1)

-- the lengths of byte lists from their starts
pub lengths_back : (at end : ℕ) (texts : List (List ℕ)) → at + length (joined texts) ≡ end → lengths_to (starts_from at texts) end ≡ map length texts
lengths_back at end [] whole = refl
lengths_back at end (t ∷ []) whole = let long : end - at ≡ length t = omega (arith, length-append t []) in ap (λ k. k ∷ []) long
lengths_back at end (t ∷ u ∷ texts) whole =
    let parts = length-append t (joined (u ∷ texts)) in
    let long : at + length t - at ≡ length t = omega arith in
    ap (λ k. k ∷ lengths_to (starts_from (at + length t) (u ∷ texts)) end) long ∙ ap (λ l. length t ∷ l) (lengths_back (at + length t) end (u ∷ texts) (omega (arith, parts)))

-- the bytes of byte lists one after another, as values
pub joined_texts : (vals : List Val) → joined (map text_of vals) ≡ flat_map text_of vals
joined_texts [] = refl
joined_texts (v ∷ vals) = ap (λ more. text_of v ++ more) (joined_texts vals)
