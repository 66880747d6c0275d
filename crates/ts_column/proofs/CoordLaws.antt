-- Coordinates are read exactly, and the first that is broken is found.
use Rattle.std.proofs.Common.{◌≡◌, ℕ, zero, suc, ◌+◌, ◌*◌, ◌<◌, ◌≤◌, Bool, true, false, ◌&&◌, ◌||◌, if◌then◌else◌, ℤ, pos, List, [], ◌∷◌, length, drop, get_or, Option, Some, None, Result, Ok, Err, refl, sym, ap, subst, ◌∙◌, arith, add-one, int_le}
use Rattle.std.specs.Prelude.{IfOk}
use Rattle.std.specs.List.{list_all, list_any, position_from, slice_get}
use Rattle.std.proofs.Math.Nat.{mul-le-mul_right}
use Rattle.std.proofs.lemmas.List.{drop_all}
use Rattle.ts_base.specs.declared.values.ValType.{ValType}
use Rattle.ts_base.specs.Values.{is_integer, width_of}
use Rattle.ts_wire.specs.declared.faults.ReadFault.{ReadFault}
use Rattle.ts_wire.specs.Exact.{IsBytes}
use Rattle.ts_wire.specs.Numbers.{int_bytes}
use Rattle.ts_wire.specs.Place.{place}
use Rattle.ts_wire.specs.Reading.{DecodesOr}
use Rattle.ts_wire.proofs.Laws.{whole_found, bound}
use Rattle.ts_wire.proofs.Numbers.{length-number_bytes}
use Rattle.ts_column.specs.Tiles.{is_signed, ints_in}
use Rattle.ts_column.specs.Coords.{is_filled, is_out, first_out, unless_at, coords_in, AreCoords}
use Rattle.ts_column.proofs.BulkLaws.{both_true}
use Rattle.ts_column.proofs.IntLaws.{ints_exact}
use Rattle.ts_column.proofs.TileLaws.{widths}
use Rattle.ts_column.proofs.Ranges.{length-cells}

-- ---- loops over the coordinates

pub got_there : (xs : List ℤ) (i : ℕ) (z : ℤ) → slice_get xs i ≡ Some z → get_or xs i (pos 0) ≡ z
got_there [] i z h = absurd (cc)
got_there (x ∷ xs) zero z h = cc
got_there (x ∷ xs) (suc i) z h = got_there xs i z h

pub ruleset got = (got_there)

module _ (test : ℤ → Bool) where
  any_next : (xs : List ℤ) (i : ℕ) → i < length xs → list_any test (drop i xs) ≡ (test (get_or xs i (pos 0)) || list_any test (drop (suc i) xs))
  any_next [] i within = absurd (omega (arith, within))
  any_next (x ∷ xs) zero within = refl
  any_next (x ∷ xs) (suc i) within = any_next xs i (omega (arith, within))

  any_on : (xs : List ℤ) (i : ℕ) → i < length xs → test (get_or xs i (pos 0)) ≡ false → list_any test (drop (i + 1) xs) ≡ list_any test (drop i xs)
  any_on xs i within miss = sym (any_next xs i within ∙ rw miss (ap (λ k. list_any test (drop k xs)) (sym (add-one i))))

  any_here : (xs : List ℤ) (i : ℕ) → i < length xs → test (get_or xs i (pos 0)) ≡ true → list_any test (drop i xs) ≡ true
  any_here xs i within hit = any_next xs i within ∙ rw hit refl

  any_none : (xs : List ℤ) (i : ℕ) → length xs ≤ i → list_any test (drop i xs) ≡ false
  any_none xs i past = ap (list_any test) (drop_all i xs past)

  from_next : (xs : List ℤ) (i : ℕ) → i < length xs → position_from test i (drop i xs) ≡ (if test (get_or xs i (pos 0)) then Some i else position_from test (i + 1) (drop (i + 1) xs))
  from_next xs i within = ap (position_from test i) (split xs i within) ∙ ap (λ k. if test (get_or xs i (pos 0)) then Some i else position_from test (i + 1) (drop k xs)) (sym (add-one i))
    where
      split : (xs : List ℤ) (i : ℕ) → i < length xs → drop i xs ≡ get_or xs i (pos 0) ∷ drop (suc i) xs
      split [] i within = absurd (omega (arith, within))
      split (x ∷ xs) zero within = refl
      split (x ∷ xs) (suc i) within = split xs i (omega (arith, within))

  from_none : (xs : List ℤ) (i : ℕ) → length xs ≤ i → position_from test i (drop i xs) ≡ None
  from_none xs i past = ap (position_from test i) (drop_all i xs past)

  from_within : (xs : List ℤ) (i at : ℕ) → position_from test i xs ≡ Some at → at < i + length xs
  from_within [] i at h = absurd (cc)
  from_within (x ∷ xs) i at h = go (test x) (λ k. from_within xs (i + 1) at k) h
    where
      go : (b : Bool) → (position_from test (i + 1) xs ≡ Some at → at < i + 1 + length xs) → (if b then Some i else position_from test (i + 1) xs) ≡ Some at → at < i + suc (length xs)
      go true rest h = let same : i ≡ at = cc in omega (arith, same)
      go false rest h = omega (arith, rest h)

pub at_most_on : (low : ℤ) (xs : List ℤ) (i : ℕ) → i < length xs → int_le (get_or xs i (pos 0)) low ≡ false → list_any (λ x. int_le x low) (drop (i + 1) xs) ≡ list_any (λ x. int_le x low) (drop i xs)
at_most_on low xs i within miss = any_on (λ x. int_le x low) xs i within miss

pub at_most_here : (low : ℤ) (xs : List ℤ) (i : ℕ) → i < length xs → int_le (get_or xs i (pos 0)) low ≡ true → list_any (λ x. int_le x low) (drop i xs) ≡ true
at_most_here low xs i within hit = any_here (λ x. int_le x low) xs i within hit

pub at_most_none : (low : ℤ) (xs : List ℤ) (i : ℕ) → length xs ≤ i → list_any (λ x. int_le x low) (drop i xs) ≡ false
at_most_none low xs i past = any_none (λ x. int_le x low) xs i past

pub ruleset at_most = (at_most_on, at_most_here, at_most_none)

pub at_least_on : (high : ℤ) (xs : List ℤ) (i : ℕ) → i < length xs → int_le high (get_or xs i (pos 0)) ≡ false → list_any (λ x. int_le high x) (drop (i + 1) xs) ≡ list_any (λ x. int_le high x) (drop i xs)
at_least_on high xs i within miss = any_on (λ x. int_le high x) xs i within miss

pub at_least_here : (high : ℤ) (xs : List ℤ) (i : ℕ) → i < length xs → int_le high (get_or xs i (pos 0)) ≡ true → list_any (λ x. int_le high x) (drop i xs) ≡ true
at_least_here high xs i within hit = any_here (λ x. int_le high x) xs i within hit

pub at_least_none : (high : ℤ) (xs : List ℤ) (i : ℕ) → length xs ≤ i → list_any (λ x. int_le high x) (drop i xs) ≡ false
at_least_none high xs i past = any_none (λ x. int_le high x) xs i past

pub ruleset at_least = (at_least_on, at_least_here, at_least_none)

pub out_on : (low high : ℤ) (xs : List ℤ) (i : ℕ) → i < length xs → int_le low (get_or xs i (pos 0)) ≡ true → int_le (get_or xs i (pos 0)) high ≡ true
    → position_from (is_out low high) (i + 1) (drop (i + 1) xs) ≡ position_from (is_out low high) i (drop i xs)
out_on low high xs i within up down = sym (from_next (is_out low high) xs i within ∙ rw (up, down) refl)

pub out_below : (low high : ℤ) (xs : List ℤ) (i : ℕ) → i < length xs → int_le low (get_or xs i (pos 0)) ≡ false → position_from (is_out low high) i (drop i xs) ≡ Some i
out_below low high xs i within miss = from_next (is_out low high) xs i within ∙ rw miss refl

pub out_above : (low high : ℤ) (xs : List ℤ) (i : ℕ) → i < length xs → int_le low (get_or xs i (pos 0)) ≡ true → int_le (get_or xs i (pos 0)) high ≡ false → position_from (is_out low high) i (drop i xs) ≡ Some i
out_above low high xs i within up miss = from_next (is_out low high) xs i within ∙ rw (up, miss) refl

pub out_none : (low high : ℤ) (xs : List ℤ) (i : ℕ) → length xs ≤ i → position_from (is_out low high) i (drop i xs) ≡ None
out_none low high xs i past = from_none (is_out low high) xs i past

pub ruleset positions = (out_on, out_below, out_above, out_none)

-- ---- the parts of the rule

pub filled_out : (low high : ℤ) (xs : List ℤ) → list_any (λ x. int_le x low) xs ≡ true → list_any (λ x. int_le high x) xs ≡ true → first_out low high xs ≡ position_from (is_out low high) 0 xs
unfolding first_out
filled_out low high xs a b = rw (a, b) refl

pub low_free : (low high : ℤ) (xs : List ℤ) → list_any (λ x. int_le x low) xs ≡ false → first_out low high xs ≡ Some 0
unfolding first_out
low_free low high xs a = rw a refl

pub high_free : (low high : ℤ) (xs : List ℤ) → list_any (λ x. int_le x low) xs ≡ true → list_any (λ x. int_le high x) xs ≡ false → first_out low high xs ≡ Some 0
unfolding first_out
high_free low high xs a b = rw (a, b) refl

pub ruleset outs = (filled_out, low_free, high_free)

-- all lie inside
none_out : (low high : ℤ) (i : ℕ) (xs : List ℤ) → list_all (λ x. int_le low x && int_le x high) xs ≡ true → position_from (is_out low high) i xs ≡ None
none_out low high i [] all = refl
none_out low high i (x ∷ xs) all =
    let two = both_true (int_le low x && int_le x high) _ all in
    rw two.0 (none_out low high (i + 1) xs two.1)

pub all_span : (low high : ℤ) (xs : List ℤ) → list_any (λ x. int_le x low) xs ≡ true → list_any (λ x. int_le high x) xs ≡ true → list_all (λ x. int_le low x && int_le x high) xs ≡ true → first_out low high xs ≡ None
all_span low high xs a b all = filled_out low high xs a b ∙ none_out low high 0 xs all

-- ---- the answer

pub coords_whole : (ty : ValType) (low high : ℤ) (count : ℕ) (bytes : List ℕ) (xs : List ℤ) → ints_in (width_of ty) (is_signed ty) count bytes ≡ Ok xs → first_out low high xs ≡ None → coords_in ty low high count bytes ≡ Ok xs
unfolding coords_in
coords_whole ty low high count bytes xs is none = rw (is, none) refl

pub coords_off : (ty : ValType) (low high : ℤ) (count : ℕ) (bytes : List ℕ) (xs : List ℤ) (i : ℕ) → ints_in (width_of ty) (is_signed ty) count bytes ≡ Ok xs → first_out low high xs ≡ Some i → coords_in ty low high count bytes ≡ Err (i * width_of ty)
unfolding coords_in
coords_off ty low high count bytes xs i is some = rw (is, some) refl

pub coords_cut : (ty : ValType) (low high : ℤ) (count : ℕ) (bytes : List ℕ) (at : ℕ) → ints_in (width_of ty) (is_signed ty) count bytes ≡ Err at → coords_in ty low high count bytes ≡ Err at
unfolding coords_in
coords_cut ty low high count bytes at is = rw is refl

pub ruleset answers = (coords_whole, coords_off, coords_cut)

-- the offset of a coordinate is one in the bytes
pub place_room : (ty : ValType) (low high : ℤ) (count : ℕ) (bytes : List ℕ) (xs : List ℤ) (i : ℕ) → is_integer ty ≡ true → IsBytes bytes → ints_in (width_of ty) (is_signed ty) count bytes ≡ Ok xs → first_out low high xs ≡ Some i
    → i * width_of ty ≤ length bytes
unfolding ints_in first_out int_bytes
place_room ty low high count bytes xs i is all found some =
    let w = widths ty is in
    let was = whole_found (ints_exact (width_of ty) (is_signed ty) count w.0 w.1) (place bytes 0) xs all found in
    let long : length bytes ≡ length xs * width_of ty = ap length was.0 ∙ length-cells (int_bytes (width_of ty)) (width_of ty) (λ z. length-number_bytes (width_of ty) _) xs in
    go (is_filled low high xs) some long
  where
    go : (b : Bool) → (if b then position_from (is_out low high) 0 xs else Some 0) ≡ Some i → length bytes ≡ length xs * width_of ty → i * width_of ty ≤ length bytes
    go true h long =
        let inside : i ≤ length xs = omega (arith, from_within (is_out low high) xs 0 i h) in
        omega (arith, long, mul-le-mul_right (width_of ty) inside)
    go false h long = let none : i ≡ 0 = cc in rw none (omega arith)

-- what was decoded was spelled so
pub decoded_spelled : (ty : ValType) (low high : ℤ) (count : ℕ) (bytes : List ℕ) (result : Result (List ℤ) ReadFault) → is_integer ty ≡ true → IsBytes bytes → DecodesOr (λ coords. coords) (coords_in ty low high count bytes) result
    → IfOk result (AreCoords ty low high count bytes)
unfolding coords_in ints_in
decoded_spelled ty low high count bytes (Ok xs) is all found =
    let b = bound (ints_in (width_of ty) (is_signed ty) count bytes) (λ ys. unless_at (width_of ty) ys (first_out low high ys)) xs found in
    let w = widths ty is in
    let was = whole_found (ints_exact (width_of ty) (is_signed ty) count w.0 w.1) (place bytes 0) b.first all b.was in
    let kept = go b.first (first_out low high b.first) refl b.next in
    let P : List ℤ → Type 0 = λ ys. AreCoords ty low high count bytes ys in
    subst P kept.0 (record { spelled = was.0; many = was.1.0; spans = kept.1 })
  where
    go : (ys : List ℤ) (o : Option ℕ) → first_out low high ys ≡ o → unless_at (width_of ty) ys o ≡ Ok xs → (ys ≡ xs) × (first_out low high ys ≡ None)
    go ys None is h = let same : ys ≡ xs = cc in (same, is)
    go ys (Some i) is h = absurd (cc)
decoded_spelled ty low high count bytes (Err e) is all found = tt
