-- The text of a number, by its sign.
use Rattle.std.proofs.Common.{◌≡◌, ℕ, zero, suc, ℤ, pos, ◌<◌, List, Bool, true, false, drop, get_or, ◌==◌, sym, Option, Some, None, option_and_then, refl, arith}
use Rattle.std.specs.Prelude.{◌&&◌, IfSome, nat_lt, nat_le, ◌^◌}
use Rattle.std.specs.Float.{binary64, float_is_finite}
use Rattle.std.proofs.lemmas.Bool.{and_parts, ltb-true}
use Rattle.fast_float.specs.Text.{Parts, scan, digits_of, nearest, with_sign}
use Rattle.serde_json.specs.Data.{Num, negative}
use Rattle.serde_json.specs.Find.{as_integer, of_integer}
use Rattle.serde_json.specs.Read.{is_integer, number_of, number_from, float_of}

pub number_of-below : (text : List ℕ) → (get_or text 0 0 == 45) ≡ true → number_of text ≡ number_from true (scan (drop 1 text))
unfolding number_of
number_of-below text e = rw e

pub number_of-above : (text : List ℕ) → (get_or text 0 0 == 45) ≡ false → number_of text ≡ number_from false (scan text)
unfolding number_of
number_of-above text e = rw e

no_float_by : (sign : Bool) (p : Parts) (z : ℤ) (finite : Bool) → float_is_finite (nearest binary64 sign p) ≡ finite → option_and_then as_integer (float_of sign p) ≡ Some z → ⊥
no_float_by sign p z true is e = let none = rw is at e in cc
no_float_by sign p z false is e = let none = rw is at e in cc

no_float : (sign : Bool) (p : Parts) (z : ℤ) → option_and_then as_integer (float_of sign p) ≡ Some z → ⊥
no_float sign p z e = no_float_by sign p z (float_is_finite (nearest binary64 sign p)) refl e

above_by : (p : Parts) (z : ℤ) (whole : Bool) → (is_integer p && nat_lt (digits_of p) (2 ^ 64)) ≡ whole → option_and_then as_integer (number_from false p) ≡ Some z → number_from false p ≡ Some (of_integer z)
above_by p z true is e =
    let found = rw is at e in
    let same : pos (digits_of p) ≡ z = cc in
    rw (is, ← same)
above_by p z false is e = absurd (no_float false p z (rw is at e))

below_zero : (n : ℕ) → 0 < n → negative (with_sign true n) ≡ of_integer (with_sign true n)
below_zero zero some = absurd (omega arith)
below_zero (suc n) some = refl

below_by : (p : Parts) (z : ℤ) (whole : Bool) → (is_integer p && nat_lt 0 (digits_of p) && nat_le (digits_of p) (2 ^ 63)) ≡ whole → option_and_then as_integer (number_from true p) ≡ Some z
    → number_from true p ≡ Some (of_integer z)
below_by p z true is e =
    let found = rw is at e in
    let same : with_sign true (digits_of p) ≡ z = cc in
    let parts = and_parts (is_integer p && nat_lt 0 (digits_of p)) _ is in
    let some : 0 < digits_of p = ltb-true 0 (digits_of p) (and_parts (is_integer p) _ parts.0).1 in
    rw (is, ← same, below_zero (digits_of p) some)
below_by p z false is e = absurd (no_float true p z (rw is at e))

whole_by : (text : List ℕ) (z : ℤ) (minus : Bool) → (get_or text 0 0 == 45) ≡ minus → option_and_then as_integer (number_of text) ≡ Some z → number_of text ≡ Some (of_integer z)
unfolding number_of
whole_by text z true is e = rw is (below_by (scan (drop 1 text)) z _ refl (rw is at e))
whole_by text z false is e = rw is (above_by (scan text) z _ refl (rw is at e))

-- a number that is whole is the one of that integer
pub number_of-whole : (text : List ℕ) (z : ℤ) → option_and_then as_integer (number_of text) ≡ Some z → number_of text ≡ Some (of_integer z)
number_of-whole text z e = whole_by text z _ refl e

-- the whole number that a number is
pub whole_seen : (text : List ℕ) (n : Num) (found : Option ℤ) → Some n ≡ number_of text → found ≡ as_integer n → IfSome found (λ z. number_of text ≡ Some (of_integer z))
whole_seen text n None was is = tt
whole_seen text n (Some z) was is = number_of-whole text z (rw (← was) (sym is))
