-- What the tests of a command's values and names show.
use Rattle.std.proofs.Common.{◌≡◌, ℕ, zero, suc, ◌^◌, ℤ, pos, negsuc, Bool, true, false, cond, List, [], ◌∷◌, length, Option, Some, None, refl, arith}
use Rattle.std.specs.Prelude.{neg_ℤ, int_le, int_lt, nat_lt, option_map}
use Rattle.std.specs.List.{All, list_all}
use Rattle.std.specs.Option.{option_or}
use Rattle.std.proofs.lemmas.Int.{ints}
use Rattle.std.proofs.lemmas.Bool.{and_parts, ltb-true}
use Rattle.std.proofs.lemmas.List.Elements.{All-nil, All-cons}
use Rattle.ts_base.specs.declared.values.Val.{Val}
use Rattle.ts_base.specs.declared.values.Val.TheVariants.{Int, Bytes, Null}
use Rattle.ts_wire.specs.Exact.{IsBytes}
use Rattle.ts_wire.specs.Numbers.{FitsInt}
use Rattle.ts_wire.specs.Fields.{FitsVal}
use Rattle.ts_model.specs.Commands.{is_byte, is_spelled_val}

-- each item of a list that passes a test has what the test shows
pub all_tested : {A : Type 0} (P : A → Type 0) (test : A → Bool) → ((x : A) → test x ≡ true → P x) → (xs : List A) → list_all test xs ≡ true → All P xs
all_tested P test shows [] h = All-nil P
all_tested P test shows (x ∷ xs) h =
    let parts = and_parts (test x) (list_all test xs) h in All-cons P x xs (shows x parts.0) (all_tested P test shows xs parts.1)

-- of two options neither is there where the first of them is not
pub neither : {A : Type 0} (a b : Option A) → option_or a b ≡ None → (a ≡ None) × (b ≡ None)
neither None b e = (refl, e)
neither (Some x) b e = cc

-- where nothing is made of an option, nothing was there
pub none_before : {A B : Type 0} (f : A → B) (o : Option A) → option_map f o ≡ None → o ≡ None
none_before f None e = refl
none_before f (Some x) e = cc

-- where a choice gives nothing, its test failed, and the other part gives nothing
pub no_fault : {A : Type 0} (b : Bool) (x : A) (rest : Option A) → cond b (Some x) rest ≡ None → (b ≡ false) × (rest ≡ None)
no_fault true x rest e = cc
no_fault false x rest e = (refl, e)

-- numbers that pass the test of a byte are bytes
pub bytes_tested : (bs : List ℕ) → list_all is_byte bs ≡ true → IsBytes bs
bytes_tested [] h i = omega arith
bytes_tested (b ∷ bs) h zero = ltb-true b 256 (and_parts (is_byte b) (list_all is_byte bs) h).0
bytes_tested (b ∷ bs) h (suc i) = bytes_tested bs (and_parts (is_byte b) (list_all is_byte bs) h).1 i

-- an integer with a spelling fits its 16 bytes
int_fits : (z : ℤ) → int_le (neg_ℤ (pos (2 ^ 127))) z ≡ true → int_lt z (pos (2 ^ 127)) ≡ true → FitsInt 16 true z
int_fits (pos a) low high = omega (arith, ints, high)
int_fits (negsuc a) low high = omega (arith, ints, low)

-- a value with a spelling fits its field
pub spelled_fits : (v : Val) → is_spelled_val v ≡ true → FitsVal v
spelled_fits Null h = tt
spelled_fits (Int z) h = let parts = and_parts (int_le (neg_ℤ (pos (2 ^ 127))) z) (int_lt z (pos (2 ^ 127))) h in int_fits z parts.0 parts.1
spelled_fits (Bytes bytes) h =
    let parts = and_parts (nat_lt (length bytes) (2 ^ 64)) (list_all is_byte bytes) h in
    let few = ltb-true (length bytes) (2 ^ 64) parts.0 in
    (omega (arith, few), bytes_tested bytes parts.1)
