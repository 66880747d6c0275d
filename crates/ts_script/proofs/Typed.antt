-- What the types of read values ensure.
use Rattle.std.proofs.Common.{◌≡◌, ℕ, zero, suc, ◌<◌, ◌^◌, List, [], ◌∷◌, ◌++◌, length, Bool, true, false, cond, Some, None, get_or, nat_lt, refl, subst, arith}
use Rattle.std.specs.Prelude.{◌&&◌}
use Rattle.std.specs.List.{list_all}
use Rattle.std.proofs.lemmas.Bool.{and_parts, and_from, lt-ltb}
use Rattle.ts_base.specs.declared.values.ValType.{ValType}
use Rattle.ts_base.specs.declared.values.ValType.TheVariants.{I8, I16, I32, I64, U8, U16, U32, U64, Text, Blob}
use Rattle.ts_base.specs.Labels.{is_label, label_of}
use Rattle.ts_value.specs.Fill.{fill_of}
use Rattle.ts_model.specs.declared.commands.ColIn.{ColIn}
use Rattle.ts_model.specs.Commands.{is_byte, is_spelled_col, is_spelled_val, is_text}
use Rattle.ts_script.specs.Typed.{has_value, is_typed_col}

-- one more item
pub one_more : {A : Type 0} (test : A → Bool) (xs : List A) (x : A) → list_all test xs ≡ true → test x ≡ true → list_all test (xs ++ x ∷ []) ≡ true
one_more test [] x all is = and_from (test x) true is refl
one_more test (y ∷ ys) x all is =
    let parts = and_parts (test y) (list_all test ys) all in and_from (test y) (list_all test (ys ++ x ∷ [])) parts.0 (one_more test ys x parts.1 is)

label_by : (text label : List ℕ) (b : Bool) → is_label text ≡ b → cond b (Some text) None ≡ Some label → is_label label ≡ true
label_by text label true is e = let same : text ≡ label = cc in subst (λ t. is_label t ≡ true) same is
label_by text label false is e = cc

-- what was read as a label is one
pub label_typed : (text label : List ℕ) → label_of text ≡ Some label → is_label label ≡ true
label_typed text label e = label_by text label (is_label text) refl e

-- a default fill has a spelling
pub fill_typed : (ty : ValType) (nullable : Bool) → is_spelled_val (fill_of ty nullable) ≡ true
fill_typed I8 false = refl
fill_typed I16 false = refl
fill_typed I32 false = refl
fill_typed I64 false = refl
fill_typed U8 false = refl
fill_typed U16 false = refl
fill_typed U32 false = refl
fill_typed U64 false = refl
fill_typed Text false = refl
fill_typed Blob false = refl
fill_typed ty true = refl

are_bytes : (bytes : List ℕ) → ((i : ℕ) → get_or bytes i 0 < 2 ^ 8) → list_all is_byte bytes ≡ true
are_bytes [] each = refl
are_bytes (b ∷ bs) each = and_from (is_byte b) (list_all is_byte bs) (lt-ltb b 256 (omega (arith, each zero))) (are_bytes bs (λ i. each (suc i)))

-- bytes of which there are few enough are a text
pub text_typed : (bytes : List ℕ) → length bytes < 2 ^ 64 → ((i : ℕ) → get_or bytes i 0 < 2 ^ 8) → is_text bytes ≡ true
text_typed bytes few each = and_from (nat_lt (length bytes) (2 ^ 64)) (list_all is_byte bytes) (lt-ltb (length bytes) (2 ^ 64) few) (are_bytes bytes each)

column_by : (c : ColIn) → is_typed_col c ≡ true → is_spelled_col c ≡ has_value c
column_by c is =
    let parts = and_parts (is_label c.name) (nat_lt (length c.values) (2 ^ 64) && list_all is_spelled_val c.values) is in
    let more = and_parts (nat_lt (length c.values) (2 ^ 64)) (list_all is_spelled_val c.values) parts.1 in
    by (has_value c) parts.0 more.0 more.1
  where
    by : (b : Bool) → is_label c.name ≡ true → nat_lt (length c.values) (2 ^ 64) ≡ true → list_all is_spelled_val c.values ≡ true → (is_label c.name && (b && (nat_lt (length c.values) (2 ^ 64) && list_all is_spelled_val c.values))) ≡ b
    by true label few all = rw (label, few, all) refl
    by false label few all = rw label refl

-- columns whose types are right lack nothing but that each has a value
pub columns_by_values : (cols : List ColIn) → list_all is_typed_col cols ≡ true → list_all is_spelled_col cols ≡ list_all has_value cols
columns_by_values [] is = refl
columns_by_values (c ∷ cols) is =
    let parts = and_parts (is_typed_col c) (list_all is_typed_col cols) is in
    rw (column_by c parts.0, columns_by_values cols parts.1) refl
