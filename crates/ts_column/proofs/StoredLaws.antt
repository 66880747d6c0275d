-- Stored values, and the marks beside them.
use Rattle.std.proofs.Common.{◌≡◌, ℕ, zero, suc, ◌+◌, ◌<◌, true, false, ℤ, pos, List, [], ◌∷◌, ◌++◌, length, nat_eq, nat_lt, map, get_or, Ok, Err, refl, sym, ap, ◌∙◌, arith, length-append, append_assoc}
use Rattle.std.specs.Prelude.{replicate}
use Rattle.std.specs.List.{list_all}
use Rattle.std.proofs.lemmas.Bool.{le-ltb, eqb-true}
use Rattle.std.proofs.lemmas.List.{length-map}
use Rattle.ts_base.specs.declared.values.Val.{Val}
use Rattle.ts_base.specs.declared.values.Val.TheVariants.{Null, Int, Bytes}
use Rattle.ts_wire.specs.Place.{Place, place, each_at}
use Rattle.ts_wire.specs.Numbers.{number_at as field_at}
use Rattle.ts_wire.specs.Fields.{bool_at}
use Rattle.ts_table.specs.declared.kinds.Kind.{Kind}
use Rattle.ts_table.specs.declared.kinds.Kind.TheVariants as kind
use Rattle.ts_table.specs.Columns.{val_of, vals_from}
use Rattle.ts_table.proofs.Columns.{vals_more}
use Rattle.ts_column.specs.declared.stored.Stored.{Stored}
use Rattle.ts_column.specs.declared.stored.Stored.TheVariants.{Numbers, Texts}
use Rattle.ts_column.specs.Stored.{stored_vals, kinds_vals, kind_of, kind_val}
use Rattle.ts_column.specs.Tiles.{is_blank, is_there, cell_at, cells_in}
use Rattle.ts_column.proofs.BulkLaws.{both_true}

pub count_numbers : (numbers : List ℤ) → length (map Int numbers) ≡ length numbers
count_numbers numbers = length-map numbers Int

pub count_texts : (texts : List (List ℕ)) → length (map Bytes texts) ≡ length texts
count_texts texts = length-map texts Bytes

pub ruleset lengths = (count_numbers, count_texts)

-- the value at a place
pub number_at : (numbers : List ℤ) (i : ℕ) → i < length (map Int numbers) → get_or (map Int numbers) i Null ≡ Int (get_or numbers i (pos 0))
number_at [] i within = absurd (omega (arith, within))
number_at (z ∷ numbers) zero within = refl
number_at (z ∷ numbers) (suc i) within = number_at numbers i (omega (arith, within))

pub text_at : (texts : List (List ℕ)) (i : ℕ) → i < length (map Bytes texts) → get_or (map Bytes texts) i Null ≡ Bytes (get_or texts i [])
text_at [] i within = absurd (omega (arith, within))
text_at (t ∷ texts) zero within = refl
text_at (t ∷ texts) (suc i) within = text_at texts i (omega (arith, within))

pub ruleset blanks = (number_at, text_at)

-- the value at a place by its kind
kind_there : (stored : Stored) (i : ℕ) → i < length (stored_vals stored) → (kind_val stored (kind_of stored) i ≡ get_or (stored_vals stored) i Null) × (is_there (get_or (stored_vals stored) i Null) ≡ true)
kind_there (Numbers numbers) i within = let is = number_at numbers i within in (sym is, ap is_there is)
kind_there (Texts texts) i within = let is = text_at texts i within in (sym is, ap is_there is)

kind_null : (stored : Stored) (i : ℕ) → kind_val stored kind.Null i ≡ Null
kind_null (Numbers numbers) i = refl
kind_null (Texts texts) i = refl

-- a mark that was read
pub mark_there : (stored : Stored) (i : ℕ) (p q : Place) → i < length (stored_vals stored) → bool_at p ≡ Ok (true, q) → cell_at (get_or (stored_vals stored) i Null) p ≡ Ok (kind_val stored (kind_of stored) i, q)
unfolding cell_at
mark_there stored i p q within read =
    let val = kind_there stored i within in
    rw (read, val.1) (ap (λ v. Ok (v, q)) (sym val.0))

pub mark_null : (stored : Stored) (i : ℕ) (p q : Place) → is_blank (get_or (stored_vals stored) i Null) ≡ true → bool_at p ≡ Ok (false, q) → cell_at (get_or (stored_vals stored) i Null) p ≡ Ok (kind_val stored kind.Null i, q)
unfolding cell_at
mark_null stored i p q blank read = rw (read, blank) (ap (λ v. Ok (v, q)) (sym (kind_null stored i)))

pub mark_wrong : (stored : Stored) (i : ℕ) (p q : Place) → is_blank (get_or (stored_vals stored) i Null) ≡ false → bool_at p ≡ Ok (false, q) → cell_at (get_or (stored_vals stored) i Null) p ≡ Err p.at
unfolding cell_at
mark_wrong stored i p q blank read = rw (read, blank) refl

pub mark_broken : (val : Val) (p : Place) (at : ℕ) → bool_at p ≡ Err at → cell_at val p ≡ Err at
unfolding cell_at
mark_broken val p at read = rw read refl

pub ruleset marks = (mark_there, mark_null, mark_wrong, mark_broken)

-- one kind more
pub kinds_more : (stored : Stored) (kinds : List Kind) (k : Kind) (i : ℕ) → i ≡ length kinds → kinds_vals stored (kinds ++ k ∷ []) ≡ kinds_vals stored kinds ++ kind_val stored k i ∷ []
kinds_more (Numbers numbers) kinds k i count = rw count (vals_more numbers [] 0 kinds k ∙ ap (λ j. vals_from numbers [] 0 kinds ++ val_of k (get_or numbers j (pos 0)) [] ∷ []) (omega arith))
kinds_more (Texts texts) kinds k i count = rw count (vals_more [] texts 0 kinds k ∙ ap (λ j. vals_from [] texts 0 kinds ++ val_of k (pos 0) (get_or texts j []) ∷ []) (omega arith))

at_seam : {A : Type 0} (front : List A) (x : A) (xs : List A) (d : A) → get_or (front ++ x ∷ xs) (length front) d ≡ x
at_seam [] x xs d = refl
at_seam (y ∷ front) x xs d = at_seam front x xs d

-- all values are there
all_numbers : (front numbers : List ℤ) → vals_from (front ++ numbers) [] (length front) (replicate (length numbers) kind.Number) ≡ map Int numbers
all_numbers front [] = refl
all_numbers front (z ∷ numbers) =
    let rest = all_numbers (front ++ z ∷ []) numbers in
    let long : length (front ++ z ∷ []) ≡ suc (length front) = length-append front (z ∷ []) ∙ omega arith in
    let same : vals_from (front ++ z ∷ numbers) [] (suc (length front)) (replicate (length numbers) kind.Number) ≡ map Int numbers =
    ap (λ n. vals_from (front ++ z ∷ numbers) [] n (replicate (length numbers) kind.Number)) (sym long)
    ∙ ap (λ zs. vals_from zs [] (length (front ++ z ∷ [])) (replicate (length numbers) kind.Number)) (sym (append_assoc front (z ∷ []) numbers)) ∙ rest in
    ap (λ y. Int y ∷ vals_from (front ++ z ∷ numbers) [] (suc (length front)) (replicate (length numbers) kind.Number)) (at_seam front z numbers (pos 0)) ∙ ap (λ vals. Int z ∷ vals) same

all_texts : (front texts : List (List ℕ)) → vals_from [] (front ++ texts) (length front) (replicate (length texts) kind.Text) ≡ map Bytes texts
all_texts front [] = refl
all_texts front (t ∷ texts) =
    let rest = all_texts (front ++ t ∷ []) texts in
    let long : length (front ++ t ∷ []) ≡ suc (length front) = length-append front (t ∷ []) ∙ omega arith in
    let same : vals_from [] (front ++ t ∷ texts) (suc (length front)) (replicate (length texts) kind.Text) ≡ map Bytes texts =
    ap (λ n. vals_from [] (front ++ t ∷ texts) n (replicate (length texts) kind.Text)) (sym long)
    ∙ ap (λ ts. vals_from [] ts (length (front ++ t ∷ [])) (replicate (length texts) kind.Text)) (sym (append_assoc front (t ∷ []) texts)) ∙ rest in
    ap (λ y. Bytes y ∷ vals_from [] (front ++ t ∷ texts) (suc (length front)) (replicate (length texts) kind.Text)) (at_seam front t texts []) ∙ ap (λ vals. Bytes t ∷ vals) same

pub all_kinds : (stored : Stored) (n : ℕ) → n ≡ length (stored_vals stored) → kinds_vals stored (replicate n (kind_of stored)) ≡ stored_vals stored
all_kinds (Numbers numbers) n count = rw (count, count_numbers numbers) (all_numbers [] numbers)
all_kinds (Texts texts) n count = rw (count, count_texts texts) (all_texts [] texts)

-- ---- marks that all say that a value is there

bool_one : (bytes : List ℕ) (at : ℕ) → bool_at (place (1 ∷ bytes) at) ≡ Ok (true, place bytes (at + 1))
unfolding bool_at field_at
bool_one bytes at = let is : nat_lt (length (1 ∷ bytes)) 1 ≡ false = le-ltb (length (1 ∷ bytes)) 1 (omega arith) in rw is refl

one_there : (v : Val) (bytes : List ℕ) (at : ℕ) → is_there v ≡ true → cell_at v (place (1 ∷ bytes) at) ≡ Ok (v, place bytes (at + 1))
unfolding cell_at
one_there v bytes at is = rw (bool_one bytes at, is) refl

each_there : (vals : List Val) (bytes : List ℕ) (at : ℕ) → list_all is_there vals ≡ true → length bytes ≡ length vals → list_all (λ b. nat_eq b 1) bytes ≡ true
    → each_at cell_at vals (place bytes at) ≡ Ok (vals, place [] (at + length vals))
unfolding each_at
each_there [] [] at there long ones = ap (λ i. Ok ([], place [] i)) (omega arith)
each_there [] (b ∷ bytes) at there long ones = absurd (omega (arith, long))
each_there (v ∷ vals) [] at there long ones = absurd (omega (arith, long))
each_there (v ∷ vals) (b ∷ bytes) at there long ones =
    let here = both_true (is_there v) _ there in
    let one = both_true (nat_eq b 1) _ ones in
    let is : b ≡ 1 = eqb-true b 1 one.0 in
    rw (is, one_there v bytes at here.0, each_there vals bytes (at + 1) here.1 (omega (arith, long)) one.1) (ap (λ i. Ok (v ∷ vals, place [] i)) (omega arith))

all_there : (stored : Stored) → list_all is_there (stored_vals stored) ≡ true
all_there (Numbers numbers) = ints numbers
  where
    ints : (numbers : List ℤ) → list_all is_there (map Int numbers) ≡ true
    ints [] = refl
    ints (z ∷ numbers) = ints numbers
all_there (Texts texts) = lists texts
  where
    lists : (texts : List (List ℕ)) → list_all is_there (map Bytes texts) ≡ true
    lists [] = refl
    lists (t ∷ texts) = lists texts

pub all_marked : (stored : Stored) (bytes : List ℕ) → length bytes ≡ length (stored_vals stored) → list_all (λ b. nat_eq b 1) bytes ≡ true
    → cells_in true (stored_vals stored) bytes ≡ Ok (kinds_vals stored (replicate (length (stored_vals stored)) (kind_of stored)))
all_marked stored bytes long ones = rw (each_there (stored_vals stored) bytes 0 (all_there stored) long ones) (ap Ok (sym (all_kinds stored (length (stored_vals stored)) refl)))
