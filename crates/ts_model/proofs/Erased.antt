-- Cells that are erased: the values that a condition sees in a row, and one deed more that may erase.
use Rattle.std.proofs.Common.{◌≡◌, ◌≤◌, ◌<◌, ◌+◌, ℕ, ℤ, zero, suc, Bool, true, false, ◌&&◌, ◌||◌, if◌then◌else◌, List, [], ◌∷◌, map, length, drop, get_or, Option, Some, None, refl, sym, arith, inl, inr, ◌⊎◌, ap, ◌∙◌}
use Rattle.std.specs.Prelude.{min, nat_le}
use Rattle.std.proofs.lemmas.Bool.{leb-true}
use Rattle.std.proofs.lemmas.List.{drop_all, drop_more}
use Rattle.ts_base.specs.declared.values.Val.{Val}
use Rattle.ts_base.specs.Keys.{is_within}
use Rattle.ts_cond.specs.declared.fields.CondField.{CondField}
use Rattle.ts_cond.specs.Holds.{holds}
use Rattle.ts_cond.specs.Tests.{Condition}
use Rattle.ts_cond.specs.Picks.{is_same_field, value_under, value_by, field_value, picked, picked_value, matches}
use Rattle.ts_schema.specs.declared.attrs.Attr.{Attr}
use Rattle.ts_model.specs.declared.deeds.Written.{Written}
use Rattle.ts_model.specs.declared.deeds.Deed.{Deed}
use Rattle.ts_model.specs.declared.deeds.Deed.TheVariants.{Framed, Declared, Wrote, Erased}
use Rattle.ts_model.specs.Answers.{erases_cell}
use Rattle.ts_model.specs.Queries.{attr_field, attr_fields}
use Rattle.ts_model.specs.Scans.{erased_under, pick_from, pick_at}

-- ---- the value of a field in a row

no_value : (field : CondField) (attrs : List CondField) → value_under field attrs [] ≡ field.fill
no_value field [] = refl
no_value field (a ∷ attrs) = refl

value_none : (place : ℕ) (field : CondField) (attrs : List CondField) (row : List Val) → length row ≤ place → value_under field attrs (drop place row) ≡ field.fill
value_none place field attrs row all = ap (value_under field attrs) (drop_all place row all) ∙ no_value field attrs

-- the next attribute and value, where there are both
next : (place : ℕ) (field : CondField) (attrs : List Attr) (row : List Val) (a : Attr) (val : Val) → place < length attrs → place < length row → a ≡ get_or attrs place a
    → value_under field (attr_fields (drop place attrs)) (drop place row)
    ≡ (if is_same_field field (attr_field a) then get_or row place val else value_under field (attr_fields (drop (place + 1) attrs)) (drop (place + 1) row))
next place field attrs row a val few short is =
    ap (λ xs. value_under field (attr_fields xs) (drop place row)) (drop_more attrs place a few ∙ ap (λ b. b ∷ drop (place + 1) attrs) (sym is))
    ∙ ap (value_under field (attr_fields (a ∷ drop (place + 1) attrs))) (drop_more row place val short)

pub value_on : (place : ℕ) (field : CondField) (attrs : List Attr) (row : List Val) (a : Attr) (all : Val) → place < length attrs → place < length row → a ≡ get_or attrs place a
    → is_same_field field (attr_field a) ≡ false → value_under field (attr_fields (drop place attrs)) (drop place row) ≡ all → value_under field (attr_fields (drop (place + 1) attrs)) (drop (place + 1) row) ≡ all
value_on place field attrs row a all few short is other was =
    sym (next place field attrs row a all few short is ∙ ap (λ b. if b then get_or row place all else value_under field (attr_fields (drop (place + 1) attrs)) (drop (place + 1) row)) other) ∙ was

pub value_here : (place : ℕ) (field : CondField) (attrs : List Attr) (row : List Val) (a : Attr) (val : Val) (all : Val) → place < length attrs → place < length row → a ≡ get_or attrs place a
    → val ≡ get_or row place val → is_same_field field (attr_field a) ≡ true → value_under field (attr_fields (drop place attrs)) (drop place row) ≡ all → val ≡ all
value_here place field attrs row a val all few short is val_is same was =
    val_is ∙ sym (next place field attrs row a val few short is ∙ ap (λ b. if b then get_or row place val else value_under field (attr_fields (drop (place + 1) attrs)) (drop (place + 1) row)) same) ∙ was

-- the shorter list ends there, so one of the two does
one_ends : (m n place : ℕ) → min m n ≤ place → (m ≤ place) ⊎ (n ≤ place)
one_ends m n place over = by_test (nat_le m place) refl
  where
    by_test : (test : Bool) → nat_le m place ≡ test → (m ≤ place) ⊎ (n ≤ place)
    by_test true is = inl (leb-true m place is)
    by_test false is = inr (grind (arith, is, over))

pub value_end : (place : ℕ) (field : CondField) (attrs : List Attr) (row : List Val) (all : Val) → min (length attrs) (length row) ≤ place → value_under field (attr_fields (drop place attrs)) (drop place row) ≡ all → field.fill ≡ all
value_end place field attrs row all over was = elim (one_ends (length attrs) (length row) place over) [
  | inl ends ↦ sym (ap (λ xs. value_under field (attr_fields xs) (drop place row)) (drop_all place attrs ends)) ∙ was
  | inr ends ↦ sym (value_none place field (attr_fields (drop place attrs)) row ends) ∙ was
]

-- ---- what a condition sees

picked_there : (dim : Option ℕ) (field : CondField) (c : List ℤ) (attrs : List CondField) (row : List Val) → picked (pick_from dim (value_under field attrs row)) field c row ≡ value_by dim field c attrs row
picked_there (Some dim) field c attrs row = refl
picked_there None field c attrs row = refl

value_is_picked : (attrs : List Attr) (fields : List CondField) (c : List ℤ) (row : List Val) (n : ℕ)
    → picked_value (map (pick_at attrs row) fields) fields c row n ≡ field_value fields c (attr_fields attrs) row n
value_is_picked attrs [] c row n = refl
value_is_picked attrs (field ∷ fields) c row zero = picked_there field.dim field c (attr_fields attrs) row
value_is_picked attrs (field ∷ fields) c row (suc n) = value_is_picked attrs fields c row n

-- the condition matches, whose values are told
pub matches_told : (attrs : List Attr) (condition : Condition) (c : List ℤ) (row : List Val)
    → holds (picked_value (map (pick_at attrs row) condition.fields) condition.fields c row) condition.root ≡ matches condition c (attr_fields attrs) row
matches_told attrs condition c row = λ i. holds (λ n. value_is_picked attrs condition.fields c row n i) condition.root

-- ---- deeds that erase

-- one deed and others
pub erased-cons : (attrs : List Attr) (a b : ℕ) (c : List ℤ) (w : Written) (row : List Val) (d : Deed) (ds : List Deed)
    → erased_under attrs a b c w row (d ∷ ds) ≡ (erased_under attrs a b c w row (d ∷ []) || erased_under attrs a b c w row ds)
erased-cons attrs a b c w row (Framed frame) ds = refl
erased-cons attrs a b c w row (Declared s) ds = refl
erased-cons attrs a b c w row (Wrote v) ds = refl
erased-cons attrs a b c w row (Erased e) ds = by_test (is_within a b e.key && erases_cell w attrs c row e) (erased_under attrs a b c w row ds)
  where
    by_test : (t u : Bool) → (t || u) ≡ ((t || false) || u)
    by_test true u = refl
    by_test false u = refl
