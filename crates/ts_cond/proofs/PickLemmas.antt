-- What the picks find is what the condition's fields have.
use Rattle.std.proofs.Common.{◌≡◌, refl, ap, ◌∙◌, ℕ, zero, suc, ◌+◌, ℤ, Bool, true, false, if◌then◌else◌, List, [], ◌∷◌, Option, Some, None, slice_get, arith}
use Rattle.ts_base.specs.declared.values.Val.{Val}
use Rattle.ts_cond.specs.declared.fields.CondField.{CondField}
use Rattle.ts_cond.specs.Tests.{Test}
use Rattle.ts_cond.specs.Holds.{holds}
use Rattle.ts_cond.specs.Picks.{is_same_field, value_under, value_by, field_value, place_from, place_or_fill, pick_by, picks_of, val_or, picked, picked_value}

-- the value at the place that is found, or else the fill
abbrev at_place : Option ℕ → CondField → List Val → Val
at_place (Some place) field row = val_or (slice_get row place) field.fill
at_place None field row = field.fill

-- two choices by one test are equal where both their parts are
chosen : {A B C : Type 0} (f : A → C) (g : B → C) (b : Bool) (x y : A) (u v : B) → f x ≡ g u → f y ≡ g v → f (if b then x else y) ≡ g (if b then u else v)
chosen f g true x y u v first second = first
chosen f g false x y u v first second = second

-- a list one shorter, and places one less
step_back : (field : CondField) (attrs : List CondField) (val : Val) (row : List Val) (place : ℕ)
    → at_place (place_from field (suc place) attrs) field (val ∷ row) ≡ at_place (place_from field place attrs) field row
step_back field [] val row place = refl
step_back field (attr ∷ attrs) val row place =
    let next : suc place + 1 ≡ suc (place + 1) = omega arith in
    chosen (λ found. at_place found field (val ∷ row)) (λ found. at_place found field row) (is_same_field field attr) (Some (suc place)) (place_from field (suc place + 1) attrs) (Some place) (place_from field (place + 1) attrs) refl
    (ap (λ n. at_place (place_from field n attrs) field (val ∷ row)) next ∙ step_back field attrs val row (place + 1))

-- in an empty row nothing is found
none_found : (field : CondField) (attrs : List CondField) (place : ℕ) → at_place (place_from field place attrs) field [] ≡ field.fill
none_found field [] place = refl
none_found field (attr ∷ attrs) place =
    chosen (λ found. at_place found field []) (λ _. field.fill) (is_same_field field attr) _ _ place place refl (none_found field attrs (place + 1))

found : (field : CondField) (attrs : List CondField) (row : List Val) → at_place (place_from field 0 attrs) field row ≡ value_under field attrs row
found field [] row = refl
found field (attr ∷ attrs) [] = none_found field (attr ∷ attrs) 0
found field (attr ∷ attrs) (val ∷ row) =
    chosen (λ found. at_place found field (val ∷ row)) (λ found. found) (is_same_field field attr) _ _ _ _ refl (step_back field attrs val row 0 ∙ found field attrs row)

placed : (place : Option ℕ) (field : CondField) (coords : List ℤ) (row : List Val) → picked (place_or_fill place field) field coords row ≡ at_place place field row
placed (Some place) field coords row = refl
placed None field coords row = refl

picked_by_dim : (dim : Option ℕ) (field : CondField) (coords : List ℤ) (attrs : List CondField) (row : List Val)
    → picked (pick_by dim field attrs) field coords row ≡ value_by dim field coords attrs row
picked_by_dim (Some dim) field coords attrs row = refl
picked_by_dim None field coords attrs row = placed (place_from field 0 attrs) field coords row ∙ found field attrs row

pub value_is_picked : (fields : List CondField) (coords : List ℤ) (attrs : List CondField) (row : List Val) (n : ℕ)
    → picked_value (picks_of attrs fields) fields coords row n ≡ field_value fields coords attrs row n
value_is_picked [] coords attrs row n = refl
value_is_picked (field ∷ fields) coords attrs row zero = picked_by_dim field.dim field coords attrs row
value_is_picked (field ∷ fields) coords attrs row (suc n) = value_is_picked fields coords attrs row n

pub holds_as_picked : (fields : List CondField) (coords : List ℤ) (attrs : List CondField) (row : List Val) (t : Test)
    → holds (picked_value (picks_of attrs fields) fields coords row) t ≡ holds (field_value fields coords attrs row) t
holds_as_picked fields coords attrs row t = λ i. holds (λ n. value_is_picked fields coords attrs row n i) t
