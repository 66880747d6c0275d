-- What a read shows does not depend on the values that it does not use.
use Rattle.std.proofs.Common.{◌≡◌, ℕ, suc, zero, ℤ, Bool, true, false, cond, ◌&&◌, ◌||◌, if◌then◌else◌, List, [], ◌∷◌, ◌++◌, length, Option, Some, None, refl, sym, ◌∙◌, ap, arith}
use Rattle.std.specs.Prelude.{Contains, slice_get, nat_eq, map as list_map}
use Rattle.std.specs.Bool.{beq}
use Rattle.std.specs.List.{cons_option}
use Rattle.std.specs.Cmp.Lexicographic.{pointwise}
use Rattle.std.proofs.lemmas.Bool.{true≢false, and_parts, or_left, or_right, eqb-true}
use Rattle.std.proofs.lemmas.Cmp.{nat_list_eq_equiv}
use Rattle.ts_base.specs.declared.values.Val.{Val}
use Rattle.ts_base.specs.declared.values.Val.TheVariants.{Null, Int}
use Rattle.ts_base.specs.contracts.values.ValTypePartialEq.TheImpl as val_type
use Rattle.ts_domain.specs.declared.dims.Dim.{Dim}
use Rattle.ts_schema.specs.declared.attrs.Attr.{Attr}
use Rattle.ts_schema.specs.Attrs.{same_name, agrees, shown_val, shown_row}
use Rattle.ts_cond.specs.declared.fields.CondField.{CondField}
use Rattle.ts_cond.specs.Holds.{holds}
use Rattle.ts_cond.specs.Picks.{is_same_field, is_type, known, matches, value_by, value_of, value_under}
use Rattle.ts_cond.specs.Tests.{Condition}
use Rattle.ts_model.specs.declared.deeds.Deletion.{Deletion}
use Rattle.ts_model.specs.declared.states.Reading.{Reading}
use Rattle.ts_model.specs.Queries.{attr_field, attr_fields, fields_of, items_at, passes}
use Rattle.ts_model.specs.Used.{field_names, names_field, filter_names, deletes_name, shows_name, uses_name, used_attrs, used_row}
use Rattle.ts_model.proofs.ListLemmas.{Contains-here, Contains-there, Contains-filter_map}
use Rattle.ts_model.proofs.Members.{any_member}

-- ---- names

-- names that are equal byte by byte are one
one_name : (a b : List ℕ) → same_name a b ≡ true → a ≡ b
one_name [] [] is = refl
one_name [] (y ∷ b) is = cc
one_name (x ∷ a) [] is = cc
one_name (x ∷ a) (y ∷ b) is =
    let parts = and_parts (nat_eq x y) (pointwise nat_eq a b) is in
    ap (λ c. c ∷ a) (eqb-true x y parts.0) ∙ ap (λ l. y ∷ l) (one_name a b parts.1)

-- a condition names its own fields
own_field : (condition : Condition) (field : CondField) → Contains condition.fields field → names_field condition field.name ≡ true
own_field condition field at = any_member (λ f. same_name f.name field.name) condition.fields field at (nat_list_eq_equiv.refl field.name)

-- nothing has a value in a row of none
no_value : (field : CondField) (fields : List CondField) → value_under field fields [] ≡ field.fill
no_value field [] = refl
no_value field (f ∷ fields) = refl

-- nor does such a row show any
none_shown : (attrs : List Attr) (wanted : Attr) → shown_val attrs [] wanted ≡ wanted.fill
none_shown [] wanted = refl
none_shown (a ∷ attrs) wanted = refl

module _ (r : Reading) where
  -- a field of the filter is used
  pub filter_used : (condition : Condition) → r.ready.filter ≡ Some condition → (field : CondField) → Contains condition.fields field → uses_name r field.name ≡ true
  filter_used condition is field at =
      or_right (shows_name r field.name) (filter_names r.ready.filter field.name || deletes_name r.deletions field.name)
      (or_left (filter_names r.ready.filter field.name) (deletes_name r.deletions field.name) (ap (λ f. filter_names f field.name) is ∙ own_field condition field at))

  -- so is one of a delete
  pub delete_used : (e : Deletion) → Contains r.deletions e → (field : CondField) → Contains e.cond.fields field → uses_name r field.name ≡ true
  delete_used e among field at =
      or_right (shows_name r field.name) (filter_names r.ready.filter field.name || deletes_name r.deletions field.name)
      (or_right (filter_names r.ready.filter field.name) (deletes_name r.deletions field.name) (any_member (λ x. names_field x.cond field.name) r.deletions e among (own_field e.cond field at)))

  -- so is the name that stands at the place of a field that is shown
  shown_used : (place : ℕ) (name : List ℕ) → Contains r.ready.fields place → slice_get (field_names r.frame.domain r.current.attrs) place ≡ Some name → uses_name r name ≡ true
  shown_used place name at is =
      or_left (shows_name r name) (filter_names r.ready.filter name || deletes_name r.deletions name)
      (any_member (λ other. same_name other name) (items_at r.ready.fields (field_names r.frame.domain r.current.attrs)) name
      (Contains-filter_map (slice_get (field_names r.frame.domain r.current.attrs)) r.ready.fields place name at is) (nat_list_eq_equiv.refl name))

  -- ---- the values that were got

  -- a used field has the value that it has in the whole row
  value_used : (field : CondField) → uses_name r field.name ≡ true → (attrs : List Attr) (row : List Val) → value_under field (attr_fields (used_attrs r attrs)) (used_row r attrs row) ≡ value_under field (attr_fields attrs) row
  value_used field used [] row = refl
  value_used field used (a ∷ attrs) [] = no_value field (attr_fields (used_attrs r (a ∷ attrs)))
  value_used field used (a ∷ attrs) (v ∷ row) = by_tests (value_used field used attrs row) (uses_name r a.name) (is_same_field field (attr_field a)) refl refl
    where
      by_tests : value_under field (attr_fields (used_attrs r attrs)) (used_row r attrs row) ≡ value_under field (attr_fields attrs) row → (u s : Bool) → uses_name r a.name ≡ u → is_same_field field (attr_field a) ≡ s
          → value_under field (attr_fields (cond u (a ∷ used_attrs r attrs) (used_attrs r attrs))) (cond u (v ∷ used_row r attrs row) (used_row r attrs row)) ≡ if s then v else value_under field (attr_fields attrs) row
      by_tests rest true s is_used same =
          ap (λ b. if b then v else value_under field (attr_fields (used_attrs r attrs)) (used_row r attrs row)) same ∙ ap (λ x. if s then v else x) rest
      by_tests rest false false is_used same = rest
      by_tests rest false true is_used same =
          let name = one_name field.name a.name (and_parts (same_name field.name a.name) (is_type field.ty a.ty && beq field.nullable a.nullable) same).0 in
          absurd (true≢false (sym used ∙ ap (uses_name r) name ∙ is_used))

  -- where the names of all fields are used they have the values that they have in the whole row
  values_used : (fields : List CondField) → ((field : CondField) → Contains fields field → uses_name r field.name ≡ true) → (c : List ℤ) (attrs : List Attr) (row : List Val)
      → list_map (λ field. value_of field c (attr_fields (used_attrs r attrs)) (used_row r attrs row)) fields ≡ list_map (λ field. value_of field c (attr_fields attrs) row) fields
  values_used [] used c attrs row = refl
  values_used (field ∷ fields) used c attrs row =
      ap (λ v. v ∷ list_map (λ f. value_of f c (attr_fields (used_attrs r attrs)) (used_row r attrs row)) fields) (by_dim field.dim)
      ∙ ap (λ vs. value_of field c (attr_fields attrs) row ∷ vs) (values_used fields (λ f at. used f (Contains-there field fields f at)) c attrs row)
    where
      by_dim : (dim : Option ℕ) → value_by dim field c (attr_fields (used_attrs r attrs)) (used_row r attrs row) ≡ value_by dim field c (attr_fields attrs) row
      by_dim (Some place) = refl
      by_dim None = value_used field (used field (Contains-here field fields)) attrs row

  -- so a condition matches what was got where it matches the whole row
  pub matches_used : (condition : Condition) → ((field : CondField) → Contains condition.fields field → uses_name r field.name ≡ true) → (c : List ℤ) (attrs : List Attr) (row : List Val)
      → matches condition c (attr_fields (used_attrs r attrs)) (used_row r attrs row) ≡ matches condition c (attr_fields attrs) row
  matches_used condition used c attrs row = ap (λ vals. holds (λ n. known (slice_get vals n)) condition.root) (values_used condition.fields used c attrs row)

  -- a used attribute shows the value that it shows of the whole row
  shown_val_used : (w : Attr) → uses_name r w.name ≡ true → (attrs : List Attr) (row : List Val) → shown_val (used_attrs r attrs) (used_row r attrs row) w ≡ shown_val attrs row w
  shown_val_used w used [] row = refl
  shown_val_used w used (a ∷ attrs) [] = none_shown (used_attrs r (a ∷ attrs)) w
  shown_val_used w used (a ∷ attrs) (v ∷ row) = by_tests (shown_val_used w used attrs row) (uses_name r a.name) (agrees a w) refl refl
    where
      by_tests : shown_val (used_attrs r attrs) (used_row r attrs row) w ≡ shown_val attrs row w → (u s : Bool) → uses_name r a.name ≡ u → agrees a w ≡ s
          → shown_val (cond u (a ∷ used_attrs r attrs) (used_attrs r attrs)) (cond u (v ∷ used_row r attrs row) (used_row r attrs row)) w ≡ cond s v (shown_val attrs row w)
      by_tests rest true s is_used same = ap (λ b. cond b v (shown_val (used_attrs r attrs) (used_row r attrs row) w)) same ∙ ap (cond s v) rest
      by_tests rest false false is_used same = rest
      by_tests rest false true is_used same =
          let name = one_name a.name w.name (and_parts (same_name a.name w.name) ((val_type.ghosts).eq a.ty w.ty && beq a.nullable w.nullable) same).0 in
          absurd (true≢false (sym used ∙ ap (uses_name r) (sym name) ∙ is_used))

  -- ---- rows with their used values alone

  -- a row of some attributes, with null in place of each value that is not used
  abbrev pub blank : List Attr → List Val → List Val
  blank (a ∷ attrs) (v ∷ row) = cond (uses_name r a.name) v Null ∷ blank attrs row
  blank attrs row = row

  -- what was got shows the same used values as the whole row
  pub same_shown : (attrs : List Attr) (row : List Val) (wanted : List Attr) → blank wanted (shown_row (used_attrs r attrs) (used_row r attrs row) wanted) ≡ blank wanted (shown_row attrs row wanted)
  same_shown attrs row [] = refl
  same_shown attrs row (w ∷ wanted) =
      ap (λ v. v ∷ blank wanted (shown_row (used_attrs r attrs) (used_row r attrs row) wanted)) (by_use (uses_name r w.name) refl)
      ∙ ap (λ vs. cond (uses_name r w.name) (shown_val attrs row w) Null ∷ vs) (same_shown attrs row wanted)
    where
      by_use : (u : Bool) → uses_name r w.name ≡ u → cond u (shown_val (used_attrs r attrs) (used_row r attrs row) w) Null ≡ cond u (shown_val attrs row w) Null
      by_use true used = shown_val_used w used attrs row
      by_use false unused = refl

  -- a used field has the same value where the values that are not used are null
  value_blank : (field : CondField) → uses_name r field.name ≡ true → (attrs : List Attr) (row : List Val) → value_under field (attr_fields attrs) (blank attrs row) ≡ value_under field (attr_fields attrs) row
  value_blank field used [] row = refl
  value_blank field used (a ∷ attrs) [] = refl
  value_blank field used (a ∷ attrs) (v ∷ row) = by_tests (value_blank field used attrs row) (uses_name r a.name) (is_same_field field (attr_field a)) refl refl
    where
      by_tests : value_under field (attr_fields attrs) (blank attrs row) ≡ value_under field (attr_fields attrs) row → (u s : Bool) → uses_name r a.name ≡ u → is_same_field field (attr_field a) ≡ s
          → (if s then cond u v Null else value_under field (attr_fields attrs) (blank attrs row)) ≡ if s then v else value_under field (attr_fields attrs) row
      by_tests rest u false is_used same = rest
      by_tests rest true true is_used same = refl
      by_tests rest false true is_used same =
          let name = one_name field.name a.name (and_parts (same_name field.name a.name) (is_type field.ty a.ty && beq field.nullable a.nullable) same).0 in
          absurd (true≢false (sym used ∙ ap (uses_name r) name ∙ is_used))

  -- so have all used fields
  values_blank : (fields : List CondField) → ((field : CondField) → Contains fields field → uses_name r field.name ≡ true) → (c : List ℤ) (attrs : List Attr) (row : List Val)
      → list_map (λ field. value_of field c (attr_fields attrs) (blank attrs row)) fields ≡ list_map (λ field. value_of field c (attr_fields attrs) row) fields
  values_blank [] used c attrs row = refl
  values_blank (field ∷ fields) used c attrs row =
      ap (λ v. v ∷ list_map (λ f. value_of f c (attr_fields attrs) (blank attrs row)) fields) (by_dim field.dim)
      ∙ ap (λ vs. value_of field c (attr_fields attrs) row ∷ vs) (values_blank fields (λ f at. used f (Contains-there field fields f at)) c attrs row)
    where
      by_dim : (dim : Option ℕ) → value_by dim field c (attr_fields attrs) (blank attrs row) ≡ value_by dim field c (attr_fields attrs) row
      by_dim (Some place) = refl
      by_dim None = value_blank field (used field (Contains-here field fields)) attrs row

  -- so such a row passes the filter where the whole one does
  pub passes_blank : (c : List ℤ) (attrs : List Attr) (row : List Val) → passes r.ready.filter attrs c (blank attrs row) ≡ passes r.ready.filter attrs c row
  passes_blank c attrs row = by_filter r.ready.filter refl
    where
      by_filter : (f : Option Condition) → r.ready.filter ≡ f → passes f attrs c (blank attrs row) ≡ passes f attrs c row
      by_filter None is = refl
      by_filter (Some condition) is = ap (λ vals. holds (λ n. known (slice_get vals n)) condition.root) (values_blank condition.fields (filter_used condition is) c attrs row)

  -- ---- the fields that are shown

  -- at the place of a name that is used stands the same value
  at_attr : (attrs : List Attr) (row : List Val) (place : ℕ) → ((name : List ℕ) → slice_get (list_map (λ a. a.name) attrs) place ≡ Some name → uses_name r name ≡ true) → slice_get (blank attrs row) place ≡ slice_get row place
  at_attr [] row place used = refl
  at_attr (a ∷ attrs) [] place used = refl
  at_attr (a ∷ attrs) (v ∷ row) zero used = ap (λ u. Some (cond u v Null)) (used a.name refl)
  at_attr (a ∷ attrs) (v ∷ row) (suc place) used = at_attr attrs row place used

  -- so it is behind the coordinates
  at_field : (dims : List Dim) (c : List ℤ) (attrs : List Attr) (row : List Val) (place : ℕ) → length c ≡ length dims → ((name : List ℕ) → slice_get (field_names dims attrs) place ≡ Some name → uses_name r name ≡ true)
      → slice_get (list_map Int c ++ blank attrs row) place ≡ slice_get (list_map Int c ++ row) place
  at_field [] [] attrs row place long used = at_attr attrs row place used
  at_field [] (x ∷ c) attrs row place long used = absurd (omega (arith, long))
  at_field (d ∷ dims) [] attrs row place long used = absurd (omega (arith, long))
  at_field (d ∷ dims) (x ∷ c) attrs row zero long used = refl
  at_field (d ∷ dims) (x ∷ c) attrs row (suc place) long used = at_field dims c attrs row place (omega (arith, long)) used

  -- so it is at all places where the names are used
  at_places : (places : List ℕ) (c : List ℤ) (row : List Val) → length c ≡ length r.frame.domain
      → ((place : ℕ) → Contains places place → (name : List ℕ) → slice_get (field_names r.frame.domain r.current.attrs) place ≡ Some name → uses_name r name ≡ true)
      → items_at places (list_map Int c ++ blank r.current.attrs row) ≡ items_at places (list_map Int c ++ row)
  at_places [] c row long used = refl
  at_places (place ∷ places) c row long used =
      ap (λ o. cons_option o (items_at places (list_map Int c ++ blank r.current.attrs row))) (at_field r.frame.domain c r.current.attrs row place long (used place (Contains-here place places)))
      ∙ ap (cons_option (slice_get (list_map Int c ++ row) place)) (at_places places c row long (λ p at. used p (Contains-there place places p at)))

  -- the fields that are shown of a cell of the array do not tell what is not used
  pub items_blank : (c : List ℤ) (row : List Val) → length c ≡ length r.frame.domain → items_at r.ready.fields (fields_of (c, blank r.current.attrs row)) ≡ items_at r.ready.fields (fields_of (c, row))
  items_blank c row long = at_places r.ready.fields c row long (λ place at name is. shown_used place name at is)
