-- Which attributes a read uses: those that it shows, and those that its filter or the condition of a delete names.
use Rattle.std.specs.Prelude.{ℕ, Bool, false, cond, ◌||◌, List, [], ◌∷◌, ◌++◌, Option, Some, None, filter, suc, map as list_map}
use Rattle.std.specs.List.{list_any}
use Rattle.ts_base.specs.declared.values.Val.{Val}
use Rattle.ts_domain.specs.declared.dims.Dim.{Dim}
use Rattle.ts_schema.specs.declared.attrs.Attr.{Attr}
use Rattle.ts_schema.specs.Attrs.{same_name, has_label}
use Rattle.ts_cond.specs.Tests.{Condition}
use Rattle.ts_model.specs.declared.deeds.Deletion.{Deletion}
use Rattle.ts_model.specs.declared.states.Reading.{Reading}
use Rattle.ts_model.specs.Queries.{items_at}

-- the names of the fields of an array: those of the dimensions, and then of the attributes
abbrev pub field_names : List Dim → List Attr → List (List ℕ)
field_names dims attrs = list_map (λ d. d.name) dims ++ list_map (λ a. a.name) attrs

-- a condition names a field
abbrev pub names_field : Condition → List ℕ → Bool
names_field condition name = list_any (λ field. same_name field.name name) condition.fields

-- a filter names a field
abbrev pub filter_names : Option Condition → List ℕ → Bool
filter_names None name = false
filter_names (Some condition) name = names_field condition name

-- one of the deletes names a field
abbrev pub deletes_name : List Deletion → List ℕ → Bool
deletes_name erased name = list_any (λ e. names_field e.cond name) erased

-- a read shows the field with a name
abbrev pub shows_name : Reading → List ℕ → Bool
shows_name r name = has_label (items_at r.ready.fields (field_names r.frame.domain r.current.attrs)) name

-- a read uses the values under a name: it shows them, or its filter names them, or one of its deletes
abbrev pub uses_name : Reading → List ℕ → Bool
uses_name r name = shows_name r name || (filter_names r.ready.filter name || deletes_name r.deletions name)

-- the attributes of a schema that a read uses
abbrev pub used_attrs : Reading → List Attr → List Attr
used_attrs r attrs = filter (λ a. uses_name r a.name) attrs

-- the places of those attributes, where so many attributes stand before these
abbrev pub places_used : Reading → ℕ → List Attr → List ℕ
places_used r place [] = []
places_used r place (a ∷ attrs) = cond (uses_name r a.name) (place ∷ places_used r (suc place) attrs) (places_used r (suc place) attrs)

-- the values of those attributes, of a row of the schema
abbrev pub used_row : Reading → List Attr → List Val → List Val
used_row r (a ∷ attrs) (val ∷ row) = cond (uses_name r a.name) (val ∷ used_row r attrs row) (used_row r attrs row)
used_row r _ _ = []
