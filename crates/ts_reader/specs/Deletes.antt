-- Deletes over the rows of known schemas: where each finds its fields, and what is left.
use Rattle.std.specs.Prelude.{ℤ, Bool, ◌&&◌, not, List, [], filter, map as list_map}
use Rattle.ts_base.specs.declared.heads.Version.{Version}
use Rattle.ts_base.specs.declared.values.Val.{Val}
use Rattle.ts_base.specs.Keys.{key_lt}
use Rattle.ts_schema.specs.declared.attrs.Attr.{Attr}
use Rattle.ts_schema.specs.declared.schemas.Schema.{Schema}
use Rattle.ts_cond.specs.declared.fields.Pick.{Pick}
use Rattle.ts_cond.specs.Picks.{matches, picks_of}
use Rattle.ts_model.specs.declared.deeds.Deletion.{Deletion}
use Rattle.ts_model.specs.declared.states.Reading.{Reading}
use Rattle.ts_model.specs.Queries.{attr_fields}
use Rattle.ts_model.specs.States.{cell_shown, is_erased_by}
use Rattle.ts_model.specs.Used.{used_attrs}
use Rattle.ts_reader.specs.declared.bindings.Binding.{Binding}
use Rattle.ts_reader.specs.declared.bindings.Bindings.{Bindings}

-- where each delete finds its fields in rows of these attributes
abbrev pub picks_under : List Attr → List Deletion → List (List Pick)
picks_under attrs erased = list_map (λ e. picks_of (attr_fields attrs) (e.cond).fields) erased

-- a delete has a greater key than the version and matches it
abbrev pub erases : List Attr → Version → Deletion → Bool
erases attrs v e = key_lt v.key e.key && matches e.cond v.coords (attr_fields attrs) v.row

-- rows of these attributes, as a read with these deletes sees them
abbrev pub binding_of : List Deletion → List Attr → Binding
binding_of erased attrs = record { attrs = attrs; picks = picks_under attrs erased }

-- the rows of each schema that a read knows, and of those that it does not know, with the values that it uses
abbrev pub bindings_of : Reading → List Schema → Bindings
bindings_of r schemas = record { current = binding_of r.deletions (used_attrs r (r.current).attrs); further = list_map (λ s. binding_of r.deletions (used_attrs r s.attrs)) schemas; unknown = binding_of r.deletions [] }

-- the cells of versions, but of those that are erased
abbrev pub all_shown : Reading → List Schema → List Version → List (List ℤ × List Val)
all_shown r schemas vs = list_map (cell_shown r schemas) (filter (λ v. not (is_erased_by r schemas v)) vs)
