-- The values that a read uses, on worked rows: each computes, so that a reader can see what the definitions say.
use Rattle.std.proofs.Common.{◌≡◌, ℕ, false, List, [], ◌∷◌, Option, Some, None, refl}
use Rattle.std.specs.Prelude.{pos}
use Rattle.ts_base.specs.declared.values.Val.TheVariants.{Int}
use Rattle.ts_base.specs.declared.values.ValType.TheVariants.{I64}
use Rattle.ts_domain.specs.declared.dims.Dim.{Dim}
use Rattle.ts_domain.specs.declared.orders.Order.TheVariants.{Row}
use Rattle.ts_domain.specs.declared.orders.Layout.TheVariants as layout
use Rattle.ts_schema.specs.declared.attrs.Attr.{Attr}
use Rattle.ts_cond.specs.Tests.{Condition}
use Rattle.ts_cond.specs.Tests as tree
use Rattle.ts_model.specs.declared.deeds.Deletion.{Deletion}
use Rattle.ts_model.specs.declared.states.Reading.{Reading}
use Rattle.ts_model.specs.Queries.{attr_field}
use Rattle.ts_model.specs.Used.{places_used, used_row, uses_name}

-- the dimension x from 0 to 9
abbrev dim : Dim
dim = record { name = 120 ∷ []; ty = I64; low = pos 0; high = pos 9; extent = pos 5 }

-- an attribute of integers with a letter as its name
abbrev attr : ℕ → Attr
attr letter = record { name = letter ∷ []; ty = I64; nullable = false; fill = Int (pos 0) }

-- the attributes a, b and c
abbrev attrs : List Attr
attrs = attr 97 ∷ attr 98 ∷ attr 99 ∷ []

-- the condition that an attribute is null
abbrev is_null : ℕ → Condition
is_null letter = record { fields = attr_field (attr letter) ∷ []; root = tree.IsNull 0 }

-- a read that shows the fields at these places, with a filter and deletes
abbrev reading : List ℕ → Option Condition → List Deletion → Reading
reading fields filter erased = record {
  from = 0;
  to = 9;
  ready = record { sub = record { low = pos 0 ∷ []; high = pos 9 ∷ [] }; fields = fields; filter = filter; layout = layout.Row };
  frame = record { dense = false; domain = dim ∷ []; cell = Row; tile = Row; capacity = 4 };
  current = record { key = record { t = 1; id = 1 }; attrs = attrs };
  fragments = [];
  counting = [];
  vacs = [];
  clipped = [];
  delete_names = [];
  deletions = erased;
}

-- a read of all fields uses all attributes
all_used : places_used (reading (0 ∷ 1 ∷ 2 ∷ 3 ∷ []) None []) 0 attrs ≡ 0 ∷ 1 ∷ 2 ∷ []
all_used = refl

-- a read of the dimension alone uses none
none_used : places_used (reading (0 ∷ []) None []) 0 attrs ≡ []
none_used = refl

-- a read that shows b uses b: the dimension stands before it
shown_used : places_used (reading (2 ∷ []) None []) 0 attrs ≡ 1 ∷ []
shown_used = refl

-- one that shows b where c is null uses both
filter_used : places_used (reading (2 ∷ []) (Some (is_null 99)) []) 0 attrs ≡ 1 ∷ 2 ∷ []
filter_used = refl

-- so does one with a delete that names c
delete_used : places_used (reading (2 ∷ []) None (record { key = record { t = 2; id = 2 }; cond = is_null 99 } ∷ [])) 0 attrs ≡ 1 ∷ 2 ∷ []
delete_used = refl

-- in an older schema that has c before b the places are those of that schema
older_used : places_used (reading (2 ∷ []) (Some (is_null 99)) []) 0 (attr 99 ∷ attr 98 ∷ []) ≡ 0 ∷ 1 ∷ []
older_used = refl

-- an attribute that the schema there does not have is not used
gone_unused : uses_name (reading (0 ∷ 1 ∷ 2 ∷ 3 ∷ []) None []) (100 ∷ []) ≡ false
gone_unused = refl

-- of a row the values at those places are left
row_used : used_row (reading (2 ∷ []) (Some (is_null 99)) []) attrs (Int (pos 10) ∷ Int (pos 20) ∷ Int (pos 30) ∷ []) ≡ Int (pos 20) ∷ Int (pos 30) ∷ []
row_used = refl
