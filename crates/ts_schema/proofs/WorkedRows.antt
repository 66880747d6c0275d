-- The definitions on worked rows: each row computes, so that a reader can see what a definition says.
use Rattle.std.proofs.Common.{◌≡◌, ℕ, Bool, true, false, List, [], ◌∷◌, Some, None, codes, refl}
use Rattle.std.specs.Prelude.{pos, negsuc}
use Rattle.ts_base.specs.declared.keys.Key.{Key}
use Rattle.ts_base.specs.declared.values.Val.{Val}
use Rattle.ts_base.specs.declared.values.Val.TheVariants.{Null, Int}
use Rattle.ts_base.specs.declared.values.ValType.{ValType}
use Rattle.ts_base.specs.declared.values.ValType.TheVariants.{I64, I32, U8}
use Rattle.ts_domain.specs.declared.dims.Dim.{Dim}
use Rattle.ts_schema.specs.declared.attrs.Attr.{Attr}
use Rattle.ts_schema.specs.declared.evolution.Evolution.{Evolution}
use Rattle.ts_schema.specs.declared.faults.SchemaFault.TheVariants.{DuplicateAttr, UnknownAttr, NoAttrLeft, BadFill}
use Rattle.ts_schema.specs.Attrs.{shown_row}
use Rattle.ts_schema.specs.Faults.{schema_fault}
use Rattle.ts_schema.specs.Evolutions.{evolved_attrs, evolution_fault, schema_at}

abbrev attr : List ℕ → ValType → Bool → Val → Attr
attr name ty nullable fill = record { name = name; ty = ty; nullable = nullable; fill = fill }

-- an attribute v, and an attribute w, of 64 signed bits with the default fill
abbrev v : Attr
v = attr (codes "v") I64 false (Int (negsuc 9223372036854775807))

abbrev w : Attr
w = attr (codes "w") I64 false (Int (negsuc 9223372036854775807))

abbrev key : ℕ → ℕ → Key
key t id = record { t = t; id = id }

-- the dimension x from 0 to 9 in tiles of 10
abbrev x : Dim
x = record { name = codes "x"; ty = I64; low = pos 0; high = pos 9; extent = pos 10 }

-- ---- rows

-- an attribute that was added later shows its fill
added_shows_fill : shown_row (v ∷ []) (Int (pos 10) ∷ []) (v ∷ w ∷ []) ≡ Int (pos 10) ∷ Int (negsuc 9223372036854775807) ∷ []
added_shows_fill = refl

-- an attribute that was taken away is not shown
dropped_is_gone : shown_row (v ∷ w ∷ []) (Int (pos 10) ∷ Int (pos 20) ∷ []) (w ∷ []) ≡ Int (pos 20) ∷ []
dropped_is_gone = refl

-- another type, or another nullability, does not agree: the fill of the second schema shows
other_type_shows_fill : shown_row (v ∷ []) (Int (pos 10) ∷ []) (attr (codes "v") I32 false (Int (pos 7)) ∷ []) ≡ Int (pos 7) ∷ []
other_type_shows_fill = refl

nullable_shows_fill : shown_row (v ∷ []) (Int (pos 10) ∷ []) (attr (codes "v") I64 true Null ∷ []) ≡ Null ∷ []
nullable_shows_fill = refl

-- another fill agrees
other_fill_agrees : shown_row (v ∷ []) (Int (pos 10) ∷ []) (attr (codes "v") I64 false (Int (pos 7)) ∷ []) ≡ Int (pos 10) ∷ []
other_fill_agrees = refl

-- ---- faults

-- 256 is no unsigned number of 8 bits
bad_fill : schema_fault (x ∷ []) (attr (codes "v") U8 false (Int (pos 256)) ∷ []) ≡ Some (BadFill (codes "v"))
bad_fill = refl

none_left : schema_fault (x ∷ []) [] ≡ Some NoAttrLeft
none_left = refl

-- a name of a dimension, or of an earlier attribute; the name comes before the fill
name_of_dim : schema_fault (x ∷ []) (attr (codes "x") I64 false Null ∷ []) ≡ Some (DuplicateAttr (codes "x"))
name_of_dim = refl

name_twice : schema_fault (x ∷ []) (v ∷ v ∷ []) ≡ Some (DuplicateAttr (codes "v"))
name_twice = refl

no_fault : schema_fault (x ∷ []) (v ∷ w ∷ []) ≡ None
no_fault = refl

-- ---- changes

abbrev change : List Attr → List (List ℕ) → Evolution
change add less = record { add = add; less = less }

unknown : evolution_fault (x ∷ []) (v ∷ []) (change [] (codes "u" ∷ [])) ≡ Some (UnknownAttr (codes "u"))
unknown = refl

taken_twice : evolution_fault (x ∷ []) (v ∷ w ∷ []) (change [] (codes "v" ∷ codes "v" ∷ [])) ≡ Some (UnknownAttr (codes "v"))
taken_twice = refl

all_taken : evolution_fault (x ∷ []) (v ∷ []) (change [] (codes "v" ∷ [])) ≡ Some NoAttrLeft
all_taken = refl

-- what is taken away may be added again, and then stands last
again : evolved_attrs (v ∷ w ∷ []) (change (v ∷ []) (codes "v" ∷ [])) ≡ w ∷ v ∷ []
again = refl

-- ---- the schema that holds

-- of two keys at one timestamp the one with the greater identifier, whatever the order of the list
same_time : schema_at (key 5 4 ∷ key 5 3 ∷ key 6 1 ∷ []) 5 ≡ Some (key 5 4)
same_time = refl

none_yet : schema_at (key 5 3 ∷ key 6 4 ∷ []) 4 ≡ None
none_yet = refl
