-- The object of a schema: how its attributes are spelled, and how they are read.
use Rattle.std.specs.Prelude.{ℕ, ◌-◌, Bool, not, ◌&&◌, nat_le, List, [], ◌∷◌, ◌++◌, length, get_or, IsTrue, Result}
use Rattle.std.specs.List.{flat_map}
use Rattle.ts_base.specs.declared.values.Val.{Val}
use Rattle.ts_base.specs.declared.values.ValType.{ValType}
use Rattle.ts_base.specs.declared.values.ValType.TheVariants.{I8, I16, I32, I64, U8, U16, U32, U64, Text, Blob}
use Rattle.ts_base.specs.Labels.{is_label}
use Rattle.ts_value.specs.Fits.{fits_of}
use Rattle.ts_wire.specs.declared.kinds.Kind.TheVariants as kind
use Rattle.ts_wire.specs.Place.{Place, Read, mapped, both, ruled, counted_at}
use Rattle.ts_wire.specs.Exact.{InTurn}
use Rattle.ts_wire.specs.Numbers.{number_bytes, number_at}
use Rattle.ts_wire.specs.Fields.{bool_bytes, bool_at, label_bytes, label_at, val_bytes, val_at, FitsVal}
use Rattle.ts_wire.specs.Envelope.{wrapped, object_at}
use Rattle.ts_schema.specs.declared.attrs.Attr.{Attr}
use Rattle.ts_schema.specs.Attrs.{has_attr}

-- ---- types

-- the types in the order of their numbers, which count from 1
abbrev pub types : List ValType
types = I8 ∷ I16 ∷ I32 ∷ I64 ∷ U8 ∷ U16 ∷ U32 ∷ U64 ∷ Text ∷ Blob ∷ []

-- the number of each type
abbrev pub type_code : ValType → ℕ
type_code I8 = 1
type_code I16 = 2
type_code I32 = 3
type_code I64 = 4
type_code U8 = 5
type_code U16 = 6
type_code U32 = 7
type_code U64 = 8
type_code Text = 9
type_code Blob = 10

-- the number is one of a type
abbrev pub is_type_code : ℕ → Bool
is_type_code code = nat_le 1 code && nat_le code 10

-- the type of a number
abbrev pub type_of : ℕ → ValType
type_of code = get_or types (code - 1) I8

-- a type is its number in one byte
unfoldable pub type_bytes : ValType → List ℕ
type_bytes ty = number_bytes 1 (type_code ty)

-- a type
unfoldable pub type_at : Place → Read ValType
type_at = mapped type_of (ruled is_type_code (number_at 1))

-- ---- attributes

-- the name of an attribute behind others: none of them has it
unfoldable pub name_at : List Attr → Place → Read (List ℕ)
name_at front = ruled (λ name. not (has_attr front name)) label_at

-- a fill, which has to fit
unfoldable pub fill_at : ValType → Bool → Place → Read Val
fill_at ty nullable = ruled (fits_of ty nullable) val_at

-- an attribute behind others
unfoldable pub attr_at : List Attr → Place → Read Attr
attr_at front =
    mapped (λ x. record { name = x.0; ty = x.1.0; nullable = x.1.1.0; fill = x.1.1.1 })
    (both (name_at front) (λ _. both type_at (λ ty. both bool_at (λ nullable. fill_at ty nullable))))

-- a schema has from 1 to 64 attributes
abbrev pub is_attr_count : ℕ → Bool
is_attr_count count = nat_le 1 count && nat_le count 64

-- the number of attributes
unfoldable pub attr_count_at : Place → Read ℕ
attr_count_at = ruled is_attr_count (number_at 1)

-- the number of attributes, and then the attributes
unfoldable pub attrs_at : Place → Read (List Attr)
attrs_at = counted_at attr_count_at attr_at

-- the attributes that an object spells, or the offset of its first broken field
unfoldable pub schema_of : List ℕ → Result (List Attr) ℕ
schema_of object = object_at kind.Schema attrs_at object

-- an attribute is its name, its type, whether it is nullable, and its fill
unfoldable pub attr_bytes : Attr → List ℕ
attr_bytes a = label_bytes a.name ++ (type_bytes a.ty ++ (bool_bytes a.nullable ++ val_bytes a.fill))

-- the number of attributes, and then the attributes
unfoldable pub attrs_bytes : List Attr → List ℕ
attrs_bytes attrs = number_bytes 1 (length attrs) ++ flat_map attr_bytes attrs

-- the object of a schema with these attributes
unfoldable pub schema_object : List Attr → List ℕ
schema_object attrs = wrapped kind.Schema (attrs_bytes attrs)

-- an attribute behind others: its name is a label that none of them has, and its fill is a value that fits
pub record FitsAttr (front : List Attr) (a : Attr) : Type 0 where
  pub label : IsTrue (is_label a.name)
  pub new_name : IsTrue (not (has_attr front a.name))
  pub value : FitsVal a.fill
  pub fill : IsTrue (fits_of a.ty a.nullable a.fill)

-- the attributes of a schema: from 1 to 64, each of which fits behind those before it
pub record AreAttrs (attrs : List Attr) : Type 0 where
  pub count : IsTrue (is_attr_count (length attrs))
  pub each : InTurn FitsAttr [] attrs
