-- Where the object of a schema is broken, said apart from how it is read.
use Rattle.std.specs.Prelude.{◌≡◌, ◌⊎◌, ℕ, List, [], ◌∷◌, length, Result, Ok, Err}
use Rattle.std.specs.List.{flat_map}
use Rattle.ts_wire.specs.declared.faults.ReadFault.{ReadFault}
use Rattle.ts_wire.specs.declared.faults.ReadFault.TheVariants as fault
use Rattle.ts_wire.specs.declared.kinds.Kind.TheVariants as kind
use Rattle.ts_wire.specs.Place.{place}
use Rattle.ts_wire.specs.Numbers.{number_bytes}
use Rattle.ts_wire.specs.Fields.{bool_bytes, label_bytes, val_bytes}
use Rattle.ts_wire.specs.Envelope.{wrapped, unwrapped}
use Rattle.ts_wire.specs.Broken.{Broken, Surplus}
use Rattle.ts_schema.specs.declared.attrs.Attr.{Attr}
use Rattle.ts_schema.specs.SchemaTexts.{type_bytes, AreAttrs}

-- the fields of an attribute
abbrev pub attr_fields : Attr → List (List ℕ)
attr_fields a = label_bytes a.name ∷ type_bytes a.ty ∷ bool_bytes a.nullable ∷ val_bytes a.fill ∷ []

-- the fields of a schema: the number of attributes, and then those of each attribute
abbrev pub attrs_fields : List Attr → List (List ℕ)
attrs_fields attrs = number_bytes 1 (length attrs) ∷ flat_map attr_fields attrs

-- the body is broken at an offset: there begins its first broken field, or what is too many behind a whole schema
abbrev pub IsBodyBroken : List ℕ → ℕ → Type 0
IsBodyBroken body at = Broken AreAttrs attrs_fields (place body 14) at ⊎ Surplus AreAttrs attrs_fields (place body 14) at

-- the object of a schema is broken at an offset: in its envelope, or else in its body
abbrev pub IsBroken : List ℕ → ℕ → Type 0
IsBroken object at = (unwrapped kind.Schema object ≡ Err at) ⊎ ((body : List ℕ) × (object ≡ wrapped kind.Schema body) × IsBodyBroken body at)

-- where the answer is an offset, the object is broken there
abbrev pub BreaksThere : {A : Type 0} → List ℕ → Result A ReadFault → Type 0
BreaksThere object (Ok _) = Unit {0}
BreaksThere object (Err (fault.Damaged damaged)) = IsBroken object damaged.at
BreaksThere object (Err fault.OutOfMemory) = Unit {0}
