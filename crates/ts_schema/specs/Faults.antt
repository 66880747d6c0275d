-- What can be wrong with the attributes of a schema.
use Rattle.std.specs.Prelude.{ℕ, Bool, ◌||◌, if◌then◌else◌, List, [], ◌∷◌, ◌++◌, length, Option, Some, None, nat_eq, nat_lt}
use Rattle.std.specs.Option.{option_or}
use Rattle.ts_value.specs.Fits.{fits_of}
use Rattle.ts_domain.specs.declared.dims.Dim.{Dim}
use Rattle.ts_domain.specs.Dims.{has_name}
use Rattle.ts_schema.specs.declared.attrs.Attr.{Attr}
use Rattle.ts_schema.specs.declared.faults.SchemaFault.{SchemaFault}
use Rattle.ts_schema.specs.declared.faults.SchemaFault.TheVariants.{DuplicateAttr, NoAttrLeft, TooManyAttrs, BadFill}
use Rattle.ts_schema.specs.Attrs.{has_attr}

-- the fault of an attribute, whose name came before or not: an earlier attribute, or a dimension, has its name; or else its fill does not fit
abbrev pub fault_of : List Dim → Bool → Attr → Option SchemaFault
fault_of dims again a =
    if again || has_name dims a.name then Some (DuplicateAttr a.name)
    else (if fits_of a.ty a.nullable a.fill then None else Some (BadFill a.name))

-- the fault of an attribute behind earlier ones
abbrev pub attr_fault : List Dim → List Attr → Attr → Option SchemaFault
attr_fault dims earlier a = fault_of dims (has_attr earlier a.name) a

-- the first fault of attributes behind earlier ones
abbrev pub fault_behind : List Dim → List Attr → List Attr → Option SchemaFault
fault_behind dims earlier [] = None
fault_behind dims earlier (a ∷ attrs) = option_or (attr_fault dims earlier a) (fault_behind dims (earlier ++ a ∷ []) attrs)

-- the fault of a number of attributes: there is none, or there are more than 64
abbrev pub count_fault : ℕ → Option SchemaFault
count_fault count = if nat_eq count 0 then Some NoAttrLeft else (if nat_lt 64 count then Some (TooManyAttrs count) else None)

-- the fault of a list of attributes, beside the dimensions of its array: the first of an attribute, or else that of their number
abbrev pub schema_fault : List Dim → List Attr → Option SchemaFault
schema_fault dims attrs = option_or (fault_behind dims [] attrs) (count_fault (length attrs))
