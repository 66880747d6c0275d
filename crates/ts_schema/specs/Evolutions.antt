-- How a schema evolves, and which schema holds at a timestamp.
use Rattle.std.specs.Prelude.{◌≡◌, ℕ, not, ◌&&◌, ◌⊎◌, if◌then◌else◌, List, [], ◌∷◌, ◌++◌, filter, Option, Some, None, Result, nat_le}
use Rattle.std.specs.Option.{option_or}
use Rattle.std.specs.Result.{result_err}
use Rattle.ts_base.specs.declared.keys.Key.{Key}
use Rattle.ts_base.specs.Keys.{greatest}
use Rattle.ts_domain.specs.declared.dims.Dim.{Dim}
use Rattle.ts_schema.specs.declared.attrs.Attr.{Attr}
use Rattle.ts_schema.specs.declared.evolution.Evolution.{Evolution}
use Rattle.ts_schema.specs.declared.faults.SchemaFault.{SchemaFault}
use Rattle.ts_schema.specs.declared.faults.SchemaFault.TheVariants.{UnknownAttr, OutOfMemory}
use Rattle.ts_schema.specs.Attrs.{has_label, has_attr}
use Rattle.ts_schema.specs.Faults.{schema_fault}

-- the first of the names to be taken away, behind earlier ones, that no attribute has, or that is one of the earlier ones
abbrev pub less_fault : List Attr → List (List ℕ) → List (List ℕ) → Option SchemaFault
less_fault attrs earlier [] = None
less_fault attrs earlier (name ∷ names) =
    if has_attr attrs name && not (has_label earlier name) then less_fault attrs (earlier ++ name ∷ []) names else Some (UnknownAttr name)

-- the attributes whose names are none of these
abbrev pub without : List (List ℕ) → List Attr → List Attr
without names attrs = filter (λ a. not (has_label names a.name)) attrs

-- the attributes after a change: those that are not taken away, and then those that are added
abbrev pub evolved_attrs : List Attr → Evolution → List Attr
evolved_attrs attrs change = without change.less attrs ++ change.add

-- the fault of a change: that of a name to be taken away, or else that of the attributes after it
abbrev pub evolution_fault : List Dim → List Attr → Evolution → Option SchemaFault
evolution_fault dims attrs change = option_or (less_fault attrs [] change.less) (schema_fault dims (evolved_attrs attrs change))

-- the fault of the answer is this one, if it is one; or there was no memory
abbrev pub FailsAs : {A : Type 0} → Option SchemaFault → Result A SchemaFault → Type 0
FailsAs fault result = (result_err result ≡ fault) ⊎ (result_err result ≡ Some OutOfMemory)

-- the key of the schema that holds at a timestamp: the greatest of those that are stamped there or before
abbrev pub schema_at : List Key → ℕ → Option Key
schema_at keys b = greatest (λ key. key) (filter (λ key. nat_le key.t b) keys)
