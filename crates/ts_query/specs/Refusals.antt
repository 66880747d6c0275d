-- The printed text of refusals.
use Rattle.std.specs.Prelude.{ℕ, List, ◌++◌, codes, decimal}
use Rattle.std.specs.Fmt.{signed_decimal}
use Rattle.ts_base.specs.declared.names.Place.{Place}
use Rattle.ts_base.specs.declared.names.Place.TheVariants as place
use Rattle.ts_base.specs.Spelling.{name_text, prefix_text}
use Rattle.ts_cond.specs.declared.faults.CondFault.{CondFault}
use Rattle.ts_cond.specs.declared.faults.CondFault.TheVariants as condition
use Rattle.ts_domain.specs.declared.dims.DomainFault.{DomainFault}
use Rattle.ts_domain.specs.declared.dims.DomainFault.TheVariants as domain
use Rattle.ts_schema.specs.declared.faults.SchemaFault.{SchemaFault}
use Rattle.ts_schema.specs.declared.faults.SchemaFault.TheVariants as schema
use Rattle.ts_model.specs.declared.answers.Refusal.{Refusal}
use Rattle.ts_model.specs.declared.answers.Refusal.TheVariants as refusal

-- an object, or what stands below a prefix
unfoldable pub place_text : Place → List ℕ
place_text (place.Name name) = name_text name
place_text (place.Prefix prefix) = prefix_text prefix

-- why there is no domain
unfoldable pub domain_text : DomainFault → List ℕ
domain_text (domain.TooManyDims count) = codes "TooManyDims\t" ++ decimal count
domain_text (domain.EmptyDim dim) = codes "EmptyDim\t" ++ decimal dim
domain_text (domain.BadExtent dim) = codes "BadExtent\t" ++ decimal dim
domain_text (domain.PastType dim) = codes "PastType\t" ++ decimal dim
domain_text (domain.DuplicateName dim) = codes "DuplicateName\t" ++ decimal dim

-- why there is no schema
unfoldable pub schema_text : SchemaFault → List ℕ
schema_text (schema.DuplicateAttr label) = codes "DuplicateAttr\t" ++ label
schema_text (schema.UnknownAttr label) = codes "UnknownAttr\t" ++ label
schema_text schema.NoAttrLeft = codes "NoAttrLeft"
schema_text (schema.TooManyAttrs count) = codes "TooManyAttrs\t" ++ decimal count
schema_text (schema.BadFill label) = codes "BadFill\t" ++ label
schema_text schema.OutOfMemory = codes "OutOfMemory"

-- what is wrong with the text of a condition
unfoldable pub condition_text : CondFault → List ℕ
condition_text (condition.Syntax at) = codes "Syntax\t" ++ decimal at
condition_text (condition.UnknownField label) = codes "UnknownField\t" ++ label
condition_text (condition.TypeClash label) = codes "TypeClash\t" ++ label
condition_text condition.TooDeep = codes "TooDeep"
condition_text condition.TooLarge = codes "TooLarge"
condition_text condition.OutOfMemory = codes "OutOfMemory"

-- why a command was refused
unfoldable pub refusal_text : Refusal → List ℕ
refusal_text refusal.ArrayExists = codes "ArrayExists"
refusal_text (refusal.DomainBad fault) = domain_text fault
refusal_text (refusal.SchemaBad fault) = schema_text fault
refusal_text (refusal.NoSchema at) = codes "NoSchema\t" ++ decimal at
refusal_text (refusal.SchemaClash label) = codes "SchemaClash\t" ++ label
refusal_text (refusal.Domain dim value) = codes "Domain\t" ++ decimal dim ++ codes "\t" ++ signed_decimal value
refusal_text (refusal.DuplicateCell index) = codes "DuplicateCell\t" ++ decimal index
refusal_text (refusal.TooMany cells) = codes "TooMany\t" ++ decimal cells
refusal_text refusal.DenseArray = codes "DenseArray"
refusal_text (refusal.UnknownField label) = codes "UnknownField\t" ++ label
refusal_text (refusal.Condition fault) = codes "Condition\t" ++ condition_text fault
refusal_text (refusal.NothingToDo eligible) = codes "NothingToDo\t" ++ decimal eligible
refusal_text (refusal.Leased name) = codes "Leased\t" ++ name_text name
refusal_text (refusal.Taken name) = codes "Taken\t" ++ name_text name
refusal_text (refusal.StoreFault place) = codes "StoreFault\t" ++ place_text place
refusal_text (refusal.Damaged name at) = codes "Damaged\t" ++ name_text name ++ codes "\t" ++ decimal at
refusal_text (refusal.Missing name) = codes "Missing\t" ++ name_text name
