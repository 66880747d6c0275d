-- Schemas that a job got one after the other, by the order of their keys.
use Rattle.std.specs.Prelude.{◌≡◌, List, length, take, map as list_map}
use Rattle.std.specs.List.Sorted.{IsStrictlySortedBy}
use Rattle.ts_base.specs.declared.keys.Key.{Key}
use Rattle.ts_base.specs.Keys.{key_cmp}
use Rattle.ts_schema.specs.declared.schemas.Schema.{Schema}

-- the keys of the schemas strictly rise
abbrev pub AreRising : List Schema → Type 0
AreRising schemas = IsStrictlySortedBy key_cmp (list_map (λ s. s.key) schemas)

-- the schemas are those of the first keys, and the keys strictly rise
pub record AreFirst (keys : List Key) (schemas : List Schema) : Type 0 where
  pub rise : IsStrictlySortedBy key_cmp keys
  pub first : list_map (λ s. s.key) schemas ≡ take (length schemas) keys
