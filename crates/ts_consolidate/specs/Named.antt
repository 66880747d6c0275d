-- Trees of the keys of schemas, seen as finite maps.
use Rattle.std.specs.Prelude.{List, map as list_map}
use Rattle.std.specs.BTreeMap.{BTreeMap}
use Rattle.std.specs.FinMap as map
use Rattle.ts_base.specs.declared.keys.Key.{Key}
use Rattle.ts_base.specs.Keys.{key_cmp}
use Rattle.ts_model.specs.declared.states.Opened.{Opened}

-- the keys of a tree
abbrev pub keys_in : BTreeMap Key Key → map.FinMap key_cmp Key
keys_in tree = map.from_entries tree.entries

-- the keys of the schemas that these heads name
abbrev pub keys_of : List Opened → map.FinMap key_cmp Key
keys_of opened = map.from_entries (list_map (λ o. (o.head.schema, o.head.schema)) opened)
