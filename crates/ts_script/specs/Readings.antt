-- What is read of the tokens of a JSON text: the data at their front, and the tokens behind it.
use Rattle.std.specs.Prelude.{ℕ, List, [], ◌∷◌, length, Option}
use Rattle.json.specs.Token.{Token}
use Rattle.json.specs.Json.{items, members, parse_map, value}
use Rattle.serde_json.specs.Data.{Data, Items, item, Members}
use Rattle.serde_json.specs.Read.{of_json, of_items, of_members, converted}

-- the value at the front, nested no deeper than the number
unfoldable pub value_at : ℕ → List Token → Option (Data × List Token)
value_at depth tokens = converted of_json (value depth tokens)

-- the items that are done, and these behind them
abbrev pub onto : List Data → Items → Items
onto [] rest = rest
onto (d ∷ done) rest = item d (onto done rest)

-- the items up to the end of their list, behind those that are done
unfoldable pub items_from : ℕ → List Data → List Token → Option (Items × List Token)
items_from depth done tokens = parse_map (onto done) (converted of_items (items (value depth) (length tokens) tokens))

-- the members up to the end of their object, put to those that are found
unfoldable pub members_from : ℕ → Members → List Token → Option (Members × List Token)
members_from depth found tokens = converted (λ ms. of_members ms found) (members (value depth) (length tokens) tokens)
