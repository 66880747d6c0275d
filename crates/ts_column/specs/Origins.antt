-- The origins of cells: the place of each cell's write in a table of origins.
use Rattle.std.specs.Prelude.{◌≡◌, ℕ, ◌<◌, nat_lt, List, [], length, Result}
use Rattle.std.specs.List.{flat_map, All}
use Rattle.ts_wire.specs.Place.{Place, Read, place, ruled, items_at, whole}
use Rattle.ts_wire.specs.Numbers.{number_bytes, number_at}

-- the place of an entry of a table of so many
unfoldable pub origin_at : ℕ → Place → Read ℕ
origin_at entries = ruled (λ i. nat_lt i entries) (number_at 4)

-- the origins of so many cells that the bytes hold, or the offset of the first broken field
unfoldable pub origins_in : ℕ → ℕ → List ℕ → Result (List ℕ) ℕ
origins_in entries count bytes = whole (items_at (λ _. origin_at entries) count []) (place bytes 0)

-- the bytes are those of these origins, which are so many and in the table
pub record AreOrigins (entries count : ℕ) (bytes origins : List ℕ) : Type 0 where
  pub spelled : bytes ≡ flat_map (number_bytes 4) origins
  pub many : length origins ≡ count
  pub known : All (λ i. i < entries) origins
