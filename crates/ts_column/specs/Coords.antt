-- The coordinates of the cells of a tile along one dimension, beside the side of the tile's rectangle.
use Rattle.std.specs.Prelude.{◌≡◌, ℕ, ◌*◌, ℤ, Bool, ◌&&◌, not, List, length, Option, Some, None, Result, Ok, Err, if◌then◌else◌, int_le}
use Rattle.std.specs.List.{flat_map, list_any, position_from}
use Rattle.ts_base.specs.declared.values.ValType.{ValType}
use Rattle.ts_base.specs.Values.{width_of}
use Rattle.ts_wire.specs.Numbers.{int_bytes}
use Rattle.ts_wire.specs.Place.{◌>>=◌}
use Rattle.ts_column.specs.Tiles.{is_signed, ints_in}

-- some cell is at or below the low end, and some at or above the high one: the side is not larger than what the cells span
abbrev pub is_filled : ℤ → ℤ → List ℤ → Bool
is_filled low high xs = list_any (λ x. int_le x low) xs && list_any (λ x. int_le high x) xs

-- a coordinate lies outside the side
abbrev pub is_out : ℤ → ℤ → ℤ → Bool
is_out low high x = not (int_le low x && int_le x high)

-- the place of the coordinate that is broken first: the first of all where the side is larger than what the cells span, else the first outside
unfoldable pub first_out : ℤ → ℤ → List ℤ → Option ℕ
first_out low high xs = if is_filled low high xs then position_from (is_out low high) 0 xs else Some 0

-- the coordinates, or the offset of the one at this place
abbrev pub unless_at : ℕ → List ℤ → Option ℕ → Result (List ℤ) ℕ
unless_at width xs None = Ok xs
unless_at width xs (Some place) = Err (place * width)

-- the coordinates of so many cells that span this side; bytes that are too few or too many come before what they say
unfoldable pub coords_in : ValType → ℤ → ℤ → ℕ → List ℕ → Result (List ℤ) ℕ
coords_in ty low high count bytes = ints_in (width_of ty) (is_signed ty) count bytes >>= λ xs. unless_at (width_of ty) xs (first_out low high xs)

-- the bytes are those of these coordinates, which are so many and span the side
pub record AreCoords (ty : ValType) (low high : ℤ) (count : ℕ) (bytes : List ℕ) (coords : List ℤ) : Type 0 where
  pub spelled : bytes ≡ flat_map (int_bytes (width_of ty)) coords
  pub many : length coords ≡ count
  pub spans : first_out low high coords ≡ None
