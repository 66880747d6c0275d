-- Coordinates: 1 to 8 numbers in a buffer of eight.
use Rattle.std.specs.Prelude.{◌≡◌, ℤ, pos, ◌≤◌, Bool, List, length, take}
use Rattle.std.specs.Cmp.Lexicographic.{pointwise}
use Rattle.std.specs.Ordering.{int_eq}
use Rattle.ts_base.specs.Buffers.{pad, IsPadded}
use Rattle.ts_base.specs.declared.coords.Coords.TheInside.{Inside}

-- the numbers that the buffer holds
abbrev pub numbers_of : Inside → List ℤ
numbers_of inside = take inside.count inside.numbers

-- there is a number, and the rest of the buffer is 0
pub record AreCoords (inside : Inside) : Type 0 where
  pub some : 1 ≤ inside.count
  pub buffer : IsPadded 8 (pos 0) inside.numbers inside.count

-- the buffer that holds the numbers
abbrev pub buffer_of : List ℤ → Inside
buffer_of numbers = record { numbers = pad 8 (pos 0) numbers; count = length numbers }

pub buffer_of-numbers_of : (inside : Inside) → AreCoords inside → buffer_of (numbers_of inside) ≡ inside
buffer_of-numbers_of inside are = λ i. record { numbers = are.buffer.rest i; count = are.buffer.used i }

-- c and d are the same coordinates
abbrev pub coords_eq : List ℤ → List ℤ → Bool
coords_eq = pointwise int_eq
