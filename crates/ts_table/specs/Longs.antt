-- Integers that fit 64 bits.
use Rattle.std.specs.Prelude.{◌≡◌, ℤ, List, All, Some, slice_get, FitsSigned}
use Rattle.std.specs.Int.{w64}

-- each integer fits 64 bits
abbrev pub AreLong : List ℤ → Type 0
AreLong numbers = All (FitsSigned w64) numbers

-- the first of the integers, if there is one, does not fit 64 bits
abbrev pub IsWideFirst : List ℤ → Type 0
IsWideFirst numbers = (n : ℤ) → slice_get numbers 0 ≡ Some n → FitsSigned w64 n → ⊥
