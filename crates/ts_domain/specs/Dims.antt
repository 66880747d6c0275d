-- Dimensions: their space tiles, and what can be wrong with a list of them.
use Rattle.std.specs.Prelude.{◌≡◌, ◌≤◌, ℕ, ◌^◌, Bool, ◌||◌, List, [], ◌∷◌, ◌++◌, length, Option, Some, None, IsTrue, if◌then◌else◌, nat_eq, nat_lt, ℤ, pos, neg_ℤ, ◌+ℤ◌, ◌-ℤ◌, ◌*ℤ◌, ◌≤ℤ◌, int_lt}
use Rattle.std.specs.Int.{int_div_euclid}
use Rattle.std.specs.List.{All, list_any}
use Rattle.std.specs.Option.{option_or}
use Rattle.std.specs.Cmp.Lexicographic.{pointwise}
use Rattle.ts_base.specs.Values.{is_integer, least_of, greatest_of}
use Rattle.ts_domain.specs.declared.dims.Dim.{Dim}
use Rattle.ts_domain.specs.declared.dims.DomainFault.{DomainFault}
use Rattle.ts_domain.specs.declared.dims.DomainFault.TheVariants.{TooManyDims, EmptyDim, BadExtent, PastType, DuplicateName}

-- a bound or an extent is written in 16 bytes, and lies between -2^64 and 2^64
pub record IsBound (z : ℤ) : Type 0 where
  pub above : neg_ℤ (pos (2 ^ 64)) ≤ℤ z
  pub below : z ≤ℤ pos (2 ^ 64)

-- the dimension has an integer type, and its numbers are in range
pub record IsDim (d : Dim) : Type 0 where
  pub integer : IsTrue (is_integer d.ty)
  pub low : IsBound d.low
  pub high : IsBound d.high
  pub extent : IsBound d.extent

-- the number of the space tile that has a coordinate: tiles begin at the low bound
abbrev pub tile_number : Dim → ℤ → ℤ
tile_number d x = int_div_euclid (x -ℤ d.low) d.extent

-- the first and the last number of a space tile
abbrev pub tile_start : Dim → ℤ → ℤ
tile_start d tile = d.low +ℤ tile *ℤ d.extent

abbrev pub tile_end : Dim → ℤ → ℤ
tile_end d tile = tile_start d tile +ℤ (d.extent -ℤ pos 1)

-- the last number of the last space tile, which can lie past the high bound
abbrev pub end_of_tiles : Dim → ℤ
end_of_tiles d = tile_end d (tile_number d d.high)

-- no number lies between the bounds
abbrev pub is_empty_dim : Dim → Bool
is_empty_dim d = int_lt d.high d.low

-- the extent is below 1, or larger than the dimension
abbrev pub has_bad_extent : Dim → Bool
has_bad_extent d = int_lt d.extent (pos 1) || int_lt (d.high -ℤ d.low +ℤ pos 1) d.extent

-- the dimension, in whole tiles, does not lie in its type
abbrev pub is_past_type : Dim → Bool
is_past_type d = int_lt d.low (least_of d.ty) || int_lt (greatest_of d.ty) (end_of_tiles d)

-- one of the dimensions has the name
abbrev pub has_name : List Dim → List ℕ → Bool
has_name dims name = list_any (λ d. pointwise nat_eq d.name name) dims

-- the first fault of a dimension behind earlier ones, which is named by its place
abbrev pub dim_fault : List Dim → Dim → Option DomainFault
dim_fault earlier d =
    if is_empty_dim d then Some (EmptyDim (length earlier))
    else (if has_bad_extent d then Some (BadExtent (length earlier))
    else (if is_past_type d then Some (PastType (length earlier))
    else (if has_name earlier d.name then Some (DuplicateName (length earlier))
    else None)))

-- the first fault of dimensions behind earlier ones
abbrev pub fault_behind : List Dim → List Dim → Option DomainFault
fault_behind earlier [] = None
fault_behind earlier (d ∷ ds) = option_or (dim_fault earlier d) (fault_behind (earlier ++ d ∷ []) ds)

-- the fault of a list of dimensions: more than 8 of them, or else the first fault, dimension by dimension
abbrev pub domain_fault : List Dim → Option DomainFault
domain_fault dims = if nat_lt 8 (length dims) then Some (TooManyDims (length dims)) else fault_behind [] dims

-- a dimension without a fault of its own
pub record IsSoundDim (d : Dim) : Type 0 where
  pub valid : IsDim d
  pub ordered : d.low ≤ℤ d.high
  pub some : pos 1 ≤ℤ d.extent
  pub within : d.extent ≤ℤ (d.high -ℤ d.low +ℤ pos 1)
  pub from_least : least_of d.ty ≤ℤ d.low
  pub to_greatest : end_of_tiles d ≤ℤ greatest_of d.ty

-- the dimensions of a domain: at least one, and no fault
pub record IsDomain (dims : List Dim) : Type 0 where
  pub some : 1 ≤ length dims
  pub valid : All IsDim dims
  pub sound : domain_fault dims ≡ None
