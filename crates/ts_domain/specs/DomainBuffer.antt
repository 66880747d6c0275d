-- The dimensions of a domain in a buffer of eight.
use Rattle.std.specs.Prelude.{◌≡◌, ◌≤◌, List, [], ◌∷◌, length, take}
use Rattle.ts_base.specs.Buffers.{pad}
use Rattle.ts_domain.specs.declared.dims.Dim.{Dim}
use Rattle.ts_domain.specs.declared.domain.Domain.TheInside.{Inside}
use Rattle.ts_domain.specs.Dims.{IsDomain}

-- the dimensions that the buffer holds
abbrev pub dims_of : Inside → List Dim
dims_of inside = take inside.count inside.dims

-- the rest of the buffer is filled with the first dimension
abbrev pub padded : List Dim → List Dim
padded [] = []
padded (d ∷ ds) = pad 8 d (d ∷ ds)

-- they are the dimensions of a domain, and the buffer is padded
pub record IsDomainBuffer (inside : Inside) : Type 0 where
  pub domain : IsDomain (dims_of inside)
  pub fits : inside.count ≤ 8
  pub used : length (dims_of inside) ≡ inside.count
  pub rest : padded (dims_of inside) ≡ inside.dims

-- the buffer that holds the dimensions
abbrev pub buffer_of : List Dim → Inside
buffer_of dims = record { dims = padded dims; count = length dims }

pub buffer_of-dims_of : (inside : Inside) → IsDomainBuffer inside → buffer_of (dims_of inside) ≡ inside
buffer_of-dims_of inside is = λ i. record { dims = is.rest i; count = is.used i }
