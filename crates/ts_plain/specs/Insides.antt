-- What lies inside a dimension, a hull and a domain.
use Rattle.std.specs.Prelude.{◌≤ℤ◌, List, IsTrue}
use Rattle.ts_domain.specs.declared.dims.Dim.{Dim}
use Rattle.ts_domain.specs.Dims.{IsBound}
use Rattle.ts_domain.specs.Domains.{is_in_domain}
use Rattle.ts_wire.specs.Exact.{EachFits}
use Rattle.ts_schema.specs.declared.frames.Frame.{Frame}
use Rattle.ts_plain.specs.declared.stored.Side.{Side}
use Rattle.ts_plain.specs.declared.stored.StoredCell.{StoredCell}

-- the side is not empty, and its ends are such as a dimension has
pub record IsSide (side : Side) : Type 0 where
  pub low : IsBound side.low
  pub high : IsBound side.high
  pub some : side.low ≤ℤ side.high

-- the side lies within the dimension
pub record LiesIn (d : Dim) (side : Side) : Type 0 where
  pub is : IsSide side
  pub low : d.low ≤ℤ side.low
  pub high : side.high ≤ℤ d.high

-- there is a side for each dimension, within it
abbrev pub IsHull : List Dim → List Side → Type 0
IsHull dims hull = EachFits LiesIn dims hull

-- the cell lies in the domain
abbrev pub IsInside : Frame → StoredCell → Type 0
IsInside frame cell = IsTrue (is_in_domain frame.domain cell.coords)
