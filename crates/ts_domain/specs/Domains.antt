-- What lies in a domain, and the first coordinate that does not.
use Rattle.std.specs.Prelude.{ℕ, suc, Bool, ◌&&◌, List, ◌∷◌, map, Option, Some, None, IsTrue, if◌then◌else◌, ℤ, int_le}
use Rattle.std.specs.Option.{option_or}
use Rattle.ts_domain.specs.declared.dims.Dim.{Dim}
use Rattle.ts_domain.specs.declared.outside.Outside.{Outside}
use Rattle.ts_domain.specs.declared.boxes.SubBox.{SubBox}
use Rattle.ts_domain.specs.Boxes.{is_in_box}

-- the box of the whole domain
abbrev pub whole_domain : List Dim → SubBox
whole_domain dims = record { low = map (λ d. d.low) dims; high = map (λ d. d.high) dims }

-- each coordinate lies in its dimension
abbrev pub is_in_domain : List Dim → List ℤ → Bool
is_in_domain dims coords = is_in_box (whole_domain dims) coords

-- both corners of the box lie in the domain
abbrev pub LiesInDomain : List Dim → SubBox → Type 0
LiesInDomain dims sub = IsTrue (is_in_domain dims sub.low) × IsTrue (is_in_domain dims sub.high)

-- a number, where it lies outside the dimension at a place
abbrev pub outside_dim : ℕ → Dim → ℤ → Option Outside
outside_dim place d x = if int_le d.low x && int_le x d.high then None else Some (record { dim = place; value = x })

-- the first coordinate outside its dimension, the dimensions counted from a place on
abbrev pub first_outside_from : ℕ → List Dim → List ℤ → Option Outside
first_outside_from place (d ∷ ds) (x ∷ xs) = option_or (outside_dim place d x) (first_outside_from (suc place) ds xs)
first_outside_from place _ _ = None

-- the first bound outside its dimension, low before high, the dimensions counted from a place on
abbrev pub first_bound_outside_from : ℕ → List Dim → List ℤ → List ℤ → Option Outside
first_bound_outside_from place (d ∷ ds) (l ∷ ls) (h ∷ hs) = option_or (outside_dim place d l) (option_or (outside_dim place d h) (first_bound_outside_from (suc place) ds ls hs))
first_bound_outside_from place _ _ _ = None

-- the first coordinate that lies outside its dimension
abbrev pub first_outside : List Dim → List ℤ → Option Outside
first_outside dims coords = first_outside_from 0 dims coords

-- the first bound of a box that lies outside its dimension: dimension by dimension, low before high
abbrev pub first_bound_outside : List Dim → SubBox → Option Outside
first_bound_outside dims sub = first_bound_outside_from 0 dims sub.low sub.high
