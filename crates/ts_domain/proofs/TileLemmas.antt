-- Space tiles along a dimension, in the numbers of the code.
use Rattle.std.proofs.Common.{◌≡◌, ◌+◌, ◌<◌, refl, arith, ℤ, pos, negsuc, ◌+ℤ◌, ◌-ℤ◌, ◌*ℤ◌, ◌≤ℤ◌, FitsSigned, int_rem}
use Rattle.std.specs.Int.{w128, int_div_euclid}
use Rattle.std.proofs.lemmas.Int.{ints}
use Rattle.std.proofs.lemmas.Nat.{div-add-mod'}
use borrow.Author.Differences.{up, down}
use Rattle.ts_domain.specs.Dims.{IsBound}

-- what is left of a number that is not negative lies below the divisor
rem_within : (z d : ℤ) → pos 0 ≤ℤ z → pos 1 ≤ℤ d → (down (int_rem z d) ≡ 0) × (up (int_rem z d) + down d < up d)
rem_within (pos a) (pos d) h k = let some : 0 < d = omega (arith, ints) in (refl, omega arith)
rem_within (pos a) (negsuc d) h k = absurd (omega (arith, ints))
rem_within (negsuc a) d h k = absurd (omega (arith, ints))

-- the numbers on the way to the end of the tiles fit
pub record FitOnTheWay (low high extent : ℤ) : Type 0 where
  pub low_fits : FitsSigned w128 low
  pub high_fits : FitsSigned w128 high
  pub extent_fits : FitsSigned w128 extent
  pub distance : FitsSigned w128 (high -ℤ low)
  pub into_tile : FitsSigned w128 (int_rem (high -ℤ low) extent)
  pub whole : FitsSigned w128 (extent -ℤ pos 1)
  pub left : FitsSigned w128 (extent -ℤ pos 1 -ℤ int_rem (high -ℤ low) extent)
  pub end : FitsSigned w128 (high +ℤ (extent -ℤ pos 1 -ℤ int_rem (high -ℤ low) extent))

pub fit_on_the_way : (low high extent : ℤ) → IsBound low → IsBound high → IsBound extent → low ≤ℤ high → pos 1 ≤ℤ extent → FitOnTheWay low high extent
fit_on_the_way low high extent a b e h k =
    let rest = rem_within (high -ℤ low) extent (omega (arith, ints)) k in
    record {
      low_fits = omega (arith, ints, a.above, a.below);
      high_fits = omega (arith, ints, b.above, b.below);
      extent_fits = omega (arith, ints, e.above, e.below);
      distance = omega (arith, ints, a.above, a.below, b.above, b.below);
      into_tile = omega (arith, ints, e.above, e.below);
      whole = omega (arith, ints, e.above, e.below);
      left = omega (arith, ints, e.above, e.below);
      end = omega (arith, ints, b.above, b.below, e.above, e.below);
    }

-- the end of the tiles lies past the high bound by what is left of the last tile
pub end_by_rest : (low high extent : ℤ) → low ≤ℤ high → pos 1 ≤ℤ extent
    → high +ℤ (extent -ℤ pos 1 -ℤ int_rem (high -ℤ low) extent) ≡ low +ℤ int_div_euclid (high -ℤ low) extent *ℤ extent +ℤ (extent -ℤ pos 1)
end_by_rest low high extent h k = by (high -ℤ low) extent refl k
  where
    by : (z d : ℤ) → z ≡ high -ℤ low → pos 1 ≤ℤ d → high +ℤ (d -ℤ pos 1 -ℤ int_rem z d) ≡ low +ℤ int_div_euclid z d *ℤ d +ℤ (d -ℤ pos 1)
    by (pos a) (pos n) e k = omega (arith, ints, e, div-add-mod' a n)
    by (pos a) (negsuc n) e k = absurd (omega (arith, ints, k))
    by (negsuc a) d e k = absurd (omega (arith, ints, e, h))
