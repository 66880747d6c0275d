-- Numbers that lie in one space tile, and numbers that do not.
use Rattle.std.proofs.Common.{◌≡◌, ℕ, suc, ◌+◌, ◌*◌, ◌/◌, ◌%◌, ◌<◌, ◌≤◌, refl, sym, ap, ◌∙◌, arith, ℤ, pos, negsuc, ◌+ℤ◌, ◌-ℤ◌, ◌≤ℤ◌, ◌<ℤ◌, int_rem, FitsSigned, Bool, true, false}
use Rattle.std.specs.Int.{w128, int_div_euclid}
use Rattle.std.specs.Bool.{MatchBool}
use Rattle.std.proofs.lemmas.Int.{ints}
use Rattle.std.proofs.lemmas.Nat.{div-add-mod', div-mul-add, le-div}
use Rattle.ts_domain.specs.declared.dims.Dim.{Dim}
use Rattle.ts_domain.specs.Dims.{IsSoundDim}

-- a step that ends below the divisor keeps the quotient
same_quotient : (p step e : ℕ) → p % e + step < e → (p + step) / e ≡ p / e
same_quotient p step e h =
    let parts : p + step ≡ p / e * e + (p % e + step) = omega (arith, div-add-mod' p e) in
    ap (λ x. x / e) parts ∙ div-mul-add (p / e) e (p % e + step) h

-- a longer one raises it
later_quotient : (p step e : ℕ) → 0 < e → e ≤ p % e + step → p / e < (p + step) / e
later_quotient p step e some h =
    let next : suc (p / e) * e ≤ p + step = omega (arith, div-add-mod' p e) in
    le-div (suc (p / e)) (p + step) e some next

-- the same of the tiles of two numbers, in ascending order, above a low bound
pub same_tile : (low first second extent : ℤ) → low ≤ℤ first → first ≤ℤ second → pos 1 ≤ℤ extent → (int_rem (first -ℤ low) extent +ℤ (second -ℤ first)) <ℤ extent
    → int_div_euclid (first -ℤ low) extent ≡ int_div_euclid (second -ℤ low) extent
same_tile low first second extent a b e h = by (first -ℤ low) (second -ℤ first) (second -ℤ low) extent refl refl refl e h
  where
    by : (p step q d : ℤ) → p ≡ first -ℤ low → step ≡ second -ℤ first → q ≡ second -ℤ low → pos 1 ≤ℤ d → (int_rem p d +ℤ step) <ℤ d → int_div_euclid p d ≡ int_div_euclid q d
    by (pos p) (pos step) (pos q) (pos d) i j k e h =
        let sum : q ≡ p + step = omega (arith, ints) in
        let below : p % d + step < d = omega (arith, ints) in
        ap pos (sym (same_quotient p step d below) ∙ ap (λ x. x / d) (sym sum))
    by (pos p) (pos step) (pos q) (negsuc d) i j k e h = absurd (omega (arith, ints))
    by (pos p) (pos step) (negsuc q) d i j k e h = absurd (omega (arith, ints))
    by (pos p) (negsuc step) q d i j k e h = absurd (omega (arith, ints))
    by (negsuc p) step q d i j k e h = absurd (omega (arith, ints))

pub later_tile : (low first second extent : ℤ) → low ≤ℤ first → first ≤ℤ second → pos 1 ≤ℤ extent → extent ≤ℤ (int_rem (first -ℤ low) extent +ℤ (second -ℤ first))
    → int_div_euclid (first -ℤ low) extent <ℤ int_div_euclid (second -ℤ low) extent
later_tile low first second extent a b e h = by (first -ℤ low) (second -ℤ first) (second -ℤ low) extent refl refl refl e h
  where
    by : (p step q d : ℤ) → p ≡ first -ℤ low → step ≡ second -ℤ first → q ≡ second -ℤ low → pos 1 ≤ℤ d → d ≤ℤ (int_rem p d +ℤ step) → int_div_euclid p d <ℤ int_div_euclid q d
    by (pos p) (pos step) (pos q) (pos d) i j k e h =
        let sum : q ≡ p + step = omega (arith, ints) in
        let above : d ≤ p % d + step = omega (arith, ints) in
        let some : 0 < d = omega (arith, ints) in
        let later : p / d < q / d = rw sum (later_quotient p step d some above) in
        omega (arith, ints)
    by (pos p) (pos step) (pos q) (negsuc d) i j k e h = absurd (omega (arith, ints))
    by (pos p) (pos step) (negsuc q) d i j k e h = absurd (omega (arith, ints))
    by (pos p) (negsuc step) q d i j k e h = absurd (omega (arith, ints))
    by (negsuc p) step q d i j k e h = absurd (omega (arith, ints))

-- a longer step than a tile is wide leads to a later one
pub far_apart : (low first second extent : ℤ) → low ≤ℤ first → first ≤ℤ second → pos 1 ≤ℤ extent → extent ≤ℤ (second -ℤ first)
    → int_div_euclid (first -ℤ low) extent <ℤ int_div_euclid (second -ℤ low) extent
far_apart low first second extent a b e h =
    let rest = int_rem-positive (first -ℤ low) extent (omega (arith, ints)) e in
    later_tile low first second extent a b e (omega (arith, ints))
  where
    int_rem-positive : (z d : ℤ) → pos 0 ≤ℤ z → pos 1 ≤ℤ d → pos 0 ≤ℤ int_rem z d
    int_rem-positive (pos a) d h k = omega (arith, ints)
    int_rem-positive (negsuc a) d h k = absurd (omega (arith, ints))

-- the numbers of the code fit
pub record FitInDim (low extent first second : ℤ) : Type 0 where
  pub low_fits : FitsSigned w128 low
  pub extent_fits : FitsSigned w128 extent
  pub first_fits : FitsSigned w128 first
  pub second_fits : FitsSigned w128 second
  pub offset : FitsSigned w128 (first -ℤ low)
  pub apart : FitsSigned w128 (second -ℤ first)

pub fit_in_dim : (d : Dim) (first second : ℤ) → IsSoundDim d → d.low ≤ℤ first → first ≤ℤ second → second ≤ℤ d.high → FitInDim d.low d.extent first second
fit_in_dim d first second sound a b e =
    let low = sound.valid.low in
    let high = sound.valid.high in
    let extent = sound.valid.extent in
    record {
      low_fits = omega (arith, ints, low.above, low.below);
      extent_fits = omega (arith, ints, extent.above, extent.below);
      first_fits = omega (arith, ints, low.above, high.below);
      second_fits = omega (arith, ints, low.above, high.below);
      offset = omega (arith, ints, low.above, high.below);
      apart = omega (arith, ints, low.above, high.below);
    }

pub MatchBool-from : {P Q : Type 0} (b : Bool) → (b ≡ true → P) → (b ≡ false → Q) → MatchBool b P Q
MatchBool-from true p q = p refl
MatchBool-from false p q = q refl
