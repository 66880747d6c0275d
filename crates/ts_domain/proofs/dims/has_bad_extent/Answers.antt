use Rattle.std.proofs.Common.{arith, ◌≡◌, to_z-of_z, FitsSigned, pos, ◌+ℤ◌, ◌-ℤ◌, false, sym, ap}
use Rattle.std.specs.Prelude.{int_lt, ◌||◌}
use Rattle.std.specs.Int.{w128}
use Rattle.std.proofs.lemmas.Int.{ints}
use Rattle.ts_domain.proofs.dims.has_bad_extent.Goals as goal

pub returns-else-dim-lt1 : goal.returns-else-dim-lt1
returns-else-dim-lt1 c =
    let d = c.args.dim.now in
    let v = c.requires in
    let low : FitsSigned w128 d.low = omega (arith, ints, v.low.above, v.low.below) in
    let high : FitsSigned w128 d.high = omega (arith, ints, v.high.above, v.high.below) in
    let extent : FitsSigned w128 d.extent = omega (arith, ints, v.extent.above, v.extent.below) in
    let distance : FitsSigned w128 (d.high -ℤ d.low) = omega (arith, ints, v.low.above, v.low.below, v.high.above, v.high.below) in
    let count : FitsSigned w128 (d.high -ℤ d.low +ℤ pos 1) = omega (arith, ints, v.low.above, v.low.below, v.high.above, v.high.below) in
    let some : int_lt d.extent (pos 1) ≡ false = rw (to_z-of_z extent) at c.if-dim-lt1.false in
    rw (to_z-of_z low, to_z-of_z high, to_z-of_z extent, to_z-of_z distance, to_z-of_z count)
    (sym (ap (λ b. b || int_lt (d.high -ℤ d.low +ℤ pos 1) d.extent) some))
