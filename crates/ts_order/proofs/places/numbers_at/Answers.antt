use Rattle.std.proofs.Common.{rules, arith, ◌≡◌, ◌≤◌, ◌-◌, length, refl, FitsSigned, to_z-of_z}
use Rattle.std.specs.Prelude.{IsTrue}
use Rattle.std.specs.Int.{w128}
use Rattle.ts_domain.specs.Bounds.{are_bounds}
use Rattle.ts_order.proofs.PlaceSteps.{written_none, written_more}
use Rattle.ts_order.proofs.places.numbers_at.Goals as goal

pub loop-done-init : goal.loop-done-init
loop-done-init c =
    let low = c.as_slice-low.result.now in
    let high = c.as_slice-high.result.now in
    let bounds : IsTrue (are_bounds low high) = rw (c.as_slice-low.ensures, c.as_slice-high.ensures) c.requires.valid in
    let room : length low ≤ 8 = rw c.as_slice-low.ensures (omega arith) in
    let left : length low - 0 ≡ length low = omega arith in
    rw left (written_none c.args.order low high c.args.position bounds room _ refl (rw (c.as_slice-low.ensures, c.as_slice-high.ensures) c.requires.below))

pub loop-done-preserved : goal.loop-done-preserved
loop-done-preserved c =
    let low = c.as_slice-low.result.now in
    let high = c.as_slice-high.result.now in
    let bounds : IsTrue (are_bounds low high) = rw (c.as_slice-low.ensures, c.as_slice-high.ensures) c.requires.valid in
    let count : c.len-count.result ≡ length low = rw c.as_slice-low.ensures c.len-count.ensures.count in
    let room : length low ≤ 8 = omega (arith, count) in
    let fits : FitsSigned w128 c.number_at.result = search rules in
    rw (to_z-of_z fits, c.dim_at-dim.ensures.value, count)
    (written_more c.args.order low high c.args.position bounds room c.loop-done.done c.loop-done.rest c.side_at-side.result c.loop-done.numbers c.number_at.result (omega (arith, count)) c.loop-done.invariant
    (rw (c.dim_at-dim.ensures.value, count) at c.side_at-side.ensures.value) (rw (c.dim_at-dim.ensures.value, count) at c.number_at.ensures))
