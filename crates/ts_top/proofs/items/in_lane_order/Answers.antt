-- The lines of one more lane are there.
use Rattle.std.proofs.Common.{◌≡◌, ◌+◌, ◌-◌, ◌++◌, suc, ap, sym, ◌∙◌, append_assoc, arith}
use Rattle.ts_law.specs.Fresh.{by_lanes, lines_in}
use Rattle.ts_top.specs.Items.{numbered}
use Rattle.ts_top.proofs.items.in_lane_order.Goals as goal

pub loop-lane-preserved : goal.loop-lane-preserved
loop-lane-preserved c =
    let lane = c.loop-lane.lane in
    let lines = c.args.lines.now in
    let before = numbered c.loop-lane.items.items in
    let rest = by_lanes (8 - (lane + 1)) (lane + 1) lines in
    let next : 8 - lane ≡ suc (8 - (lane + 1)) = omega (arith, c.loop-lane-test.true) in
    ap (λ xs. xs ++ rest) c.in_ok-push_lane.ensures ∙ append_assoc before (lines_in lane 1 lines) rest ∙ ap (λ xs. before ++ xs) (sym (ap (λ n. by_lanes n lane lines) next)) ∙ c.loop-lane.invariant
