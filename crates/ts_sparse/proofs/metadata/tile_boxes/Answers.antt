-- The first box, and each step: a box more in the leaf that is being made, or the next leaf.
use Rattle.std.proofs.Common.{◌<◌, ◌≤◌, ◌-◌, length, sym, subst, arith}
use Rattle.ts_piece.specs.Spots.{spotted}
use Rattle.ts_rtree.proofs.HullLaws.{Making, making_next_at, making_more_at}
use Rattle.ts_sparse.specs.Laying.{boxes_of}
use Rattle.ts_sparse.proofs.SpotLaws.{spotted_at, spotted_long}
use Rattle.ts_sparse.proofs.TileBoxes.{box_at, box_within, first_made, next_like}
use Rattle.ts_sparse.proofs.metadata.tile_boxes.Goals as goal
use Rattle.ts_sparse.proofs.metadata.tile_boxes.Goals.{then-left-eq0+in_ok-push, else-left-eq0}

pub loop-place-init : goal.loop-place-init
loop-place-init c =
    let batches = c.args.batches.now in
    let spots = c.args.spots.now in
    let versions = spotted batches spots in
    let first = c.cell_at.result in
    let long = spotted_long batches spots in
    let some : 1 ≤ length versions = omega (arith, c.requires.some, long) in
    subst (λ done. Making c.args.tile (boxes_of versions) done (c.args.tile - 1) c.cell_box-hull.result 1) (sym c.new-leaves.ensures)
    (first_made c.args.tile versions first c.cell_box-hull.result some (spotted_at batches spots 0 _ first c.requires.some c.cell_at.ensures) c.cell_box-hull.ensures c.requires.alike)

pub hull-hull-requires-clause-that : goal.hull-hull-requires-clause-that
hull-hull-requires-clause-that c =
    let l = c.loop-place in
    let batches = c.args.batches.now in
    let spots = c.args.spots.now in
    let next = c.cell_at-in-loop-place.result in
    let long = spotted_long batches spots in
    let within : l.place < length (spotted batches spots) = omega (arith, c.loop-place-test.true, long) in
    (next_like c.args.tile (spotted batches spots) l.leaves l.left l.place l.hull c.cell_box-next.result next l.invariant within (spotted_at batches spots l.place _ next c.loop-place-test.true c.cell_at-in-loop-place.ensures) c.cell_box-next.ensures).valid

pub hull-hull-requires-clause-dims : goal.hull-hull-requires-clause-dims
hull-hull-requires-clause-dims c =
    let l = c.loop-place in
    let batches = c.args.batches.now in
    let spots = c.args.spots.now in
    let next = c.cell_at-in-loop-place.result in
    let long = spotted_long batches spots in
    let within : l.place < length (spotted batches spots) = omega (arith, c.loop-place-test.true, long) in
    (next_like c.args.tile (spotted batches spots) l.leaves l.left l.place l.hull c.cell_box-next.result next l.invariant within (spotted_at batches spots l.place _ next c.loop-place-test.true c.cell_at-in-loop-place.ensures) c.cell_box-next.ensures).dims

pub loop-place-preserved : goal.loop-place-preserved
loop-place-preserved c =
    let l = c.loop-place in
    let batches = c.args.batches.now in
    let spots = c.args.spots.now in
    let versions = spotted batches spots in
    let box = c.cell_box-next.result in
    let next = c.cell_at-in-loop-place.result in
    let long = spotted_long batches spots in
    let below : l.place < length versions = omega (arith, c.loop-place-test.true, long) in
    let at = box_at versions l.place next box below (spotted_at batches spots l.place _ next c.loop-place-test.true c.cell_at-in-loop-place.ensures) c.cell_box-next.ensures in
    let within = box_within versions l.place below in
    elim c.if-left-eq0.branch [
      | then-left-eq0+in_ok-push w ↦ making_next_at c.args.tile (boxes_of versions) l.leaves _ _ l.left _ l.place l.hull box _ l.invariant w.if-left-eq0.true within at w.in_ok-push.ensures.ok w.leaves-is w.left-is w.hull-is
      | else-left-eq0 w ↦ making_more_at c.args.tile (boxes_of versions) l.leaves _ l.left _ l.place l.hull box _ _ l.invariant w.if-left-eq0.false within at w.hull-hull.ensures.corners w.leaves-is w.left-is w.hull-is
    ]
