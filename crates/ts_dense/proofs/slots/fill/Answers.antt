-- The next slot is filled, with or without a version.
use Rattle.std.proofs.Common.{◌≤◌, ◌+◌, length, sym, ap, ◌∙◌, arith}
use Rattle.ts_order.specs.Orders.{coords_in_order}
use Rattle.ts_order.proofs.OrderedCoords.{length-coords_in_order}
use Rattle.ts_piece.specs.Spots.{spotted}
use Rattle.ts_dense.proofs.FillLaws.{taken_one, taken_none, filling_more, filled_all}
use Rattle.ts_dense.proofs.slots.fill.Goals as goal
use Rattle.ts_dense.proofs.slots.fill.Goals.{then-taken, else-taken}

pub loop-place-preserved : goal.loop-place-preserved
loop-place-preserved c =
    let l = c.loop-place in
    let s = c.version_at-slot.result in
    elim c.if-taken.branch [
      | then-taken w ↦
          filling_more c.args.slots.now.items l.slots.items c.push.new.self.items (coords_in_order c.args.order c.args.tile.now) (spotted c.args.batches.now c.args.spots.now) c.args.first l.place l.next c.if-taken.next c.coords_at-at.result s l.invariant c.coords_at-at.ensures.place
          c.version_at-slot.ensures c.in_ok-push.ensures.items (w.next-is ∙ ap (λ n. l.next + n) (sym (taken_one s c.is_some-taken.result c.is_some-taken.ensures w.if-taken.true)))
      | else-taken w ↦
          filling_more c.args.slots.now.items l.slots.items c.push.new.self.items (coords_in_order c.args.order c.args.tile.now) (spotted c.args.batches.now c.args.spots.now) c.args.first l.place l.next c.if-taken.next c.coords_at-at.result s l.invariant c.coords_at-at.ensures.place
          c.version_at-slot.ensures c.in_ok-push.ensures.items (omega (arith, w.next-is, taken_none s c.is_some-taken.result c.is_some-taken.ensures w.if-taken.false))
    ]

pub returns : goal.returns
returns c =
    let l = c.loop-place in
    let coords = coords_in_order c.args.order c.args.tile.now in
    let over : length coords ≤ l.place = omega (arith, length-coords_in_order c.args.order c.args.tile.now c.requires.valid, c.in_ok-cells.ensures.cells, c.loop-place-test.false) in
    filled_all c.args.slots.now.items l.slots.items coords (spotted c.args.batches.now c.args.spots.now) c.args.first l.place l.next l.invariant over
