use Rattle.std.proofs.Common.{◌≤◌, ◌++◌, ◌∷◌, [], length, ap, ◌∙◌, arith}
use Rattle.ts_order.specs.Orders.{coords_in_order}
use Rattle.ts_order.proofs.OrderedCoords.{length-coords_in_order}
use Rattle.ts_gather.proofs.PartLaws.{fewer}
use Rattle.ts_writer.specs.Spots.{spot_in}
use Rattle.ts_writer.proofs.SpotLists.{mapped_all, mapped_more}
use Rattle.ts_writer.proofs.spots.add_cells.Goals as goal

pub coords_at-at-requires-clause-few : goal.coords_at-at-requires-clause-few
coords_at-at-requires-clause-few c = let less = fewer c.args.cell c.args.sub.now c.args.tile.now c.requires.valid c.requires.within in omega (arith, less, c.requires.few)

pub spot_of-requires-clause-inside : goal.spot_of-requires-clause-inside
spot_of-requires-clause-inside c = c.requires.within c.coords_at-at.result c.coords_at-at.ensures.inside

pub loop-place-preserved : goal.loop-place-preserved
loop-place-preserved c =
    let l = c.loop-place in
    let f = spot_in c.args.layout c.args.sub.now in
    mapped_more f _ l.spots.items _ (coords_in_order c.args.cell c.args.tile.now) l.place c.coords_at-at.result c.coords_at-at.ensures.place l.invariant (c.in_ok-push.ensures.items ∙ ap (λ s. l.spots.items ++ s ∷ []) c.spot_of.ensures)

pub returns : goal.returns
returns c =
    let l = c.loop-place in
    let cells = coords_in_order c.args.cell c.args.tile.now in
    let less = fewer c.args.cell c.args.sub.now c.args.tile.now c.requires.valid c.requires.within in
    let over : length cells ≤ l.place = omega (arith, length-coords_in_order c.args.cell c.args.tile.now c.requires.valid, less, c.requires.few, c.cells-place-end.ensures.capped, c.loop-place-test.false) in
    mapped_all (spot_in c.args.layout c.args.sub.now) _ l.spots.items cells l.place over l.invariant
