use Rattle.std.proofs.Common.{◌≡◌, ◌+◌, ◌<◌, length, drop, sym, ap, ◌∙◌, get_or, arith}
use Rattle.ts_domain.specs.Bounds.{least_corner, greatest_corner}
use Rattle.ts_domain.specs.declared.boxes.SubBox.{SubBox}
use Rattle.ts_order.proofs.OrderLemmas.{length-is_in_domain}
use Rattle.ts_table.specs.Tables.{no_version, version_or}
use Rattle.ts_model.specs.Commands.{least_of_cells, greatest_of_cells}
use Rattle.ts_writer.specs.Tables.{cell_in, cells_in}
use Rattle.ts_writer.proofs.LaidTables.{cell_there, length-cells_in}
use Rattle.ts_writer.proofs.Hulls.{low_first, high_first, low_more, high_more, low_stays, high_stays, least_inside, greatest_inside, length-least_corner}
use Rattle.ts_writer.proofs.pieces.hull_of.Goals as goal

pub loop-place-init : goal.loop-place-init
loop-place-init c =
    let vs = c.args.table.now in
    let cells = cells_in vs in
    let cell = cell_in (version_or vs 0) in
    let is : cell ≡ get_or cells 0 cell = sym (cell_there vs 0 cell c.requires.some) in
    let some : 0 < length cells = omega (arith, length-cells_in vs, c.requires.some) in
    let inside = c.requires.inside 0 no_version c.requires.some in
    let low : c.box_of-hull.result.low ≡ cell.coords = ap (λ (b : SubBox). b.low) c.box_of-hull.ensures.value ∙ c.coords.ensures in
    let high : c.box_of-hull.result.high ≡ cell.coords = ap (λ (b : SubBox). b.high) c.box_of-hull.ensures.value ∙ c.coords.ensures in (
      c.box_of-hull.ensures.valid,
      ap length low ∙ length-is_in_domain c.args.domain.now cell.coords inside,
      ap (λ corner. least_of_cells corner cells) low ∙ low_first cells cell some is,
      ap (λ corner. greatest_of_cells corner cells) high ∙ high_first cells cell some is,
    )

pub hull-hull-requires-clause-dims : goal.hull-hull-requires-clause-dims
hull-hull-requires-clause-dims c =
    let vs = c.args.table.now in
    let place = c.loop-place.place in
    let inside = c.requires.inside place no_version (omega arith) in
    ap (λ (b : SubBox). length b.low) c.box_of.ensures.value ∙ ap length c.coords-at.ensures ∙ length-is_in_domain c.args.domain.now (version_or vs place).coords inside ∙ sym c.loop-place.invariant.1

-- a cell that lies in the hull so far leaves it as it is
pub loop-place-preserved-then-contains : goal.loop-place-preserved-then-contains
loop-place-preserved-then-contains c =
    let vs = c.args.table.now in
    let cells = cells_in vs in
    let place = c.loop-place.place in
    let cell = cell_in (version_or vs place) in
    let below : place < length vs = omega arith in
    let lt : place < length cells = omega (arith, length-cells_in vs, below) in
    let is : cell ≡ get_or cells place cell = sym (cell_there vs place cell below) in
    let hull = c.loop-place.hull in
    let at : c.coords-at.result ≡ cell.coords = c.coords-at.ensures in
    let inside = rw at at (sym c.contains.ensures ∙ c.if-contains.true) in (
      c.loop-place.invariant.0,
      c.loop-place.invariant.1,
      low_stays cells place cell hull.low _ lt is (least_inside hull.low hull.high cell.coords inside) c.loop-place.invariant.2,
      high_stays cells place cell hull.high _ lt is (greatest_inside hull.low hull.high cell.coords inside) c.loop-place.invariant.3,
    )

pub loop-place-preserved : goal.loop-place-preserved
loop-place-preserved c =
    let vs = c.args.table.now in
    let cells = cells_in vs in
    let place = c.loop-place.place in
    let cell = cell_in (version_or vs place) in
    let below : place < length vs = omega arith in
    let lt : place < length cells = omega (arith, length-cells_in vs, below) in
    let is : cell ≡ get_or cells place cell = sym (cell_there vs place cell below) in
    let hull = c.loop-place.hull in
    let inside = c.requires.inside place no_version below in
    let long = length-is_in_domain c.args.domain.now cell.coords inside ∙ sym c.loop-place.invariant.1 in
    let low = ap (λ (b : SubBox). b.low) c.hull-hull.ensures.corners ∙ ap (λ (b : SubBox). least_corner hull.low b.low) c.box_of.ensures.value ∙ ap (least_corner hull.low) c.coords-at.ensures in
    let high = ap (λ (b : SubBox). b.high) c.hull-hull.ensures.corners ∙ ap (λ (b : SubBox). greatest_corner hull.high b.high) c.box_of.ensures.value ∙ ap (greatest_corner hull.high) c.coords-at.ensures in (
      c.hull-hull.ensures.valid,
      ap length low ∙ length-least_corner hull.low cell.coords long ∙ c.loop-place.invariant.1,
      ap (λ corner. least_of_cells corner (drop (place + 1) cells)) low ∙ low_more cells place cell hull.low _ lt is c.loop-place.invariant.2,
      ap (λ corner. greatest_of_cells corner (drop (place + 1) cells)) high ∙ high_more cells place cell hull.high _ lt is c.loop-place.invariant.3,
    )
