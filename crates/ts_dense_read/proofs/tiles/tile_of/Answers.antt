-- The part of the hull in the tile is a box in the hull, and the tile is the one that is defined.
use Rattle.std.proofs.Common.{◌+◌, List, sym, ap, subst, ◌∙◌}
use Rattle.std.specs.Prelude.{IsTrue}
use Rattle.ts_domain.specs.declared.dims.Dim.{Dim}
use Rattle.ts_domain.specs.declared.boxes.SubBox.{SubBox}
use Rattle.ts_domain.specs.Boxes.{IsBox, is_in_box, cells_of}
use Rattle.ts_order.specs.Tiles.{cut_box}
use Rattle.ts_dense_read.proofs.RoomLaws.{rooms_less}
use Rattle.ts_dense_read.proofs.MeetTiles.{leaf_valid, leaf_low, leaf_high, tile_room, tile_made}
use Rattle.ts_dense_read.proofs.tiles.tile_of.Goals as goal

pub cells-cells-requires : goal.cells-cells-requires
cells-cells-requires c =
    let a = c.args in
    let reached = subst (λ (b : SubBox). IsTrue (is_in_box b a.number.now)) c.requires.numbers c.requires.reached in
    let is = c.part_of-leaf.ensures ∙ ap (λ (ds : List Dim). cut_box ds a.hull.now a.number.now) c.as_slice-dims.ensures.value in
    subst IsBox (sym is) (leaf_valid a.frame.now a.hull.now c.as_slice-dims.ensures.sound c.requires.valid c.requires.inside a.number.now reached)

pub cells_before-before-requires-clause-valid : goal.cells_before-before-requires-clause-valid
cells_before-before-requires-clause-valid c =
    let a = c.args in
    let reached = subst (λ (b : SubBox). IsTrue (is_in_box b a.number.now)) c.requires.numbers c.requires.reached in
    let is = c.part_of-leaf.ensures ∙ ap (λ (ds : List Dim). cut_box ds a.hull.now a.number.now) c.as_slice-dims.ensures.value in
    subst IsBox (sym is) (leaf_valid a.frame.now a.hull.now c.as_slice-dims.ensures.sound c.requires.valid c.requires.inside a.number.now reached)

pub cells_before-before-requires-clause-low : goal.cells_before-before-requires-clause-low
cells_before-before-requires-clause-low c =
    let a = c.args in
    let reached = subst (λ (b : SubBox). IsTrue (is_in_box b a.number.now)) c.requires.numbers c.requires.reached in
    let is = c.part_of-leaf.ensures ∙ ap (λ (ds : List Dim). cut_box ds a.hull.now a.number.now) c.as_slice-dims.ensures.value in
    subst (λ (b : SubBox). IsTrue (is_in_box a.hull.now b.low)) (sym is) (leaf_low a.frame.now a.hull.now c.as_slice-dims.ensures.sound c.requires.valid c.requires.inside a.number.now reached)

pub cells_before-before-requires-clause-high : goal.cells_before-before-requires-clause-high
cells_before-before-requires-clause-high c =
    let a = c.args in
    let reached = subst (λ (b : SubBox). IsTrue (is_in_box b a.number.now)) c.requires.numbers c.requires.reached in
    let is = c.part_of-leaf.ensures ∙ ap (λ (ds : List Dim). cut_box ds a.hull.now a.number.now) c.as_slice-dims.ensures.value in
    subst (λ (b : SubBox). IsTrue (is_in_box a.hull.now b.high)) (sym is) (leaf_high a.frame.now a.hull.now c.as_slice-dims.ensures.sound c.requires.valid c.requires.inside a.number.now reached)

pub spans_of-requires : goal.spans_of-requires
spans_of-requires c =
    let a = c.args in
    let reached = subst (λ (b : SubBox). IsTrue (is_in_box b a.number.now)) c.requires.numbers c.requires.reached in
    let is = c.part_of-leaf.ensures ∙ ap (λ (ds : List Dim). cut_box ds a.hull.now a.number.now) c.as_slice-dims.ensures.value in
    let room = tile_room a.frame.now a.hull.now c.as_slice-dims.ensures.sound c.requires.valid c.requires.inside a.number.now reached c.part_of-leaf.result c.cells-cells.result c.cells_before-before.result is c.cells-cells.ensures.capped c.cells_before-before.ensures in
    record { room = rooms_less (c.cells_before-before.result + c.cells-cells.result) (cells_of a.hull.now) a.used.now room c.requires.room }

pub returns : goal.returns
returns c =
    let a = c.args in
    let reached = subst (λ (b : SubBox). IsTrue (is_in_box b a.number.now)) c.requires.numbers c.requires.reached in
    let is = c.part_of-leaf.ensures ∙ ap (λ (ds : List Dim). cut_box ds a.hull.now a.number.now) c.as_slice-dims.ensures.value in
    tile_made a.frame.now a.hull.now c.as_slice-dims.ensures.sound c.requires.valid c.requires.inside a.number.now reached a.used.now a.numbers.now c.part_of-leaf.result c.cells-cells.result c.cells_before-before.result c.position_of-place.result c.in_ok-spans.spans
    c.requires.few c.requires.numbers is c.cells-cells.ensures.capped c.cells_before-before.ensures c.position_of-place.ensures.place c.in_ok-spans.ensures
