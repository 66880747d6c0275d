use Rattle.std.proofs.Common.{arith, ◌≡◌, ◌^◌, ◌-◌, min, ap, ◌∙◌, Some, ◌++◌, ◌∷◌, []}
use Rattle.std.specs.Prelude.{slice_get}
use Rattle.ts_domain.specs.Boxes.{cells_of}
use Rattle.ts_order.specs.Orders.{coords_in_order}
use Rattle.ts_order.specs.Tiles.{cut_box, tile_box}
use Rattle.ts_order.proofs.TilesLemmas.{IsBox-tile_box, cells_of-tile_box, tiles_more, tiles_all, AreTiles-tiles_in}
use Rattle.ts_order.proofs.tiles.tiles_of.Goals as goal

pub cells-place-end-requires : goal.cells-place-end-requires
cells-place-end-requires c =
    rw (c.tile_box-numbers.ensures, c.as_slice-dims.ensures.value) (IsBox-tile_box c.args.domain.now c.args.tile c.args.sub.now c.as_slice-dims.ensures.sound c.requires.valid c.requires.inside)

pub coords_at-number-requires-clause-valid : goal.coords_at-number-requires-clause-valid
coords_at-number-requires-clause-valid c =
    rw (c.tile_box-numbers.ensures, c.as_slice-dims.ensures.value) (IsBox-tile_box c.args.domain.now c.args.tile c.args.sub.now c.as_slice-dims.ensures.sound c.requires.valid c.requires.inside)

pub coords_at-number-requires-clause-few : goal.coords_at-number-requires-clause-few
coords_at-number-requires-clause-few c =
    let few = cells_of-tile_box c.args.domain.now c.args.tile c.args.sub.now c.as_slice-dims.ensures.sound c.requires.valid c.requires.inside in
    rw (c.tile_box-numbers.ensures, c.as_slice-dims.ensures.value) (omega (arith, few, c.requires.few))

pub loop-place-preserved : goal.loop-place-preserved
loop-place-preserved c =
    let dims = c.args.domain.now in
    let sub = c.args.sub.now in
    let numbers : c.tile_box-numbers.result ≡ tile_box dims sub = rw (← c.as_slice-dims.ensures.value) c.tile_box-numbers.ensures in
    let number : slice_get (coords_in_order c.args.tile (tile_box dims sub)) c.loop-place.place ≡ Some c.coords_at-number.result = rw numbers at c.coords_at-number.ensures.place in
    let cut : c.cut_box.result ≡ cut_box dims sub c.coords_at-number.result = rw (← c.as_slice-dims.ensures.value) c.cut_box.ensures in
    c.in_ok-push.ensures.ok ∙ ap (λ t. c.loop-place.tiles ++ t ∷ []) cut
    ∙ tiles_more dims c.args.tile sub c.as_slice-dims.ensures.sound c.requires.valid c.requires.inside c.loop-place.place c.coords_at-number.result c.loop-place.tiles number c.loop-place.invariant

pub returns-clause-value : goal.returns-clause-value
returns-clause-value c =
    let dims = c.args.domain.now in
    let sub = c.args.sub.now in
    let few = cells_of-tile_box dims c.args.tile sub c.as_slice-dims.ensures.sound c.requires.valid c.requires.inside in
    let count : c.cells-place-end.result ≡ min (cells_of (tile_box dims sub)) (2 ^ 64 - 1) = rw (c.tile_box-numbers.ensures, c.as_slice-dims.ensures.value) at c.cells-place-end.ensures.capped in
    tiles_all dims c.args.tile sub c.as_slice-dims.ensures.sound c.requires.valid c.requires.inside c.loop-place.place c.loop-place.tiles (omega (arith, few, count, c.requires.few)) c.loop-place.invariant

pub returns-clause-tiles : goal.returns-clause-tiles
returns-clause-tiles c =
    rw (returns-clause-value c) (AreTiles-tiles_in c.args.domain.now c.args.tile c.args.sub.now c.as_slice-dims.ensures.sound c.requires.valid c.requires.inside)
