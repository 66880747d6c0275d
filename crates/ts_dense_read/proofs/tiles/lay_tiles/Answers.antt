-- The range of the numbers is a box among all numbers.
use Rattle.std.proofs.Common.{◌^◌, ◌<◌, List, sym, ap, subst, ◌∙◌, arith}
use Rattle.std.specs.Prelude.{IsTrue}
use Rattle.ts_domain.specs.declared.dims.Dim.{Dim}
use Rattle.ts_domain.specs.declared.boxes.SubBox.{SubBox}
use Rattle.ts_domain.specs.Boxes.{IsBox, is_in_box, cells_of}
use Rattle.ts_order.specs.Tiles.{tile_box}
use Rattle.ts_dense_read.specs.TileRanges.{range_of}
use Rattle.ts_dense_read.proofs.TurnedTiles.{range_box, range_inside, range_few}
use Rattle.ts_dense_read.proofs.tiles.lay_tiles.Goals as goal

pub lay_range-requires-clause-numbers : goal.lay_range-requires-clause-numbers
lay_range-requires-clause-numbers c = c.numbers_of-numbers.ensures ∙ ap (λ (ds : List Dim). tile_box ds c.args.hull.now) c.as_slice-dims.ensures.value

pub lay_range-requires-clause-many : goal.lay_range-requires-clause-many
lay_range-requires-clause-many c =
    let is = c.numbers_of-numbers.ensures ∙ ap (λ (ds : List Dim). tile_box ds c.args.hull.now) c.as_slice-dims.ensures.value in
    subst (λ (b : SubBox). cells_of b < 2 ^ 32) (sym is) c.requires.many

pub lay_range-requires-clause-range : goal.lay_range-requires-clause-range
lay_range-requires-clause-range c =
    let a = c.args in
    let is = c.range_of-range.ensures ∙ ap (λ (ds : List Dim). range_of ds a.hull.now a.sub.now) c.as_slice-dims.ensures.value in
    subst IsBox (sym is) (range_box a.frame.now.domain a.hull.now a.sub.now c.as_slice-dims.ensures.sound c.requires.valid c.requires.inside c.requires.other c.requires.dims c.requires.meet)

pub lay_range-requires-clause-fewer : goal.lay_range-requires-clause-fewer
lay_range-requires-clause-fewer c =
    let a = c.args in
    let is = c.range_of-range.ensures ∙ ap (λ (ds : List Dim). range_of ds a.hull.now a.sub.now) c.as_slice-dims.ensures.value in
    let few = range_few a.frame.now.domain a.hull.now a.sub.now c.as_slice-dims.ensures.sound c.requires.valid c.requires.inside c.requires.other c.requires.dims c.requires.meet in
    subst (λ (b : SubBox). cells_of b < 2 ^ 32) (sym is) (omega (arith, few, c.requires.many))

pub lay_range-requires-clause-among : goal.lay_range-requires-clause-among
lay_range-requires-clause-among c n reached =
    let a = c.args in
    let is = c.range_of-range.ensures ∙ ap (λ (ds : List Dim). range_of ds a.hull.now a.sub.now) c.as_slice-dims.ensures.value in
    let known = c.numbers_of-numbers.ensures ∙ ap (λ (ds : List Dim). tile_box ds a.hull.now) c.as_slice-dims.ensures.value in
    subst (λ (b : SubBox). IsTrue (is_in_box b n)) (sym known)
    (range_inside a.frame.now.domain a.hull.now a.sub.now c.as_slice-dims.ensures.sound c.requires.valid c.requires.inside c.requires.other c.requires.dims c.requires.meet n (subst (λ (b : SubBox). IsTrue (is_in_box b n)) is reached))
