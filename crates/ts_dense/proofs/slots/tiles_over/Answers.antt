-- The hull is a box of the domain, and its tiles are boxes.
use Rattle.std.proofs.Common.{◌≡◌, sym, ap, ◌∙◌, subst}
use Rattle.std.specs.List.{All}
use Rattle.std.proofs.lemmas.Result.{IfOk-weaker}
use Rattle.ts_base.specs.declared.heads.Head.{Head}
use Rattle.ts_domain.specs.declared.boxes.SubBox.{SubBox}
use Rattle.ts_domain.specs.Boxes.{IsBox}
use Rattle.ts_domain.specs.Domains.{LiesInDomain}
use Rattle.ts_order.specs.Tiles.{tiles_in, AreTiles}
use Rattle.ts_dense.specs.Slots.{tiles_over}
use Rattle.ts_dense.specs.Laying.{hull_of_head}
use Rattle.ts_dense.proofs.FillLaws.{hull_is, hull_valid, hull_inside, each_is_box}
use Rattle.ts_dense.proofs.slots.tiles_over.Goals as goal

-- the corners of a head
abbrev corners : Head → SubBox
corners head = record { low = head.low; high = head.high }

pub count-requires : goal.count-requires
count-requires c =
    subst (λ head. IsBox (corners head)) (sym c.head-head.ensures) (hull_valid c.args.frame.now c.args.schema.now.attrs c.args.piece.now c.requires.names c.requires.fits)

pub tiles_of-requires-clause-valid : goal.tiles_of-requires-clause-valid
tiles_of-requires-clause-valid c =
    subst (λ head. IsBox (corners head)) (sym c.head-head.ensures) (hull_valid c.args.frame.now c.args.schema.now.attrs c.args.piece.now c.requires.names c.requires.fits)

pub tiles_of-requires-clause-inside : goal.tiles_of-requires-clause-inside
tiles_of-requires-clause-inside c =
    subst (λ head. LiesInDomain c.args.frame.now.domain (corners head)) (sym c.head-head.ensures) (hull_inside c.args.frame.now c.args.schema.now.attrs c.args.piece.now c.requires.names c.requires.fits)

pub returns-clause-tiles : goal.returns-clause-tiles
returns-clause-tiles c =
    let frame = c.args.frame.now in
    let head = c.head-head.result.now in
    IfOk-weaker c.tiles_of.result (λ tiles. tiles ≡ tiles_in frame.domain frame.tile (corners head)) (λ tiles. tiles ≡ tiles_over frame (hull_of_head c.args.piece.now.head))
    (λ tiles is. is ∙ ap (λ h. tiles_over frame (corners h)) c.head-head.ensures ∙ ap (tiles_over frame) (sym (hull_is c.args.piece.now.head c.requires.names.corners))) c.tiles_of.ensures.value

pub returns-clause-valid : goal.returns-clause-valid
returns-clause-valid c =
    let frame = c.args.frame.now in
    let hull = corners c.head-head.result.now in
    IfOk-weaker c.tiles_of.result (AreTiles frame.domain frame.tile hull) (All IsBox) (each_is_box frame.domain frame.tile hull) c.tiles_of.ensures.tiles
