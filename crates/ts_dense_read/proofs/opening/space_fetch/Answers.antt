-- The objects have room for the cells of the hull, the plan is on parts that have names, and the fetch is the one that is defined.
use Rattle.std.proofs.Common.{◌≡◌, ◌<◌, ◌^◌, List, sym, ap, subst, ◌∙◌, arith}
use Rattle.std.specs.List.{All}
use Rattle.ts_domain.specs.declared.boxes.SubBox.{SubBox}
use Rattle.ts_domain.specs.Boxes.{cells_of}
use Rattle.ts_order.specs.Tiles.{tile_box}
use Rattle.ts_plain.specs.Writes.{box_of}
use Rattle.ts_sparse_read.specs.declared.opened.UsedColumn.{UsedColumn}
use Rattle.ts_sparse_read.specs.Opens.{calls_for}
use Rattle.ts_dense_read.specs.SpaceOpens.{hull_in, space_used}
use Rattle.ts_dense_read.specs.SpaceTakes.{HasRoom, tiles_met}
use Rattle.ts_dense_read.proofs.RoomLaws.{used_room}
use Rattle.ts_dense_read.proofs.BeginLaws.{plan_named, fetch_is}
use Rattle.ts_dense_read.proofs.opening.space_fetch.Goals as goal

pub tiles_met-requires-clause-few : goal.tiles_met-requires-clause-few
tiles_met-requires-clause-few c =
    let a = c.args in
    let hull_is : c.hull_box-hull.result ≡ hull_in a.footer = c.hull_box-hull.ensures.corners ∙ ap box_of c.as_slice-3.ensures in
    subst (λ (hull : SubBox). cells_of (tile_box a.frame.now.domain hull) < 2 ^ 32) (sym hull_is) (omega (arith, (c.requires.fits).tiles, (c.requires.fits).few))

pub tiles_met-requires-clause-room : goal.tiles_met-requires-clause-room
tiles_met-requires-clause-room c =
    let a = c.args in
    let used = c.in_ok-used.used in
    let hull_is : c.hull_box-hull.result ≡ hull_in a.footer = c.hull_box-hull.ensures.corners ∙ ap box_of c.as_slice-3.ensures in
    let used_is : used ≡ space_used a.attrs.now a.footer a.want.now.attrs =
    c.in_ok-used.ensures ∙ ap (λ l. space_used l a.footer c.as_slice-2.result.now) c.as_slice.ensures ∙ ap (λ w. space_used a.attrs.now a.footer w) c.as_slice-2.ensures in
    let room = used_room a.frame.now a.attrs.now a.frag a.footer a.want.now.attrs used c.requires.fits used_is in
    subst (λ (us : List UsedColumn). All (HasRoom (cells_of c.hull_box-hull.result)) us) (sym c.as_slice-4.ensures) (subst (λ (hull : SubBox). All (HasRoom (cells_of hull)) used) (sym hull_is) room)

pub new-requires-clause-plan : goal.new-requires-clause-plan
new-requires-clause-plan c =
    let a = c.args in
    let used = c.in_ok-used.used in
    let tiles = c.in_ok-tiles.tiles in
    let used_is : used ≡ space_used a.attrs.now a.footer a.want.now.attrs =
    c.in_ok-used.ensures ∙ ap (λ l. space_used l a.footer c.as_slice-2.result.now) c.as_slice.ensures ∙ ap (λ w. space_used a.attrs.now a.footer w) c.as_slice-2.ensures in
    let tiles_are : tiles ≡ tiles_met a.frame.now c.hull_box-hull.result used a.want.now.sub = c.in_ok-tiles.ensures ∙ ap (λ us. tiles_met a.frame.now c.hull_box-hull.result us a.want.now.sub) c.as_slice-4.ensures in
    let plan_is : c.in_ok-plan.plan.items ≡ calls_for used tiles = c.in_ok-plan.ensures ∙ ap (λ us. calls_for us c.as_slice-6.result.now) c.as_slice-5.ensures ∙ ap (calls_for used) c.as_slice-6.ensures in
    plan_named a.frame.now a.attrs.now a.footer a.want.now.attrs used c.hull_box-hull.result a.want.now.sub tiles c.in_ok-plan.plan.items c.requires.few used_is tiles_are plan_is

pub returns-clause-is : goal.returns-clause-is
returns-clause-is c =
    let a = c.args in
    let used = c.in_ok-used.used in
    let tiles = c.in_ok-tiles.tiles in
    let hull_is : c.hull_box-hull.result ≡ hull_in a.footer = c.hull_box-hull.ensures.corners ∙ ap box_of c.as_slice-3.ensures in
    let used_is : used ≡ space_used a.attrs.now a.footer a.want.now.attrs =
    c.in_ok-used.ensures ∙ ap (λ l. space_used l a.footer c.as_slice-2.result.now) c.as_slice.ensures ∙ ap (λ w. space_used a.attrs.now a.footer w) c.as_slice-2.ensures in
    let tiles_are : tiles ≡ tiles_met a.frame.now (hull_in a.footer) used a.want.now.sub =
    c.in_ok-tiles.ensures ∙ ap (λ us. tiles_met a.frame.now c.hull_box-hull.result us a.want.now.sub) c.as_slice-4.ensures ∙ ap (λ hull. tiles_met a.frame.now hull used a.want.now.sub) hull_is in
    let plan_is : c.in_ok-plan.plan.items ≡ calls_for used tiles = c.in_ok-plan.ensures ∙ ap (λ us. calls_for us c.as_slice-6.result.now) c.as_slice-5.ensures ∙ ap (calls_for used) c.as_slice-6.ensures in
    fetch_is a.frame.now a.attrs.now a.frag a.want.now a.footer used tiles c.in_ok-plan.plan.items c.in_ok-copy.field-0 c.in_ok-copy_of.field-0 c.new.result c.new.ensures.is c.in_ok-copy.ensures c.in_ok-copy_of.ensures used_is tiles_are plan_is
