-- The plan is on parts that have names, and the fetch is the one that is defined.
use Rattle.std.proofs.Common.{◌≡◌, ◌≤◌, length, ap, ◌∙◌, arith}
use Rattle.std.specs.Prelude.{max}
use Rattle.ts_footer.specs.Footers.{leaves_in}
use Rattle.ts_sparse_read.specs.Opens.{used_in, calls_for}
use Rattle.ts_sparse_read.specs.Fits.{tiles_over}
use Rattle.ts_sparse_read.proofs.OpenLaws.{plan_named, tree_leaves, fetch_is}
use Rattle.ts_sparse_read.proofs.opening.fetch_for.Goals as goal

pub tiles_of-requires-clause-leaves : goal.tiles_of-requires-clause-leaves
tiles_of-requires-clause-leaves c = tree_leaves c.args.frame.now c.args.attrs.now c.args.frag c.args.footer c.requires.fits c.requires.hull

pub new-requires-clause-plan : goal.new-requires-clause-plan
new-requires-clause-plan c =
    let a = c.args in
    let used = c.in_ok-used.used in
    let tiles = c.in_ok-tiles.tiles in
    let few : length a.frame.now.domain ≤ 8 = omega (arith, c.count-count.ensures.count, c.count-count.ensures.room) in
    let used_is : used ≡ used_in a.frame.now a.attrs.now a.footer a.want.now.attrs =
    c.in_ok-used.ensures ∙ ap (λ l. used_in a.frame.now l a.footer c.as_slice-2.result.now) c.as_slice.ensures ∙ ap (λ w. used_in a.frame.now a.attrs.now a.footer w) c.as_slice-2.ensures in
    let tiles_are : tiles ≡ tiles_over a.frame.now.domain (max a.frame.now.capacity 1) a.footer.head.cells (leaves_in a.footer.tree) used a.want.now.sub =
    c.in_ok-tiles.ensures ∙ ap (λ us. tiles_over a.frame.now.domain (max a.frame.now.capacity 1) a.footer.head.cells (leaves_in a.footer.tree) us a.want.now.sub) c.as_slice-3.ensures in
    let plan_is : c.in_ok-plan.plan.items ≡ calls_for used tiles = c.in_ok-plan.ensures ∙ ap (λ us. calls_for us c.as_slice-5.result.now) c.as_slice-4.ensures ∙ ap (calls_for used) c.as_slice-5.ensures in
    plan_named a.frame.now a.attrs.now a.footer a.want.now.attrs used (max a.frame.now.capacity 1) a.footer.head.cells (leaves_in a.footer.tree) a.want.now.sub tiles c.in_ok-plan.plan.items few c.requires.few used_is tiles_are plan_is

pub returns-clause-is : goal.returns-clause-is
returns-clause-is c =
    let a = c.args in
    let used = c.in_ok-used.used in
    let tiles = c.in_ok-tiles.tiles in
    let used_is : used ≡ used_in a.frame.now a.attrs.now a.footer a.want.now.attrs =
    c.in_ok-used.ensures ∙ ap (λ l. used_in a.frame.now l a.footer c.as_slice-2.result.now) c.as_slice.ensures ∙ ap (λ w. used_in a.frame.now a.attrs.now a.footer w) c.as_slice-2.ensures in
    let tiles_are : tiles ≡ tiles_over a.frame.now.domain (max a.frame.now.capacity 1) a.footer.head.cells (leaves_in a.footer.tree) used a.want.now.sub =
    c.in_ok-tiles.ensures ∙ ap (λ us. tiles_over a.frame.now.domain (max a.frame.now.capacity 1) a.footer.head.cells (leaves_in a.footer.tree) us a.want.now.sub) c.as_slice-3.ensures in
    let plan_is : c.in_ok-plan.plan.items ≡ calls_for used tiles = c.in_ok-plan.ensures ∙ ap (λ us. calls_for us c.as_slice-5.result.now) c.as_slice-4.ensures ∙ ap (calls_for used) c.as_slice-5.ensures in
    fetch_is a.frame.now a.attrs.now a.frag a.want.now a.footer used tiles c.in_ok-plan.plan.items c.in_ok-copy.field-0 c.in_ok-copy_of.field-0 c.new.result c.new.ensures.is c.in_ok-copy.ensures c.in_ok-copy_of.ensures used_is tiles_are plan_is
