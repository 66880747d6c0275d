-- The cells of one more deed are added, until all were.
use Rattle.std.proofs.Common.{List, length, ◌≤◌, take, [], ◌∷◌, ◌++◌, sym, ◌∙◌, ap, subst}
use Rattle.std.specs.FinMap as finite
use Rattle.std.specs.Ordering.{int_cmp}
use Rattle.std.specs.Cmp.Lexicographic.{slice_cmp}
use Rattle.std.proofs.lemmas.List.{take_more, take_all}
use Rattle.ts_base.specs.declared.heads.Cell.{Cell}
use Rattle.ts_model.specs.declared.deeds.Deed.{Deed}
use Rattle.ts_model.specs.Scans.{cells_in, cells_of_deeds, Shows, left_by}
use Rattle.ts_model.proofs.Scans.{shows-none, cells_of_deeds-push, all_left}
use Rattle.ts_model.proofs.scan.left_cells.Goals as goal

pub loop-deed-init : goal.loop-deed-init
loop-deed-init c =
    let f = left_by c.args.scan.now in
    subst (λ es. Shows f (finite.from_entries {R = slice_cmp int_cmp} es) []) (sym c.new-cells.ensures.empty) (shows-none f)

pub loop-deed-preserved : goal.loop-deed-preserved
loop-deed-preserved c =
    let f = left_by c.args.scan.now in
    let d = c.deed-item.result in
    let so_far = take c.loop-deed.deed-index c.args.scan.now.deeds.now in
    let longer =
    sym (cells_of_deeds-push so_far d) ∙ ap (λ (e : Deed). cells_of_deeds (so_far ++ e ∷ [])) c.deed-item.is
    ∙ ap cells_of_deeds (sym (take_more c.args.scan.now.deeds.now c.loop-deed.deed-index d c.loop-deed-test.true)) in
    subst (λ (cs : List Cell). Shows f (cells_in c.add_deed.new.cells) cs) longer (c.in_ok-add_deed.ensures (cells_of_deeds so_far) c.loop-deed.invariant)

pub returns : goal.returns
returns c =
    let deeds = c.args.scan.now.deeds.now in
    let past : length deeds ≤ c.loop-deed.deed-index = c.loop-deed-test.false in
    all_left deeds c.args.scan.now.current.now c.args.scan.now.ready.now c.args.scan.now.from c.args.scan.now.to (cells_in c.loop-deed.cells)
    (subst (λ (ds : List Deed). Shows (left_by c.args.scan.now) (cells_in c.loop-deed.cells) (cells_of_deeds ds)) (take_all c.loop-deed.deed-index deeds past) c.loop-deed.invariant)
