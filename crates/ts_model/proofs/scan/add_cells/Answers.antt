-- One more cell is added, with what is left at its coordinates.
use Rattle.std.proofs.Common.{List, length, ◌≤◌, take, [], ◌∷◌, ◌++◌, sym, ◌∙◌, ap, subst, append_assoc}
use Rattle.std.proofs.lemmas.List.{take_more, take_all}
use Rattle.ts_base.specs.declared.heads.Cell.{Cell}
use Rattle.ts_model.specs.Answers.{Cells}
use Rattle.ts_model.specs.Scans.{cells_in, with_shown, Shows, left_by}
use Rattle.ts_model.proofs.Scans.{shows-start, shows-push}
use Rattle.ts_model.proofs.scan.add_cells.Goals as goal

pub loop-cell-init : goal.loop-cell-init
loop-cell-init c = λ before shows. shows-start (left_by c.args.scan.now) (cells_in c.args.cells.now) before shows

pub loop-cell-preserved : goal.loop-cell-preserved
loop-cell-preserved c = λ before shows.
    let f = left_by c.args.scan.now in
    let cell = c.cell-item.result in
    let so_far = take c.loop-cell.cell-index c.args.some.now in
    let m = cells_in c.loop-cell.cells in
    let more = shows-push f m (before ++ so_far) cell (c.loop-cell.invariant before shows) in
    let grown = sym (c.in_ok-add.ensures ∙ ap (with_shown m cell.coords) c.in_ok-shown.ensures) in
    let longer = append_assoc before so_far (cell ∷ []) ∙ ap (λ e. before ++ (so_far ++ e ∷ [])) c.cell-item.is ∙ ap (λ cs. before ++ cs) (sym (take_more c.args.some.now c.loop-cell.cell-index cell c.loop-cell-test.true)) in
    subst (λ (cs : List Cell). Shows f (cells_in c.add.new.cells) cs) longer (subst (λ (n : Cells). Shows f n ((before ++ so_far) ++ cell ∷ [])) grown more)

pub returns : goal.returns
returns c = λ before shows.
    let f = left_by c.args.scan.now in
    let past : length c.args.some.now ≤ c.loop-cell.cell-index = c.loop-cell-test.false in
    subst (λ (cs : List Cell). Shows f (cells_in c.loop-cell.cells) (before ++ cs)) (take_all c.loop-cell.cell-index c.args.some.now past) (c.loop-cell.invariant before shows)
