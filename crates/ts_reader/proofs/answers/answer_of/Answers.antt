-- The cells lie in the domain, and each has a value for each attribute.
use Rattle.std.proofs.Common.{◌≡◌, ℤ, List, length}
use Rattle.ts_base.specs.declared.values.Val.{Val}
use Rattle.ts_model.specs.States.{cells_shown}
use Rattle.ts_reader.proofs.ShownCells.{pairs_so, shown_inside, shown_wide}
use Rattle.ts_reader.proofs.answers.answer_of.Goals as goal

pub rows_of-requires-clause-inside : goal.rows_of-requires-clause-inside
rows_of-requires-clause-inside c = shown_inside c.args.reading.now c.requires.reading c.args.schemas.now c.args.got c.in_ok-cells.cells c.requires.inside c.in_ok-cells.ensures

pub rows_of-requires-clause-wide : goal.rows_of-requires-clause-wide
rows_of-requires-clause-wide c =
    let r = c.args.reading.now in
    let schemas = c.args.schemas.now in
    pairs_so (λ (e : List ℤ × List Val). length e.1 ≡ length (r.current).attrs) c.in_ok-cells.cells (cells_shown r schemas c.args.got) c.in_ok-cells.ensures (shown_wide r schemas c.args.got)
