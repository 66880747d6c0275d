use Rattle.std.proofs.Common.{◌∙◌, sym, ap}
use Rattle.ts_base.proofs.Cuts.{after}
use Rattle.ts_base.proofs.ReadingParts.{part_read, meta_only, var_only, validity_only, column_only}
use Rattle.ts_base.proofs.parse.read_part.Goals as goal

pub returns-in-text : goal.returns-in-text
returns-in-text c = λ part fits is.
    let pieces = part_read part _ _ _ _ fits is c.cut.ensures.before c.cut-2.ensures.before c.cut-2.ensures.after in
    meta_only part (sym c.in-text.is ∙ pieces.1)

pub returns-in-var : goal.returns-in-var
returns-in-var c = λ part fits is.
    let pieces = part_read part _ _ _ _ fits is c.cut.ensures.before c.cut-2.ensures.before c.cut-2.ensures.after in
    var_only part fits c.read_index.result
    (λ n small column. c.read_index.ensures n small (c.cut-3.ensures.after ∙ ap (after 97) (pieces.0 ∙ column)))
    (sym c.in-var.is ∙ pieces.1)

pub returns-in-validity : goal.returns-in-validity
returns-in-validity c = λ part fits is.
    let pieces = part_read part _ _ _ _ fits is c.cut.ensures.before c.cut-2.ensures.before c.cut-2.ensures.after in
    validity_only part fits c.read_index-in-validity.result
    (λ n small column. c.read_index-in-validity.ensures n small (c.cut-3.ensures.after ∙ ap (after 97) (pieces.0 ∙ column)))
    (sym c.in-validity.is ∙ pieces.1)

pub returns-in_default : goal.returns-in_default
returns-in_default c = λ part fits is.
    let pieces = part_read part _ _ _ _ fits is c.cut.ensures.before c.cut-2.ensures.before c.cut-2.ensures.after in
    column_only part c.read_column.result fits
    (record {
      origin = λ column. c.read_column.ensures.origin (pieces.0 ∙ column);
      plain = λ column. c.read_column.ensures.plain (pieces.0 ∙ column);
      dim = λ n small column. c.read_column.ensures.dim n small (pieces.0 ∙ column);
      attr = λ n small column. c.read_column.ensures.attr n small (pieces.0 ∙ column);
    })
    (λ ending. c.in_default.not-text (pieces.1 ∙ ending))
    (λ ending. c.in_default.not-var (pieces.1 ∙ ending))
    (λ ending. c.in_default.not-validity (pieces.1 ∙ ending))
