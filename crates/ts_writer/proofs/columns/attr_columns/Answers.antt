use Rattle.std.proofs.Common.{◌+◌, ◌++◌, drop, Ok, ap, ◌∙◌}
use Rattle.ts_model.specs.Commands.{◌or_else◌, attr_column, columns}
use Rattle.ts_writer.proofs.Lengths.{column_more}
use Rattle.ts_writer.proofs.columns.attr_columns.Goals as goal

pub loop-attr-preserved : goal.loop-attr-preserved
loop-attr-preserved c =
    let f = attr_column c.args.cols.now c.args.count in
    ap (λ found. columns f (drop (c.loop-attr.attr-index + 1) c.args.attrs.now) or_else λ rest. Ok (found ++ rest)) c.in_ok-push.ensures.ok
    ∙ column_more f c.args.attrs.now c.loop-attr.attr-index c.attr-item.result c.in_ok-attr_column.field-0 c.loop-attr.found _ c.loop-attr-test.true c.attr-item.is c.in_ok-attr_column.ensures c.loop-attr.invariant
