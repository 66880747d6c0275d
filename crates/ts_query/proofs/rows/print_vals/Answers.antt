use Rattle.std.proofs.Common.{◌++◌, [], get_or, true, sym, ap, ◌∙◌}
use Rattle.std.specs.Option.{option_map}
use Rattle.ts_base.specs.declared.values.ValType.TheVariants.{I8}
use Rattle.ts_table.specs.Columns.{val_seen}
use Rattle.ts_query.specs.Rows.{vals_text}
use Rattle.ts_query.proofs.RowSteps.{no_more, one_more}
use Rattle.ts_query.proofs.rows.print_vals.Goals as goal

pub returns-in_default : goal.returns-in_default
returns-in_default c =
    let row = get_or c.args.rows.now c.args.row [] in
    no_more c.loop-column.bytes.items (c.args.bytes.now.items ++ vals_text true c.args.types.now row) c.loop-column.first c.args.types.now row c.loop-column.column (sym c.val.ensures ∙ ap (option_map val_seen) c.in_default.is) c.loop-column.invariant

pub loop-column-preserved : goal.loop-column-preserved
loop-column-preserved c =
    let row = get_or c.args.rows.now c.args.row [] in
    one_more c.loop-column.bytes.items c.print_next.new.bytes.items (c.args.bytes.now.items ++ vals_text true c.args.types.now row) c.loop-column.first c.args.types.now row c.loop-column.column I8 (val_seen c.in-Some.val) c.loop-column-test.true (sym c.in-Some.ensures) c.loop-column.invariant c.in_ok-print_next.ensures
