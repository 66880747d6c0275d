-- Columns of all places, whose rows are cut to the fields that are shown.
use Rattle.std.proofs.Common.{◌≡◌, List, length, sym, ap, ◌∙◌, subst, ◌+◌}
use Rattle.std.specs.Prelude.{All}
use Rattle.ts_base.specs.declared.values.Val.{Val}
use Rattle.ts_batch.specs.Rows.{rows_across}
use Rattle.ts_select.proofs.Fields.{fields_long}
use Rattle.ts_select.proofs.Gathered.{columns_long, rows_gathered}
use Rattle.ts_select.proofs.selecting.rows_at.Goals as goal

pub of_columns-requires : goal.of_columns-requires
of_columns-requires c =
    let places = c.args.places.now in
    subst (All (λ (column : List Val). length column ≡ length places)) (sym c.in_ok-columns.ensures) (columns_long c.args.cells.now places (c.args.dims + c.args.attrs) c.args.fields.now)

pub returns : goal.returns
returns c =
    let versions = c.args.cells.now in
    let places = c.args.places.now in
    let count = c.args.dims + c.args.attrs in
    c.of_columns.ensures ∙ ap (λ columns. rows_across columns (length places)) c.in_ok-columns.ensures
    ∙ rows_gathered versions places count c.args.fields.now (λ place within. fields_long versions c.args.dims c.args.attrs place c.requires.dims c.requires.attrs within) c.requires.places
