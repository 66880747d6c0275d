-- Columns of all places, whose rows are cut to the fields that are shown.
use Rattle.std.proofs.Common.{◌≡◌, ◌+◌, List, length, sym, ◌∙◌, subst}
use Rattle.std.specs.Prelude.{All}
use Rattle.std.specs.List.{range_with_len}
use Rattle.std.proofs.lemmas.List.FromFn.{length-range_with_len}
use Rattle.ts_base.specs.declared.values.Val.{Val}
use Rattle.ts_batch.specs.Rows.{rows_across}
use Rattle.ts_select.proofs.Fields.{fields_long}
use Rattle.ts_select.proofs.Gathered.{columns_long, rows_gathered}
use Rattle.ts_select.proofs.Ranges.{range_within}
use Rattle.ts_select.proofs.whole.whole_rows.Goals as goal

pub of_columns-requires : goal.of_columns-requires
of_columns-requires c =
    let versions = c.args.cells in
    let range = range_with_len 0 (length versions) in
    let many : length range ≡ c.len-count.result = length-range_with_len 0 (length versions) ∙ sym c.len-count.ensures in
    subst (λ n. All (λ (column : List Val). length column ≡ n) c.in_ok-columns.columns.items) many
    (subst (All (λ (column : List Val). length column ≡ length range)) (sym c.in_ok-columns.ensures) (columns_long versions range (c.args.dims + c.args.attrs) c.args.fields.now))

pub returns : goal.returns
returns c =
    let versions = c.args.cells in
    let range = range_with_len 0 (length versions) in
    let count = c.args.dims + c.args.attrs in
    let many : c.len-count.result ≡ length range = c.len-count.ensures ∙ sym (length-range_with_len 0 (length versions)) in
    c.of_columns.ensures ∙ (λ i. rows_across (c.in_ok-columns.ensures i) (many i))
    ∙ rows_gathered versions range count c.args.fields.now (λ place within. fields_long versions c.args.dims c.args.attrs place c.requires.dims c.requires.attrs within) (range_within (length versions))
