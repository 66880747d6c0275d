-- The columns of all fields are there, and those that are shown are taken.
use Rattle.std.proofs.Common.{rules, ◌≡◌, ◌<◌, ◌++◌, ◌+◌, length, sym, ap, ◌∙◌, subst}
use Rattle.std.specs.Prelude.{All}
use Rattle.std.specs.List.{range_with_len}
use Rattle.std.proofs.lemmas.Result.{IfOk-weaker}
use Rattle.ts_select.proofs.AllCells.{fields_have, taken_are}
use Rattle.ts_select.proofs.Ranges.{range_within}
use Rattle.ts_select.proofs.whole.whole_columns.Goals as goal

pub returns-in-Ok : goal.returns-in-Ok
returns-in-Ok c =
    let versions = c.args.cells in
    let fields = c.args.fields.now in
    let all = c.as_mut_slice.result.now in
    let are : all ≡ c.in_ok-all.all.items ++ c.in-Ok.vals.items = search rules in
    let have = fields_have versions c.args.dims c.args.attrs fields c.in_ok-all.all.items c.in-Ok.vals.items c.requires.some c.requires.dims c.requires.attrs c.in_ok-all.ensures c.in-Ok.ensures.ok all are in
    IfOk-weaker c.taken_columns.result _ _ (λ columns is. is ∙ taken_are versions (c.args.dims + c.args.attrs) fields all have) c.taken_columns.ensures

pub columns_of-requires-clause-places : goal.columns_of-requires-clause-places
columns_of-requires-clause-places c =
    let rows = c.in-Err.rows in
    let are : c.as_slice.result.now ≡ range_with_len 0 (length rows) = c.as_slice.ensures ∙ c.in_ok-places-in-Err.ensures ∙ ap (range_with_len 0) c.len.ensures in
    subst (All (λ place. place < length rows)) (sym are) (range_within (length rows))
