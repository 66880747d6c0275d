-- The table is that of the rows.
use Rattle.std.proofs.Common.{ℕ, List, subst, ◌∙◌}
use Rattle.ts_gather.specs.Runs.{AreRuns}
use Rattle.ts_gather.proofs.TableRows.{rows_table, table_is}
use Rattle.ts_gather.proofs.rows.table_of.Goals as goal

pub of-requires : goal.of-requires
of-requires c =
    let a = c.args in
    let runs = subst (λ (os : List ℕ). AreRuns a.keys.now a.schema os a.rows.now c.in_ok-runs.runs) c.as_slice.ensures c.in_ok-runs.ensures in
    rows_table a.keys.now a.schema a.attrs.now a.count a.coords.items a.origins.now a.vals.items a.rows.now c.in_ok-dims.dims.items c.in_ok-columns.columns.items c.in_ok-runs.runs c.requires.columns c.in_ok-dims.ensures
    c.in_ok-columns.ensures runs

pub returns : goal.returns
returns c =
    let a = c.args in
    let runs = subst (λ (os : List ℕ). AreRuns a.keys.now a.schema os a.rows.now c.in_ok-runs.runs) c.as_slice.ensures c.in_ok-runs.ensures in
    c.of.ensures ∙ table_is a.keys.now a.schema a.attrs.now a.count a.coords.items a.origins.now a.vals.items a.rows.now c.in_ok-dims.dims.items c.in_ok-columns.columns.items c.in_ok-runs.runs c.requires.columns c.in_ok-dims.ensures
    c.in_ok-columns.ensures runs
