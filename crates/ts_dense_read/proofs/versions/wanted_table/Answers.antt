-- The places that are wanted are rows, and their table is what is taken.
use Rattle.std.proofs.Common.{rules, ◌≡◌, ℕ, refl, subst}
use Rattle.ts_gather.specs.Rows.{AreRows}
use Rattle.ts_dense_read.specs.SpaceTakes.{slots_of, is_slot_wanted, rows_wanted}
use Rattle.ts_dense_read.proofs.SlotTakes.{are_rows, table_wanted}
use Rattle.ts_dense_read.proofs.versions.wanted_table.Goals as goal

pub table_of-requires-clause-rows : goal.table_of-requires-clause-rows
table_of-requires-clause-rows c =
    let a = c.args in
    let wanted : c.as_slice-4.result.now ≡ rows_wanted c.args.opened.now c.args.leaf.now c.args.origins.now = search rules in
    subst (λ (n : ℕ). AreRows n c.as_slice-4.result.now) c.requires.whole.origins (are_rows (is_slot_wanted a.opened.now a.leaf.now a.origins.now) c.as_slice-4.result.now _ wanted)

pub returns : goal.returns
returns c =
    let a = c.args in
    let keys : c.as_slice-2.result.now ≡ c.args.opened.now.head.origins = search rules in
    let attrs : c.as_slice-3.result.now ≡ c.args.opened.now.want.attrs = search rules in
    let vals : c.into_vec.result.items ≡ c.args.vals = search rules in
    let wanted : c.as_slice-4.result.now ≡ rows_wanted c.args.opened.now c.args.leaf.now c.args.origins.now = search rules in
    table_wanted a.opened.now a.leaf.now (slots_of a.count a.origins.now a.vals) c.requires.counted c.requires.whole c.in_ok-coords.coords.items c.in_ok-coords.ensures c.table_of.result c.as_slice-2.result.now c.as_slice-3.result.now a.origins.now c.into_vec.result.items
    c.as_slice-4.result.now keys attrs refl vals wanted c.table_of.ensures
