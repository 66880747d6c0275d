-- Columns that are moved are those of the cells of the whole box.
use Rattle.std.proofs.Common.{rules, ◌≡◌, sym, ◌∙◌, map, length, get_or, []}
use Rattle.ts_gather.specs.Rows.{AreAscending, chosen}
use Rattle.ts_gather.specs.Parts.{places_over}
use Rattle.ts_gather.proofs.BoxLaws.{ok_then, moved_over, same_boxes}
use Rattle.ts_gather.proofs.boxes.columns_over.Goals as goal

pub returns-then-are_ascending : goal.returns-then-are_ascending
returns-then-are_ascending c =
    let a = c.args in
    let rising : AreAscending c.args.attrs.now (length c.args.vals.items) = search rules in
    let same : c.args.inner.now ≡ c.args.outer.now = same_boxes c.args.inner.now c.args.outer.now (sym c.eq.ensures ∙ c.if-eq.true) in
    ok_then (λ columns. columns.items ≡ map (λ attr. get_or a.vals.items attr []) a.attrs.now) (λ columns. columns.items ≡ chosen a.attrs.now (places_over a.order a.outer.now a.inner.now) a.vals.items) c.moved_columns.result
    (λ columns is. moved_over a.order a.outer.now a.inner.now a.attrs.now a.vals.items columns.items same c.requires.valid c.requires.long rising is) c.moved_columns.ensures
