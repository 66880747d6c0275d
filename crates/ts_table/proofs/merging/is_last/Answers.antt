-- The next version tells.
use Rattle.std.proofs.Common.{◌≡◌, ◌+◌, ◌∙◌, ap, refl}
use Rattle.std.specs.Prelude.{not}
use Rattle.std.specs.Bool.{◌==◌}
use Rattle.std.specs.Ordering.{is_eq, ordering_index}
use Rattle.std.specs.declared.cmp.Ordering.{Ordering}
use Rattle.std.specs.declared.cmp.Ordering.TheVariants.{Less, Equal, Greater}
use Rattle.ts_table.proofs.MergeTables.{last_before_at}
use Rattle.ts_table.specs.Orders.{cells_cmp}
use Rattle.ts_table.proofs.merging.is_last.Goals as goal

tested : (o : Ordering) → not (ordering_index o == 1) ≡ not (is_eq o)
tested Less = refl
tested Equal = refl
tested Greater = refl

pub returns-then-place-count : goal.returns-then-place-count
returns-then-place-count c =
    let law = last_before_at (cells_cmp c.args.domain.now c.args.order) c.args.table.now c.args.place (c.args.place + 1) c.of.result c.of-next.result c.of.ensures c.of-next.ensures in
    rw law (c.ne.ensures ∙ tested c.compare.result ∙ ap (λ o. not (is_eq o)) c.compare.ensures)
