-- Coordinates that stand level are the same, and the same coordinates stand level.
use Rattle.std.proofs.Common.{refl, sym, ap, ◌∙◌}
use Rattle.std.specs.Ordering.{int_cmp}
use Rattle.std.specs.Cmp.Lexicographic.{slice_cmp}
use Rattle.std.specs.Cmp.{int_cmp_total}
use Rattle.std.proofs.lemmas.Cmp.{lists_total, tied_itself}
use Rattle.ts_domain.specs.declared.orders.Order.TheVariants.{Row}
use Rattle.ts_order.proofs.OrderLemmas.{order_cmp-exact}
use Rattle.ts_table.specs.Tables.{version_or}
use Rattle.ts_writer.proofs.places.share_cell.Goals as goal

pub returns-in-Equal : goal.returns-in-Equal
returns-in-Equal c = (λ told. order_cmp-exact Row _ _ (sym c.in-Equal.ensures), λ same. refl)

pub returns-in_default : goal.returns-in_default
returns-in_default c = (
  λ told. cc,
  λ same.
      let level = ap (slice_cmp int_cmp (version_or c.args.table.now c.args.place).coords) (sym same) ∙ tied_itself (lists_total int_cmp_total) (version_or c.args.table.now c.args.place).coords in
      absurd (c.in_default.not-Equal (c.compare.ensures ∙ level)),
)
