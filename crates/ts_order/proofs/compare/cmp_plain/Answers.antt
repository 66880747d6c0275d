use Rattle.std.proofs.Common.{◌≡◌, ◌∙◌, sym}
use Rattle.ts_order.specs.Orders.{order_cmp}
use Rattle.ts_order.proofs.OrderLemmas.{order_total, order_cmp-exact, order_cmp-same}
use Rattle.ts_order.proofs.compare.cmp_plain.Goals as goal

pub returns-clause-same : goal.returns-clause-same
returns-clause-same c =
    let a = c.args.a.now in
    let b = c.args.b.now in
    let value : c.cmp_by_rank.result ≡ order_cmp c.args.order a b = rw (← c.as_slice.ensures, ← c.as_slice-2.ensures) c.cmp_by_rank.ensures in
    (λ e. order_cmp-exact c.args.order a b (sym value ∙ e), λ e. value ∙ order_cmp-same c.args.order a b e)

pub returns-clause-total : goal.returns-clause-total
returns-clause-total c = order_total c.args.order
