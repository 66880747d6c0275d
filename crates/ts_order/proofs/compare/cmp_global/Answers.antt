use Rattle.std.proofs.Common.{◌≡◌, ◌∙◌, sym}
use Rattle.ts_order.specs.Orders.{global_cmp}
use Rattle.ts_order.proofs.OrderLemmas.{global_total, global_cmp-exact, global_cmp-same}
use Rattle.ts_order.proofs.compare.cmp_global.Goals as goal

pub returns-clause-same : goal.returns-clause-same
returns-clause-same c =
    let dims = c.args.domain.now in
    let a = c.args.a.now in
    let b = c.args.b.now in
    let value : c.cmp_by_tiles.result ≡ global_cmp dims c.args.tile c.args.cell a b = rw (← c.as_slice.ensures.value, ← c.as_slice-2.ensures, ← c.as_slice-3.ensures) c.cmp_by_tiles.ensures in
    (λ e. global_cmp-exact dims c.args.tile c.args.cell a b (sym value ∙ e), λ e. value ∙ global_cmp-same dims c.args.tile c.args.cell a b e)

pub returns-clause-total : goal.returns-clause-total
returns-clause-total c = global_total c.args.domain.now c.args.tile c.args.cell
