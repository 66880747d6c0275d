use Rattle.std.proofs.Common.{◌∙◌, sym, ap}
use Rattle.std.specs.Ordering.{ordering_then}
use Rattle.ts_order.specs.Orders.{order_cmp}
use Rattle.ts_order.proofs.OrderLemmas.{length-is_in_domain, ordering_then-apart}
use Rattle.ts_order.proofs.compare.cmp_by_tiles.Goals as goal

pub cmp_by_rank-requires : goal.cmp_by_rank-requires
cmp_by_rank-requires c =
    let dims = c.args.dims.now in
    length-is_in_domain dims c.args.b.now c.requires.second ∙ sym (length-is_in_domain dims c.args.a.now c.requires.first)

pub returns-in_default : goal.returns-in_default
returns-in_default c =
    ordering_then-apart c.cmp_tiles.result (order_cmp c.args.cell c.args.a.now c.args.b.now) c.in_default.not-Equal
    ∙ ap (λ o. ordering_then o (order_cmp c.args.cell c.args.a.now c.args.b.now)) c.cmp_tiles.ensures
