-- The numbers along one dimension more tie, or decide.
use Rattle.std.proofs.Common.{sym, ◌∙◌, int_cmp}
use Rattle.std.specs.Option.{option_cmp}
use Rattle.ts_reader.proofs.RowOrder.{apart_along, tied_along}
use Rattle.ts_reader.proofs.row_order.compare.Goals as goal

pub returns-in_default : goal.returns-in_default
returns-in_default c =
    let is = c.cmp.ensures ∙ (λ i. option_cmp int_cmp (c.coord-number.ensures i) (c.coord-against.ensures i)) in
    apart_along c.args.version.now.coords c.args.other.now.coords c.loop-dim.dim _ c.loop-dim.invariant c.cmp.result (sym is) c.in_default.not-Equal

pub loop-dim-preserved : goal.loop-dim-preserved
loop-dim-preserved c =
    let is = c.cmp.ensures ∙ (λ i. option_cmp int_cmp (c.coord-number.ensures i) (c.coord-against.ensures i)) in
    tied_along c.args.version.now.coords c.args.other.now.coords c.loop-dim.dim _ c.loop-dim.invariant (sym is ∙ c.in-Equal.is)
