-- The cells of a box ascend in its order.
use Rattle.std.proofs.Common.{◌+◌, get_or, ◌∙◌}
use Rattle.ts_select.proofs.Boxes.{ascends}
use Rattle.ts_select.proofs.layout.is_ordered.Goals as goal

pub returns : goal.returns
returns c = λ yes frame k d below.
    let table = c.args.table.now in
    let parts = c.parts.result in
    c.is_order_of.ensures yes frame (get_or table k d).coords (get_or table (k + 1) d).coords
    ∙ ascends table parts.origin parts.attrs.now parts.order parts.sub.now c.parts.ensures.made c.parts.ensures.table k d below
