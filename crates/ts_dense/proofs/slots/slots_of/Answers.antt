-- The slots are those of the tiles.
use Rattle.std.proofs.Common.{map, ap, ◌∙◌}
use Rattle.std.specs.List.{flat_map}
use Rattle.ts_base.specs.declared.heads.Head.{Head}
use Rattle.ts_domain.specs.Boxes.{cells_of}
use Rattle.ts_order.specs.Orders.{coords_in_order}
use Rattle.ts_dense.specs.Laying.{versions_at}
use Rattle.ts_dense.proofs.FullSlots.{slots_are}
use Rattle.ts_dense.proofs.slots.slots_of.Goals as goal

pub returns : goal.returns
returns c =
    let frame = c.args.frame.now in
    let piece = c.args.piece.now in
    slots_are frame piece c.in_ok-tiles.tiles _ c.in_ok-tiles.ensures.tiles (ap (λ (head : Head). head.origins) c.head.ensures) (c.in_ok-counts.ensures ∙ ap (map cells_of) c.as_slice.ensures)
    (c.in_ok-cells.ensures ∙ ap (λ ts. versions_at (flat_map (coords_in_order frame.cell) ts) piece.versions) c.as_slice-2.ensures)
