-- The slots of a fragment stand in global order, one for each cell of its hull.
use Rattle.std.proofs.Common.{◌≡◌, List, map, sym, subst}
use Rattle.ts_base.specs.declared.keys.FragKey.{FragKey}
use Rattle.ts_domain.proofs.DomainLemmas.{All-IsDomain}
use Rattle.ts_order.specs.Orders.{Ascends, global_cmp}
use Rattle.ts_order.proofs.HullCells.{cells_ascend}
use Rattle.ts_schema.specs.declared.attrs.Attr.{Attr}
use Rattle.ts_schema.specs.declared.frames.Frame.{Frame}
use Rattle.ts_plain.specs.declared.stored.StoredCell.{StoredCell}
use Rattle.ts_plain.specs.declared.stored.StoredPiece.{StoredPiece}
use Rattle.ts_plain.specs.Writes.{box_of}
use Rattle.ts_dense.specs.Slots.{coords_over, slots_of}
use Rattle.ts_dense.specs.Dense.{FitsDense}
use Rattle.ts_dense.proofs.HullOrder.{hull_box}
use Rattle.ts_dense.proofs.SpaceTiles.{slots_stand}

-- the coordinates of the cells of the hull ascend in global order, tile by tile
coords_ascend : (frame : Frame) (attrs : List Attr) (frag : FragKey) (s : StoredPiece) → FitsDense frame attrs frag s
    → Ascends (global_cmp frame.domain frame.tile frame.cell) (coords_over frame (box_of s.head.hull))
unfolding coords_over
coords_ascend frame attrs frag s fits =
    let hull = hull_box frame.domain s.head.hull (fits.head).hull in
    cells_ascend frame.domain frame.tile frame.cell (box_of s.head.hull) (All-IsDomain frame.domain (fits.sound).domain) hull.0 hull.1

-- and so do those of the slots
pub slots_ascend : (frame : Frame) (attrs : List Attr) (frag : FragKey) (s : StoredPiece) → FitsDense frame attrs frag s
    → Ascends (global_cmp frame.domain frame.tile frame.cell) (map (λ (c : StoredCell). c.coords) (slots_of frame s))
slots_ascend frame attrs frag s fits =
    subst (Ascends (global_cmp frame.domain frame.tile frame.cell)) (sym (slots_stand frame attrs frag s fits)) (coords_ascend frame attrs frag s fits)

-- they stand at the cells of the hull
pub slots_at_cells : (frame : Frame) (attrs : List Attr) (frag : FragKey) (s : StoredPiece) → FitsDense frame attrs frag s
    → map (λ (c : StoredCell). c.coords) (slots_of frame s) ≡ coords_over frame (box_of s.head.hull)
slots_at_cells frame attrs frag s fits = slots_stand frame attrs frag s fits
