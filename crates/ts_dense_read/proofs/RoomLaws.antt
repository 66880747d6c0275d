-- The objects that are read have room for the cells of the hull, so their spans have room in 64 bits.
use Rattle.std.proofs.Common.{◌≡◌, ℕ, ◌+◌, ◌*◌, ◌≤◌, List, [], sym, subst, ◌∙◌, arith}
use Rattle.std.specs.List.{All}
use Rattle.std.proofs.lemmas.Nat.{mul-le}
use Rattle.std.proofs.lemmas.Bool.{eqb-true}
use Rattle.std.proofs.lemmas.List.Elements.{All-weaker}
use Rattle.ts_base.specs.declared.keys.FragKey.{FragKey}
use Rattle.ts_domain.specs.Boxes.{cells_of}
use Rattle.ts_schema.specs.declared.attrs.Attr.{Attr}
use Rattle.ts_schema.specs.declared.frames.Frame.{Frame}
use Rattle.ts_plain.specs.Rules.{volume}
use Rattle.ts_footer.specs.declared.columns.ColumnForm.{ColumnForm}
use Rattle.ts_footer.specs.declared.columns.ColumnForm.TheVariants.{Fixed, Var}
use Rattle.ts_footer.specs.declared.columns.ColumnSize.{ColumnSize}
use Rattle.ts_footer.specs.declared.footers.Footer.{Footer}
use Rattle.ts_footer.specs.Columns.{column_forms}
use Rattle.ts_footer.specs.Footers.{FitsDenseFooter}
use Rattle.ts_dense.proofs.HullOrder.{cells_of-box_of}
use Rattle.ts_sparse_read.specs.declared.opened.UsedColumn.{UsedColumn}
use Rattle.ts_sparse_read.specs.Fits.{HasLength, HasCells}
use Rattle.ts_sparse_read.specs.Used.{column_parts, columns_told}
use Rattle.ts_sparse_read.proofs.OpenLaws.{used_keep, told_fit}
use Rattle.ts_dense_read.specs.SpaceOpens.{space_used, hull_in}
use Rattle.ts_dense_read.specs.SpaceTakes.{HasLengthFor, HasRoom}

-- ---- spans

-- no cell of an object lies behind its end
pub from_room : (width before cells length : ℕ) → 14 + width * (before + cells) ≤ length → 14 + width * before ≤ length
from_room width before cells length within = omega (arith, within, mul-le width before width (before + cells) (omega arith) (omega arith))

-- a tile is no longer than its object
pub count_room : (width before cells length : ℕ) → 14 + width * (before + cells) ≤ length → width * cells ≤ length
count_room width before cells length within = omega (arith, within, mul-le width cells width (before + cells) (omega arith) (omega arith))

pub ruleset room = (from_room, count_room)

-- ---- objects

-- an object that is long enough for some cells is so for fewer
less_room : (few cells : ℕ) (form : ColumnForm) (size : ColumnSize) → few ≤ cells → HasLengthFor cells form size → HasLengthFor few form size
less_room few cells (Fixed width) size less room = omega (arith, room, mul-le width few width cells (omega arith) less)
less_room few cells Var size less room = tt

-- so of several
pub rooms_less : (few cells : ℕ) (used : List UsedColumn) → few ≤ cells → All (HasRoom cells) used → All (HasRoom few) used
rooms_less few cells used less all = All-weaker (HasRoom cells) (HasRoom few) (λ c room. less_room few cells c.form c.size less room) used all

length_room : (cells : ℕ) (form : ColumnForm) (size : ColumnSize) → HasLength cells form size → HasLengthFor cells form size
length_room cells (Fixed width) size is = omega (arith, is)
length_room cells Var size is = tt

-- a fragment in space tiles has as many cells as its hull
pub cells_are : (frame : Frame) (attrs : List Attr) (frag : FragKey) (footer : Footer) → FitsDenseFooter frame attrs frag footer → footer.head.cells ≡ cells_of (hull_in footer)
cells_are frame attrs frag footer fits = eqb-true footer.head.cells (volume footer.head.hull) (fits.head).as_many ∙ sym (cells_of-box_of footer.head.hull)

-- the objects that are read are long enough for the cells of the hull
pub used_room : (frame : Frame) (attrs : List Attr) (frag : FragKey) (footer : Footer) (places : List ℕ) (used : List UsedColumn) → FitsDenseFooter frame attrs frag footer → used ≡ space_used attrs footer places
    → All (HasRoom (cells_of (hull_in footer))) used
unfolding space_used
used_room frame attrs frag footer places used fits is =
    let parts = column_parts [] attrs footer.head.consolidated in
    let forms = column_forms [] attrs footer.head.consolidated in
    let told = columns_told parts forms footer.sizes in
    let fit = used_keep (HasCells footer.head.cells) places told (told_fit footer.head.cells footer.tiles parts forms footer.sizes fits.sizes) in
    let roomy = All-weaker (HasCells footer.head.cells) (HasRoom footer.head.cells) (λ c has. length_room footer.head.cells c.form c.size has) _ fit in
    subst (λ n. All (HasRoom n) used) (cells_are frame attrs frag footer fits) (subst (All (HasRoom footer.head.cells)) (sym is) roomy)
