-- A piece that has all cells of its hull: each slot has its next version.
use Rattle.std.proofs.Common.{◌≡◌, ℕ, List, [], ◌∷◌, length, map, Some, None, refl, sym, ap, ◌∙◌, subst}
use Rattle.std.specs.Prelude.{Option}
use Rattle.std.specs.List.{All, flat_map}
use Rattle.std.proofs.lemmas.Bool.{cond-true}
use Rattle.std.proofs.lemmas.List.{length-map}
use Rattle.std.proofs.lemmas.List.Elements.{All-nil, All-cons, All-head, All-tail}
use Rattle.std.proofs.lemmas.Simd.{map-map}
use Rattle.ts_base.specs.declared.heads.Piece.{Piece}
use Rattle.ts_base.specs.declared.heads.Version.{Version}
use Rattle.ts_base.specs.declared.keys.Key.{Key}
use Rattle.ts_base.specs.Coords.{coords_eq}
use Rattle.ts_domain.specs.declared.boxes.SubBox.{SubBox}
use Rattle.ts_domain.specs.Boxes.{cells_of}
use Rattle.ts_order.specs.Orders.{coords_in_order}
use Rattle.ts_schema.specs.declared.attrs.Attr.{Attr}
use Rattle.ts_schema.specs.declared.frames.Frame.{Frame}
use Rattle.ts_plain.specs.declared.stored.StoredCell.{StoredCell}
use Rattle.ts_plain.specs.Writes.{stored_cell, hulled_for, place_of}
use Rattle.ts_sparse.specs.Laying.{values_along}
use Rattle.ts_dense.specs.Dense.{FitsDense}
use Rattle.ts_dense.specs.Slots.{tiles_over, coords_over}
use Rattle.ts_dense.specs.declared.slots.SlotCells.TheVariants.{Full}
use Rattle.ts_dense.specs.declared.slots.Slots.{Slots}
use Rattle.ts_dense.specs.Laying.{held_in, held, IsSlots, versions_at, hull_of_head, value_in, values_along as values_in, origin_in, origins_along}
use Rattle.ts_dense.proofs.SlotLaws.{coords_decide, covered_cells}
use Rattle.ts_dense.proofs.SpaceTiles.{slots_stand}

-- versions at their own coordinates
at_own : (versions : List Version) → map Some versions ≡ versions_at (map (λ (v : Version). v.coords) versions) versions
at_own [] = refl
at_own (v ∷ versions) =
    let coords = map (λ (v : Version). v.coords) versions in
    ap (λ os. Some v ∷ os) (at_own versions) ∙ sym (cond-true (coords_eq v.coords v.coords) (Some v ∷ versions_at coords versions) (None ∷ versions_at coords (v ∷ versions)) ((coords_decide v.coords v.coords).1 refl))

-- where there are as many versions as cells in the hull, each slot has the next one
pub full_versions : (frame : Frame) (attrs : List Attr) (piece : Piece) → FitsDense frame attrs piece.head.frag (hulled_for piece) → length piece.versions ≡ piece.head.cells
    → map Some piece.versions ≡ versions_at (coords_over frame (hull_of_head piece.head)) piece.versions
full_versions frame attrs piece fits many =
    let s = hulled_for piece in
    let count : length s.cells ≡ piece.head.cells = length-map piece.versions (stored_cell piece.head.origins) ∙ many in
    let cells = covered_cells frame attrs piece.head.frag s fits count in
    let own : map (λ (c : StoredCell). c.coords) s.cells ≡ map (λ (v : Version). v.coords) piece.versions = map-map (λ (c : StoredCell). c.coords) (stored_cell piece.head.origins) piece.versions in
    let coords : map (λ (v : Version). v.coords) piece.versions ≡ coords_over frame (hull_of_head piece.head) =
    sym own ∙ ap (map (λ (c : StoredCell). c.coords)) (sym cells) ∙ slots_stand frame attrs piece.head.frag s fits in
    at_own piece.versions ∙ ap (λ cs. versions_at cs piece.versions) coords

-- so of its space tiles
pub full_slots : (frame : Frame) (attrs : List Attr) (piece : Piece) (tiles : List SubBox) → FitsDense frame attrs piece.head.frag (hulled_for piece) → tiles ≡ tiles_over frame (hull_of_head piece.head)
    → length piece.versions ≡ piece.head.cells → map Some piece.versions ≡ versions_at (flat_map (coords_in_order frame.cell) tiles) piece.versions
unfolding coords_over
full_slots frame attrs piece tiles fits are many =
    full_versions frame attrs piece fits many ∙ ap (λ ts. versions_at (flat_map (coords_in_order frame.cell) ts) piece.versions) (sym are)

-- the slots of a piece
pub slots_are : (frame : Frame) (piece : Piece) (tiles : List SubBox) (slots : Slots) → tiles ≡ tiles_over frame (hull_of_head piece.head) → slots.origins.now ≡ piece.head.origins → slots.counts ≡ map cells_of tiles
    → held slots ≡ versions_at (flat_map (coords_in_order frame.cell) tiles) piece.versions → IsSlots frame piece slots
unfolding coords_over
slots_are frame piece tiles slots are origins counts versions = record {
  origins = origins;
  counts = counts ∙ ap (map cells_of) are;
  versions = versions ∙ ap (λ ts. versions_at (flat_map (coords_in_order frame.cell) ts) piece.versions) are;
}

-- what holds of slots that have all versions holds of these
of_all : (P : Option Version → Type 0) (versions : List Version) → All P (map Some versions) → All (λ (v : Version). P (Some v)) versions
of_all P [] all = All-nil (λ (v : Version). P (Some v))
of_all P (v ∷ versions) all = All-cons (λ (v : Version). P (Some v)) v versions (All-head P (Some v) (map Some versions) all) (of_all P versions (All-tail P (Some v) (map Some versions) all))

module _ (slots : Slots) (full : slots.cells ≡ Full) where
  -- full slots have the versions of the piece
  full_held : held slots ≡ map Some slots.piece.now.versions
  full_held = ap (held_in slots.piece.now) full

  -- what holds of each slot holds of each version
  pub full_has : (P : Option Version → Type 0) → All P (held slots) → All (λ (v : Version). P (Some v)) slots.piece.now.versions
  full_has P all = of_all P slots.piece.now.versions (subst (All P) full_held all)

  -- the values of slots are those of the versions
  pub full_values : (k : ℕ) → values_in k (held slots) ≡ values_along k slots.piece.now.versions
  full_values k = ap (values_in k) full_held ∙ map-map (value_in k) Some slots.piece.now.versions

  -- and so are their origins
  pub full_origins : (origins : List Key) → origins_along origins (held slots) ≡ map (λ (v : Version). place_of origins v.key) slots.piece.now.versions
  full_origins origins = ap (origins_along origins) full_held ∙ map-map (origin_in origins) Some slots.piece.now.versions
