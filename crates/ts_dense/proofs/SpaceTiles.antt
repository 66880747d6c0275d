-- The tiles of the slots stand in the space tiles, so a read needs those alone whose boxes meet its own.
use Rattle.std.proofs.Common.{◌≡◌, ℕ, ℤ, Bool, true, false, cond, List, [], ◌∷◌, ◌++◌, length, map, get_or, Some, refl, sym, ap, subst, ◌∙◌}
use Rattle.std.specs.Prelude.{IsTrue, not, slice_get}
use Rattle.std.specs.List.{flat_map, All, AllByRecursion}
use Rattle.std.proofs.lemmas.List.{map-append, length-map, get_or-map}
use Rattle.std.proofs.lemmas.List.Elements.{All-nil, All-cons, filter-append}
use Rattle.std.proofs.lemmas.Option.{slice_get_within, get_or_from_slice_get}
use Rattle.ts_base.specs.declared.keys.FragKey.{FragKey}
use Rattle.ts_base.specs.declared.heads.Version.{Version}
use Rattle.ts_domain.specs.declared.boxes.SubBox.{SubBox}
use Rattle.ts_domain.specs.declared.orders.Order.{Order}
use Rattle.ts_domain.specs.Boxes.{IsBox, is_in_box}
use Rattle.ts_domain.specs.Dims.{IsSoundDim}
use Rattle.ts_domain.specs.Rects.{places_meeting}
use Rattle.ts_domain.proofs.DomainLemmas.{All-IsDomain}
use Rattle.ts_order.specs.Orders.{coords_in_order}
use Rattle.ts_order.proofs.HullCells.{coords_inside}
use Rattle.ts_wire.specs.Exact.{EachFits}
use Rattle.ts_schema.specs.declared.attrs.Attr.{Attr}
use Rattle.ts_schema.specs.declared.frames.Frame.{Frame}
use Rattle.ts_schema.specs.declared.wants.Want.{Want}
use Rattle.ts_schema.specs.Wants.{taken}
use Rattle.ts_plain.specs.declared.stored.StoredHead.{StoredHead}
use Rattle.ts_plain.specs.declared.stored.StoredCell.{StoredCell}
use Rattle.ts_plain.specs.declared.stored.StoredPiece.{StoredPiece}
use Rattle.ts_plain.specs.Plain.{FitsSide}
use Rattle.ts_plain.specs.Pieces.{version_in}
use Rattle.ts_plain.specs.Writes.{box_of}
use Rattle.ts_sparse.specs.Cuts.{taken_at}
use Rattle.ts_sparse.proofs.MeetLaws.{CutOf, IsInLeaf, leaves_in, versions_by_tile, all_versions, tiles_suffice}
use Rattle.ts_dense.specs.Slots.{tiles_over, counts_over, coords_over, tiles_by, is_hole, slots_of, slot_tiles, cells_in, versions_of}
use Rattle.ts_dense.specs.Dense.{FitsDense}
use Rattle.ts_dense.proofs.TileLists.{all_tiles, map_tiles}
use Rattle.ts_dense.proofs.HullOrder.{coords_once, coords_by_tiles, counts_many, tiles_over_valid}
use Rattle.ts_dense.proofs.SlotLaws.{slots_at, cells_back, IsPlainHole, slots_by_cells}

-- the coordinates of slots
abbrev pub coords_of : List StoredCell → List (List ℤ)
coords_of slots = map (λ (c : StoredCell). c.coords) slots

-- ---- slots that are read

-- slots that stand at the cells of a hull are the slots of what their cells are
pub slots_read : (frame : Frame) (head : StoredHead) (slots : List StoredCell) → All IsSoundDim frame.domain → EachFits FitsSide frame.domain head.hull
    → coords_of slots ≡ coords_over frame (box_of head.hull) → All IsPlainHole slots → slots_of frame (record { head = head; cells = cells_in slots }) ≡ slots
unfolding slots_of
slots_read frame head slots sound fits at holes = slots_by_cells (coords_over frame (box_of head.hull)) slots (coords_once frame head.hull sound fits) at holes

-- ---- the tiles

module _ (frame : Frame) (attrs : List Attr) (frag : FragKey) (s : StoredPiece) (fits : FitsDense frame attrs frag s) where
  sound : All IsSoundDim frame.domain
  sound = All-IsDomain frame.domain (fits.sound).domain

  -- the slots stand at the cells of the hull
  pub slots_stand : coords_of (slots_of frame s) ≡ coords_over frame (box_of s.head.hull)
  unfolding slots_of
  slots_stand = slots_at (coords_over frame (box_of s.head.hull)) s.cells

  -- those of each tile at the cells of a space tile
  pub tiles_stand : map coords_of (slot_tiles frame s) ≡ map (coords_in_order frame.cell) (tiles_over frame (box_of s.head.hull))
  tiles_stand =
      let counts = counts_over frame (box_of s.head.hull) in
      sym (map_tiles (λ (c : StoredCell). c.coords) counts (slots_of frame s)) ∙ ap (tiles_by counts) slots_stand ∙ coords_by_tiles frame s.head.hull sound (fits.head).hull

  -- all tiles together are the slots
  pub slots_in_tiles : flat_map (λ t. t) (slot_tiles frame s) ≡ slots_of frame s
  slots_in_tiles =
      let counts = counts_over frame (box_of s.head.hull) in
      let long : length (slots_of frame s) ≡ length (coords_over frame (box_of s.head.hull)) = sym (length-map (slots_of frame s) (λ (c : StoredCell). c.coords)) ∙ ap length slots_stand in
      all_tiles counts (slots_of frame s) (long ∙ sym (counts_many frame s.head.hull sound (fits.head).hull))

  -- there are as many as space tiles
  pub tiles_many : length (slot_tiles frame s) ≡ length (tiles_over frame (box_of s.head.hull))
  tiles_many = sym (length-map (slot_tiles frame s) coords_of) ∙ ap length tiles_stand ∙ length-map (tiles_over frame (box_of s.head.hull)) (coords_in_order frame.cell)

  -- the tile at a place
  pub tile_stands : (i : ℕ) (t : SubBox) → slice_get (tiles_over frame (box_of s.head.hull)) i ≡ Some t → coords_of (get_or (slot_tiles frame s) i []) ≡ coords_in_order frame.cell t
  tile_stands i t at =
      let within = slice_get_within (tiles_over frame (box_of s.head.hull)) i t at in
      sym (get_or-map coords_of (slot_tiles frame s) i [] [] (rw tiles_many within)) ∙ ap (λ parts. get_or parts i []) tiles_stand
      ∙ get_or-map (coords_in_order frame.cell) (tiles_over frame (box_of s.head.hull)) i t [] within ∙ ap (coords_in_order frame.cell) (get_or_from_slice_get (tiles_over frame (box_of s.head.hull)) i t t at)

-- ---- what a read needs

module _ (cell : Order) (head : StoredHead) where
  -- the cells of each tile with the box that it stands in
  cuts_of : List SubBox → List (List StoredCell) → List CutOf
  cuts_of [] us = []
  cuts_of (t ∷ ts) [] = []
  cuts_of (t ∷ ts) (u ∷ us) = record { leaf = t; versions = versions_of head u } ∷ cuts_of ts us

  Stand : List SubBox → List (List StoredCell) → Type 0
  Stand ts us = map coords_of us ≡ map (coords_in_order cell) ts

  first_stands : (t : SubBox) (ts : List SubBox) (u : List StoredCell) (us : List (List StoredCell)) → Stand (t ∷ ts) (u ∷ us) → coords_of u ≡ coords_in_order cell t
  unfolding Stand
  first_stands t ts u us e = cc

  others_stand : (t : SubBox) (ts : List SubBox) (u : List StoredCell) (us : List (List StoredCell)) → Stand (t ∷ ts) (u ∷ us) → Stand ts us
  unfolding Stand
  others_stand t ts u us e = cc

  leaves_are : (ts : List SubBox) (us : List (List StoredCell)) → Stand ts us → leaves_in (cuts_of ts us) ≡ ts
  unfolding Stand cuts_of
  leaves_are [] us e = refl
  leaves_are (t ∷ ts) [] e = cc
  leaves_are (t ∷ ts) (u ∷ us) e = ap (λ more. t ∷ more) (leaves_are ts us (others_stand t ts u us e))

  versions_are : (ts : List SubBox) (us : List (List StoredCell)) → Stand ts us → versions_by_tile (cuts_of ts us) ≡ map (versions_of head) us
  unfolding Stand cuts_of
  versions_are [] [] e = refl
  versions_are [] (u ∷ us) e = cc
  versions_are (t ∷ ts) [] e = refl
  versions_are (t ∷ ts) (u ∷ us) e = ap (λ more. versions_of head u ∷ more) (versions_are ts us (others_stand t ts u us e))

  all_are : (us : List (List StoredCell)) (ts : List SubBox) → Stand ts us → all_versions (cuts_of ts us) ≡ versions_of head (flat_map (λ t. t) us)
  unfolding Stand cuts_of
  all_are [] [] e = refl
  all_are [] (t ∷ ts) e = refl
  all_are (u ∷ us) [] e = cc
  all_are (u ∷ us) (t ∷ ts) e =
      ap (λ more. versions_of head u ++ more) (all_are us ts (others_stand t ts u us e))
      ∙ sym (ap (map (version_in head)) (filter-append (λ (slot : StoredCell). not (is_hole slot)) u (flat_map (λ t. t) us)) ∙ map-append (version_in head) (cells_in u) (cells_in (flat_map (λ t. t) us)))

  in_tile : (t : SubBox) (u : List StoredCell) → AllByRecursion (λ x. IsTrue (is_in_box t x)) (coords_of u) → All (λ (v : Version). IsTrue (is_in_box t v.coords)) (versions_of head u)
  in_tile t [] all = All-nil (λ (v : Version). IsTrue (is_in_box t v.coords))
  in_tile t (c ∷ u) all = by (in_tile t u all.1) (not (is_hole c))
    where
      by : All (λ (v : Version). IsTrue (is_in_box t v.coords)) (versions_of head u) → (b : Bool) → All (λ (v : Version). IsTrue (is_in_box t v.coords)) (map (version_in head) (cond b (c ∷ cells_in u) (cells_in u)))
      by rest true = All-cons (λ (v : Version). IsTrue (is_in_box t v.coords)) (version_in head c) (versions_of head u) all.0 rest
      by rest false = rest

  all_in_tiles : (ts : List SubBox) (us : List (List StoredCell)) → AllByRecursion IsBox ts → Stand ts us → All IsInLeaf (cuts_of ts us)
  unfolding Stand cuts_of
  all_in_tiles [] us valid e = All-nil IsInLeaf
  all_in_tiles (t ∷ ts) [] valid e = All-nil IsInLeaf
  all_in_tiles (t ∷ ts) (u ∷ us) valid e =
      let inside = subst (AllByRecursion (λ x. IsTrue (is_in_box t x))) (sym (first_stands t ts u us e)) (coords_inside cell t valid.0) in
      All-cons IsInLeaf (record { leaf = t; versions = versions_of head u }) (cuts_of ts us) (in_tile t u inside) (all_in_tiles ts us valid.1 (others_stand t ts u us e))

  -- tiles that stand in boxes: those whose boxes meet the wanted one have all that is wanted
  pub standing_suffice : (want : Want) (ts : List SubBox) (us : List (List StoredCell)) → AllByRecursion IsBox ts → map coords_of us ≡ map (coords_in_order cell) ts
      → taken_at want (map (versions_of head) us) (places_meeting want.sub ts) ≡ taken want (versions_of head (flat_map (λ t. t) us))
  unfolding Stand
  standing_suffice want ts us valid e =
      ap (λ parts. taken_at want parts (places_meeting want.sub ts)) (sym (versions_are ts us e))
      ∙ ap (λ boxes. taken_at want (versions_by_tile (cuts_of ts us)) (places_meeting want.sub boxes)) (sym (leaves_are ts us e))
      ∙ tiles_suffice want (cuts_of ts us) (all_in_tiles ts us valid e) ∙ ap (taken want) (all_are us ts e)

-- the space tiles that meet the wanted box have all that is wanted of the piece
pub dense_suffices : (frame : Frame) (attrs : List Attr) (frag : FragKey) (s : StoredPiece) (want : Want) → FitsDense frame attrs frag s
    → taken_at want (map (versions_of s.head) (slot_tiles frame s)) (places_meeting want.sub (tiles_over frame (box_of s.head.hull))) ≡ taken want (map (version_in s.head) s.cells)
dense_suffices frame attrs frag s want fits =
    standing_suffice frame.cell s.head want (tiles_over frame (box_of s.head.hull)) (slot_tiles frame s)
    (tiles_over_valid frame s.head.hull (sound frame attrs frag s fits) (fits.head).hull) (tiles_stand frame attrs frag s fits)
    ∙ ap (λ slots. taken want (versions_of s.head slots)) (slots_in_tiles frame attrs frag s fits) ∙ ap (λ cells. taken want (map (version_in s.head) cells)) (cells_back frame attrs frag s fits)
