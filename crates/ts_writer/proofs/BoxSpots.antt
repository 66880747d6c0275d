-- The versions of a box at the spots of its cells: those of the cells in global order.
use Rattle.std.proofs.Common.{◌≡◌, ℕ, zero, suc, ◌+◌, ◌<◌, ℤ, List, [], ◌∷◌, length, map, Some, refl, sym, ap, ◌∙◌, subst, inl, inr, arith}
use Rattle.std.specs.Prelude.{IsTrue, Contains, slice_get}
use Rattle.std.specs.List.{All, AllByRecursion}
use Rattle.std.specs.List.Sorted.{IsStrictlySortedBy}
use Rattle.std.specs.declared.cmp.Ordering.TheVariants.{Less}
use Rattle.std.proofs.lemmas.List.Elements.{All-nil, All-cons}
use Rattle.std.proofs.lemmas.Option.{same_Some}
use Rattle.ts_base.specs.declared.heads.Cell.{Cell}
use Rattle.ts_base.specs.declared.heads.Head.{Head}
use Rattle.ts_base.specs.declared.heads.Piece.{Piece}
use Rattle.ts_base.specs.declared.heads.Version.{Version}
use Rattle.ts_base.specs.declared.values.Val.{Val}
use Rattle.ts_domain.specs.declared.boxes.SubBox.{SubBox}
use Rattle.ts_domain.specs.declared.orders.Order.{Order}
use Rattle.ts_domain.specs.Boxes.{IsBox, is_in_box, cells_of}
use Rattle.ts_domain.specs.Dims.{IsSoundDim}
use Rattle.ts_domain.specs.Domains.{LiesInDomain}
use Rattle.ts_order.specs.Orders.{coords_in_order}
use Rattle.ts_order.specs.Tiles.{tiles_in}
use Rattle.ts_order.proofs.InOrder.{InOrder, IsAmong}
use Rattle.ts_order.proofs.HullCells.{cells_by_tiles, cells_covered, cells_in_order, cells_inside}
use Rattle.ts_order.proofs.OrderedCoords.{is_in_box-slice_get, place_of-cells, place_of-only, slice_get-place_of}
use Rattle.ts_gather.specs.Parts.{place_in}
use Rattle.ts_schema.specs.declared.frames.Frame.{Frame}
use Rattle.ts_table.specs.declared.origins.Origin.{Origin}
use Rattle.ts_table.specs.BoxTables.{versions_over}
use Rattle.ts_table.specs.Tables.{version_or}
use Rattle.ts_table.proofs.BoxTables.{count_is}
use Rattle.ts_piece.specs.declared.spots.Spot.{Spot}
use Rattle.ts_piece.specs.Spots.{spotted, IsSpot}
use Rattle.ts_model.specs.declared.deeds.Written.{Written}
use Rattle.ts_model.specs.Commands.{across, cells_at, global_order, in_global_order, piece_of, version_in}
use Rattle.ts_model.proofs.BoxCells.{box_length}
use Rattle.ts_model.proofs.ListLemmas.{Contains-nil, Contains-cons, Contains-here, Contains-there}
use Rattle.ts_writer.specs.Heads.{head_in, head_over}
use Rattle.ts_writer.specs.Spots.{spot_in, spots_over}
use Rattle.ts_writer.proofs.BoxCells.{cell_on, cell_of_box, cells_each, low_of_box, high_of_box}
use Rattle.ts_writer.proofs.Globals.{global_same, piece_parts}
use Rattle.ts_writer.proofs.SpotLists.{mapped_parts}

-- ---- versions over coordinates

-- the version at some of the coordinates
over_there : (o : Origin) (rows : List (List Val)) (place : ℕ) (coords : List (List ℤ)) (i k : ℕ) (c : List ℤ) → k ≡ place + i → slice_get coords i ≡ Some c
    → version_or (versions_over o rows place coords) i ≡ version_in o.key o.schema (record { coords = c; row = across k rows })
over_there o rows place [] i k c e at = cc
over_there o rows place (x ∷ coords) zero k c e at =
    let same : place ≡ k = omega (arith, e) in
    λ j. record { key = o.key; schema = o.schema; coords = same_Some x c at j; row = across (same j) rows }
over_there o rows place (x ∷ coords) (suc i) k c e at = over_there o rows (suc place) coords i k c (omega (arith, e)) at

-- ---- the versions of a box

module _ (layout : Order) (sub : SubBox) (o : Origin) (rows : List (List Val)) where
  abbrev versions : List Version
  versions = versions_over o rows 0 (coords_in_order layout sub)

  abbrev on : List ℤ → Cell
  on c = cell_on layout sub rows c

  -- the version at the spot of a cell is that of the cell
  spotted_on : (cs : List (List ℤ)) → AllByRecursion (λ c. IsTrue (is_in_box sub c)) cs → spotted (versions ∷ []) (map (spot_in layout sub) cs) ≡ map (version_in o.key o.schema) (map on cs)
  spotted_on [] all = refl
  spotted_on (c ∷ cs) all =
      let here : version_or versions (place_in layout sub c) ≡ version_in o.key o.schema (on c) =
      over_there o rows 0 (coords_in_order layout sub) (place_in layout sub c) (place_in layout sub c) c (omega arith) (slice_get-place_of layout sub c all.0) in
      let rest = spotted_on cs all.1 in
      λ i. here i ∷ rest i

  -- there is one
  spots_there : IsBox sub → (cs : List (List ℤ)) → AllByRecursion (λ c. IsTrue (is_in_box sub c)) cs → All (IsSpot (versions ∷ [])) (map (spot_in layout sub) cs)
  spots_there box [] all = All-nil (IsSpot (versions ∷ []))
  spots_there box (c ∷ cs) all =
      let below : place_in layout sub c < length versions = omega (arith, place_of-cells layout sub c all.0, count_is o rows layout sub box) in
      All-cons (IsSpot (versions ∷ [])) (spot_in layout sub c) (map (spot_in layout sub) cs) below (spots_there box cs all.1)

  -- ---- in global order

  -- what holds of the cell at each of the coordinates holds of each of these cells
  all_on : (P : Cell → Type 0) (cs : List (List ℤ)) → AllByRecursion (λ c. P (on c)) cs → AllByRecursion P (map on cs)
  all_on P [] all = tt
  all_on P (c ∷ cs) all = (all.0, all_on P cs all.1)

  -- the cells at coordinates that ascend do
  sorted_on : (frame : Frame) (cs : List (List ℤ)) → InOrder (global_order frame) cs → IsStrictlySortedBy (λ (a b : Cell). global_order frame a.coords b.coords) (map on cs)
  unfolding IsStrictlySortedBy
  sorted_on frame [] up = tt
  sorted_on frame (c ∷ cs) up = (all_on (λ d. global_order frame c d.coords ≡ Less) cs up.0, sorted_on frame cs up.1)

  -- the cell at one of the coordinates is one of the cells
  among_on : (cs : List (List ℤ)) (c : List ℤ) → IsAmong cs c → Contains (map on cs) (on c)
  among_on [] c is = absurd is
  among_on (d ∷ cs) c (inl e) = subst (λ x. Contains (map on (d ∷ cs)) (on x)) e (Contains-here (on d) (map on cs))
  among_on (d ∷ cs) c (inr is) = Contains-there (on d) (map on cs) (on c) (among_on cs c is)

  -- each cell at coordinates of the box is one of its cells
  on_box : (cs : List (List ℤ)) → AllByRecursion (λ c. IsTrue (is_in_box sub c)) cs → (x : Cell) → Contains (map on cs) x → Contains (cells_at (coords_in_order layout sub) rows 0) x
  on_box [] all x at = absurd (Contains-nil x at)
  on_box (c ∷ cs) all x at =
      elim (Contains-cons (on c) (map on cs) x at) [
        | inl same ↦ subst (Contains (cells_at (coords_in_order layout sub) rows 0)) same (cell_of_box layout sub rows c all.0)
        | inr more ↦ on_box cs all.1 x more
      ]

  module _ (frame : Frame) (sound : All IsSoundDim frame.domain) (box : IsBox sub) (inside : LiesInDomain frame.domain sub) where
    abbrev by_tiles : List (List ℤ)
    by_tiles = cells_by_tiles frame.domain frame.tile frame.cell sub

    all_inside : AllByRecursion (λ c. IsTrue (is_in_box sub c)) by_tiles
    all_inside = cells_inside frame.domain frame.tile frame.cell sub sound box inside

    -- each cell of the box stands in a space tile
    box_on : (x : Cell) → Contains (cells_at (coords_in_order layout sub) rows 0) x → Contains (map on by_tiles) x
    box_on =
        cells_each (Contains (map on by_tiles)) (coords_in_order layout sub) rows 0 (λ i k c e at.
        let within = is_in_box-slice_get layout sub box i c at in
        let start : 0 + i ≡ i = omega arith in
        let same : k ≡ place_in layout sub c = e ∙ start ∙ place_of-only layout sub c within i at in
        subst (λ n. Contains (map on by_tiles) (record { coords = c; row = across n rows })) (sym same) (among_on by_tiles c (cells_covered frame.domain frame.tile frame.cell sub sound box inside c within)))

    -- the cells of the box in global order are those at its coordinates by tiles
    cells_global : in_global_order frame (cells_at (coords_in_order layout sub) rows 0) ≡ map on by_tiles
    cells_global =
        global_same frame (cells_at (coords_in_order layout sub) rows 0) (map on by_tiles) box_on (on_box by_tiles all_inside) (sorted_on frame by_tiles (cells_in_order frame.domain frame.tile frame.cell sub sound box inside))

    spots_are : spots_over frame layout sub ≡ map (spot_in layout sub) by_tiles
    spots_are = mapped_parts (spot_in layout sub) (coords_in_order frame.cell) (tiles_in frame.domain frame.tile sub)

    -- so the versions at the spots are those of the cells in global order
    pub box_versions : spotted (versions ∷ []) (spots_over frame layout sub) ≡ map (version_in o.key o.schema) (in_global_order frame (cells_at (coords_in_order layout sub) rows 0))
    box_versions = ap (spotted (versions ∷ [])) spots_are ∙ spotted_on by_tiles all_inside ∙ ap (map (version_in o.key o.schema)) (sym cells_global)

    -- and the spots are some
    pub box_spots : All (IsSpot (versions ∷ [])) (spots_over frame layout sub)
    box_spots = subst (All (IsSpot (versions ∷ []))) (sym spots_are) (spots_there box by_tiles all_inside)

-- ---- the piece

module _ (frame : Frame) (o : Origin) (layout : Order) (sub : SubBox) (rows : List (List Val)) (box : IsBox sub) where
  -- the write
  abbrev written : Written
  written = record { key = o.key; schema = o.schema; cells = cells_at (coords_in_order layout sub) rows 0 }

  -- the box is the hull of its cells, and has so many
  head_is : (count : ℕ) (head : Head) → count ≡ cells_of sub → head ≡ head_over frame o sub count → head ≡ head_in frame written
  head_is count head counted is =
      let low = sym (low_of_box layout sub rows box) in
      let high = sym (high_of_box layout sub rows box) in
      let many : count ≡ length (cells_at (coords_in_order layout sub) rows 0) = counted ∙ sym (box_length sub layout rows box) in
      is ∙ (λ i. head_over frame o (record { low = low i; high = high i }) (many i))

  module _ (sound : All IsSoundDim frame.domain) (inside : LiesInDomain frame.domain sub) (batches : List (List Version)) (spots : List Spot) (one : batches ≡ versions_over o rows 0 (coords_in_order layout sub) ∷ [])
      (all : spots ≡ spots_over frame layout sub) where
    -- the spots are some of the batches
    pub spots_fit : All (IsSpot batches) spots
    spots_fit = rw (one, all) (box_spots layout sub o rows frame sound box inside)

    -- the piece of the write has its head, and the versions at the spots
    pub piece_is : (count : ℕ) (head : Head) → count ≡ cells_of sub → head ≡ head_over frame o sub count → ◌≡◌ {A = Piece} (record { head = head; versions = spotted batches spots }) (piece_of frame written)
    piece_is count head counted is =
        let heads = head_is count head counted is in
        let versions : spotted batches spots ≡ map (version_in o.key o.schema) (in_global_order frame (cells_at (coords_in_order layout sub) rows 0)) = rw (one, all) (box_versions layout sub o rows frame sound box inside) in
        (λ i. record { head = heads i; versions = versions i }) ∙ piece_parts frame written
