-- The versions that a fetch takes lie in the domain, and ascend in global order.
use Rattle.std.proofs.Common.{◌≡◌, ℕ, ◌^◌, ◌<◌, ℤ, pos, negsuc, true, ◌&&◌, int_le, List, [], ◌∷◌, ◌++◌, length, map, Option, Some, None, subst, arith}
use Rattle.std.specs.Prelude.{IsTrue, filter, get_or}
use Rattle.std.specs.List.{flat_map, All, AllByRecursion}
use Rattle.std.specs.declared.cmp.Ordering.TheVariants.{Less}
use Rattle.std.proofs.lemmas.Int.{ints}
use Rattle.std.proofs.lemmas.Bool.{and_parts}
use Rattle.std.proofs.lemmas.List.Elements.{All-head, All-tail, All-nil, All-cons, All-append, All-filter}
use Rattle.ts_base.specs.declared.keys.FragKey.{FragKey}
use Rattle.ts_base.specs.declared.heads.Version.{Version}
use Rattle.ts_domain.specs.declared.dims.Dim.{Dim}
use Rattle.ts_domain.specs.Bounds.{is_between}
use Rattle.ts_domain.specs.Boxes.{is_in_box, Covers}
use Rattle.ts_wire.specs.Exact.{EachFits}
use Rattle.ts_wire.specs.Numbers.{FitsInt}
use Rattle.ts_schema.specs.declared.attrs.Attr.{Attr}
use Rattle.ts_schema.specs.declared.frames.Frame.{Frame}
use Rattle.ts_schema.specs.declared.wants.Want.{Want}
use Rattle.ts_schema.specs.Wants.{taken, is_wanted, cut}
use Rattle.ts_plain.specs.declared.stored.Side.{Side}
use Rattle.ts_plain.specs.declared.stored.StoredHead.{StoredHead}
use Rattle.ts_plain.specs.declared.stored.StoredCell.{StoredCell}
use Rattle.ts_plain.specs.Plain.{FitsCoord, FitsSide, FitsHead}
use Rattle.ts_plain.specs.Pieces.{version_in}
use Rattle.ts_plain.specs.Writes.{box_of}
use Rattle.ts_plain.specs.Merges.{global_order, version_cmp, VersionsAscend, LiesInside, IsOrdered}
use Rattle.ts_plain.proofs.WrittenPieces.{origins_ascend}
use Rattle.ts_plain.proofs.OrderedPieces.{cells_ascend, cells_inside}
use Rattle.ts_actor.specs.PieceLaws.{TakesOrdered}
use Rattle.ts_footer.specs.declared.footers.Footer.{Footer}
use Rattle.ts_footer.specs.Footers.{leaves_in, FitsFooter}
use Rattle.ts_sparse.specs.Cuts.{Rise, last_or}
use Rattle.ts_sparse.proofs.OrderLaws.{AllAlone, rises_in_turn, taken_ascends}
use Rattle.ts_sparse_read.specs.declared.opened.UsedColumn.{UsedColumn}
use Rattle.ts_sparse_read.specs.declared.opened.WantedTile.{WantedTile}
use Rattle.ts_sparse_read.specs.Opens.{no_box, used_in, tile_at, tiles_at, places_for}
use Rattle.ts_sparse_read.specs.Codecs.{sparse_codec}
use Rattle.ts_sparse_read.specs.ReadTiles.{IsReadTile}
use Rattle.ts_sparse_read.specs.ReadCells.{AreRead}
use Rattle.ts_sparse_read.specs.SoundTiles.{IsPlace, all_places, leaves_within}
use Rattle.ts_sparse_read.specs.TakenCells.{taken_cells}

-- ---- cells in a hull

-- a number between two that have room has room
between_fits : (l x h : ℤ) → int_le l x ≡ true → int_le x h ≡ true → FitsInt 16 true l → FitsInt 16 true h → FitsInt 16 true x
between_fits l (pos a) (pos b) low high fl fh = omega (arith, ints, high, fh)
between_fits l (pos a) (negsuc b) low high fl fh = absurd (omega (arith, ints, high))
between_fits (pos b) (negsuc a) h low high fl fh = absurd (omega (arith, ints, low))
between_fits (negsuc b) (negsuc a) h low high fl fh = omega (arith, ints, low, fl)

-- coordinates between the corners of a hull in the domain lie on its sides
pub on_hull : (dims : List Dim) (hull : List Side) (coords : List ℤ) → EachFits FitsSide dims hull → IsTrue (is_in_box (box_of hull) coords) → EachFits FitsCoord hull coords
on_hull [] [] [] fits inside = tt
on_hull [] [] (x ∷ coords) fits inside = absurd (cc)
on_hull [] (side ∷ hull) coords fits inside = absurd fits
on_hull (d ∷ dims) [] coords fits inside = absurd fits
on_hull (d ∷ dims) (side ∷ hull) [] fits inside = absurd (cc)
on_hull (d ∷ dims) (side ∷ hull) (x ∷ coords) fits inside =
    let parts = and_parts (int_le side.low x && int_le x side.high) (is_in_box (box_of hull) coords) inside in
    let here = and_parts (int_le side.low x) (int_le x side.high) parts.0 in
    ((between_fits side.low x side.high here.0 here.1 (fits.0).low.0 (fits.0).high.0, parts.0), on_hull dims hull coords fits.1 parts.1)

-- ---- cells without their values

-- the cell without its values
abbrev bare : StoredCell → StoredCell
bare c = record { coords = c.coords; origin = c.origin; row = [] }

-- a cell before others without its values
abbrev bare_before : Option StoredCell → Option StoredCell
bare_before None = None
bare_before (Some c) = Some (bare c)

module _ (frame : Frame) (head : StoredHead) where
  -- a cell with coordinates on the sides of the hull
  abbrev pub IsOnHull : StoredCell → Type 0
  IsOnHull c = EachFits FitsCoord head.hull c.coords × (c.origin < 256 ^ 4)

  bare_rise : (before : Option StoredCell) (cells : List StoredCell) → Rise frame head before cells → Rise frame head (bare_before before) (map bare cells)
  bare_rise before [] rise = tt
  bare_rise None (c ∷ cells) rise = (record { rises = rise.0.rises; known = rise.0.known }, bare_rise (Some c) cells rise.1)
  bare_rise (Some b) (c ∷ cells) rise = (record { rises = rise.0.rises; known = rise.0.known }, bare_rise (Some c) cells rise.1)

  bare_alone : (cells : List StoredCell) → All IsOnHull cells → AllAlone frame head [] (map bare cells)
  bare_alone [] all = tt
  bare_alone (c ∷ cells) all =
      let is = All-head IsOnHull c cells all in
      (record { coords = is.0; origin = is.1; row = tt }, bare_alone cells (All-tail IsOnHull c cells all))

  -- the order of versions asks for no values
  below_bare : (v : StoredCell) (cells : List StoredCell) → AllByRecursion (λ (w : Version). version_cmp (global_order frame) (version_in head (bare v)) w ≡ Less) (map (version_in head) (map bare cells))
      → AllByRecursion (λ (w : Version). version_cmp (global_order frame) (version_in head v) w ≡ Less) (map (version_in head) cells)
  below_bare v [] all = tt
  below_bare v (c ∷ cells) all = (all.0, below_bare v cells all.1)

  ascend_bare : (cells : List StoredCell) → VersionsAscend (global_order frame) (map (version_in head) (map bare cells)) → VersionsAscend (global_order frame) (map (version_in head) cells)
  ascend_bare [] up = tt
  ascend_bare (c ∷ cells) up = (below_bare c cells up.0, ascend_bare cells up.1)

  inside_bare : (cells : List StoredCell) → All (LiesInside frame) (map (version_in head) (map bare cells)) → All (LiesInside frame) (map (version_in head) cells)
  inside_bare [] all = All-nil (LiesInside frame)
  inside_bare (c ∷ cells) all =
      let v = version_in head (bare c) in
      let vs = map (version_in head) (map bare cells) in
      All-cons (LiesInside frame) (version_in head c) (map (version_in head) cells) (All-head (LiesInside frame) v vs all) (inside_bare cells (All-tail (LiesInside frame) v vs all))

  -- cells that rise on the sides of a hull hold versions in order
  pub rising_ordered : (frag : FragKey) → FitsHead frame frag head → (cells : List StoredCell) → Rise frame head None cells → All IsOnHull cells → IsOrdered frame (map (version_in head) cells)
  rising_ordered frag fits cells rise on =
      let up = origins_ascend frag head.consolidated head.origins fits.some_origin fits.origins in
      let turn = rises_in_turn frame head [] [] (map bare cells) (bare_rise None cells rise) (bare_alone cells on) in
      record {
        inside = inside_bare cells (cells_inside frame [] head up [] (map bare cells) fits.hull turn);
        ascend = ascend_bare cells (cells_ascend frame [] head up [] (map bare cells) turn);
      }

-- ---- what is taken

cut_inside : (frame : Frame) (want : Want) (vs : List Version) → All (LiesInside frame) vs → All (LiesInside frame) (map (cut want) vs)
cut_inside frame want [] all = All-nil (LiesInside frame)
cut_inside frame want (v ∷ vs) all = All-cons (LiesInside frame) (cut want v) (map (cut want) vs) (All-head (LiesInside frame) v vs all) (cut_inside frame want vs (All-tail (LiesInside frame) v vs all))

-- what is wanted of versions in order is in order
pub taken_ordered : (frame : Frame) (want : Want) (vs : List Version) → IsOrdered frame vs → IsOrdered frame (taken want vs)
taken_ordered frame want vs is = record {
  inside = cut_inside frame want (filter (is_wanted want) vs) (All-filter (is_wanted want) (LiesInside frame) vs is.inside);
  ascend = taken_ascends (global_order frame) want vs is.ascend;
}

-- ---- all tiles

module _ (frame : Frame) (attrs : List Attr) (places : List ℕ) (head : StoredHead) where
  rise_join : (before : Option StoredCell) (xs ys : List StoredCell) → Rise frame head before xs → Rise frame head (last_or before xs) ys → Rise frame head before (xs ++ ys)
  rise_join before [] ys first second = second
  rise_join before (x ∷ xs) ys first second = (first.0, rise_join (Some x) xs ys first.1 second)

  -- the cells of all tiles rise
  pub all_rise : (before : Option StoredCell) (tiles : List WantedTile) (parts : List (List StoredCell)) → AreRead frame attrs places head before tiles parts → Rise frame head before (flat_map (λ (t : List StoredCell). t) parts)
  all_rise before [] [] are = tt
  all_rise before [] (cells ∷ parts) are = absurd are
  all_rise before (t ∷ tiles) [] are = absurd are
  all_rise before (t ∷ tiles) (cells ∷ parts) are =
      rise_join before cells (flat_map (λ (t : List StoredCell). t) parts) (are.0).rises (all_rise (last_or before cells) tiles parts are.1)

module _ (frame : Frame) (attrs : List Attr) (frag : FragKey) (footer : Footer) (fits : FitsFooter frame attrs frag footer) (used : List UsedColumn) (places : List ℕ) where
  -- the cells of a tile lie on the sides of the hull
  tile_on_hull : (before : Option StoredCell) (i : ℕ) (cells : List StoredCell) → i < length (leaves_in footer.tree)
      → IsReadTile frame attrs places footer.head before (tile_at frame footer used i).leaf (tile_at frame footer used i).cells cells → All (IsOnHull frame footer.head) cells
  tile_on_hull before i cells within is =
      let leaf = get_or (leaves_in footer.tree) i no_box in
      let covers : Covers (box_of (footer.head).hull) leaf = leaves_within frame attrs frag footer fits i no_box within in
      each cells (λ c inside small. (on_hull frame.domain (footer.head).hull c.coords (fits.head).hull (covers c.coords inside), small)) is.inside is.small
    where
      each : (cs : List StoredCell) → ((c : StoredCell) → IsTrue (is_between (get_or (leaves_in footer.tree) i no_box).low (get_or (leaves_in footer.tree) i no_box).high c.coords) → c.origin < 256 ^ 4 → IsOnHull frame footer.head c)
          → All (λ (c : StoredCell). IsTrue (is_between (get_or (leaves_in footer.tree) i no_box).low (get_or (leaves_in footer.tree) i no_box).high c.coords)) cs → All (λ (c : StoredCell). c.origin < 256 ^ 4) cs
          → All (IsOnHull frame footer.head) cs
      each cs step inside small = λ k c room. step (get_or cs k c) (inside k c room) (small k c room)

  -- so do those of all tiles
  pub all_on_hull : (before : Option StoredCell) (tiles : List ℕ) (parts : List (List StoredCell)) → All (IsPlace frame attrs frag footer fits) tiles
      → AreRead frame attrs places footer.head before (tiles_at frame footer used tiles) parts → All (IsOnHull frame footer.head) (flat_map (λ (t : List StoredCell). t) parts)
  all_on_hull before [] [] all are = All-nil (IsOnHull frame footer.head)
  all_on_hull before [] (cells ∷ parts) all are = absurd are
  all_on_hull before (i ∷ tiles) [] all are = absurd are
  all_on_hull before (i ∷ tiles) (cells ∷ parts) all are =
      let place = All-head (IsPlace frame attrs frag footer fits) i tiles all in
      All-append (IsOnHull frame footer.head) cells (flat_map (λ (t : List StoredCell). t) parts) (tile_on_hull before i cells place.0 are.0)
      (all_on_hull (last_or before cells) tiles parts (All-tail (IsPlace frame attrs frag footer fits) i tiles all) are.1)

  -- the versions of the cells that were read are in order
  pub read_ordered : (tiles : List ℕ) (parts : List (List StoredCell)) → All (IsPlace frame attrs frag footer fits) tiles → AreRead frame attrs places footer.head None (tiles_at frame footer used tiles) parts
      → IsOrdered frame (map (version_in footer.head) (flat_map (λ (t : List StoredCell). t) parts))
  read_ordered tiles parts all are =
      rising_ordered frame footer.head frag fits.head (flat_map (λ (t : List StoredCell). t) parts) (all_rise frame attrs places footer.head None (tiles_at frame footer used tiles) parts are)
      (all_on_hull None tiles parts all are)

-- ---- what a fetch takes

-- whatever replies come, the versions that a fetch takes are in order
pub sparse_ordered : TakesOrdered sparse_codec
sparse_ordered frame s frag object want gots sizes versions all short ends =
    let took = taken_cells frame s frag object want gots sizes versions all short ends in
    let places = places_for frame want.sub took.footer in
    let are = read_ordered frame s.attrs frag took.footer took.fits (used_in frame s.attrs took.footer want.attrs) want.attrs places took.parts (all_places frame s.attrs frag took.footer took.fits want.sub) took.are in
    subst (IsOrdered frame) took.took (taken_ordered frame want (map (version_in took.footer.head) (flat_map (λ (t : List StoredCell). t) took.parts)) are)
