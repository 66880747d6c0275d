-- The order of cells, over whole columns and tile by tile.
use Rattle.std.proofs.Common.{◌≡◌, ℕ, ◌^◌, ◌<◌, Bool, true, false, List, [], ◌∷◌, ◌++◌, map, Option, Some, None, sym, subst}
use Rattle.std.specs.Prelude.{filter, cond}
use Rattle.std.specs.List.{flat_map, AllByRecursion}
use Rattle.std.specs.Cmp.{IsTotalOrder}
use Rattle.std.specs.declared.cmp.Ordering.TheVariants.{Less}
use Rattle.ts_base.specs.declared.keys.FragKey.{FragKey}
use Rattle.ts_base.specs.declared.heads.Version.{Version}
use Rattle.ts_wire.specs.Exact.{InTurn, EachFits}
use Rattle.ts_schema.specs.declared.attrs.Attr.{Attr}
use Rattle.ts_schema.specs.declared.frames.Frame.{Frame}
use Rattle.ts_schema.specs.declared.wants.Want.{Want}
use Rattle.ts_schema.specs.Wants.{taken, is_wanted, cut}
use Rattle.ts_plain.specs.declared.stored.StoredHead.{StoredHead}
use Rattle.ts_plain.specs.declared.stored.StoredCell.{StoredCell}
use Rattle.ts_plain.specs.declared.stored.StoredPiece.{StoredPiece}
use Rattle.ts_plain.specs.Rules.{last_of}
use Rattle.ts_plain.specs.Plain.{FitsCoord, FitsValue, FitsCell}
use Rattle.ts_plain.specs.Pieces.{version_in}
use Rattle.ts_plain.specs.Merges.{Order, version_cmp, VersionsAscend, global_order}
use Rattle.ts_plain.proofs.WrittenPieces.{last_pushed, origins_ascend}
use Rattle.ts_plain.proofs.OrderedPieces.{cells_ascend}
use Rattle.ts_sparse.specs.Tilings.{tiles_of}
use Rattle.ts_sparse.specs.Sparse.{FitsSparse}
use Rattle.ts_sparse.specs.Cuts.{Rise, last_or, TilesRise}
use Rattle.ts_sparse.proofs.Shapes.{all_tiles}

module _ (frame : Frame) (head : StoredHead) where
  -- a list rises where its two parts do, the second behind the last of the first
  rise_split : (before : Option StoredCell) (xs ys : List StoredCell) → Rise frame head before (xs ++ ys) → Rise frame head before xs × Rise frame head (last_or before xs) ys
  rise_split before [] ys rise = (tt, rise)
  rise_split before (x ∷ xs) ys rise = let rest = rise_split (Some x) xs ys rise.1 in ((rise.0, rest.0), rest.1)

  rise_join : (before : Option StoredCell) (xs ys : List StoredCell) → Rise frame head before xs → Rise frame head (last_or before xs) ys → Rise frame head before (xs ++ ys)
  rise_join before [] ys first second = second
  rise_join before (x ∷ xs) ys first second = (first.0, rise_join (Some x) xs ys first.1 second)

  by_tiles : (before : Option StoredCell) (tiles : List (List StoredCell)) → Rise frame head before (flat_map (λ t. t) tiles) → TilesRise frame head before tiles
  by_tiles before [] rise = tt
  by_tiles before (t ∷ tiles) rise = let parts = rise_split before t (flat_map (λ t. t) tiles) rise in (parts.0, by_tiles (last_or before t) tiles parts.1)

  from_tiles : (before : Option StoredCell) (tiles : List (List StoredCell)) → TilesRise frame head before tiles → Rise frame head before (flat_map (λ t. t) tiles)
  from_tiles before [] rise = tt
  from_tiles before (t ∷ tiles) rise = rise_join before t (flat_map (λ t. t) tiles) rise.0 (from_tiles (last_or before t) tiles rise.1)

  -- the cells are in order where they are in order in each tile and at the seams
  pub order_by_tiles : (n : ℕ) (cells : List StoredCell) → Rise frame head None cells → TilesRise frame head None (tiles_of n cells)
  order_by_tiles n cells rise = by_tiles None (tiles_of n cells) (subst (Rise frame head None) (sym (all_tiles n cells)) rise)

  pub order_from_tiles : (n : ℕ) (cells : List StoredCell) → TilesRise frame head None (tiles_of n cells) → Rise frame head None cells
  order_from_tiles n cells rise = subst (Rise frame head None) (all_tiles n cells) (from_tiles None (tiles_of n cells) rise)

  module _ (attrs : List Attr) where
    -- what a cell keeps by itself
    pub record FitsAlone (cell : StoredCell) : Type 0 where
      pub coords : EachFits FitsCoord head.hull cell.coords
      pub origin : cell.origin < 256 ^ 4
      pub row : EachFits FitsValue attrs cell.row

    abbrev pub AllAlone : List StoredCell → Type 0
    AllAlone [] = Unit {0}
    AllAlone (c ∷ cells) = FitsAlone c × AllAlone cells

    -- the rule of a plain fragment is both: each cell by itself, and the order
    pub in_turn_rises : (front cells : List StoredCell) → InTurn (FitsCell frame attrs head) front cells → Rise frame head (last_of front) cells × AllAlone cells
    in_turn_rises front [] fits = (tt, tt)
    in_turn_rises front (c ∷ cells) fits =
        let f = fits.0 in
        let rest = in_turn_rises (front ++ c ∷ []) cells fits.1 in
        ((record { rises = f.rises; known = f.known }, subst (λ o. Rise frame head o cells) (last_pushed front c) rest.0), (record { coords = f.coords; origin = f.origin; row = f.row }, rest.1))

    pub rises_in_turn : (front cells : List StoredCell) → Rise frame head (last_of front) cells → AllAlone cells → InTurn (FitsCell frame attrs head) front cells
    rises_in_turn front [] rise alone = tt
    rises_in_turn front (c ∷ cells) rise alone =
        let r = rise.0 in
        let a = alone.0 in (
          record { coords = a.coords; rises = r.rises; origin = a.origin; known = r.known; row = a.row },
          rises_in_turn (front ++ c ∷ []) cells (subst (λ o. Rise frame head o cells) (sym (last_pushed front c)) rise.1) alone.1,
        )

-- ---- what is taken ascends

module _ (cmp : Order) where
  some_pass : (P : Version → Type 0) (p : Version → Bool) (vs : List Version) → AllByRecursion P vs → AllByRecursion P (filter p vs)
  some_pass P p [] all = tt
  some_pass P p (v ∷ vs) all = by (some_pass P p vs all.1) (p v)
    where
      by : AllByRecursion P (filter p vs) → (b : Bool) → AllByRecursion P (cond b (v ∷ filter p vs) (filter p vs))
      by rest true = (all.0, rest)
      by rest false = rest

  filter_ascends : (p : Version → Bool) (vs : List Version) → VersionsAscend cmp vs → VersionsAscend cmp (filter p vs)
  filter_ascends p [] up = tt
  filter_ascends p (v ∷ vs) up = by (filter_ascends p vs up.1) (p v)
    where
      by : VersionsAscend cmp (filter p vs) → (b : Bool) → VersionsAscend cmp (cond b (v ∷ filter p vs) (filter p vs))
      by rest true = (some_pass (λ w. version_cmp cmp v w ≡ Less) p vs up.0, rest)
      by rest false = rest

  cut_below : (want : Want) (v : Version) (vs : List Version) → AllByRecursion (λ w. version_cmp cmp v w ≡ Less) vs → AllByRecursion (λ w. version_cmp cmp (cut want v) w ≡ Less) (map (cut want) vs)
  cut_below want v [] all = tt
  cut_below want v (w ∷ vs) all = (all.0, cut_below want v vs all.1)

  cut_ascends : (want : Want) (vs : List Version) → VersionsAscend cmp vs → VersionsAscend cmp (map (cut want) vs)
  cut_ascends want [] up = tt
  cut_ascends want (v ∷ vs) up = (cut_below want v vs up.0, cut_ascends want vs up.1)

  -- what is wanted of versions that ascend does so too
  pub taken_ascends : (want : Want) (vs : List Version) → VersionsAscend cmp vs → VersionsAscend cmp (taken want vs)
  taken_ascends want vs up = cut_ascends want (filter (is_wanted want) vs) (filter_ascends (is_wanted want) vs up)

  module _ (total : IsTotalOrder (version_cmp cmp)) where
    below_more : (v w : Version) (ys : List Version) → version_cmp cmp v w ≡ Less → AllByRecursion (λ u. version_cmp cmp w u ≡ Less) ys → AllByRecursion (λ u. version_cmp cmp v u ≡ Less) ys
    below_more v w [] less all = tt
    below_more v w (y ∷ ys) less all = (total.trans v w y less all.0, below_more v w ys less all.1)

    both_below : (v : Version) (xs ys : List Version) → AllByRecursion (λ u. version_cmp cmp v u ≡ Less) xs → AllByRecursion (λ u. version_cmp cmp v u ≡ Less) ys → AllByRecursion (λ u. version_cmp cmp v u ≡ Less) (xs ++ ys)
    both_below v [] ys a b = b
    both_below v (x ∷ xs) ys a b = (a.0, both_below v xs ys a.1 b)

    last_below : (v x : Version) (xs : List Version) → AllByRecursion (λ u. version_cmp cmp v u ≡ Less) (xs ++ x ∷ []) → version_cmp cmp v x ≡ Less
    last_below v x [] all = all.0
    last_below v x (y ∷ xs) all = last_below v x xs all.1

    -- two lists that ascend do so together where the last of the first is below the first of the second: all that a reader tests between tiles, neighbours or not
    pub seam_ascends : (xs : List Version) (x y : Version) (ys : List Version) → VersionsAscend cmp (xs ++ x ∷ []) → VersionsAscend cmp (y ∷ ys) → version_cmp cmp x y ≡ Less → VersionsAscend cmp ((xs ++ x ∷ []) ++ y ∷ ys)
    seam_ascends [] x y ys first second less = ((less, below_more x y ys less second.0), second)
    seam_ascends (v ∷ xs) x y ys first second less =
        let below = last_below v x xs first.0 in
        let far = total.trans v x y below less in
        (both_below v (xs ++ x ∷ []) (y ∷ ys) first.0 (far, below_more v y ys far second.0), seam_ascends xs x y ys first.1 second less)

-- the versions of a sparse fragment ascend
pub sparse_ascends : (frame : Frame) (attrs : List Attr) (frag : FragKey) (s : StoredPiece) → FitsSparse frame attrs frag s → VersionsAscend (global_order frame) (map (version_in s.head) s.cells)
sparse_ascends frame attrs frag s fits =
    let up = origins_ascend frag s.head.consolidated s.head.origins (fits.plain).head.some_origin (fits.plain).head.origins in
    cells_ascend frame attrs s.head up [] s.cells (fits.plain).cells
