-- The versions of a plain object lie in the domain, and ascend in global order.
use Rattle.std.proofs.Common.{◌≡◌, ℕ, ℤ, Bool, true, false, ◌&&◌, ◌||◌, nat_lt, int_le, List, [], ◌∷◌, ◌++◌, length, map, Some, refl, sym, subst, arith}
use Rattle.std.specs.Prelude.{IsTrue, not}
use Rattle.std.specs.List.{All, AllByRecursion}
use Rattle.std.specs.List.Sorted.{IsStrictlySortedBy}
use Rattle.std.specs.Cmp.{IsTotalOrder}
use Rattle.std.specs.Cmp.Lexicographic.{lists_equiv}
use Rattle.std.specs.Ordering.{is_gt, ordering_then}
use Rattle.std.specs.declared.cmp.Ordering.{Ordering}
use Rattle.std.specs.declared.cmp.Ordering.TheVariants.{Less, Equal, Greater}
use Rattle.std.proofs.lemmas.Int.{ints}
use Rattle.std.proofs.lemmas.Bool.{true≢false, and_parts, and_from, ltb-true}
use Rattle.std.proofs.lemmas.Cmp.{int_eq_equiv, then_total, on_total}
use Rattle.std.proofs.lemmas.List.Elements.{All-nil, All-cons}
use Rattle.std.proofs.lemmas.Map.Keys.{Less-from_sorted}
use Rattle.ts_base.specs.declared.heads.Piece.{Piece}
use Rattle.ts_base.specs.declared.heads.Version.{Version}
use Rattle.ts_base.specs.Keys.{key_cmp}
use Rattle.ts_base.specs.Coords.{coords_eq}
use Rattle.ts_base.specs.Exact.{key_total}
use Rattle.ts_domain.specs.declared.dims.Dim.{Dim}
use Rattle.ts_domain.specs.Domains.{is_in_domain}
use Rattle.ts_order.proofs.OrderLemmas.{global_total, global_cmp-exact}
use Rattle.ts_wire.specs.Exact.{InTurn, EachFits}
use Rattle.ts_schema.specs.declared.attrs.Attr.{Attr}
use Rattle.ts_schema.specs.declared.frames.Frame.{Frame}
use Rattle.ts_plain.specs.declared.stored.Side.{Side}
use Rattle.ts_plain.specs.declared.stored.StoredHead.{StoredHead}
use Rattle.ts_plain.specs.declared.stored.StoredCell.{StoredCell}
use Rattle.ts_plain.specs.Rules.{last_of, coords_rise, origin_rises}
use Rattle.ts_plain.specs.Plain.{FitsCoord, FitsSide, FitsCell}
use Rattle.ts_plain.specs.Pieces.{no_key, version_in, piece_of, IsPlainObject}
use Rattle.ts_plain.specs.Merges.{global_order, version_cmp, VersionsAscend, LiesInside, IsOrdered}
use Rattle.ts_plain.proofs.WrittenPieces.{last_pushed, origins_ascend}

-- coordinates on the sides of a hull lie in the domain
on_sides : (dims : List Dim) (hull : List Side) (coords : List ℤ) → EachFits FitsSide dims hull → EachFits FitsCoord hull coords → IsTrue (is_in_domain dims coords)
on_sides [] [] [] is on = refl
on_sides [] [] (x ∷ coords) is on = absurd on
on_sides [] (side ∷ hull) coords is on = absurd is
on_sides (d ∷ dims) [] coords is on = absurd is
on_sides (d ∷ dims) (side ∷ hull) [] is on = absurd on
on_sides (d ∷ dims) (side ∷ hull) (x ∷ coords) is on =
    let low = and_parts (int_le d.low side.low) (int_le side.low d.high) (is.0).low.1 in
    let high = and_parts (int_le side.low side.high) (int_le side.high d.high) (is.0).high.1 in
    let here = and_parts (int_le side.low x) (int_le x side.high) on.0.1 in
    and_from (int_le d.low x && int_le x d.high) (is_in_domain dims coords) (between d.low side.low x side.high d.high low.0 here.0 here.1 high.1) (on_sides dims hull coords is.1 on.1)
  where
    between : (a b c d e : ℤ) → int_le a b ≡ true → int_le b c ≡ true → int_le c d ≡ true → int_le d e ≡ true → int_le a c && int_le c e ≡ true
    between a b c d e ab bc cd de = grind (arith, ints)

module _ (frame : Frame) where
  -- versions are ordered by coordinates and then by keys
  version_total : IsTotalOrder (version_cmp (global_order frame))
  version_total = then_total (on_total (λ (v : Version). v.coords) (global_total frame.domain frame.tile frame.cell)) (on_total (λ (v : Version). v.key) key_total)

  module _ (attrs : List Attr) (head : StoredHead) (up : IsStrictlySortedBy key_cmp head.origins) where
    -- a cell that may stand behind another holds a version behind the other's
    step : (a b : StoredCell) → IsTrue (coords_rise frame (Some a) b.coords) → IsTrue (nat_lt b.origin (length head.origins) && origin_rises frame.dense (Some a) b.coords b.origin)
        → version_cmp (global_order frame) (version_in head a) (version_in head b) ≡ Less
    step a b rises known = by (global_order frame a.coords b.coords) refl rises
      where
        both : (nat_lt b.origin (length head.origins) ≡ true) × (origin_rises frame.dense (Some a) b.coords b.origin ≡ true)
        both = and_parts (nat_lt b.origin (length head.origins)) (origin_rises frame.dense (Some a) b.coords b.origin) known

        same : global_order frame a.coords b.coords ≡ Equal → coords_eq a.coords b.coords ≡ true
        same tie = subst (λ c. coords_eq a.coords c ≡ true) (global_cmp-exact frame.domain frame.tile frame.cell a.coords b.coords tie) ((lists_equiv int_eq_equiv).refl a.coords)

        below : (s t u : Bool) → s ≡ true → (not s || (t && u)) ≡ true → u ≡ true
        below true true u e h = h
        below true false u e h = absurd (true≢false (sym h))
        below false t u e h = absurd (true≢false (sym e))

        by : (o : Ordering) → global_order frame a.coords b.coords ≡ o → not (is_gt o) ≡ true
            → ordering_then o (key_cmp (version_in head a).key (version_in head b).key) ≡ Less
        by Less e h = refl
        by Greater e h = absurd (true≢false (sym h))
        by Equal e h =
            let less = ltb-true a.origin b.origin (below (coords_eq a.coords b.coords) (not frame.dense) (nat_lt a.origin b.origin) (same e) both.1) in
            let room = ltb-true b.origin (length head.origins) both.0 in
            Less-from_sorted key_cmp head.origins a.origin b.origin no_key up less room

    -- the same for the cell at the end of those before
    step_on : (front : List StoredCell) (a b : StoredCell) → last_of front ≡ Some a → FitsCell frame attrs head front b → version_cmp (global_order frame) (version_in head a) (version_in head b) ≡ Less
    step_on front a b last fits =
        step a b (subst (λ o. IsTrue (coords_rise frame o b.coords)) last fits.rises)
        (subst (λ o. IsTrue (nat_lt b.origin (length head.origins) && origin_rises frame.dense o b.coords b.origin)) last fits.known)

    -- what is below the last version is below all that follow
    below_all : (u : Version) (a : StoredCell) (front cells : List StoredCell) → last_of front ≡ Some a
        → ((w : Version) → version_cmp (global_order frame) (version_in head a) w ≡ Less → version_cmp (global_order frame) u w ≡ Less)
        → InTurn (FitsCell frame attrs head) front cells → AllByRecursion (λ (w : Version). version_cmp (global_order frame) u w ≡ Less) (map (version_in head) cells)
    below_all u a front [] last carry fits = tt
    below_all u a front (b ∷ cells) last carry fits =
        let here = carry (version_in head b) (step_on front a b last fits.0) in
        (here, below_all u b (front ++ b ∷ []) cells (last_pushed front b) (λ w next. version_total.trans u (version_in head b) w here next) fits.1)

    -- the versions of cells ascend
    pub cells_ascend : (front cells : List StoredCell) → InTurn (FitsCell frame attrs head) front cells → VersionsAscend (global_order frame) (map (version_in head) cells)
    cells_ascend front [] fits = tt
    cells_ascend front (a ∷ cells) fits =
        (below_all (version_in head a) a (front ++ a ∷ []) cells (last_pushed front a) (λ w less. less) fits.1, cells_ascend (front ++ a ∷ []) cells fits.1)

    -- they lie in the domain
    pub cells_inside : (front cells : List StoredCell) → EachFits FitsSide frame.domain head.hull → InTurn (FitsCell frame attrs head) front cells → All (LiesInside frame) (map (version_in head) cells)
    cells_inside front [] hull fits = All-nil (LiesInside frame)
    cells_inside front (a ∷ cells) hull fits =
        All-cons (LiesInside frame) (version_in head a) (map (version_in head) cells) (on_sides frame.domain head.hull a.coords hull (fits.0).coords) (cells_inside (front ++ a ∷ []) cells hull fits.1)

-- the versions of a piece that an object holds are in order
pub plain_ordered : (frame : Frame) (attrs : List Attr) (piece : Piece) (bytes : List ℕ) → IsPlainObject frame attrs piece bytes → IsOrdered frame piece.versions
unfolding piece_of
plain_ordered frame attrs piece bytes is =
    let stored = is.stored in
    let up = origins_ascend piece.head.frag stored.head.consolidated stored.head.origins (is.fits).head.some_origin (is.fits).head.origins in
    subst (λ (p : Piece). IsOrdered frame p.versions) (sym is.same) (record {
      inside = cells_inside frame attrs stored.head up [] stored.cells (is.fits).head.hull (is.fits).cells;
      ascend = cells_ascend frame attrs stored.head up [] stored.cells (is.fits).cells;
    })
