-- What pieces that can be written are merged into can be written.
use Rattle.std.proofs.Common.{◌≡◌, ℕ, ℤ, ◌≤◌, ◌<◌, ◌-◌, ◌^◌, ◌⊎◌, Bool, true, false, ◌&&◌, cond, inl, inr, List, [], ◌∷◌, ◌++◌, length, Option, Some, None, int_cmp, refl, sym, ◌∙◌, ap, subst, arith}
use Rattle.std.specs.Prelude.{Contains, IsTrue, T, All, ⊤, min, map as list_map}
use Rattle.std.specs.Cmp.Lexicographic.{slice_cmp}
use Rattle.std.specs.Ordering.{ordering_then, eq_by_cmp, is_lt, is_eq}
use Rattle.std.specs.declared.cmp.Ordering.{Ordering}
use Rattle.std.specs.declared.cmp.Ordering.TheVariants.{Less, Equal, Greater}
use Rattle.std.specs.List.{AllByRecursion}
use Rattle.std.specs.FinMap as map
use Rattle.std.specs.FinMap.Entries.{below_all}
use Rattle.std.proofs.lemmas.Bool.{true≢false, and_from, and_parts}
use Rattle.std.proofs.lemmas.Option.{same_Some, none-some}
use Rattle.std.proofs.lemmas.List.{length-map}
use Rattle.std.proofs.lemmas.List.Elements.{All-nil, All-cons, All-contains, Contains-append_cases, Contains-append_left, Contains-append_right}
use Rattle.ts_base.specs.declared.keys.Key.{Key}
use Rattle.ts_base.specs.declared.heads.Piece.{Piece}
use Rattle.ts_base.specs.declared.heads.Version.{Version}
use Rattle.ts_base.specs.Keys.{key_cmp, key_eq, frag_of}
use Rattle.ts_base.specs.Exact.{key_total, key_exact}
use Rattle.ts_base.specs.Coords.{coords_eq}
use Rattle.ts_domain.specs.declared.dims.Dim.{Dim}
use Rattle.ts_domain.specs.declared.boxes.SubBox.{SubBox}
use Rattle.ts_domain.specs.Bounds.{are_bounds, cells_between}
use Rattle.ts_domain.specs.Boxes.{IsBox, Covers, is_in_box}
use Rattle.ts_domain.specs.Domains.{whole_domain, is_in_domain}
use Rattle.ts_domain.proofs.Between.{length-is_between, is_between-low, is_between-high, is_between-hull_first, is_between-hull_least}
use Rattle.ts_order.proofs.PlaceLaws.{place_of-below}
use Rattle.ts_schema.specs.declared.attrs.Attr.{Attr}
use Rattle.ts_schema.specs.declared.frames.Frame.{Frame}
use Rattle.ts_schema.specs.FrameTexts.{IsFrame}
use Rattle.ts_schema.specs.SchemaTexts.{AreAttrs}
use Rattle.ts_commit.specs.Selections.{has_origin, keeps_last}
use Rattle.ts_model.specs.Commands.{global_order}
use Rattle.ts_model.specs.Deeds.{IsKey}
use Rattle.ts_model.specs.Pieces.{version_at, newest_of, IsVersion, IsTight}
use Rattle.ts_model.specs.Places.{place_of, place_cmp}
use Rattle.ts_model.proofs.KeyLemmas.{tie_itself, key_itself, greatest-None, greatest-Some}
use Rattle.ts_model.proofs.ListLemmas.{Contains-nil, Contains-here, Contains-only, Contains-there, Contains-cons, Contains-filter, filter-Contains, find-Some, find_member, each_holds}
use Rattle.ts_model.proofs.Newest.{coords_same, coords_itself, coords_tie, OwnCoords, own_newest, get_newest_of}
use Rattle.ts_model.specs.Merging.{MergesTo, newest_at, all_versions, version_place_cmp, version_place, placed_of, in_version_order, merged_versions, cells_told, origins_of_all, hull_from, heads_of, merged_piece, HasBox, AreSources}
use Rattle.ts_model.specs.Consolidated.{box_in, IsSpan, IsMergedVersion, ComesBefore, Rise, IsConsolidated, IsStorable}
use Rattle.ts_model.proofs.Members.{key_found, key_there, any_member, member_any, with_own_key}
use Rattle.ts_model.proofs.UnionLaws.{place_exact, version_total, version_exact, turned_once, parts_of, less_of, below_apart, entries_all, Entry, IsNamed, versions_of, entries_in, merged_at}
use Rattle.ts_model.proofs.MergedPieces.{IsBoxOf, IsHullFrom, origins_are, origins_ascend, merges_to, corners, merged_span}

-- ---- the newest versions

-- behind an entry each is found as before
skip : (e : List ℤ × Version) (es us : List (List ℤ × Version)) → OwnCoords us → T (below_all (slice_cmp int_cmp) e.0 us) → AllByRecursion (λ (u : Version). map.find (slice_cmp int_cmp) u.coords es ≡ Some u) (list_map (λ x. x.1) us)
    → AllByRecursion (λ (u : Version). map.find (slice_cmp int_cmp) u.coords (e ∷ es) ≡ Some u) (list_map (λ x. x.1) us)
skip e es [] own below all = tt
skip e es (u ∷ us) own below all =
    (by (eq_by_cmp (slice_cmp int_cmp) u.1.coords e.0) refl, skip e es us own.1 parts.1 all.1)
  where
    parts : T (is_lt (slice_cmp int_cmp e.0 u.0)) × T (below_all (slice_cmp int_cmp) e.0 us)
    parts = parts_of (is_lt (slice_cmp int_cmp e.0 u.0)) (below_all (slice_cmp int_cmp) e.0 us) below

    by : (b : Bool) → eq_by_cmp (slice_cmp int_cmp) u.1.coords e.0 ≡ b → cond b (Some e.1) (map.find (slice_cmp int_cmp) u.1.coords es) ≡ Some u.1
    by false other = all.0
    by true tie =
        let same : e.0 ≡ u.0 = coords_same e.0 u.1.coords (sym (coords_tie u.1.coords e.0) ∙ tie) ∙ own.0 in
        absurd (true≢false (sym (coords_itself e.0) ∙ ap (λ x. coords_eq x e.0) same ∙ below_apart e.0 u.0 (less_of (slice_cmp int_cmp e.0 u.0) parts.0)))

each_found : (es : List (List ℤ × Version)) → OwnCoords es → T (map.is_sorted (slice_cmp int_cmp) es) → AllByRecursion (λ (u : Version). map.find (slice_cmp int_cmp) u.coords es ≡ Some u) (list_map (λ x. x.1) es)
each_found [] own sorted = tt
each_found (e ∷ es) own sorted =
    let parts = parts_of (below_all (slice_cmp int_cmp) e.0 es) (map.is_sorted (slice_cmp int_cmp) es) sorted in
    let tie : eq_by_cmp (slice_cmp int_cmp) e.1.coords e.0 ≡ true = coords_tie e.1.coords e.0 ∙ ap (λ x. coords_eq e.0 x) own.0 ∙ coords_itself e.0 in
    (ap (λ b. cond b (Some e.1) (map.find (slice_cmp int_cmp) e.1.coords es)) tie, skip e es es own.1 parts.0 (each_found es own.1 parts.1))

all_with : {X : Type 0} (P Q : X → Type 0) (xs : List X) → ((x : X) → P x → Q x) → AllByRecursion P xs → AllByRecursion Q xs
all_with P Q [] on all = tt
all_with P Q (x ∷ xs) on all = (on x all.0, all_with P Q xs on all.1)

-- each of the newest versions is the newest one of its cell
pub are_newest : (vs : List Version) → AllByRecursion (λ (u : Version). newest_at vs u.coords ≡ Some u) (map.values (newest_of vs))
are_newest vs =
    all_with (λ u. map.find (slice_cmp int_cmp) u.coords (map.entries (newest_of vs)) ≡ Some u) (λ u. newest_at vs u.coords ≡ Some u) (map.values (newest_of vs))
    (λ u found. sym (get_newest_of vs u.coords) ∙ map.get-entries (newest_of vs) u.coords ∙ found)
    (each_found (map.entries (newest_of vs)) (own_newest vs) (map.entries_sorted (newest_of vs)))

-- ---- in order

-- the versions rise, where of each two the one below comes before
module _ (frame : Frame) (P : Version → Type 0)
    (before : (v w : Version) → P v → P w → version_place_cmp (version_place frame v.coords v.key) (version_place frame w.coords w.key) ≡ Less → ComesBefore frame v w) where
  above : (v : Version) (es : List Entry) → P v → AllByRecursion (λ (e : Entry). IsNamed frame e × P e.1) es → T (below_all version_place_cmp (version_place frame v.coords v.key) es) → All (ComesBefore frame v) (versions_of frame es)
  above v [] own all below = All-nil (ComesBefore frame v)
  above v (e ∷ es) own all below =
      let parts = parts_of (is_lt (version_place_cmp (version_place frame v.coords v.key) e.0)) (below_all version_place_cmp (version_place frame v.coords v.key) es) below in
      All-cons (ComesBefore frame v) e.1 (versions_of frame es)
      (before v e.1 own all.0.1 (subst (λ x. version_place_cmp (version_place frame v.coords v.key) x ≡ Less) all.0.0 (less_of (version_place_cmp (version_place frame v.coords v.key) e.0) parts.0)))
      (above v es own all.1 parts.1)

  entries_rise : (es : List Entry) → AllByRecursion (λ (e : Entry). IsNamed frame e × P e.1) es → T (map.is_sorted version_place_cmp es) → Rise frame (versions_of frame es)
  entries_rise [] all sorted = tt
  entries_rise (e ∷ es) all sorted =
      let parts = parts_of (below_all version_place_cmp e.0 es) (map.is_sorted version_place_cmp es) sorted in
      (above e.1 es all.0.1 all.1 (subst (λ x. T (below_all version_place_cmp x es)) all.0.0 parts.0), entries_rise es all.1 parts.1)

  with_names : (vs : List Version) → AllByRecursion P vs → AllByRecursion (λ (e : Entry). IsNamed frame e × P e.1) (entries_in frame vs)
  with_names [] all = tt
  with_names (v ∷ vs) all = ((refl, all.0), with_names vs all.1)

  in_order_rises : (vs : List Version) → AllByRecursion P vs → Rise frame (in_version_order frame vs)
  unfolding placed_of
  in_order_rises vs all =
      entries_rise (map.entries (map.from_entries {R = version_place_cmp} (entries_in frame vs)))
      (entries_all version_total version_exact (λ (e : Entry). IsNamed frame e × P e.1) (entries_in frame vs) (with_names vs all))
      (map.entries_sorted (map.from_entries {R = version_place_cmp} (entries_in frame vs)))

-- two places that come one before the other: the cells do, or they are one cell and the keys do
comes_before : (frame : Frame) (v w : Version) → version_place_cmp (version_place frame v.coords v.key) (version_place frame w.coords w.key) ≡ Less
    → (global_order frame v.coords w.coords ≡ Less) ⊎ ((v.coords ≡ w.coords) × (key_cmp v.key w.key ≡ Less))
comes_before frame v w less = by (place_cmp (place_of frame v.coords) (place_of frame w.coords)) refl less
  where
    by : (o : Ordering) → place_cmp (place_of frame v.coords) (place_of frame w.coords) ≡ o → ordering_then o (key_cmp v.key w.key) ≡ Less
        → (global_order frame v.coords w.coords ≡ Less) ⊎ ((v.coords ≡ w.coords) × (key_cmp v.key w.key ≡ Less))
    by Less at e = inl at
    by Equal at e = inr (turned_once frame.cell v.coords w.coords (ap (λ p. p.cell) (place_exact (place_of frame v.coords) (place_of frame w.coords) at)), e)
    by Greater at e = cc

-- what is kept of versions rises
pub merged_rise : (frame : Frame) (vs : List Version) → Rise frame (merged_versions frame frame.dense vs)
merged_rise frame vs = by frame.dense refl
  where
    by : (b : Bool) → frame.dense ≡ b → Rise frame (merged_versions frame b vs)
    by true kind = in_order_rises frame (λ u. newest_at vs u.coords ≡ Some u) newest (map.values (newest_of vs)) (are_newest vs)
      where
        newest : (v w : Version) → newest_at vs v.coords ≡ Some v → newest_at vs w.coords ≡ Some w → version_place_cmp (version_place frame v.coords v.key) (version_place frame w.coords w.key) ≡ Less → ComesBefore frame v w
        newest v w own other less = elim (comes_before frame v w less) [
          | inl cells ↦ inl cells
          | inr (same, keys) ↦
              let one : v ≡ w = same_Some v w (sym own ∙ ap (newest_at vs) same ∙ other) in
              absurd (true≢false (sym (tie_itself key_total key_exact v.key) ∙ ap (λ (x : Version). eq_by_cmp key_cmp v.key x.key) one ∙ ap is_eq keys))
        ]
    by false kind = in_order_rises frame (λ u. ⊤) sparse vs (all_true vs)
      where
        all_true : (us : List Version) → AllByRecursion (λ (u : Version). ⊤) us
        all_true [] = tt
        all_true (u ∷ us) = (tt, all_true us)

        sparse : (v w : Version) → ⊤ → ⊤ → version_place_cmp (version_place frame v.coords v.key) (version_place frame w.coords w.key) ≡ Less → ComesBefore frame v w
        sparse v w own other less = elim (comes_before frame v w less) [
          | inl cells ↦ inl cells
          | inr (same, keys) ↦ inr (kind, same, ap is_lt keys)
        ]

-- ---- what holds of each

in_order_all : (frame : Frame) (P : Version → Type 0) (vs : List Version) → AllByRecursion P vs → All P (in_version_order frame vs)
unfolding placed_of
in_order_all frame P vs all =
    values_all (map.entries (map.from_entries {R = version_place_cmp} (entries_in frame vs))) (entries_all version_total version_exact (λ (e : Entry). P e.1) (entries_in frame vs) (placed vs all))
  where
    placed : (us : List Version) → AllByRecursion P us → AllByRecursion (λ (e : Entry). P e.1) (entries_in frame us)
    placed [] all = tt
    placed (u ∷ us) all = (all.0, placed us all.1)

    values_all : (es : List Entry) → AllByRecursion (λ (e : Entry). P e.1) es → All P (versions_of frame es)
    values_all [] all = All-nil P
    values_all (e ∷ es) all = All-cons P e.1 (versions_of frame es) all.0 (values_all es all.1)

by_each : {X : Type 0} (P : X → Type 0) (xs : List X) → ((x : X) → Contains xs x → P x) → AllByRecursion P xs
by_each P [] each = tt
by_each P (x ∷ xs) each = (each x (Contains-here x xs), by_each P xs (λ y at. each y (Contains-there x xs y at)))

-- a version that is found has the coordinates
found_at : (vs : List Version) (k : Key) (c : List ℤ) (v : Version) → version_at vs k c ≡ Some v → Contains vs v × (v.coords ≡ c)
found_at vs k c v is =
    let found = find-Some (λ u. key_eq u.key k && coords_eq u.coords c) vs v is in
    (found.0, coords_same v.coords c (and_parts (key_eq v.key k) (coords_eq v.coords c) found.1).1)

-- at the coordinates of each version one is kept
kept_there : (frame : Frame) (last : Bool) (vs : List Version) (v : Version) → Contains vs v → (u : Version) × Contains (merged_versions frame last vs) u × (u.coords ≡ v.coords)
kept_there frame false vs v at =
    let found = find_member (λ u. key_eq u.key v.key && coords_eq u.coords v.coords) vs v at (and_from (key_eq v.key v.key) (coords_eq v.coords v.coords) (key_itself v.key) (coords_itself v.coords)) in
    let there = found_at (merged_versions frame false vs) v.key v.coords found.0 (merged_at frame false vs v.key v.coords ∙ found.1) in
    (found.0, there.0, there.1)
kept_there frame true vs v at = by (newest_at vs v.coords) refl
  where
    by : (o : Option Version) → newest_at vs v.coords ≡ o → (u : Version) × Contains (merged_versions frame true vs) u × (u.coords ≡ v.coords)
    by (Some u) found =
        let there = found_at (merged_versions frame true vs) u.key v.coords u (merged_at frame true vs u.key v.coords ∙ with_own_key (newest_at vs v.coords) u found) in
        (u, there.0, there.1)
    by None found =
        absurd (Contains-nil v (subst (λ l. Contains l v) (greatest-None (λ (u : Version). u.key) _ found) (Contains-filter (λ u. coords_eq u.coords v.coords) vs v at (coords_itself v.coords))))

-- a version of a piece is one of all
of_all : (qs : List Piece) (q : Piece) (v : Version) → Contains qs q → Contains q.versions v → Contains (all_versions qs) v
of_all [] q v at own = absurd (Contains-nil q at)
of_all (p ∷ qs) q v at own = elim (Contains-cons p qs q at) [
  | inl same ↦ Contains-append_left p.versions (all_versions qs) v (subst (λ (x : Piece). Contains x.versions v) (sym same) own)
  | inr behind ↦ Contains-append_right p.versions (all_versions qs) v (of_all qs q v behind own)
]

-- what holds of each version holds of each that is kept
pub merged_all : (frame : Frame) (last : Bool) (P : Version → Type 0) (vs : List Version) → ((v : Version) → Contains vs v → P v) → All P (merged_versions frame last vs)
merged_all frame true P vs each =
    in_order_all frame P (map.values (newest_of vs)) (all_with (λ u. newest_at vs u.coords ≡ Some u) P (map.values (newest_of vs))
    (λ u newest. each u (filter-Contains (λ v. coords_eq v.coords u.coords) vs u (greatest-Some (λ (v : Version). v.key) _ u newest).member).0) (are_newest vs))
merged_all frame false P vs each = in_order_all frame P vs (by_each P vs each)

-- a version of several pieces is one of some piece
of_some_piece : (qs : List Piece) (v : Version) → Contains (all_versions qs) v → (q : Piece) × Contains qs q × Contains q.versions v
of_some_piece [] v at = absurd (Contains-nil v at)
of_some_piece (q ∷ qs) v at = elim (Contains-append_cases q.versions (all_versions qs) v at) [
  | inl own ↦ (q, Contains-here q qs, own)
  | inr other ↦ let rest = of_some_piece qs v other in (rest.0, Contains-there q qs rest.0 rest.1, rest.2)
]

-- where a version is found there is one
some_length : (vs : List Version) (k : Key) (c : List ℤ) (v : Version) → version_at vs k c ≡ Some v → 1 ≤ length vs
some_length [] k c v found = absurd (none-some v found)
some_length (u ∷ vs) k c v found = omega arith

-- something is kept of something
merged_some : (frame : Frame) (last : Bool) (v : Version) (vs : List Version) → 1 ≤ length (merged_versions frame last (v ∷ vs))
merged_some frame false v vs =
    some_length (merged_versions frame false (v ∷ vs)) v.key v.coords v (merged_at frame false (v ∷ vs) v.key v.coords
    ∙ ap (λ b. cond b (Some v) (version_at vs v.key v.coords)) (and_from (key_eq v.key v.key) (coords_eq v.coords v.coords) (key_itself v.key) (coords_itself v.coords)))
merged_some frame true v vs = by (newest_at (v ∷ vs) v.coords) refl
  where
    by : (o : Option Version) → newest_at (v ∷ vs) v.coords ≡ o → 1 ≤ length (merged_versions frame true (v ∷ vs))
    by (Some u) found = some_length (merged_versions frame true (v ∷ vs)) u.key v.coords u (merged_at frame true (v ∷ vs) u.key v.coords ∙ with_own_key (newest_at (v ∷ vs) v.coords) u found)
    by None found =
        absurd (Contains-nil v (subst (λ l. Contains l v) (greatest-None (λ (u : Version). u.key) _ found)
        (Contains-filter (λ u. coords_eq u.coords v.coords) (v ∷ vs) v (Contains-here v vs) (coords_itself v.coords))))

-- so it is, where there are some among others
some_kept : (frame : Frame) (last : Bool) (vs : List Version) → 1 ≤ length vs → (us : List Version) → 1 ≤ length (merged_versions frame last (vs ++ us))
some_kept frame last [] some us = absurd (omega (arith, some))
some_kept frame last (v ∷ vs) some us = merged_some frame last v (vs ++ us)

-- where the first piece has a version, what it and others are merged into has one
pub merged_first : (frame : Frame) (id : ℕ) (p : Piece) (ps : List Piece) → 1 ≤ length p.versions → 1 ≤ length (merged_piece frame id p ps).versions
merged_first frame id p ps some = some_kept frame (keeps_last p.head) p.versions some (all_versions ps)

-- ---- the sources

-- what a merge asks of a piece
record IsSource (frame : Frame) (attrs : List Attr) (q : Piece) : Type 0 where
  dense : q.head.dense ≡ frame.dense
  low : IsTrue (is_in_domain frame.domain q.head.low)
  high : IsTrue (is_in_domain frame.domain q.head.high)
  corners : IsBox (box_in q.head)
  schema : IsKey q.head.schema
  keys : All IsKey q.head.origins
  span : IsSpan q.head.frag q.head.origins
  -- a dense fragment may be one of holes alone
  some : frame.dense ≡ false → 1 ≤ length q.versions
  versions : (v : Version) → Contains q.versions v → IsMergedVersion frame attrs q.head v

-- the write of a fragment of its own is its span
own_span : (k : Key) → IsSpan (frag_of k) (k ∷ [])
own_span k = record {
  from_on = λ l at. let same = ap (λ (x : Key). x.t) (Contains-only k l at) in omega (arith, same);
  up_to = λ l at. let same = ap (λ (x : Key). x.t) (Contains-only k l at) in omega (arith, same);
  least = (k, Contains-here k [], refl);
  greatest_is = (k, Contains-here k [], refl);
}

source_is : (frame : Frame) (attrs : List Attr) (q : Piece) → IsStorable frame attrs q → IsSource frame attrs q
source_is frame attrs q (inl o) = record {
  dense = o.dense;
  low = o.low;
  high = o.high;
  corners = o.corners;
  schema = o.schema;
  keys = subst (All IsKey) (sym o.origins) (All-cons IsKey o.key [] o.is_key (All-nil IsKey));
  span = subst (λ f. IsSpan f q.head.origins) (sym o.frag) (subst (IsSpan (frag_of o.key)) (sym o.origins) (own_span o.key));
  some = λ sparse. o.some;
  versions = λ v at.
      let of = All-contains (IsVersion frame attrs q.head o.key) q.versions v o.versions at in
      record {
        by_origin = key_found v.key q.head.origins (subst (λ ks. Contains ks v.key) (sym o.origins) (subst (Contains (o.key ∷ [])) (sym of.by_own) (Contains-here o.key [])));
        in_schema = of.in_schema;
        inside = of.inside;
        hull = of.hull;
        row = of.row;
      };
}
source_is frame attrs q (inr o) = record {
  dense = o.dense;
  low = o.low;
  high = o.high;
  corners = o.corners;
  schema = o.schema;
  keys = o.are_keys;
  span = o.span;
  some = λ sparse. let counts = o.cells sparse in let some = o.some in omega (arith, counts, some);
  versions = λ v at. All-contains (IsMergedVersion frame attrs q.head) q.versions v o.versions at;
}

-- a box whose corners lie between others lies between them
covers_corners : (outer sub : SubBox) → IsTrue (is_in_box outer sub.low) → IsTrue (is_in_box outer sub.high) → Covers outer sub
covers_corners outer sub low high c inside =
    is_between-hull_least outer.low outer.high sub.low sub.high sub.low sub.high c low high low high (is_between-hull_first sub.low sub.high sub.low sub.high c inside refl refl)

-- between the corners of a box lies a cell
some_between : (low high : List ℤ) → IsTrue (are_bounds low high) → 1 ≤ cells_between low high
some_between low high bounds = let below = place_of-below low high low (is_between-low low high bounds) in omega (arith, below)

-- a head counts a cell, where a sparse one has a version
some_told : (kind dense : Bool) → dense ≡ kind → (sub : SubBox) (many : ℕ) → IsTrue (are_bounds sub.low sub.high) → (kind ≡ false → 1 ≤ many) → 1 ≤ cells_told dense sub many
some_told true true same sub many bounds some = let cells = some_between sub.low sub.high bounds in omega (arith, cells)
some_told true false same sub many bounds some = cc
some_told false true same sub many bounds some = cc
some_told false false same sub many bounds some = some refl

-- ---- the piece

module _ (frame : Frame) (attrs : List Attr) (is_frame : IsFrame frame) (are_attrs : AreAttrs attrs) (id : ℕ) (p : Piece) (ps : List Piece)
    (schemas : (q : Piece) → Contains (p ∷ ps) q → q.head.schema ≡ p.head.schema) (storable : (q : Piece) → Contains (p ∷ ps) q → IsStorable frame attrs q)
    (few : length (merged_versions frame (keeps_last p.head) (all_versions (p ∷ ps))) < 2 ^ 64) (few_origins : length (origins_of_all (heads_of (p ∷ ps))) < 2 ^ 32) where
  source : (q : Piece) → Contains (p ∷ ps) q → IsSource frame attrs q
  source q at = source_is frame attrs q (storable q at)

  own : IsSource frame attrs p
  own = source p (Contains-here p ps)

  kinds : (q : Piece) → Contains (p ∷ ps) q → q.head.dense ≡ p.head.dense
  kinds q at = (source q at).dense ∙ sym own.dense

  boxes : (q : Piece) → Contains (p ∷ ps) q → IsBoxOf (length p.head.low) (box_in q.head)
  boxes q at =
      let domain = whole_domain frame.domain in
      ((source q at).corners, sym (length-is_between domain.low domain.high q.head.low (source q at).low).0 ∙ (length-is_between domain.low domain.high p.head.low own.low).0)

  -- the pieces are merged into it
  pub merges : MergesTo (p ∷ ps) (merged_piece frame id p ps)
  merges = merges_to frame id p ps schemas kinds boxes

  hull : IsHullFrom (length p.head.low) (box_in p.head) ps (hull_from (box_in p.head) (heads_of ps))
  hull = corners frame id p ps schemas kinds boxes

  -- its box has those of all
  has_box : (q : Piece) → Contains (p ∷ ps) q → Covers (hull_from (box_in p.head) (heads_of ps)) (box_in q.head)
  has_box q at = elim (Contains-cons p ps q at) [
    | inl same ↦ subst (λ (x : Piece). Covers (hull_from (box_in p.head) (heads_of ps)) (box_in x.head)) same hull.own
    | inr behind ↦ hull.each q behind
  ]

  -- and lies in the domain
  in_domain : Covers (whole_domain frame.domain) (hull_from (box_in p.head) (heads_of ps))
  in_domain =
      let within : (q : Piece) → Contains (p ∷ ps) q → Covers (whole_domain frame.domain) (box_in q.head) = λ q at. covers_corners (whole_domain frame.domain) (box_in q.head) (source q at).low (source q at).high in
      hull.least (whole_domain frame.domain) (within p (Contains-here p ps)) (λ q at. within q (Contains-there p ps q at))

  -- each of its versions is one of a source
  version_is : (v : Version) → Contains (all_versions (p ∷ ps)) v → IsMergedVersion frame attrs (merged_piece frame id p ps).head v
  version_is v at =
      let one = of_some_piece (p ∷ ps) v at in
      let of = (source one.0 one.1).versions v one.2 in
      record {
        by_origin = merges.origins v.key ∙ any_member (λ r. has_origin v.key r.head) (p ∷ ps) one.0 one.1 of.by_origin;
        in_schema = of.in_schema ∙ schemas one.0 one.1;
        inside = of.inside;
        hull = has_box one.0 one.1 v.coords of.hull;
        row = of.row;
      }

  -- an origin is that of a source
  origin_is : (k : Key) → Contains (origins_of_all (heads_of (p ∷ ps))) k → IsKey k
  origin_is k at =
      let one = member_any (λ q. has_origin k q.head) (p ∷ ps) (sym (origins_are k (p ∷ ps)) ∙ key_found k (origins_of_all (heads_of (p ∷ ps))) at) in
      All-contains IsKey (one.0).head.origins k (source one.0 one.1).keys (key_there k (one.0).head.origins one.2)

  -- a box that has the cells of all that is kept has those of each source
  sources_in : (sub : SubBox) → All (λ (v : Version). IsTrue (is_in_box sub v.coords)) (merged_versions frame (keeps_last p.head) (all_versions (p ∷ ps)))
      → (q : Piece) → Contains (p ∷ ps) q → All (λ (v : Version). IsTrue (is_in_box sub v.coords)) q.versions
  sources_in sub all q at = each_holds (λ (v : Version). IsTrue (is_in_box sub v.coords)) q.versions (λ v own.
      let kept = kept_there frame (keeps_last p.head) (all_versions (p ∷ ps)) v (of_all (p ∷ ps) q v at own) in
      subst (λ c. IsTrue (is_in_box sub c)) kept.2 (All-contains (λ (v : Version). IsTrue (is_in_box sub v.coords)) (merged_versions frame (keeps_last p.head) (all_versions (p ∷ ps))) kept.0 all kept.1))

  -- no smaller box has its cells, where that is so of each source
  pub merged_tight : ((q : Piece) → Contains (p ∷ ps) q → IsTight q.head.low q.head.high q.versions) → IsTight (merged_piece frame id p ps).head.low (merged_piece frame id p ps).head.high (merged_piece frame id p ps).versions
  merged_tight tight sub all =
      let within : (q : Piece) → Contains (p ∷ ps) q → Covers sub (box_in q.head) = λ q at. let found = tight q at sub (sources_in sub all q at) in covers_corners sub (box_in q.head) found.0 found.1 in
      let covered = hull.least sub (within p (Contains-here p ps)) (λ q at. within q (Contains-there p ps q at)) in
      let box = hull_from (box_in p.head) (heads_of ps) in
      (covered box.low (is_between-low box.low box.high hull.is_box.0), covered box.high (is_between-high box.low box.high hull.is_box.0))

  -- something is kept of a sparse first one
  sparse_kept : frame.dense ≡ false → 1 ≤ length (merged_versions frame (keeps_last p.head) (all_versions (p ∷ ps)))
  sparse_kept sparse = merged_first frame id p ps (own.some sparse)

  -- it can be written
  pub merged_fits : IsConsolidated frame attrs (merged_piece frame id p ps)
  merged_fits = record {
    is_frame = is_frame;
    are_attrs = are_attrs;
    schema = own.schema;
    consolidated = refl;
    dense = own.dense;
    cells = λ sparse. ap (λ b. cells_told b (hull_from (box_in p.head) (heads_of ps)) (length (merged_versions frame (keeps_last p.head) (all_versions (p ∷ ps))))) (own.dense ∙ sparse);
    whole = λ dense. ap (λ b. cells_told b (hull_from (box_in p.head) (heads_of ps)) (length (merged_versions frame (keeps_last p.head) (all_versions (p ∷ ps))))) (own.dense ∙ dense);
    some = some_told frame.dense p.head.dense own.dense (hull_from (box_in p.head) (heads_of ps)) (length (merged_versions frame (keeps_last p.head) (all_versions (p ∷ ps)))) hull.is_box.0 sparse_kept;
    few = few;
    low = in_domain (hull_from (box_in p.head) (heads_of ps)).low (is_between-low (hull_from (box_in p.head) (heads_of ps)).low (hull_from (box_in p.head) (heads_of ps)).high hull.is_box.0);
    high = in_domain (hull_from (box_in p.head) (heads_of ps)).high (is_between-high (hull_from (box_in p.head) (heads_of ps)).low (hull_from (box_in p.head) (heads_of ps)).high hull.is_box.0);
    corners = hull.is_box.0;
    are_keys = each_holds IsKey (origins_of_all (heads_of (p ∷ ps))) origin_is;
    few_origins = few_origins;
    ascend = origins_ascend (p ∷ ps);
    span = merged_span (p ∷ ps) (merged_piece frame id p ps) merges (λ q at. (source q at).span);
    versions = merged_all frame (keeps_last p.head) (IsMergedVersion frame attrs (merged_piece frame id p ps).head) (all_versions (p ∷ ps)) version_is;
    rise = subst (λ b. Rise frame (merged_versions frame b (all_versions (p ∷ ps)))) (sym own.dense) (merged_rise frame (all_versions (p ∷ ps)));
  }

-- ---- sources

-- the box of a source is one of the array's dimensions
pub source_box : (frame : Frame) (attrs : List Attr) (q : Piece) → IsStorable frame attrs q → HasBox frame q.head
source_box frame attrs q storable =
    let is = source_is frame attrs q storable in
    let domain = whole_domain frame.domain in
    (is.corners, sym (length-is_between domain.low domain.high q.head.low is.low).0 ∙ length-map frame.domain (λ (d : Dim). d.low))

module _ (frame : Frame) (attrs : List Attr) (id : ℕ) (p : Piece) (ps : List Piece) (are : AreSources frame attrs (p ∷ ps))
    (few : length (merged_versions frame (keeps_last p.head) (all_versions (p ∷ ps))) < 2 ^ 64) (few_origins : length (origins_of_all (heads_of (p ∷ ps))) < 2 ^ 32) where
  -- the sources are merged into it
  pub sources_merge : MergesTo (p ∷ ps) (merged_piece frame id p ps)
  sources_merge = merges frame attrs are.is_frame are.are_attrs id p ps (λ q at. are.one_schema q p at (Contains-here p ps)) are.storable few few_origins

  -- no smaller box has its cells, where that is so of each source
  pub sources_tight : ((q : Piece) → Contains (p ∷ ps) q → IsTight q.head.low q.head.high q.versions) → IsTight (merged_piece frame id p ps).head.low (merged_piece frame id p ps).head.high (merged_piece frame id p ps).versions
  sources_tight = merged_tight frame attrs are.is_frame are.are_attrs id p ps (λ q at. are.one_schema q p at (Contains-here p ps)) are.storable few few_origins

  -- and it can be written
  pub sources_fit : IsConsolidated frame attrs (merged_piece frame id p ps)
  sources_fit = merged_fits frame attrs are.is_frame are.are_attrs id p ps (λ q at. are.one_schema q p at (Contains-here p ps)) are.storable few few_origins
