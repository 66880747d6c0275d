-- The piece that one write makes can be written in tiles.
use Rattle.std.proofs.Common.{◌≡◌, ℕ, zero, suc, ◌+◌, ◌-◌, ◌^◌, ◌<◌, ◌≤◌, ℤ, pos, negsuc, ◌+ℤ◌, ◌-ℤ◌, ◌*ℤ◌, ◌≤ℤ◌, true, false, ◌&&◌, nat_le, List, [], ◌∷◌, ◌++◌, length, map, refl, sym, ap, ◌∙◌, arith}
use Rattle.std.specs.Prelude.{IsTrue, int_le}
use Rattle.std.specs.Int.{int_div_euclid}
use Rattle.std.specs.List.{All}
use Rattle.std.proofs.lemmas.Int.{ints}
use Rattle.std.proofs.lemmas.Nat.{div-add-mod'}
use Rattle.std.proofs.lemmas.Bool.{and_parts, and_from, leb-true}
use Rattle.std.proofs.lemmas.List.{length-map}
use Rattle.std.proofs.lemmas.List.Elements.{All-nil, All-cons, All-head, All-tail, All-map, All-weaker}
use Rattle.ts_base.specs.declared.keys.Key.{Key}
use Rattle.ts_base.specs.declared.values.Val.TheVariants.{Int}
use Rattle.ts_base.specs.declared.heads.Piece.{Piece}
use Rattle.ts_base.specs.declared.heads.Version.{Version}
use Rattle.ts_base.specs.Values.{is_integer, width_of, least_of, greatest_of}
use Rattle.ts_domain.specs.declared.dims.Dim.{Dim}
use Rattle.ts_domain.specs.declared.boxes.SubBox.{SubBox}
use Rattle.ts_domain.specs.Dims.{IsDim, IsSoundDim, end_of_tiles}
use Rattle.ts_domain.specs.Bounds.{is_between, are_bounds}
use Rattle.ts_domain.specs.Boxes.{is_in_box}
use Rattle.ts_domain.specs.Domains.{is_in_domain}
use Rattle.ts_domain.proofs.Between.{length-is_between, are_bounds-is_between, is_between-low, is_between-high}
use Rattle.ts_domain.proofs.DomainLemmas.{All-IsDomain}
use Rattle.ts_wire.specs.Exact.{EachFits}
use Rattle.ts_wire.specs.Numbers.{FitsInt}
use Rattle.ts_schema.specs.declared.attrs.Attr.{Attr}
use Rattle.ts_schema.specs.declared.frames.Frame.{Frame}
use Rattle.ts_schema.specs.FrameTexts.{IsFrame}
use Rattle.ts_schema.specs.SchemaTexts.{AreAttrs}
use Rattle.ts_plain.specs.declared.stored.StoredCell.{StoredCell}
use Rattle.ts_plain.specs.Plain.{FitsPlain}
use Rattle.ts_plain.specs.Pieces.{piece_of}
use Rattle.ts_plain.specs.Writes.{sides_of, box_of, stored_cell, stored_for}
use Rattle.ts_column.specs.Tiles.{is_signed}
use Rattle.ts_sparse.specs.Tilings.{tiles_from, tiles_of}
use Rattle.ts_sparse.specs.Sparse.{leaf_of, FitsTypes}
use Rattle.ts_sparse.proofs.ColumnLaws.{number_in}
use Rattle.ts_sparse.proofs.CutLaws.{leaf_is_hull}
use Rattle.ts_model.specs.Pieces.{IsVersion, IsTight, IsClose, IsOrdinary}
use Rattle.ts_actor.specs.PlainWrites.{lows_back, highs_back, ordinary_fits, ordinary_back}
use Rattle.ts_sparse_read.specs.Codecs.{IsSparseStorable}

-- ---- coordinates in their types

-- the high bound of a dimension lies before the end of its tiles
high_below_end : (low high extent : ℤ) → low ≤ℤ high → pos 1 ≤ℤ extent → high ≤ℤ (low +ℤ int_div_euclid (high -ℤ low) extent *ℤ extent +ℤ (extent -ℤ pos 1))
high_below_end low high extent h k = by (high -ℤ low) extent refl k
  where
    by : (z d : ℤ) → z ≡ high -ℤ low → pos 1 ≤ℤ d → high ≤ℤ (low +ℤ int_div_euclid z d *ℤ d +ℤ (d -ℤ pos 1))
    by (pos a) (pos n) e k = let some : 0 < n = omega (arith, ints) in omega (arith, ints, e, some, div-add-mod' a n)
    by (pos a) (negsuc n) e k = absurd (omega (arith, ints, k))
    by (negsuc a) d e k = absurd (omega (arith, ints, e, h))

-- a coordinate between the bounds of a dimension has room in its type
coord_in_type : (d : Dim) (x : ℤ) → IsSoundDim d → IsTrue (int_le d.low x && int_le x d.high) → FitsInt (width_of d.ty) (is_signed d.ty) x
coord_in_type d x sound inside =
    let between = and_parts (int_le d.low x) (int_le x d.high) inside in
    let end = high_below_end d.low d.high d.extent sound.ordered sound.some in
    let low = upto (least_of d.ty) d.low x sound.from_least between.0 in
    let high = downto x d.high (end_of_tiles d) (greatest_of d.ty) between.1 end sound.to_greatest in
    number_in d.ty false (Int x) (sound.valid).integer
    (and_from (is_integer d.ty) (int_le (least_of d.ty) x && int_le x (greatest_of d.ty)) (sound.valid).integer (and_from (int_le (least_of d.ty) x) (int_le x (greatest_of d.ty)) low high))
  where
    upto : (a b c : ℤ) → a ≤ℤ b → int_le b c ≡ true → int_le a c ≡ true
    upto a b c ab bc = grind (arith, ints)

    downto : (a b c d : ℤ) → int_le a b ≡ true → b ≤ℤ c → c ≤ℤ d → int_le a d ≡ true
    downto a b c d ab bc cd = grind (arith, ints)

-- coordinates in the domain have room in the types of their dimensions
coords_in_types : (dims : List Dim) (coords : List ℤ) → All IsSoundDim dims → IsTrue (is_in_domain dims coords) → EachFits (λ (d : Dim) (x : ℤ). FitsInt (width_of d.ty) (is_signed d.ty) x) dims coords
coords_in_types [] [] sound inside = tt
coords_in_types [] (x ∷ coords) sound inside = absurd (cc)
coords_in_types (d ∷ dims) [] sound inside = absurd (cc)
coords_in_types (d ∷ dims) (x ∷ coords) sound inside =
    let parts = and_parts (int_le d.low x && int_le x d.high) (is_in_domain dims coords) inside in
    (coord_in_type d x (All-head IsSoundDim d dims sound) parts.0, coords_in_types dims coords (All-tail IsSoundDim d dims sound) parts.1)

-- ---- the leaf of all cells

-- the version's cell lies between corners
abbrev pub LiesBetween : List ℤ → List ℤ → Version → Type 0
LiesBetween low high v = IsTrue (is_between low high v.coords)

-- what holds of the coordinates of cells holds of those of their versions
pub versions_of_cells : (P : List ℤ → Type 0) (origins : List Key) (vs : List Version) → All (λ (c : StoredCell). P c.coords) (map (stored_cell origins) vs) → All (λ (v : Version). P v.coords) vs
versions_of_cells P origins [] all = All-nil (λ (v : Version). P v.coords)
versions_of_cells P origins (v ∷ vs) all =
    All-cons (λ (v : Version). P v.coords) v vs (All-head (λ (c : StoredCell). P c.coords) (stored_cell origins v) (map (stored_cell origins) vs) all)
    (versions_of_cells P origins vs (All-tail (λ (c : StoredCell). P c.coords) (stored_cell origins v) (map (stored_cell origins) vs) all))

-- two boxes that have each other's corners have the same corners
same_corners : (ls hs ks gs : List ℤ) → IsTrue (is_between ls hs ks) → IsTrue (is_between ls hs gs) → IsTrue (is_between ks gs ls) → IsTrue (is_between ks gs hs) → (ls ≡ ks) × (hs ≡ gs)
same_corners [] [] [] [] a b c d = (refl, refl)
same_corners [] [] [] (g ∷ gs) a b c d = absurd (cc)
same_corners [] [] (k ∷ ks) gs a b c d = absurd (cc)
same_corners [] (h ∷ hs) ks gs a b c d = absurd (cc)
same_corners (l ∷ ls) [] ks gs a b c d = absurd (cc)
same_corners (l ∷ ls) (h ∷ hs) [] gs a b c d = absurd (cc)
same_corners (l ∷ ls) (h ∷ hs) (k ∷ ks) [] a b c d = absurd (cc)
same_corners (l ∷ ls) (h ∷ hs) (k ∷ ks) (g ∷ gs) a b c d =
    let p = and_parts (int_le l k && int_le k h) (is_between ls hs ks) a in
    let q = and_parts (int_le l g && int_le g h) (is_between ls hs gs) b in
    let r = and_parts (int_le k l && int_le l g) (is_between ks gs ls) c in
    let s = and_parts (int_le k h && int_le h g) (is_between ks gs hs) d in
    let rest = same_corners ls hs ks gs p.1 q.1 r.1 s.1 in
    let low = level l k (and_parts (int_le l k) (int_le k h) p.0).0 (and_parts (int_le k l) (int_le l g) r.0).0 in
    let high = level h g (and_parts (int_le k h) (int_le h g) s.0).1 (and_parts (int_le l g) (int_le g h) q.0).1 in
    (ap (λ x. x ∷ ls) low ∙ ap (λ xs. k ∷ xs) rest.0, ap (λ x. x ∷ hs) high ∙ ap (λ xs. g ∷ xs) rest.1)
  where
    level : (x y : ℤ) → int_le x y ≡ true → int_le y x ≡ true → x ≡ y
    level x y a b = grind (arith, ints)

-- the leaf of the cells of all versions has the corners, where no smaller box has these versions
tight_leaf : (low high : List ℤ) (origins : List Key) (vs : List Version) → 1 ≤ length vs → All (LiesBetween low high) vs → IsTight low high vs → leaf_of (map (stored_cell origins) vs) ≡ record { low = low; high = high }
tight_leaf low high origins [] some inside tight = absurd (omega (arith, some))
tight_leaf low high origins (v ∷ vs) some inside tight =
    let sub : SubBox = record { low = low; high = high } in
    let cells = map (stored_cell origins) (v ∷ vs) in
    let leaf = leaf_of cells in
    let between : All (λ (c : StoredCell). IsTrue (is_in_box sub c.coords)) cells = All-map (λ (c : StoredCell). IsTrue (is_in_box sub c.coords)) (stored_cell origins) (v ∷ vs) inside in
    let long : All (λ (c : StoredCell). length c.coords ≡ length low) cells =
    All-weaker (λ (c : StoredCell). IsTrue (is_in_box sub c.coords)) (λ (c : StoredCell). length c.coords ≡ length low) (λ c is. sym (length-is_between low high c.coords is).0) cells between in
    let is = leaf_is_hull sub (stored_cell origins v) (map (stored_cell origins) vs) long in
    let covered = is.least sub between in
    let here = All-head (λ (c : StoredCell). IsTrue (is_in_box leaf c.coords)) (stored_cell origins v) (map (stored_cell origins) vs) is.covers in
    let bounds = are_bounds-is_between leaf.low leaf.high v.coords here in
    let corners = tight leaf (versions_of_cells (λ c. IsTrue (is_in_box leaf c)) origins (v ∷ vs) is.covers) in
    let same = same_corners leaf.low leaf.high low high corners.0 corners.1 (covered leaf.low (is_between-low leaf.low leaf.high bounds)) (covered leaf.high (is_between-high leaf.low leaf.high bounds)) in
    let lows = same.0 in
    let highs = same.1 in
    λ i. record { low = lows i; high = highs i }

-- the box of the sides between corners has those corners
box_back : (low high : List ℤ) → IsTrue (are_bounds low high) → record { low = low; high = high } ≡ box_of (sides_of low high)
box_back low high bounds =
    let lows = lows_back low high bounds in
    let highs = highs_back low high bounds in
    λ i. record { low = lows i; high = highs i }

-- ---- how many tiles

few_from : {X : Type 0} (rest left : ℕ) (tile xs : List X) → length (tiles_from rest left tile xs) ≤ 1 + length xs
few_from rest left tile [] = omega arith
few_from rest zero tile (x ∷ xs) = let behind = few_from rest rest (x ∷ []) xs in omega (arith, behind)
few_from rest (suc left) tile (x ∷ xs) = let behind = few_from rest left (tile ++ x ∷ []) xs in omega (arith, behind)

-- there are at most as many tiles as items
few_tiles : {X : Type 0} (n : ℕ) (xs : List X) → length (tiles_of n xs) ≤ length xs
few_tiles n [] = omega arith
few_tiles n (x ∷ xs) = let few = few_from (n - 1) (n - 1) (x ∷ []) xs in omega (arith, few)

-- ---- the piece

-- a piece whose stored form keeps all rules can be written in tiles, where no smaller box has its cells and its versions can be counted in 32 bits
pub close_fits : (frame : Frame) (attrs : List Attr) (p : Piece) → IsFrame frame → AreAttrs attrs → FitsPlain frame attrs p.head.frag (stored_for p) → p ≡ piece_of p.head.frag (stored_for p)
    → IsTrue (are_bounds p.head.low p.head.high) → 1 ≤ length p.versions → length p.versions < 2 ^ 32
    → All (λ (v : Version). IsTrue (is_in_domain frame.domain v.coords)) p.versions → All (LiesBetween p.head.low p.head.high) p.versions → IsTight p.head.low p.head.high p.versions
    → IsSparseStorable frame attrs p
close_fits frame attrs p is_frame are_attrs fits same bounds some few inside between tight =
    let sound = All-IsDomain frame.domain is_frame.domain in
    let counted = few_tiles frame.capacity (stored_for p).cells in
    let long = length-map p.versions (stored_cell p.head.origins) in
    record {
      some_dim = is_frame.domain.some;
      fits = record {
        plain = fits;
        capacity = leb-true 1 frame.capacity (and_parts (nat_le 1 frame.capacity) (nat_le frame.capacity 1000000) is_frame.capacity).0;
        few_attrs = leb-true (length attrs) 64 (and_parts (nat_le 1 (length attrs)) (nat_le (length attrs) 64) are_attrs.count).1;
        ints = All-weaker IsDim (λ (d : Dim). is_integer d.ty ≡ true) (λ d is. is.integer) frame.domain is_frame.domain.valid;
        typed = All-map (FitsTypes frame.domain) (stored_cell p.head.origins) p.versions
            (All-weaker (λ (v : Version). IsTrue (is_in_domain frame.domain v.coords)) (λ (v : Version). FitsTypes frame.domain (stored_cell p.head.origins v)) (λ v is. coords_in_types frame.domain v.coords sound is) p.versions inside);
        tight = tight_leaf p.head.low p.head.high p.head.origins p.versions some between tight ∙ box_back p.head.low p.head.high bounds;
        few = omega (arith, counted, long, few);
      };
      same = same;
    }

-- the piece that one write makes can be written in tiles
pub sparse_ordinary : (frame : Frame) (attrs : List Attr) (p : Piece) → IsOrdinary frame attrs p → IsClose p → IsSparseStorable frame attrs p
sparse_ordinary frame attrs p is close =
    close_fits frame attrs p is.is_frame is.are_attrs (ordinary_fits frame attrs p is) (ordinary_back frame attrs p is) is.corners is.some close.few
    (All-weaker (IsVersion frame attrs p.head is.key) (λ (v : Version). IsTrue (is_in_domain frame.domain v.coords)) (λ v of. of.inside) p.versions is.versions)
    (All-weaker (IsVersion frame attrs p.head is.key) (LiesBetween p.head.low p.head.high) (λ v of. of.hull) p.versions is.versions)
    close.tight
