-- The coordinates of a tile's cells span the sides of its leaf.
use Rattle.std.proofs.Common.{◌≡◌, ℕ, zero, suc, ◌+◌, ◌<◌, ◌≤◌, Bool, true, false, ◌||◌, ℤ, pos, int_le, List, [], ◌∷◌, length, get_or, None, Ok, refl, ap, ◌∙◌, arith}
use Rattle.std.specs.Int.{int_min, int_max}
use Rattle.std.specs.List.{flat_map, All, list_any, position_from}
use Rattle.std.proofs.lemmas.Int.{ints, clamps}
use Rattle.std.proofs.lemmas.List.{length-map}
use Rattle.std.proofs.lemmas.List.Elements.{All-head, All-tail}
use Rattle.ts_base.specs.declared.values.ValType.{ValType}
use Rattle.ts_base.specs.Values.{is_integer, width_of}
use Rattle.ts_domain.specs.declared.boxes.SubBox.{SubBox}
use Rattle.ts_domain.specs.Bounds.{least_corner, greatest_corner}
use Rattle.ts_domain.specs.Boxes.{hull_of}
use Rattle.ts_plain.specs.declared.stored.StoredCell.{StoredCell}
use Rattle.ts_wire.specs.Numbers.{int_bytes, FitsInt}
use Rattle.ts_wire.proofs.Laws.{whole_only}
use Rattle.ts_column.specs.Tiles.{is_signed, ints_in}
use Rattle.ts_column.specs.Coords.{is_out, first_out, coords_in}
use Rattle.ts_column.proofs.CoordLaws.{coords_whole, filled_out}
use Rattle.ts_column.proofs.IntLaws.{ints_exact, all_in_turn}
use Rattle.ts_column.proofs.TileLaws.{widths}
use Rattle.ts_sparse.specs.Sparse.{coord_column, cell_box, hull_from, leaf_of}

-- ---- the least and the greatest of some integers

-- the least of an integer and some others
pub least : ℤ → List ℤ → ℤ
least m [] = m
least m (x ∷ xs) = least (int_min m x) xs

-- the greatest of an integer and some others
pub greatest : ℤ → List ℤ → ℤ
greatest m [] = m
greatest m (x ∷ xs) = greatest (int_max m x) xs

least_first : (m : ℤ) (xs : List ℤ) → int_le (least m xs) m ≡ true
unfolding least
least_first m [] = grind (arith, ints)
least_first m (x ∷ xs) = through (least (int_min m x) xs) m x (least_first (int_min m x) xs)
  where
    through : (l m x : ℤ) → int_le l (int_min m x) ≡ true → int_le l m ≡ true
    through l m x e = grind (arith, ints, clamps)

greatest_first : (m : ℤ) (xs : List ℤ) → int_le m (greatest m xs) ≡ true
unfolding greatest
greatest_first m [] = grind (arith, ints)
greatest_first m (x ∷ xs) = through (greatest (int_max m x) xs) m x (greatest_first (int_max m x) xs)
  where
    through : (g m x : ℤ) → int_le (int_max m x) g ≡ true → int_le m g ≡ true
    through g m x e = grind (arith, ints, clamps)

least_second : (m x : ℤ) (xs : List ℤ) → int_le (least (int_min m x) xs) x ≡ true
least_second m x xs = through (least (int_min m x) xs) (least_first (int_min m x) xs)
  where
    through : (l : ℤ) → int_le l (int_min m x) ≡ true → int_le l x ≡ true
    through l e = grind (arith, ints, clamps)

greatest_second : (m x : ℤ) (xs : List ℤ) → int_le x (greatest (int_max m x) xs) ≡ true
greatest_second m x xs = through (greatest (int_max m x) xs) (greatest_first (int_max m x) xs)
  where
    through : (g : ℤ) → int_le (int_max m x) g ≡ true → int_le x g ≡ true
    through g e = grind (arith, ints, clamps)

-- some are at the ends
low_met : (m : ℤ) (xs : List ℤ) → list_any (λ x. int_le x (least m xs)) (m ∷ xs) ≡ true
unfolding least
low_met m [] = let same : int_le m m ≡ true = grind (arith, ints) in rw same refl
low_met m (x ∷ xs) = by (least (int_min m x) xs) (list_any (λ y. int_le y (least (int_min m x) xs)) xs) (low_met (int_min m x) xs)
  where
    by : (l : ℤ) (b : Bool) → (int_le (int_min m x) l || b) ≡ true → (int_le m l || (int_le x l || b)) ≡ true
    by l true e = always (int_le m l) (int_le x l)
      where
        always : (a c : Bool) → (a || (c || true)) ≡ true
        always true c = refl
        always false true = refl
        always false false = refl
    by l false e = met (int_le (int_min m x) l) refl e
      where
        met : (a : Bool) → int_le (int_min m x) l ≡ a → (a || false) ≡ true → (int_le m l || (int_le x l || false)) ≡ true
        met true at e = either (int_le m l) (int_le x l) refl refl
          where
            either : (a c : Bool) → int_le m l ≡ a → int_le x l ≡ c → (a || (c || false)) ≡ true
            either true c p q = refl
            either false true p q = refl
            either false false p q = grind (arith, ints, clamps)
        met false at e = absurd (cc)

high_met : (m : ℤ) (xs : List ℤ) → list_any (λ x. int_le (greatest m xs) x) (m ∷ xs) ≡ true
unfolding greatest
high_met m [] = let same : int_le m m ≡ true = grind (arith, ints) in rw same refl
high_met m (x ∷ xs) = by (greatest (int_max m x) xs) (list_any (λ y. int_le (greatest (int_max m x) xs) y) xs) (high_met (int_max m x) xs)
  where
    by : (g : ℤ) (b : Bool) → (int_le g (int_max m x) || b) ≡ true → (int_le g m || (int_le g x || b)) ≡ true
    by g true e = always (int_le g m) (int_le g x)
      where
        always : (a c : Bool) → (a || (c || true)) ≡ true
        always true c = refl
        always false true = refl
        always false false = refl
    by g false e = met (int_le g (int_max m x)) refl e
      where
        met : (a : Bool) → int_le g (int_max m x) ≡ a → (a || false) ≡ true → (int_le g m || (int_le g x || false)) ≡ true
        met true at e = either (int_le g m) (int_le g x) refl refl
          where
            either : (a c : Bool) → int_le g m ≡ a → int_le g x ≡ c → (a || (c || false)) ≡ true
            either true c p q = refl
            either false true p q = refl
            either false false p q = grind (arith, ints, clamps)
        met false at e = absurd (cc)

-- none lies outside
through : (a b c : ℤ) → int_le a b ≡ true → int_le b c ≡ true → int_le a c ≡ true
through a b c e f = grind (arith, ints)

others_in : (low high m k : ℤ) (xs : List ℤ) (i : ℕ) → int_le low (least m xs) ≡ true → int_le (greatest k xs) high ≡ true → position_from (is_out low high) i xs ≡ None
unfolding least greatest
others_in low high m k [] i below above = refl
others_in low high m k (x ∷ xs) i below above =
    let up = through low (least (int_min m x) xs) x below (least_second m x xs) in
    let down = through x (greatest (int_max k x) xs) high (greatest_second k x xs) above in
    rw (up, down) (others_in low high (int_min m x) (int_max k x) xs (i + 1) below above)

none_out : (low high m : ℤ) (xs : List ℤ) (i : ℕ) → int_le low (least m xs) ≡ true → int_le (greatest m xs) high ≡ true → position_from (is_out low high) i (m ∷ xs) ≡ None
none_out low high m xs i below above =
    let up = through low (least m xs) m below (least_first m xs) in
    let down = through m (greatest m xs) high (greatest_first m xs) above in
    rw (up, down) (others_in low high m m xs (i + 1) below above)

-- so they span the side between their ends
pub spans_itself : (m : ℤ) (xs : List ℤ) → first_out (least m xs) (greatest m xs) (m ∷ xs) ≡ None
spans_itself m xs =
    let l = least m xs in
    let g = greatest m xs in
    filled_out l g (m ∷ xs) (low_met m xs) (high_met m xs) ∙ none_out l g m xs 0 (same l) (same g)
  where
    same : (z : ℤ) → int_le z z ≡ true
    same z = grind (arith, ints)

-- ---- the ends of a leaf

at_least_corner : (xs ys : List ℤ) (k : ℕ) → k < length xs → k < length ys → get_or (least_corner xs ys) k (pos 0) ≡ int_min (get_or xs k (pos 0)) (get_or ys k (pos 0))
at_least_corner [] ys k a b = absurd (omega arith)
at_least_corner (x ∷ xs) [] k a b = absurd (omega arith)
at_least_corner (x ∷ xs) (y ∷ ys) zero a b = refl
at_least_corner (x ∷ xs) (y ∷ ys) (suc k) a b = at_least_corner xs ys k (omega arith) (omega arith)

at_greatest_corner : (xs ys : List ℤ) (k : ℕ) → k < length xs → k < length ys → get_or (greatest_corner xs ys) k (pos 0) ≡ int_max (get_or xs k (pos 0)) (get_or ys k (pos 0))
at_greatest_corner [] ys k a b = absurd (omega arith)
at_greatest_corner (x ∷ xs) [] k a b = absurd (omega arith)
at_greatest_corner (x ∷ xs) (y ∷ ys) zero a b = refl
at_greatest_corner (x ∷ xs) (y ∷ ys) (suc k) a b = at_greatest_corner xs ys k (omega arith) (omega arith)

length-least_corner : (xs ys : List ℤ) (k : ℕ) → k < length xs → k < length ys → k < length (least_corner xs ys)
length-least_corner [] ys k a b = absurd (omega arith)
length-least_corner (x ∷ xs) [] k a b = absurd (omega arith)
length-least_corner (x ∷ xs) (y ∷ ys) zero a b = omega arith
length-least_corner (x ∷ xs) (y ∷ ys) (suc k) a b = omega (arith, length-least_corner xs ys k (omega arith) (omega arith))

length-greatest_corner : (xs ys : List ℤ) (k : ℕ) → k < length xs → k < length ys → k < length (greatest_corner xs ys)
length-greatest_corner [] ys k a b = absurd (omega arith)
length-greatest_corner (x ∷ xs) [] k a b = absurd (omega arith)
length-greatest_corner (x ∷ xs) (y ∷ ys) zero a b = omega arith
length-greatest_corner (x ∷ xs) (y ∷ ys) (suc k) a b = omega (arith, length-greatest_corner xs ys k (omega arith) (omega arith))

module _ (k : ℕ) where
  -- the cell has a coordinate along the dimension
  abbrev pub HasCoord : StoredCell → Type 0
  HasCoord c = k < length c.coords

  low_from : (hull : SubBox) (cells : List StoredCell) → k < length hull.low → All HasCoord cells → get_or (hull_from hull cells).low k (pos 0) ≡ least (get_or hull.low k (pos 0)) (coord_column k cells)
  unfolding least
  low_from hull [] long all = refl
  low_from hull (c ∷ cells) long all =
      let here = All-head HasCoord c cells all in
      low_from (hull_of hull (cell_box c)) cells (length-least_corner hull.low c.coords k long here) (All-tail HasCoord c cells all)
      ∙ ap (λ m. least m (coord_column k cells)) (at_least_corner hull.low c.coords k long here)

  high_from : (hull : SubBox) (cells : List StoredCell) → k < length hull.high → All HasCoord cells → get_or (hull_from hull cells).high k (pos 0) ≡ greatest (get_or hull.high k (pos 0)) (coord_column k cells)
  unfolding greatest
  high_from hull [] long all = refl
  high_from hull (c ∷ cells) long all =
      let here = All-head HasCoord c cells all in
      high_from (hull_of hull (cell_box c)) cells (length-greatest_corner hull.high c.coords k long here) (All-tail HasCoord c cells all)
      ∙ ap (λ m. greatest m (coord_column k cells)) (at_greatest_corner hull.high c.coords k long here)

  -- the coordinates of some cells span the side of their leaf
  pub leaf_spanned : (tile : List StoredCell) → 1 ≤ length tile → All HasCoord tile → first_out (get_or (leaf_of tile).low k (pos 0)) (get_or (leaf_of tile).high k (pos 0)) (coord_column k tile) ≡ None
  leaf_spanned [] some all = absurd (omega arith)
  leaf_spanned (c ∷ cells) some all =
      let here = All-head HasCoord c cells all in
      let others = All-tail HasCoord c cells all in
      let column = coord_column k (c ∷ cells) in
      ap (λ low. first_out low (get_or (leaf_of (c ∷ cells)).high k (pos 0)) column) (low_from (cell_box c) cells here others)
      ∙ ap (λ high. first_out (least (get_or c.coords k (pos 0)) (coord_column k cells)) high column) (high_from (cell_box c) cells here others)
      ∙ spans_itself (get_or c.coords k (pos 0)) (coord_column k cells)

-- the spelled coordinates of the cells of a tile are read back
pub coords_found : (ty : ValType) (k count : ℕ) (tile : List StoredCell) (bytes : List ℕ) → is_integer ty ≡ true → 1 ≤ length tile → length tile ≡ count → All (HasCoord k) tile
    → All (FitsInt (width_of ty) (is_signed ty)) (coord_column k tile) → bytes ≡ flat_map (int_bytes (width_of ty)) (coord_column k tile)
    → coords_in ty (get_or (leaf_of tile).low k (pos 0)) (get_or (leaf_of tile).high k (pos 0)) count bytes ≡ Ok (coord_column k tile)
unfolding ints_in
coords_found ty k count tile bytes is some many all fits spelled =
    let low = get_or (leaf_of tile).low k (pos 0) in
    let high = get_or (leaf_of tile).high k (pos 0) in
    let xs = coord_column k tile in
    let w = widths ty is in
    let long : length xs ≡ count = length-map tile (λ c. get_or c.coords k (pos 0)) ∙ many in
    let turn = all_in_turn (FitsInt (width_of ty) (is_signed ty)) [] xs fits in
    let read : ints_in (width_of ty) (is_signed ty) count (flat_map (int_bytes (width_of ty)) xs) ≡ Ok xs = whole_only (ints_exact (width_of ty) (is_signed ty) count w.0 w.1) xs 0 (long, turn) in
    ap (coords_in ty low high count) spelled ∙ coords_whole ty low high count (flat_map (int_bytes (width_of ty)) xs) xs read (leaf_spanned k tile some all)
