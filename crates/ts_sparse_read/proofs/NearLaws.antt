-- Cells compared column by column.
use Rattle.std.proofs.Common.{◌≡◌, ℕ, ◌<◌, ◌≢◌, ◌+◌, ◌≤◌, ◌&&◌, ◌||◌, ℤ, pos, Bool, true, false, not, List, [], ◌∷◌, length, get_or, drop, refl, sym, ap, subst, ◌∙◌, arith}
use Rattle.std.specs.Prelude.{IsTrue, int_le, nat_lt}
use Rattle.std.specs.List.{All}
use Rattle.std.specs.Cmp.Lexicographic.{slice_cmp}
use Rattle.std.specs.Ordering.{int_cmp, is_gt}
use Rattle.std.specs.declared.cmp.Ordering.{Ordering}
use Rattle.std.specs.declared.cmp.Ordering.TheVariants.{Less, Equal}
use Rattle.std.proofs.lemmas.Bool.{and_parts}
use Rattle.std.proofs.lemmas.Bool.Decides.{Decides-int_eq}
use Rattle.std.proofs.lemmas.Int.{ints}
use Rattle.std.proofs.lemmas.Slice.Eq.{slice_eq-Decides}
use Rattle.std.proofs.lemmas.List.{length-map, get_or-map, drop_more, drop_all}
use Rattle.std.proofs.lemmas.List.Elements.{All-get_or}
use Rattle.ts_base.specs.Coords.{coords_eq}
use Rattle.ts_domain.specs.declared.boxes.SubBox.{SubBox}
use Rattle.ts_domain.specs.declared.orders.Order.{Order}
use Rattle.ts_domain.specs.Bounds.{is_between}
use Rattle.ts_domain.specs.Boxes.{is_in_box}
use Rattle.ts_domain.specs.Dims.{IsSoundDim}
use Rattle.ts_domain.specs.Domains.{LiesInDomain}
use Rattle.ts_domain.proofs.Between.{uneven_highs, uneven_coords}
use Rattle.ts_order.specs.Orders.{turned, dim_at, order_cmp, tile_numbers}
use Rattle.ts_order.proofs.OrderLemmas.{order_cmp-same, slice_cmp_more, slice_cmp_apart, slice_cmp_all}
use Rattle.ts_order.proofs.TileLaws.{is_between-tile_numbers}
use Rattle.ts_schema.specs.declared.frames.Frame.{Frame}
use Rattle.ts_plain.specs.declared.stored.StoredCell.{StoredCell}
use Rattle.ts_sparse_read.specs.declared.columns.Columns.{Columns}
use Rattle.ts_sparse_read.specs.Sifts.{cells_in, cell_in, AreSound}
use Rattle.ts_sparse_read.specs.Picks.{coords_there, LieInLeaf, IsOneTile, ShareTile, MayStandBehind}
use Rattle.ts_sparse_read.proofs.CellSteps.{cells_long, cell_there}

-- ---- columns

-- there are as many coordinates as columns
pub coords_long : (coords : List (List ℤ)) (k : ℕ) → length (coords_there coords k) ≡ length coords
coords_long coords k = length-map coords (λ xs. get_or xs k (pos 0))

-- the coordinate along a dimension is that of its column
pub coord_there : (coords : List (List ℤ)) (k dim : ℕ) (column : List ℤ) → dim < length coords → column ≡ get_or coords dim column → get_or (coords_there coords k) dim (pos 0) ≡ get_or column k (pos 0)
coord_there coords k dim column within is = get_or-map (λ xs. get_or xs k (pos 0)) coords dim column (pos 0) within ∙ ap (λ xs. get_or xs k (pos 0)) (sym is)

-- one dimension of two cells compares as its column does
cmp_there : (order : Order) (coords : List (List ℤ)) (first second rank dim : ℕ) (column : List ℤ) (o : Ordering) → dim < length coords → dim ≡ dim_at order (length coords) rank → column ≡ get_or coords dim column
    → o ≡ int_cmp (get_or column first (pos 0)) (get_or column second (pos 0))
    → o ≡ int_cmp (get_or (coords_there coords first) (dim_at order (length (coords_there coords first)) rank) (pos 0)) (get_or (coords_there coords second) (dim_at order (length (coords_there coords first)) rank) (pos 0))
cmp_there order coords first second rank dim column o within at is value =
    let a = sym (coord_there coords first dim column within is) in
    let b = sym (coord_there coords second dim column within is) in
    let there = at ∙ ap (λ n. dim_at order n rank) (sym (coords_long coords first)) in
    value ∙ (λ i. int_cmp (a i) (b i)) ∙ ap (λ k. int_cmp (get_or (coords_there coords first) k (pos 0)) (get_or (coords_there coords second) k (pos 0))) there

module _ (order : Order) (coords : List (List ℤ)) (first second : ℕ) where
  -- what is left to compare, from a rank on, decides
  abbrev pub Compared : ℕ → Ordering → Type 0
  Compared rank whole = slice_cmp int_cmp (drop rank (turned order (coords_there coords first))) (drop rank (turned order (coords_there coords second))) ≡ whole

  same_long : length (coords_there coords second) ≡ length (coords_there coords first)
  same_long = coords_long coords second ∙ sym (coords_long coords first)

  module _ (rank dim : ℕ) (column : List ℤ) (whole o : Ordering) where
    -- one dimension more, which does not tell the cells apart
    pub compared_more : rank < length coords → dim < length coords → dim ≡ dim_at order (length coords) rank → column ≡ get_or coords dim column → o ≡ int_cmp (get_or column first (pos 0)) (get_or column second (pos 0))
        → o ≡ Equal → Compared rank whole → Compared (rank + 1) whole
    compared_more below within at is value equal sofar =
        slice_cmp_more order (coords_there coords first) (coords_there coords second) rank (omega (arith, below, coords_long coords first)) (omega (arith, below, coords_long coords second)) same_long whole o
        (cmp_there order coords first second rank dim column o within at is value) equal sofar

    -- or one that does
    pub compared_apart : rank < length coords → dim < length coords → dim ≡ dim_at order (length coords) rank → column ≡ get_or coords dim column → o ≡ int_cmp (get_or column first (pos 0)) (get_or column second (pos 0))
        → (o ≡ Equal → ⊥) → Compared rank whole → o ≡ whole
    compared_apart below within at is value apart sofar =
        slice_cmp_apart order (coords_there coords first) (coords_there coords second) rank (omega (arith, below, coords_long coords first)) (omega (arith, below, coords_long coords second)) same_long whole o
        (cmp_there order coords first second rank dim column o within at is value) apart sofar

  -- behind the last dimension nothing tells them apart
  pub compared_all : (rank : ℕ) (whole : Ordering) → length coords ≤ rank → Compared rank whole → Equal ≡ whole
  compared_all rank whole over sofar = slice_cmp_all order (coords_there coords first) (coords_there coords second) rank whole (omega (arith, over, coords_long coords first)) same_long sofar

-- ---- boxes

module _ (low high : List ℤ) (columns : List (List ℤ)) (place : ℕ) where
  -- what is left to look at, from a dimension on, decides
  abbrev pub Along : ℕ → Type 0
  Along d = is_between (drop d low) (drop d high) (drop d (coords_there columns place)) ≡ is_between low high (coords_there columns place)

  -- what a dimension says
  abbrev along : ℕ → Bool
  along d = int_le (get_or low d (pos 0)) (get_or (get_or columns d []) place (pos 0)) && int_le (get_or (get_or columns d []) place (pos 0)) (get_or high d (pos 0))

  split : (d : ℕ) → d < length low → d < length high → d < length columns
      → is_between (drop d low) (drop d high) (drop d (coords_there columns place)) ≡ (along d && is_between (drop (d + 1) low) (drop (d + 1) high) (drop (d + 1) (coords_there columns place)))
  split d a b e =
      let long : d < length (coords_there columns place) = omega (arith, e, coords_long columns place) in
      let lows = drop_more low d (pos 0) a in
      let highs = drop_more high d (pos 0) b in
      let there = drop_more (coords_there columns place) d (pos 0) long ∙ ap (λ (x : ℤ). x ∷ drop (d + 1) (coords_there columns place)) (get_or-map (λ (column : List ℤ). get_or column place (pos 0)) columns d [] (pos 0) e) in
      λ i. is_between (lows i) (highs i) (there i)

  -- one dimension more
  pub along_on : (d : ℕ) (b : Bool) → Along d → d < length low → d < length high → d < length columns → b ≡ along d → b ≡ true → Along (d + 1)
  along_on d b so low_has high_has column_has is fine =
      ap (λ (f : Bool). f && is_between (drop (d + 1) low) (drop (d + 1) high) (drop (d + 1) (coords_there columns place))) (sym fine ∙ is) ∙ sym (split d low_has high_has column_has) ∙ so

  -- a dimension that the cell lies outside of says that it lies outside
  pub along_not : (d : ℕ) (b : Bool) → Along d → d < length low → d < length high → d < length columns → b ≡ along d → b ≡ false → is_between low high (coords_there columns place) ≡ false
  along_not d b so low_has high_has column_has is out =
      sym so ∙ split d low_has high_has column_has ∙ ap (λ (f : Bool). f && is_between (drop (d + 1) low) (drop (d + 1) high) (drop (d + 1) (coords_there columns place))) (sym is ∙ out)

  -- behind the last dimension it lies inside
  pub along_end : (d : ℕ) → Along d → length low ≤ d → length high ≡ length low → length columns ≡ length low → is_between low high (coords_there columns place) ≡ true
  along_end d so over highs many =
      let lows = drop_all d low over in
      let tops = drop_all d high (omega (arith, over, highs)) in
      let there = drop_all d (coords_there columns place) (omega (arith, over, many, coords_long columns place)) in
      sym so ∙ (λ i. is_between (lows i) (tops i) (there i))

  -- where there are not as many of all three it lies outside
  pub uneven_sides : length high ≢ length low → is_between low high (coords_there columns place) ≡ false
  uneven_sides other = uneven_highs low high (coords_there columns place) other

  pub uneven_columns : length columns ≢ length low → is_between low high (coords_there columns place) ≡ false
  uneven_columns other = uneven_coords low high (coords_there columns place) (λ same. other (sym (coords_long columns place) ∙ same))

pub ruleset along_steps = (along_on, along_not, along_end, uneven_sides, uneven_columns)

-- ---- order

-- coordinates are the same where their test says so
pub coords_same : (a b : List ℤ) → coords_eq a b ≡ true → a ≡ b
coords_same a b same = (slice_eq-Decides Decides-int_eq a b (coords_eq a b) refl).0 same

-- a cell that is below another one in the cell order
pub behind_less : (frame : Frame) (first second : StoredCell) → order_cmp frame.cell first.coords second.coords ≡ Less → MayStandBehind frame first second
behind_less frame first second less =
    record {
      rises = ap (λ o. not (is_gt o)) less;
      later = ap (λ b. not b || (not frame.dense && nat_lt first.origin second.origin)) (by (coords_eq first.coords second.coords) refl);
    }
  where
    by : (b : Bool) → coords_eq first.coords second.coords ≡ b → b ≡ false
    by true is = let same = order_cmp-same frame.cell first.coords second.coords (coords_same first.coords second.coords is) in absurd (cc)
    by false is = refl

-- ---- space tiles

squeezed : (l h x : ℤ) → int_le l x ≡ true → int_le x h ≡ true → h ≡ l → x ≡ l
squeezed l h x a b same = grind (arith, ints)

-- what lies between corners that are the same is those corners
between_same : (ls hs xs : List ℤ) → IsTrue (is_between ls hs xs) → hs ≡ ls → xs ≡ ls
between_same [] [] [] t same = refl
between_same [] [] (x ∷ xs) t same = cc
between_same [] (h ∷ hs) xs t same = cc
between_same (l ∷ ls) [] xs t same = cc
between_same (l ∷ ls) (h ∷ hs) [] t same = cc
between_same (l ∷ ls) (h ∷ hs) (x ∷ xs) t same =
    let parts = and_parts (int_le l x && int_le x h) (is_between ls hs xs) t in
    let on = and_parts (int_le l x) (int_le x h) parts.0 in
    let ends : h ≡ l = cc in
    let rest : hs ≡ ls = cc in
    ap (λ y. y ∷ xs) (squeezed l h x on.0 on.1 ends) ∙ ap (λ ys. l ∷ ys) (between_same ls hs xs parts.1 rest)

-- all cells of a box lie in one space tile where its corners do
pub one_tile : (frame : Frame) (leaf : SubBox) → All IsSoundDim frame.domain → LiesInDomain frame.domain leaf → tile_numbers frame.domain leaf.low ≡ tile_numbers frame.domain leaf.high → IsOneTile frame leaf
one_tile frame leaf sound lies same a b first second = at a first ∙ sym (at b second)
  where
    at : (c : List ℤ) → IsTrue (is_in_box leaf c) → tile_numbers frame.domain c ≡ tile_numbers frame.domain leaf.low
    at c t = between_same (tile_numbers frame.domain leaf.low) (tile_numbers frame.domain leaf.high) (tile_numbers frame.domain c) (is_between-tile_numbers frame.domain leaf.low leaf.high c sound lies.0 t) (sym same)

-- the cell at a place lies in the leaf
pub cell_in_leaf : (frame : Frame) (leaf : SubBox) (c : Columns) (k : ℕ) → AreSound frame c → LieInLeaf leaf c → k < c.count → IsTrue (is_in_box leaf (cell_in c k).coords)
cell_in_leaf frame leaf c k sound within below =
    let d = cell_in c k in
    let I = λ (d : StoredCell). IsTrue (is_in_box leaf d.coords) in
    let long = cells_long c.count c.coords c.origins c.vals sound.coords sound.origins sound.vals in
    subst I (cell_there c.count c.coords c.origins c.vals k d sound.coords sound.origins sound.vals below) (All-get_or I (cells_in c) k d (omega (arith, long)) within)

-- so cells in a leaf share a space tile
pub tile_shared : (frame : Frame) (leaf : SubBox) (c : Columns) → AreSound frame c → LieInLeaf leaf c → IsOneTile frame leaf → ShareTile frame c
tile_shared frame leaf c sound within one j k first second = one (cell_in c j).coords (cell_in c k).coords (cell_in_leaf frame leaf c j sound within first) (cell_in_leaf frame leaf c k sound within second)
