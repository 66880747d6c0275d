-- Batches of the cells of a box: how they stand, and their coordinates as columns.
use Rattle.std.proofs.Common.{◌≡◌, ℕ, ◌+◌, ◌<◌, ℤ, pos, List, [], length, map, get_or, sym, ap, ◌∙◌, subst, arith}
use Rattle.std.specs.Prelude.{All}
use Rattle.std.specs.List.{AllAdjacentBelow, range_with_len}
use Rattle.std.specs.declared.cmp.Ordering.TheVariants.{Less}
use Rattle.std.proofs.lemmas.List.{same_lists, length-map, get_or-map, get_or_default}
use Rattle.std.proofs.lemmas.List.FromFn.{length-range_with_len, get_or-range_with_len}
use Rattle.std.proofs.lemmas.Option.{slice_get-get_or}
use Rattle.ts_base.specs.declared.heads.Version.{Version}
use Rattle.ts_base.specs.declared.values.Val.{Val}
use Rattle.ts_domain.specs.declared.boxes.SubBox.{SubBox}
use Rattle.ts_domain.specs.declared.orders.Order.{Order}
use Rattle.ts_domain.specs.Boxes.{cells_of}
use Rattle.ts_order.specs.Orders.{coords_in_order, order_cmp}
use Rattle.ts_order.proofs.OrderedCoords.{length-coords_in_order, Ascends-coords_in_order}
use Rattle.ts_table.specs.declared.origins.Origin.{Origin}
use Rattle.ts_table.specs.Tables.{column_of, no_version, version_or}
use Rattle.ts_table.specs.BoxTables.{versions_over, IsBoxTable}
use Rattle.ts_table.proofs.BoxTables.{count_is, coords_are}
use Rattle.ts_gather.specs.Sides.{AreCoords}

module _ (versions : List Version) (o : Origin) (attrs : List (List Val)) (ord : Order) (sub : SubBox) (made : versions ≡ versions_over o attrs 0 (coords_in_order ord sub)) (table : IsBoxTable sub attrs) where
  many : length versions ≡ cells_of sub
  many = ap length made ∙ count_is o attrs ord sub table.valid

  -- the coordinates of the version at a place
  coords_at : (k : ℕ) → k < length versions → (version_or versions k).coords ≡ get_or (coords_in_order ord sub) k []
  coords_at k within =
      let inside : k < length (versions_over o attrs 0 (coords_in_order ord sub)) = subst (λ vs. k < length vs) made within in
      let below : k < length (coords_in_order ord sub) = omega (arith, within, many, length-coords_in_order ord sub table.valid) in
      ap (λ vs. (version_or vs k).coords) made
      ∙ sym (coords_are o attrs ord sub k (get_or (coords_in_order ord sub) k []) inside (slice_get-get_or (coords_in_order ord sub) k [] below))

  -- they ascend in the order
  pub ascends : AllAdjacentBelow (λ (a b : Version). order_cmp ord a.coords b.coords ≡ Less) versions (length versions)
  ascends k d below =
      let first : k < length versions = omega (arith, below) in
      let last : k + 1 < length (coords_in_order ord sub) = omega (arith, below, many, length-coords_in_order ord sub table.valid) in
      let before : k < length (coords_in_order ord sub) = omega (arith, last) in
      let here : (get_or versions k d).coords ≡ get_or (coords_in_order ord sub) k [] = ap (λ (v : Version). v.coords) (get_or_default versions k d no_version first) ∙ coords_at k first in
      let there : (get_or versions (k + 1) d).coords ≡ get_or (coords_in_order ord sub) (k + 1) [] = ap (λ (v : Version). v.coords) (get_or_default versions (k + 1) d no_version below) ∙ coords_at (k + 1) below in
      (λ i. order_cmp ord (here i) (there i))
      ∙ Ascends-coords_in_order ord sub table.valid k (k + 1) (get_or (coords_in_order ord sub) k []) (get_or (coords_in_order ord sub) (k + 1) []) (omega arith)
      (slice_get-get_or (coords_in_order ord sub) k [] before) (slice_get-get_or (coords_in_order ord sub) (k + 1) [] last)

  -- their coordinates, one column for each dimension
  pub box_numbers : (dims : ℕ) (columns : List (List ℤ)) → 0 < length versions → All (λ (v : Version). length v.coords ≡ dims) versions → AreCoords ord sub columns
      → columns ≡ map (column_of versions) (range_with_len 0 dims)
  box_numbers dims columns some long are =
      let number : (k : ℕ) → k < length versions → map (λ column. get_or column k (pos 0)) columns ≡ (version_or versions k).coords = λ k within. are.there k (omega (arith, within, many)) ∙ sym (coords_at k within) in
      let count : length columns ≡ dims = sym (length-map columns (λ (column : List ℤ). get_or column 0 (pos 0))) ∙ ap length (number 0 some) ∙ long 0 no_version some in
      let range = range_with_len 0 dims in
      let ranged : length (map (column_of versions) range) ≡ dims = length-map range (column_of versions) ∙ length-range_with_len 0 dims in
      same_lists columns (map (column_of versions) range) (count ∙ sym ranged) (λ d e below.
      let dim : d < dims = omega (arith, below, count) in
      let whole : length (get_or columns d e) ≡ length versions = are.long d e below ∙ sym many in
      let same : get_or columns d e ≡ column_of versions d = same_lists (get_or columns d e) (column_of versions d) (whole ∙ sym (length-map versions (λ (v : Version). get_or v.coords d (pos 0)))) (λ k x within.
      let inside : k < length versions = omega (arith, within, whole) in
      get_or_default (get_or columns d e) k x (pos 0) within
      ∙ sym (get_or-map (λ (column : List ℤ). get_or column k (pos 0)) columns d e (pos 0) below)
      ∙ ap (λ (xs : List ℤ). get_or xs d (pos 0)) (number k inside)
      ∙ sym (get_or-map (λ (v : Version). get_or v.coords d (pos 0)) versions k no_version x inside)) in
      let first : 0 + d ≡ d = omega arith in
      let at : get_or range d 0 ≡ d = get_or-range_with_len 0 dims d 0 dim ∙ first in
      same ∙ sym (ap (column_of versions) at) ∙ sym (get_or-map (column_of versions) range d 0 e (omega (arith, dim, length-range_with_len 0 dims))))

pub ruleset numbers = (box_numbers)
