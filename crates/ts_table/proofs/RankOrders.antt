-- Ranks in their order have the places in the order of the cells.
use Rattle.std.proofs.Common.{◌≡◌, ℕ, ◌+◌, ◌<◌, List, [], ◌∷◌, ◌++◌, map, length, refl, sym, ap, ◌∙◌, arith}
use Rattle.std.specs.Prelude.{ℤ, IsTrue, All}
use Rattle.std.specs.List.{range_with_len}
use Rattle.std.specs.List.Sorted.{IsPermutation, IsSorted}
use Rattle.std.specs.Ordering.{nat_cmp, ordering_then}
use Rattle.std.proofs.lemmas.List.FromFn.{map-range_with_len_more}
use Rattle.ts_base.specs.declared.heads.Version.{Version}
use Rattle.ts_domain.specs.declared.dims.Dim.{Dim}
use Rattle.ts_domain.specs.declared.orders.Order.{Order}
use Rattle.ts_domain.specs.Boxes.{is_in_box}
use Rattle.ts_domain.specs.Dims.{IsSoundDim}
use Rattle.ts_domain.specs.Domains.{is_in_domain, whole_domain}
use Rattle.ts_domain.proofs.Between.{are_bounds-is_between, is_between-low}
use Rattle.ts_order.specs.Orders.{turned, order_cmp}
use Rattle.ts_order.proofs.PlaceLaws.{slice_cmp-place_of}
use Rattle.ts_order.proofs.TileLaws.{is_between-tile_numbers}
use Rattle.ts_order.proofs.TurnedLemmas.{is_between-turned}
use Rattle.ts_table.specs.declared.order.CellOrder.{CellOrder}
use Rattle.ts_table.specs.declared.order.CellOrder.TheVariants.{Plain, Global}
use Rattle.ts_table.specs.declared.ranks.Counted.{Counted}
use Rattle.ts_table.specs.declared.ranks.Counted.TheVariants.{Cells, Tiles}
use Rattle.ts_table.specs.declared.ranks.Ranked.{Ranked}
use Rattle.ts_table.specs.Orders.{cells_cmp, LiesInside}
use Rattle.ts_table.specs.Ordered.{place_cmp, AreOrdered}
use Rattle.ts_table.specs.Ranks.{numbers_of, numbers_box, place_in, rank_at, ranks_of, rank_cmp}
use Rattle.ts_table.specs.Tables.{no_version, version_or}
use Rattle.ts_table.proofs.SpotOrders.{then_assoc}
use Rattle.ts_table.proofs.PlaceOrders as places

-- the place beside a rank
abbrev pub place_of : Ranked → ℕ
place_of r = r.place

-- one rank more
pub ranks_more : (dims : List Dim) (order : CellOrder) (vs : List Version) (place : ℕ)
    → map (rank_at dims order vs) (range_with_len 0 (place + 1)) ≡ map (rank_at dims order vs) (range_with_len 0 place) ++ rank_at dims order vs place ∷ []
ranks_more dims order vs place = map-range_with_len_more (rank_at dims order vs) 0 place place (omega arith)

-- the numbers of coordinates in the domain lie in the box of all numbers
pub numbers_inside : (counted : Counted) (dims : List Dim) (at : List ℤ) → All IsSoundDim dims → IsTrue (is_in_domain dims at) → IsTrue (is_in_box (numbers_box counted dims) (numbers_of counted dims at))
numbers_inside Cells dims at sound inside = inside
numbers_inside Tiles dims at sound inside =
    let low = (whole_domain dims).low in
    let high = (whole_domain dims).high in
    is_between-tile_numbers dims low high at sound (is_between-low low high (are_bounds-is_between low high at inside)) inside

module _ (dims : List Dim) (a b : List ℤ) (sound : All IsSoundDim dims) (first : IsTrue (is_in_domain dims a)) (second : IsTrue (is_in_domain dims b)) where
  -- cells, and space tiles, stand as their places do
  placed : (counted : Counted) (order : Order) → nat_cmp (place_in counted dims order a) (place_in counted dims order b) ≡ order_cmp order (numbers_of counted dims a) (numbers_of counted dims b)
  placed counted order =
      let low = (numbers_box counted dims).low in
      let high = (numbers_box counted dims).high in
      let x = numbers_of counted dims a in
      let y = numbers_of counted dims b in
      sym (slice_cmp-place_of (turned order low) (turned order high) (turned order x) (turned order y)
      (is_between-turned order low high x (numbers_inside counted dims a sound first)) (is_between-turned order low high y (numbers_inside counted dims b sound second)))

module _ (dims : List Dim) (vs : List Version) (sound : All IsSoundDim dims) (inside : All (LiesInside dims) vs) where
  -- ranks stand as the places do
  cmp_is : (order : CellOrder) (i j : ℕ) → i < length vs → j < length vs → rank_cmp (rank_at dims order vs i) (rank_at dims order vs j) ≡ place_cmp (cells_cmp dims order) vs i j
  cmp_is (Plain order) i j in_i in_j =
      ap (λ o. ordering_then o (nat_cmp i j)) (placed dims (version_or vs i).coords (version_or vs j).coords sound (inside i no_version in_i) (inside j no_version in_j) Cells order)
  cmp_is (Global tile cell) i j in_i in_j =
      let by = placed dims (version_or vs i).coords (version_or vs j).coords sound (inside i no_version in_i) (inside j no_version in_j) in
      then_assoc _ _ (nat_cmp i j) ∙ (λ n. ordering_then (ordering_then (by Tiles tile n) (by Cells cell n)) (nat_cmp i j))

  no_rank : Ranked
  no_rank = record { tile = 0; cell = 0; place = 0 }

  pub ordered_from : (order : CellOrder) (ranks : List Ranked) → IsPermutation (ranks_of dims order vs) ranks → IsSorted rank_cmp ranks → AreOrdered (cells_cmp dims order) vs (map place_of ranks)
  ordered_from order ranks moved sorted =
      places.ordered_from rank_cmp (rank_at dims order vs) place_of no_rank (cells_cmp dims order) vs (λ i. refl) (cmp_is order) ranks moved sorted
