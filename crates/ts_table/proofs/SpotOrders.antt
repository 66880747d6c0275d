-- Spots in their order have the places in the order of the cells.
use Rattle.std.proofs.Common.{◌≡◌, ℕ, ◌+◌, List, [], ◌∷◌, ◌++◌, map, refl, arith}
use Rattle.std.specs.List.{range_with_len}
use Rattle.std.specs.List.Sorted.{IsPermutation, IsSorted}
use Rattle.std.specs.Ordering.{nat_cmp, ordering_then}
use Rattle.std.specs.declared.cmp.Ordering.{Ordering}
use Rattle.std.specs.declared.cmp.Ordering.TheVariants.{Less, Equal, Greater}
use Rattle.std.proofs.lemmas.List.FromFn.{map-range_with_len_more}
use Rattle.ts_base.specs.declared.heads.Version.{Version}
use Rattle.ts_domain.specs.declared.dims.Dim.{Dim}
use Rattle.ts_table.specs.declared.order.CellOrder.{CellOrder}
use Rattle.ts_table.specs.declared.order.CellOrder.TheVariants.{Plain, Global}
use Rattle.ts_table.specs.declared.spots.Spot.{Spot}
use Rattle.ts_table.specs.Orders.{cells_cmp}
use Rattle.ts_table.specs.Ordered.{place_cmp, AreOrdered}
use Rattle.ts_table.specs.Spots.{spot_at, spots_of, spot_cmp}
use Rattle.ts_table.proofs.PlaceOrders as places

-- the place of a spot
abbrev pub place_of : Spot → ℕ
place_of s = s.place

-- one spot more
pub spots_more : (dims : List Dim) (order : CellOrder) (vs : List Version) (place : ℕ)
    → map (spot_at dims order vs) (range_with_len 0 (place + 1)) ≡ map (spot_at dims order vs) (range_with_len 0 place) ++ spot_at dims order vs place ∷ []
spots_more dims order vs place = map-range_with_len_more (spot_at dims order vs) 0 place place (omega arith)

pub ruleset steps = (spots_more)

pub then_assoc : (a b c : Ordering) → ordering_then a (ordering_then b c) ≡ ordering_then (ordering_then a b) c
then_assoc Less b c = refl
then_assoc Equal b c = refl
then_assoc Greater b c = refl

place_is : (dims : List Dim) (order : CellOrder) (vs : List Version) (i : ℕ) → (spot_at dims order vs i).place ≡ i
place_is dims (Plain order) vs i = refl
place_is dims (Global tile cell) vs i = refl

-- spots stand as the places do
cmp_is : (dims : List Dim) (order : CellOrder) (vs : List Version) (i j : ℕ) → spot_cmp (spot_at dims order vs i) (spot_at dims order vs j) ≡ place_cmp (cells_cmp dims order) vs i j
cmp_is dims (Plain order) vs i j = refl
cmp_is dims (Global tile cell) vs i j = then_assoc _ _ (nat_cmp i j)

no_spot : Spot
no_spot = record { tile = []; cell = []; place = 0 }

pub ordered_from : (dims : List Dim) (order : CellOrder) (vs : List Version) (spots : List Spot) → IsPermutation (spots_of dims order vs) spots → IsSorted spot_cmp spots
    → AreOrdered (cells_cmp dims order) vs (map place_of spots)
ordered_from dims order vs spots moved sorted =
    places.ordered_from spot_cmp (spot_at dims order vs) place_of no_spot (cells_cmp dims order) vs (place_is dims order vs) (λ i j _ _. cmp_is dims order vs i j) spots moved sorted
