-- Counting the places of cells and of space tiles, dimension by dimension.
use Rattle.std.proofs.Common.{◌≡◌, ℕ, zero, suc, ◌+◌, ◌*◌, ◌/◌, ◌^◌, ◌<◌, ◌≤◌, true, List, [], ◌∷◌, length, get_or, set, Some, refl, ◌⊎◌, inl, inr, get_or-set_same, get_or-set_other, sym, ap, ◌∙◌, arith, pos, negsuc, ◌-ℤ◌, ◌≤ℤ◌}
use Rattle.std.specs.Prelude.{ℤ, slice_get, ◌+ℤ◌, IsTrue, All, unsigned_abs, int_le}
use Rattle.std.proofs.lemmas.List.{get_or-map, length-map, get_or_default, same_lists}
use Rattle.std.proofs.lemmas.Int.{ints}
use Rattle.std.proofs.lemmas.Nat.{div-mul-add}
use Rattle.std.proofs.lemmas.Bool.{and_from, cases_eq}
use Rattle.std.proofs.lemmas.Option.{get_or_from_slice_get, slice_get_within}
use Rattle.std.proofs.lemmas.List.Elements.{All-head, All-tail}
use Rattle.std.specs.Int.{int_div_euclid}
use Rattle.ts_base.specs.declared.heads.Version.{Version}
use Rattle.ts_domain.specs.declared.boxes.SubBox.{SubBox}
use Rattle.ts_domain.specs.declared.dims.Dim.{Dim}
use Rattle.ts_domain.specs.declared.orders.Order.{Order}
use Rattle.ts_domain.specs.Bounds.{are_bounds, natural_of, count_between}
use Rattle.ts_domain.specs.Boxes.{cells_of}
use Rattle.ts_domain.specs.Dims.{IsSoundDim}
use Rattle.ts_domain.specs.Domains.{is_in_domain, whole_domain}
use Rattle.ts_domain.proofs.Between.{are_bounds-is_between, is_between-low, unsigned_abs-distance}
use Rattle.ts_order.specs.Orders.{dim_at}
use Rattle.ts_order.proofs.OrderLemmas.{dim_at-below, length-is_in_domain, get_or-tile_numbers, length-tile_numbers, is_in_domain_at}
use Rattle.ts_order.proofs.PlaceLaws.{steps_between}
use Rattle.ts_order.proofs.PlaceSteps.{place_step, place_all, count_between-at}
use Rattle.ts_order.proofs.TileLaws.{cells_between-tile_numbers}
use Rattle.ts_table.specs.declared.ranks.Counted.{Counted}
use Rattle.ts_table.specs.declared.ranks.Counted.TheVariants.{Cells, Tiles}
use Rattle.ts_table.specs.declared.ranks.Line.{Line}
use Rattle.ts_table.specs.Orders.{LiesInside}
use Rattle.ts_table.specs.Tables.{column_of, no_version, version_or}
use Rattle.ts_table.specs.Ranks.{IsCountable, number_of, numbers_of, numbers_box, place_in, front_place, IsLine, steps_on, counted_on, CanCount, ArePlaces}
use Rattle.ts_table.proofs.RankOrders.{numbers_inside}

-- there is a number for each dimension
length-numbers_of : (counted : Counted) (dims : List Dim) (at : List ℤ) → length at ≡ length dims → length (numbers_of counted dims at) ≡ length dims
length-numbers_of Cells dims at same = same
length-numbers_of Tiles dims at same = length-tile_numbers dims at same

get_or-numbers_of : (counted : Counted) (dims : List Dim) (at : List ℤ) (i : ℕ) (d : Dim) → length at ≡ length dims → i < length dims → d ≡ get_or dims i d
    → get_or (numbers_of counted dims at) i (pos 0) ≡ number_of counted d (get_or at i (pos 0))
get_or-numbers_of Cells dims at i d same within is = refl
get_or-numbers_of Tiles dims at i d same within is = get_or-tile_numbers dims at i d same within is

module _ (counted : Counted) (dims : List Dim) (order : Order) (at : List ℤ) (sound : All IsSoundDim dims) (inside : IsTrue (is_in_domain dims at)) (countable : IsCountable dims) where
  abbrev low : List ℤ
  low = (whole_domain dims).low

  abbrev high : List ℤ
  high = (whole_domain dims).high

  abbrev box : SubBox
  box = numbers_box counted dims

  few : (counted : Counted) → cells_of (numbers_box counted dims) < 2 ^ 64
  few Cells = omega (arith, countable)
  few Tiles =
      let bounds = are_bounds-is_between low high at inside in
      omega (arith, countable, cells_between-tile_numbers dims low high sound (is_between-low low high bounds) bounds)

  long_low : length low ≡ length dims
  long_low = length-map dims (λ (d : Dim). d.low)

  long_high : length high ≡ length dims
  long_high = length-map dims (λ (d : Dim). d.high)

  -- one dimension more
  pub count_more : (rank place : ℕ) (d : Dim) (line : Line) → rank < length dims → d ≡ get_or dims (dim_at order (length dims) rank) d → IsLine counted d line
      → d.low ≤ℤ get_or at (dim_at order (length dims) rank) (pos 0) → place ≡ front_place counted dims order rank at
      → (place * line.count + steps_on line (get_or at (dim_at order (length dims) rank) (pos 0)) ≡ front_place counted dims order (rank + 1) at)
      × (place * line.count + steps_on line (get_or at (dim_at order (length dims) rank) (pos 0)) < 2 ^ 64)
  count_more rank place d line within here is above before =
      let dim = dim_at order (length dims) rank in
      let below : dim < length dims = dim_at-below order (length dims) rank within in
      let long : length box.low ≡ length dims = length-numbers_of counted dims low long_low in
      let at_low : get_or box.low dim (pos 0) ≡ number_of counted d d.low =
      get_or-numbers_of counted dims low dim d long_low below here ∙ ap (number_of counted d) (get_or-map (λ (d : Dim). d.low) dims dim d (pos 0) below ∙ ap (λ (e : Dim). e.low) (sym here)) in
      let at_high : get_or box.high dim (pos 0) ≡ number_of counted d d.high =
      get_or-numbers_of counted dims high dim d long_high below here ∙ ap (number_of counted d) (get_or-map (λ (d : Dim). d.high) dims dim d (pos 0) below ∙ ap (λ (e : Dim). e.high) (sym here)) in
      let at_at : get_or (numbers_of counted dims at) dim (pos 0) ≡ number_of counted d (get_or at dim (pos 0)) =
      get_or-numbers_of counted dims at dim d (length-is_in_domain dims at inside) below here in
      let step = place_step order box.low box.high (numbers_of counted dims at) (numbers_inside counted dims at sound inside) (few counted) rank place line.count
      (steps_on line (get_or at dim (pos 0))) (rw long within) before
      (rw (long, at_low, at_high) is.count)
      (rw (long, at_low, at_at) (sym (is.steps (get_or at dim (pos 0)) above))) in
      step

  -- all dimensions
  pub count_all : (rank place : ℕ) → length dims ≤ rank → place ≡ front_place counted dims order rank at → place ≡ place_in counted dims order at
  count_all rank place done before =
      let long : length box.low ≡ length dims = length-numbers_of counted dims low long_low in
      place_all order box.low box.high (numbers_of counted dims at) (numbers_inside counted dims at sound inside) (few counted) rank place (rw long done) before

-- ---- how the cells and the space tiles along a dimension are counted

zero_div : (e : ℕ) → 1 ≤ e → 0 / e ≡ 0
zero_div e some = let start : 0 ≡ 0 * e + 0 = omega arith in ap (λ n. n / e) start ∙ div-mul-add 0 e 0 some

tiles_before : (z none : ℤ) (e : ℕ) → pos 0 ≤ℤ z → none ≡ pos 0 → 1 ≤ e → natural_of (int_div_euclid z (pos e) -ℤ int_div_euclid none (pos e)) ≡ natural_of z / e
tiles_before (pos p) none e above is some =
    let start : int_div_euclid none (pos e) ≡ pos 0 = ap (λ z. int_div_euclid z (pos e)) is ∙ ap pos (zero_div e some) in
    let steps : pos (p / e) -ℤ pos 0 ≡ pos (p / e) = omega (arith, ints) in
    rw start (ap natural_of steps)
tiles_before (negsuc p) none e above is some = absurd (omega (arith, ints))

tiles_between : (z none : ℤ) (e : ℕ) → pos 0 ≤ℤ z → none ≡ pos 0 → 1 ≤ e → unsigned_abs z / e + 1 ≡ natural_of (int_div_euclid z (pos e) -ℤ int_div_euclid none (pos e) +ℤ pos 1)
tiles_between (pos p) none e above is some =
    let start : int_div_euclid none (pos e) ≡ pos 0 = ap (λ z. int_div_euclid z (pos e)) is ∙ ap pos (zero_div e some) in
    let steps : pos (p / e) -ℤ pos 0 +ℤ pos 1 ≡ pos (p / e + 1) = omega (arith, ints) in
    rw start (sym (ap natural_of steps))
tiles_between (negsuc p) none e above is some = absurd (omega (arith, ints))

pub cells_line : (d : Dim) (last : ℕ) → IsSoundDim d → last ≡ unsigned_abs (d.high -ℤ d.low) → IsLine Cells d (record { low = d.low; extent = 1; count = last / 1 + 1 })
cells_line d last sound is =
    let whole : last / 1 + 1 ≡ last + 1 = omega arith in
    record {
      low = refl;
      some = omega arith;
      count = whole ∙ ap (λ n. n + 1) is ∙ unsigned_abs-distance d.low d.high (omega (arith, ints, sound.ordered));
      steps = λ x above. omega arith;
    }

pub tiles_line : (d : Dim) (last extent : ℕ) → IsSoundDim d → last ≡ unsigned_abs (d.high -ℤ d.low) → d.extent ≡ pos extent → IsLine Tiles d (record { low = d.low; extent = extent; count = last / extent + 1 })
tiles_line d last extent sound is wide =
    let some : 1 ≤ extent = omega (arith, ints, wide, sound.some) in
    record {
      low = refl;
      some = some;
      count = ap (λ n. n / extent + 1) is ∙ rw wide (tiles_between (d.high -ℤ d.low) (d.low -ℤ d.low) extent (omega (arith, ints, sound.ordered)) (omega (arith, ints)) some);
      steps = λ x above. rw wide (tiles_before (x -ℤ d.low) (d.low -ℤ d.low) extent (omega (arith, ints, above)) (omega (arith, ints)) some);
    }

-- ---- the coordinates of a countable domain

bounds_of : (dims : List Dim) → All IsSoundDim dims → IsTrue (are_bounds (whole_domain dims).low (whole_domain dims).high)
bounds_of [] sound = refl
bounds_of (d ∷ ds) sound =
    let here = (All-head IsSoundDim d ds sound).ordered in
    let le : int_le d.low d.high ≡ true = grind (arith, ints, here) in
    and_from (int_le d.low d.high) (are_bounds (whole_domain ds).low (whole_domain ds).high) le (bounds_of ds (All-tail IsSoundDim d ds sound))

module _ (dims : List Dim) (i : ℕ) (d : Dim) (sound : All IsSoundDim dims) (countable : IsCountable dims) (within : i < length dims) (here : d ≡ get_or dims i d) where
  -- no dimension has more coordinates than the domain has cells
  pub side_few : count_between d.low d.high < 2 ^ 64
  side_few =
      let low = (whole_domain dims).low in
      let high = (whole_domain dims).high in
      let at_low : get_or low i (pos 0) ≡ d.low = get_or-map (λ (d : Dim). d.low) dims i d (pos 0) within ∙ ap (λ (e : Dim). e.low) (sym here) in
      let at_high : get_or high i (pos 0) ≡ d.high = get_or-map (λ (d : Dim). d.high) dims i d (pos 0) within ∙ ap (λ (e : Dim). e.high) (sym here) in
      let long : i < length low = rw length-map within in
      let most = (count_between-at low high i (bounds_of dims sound) long).1 in
      omega (arith, countable, rw (at_low, at_high) at most)

  -- a coordinate lies above the least one, by a number of steps that is small too
  pub coord_few : (at : List ℤ) → IsTrue (is_in_domain dims at) → (d.low ≤ℤ get_or at i (pos 0)) × (natural_of (get_or at i (pos 0) -ℤ d.low) < 2 ^ 64)
  coord_few at inside =
      let between = is_in_domain_at dims at i d inside within here in
      let le_low : int_le d.low (get_or at i (pos 0)) ≡ true = grind (arith, ints, between.0) in
      let le_high : int_le (get_or at i (pos 0)) d.high ≡ true = grind (arith, ints, between.1) in
      let steps = (steps_between d.low d.high (get_or at i (pos 0)) (and_from (int_le d.low (get_or at i (pos 0))) (int_le (get_or at i (pos 0)) d.high) le_low le_high)).0 in
      (between.0, omega (arith, steps, side_few))

-- ---- places counted on along a line, one by one

length-counted_on : (line : Line) (xs : List ℤ) (places : List ℕ) → length xs ≡ length places → length (counted_on line xs places) ≡ length places
length-counted_on line [] [] same = refl
length-counted_on line [] (p ∷ places) same = cc
length-counted_on line (x ∷ xs) [] same = refl
length-counted_on line (x ∷ xs) (p ∷ places) same = ap suc (length-counted_on line xs places (cc))

get_or-counted_on : (line : Line) (xs : List ℤ) (places : List ℕ) (k : ℕ) → length xs ≡ length places → k < length places
    → get_or (counted_on line xs places) k 0 ≡ get_or places k 0 * line.count + steps_on line (get_or xs k (pos 0))
get_or-counted_on line xs [] k same below = absurd (omega (arith, below))
get_or-counted_on line [] (p ∷ places) k same below = cc
get_or-counted_on line (x ∷ xs) (p ∷ places) zero same below = refl
get_or-counted_on line (x ∷ xs) (p ∷ places) (suc k) same below = get_or-counted_on line xs places k (cc) (omega (arith, below))

-- when all are done
pub all_counted : (line : Line) (xs : List ℤ) (old new : List ℕ) → length xs ≡ length old → length new ≡ length old
    → ((k : ℕ) → k < length old → get_or new k 0 ≡ get_or old k 0 * line.count + steps_on line (get_or xs k (pos 0))) → new ≡ counted_on line xs old
all_counted line xs old new same long each =
    let whole = length-counted_on line xs old same in
    same_lists new (counted_on line xs old) (long ∙ sym whole) (λ k d below.
    let within : k < length old = omega (arith, below, long) in
    let other : k < length (counted_on line xs old) = omega (arith, within, whole) in
    get_or_default new k d 0 below ∙ each k within ∙ sym (get_or-counted_on line xs old k same within) ∙ get_or_default (counted_on line xs old) k 0 d other)

-- one place more is counted on
pub done_more : (places : List ℕ) (i v : ℕ) (new : ℕ → ℕ) → i < length places → v ≡ new i → ((k : ℕ) → k < i → get_or places k 0 ≡ new k) → (k : ℕ) → k < i + 1 → get_or (set places i v) k 0 ≡ new k
done_more places i v new within is done k below = by (cases_eq k i)
  where
    by : (k ≡ i) ⊎ (k ≡ i → ⊥) → get_or (set places i v) k 0 ≡ new k
    by (inl same) = ap (λ j. get_or (set places i v) j 0) same ∙ get_or-set_same places i v 0 within ∙ is ∙ ap new (sym same)
    by (inr apart) = get_or-set_other places i k v 0 apart ∙ done k (omega (arith, below, apart))

pub left_less : (places : List ℕ) (i v n : ℕ) (old : ℕ → ℕ) → ((k : ℕ) → i ≤ k → k < n → get_or places k 0 ≡ old k) → (k : ℕ) → i + 1 ≤ k → k < n → get_or (set places i v) k 0 ≡ old k
left_less places i v n old left k after below =
    let apart : k ≡ i → ⊥ = λ same. omega (arith, same, after) in
    get_or-set_other places i k v 0 apart ∙ left k (omega (arith, after)) below

-- ---- the places of all versions, counted on by one dimension

module _ (counted : Counted) (dims : List Dim) (order : Order) (vs : List Version) (sound : All IsSoundDim dims) (countable : IsCountable dims) (inside : All (LiesInside dims) vs)
    (rank dim : ℕ) (d : Dim) (line : Line) (within : rank < length dims) (is_dim : dim ≡ dim_at order (length dims) rank) (there : slice_get dims dim ≡ Some d) (is : IsLine counted d line)
  where
    here : d ≡ get_or dims dim d
    here = sym (get_or_from_slice_get dims dim d d there)

    below : dim < length dims
    below = slice_get_within dims dim d there

    fit_at : (k : ℕ) → k < length vs → (line.low ≤ℤ get_or (version_or vs k).coords dim (pos 0)) × (natural_of (get_or (version_or vs k).coords dim (pos 0) -ℤ line.low) < 2 ^ 64)
    fit_at k k_below = rw is.low (coord_few dims dim d sound countable below here (version_or vs k).coords (inside k no_version k_below))

    count_at : (k place : ℕ) → k < length vs → place ≡ front_place counted dims order rank (version_or vs k).coords
        → (place * line.count + steps_on line (get_or (version_or vs k).coords dim (pos 0)) ≡ front_place counted dims order (rank + 1) (version_or vs k).coords)
        × (place * line.count + steps_on line (get_or (version_or vs k).coords dim (pos 0)) < 2 ^ 64)
    count_at k place k_below before =
        let at = (version_or vs k).coords in
        let at_dim : d ≡ get_or dims (dim_at order (length dims) rank) d = here ∙ ap (λ i. get_or dims i d) is_dim in
        let above : d.low ≤ℤ get_or at dim (pos 0) = (coord_few dims dim d sound countable below here at (inside k no_version k_below)).0 in
        rw is_dim (count_more counted dims order at sound (inside k no_version k_below) countable rank place d line within at_dim is (rw is_dim at above) before)

    at_column : (k : ℕ) → k < length vs → get_or (column_of vs dim) k (pos 0) ≡ get_or (version_or vs k).coords dim (pos 0)
    at_column k k_below = get_or-map (λ (v : Version). get_or v.coords dim (pos 0)) vs k no_version (pos 0) k_below

    long_column : length (column_of vs dim) ≡ length vs
    long_column = length-map vs (λ (v : Version). get_or v.coords dim (pos 0))

    module _ (places : List ℕ) (so_far : ArePlaces (front_place counted dims order rank) vs places) where
      -- the column of the dimension counts the places on
      pub can_count : CanCount line (column_of vs dim) places
      can_count = record {
        some = is.some;
        long = long_column ∙ sym so_far.long;
        above = λ k k_below. let there : k < length vs = omega (arith, k_below, so_far.long) in rw (at_column k there) (fit_at k there).0;
        few = λ k k_below. let there : k < length vs = omega (arith, k_below, so_far.long) in rw (at_column k there) (fit_at k there).1;
        fits = λ k k_below. let there : k < length vs = omega (arith, k_below, so_far.long) in rw (at_column k there) (count_at k (get_or places k 0) there (so_far.each k there)).1;
      }

      pub placed_on : (new : List ℕ) → new ≡ counted_on line (column_of vs dim) places → ArePlaces (front_place counted dims order (rank + 1)) vs new
      placed_on new are =
          let long : length (column_of vs dim) ≡ length places = long_column ∙ sym so_far.long in
          rw are (record {
            long = length-counted_on line (column_of vs dim) places long ∙ so_far.long;
            each = λ k k_below. get_or-counted_on line (column_of vs dim) places k long (omega (arith, k_below, so_far.long)) ∙ ap (λ x. get_or places k 0 * line.count + steps_on line x) (at_column k k_below) ∙ (count_at k (get_or places k 0) k_below (so_far.each k k_below)).0;
          })

      -- where no version has the dimension there is none
      pub none_placed : All (λ (v : Version). length v.coords ≤ dim) vs → ArePlaces (front_place counted dims order (rank + 1)) vs places
      none_placed none = record {
        long = so_far.long;
        each = λ k k_below. absurd (omega (arith, below, none k no_version k_below, length-is_in_domain dims (version_or vs k).coords (inside k no_version k_below)));
      }
