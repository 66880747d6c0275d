-- The spots of the cells of a part of a box, run after run.
use Rattle.std.proofs.Common.{◌≡◌, ℕ, ◌+◌, ◌*◌, ◌/◌, ◌<◌, ◌≤◌, List, [], ◌∷◌, ◌++◌, length, get_or, take, drop, map, sym, ap, ◌∙◌, subst, append_assoc, arith, mul-le-mul}
use Rattle.std.proofs.Math.Nat.{mul-div_cancel}
use Rattle.std.proofs.lemmas.List.{get_or-drop, get_or-map, get_or-take, length-drop, length-map, length-take, map-append, same_lists, take-append-drop, take-take, drop-take}
use Rattle.std.proofs.lemmas.List.FromFn.{get_or-map-range_with_len, length-map-range_with_len, map-range_with_len_more}
use Rattle.std.proofs.lemmas.Option.{slice_get-get_or}
use Rattle.ts_domain.specs.declared.boxes.SubBox.{SubBox}
use Rattle.ts_domain.specs.declared.orders.Order.{Order}
use Rattle.ts_domain.specs.Boxes.{IsBox, cells_of, Covers}
use Rattle.ts_order.specs.Orders.{coords_in_order}
use Rattle.ts_order.proofs.OrderedCoords.{is_in_box-slice_get, length-coords_in_order, place_of-only}
use Rattle.ts_gather.specs.Parts.{place_in, run_in, starts_over}
use Rattle.ts_gather.proofs.PartLaws.{cells_are, outer_valid, run_cells, run_fits}
use Rattle.ts_piece.specs.declared.spots.Spot.{Spot}
use Rattle.ts_piece.specs.Spots.{in_first}
use Rattle.ts_writer.specs.Spots.{spot_in, spots_from}

-- one spot more
pub run_grown : (before made more : List Spot) (from step : ℕ) → made ≡ before ++ spots_from from step → more ≡ made ++ in_first (from + step) ∷ [] → more ≡ before ++ spots_from from (step + 1)
run_grown before made more from step was is =
    is ∙ ap (λ ys. ys ++ in_first (from + step) ∷ []) was ∙ append_assoc before (spots_from from step) (in_first (from + step) ∷ [])
    ∙ ap (λ ys. before ++ ys) (sym (map-range_with_len_more (λ k. in_first (from + k)) 0 step step (omega arith)))

-- so many items of a list, and so many more
take_on : {X : Type 0} (n m : ℕ) (xs : List X) → take (n + m) xs ≡ take n xs ++ take m (drop n xs)
take_on n m xs = sym (take-append-drop n (take (n + m) xs)) ∙ ap (λ ys. ys ++ drop n (take (n + m) xs)) (take-take n (n + m) xs (omega arith)) ∙ ap (λ ys. take n xs ++ ys) (drop-take n m xs)

-- the cells of a box from a place on have the spots from there on
spots_on : (layout : Order) (sub : SubBox) (from run : ℕ) → IsBox sub → from + run ≤ cells_of sub → map (spot_in layout sub) (take run (drop from (coords_in_order layout sub))) ≡ spots_from from run
spots_on layout sub from run box fits =
    let cells = coords_in_order layout sub in
    let part = take run (drop from cells) in
    let all : length (coords_in_order layout sub) ≡ cells_of sub = length-coords_in_order layout sub box in
    let long : length (take run (drop from (coords_in_order layout sub))) ≡ run = omega (arith, length-take run (drop from cells), length-drop from cells, all, fits) in
    let many : length (map (spot_in layout sub) (take run (drop from (coords_in_order layout sub)))) ≡ run = length-map part (spot_in layout sub) ∙ long in
    same_lists (map (spot_in layout sub) part) (spots_from from run) (many ∙ sym (length-map-range_with_len (λ k. in_first (from + k)) 0 run))
    (λ k d there.
    let on : k < run = omega (arith, there, many) in
    let cell = get_or cells (from + k) [] in
    let below : from + k < length (coords_in_order layout sub) = omega (arith, on, fits, all) in
    let found = slice_get-get_or cells (from + k) [] below in
    let inside = is_in_box-slice_get layout sub box (from + k) cell found in
    let here : get_or (take run (drop from (coords_in_order layout sub))) k [] ≡ get_or (coords_in_order layout sub) (from + k) [] = get_or-take run (drop from cells) k [] on ∙ get_or-drop from cells k [] in
    get_or-map (spot_in layout sub) part k [] d (omega (arith, on, long)) ∙ ap (spot_in layout sub) here ∙ ap in_first (sym (place_of-only layout sub cell inside (from + k) found))
    ∙ sym (get_or-map-range_with_len (λ j. in_first (from + j)) 0 run k k d on (omega arith)))

-- a number of whole runs is that of the runs, that often
exact : (cells runs n run : ℕ) → 0 < run → run ≡ n → cells ≡ runs * n → cells ≡ cells / run * run
exact cells runs n run positive same e =
    let here : cells ≡ runs * run = e ∙ ap (λ m. runs * m) (sym same) in
    here ∙ ap (λ m. m * run) (sym (ap (λ m. m / run) here ∙ mul-div_cancel runs positive))

module _ (layout : Order) (sub tile : SubBox) (valid : IsBox tile) (covers : Covers sub tile) (some : 1 ≤ length tile.low) (run : ℕ) (is : run ≡ run_in layout tile) (positive : 0 < run) where
  -- how many runs there are
  abbrev starts : List ℕ
  starts = starts_over layout sub tile

  starts_many : length starts ≡ cells_of tile / run
  starts_many = length-map-range_with_len (λ k. place_in layout sub (get_or (coords_in_order layout tile) (k * run_in layout tile) [])) 0 (cells_of tile / run_in layout tile) ∙ ap (λ n. cells_of tile / n) (sym is)

  module _ (row from : ℕ) (found : List ℕ) (same : found ≡ starts) (lt : row < length found) (at : from ≡ get_or found row 0) where
    within : row < cells_of tile / run
    within = omega (arith, lt, ap length same, starts_many)

    -- the first cell of the run stands there
    begins : from ≡ place_in layout sub (get_or (coords_in_order layout tile) (row * run_in layout tile) [])
    begins =
        at ∙ ap (λ xs. get_or xs row 0) same
        ∙ get_or-map-range_with_len (λ k. place_in layout sub (get_or (coords_in_order layout tile) (k * run_in layout tile) [])) 0 (cells_of tile / run_in layout tile) row row 0 (subst (λ n. row < cells_of tile / n) is within) (omega arith)

    -- the run ends within the box
    pub run_within : from + run ≤ cells_of sub
    run_within = run_fits layout sub tile valid covers some run row from is positive within begins

    -- the spots of one run more
    pub run_more : (before made more : List Spot) → made ≡ before ++ map (spot_in layout sub) (take (row * run) (coords_in_order layout tile)) → more ≡ made ++ spots_from from run
        → more ≡ before ++ map (spot_in layout sub) (take ((row + 1) * run) (coords_in_order layout tile))
    run_more before made more was push =
        let cells = coords_in_order layout tile in
        let f = spot_in layout sub in
        let alike = run_cells layout sub tile valid covers some run row from is positive within begins in
        let here : spots_from from run ≡ map (spot_in layout sub) (take run (drop (row * run) (coords_in_order layout tile))) =
        sym (spots_on layout sub from run (outer_valid layout sub tile valid covers) run_within) ∙ ap (map f) (sym alike) in
        let next : row * run + run ≡ (row + 1) * run = omega arith in
        push ∙ (λ i. was i ++ here i) ∙ append_assoc before (map f (take (row * run) cells)) (map f (take run (drop (row * run) cells)))
        ∙ ap (λ ys. before ++ ys) (sym (map-append f (take (row * run) cells) (take run (drop (row * run) cells))) ∙ ap (map f) (sym (take_on (row * run) run cells)) ∙ ap (λ n. map f (take n cells)) next)

  -- behind the last run there are all cells
  pub runs_over : (row : ℕ) (found : List ℕ) → found ≡ starts → length found ≤ row → length (coords_in_order layout tile) ≤ row * run
  runs_over row found same over =
      let counted : cells_of tile ≡ cells_of tile / run * run =
      exact (cells_of tile) _ (run_in layout tile) run positive is (cells_are layout sub tile valid covers some) in
      let rows : cells_of tile / run ≤ row = omega (arith, over, ap length same, starts_many) in
      let all : cells_of tile / run * run ≤ row * run = mul-le-mul rows (omega arith) in
      omega (arith, all, counted, length-coords_in_order layout tile valid)
