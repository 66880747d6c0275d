-- The least and the greatest corner of cells: both lie in each box that the cells lie in, and each cell lies between them.
use Rattle.std.proofs.Common.{◌≡◌, ℤ, true, List, [], ◌∷◌, length, refl, sym, ◌∙◌, arith, ◌≤◌}
use Rattle.std.specs.Prelude.{IsTrue, int_le}
use Rattle.std.specs.List.{All}
use Rattle.std.proofs.lemmas.Int.{ints}
use Rattle.std.proofs.lemmas.Bool.{and_from}
use Rattle.std.proofs.lemmas.List.Elements.{All-nil, All-cons, All-head, All-tail}
use Rattle.ts_base.specs.declared.heads.Cell.{Cell}
use Rattle.ts_domain.specs.Bounds.{is_between, are_bounds, least_corner, greatest_corner}
use Rattle.ts_domain.specs.declared.boxes.SubBox.{SubBox}
use Rattle.ts_domain.specs.declared.dims.Dim.{Dim}
use Rattle.ts_domain.specs.Boxes.{is_in_box}
use Rattle.ts_domain.specs.Domains.{whole_domain, is_in_domain}
use Rattle.ts_domain.proofs.Between.{length-is_between, is_between-low, is_between-high, are_bounds-hull, is_between-hull_first, is_between-hull_second, is_between-hull_least}
use Rattle.ts_model.specs.Commands.{least_of_cells, greatest_of_cells, low_of_cells, high_of_cells}

-- coordinates are corners of themselves
bounds_of_one : (c : List ℤ) → IsTrue (are_bounds c c)
bounds_of_one [] = refl
bounds_of_one (x ∷ c) = and_from (int_le x x) (are_bounds c c) (level x) (bounds_of_one c)
  where
    level : (x : ℤ) → int_le x x ≡ true
    level x = grind (arith, ints)

module _ (outer : SubBox) where
  -- two corners in the box, the low one below the high one
  pub record AreCorners (low high : List ℤ) : Type 0 where
    pub low_in : IsTrue (is_in_box outer low)
    pub high_in : IsTrue (is_in_box outer high)
    pub ordered : IsTrue (are_bounds low high)

  -- the coordinates lie in the box
  abbrev IsIn : List ℤ → Type 0
  IsIn c = IsTrue (is_in_box outer c)

  -- coordinates in the box are equally many
  same_length : (a b : List ℤ) → IsIn a → IsIn b → length a ≡ length b
  same_length a b this that =
      sym (length-is_between outer.low outer.high a this).0 ∙ (length-is_between outer.low outer.high b that).0

  -- two corners, and coordinates more
  wider : (low high c : List ℤ) → AreCorners low high → IsIn c → AreCorners (least_corner low c) (greatest_corner high c)
  wider low high c corners inside =
      let own = bounds_of_one c in
      let ordered = are_bounds-hull low high c c corners.ordered own (same_length c low inside corners.low_in) in
      record {
        low_in = is_between-hull_least outer.low outer.high low high c c (least_corner low c) corners.low_in corners.high_in inside inside (is_between-low (least_corner low c) (greatest_corner high c) ordered);
        high_in = is_between-hull_least outer.low outer.high low high c c (greatest_corner high c) corners.low_in corners.high_in inside inside (is_between-high (least_corner low c) (greatest_corner high c) ordered);
        ordered = ordered;
      }

  -- the corners of more cells than two corners have
  record Span (low high : List ℤ) (cells : List Cell) : Type 0 where
    corners : AreCorners (least_of_cells low cells) (greatest_of_cells high cells)
    before : (x : List ℤ) → IsTrue (is_between low high x) → IsTrue (is_between (least_of_cells low cells) (greatest_of_cells high cells) x)
    each : All (λ (cell : Cell). IsTrue (is_between (least_of_cells low cells) (greatest_of_cells high cells) cell.coords)) cells

  -- the corners of cells lie in the box, with all of the cells between them
  span : (low high : List ℤ) (cells : List Cell) → AreCorners low high → All (λ (cell : Cell). IsIn cell.coords) cells → Span low high cells
  span low high [] corners inside = record { corners = corners; before = λ x between. between; each = All-nil (λ (cell : Cell). IsTrue (is_between low high cell.coords)) }
  span low high (cell ∷ cells) corners inside =
      let c = cell.coords in
      let here = All-head (λ (x : Cell). IsIn x.coords) cell cells inside in
      let rest = span (least_corner low c) (greatest_corner high c) cells (wider low high c corners here) (All-tail (λ (x : Cell). IsIn x.coords) cell cells inside) in
      let lows = same_length c low here corners.low_in in
      let highs = same_length c high here corners.high_in in
      let own = is_between-hull_second low high c c c (is_between-low c c (bounds_of_one c)) lows highs in
      record {
        corners = rest.corners;
        before = λ x between. rest.before x (is_between-hull_first low high c c x between lows highs);
        each = All-cons (λ (x : Cell). IsTrue (is_between (least_of_cells low (cell ∷ cells)) (greatest_of_cells high (cell ∷ cells)) x.coords)) cell cells (rest.before c own) rest.each;
      }

  -- the corners of cells in the box: each cell lies between them
  pub record Corners (cells : List Cell) : Type 0 where
    pub corners : AreCorners (low_of_cells cells) (high_of_cells cells)
    pub each : All (λ (cell : Cell). IsTrue (is_between (low_of_cells cells) (high_of_cells cells) cell.coords)) cells

  -- some cells in the box have such corners
  pub corners_in : (cells : List Cell) → 1 ≤ length cells → All (λ (cell : Cell). IsTrue (is_in_box outer cell.coords)) cells → Corners cells
  corners_in [] some inside = absurd (omega arith)
  corners_in (cell ∷ cells) some inside =
      let c = cell.coords in
      let here = All-head (λ (x : Cell). IsIn x.coords) cell cells inside in
      let all = span c c cells (record { low_in = here; high_in = here; ordered = bounds_of_one c }) (All-tail (λ (x : Cell). IsIn x.coords) cell cells inside) in
      record {
        corners = all.corners;
        each = All-cons (λ (x : Cell). IsTrue (is_between (low_of_cells (cell ∷ cells)) (high_of_cells (cell ∷ cells)) x.coords)) cell cells (all.before c (is_between-low c c (bounds_of_one c))) all.each;
      }

-- and so have some cells in a domain
pub corners_of : (dims : List Dim) (cells : List Cell) → 1 ≤ length cells → All (λ (cell : Cell). IsTrue (is_in_domain dims cell.coords)) cells → Corners (whole_domain dims) cells
corners_of dims cells some inside = corners_in (whole_domain dims) cells some inside
