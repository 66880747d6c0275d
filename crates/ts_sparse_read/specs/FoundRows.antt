-- Columns of a tile make its cells, which stand in their order.
use Rattle.std.specs.Prelude.{replicate, if◌then◌else◌, nat_lt}
use Rattle.std.proofs.Common.{◌≡◌, ℕ, zero, suc, ◌+◌, ◌<◌, ◌≤◌, ℤ, pos, Bool, true, List, [], ◌∷◌, length, map, get_or, drop, Option, Some, None, refl, sym, ap, ◌∙◌, arith}
use Rattle.std.specs.List.{All}
use Rattle.std.proofs.lemmas.Bool.{and_parts, ltb-true}
use Rattle.std.proofs.lemmas.List.Elements.{All-head, All-tail, All-nil, All-cons}
use Rattle.ts_base.specs.declared.values.Val.{Val}
use Rattle.ts_base.specs.declared.values.Val.TheVariants.{Null}
use Rattle.ts_domain.specs.declared.dims.Dim.{Dim}
use Rattle.ts_schema.specs.declared.attrs.Attr.{Attr}
use Rattle.ts_schema.specs.declared.frames.Frame.{Frame}
use Rattle.ts_wire.specs.Exact.{EachFits}
use Rattle.ts_plain.specs.declared.stored.StoredHead.{StoredHead}
use Rattle.ts_plain.specs.declared.stored.StoredCell.{StoredCell}
use Rattle.ts_plain.specs.Rules.{coords_rise, origin_rises}
use Rattle.ts_sparse.specs.Sparse.{origin_column}
use Rattle.ts_sparse.specs.Cuts.{MayFollow, Rise}
use Rattle.ts_sparse_read.specs.Faults.{Fault, Ranged}
use Rattle.ts_sparse_read.specs.TileReads.{put_before, rows_in, cells_from, is_among, order_fault, coords_fault, origin_fault}
use Rattle.ts_sparse_read.specs.Blanks.{blanked_row, blanked}

-- ---- columns as rows

-- what each of these functions gives of each cell
abbrev pub columns_by : {X : Type 0} → List (StoredCell → X) → List StoredCell → List (List X)
columns_by fs tile = map (λ f. map f tile) fs

-- what they give of one cell
abbrev pub row_by : {X : Type 0} → List (StoredCell → X) → StoredCell → List X
row_by fs c = map (λ f. f c) fs

no_columns : {X : Type 0} (tile : List StoredCell) → replicate {A = List X} (length tile) [] ≡ map (λ c. []) tile
no_columns [] = refl
no_columns (c ∷ tile) = ap (λ more. [] ∷ more) (no_columns tile)

one_before : {X : Type 0} (f : StoredCell → X) (r : StoredCell → List X) (tile : List StoredCell) → put_before (map f tile) (map r tile) ≡ map (λ c. f c ∷ r c) tile
one_before f r [] = refl
one_before f r (c ∷ tile) = ap (λ more. (f c ∷ r c) ∷ more) (one_before f r tile)

-- the rows of columns are what the functions give of each cell
pub rows_by : {X : Type 0} (fs : List (StoredCell → X)) (tile : List StoredCell) → rows_in (length tile) (columns_by fs tile) ≡ map (row_by fs) tile
rows_by [] tile = no_columns tile
rows_by (f ∷ fs) tile = ap (put_before (map f tile)) (rows_by fs tile) ∙ one_before f (row_by fs) tile

-- the coordinates along the dimensions from the k-th on
abbrev pub coord_functions : ℕ → List Dim → List (StoredCell → ℤ)
coord_functions k [] = []
coord_functions k (d ∷ dims) = (λ c. get_or c.coords k (pos 0)) ∷ coord_functions (suc k) dims

-- the values of the attributes from the k-th on
abbrev pub value_functions : List ℕ → ℕ → List Attr → List (StoredCell → Val)
value_functions places k [] = []
value_functions places k (a ∷ attrs) = (λ c. if is_among places k then get_or c.row k Null else Null) ∷ value_functions places (suc k) attrs

values_there : (places : List ℕ) (k : ℕ) (attrs : List Attr) (c : StoredCell) → row_by (value_functions places k attrs) c ≡ blanked_row places k attrs c.row
values_there places k [] c = refl
values_there places k (a ∷ attrs) c = ap (λ more. (if is_among places k then get_or c.row k Null else Null) ∷ more) (values_there places (suc k) attrs c)

-- each coordinate is in its place
get_drop : {X : Type 0} (k : ℕ) (xs : List X) (d : X) → k < length xs → drop k xs ≡ get_or xs k d ∷ drop (suc k) xs
get_drop k [] d within = absurd (omega arith)
get_drop zero (x ∷ xs) d within = refl
get_drop (suc k) (x ∷ xs) d within = get_drop k xs d (omega arith)

past_drop : {X : Type 0} (k : ℕ) (xs : List X) → length xs ≤ k → drop k xs ≡ []
past_drop zero [] past = refl
past_drop (suc k) [] past = refl
past_drop zero (x ∷ xs) past = absurd (omega arith)
past_drop (suc k) (x ∷ xs) past = past_drop k xs (omega arith)

row_there : (k : ℕ) (dims : List Dim) (c : StoredCell) → length c.coords ≡ k + length dims → row_by (coord_functions k dims) c ≡ drop k c.coords
row_there k [] c long = sym (past_drop k c.coords (omega arith))
row_there k (d ∷ dims) c long = ap (λ more. get_or c.coords k (pos 0) ∷ more) (row_there (suc k) dims c (omega arith)) ∙ sym (get_drop k c.coords (pos 0) (omega arith))

-- the cells of a tile
pub cells_back : (dims : List Dim) (attrs : List Attr) (places : List ℕ) (tile : List StoredCell) → All (λ c. length c.coords ≡ length dims) tile
    → cells_from (map (row_by (coord_functions 0 dims)) tile) (origin_column tile) (map (row_by (value_functions places 0 attrs)) tile) ≡ map (blanked attrs places) tile
cells_back dims attrs places [] long = refl
cells_back dims attrs places (c ∷ tile) long =
    let coords = row_there 0 dims c (All-head (λ c. length c.coords ≡ length dims) c tile long ∙ omega arith) in
    let row = values_there places 0 attrs c in
    let others = cells_back dims attrs places tile (All-tail (λ c. length c.coords ≡ length dims) c tile long) in
    λ i. record { coords = coords i; origin = c.origin; row = row i } ∷ others i

-- ---- what fits at a place

-- what fits from a place on
pub each_there : {D A : Type 0} (F : D → A → Type 0) (d : D) (ds : List D) (k : ℕ) (xs : List A) (e : A) → EachFits F (d ∷ ds) (drop k xs) → (k < length xs) × F d (get_or xs k e) × EachFits F ds (drop (suc k) xs)
each_there F d ds zero [] e fits = absurd fits
each_there F d ds zero (x ∷ xs) e fits = (omega arith, fits.0, fits.1)
each_there F d ds (suc k) [] e fits = absurd fits
each_there F d ds (suc k) (x ∷ xs) e fits = let there = each_there F d ds k xs e fits in (omega arith, there.1, there.2)

-- ---- order

module _ (frame : Frame) (head : StoredHead) (attrs : List Attr) (places : List ℕ) (ranges : List Ranged) where
  follows : (before : Option StoredCell) (c : StoredCell) (place : ℕ) (consolidated : Bool) (rest : Option Fault) → MayFollow frame head before c
      → (if coords_rise frame before c.coords then (if origin_rises frame.dense before c.coords c.origin then rest else Some (origin_fault frame consolidated ranges place)) else Some (coords_fault frame ranges place)) ≡ rest
  follows before c place consolidated rest may =
      let rises : coords_rise frame before c.coords ≡ true = may.rises in
      let known : origin_rises frame.dense before c.coords c.origin ≡ true = (and_parts (nat_lt c.origin (length head.origins)) (origin_rises frame.dense before c.coords c.origin) may.known).1 in
      rw (rises, known) refl

  -- what is read of cells that rise does so too
  order_behind : (b : StoredCell) (cells : List StoredCell) (place : ℕ) (consolidated : Bool) → Rise frame head (Some b) cells
      → order_fault frame consolidated ranges place (Some (blanked attrs places b)) (map (blanked attrs places) cells) ≡ None
  order_behind b [] place consolidated rise = refl
  order_behind b (c ∷ cells) place consolidated rise =
      follows (Some b) c place consolidated (order_fault frame consolidated ranges (suc place) (Some (blanked attrs places c)) (map (blanked attrs places) cells)) rise.0 ∙ order_behind c cells (suc place) consolidated rise.1

  -- also behind another cell
  pub order_kept : (before : Option StoredCell) (cells : List StoredCell) (place : ℕ) (consolidated : Bool) → Rise frame head before cells
      → order_fault frame consolidated ranges place before (map (blanked attrs places) cells) ≡ None
  order_kept before [] place consolidated rise = refl
  order_kept before (c ∷ cells) place consolidated rise =
      follows before c place consolidated (order_fault frame consolidated ranges (suc place) (Some (blanked attrs places c)) (map (blanked attrs places) cells)) rise.0 ∙ order_behind c cells (suc place) consolidated rise.1

-- each cell is of a write that is known
pub origins_known : (frame : Frame) (head : StoredHead) (before : Option StoredCell) (cells : List StoredCell) → Rise frame head before cells → All (λ i. i < length head.origins) (origin_column cells)
origins_known frame head before [] rise = All-nil (λ i. i < length head.origins)
origins_known frame head before (c ∷ cells) rise =
    let known = (and_parts (nat_lt c.origin (length head.origins)) (origin_rises frame.dense before c.coords c.origin) (rise.0).known).0 in
    All-cons (λ i. i < length head.origins) c.origin (origin_column cells) (ltb-true c.origin (length head.origins) known) (origins_known frame head (Some c) cells rise.1)
