-- Cells that ascend as they stand: in a layout, and in global order, they stay as they are.
use Rattle.std.proofs.Common.{◌≡◌, ℕ, zero, suc, ◌+◌, ◌-◌, ◌<◌, ◌≤◌, ℤ, List, [], ◌∷◌, map, length, get_or, sym, ap, ◌∙◌, refl, subst, arith}
use Rattle.std.specs.Prelude.{filter}
use Rattle.std.specs.declared.cmp.Ordering.{Ordering}
use Rattle.std.specs.declared.cmp.Ordering.TheVariants.{Less}
use Rattle.std.specs.Ordering.{on}
use Rattle.std.specs.Cmp.{IsTotalOrder}
use Rattle.std.specs.List.{AllByRecursion, AllAdjacentBelow}
use Rattle.std.specs.List.Sorted.{IsStrictlySortedBy}
use Rattle.std.proofs.lemmas.Cmp.{on_total}
use Rattle.std.proofs.lemmas.List.{get_or_default}
use Rattle.std.proofs.lemmas.List.Kept.{IsStrictlySortedBy-filter}
use Rattle.std.proofs.lemmas.Map.Keys.{sorted_from_all_adjacent}
use Rattle.ts_base.specs.declared.heads.Cell.{Cell}
use Rattle.ts_base.specs.declared.values.Val.{Val}
use Rattle.ts_domain.specs.declared.orders.Layout.{Layout}
use Rattle.ts_order.proofs.OrderLemmas.{global_total}
use Rattle.ts_schema.specs.declared.attrs.Attr.{Attr}
use Rattle.ts_schema.specs.declared.frames.Frame.{Frame}
use Rattle.ts_store.proofs.Trees.{entries-tree}
use Rattle.ts_model.specs.declared.queries.Ready.{Ready}
use Rattle.ts_model.specs.declared.queries.Shown.{Shown}
use Rattle.ts_model.specs.Commands.{global_order, in_global_order}
use Rattle.ts_model.specs.Queries.{layout_cmp, in_layout, items_at, fields_of, passes, selected}
use Rattle.ts_model.specs.Selections.{placed, picks_in, passes_by}
use Rattle.ts_model.proofs.Selected.{layout_total, passes-picked}

-- ---- lists that ascend

-- each item and the next ascend, so all do
pub sorted_of_neighbours : {A : Type 0} {R : A → A → Ordering} → IsTotalOrder R → (xs : List A) → AllAdjacentBelow (λ x y. R x y ≡ Less) xs (length xs) → IsStrictlySortedBy R xs
unfolding IsStrictlySortedBy
sorted_of_neighbours total [] up = tt
sorted_of_neighbours total (x ∷ xs) up = sorted_from_all_adjacent total (x ∷ xs) x (λ k below. up k x below)

-- where all ascend each item and the next do
neighbours_of_sorted : {A : Type 0} (R : A → A → Ordering) (xs : List A) → IsStrictlySortedBy R xs → AllAdjacentBelow (λ x y. R x y ≡ Less) xs (length xs)
unfolding IsStrictlySortedBy
neighbours_of_sorted R [] sorted k d below = absurd (omega arith)
neighbours_of_sorted R (x ∷ []) sorted k d below = absurd (omega arith)
neighbours_of_sorted R (x ∷ y ∷ ys) sorted zero d below = sorted.0.0
neighbours_of_sorted R (x ∷ y ∷ ys) sorted (suc k) d below =
    subst (λ n. R (get_or (y ∷ ys) k d) (get_or (x ∷ y ∷ ys) n d) ≡ Less) {x = suc (k + 1)} {y = suc k + 1} (omega arith) (neighbours_of_sorted R (y ∷ ys) sorted.1 k d (omega arith))

-- where all ascend an item comes before the one that is found at the next place
pub before_next : {A : Type 0} (R : A → A → Ordering) (xs : List A) → IsStrictlySortedBy R xs → (place : ℕ) (x y : A) → 1 ≤ place → place < length xs → x ≡ get_or xs (place - 1) x → y ≡ get_or xs place y → R x y ≡ Less
before_next R xs sorted place x y some inside is_x is_y =
    let next : place ≡ place - 1 + 1 = omega arith in
    let later = is_y ∙ get_or_default xs place y x inside ∙ ap (λ n. get_or xs n x) next in
    (λ i. R (is_x i) (later i)) ∙ neighbours_of_sorted R xs sorted (place - 1) x (omega arith)

-- what holds of the image of each holds of each image
all_images : {A B : Type 0} (f : A → B) (P : B → Type 0) (xs : List A) → AllByRecursion (λ x. P (f x)) xs → AllByRecursion P (map f xs)
all_images f P [] all = tt
all_images f P (x ∷ xs) all = (all.0, all_images f P xs all.1)

-- items whose images ascend have images that ascend
sorted_images : {A B : Type 0} (f : A → B) (R : B → B → Ordering) (xs : List A) → IsStrictlySortedBy (on f R) xs → IsStrictlySortedBy R (map f xs)
unfolding IsStrictlySortedBy
sorted_images f R [] sorted = tt
sorted_images f R (x ∷ xs) sorted = (all_images f (λ y. R (f x) y ≡ Less) xs sorted.0, sorted_images f R xs sorted.1)

-- ---- in global order

-- the cells of entries of cells are those cells
cells_back : (cells : List Cell) → map (λ (e : List ℤ × Cell). e.1) (map (λ (cell : Cell). (cell.coords, cell)) cells) ≡ cells
cells_back [] = refl
cells_back (cell ∷ cells) = ap (λ xs. cell ∷ xs) (cells_back cells)

-- cells by their coordinates stand to one another in a total order
pub global_cells_total : (frame : Frame) → IsTotalOrder (λ (a b : Cell). global_order frame a.coords b.coords)
global_cells_total frame = on_total (λ (cell : Cell). cell.coords) (global_total frame.domain frame.tile frame.cell)

-- cells that ascend in global order are in global order as they stand
pub in_global_order_same : (frame : Frame) (cells : List Cell) → IsStrictlySortedBy (λ (a b : Cell). global_order frame a.coords b.coords) cells → in_global_order frame cells ≡ cells
unfolding in_global_order
in_global_order_same frame cells sorted =
    let entry : Cell → List ℤ × Cell = λ (cell : Cell). (cell.coords, cell) in
    let keys = sorted_images (λ (e : List ℤ × Cell). e.0) (global_order frame) (map entry cells) (sorted_images entry (on (λ (e : List ℤ × Cell). e.0) (global_order frame)) cells sorted) in
    ap (map (λ e. e.1)) (entries-tree (global_total frame.domain frame.tile frame.cell) (map entry cells) keys) ∙ cells_back cells

-- ---- in a layout

-- cells by their coordinates stand to one another in a total order
pub shown_total : (frame : Frame) (l : Layout) → IsTotalOrder (λ (a b : Shown). layout_cmp frame l a.coords b.coords)
shown_total frame l = on_total (λ (cell : Shown). cell.coords) (layout_total frame l)

-- cells that ascend in a layout are in the layout as they stand
in_layout_same : (frame : Frame) (l : Layout) (es : List (List ℤ × List Val)) → IsStrictlySortedBy (on (λ (e : List ℤ × List Val). e.0) (layout_cmp frame l)) es → in_layout frame l es ≡ es
unfolding in_layout
in_layout_same frame l es sorted = entries-tree (layout_total frame l) es (sorted_images (λ (e : List ℤ × List Val). e.0) (layout_cmp frame l) es sorted)

-- of cells that ascend in the layout the rows of those that pass are those that are selected
pub rows_passing : (frame : Frame) (attrs : List Attr) (ready : Ready) (cells : List Shown) → IsStrictlySortedBy (λ (a b : Shown). layout_cmp frame ready.layout a.coords b.coords) cells
    → map (λ e. items_at ready.fields (fields_of e)) (filter (λ e. passes_by (picks_in attrs ready.filter) ready.filter e.0 e.1) (map placed cells)) ≡ selected frame attrs ready (map placed cells)
rows_passing frame attrs ready cells sorted =
    let by_place = on (λ (e : List ℤ × List Val). e.0) (layout_cmp frame ready.layout) in
    let passing = λ (e : List ℤ × List Val). passes ready.filter attrs e.0 e.1 in
    let same : ◌≡◌ (λ (e : List ℤ × List Val). passes_by (picks_in attrs ready.filter) ready.filter e.0 e.1) passing = λ i e. passes-picked attrs ready.filter e.0 e.1 i in
    let left = IsStrictlySortedBy-filter by_place passing (map placed cells) (sorted_images placed by_place cells sorted) in
    ap (map (λ e. items_at ready.fields (fields_of e))) (ap (λ p. filter p (map placed cells)) same ∙ sym (in_layout_same frame ready.layout (filter passing (map placed cells)) left))
