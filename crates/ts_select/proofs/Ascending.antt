-- Cells that ascend in a layout as they stand.
use Rattle.std.proofs.Common.{◌≡◌, zero, suc, ◌+◌, ℤ, Bool, true, false, Option, None, List, [], ◌∷◌, map, length, get_or, sym, ap, ◌∙◌, refl, subst, arith}
use Rattle.std.specs.Prelude.{cond, filter}
use Rattle.std.specs.declared.cmp.Ordering.{Ordering}
use Rattle.std.specs.declared.cmp.Ordering.TheVariants.{Less}
use Rattle.std.specs.Ordering.{on}
use Rattle.std.specs.Cmp.{IsTotalOrder}
use Rattle.std.specs.List.{AllByRecursion, AllAdjacentBelow, range_with_len}
use Rattle.std.specs.List.Sorted.{IsStrictlySortedBy}
use Rattle.std.proofs.lemmas.Cmp.{on_total}
use Rattle.std.proofs.lemmas.List.Elements.{filter_agree}
use Rattle.std.proofs.lemmas.List.Kept.{IsStrictlySortedBy-filter}
use Rattle.ts_base.specs.declared.heads.Version.{Version}
use Rattle.ts_base.specs.declared.values.Val.{Val}
use Rattle.ts_domain.specs.declared.orders.Layout.{Layout}
use Rattle.ts_cond.specs.Tests.{Condition}
use Rattle.ts_schema.specs.declared.attrs.Attr.{Attr}
use Rattle.ts_schema.specs.declared.frames.Frame.{Frame}
use Rattle.ts_store.proofs.Trees.{entries-tree}
use Rattle.ts_model.specs.declared.queries.Ready.{Ready}
use Rattle.ts_model.specs.Queries.{layout_cmp, in_layout, passes}
use Rattle.ts_model.specs.Selections.{picks_in, passes_by}
use Rattle.ts_model.proofs.Selected.{layout_total, passes-picked}
use Rattle.ts_select.specs.Cells.{cell_of, cell_at}
use Rattle.ts_select.specs.Places.{passes_at}
use Rattle.ts_select.proofs.Ranges.{all_cells, passing_all}

-- versions by their coordinates stand to one another in a total order
pub versions_total : (frame : Frame) (l : Layout) → IsTotalOrder (λ (a b : Version). layout_cmp frame l a.coords b.coords)
versions_total frame l = on_total (λ (v : Version). v.coords) (layout_total frame l)

-- where all ascend each item and the next do
pub neighbours_of_sorted : {A : Type 0} (R : A → A → Ordering) (xs : List A) → IsStrictlySortedBy R xs → AllAdjacentBelow (λ x y. R x y ≡ Less) xs (length xs)
unfolding IsStrictlySortedBy
neighbours_of_sorted R [] sorted k d below = absurd (omega arith)
neighbours_of_sorted R (x ∷ []) sorted k d below = absurd (omega arith)
neighbours_of_sorted R (x ∷ y ∷ ys) sorted zero d below = sorted.0.0
neighbours_of_sorted R (x ∷ y ∷ ys) sorted (suc k) d below =
    subst (λ n. R (get_or (y ∷ ys) k d) (get_or (x ∷ y ∷ ys) n d) ≡ Less) {x = suc (k + 1)} {y = suc k + 1} (omega arith) (neighbours_of_sorted R (y ∷ ys) sorted.1 k d (omega arith))

-- what holds of the image of each holds of each image
all_images : {A B : Type 0} (f : A → B) (P : B → Type 0) (xs : List A) → AllByRecursion (λ x. P (f x)) xs → AllByRecursion P (map f xs)
all_images f P [] all = tt
all_images f P (x ∷ xs) all = (all.0, all_images f P xs all.1)

-- items whose images ascend have images that ascend
pub sorted_images : {A B : Type 0} (f : A → B) (R : B → B → Ordering) (xs : List A) → IsStrictlySortedBy (on f R) xs → IsStrictlySortedBy R (map f xs)
unfolding IsStrictlySortedBy
sorted_images f R [] sorted = tt
sorted_images f R (x ∷ xs) sorted = (all_images f (λ y. R (f x) y ≡ Less) xs sorted.0, sorted_images f R xs sorted.1)

-- cells that ascend in a layout are in the layout as they stand
in_layout_same : (frame : Frame) (l : Layout) (es : List (List ℤ × List Val)) → IsStrictlySortedBy (on (λ (e : List ℤ × List Val). e.0) (layout_cmp frame l)) es → in_layout frame l es ≡ es
unfolding in_layout
in_layout_same frame l es sorted = entries-tree (layout_total frame l) es (sorted_images (λ (e : List ℤ × List Val). e.0) (layout_cmp frame l) es sorted)

-- the images of those that pass are the images that pass
map_filter : {A B : Type 0} (f : A → B) (p : B → Bool) (xs : List A) → map f (filter (λ x. p (f x)) xs) ≡ filter p (map f xs)
map_filter f p [] = refl
map_filter {A} f p (x ∷ xs) = by (p (f x)) (map_filter f p xs)
  where
    by : (t : Bool) → map f (filter (λ x. p (f x)) xs) ≡ filter p (map f xs) → map f (cond t (x ∷ filter (λ x. p (f x)) xs) (filter (λ x. p (f x)) xs)) ≡ cond t (f x ∷ filter p (map f xs)) (filter p (map f xs))
    by true later = ap (λ ys. f x ∷ ys) later
    by false later = later

-- the versions that pass are the cells that pass
pub passing_cells : (attrs : List Attr) (ready : Ready) (versions : List Version) → map (cell_at versions) (filter (passes_at (picks_in attrs ready.filter) ready.filter versions) (range_with_len 0 (length versions)))
    ≡ filter (λ e. passes ready.filter attrs e.0 e.1) (map cell_of versions)
passing_cells attrs ready versions =
    let found = λ (e : List ℤ × List Val). passes_by (picks_in attrs ready.filter) ready.filter e.0 e.1 in
    let passing = λ (e : List ℤ × List Val). passes ready.filter attrs e.0 e.1 in
    map_filter (cell_at versions) found (range_with_len 0 (length versions)) ∙ ap (filter found) (all_cells versions)
    ∙ filter_agree found passing (λ e. passes-picked attrs ready.filter e.0 e.1) (map cell_of versions)

-- of versions that ascend in the layout those that pass are the cells that are selected
pub cells_passing : (frame : Frame) (attrs : List Attr) (ready : Ready) (versions : List Version) → IsStrictlySortedBy (λ (a b : Version). layout_cmp frame ready.layout a.coords b.coords) versions
    → map (cell_at versions) (filter (passes_at (picks_in attrs ready.filter) ready.filter versions) (range_with_len 0 (length versions)))
    ≡ in_layout frame ready.layout (filter (λ e. passes ready.filter attrs e.0 e.1) (map cell_of versions))
cells_passing frame attrs ready versions sorted =
    let by_place = on (λ (e : List ℤ × List Val). e.0) (layout_cmp frame ready.layout) in
    let passing = λ (e : List ℤ × List Val). passes ready.filter attrs e.0 e.1 in
    let left = IsStrictlySortedBy-filter by_place passing (map cell_of versions) (sorted_images cell_of by_place versions sorted) in
    passing_cells attrs ready versions ∙ sym (in_layout_same frame ready.layout (filter passing (map cell_of versions)) left)

-- without a filter all of them are selected
pub cells_all : (frame : Frame) (attrs : List Attr) (ready : Ready) (versions : List Version) → ready.filter ≡ None → IsStrictlySortedBy (λ (a b : Version). layout_cmp frame ready.layout a.coords b.coords) versions
    → map (cell_at versions) (range_with_len 0 (length versions)) ≡ in_layout frame ready.layout (filter (λ e. passes ready.filter attrs e.0 e.1) (map cell_of versions))
cells_all frame attrs ready versions none sorted =
    let range = range_with_len 0 (length versions) in
    let all = subst (λ (f : Option Condition). range ≡ filter (passes_at (picks_in attrs f) f versions) range) (sym none) (passing_all [] versions range refl) in
    ap (map (cell_at versions)) all ∙ cells_passing frame attrs ready versions sorted
