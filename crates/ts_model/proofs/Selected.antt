-- The rows that a query selects: cells by their places, and the same cells by their coordinates in the layout.
use Rattle.std.proofs.Common.{◌≡◌, ℤ, Bool, true, false, if◌then◌else◌, List, [], ◌∷◌, ◌++◌, map, Option, Some, None, refl, sym, ap, ◌∙◌, subst, arith}
use Rattle.std.specs.Prelude.{filter}
use Rattle.std.specs.declared.cmp.Ordering.{Ordering}
use Rattle.std.specs.declared.cmp.Ordering.TheVariants.{Less, Equal, Greater}
use Rattle.std.specs.Ordering.{match_ordering}
use Rattle.std.specs.Cmp.{IsTotalOrder}
use Rattle.std.specs.List.{All, AllByRecursion}
use Rattle.std.specs.BTreeMap.{insert_entry}
use Rattle.std.specs.FinMap.Entries.{by_order}
use Rattle.std.specs.FinMap.{entries, from_entries, empty, put, entries-insert, len-entries, len-empty}
use Rattle.std.proofs.lemmas.List.{get_or_append_left, length_push, nil_from_length}
use Rattle.ts_base.specs.declared.values.Val.{Val}
use Rattle.ts_cond.specs.declared.fields.Pick.{Pick}
use Rattle.ts_cond.specs.Tests.{Condition}
use Rattle.ts_cond.proofs.PickLemmas.{holds_as_picked}
use Rattle.ts_domain.specs.declared.orders.Layout.{Layout}
use Rattle.ts_domain.specs.declared.orders.Layout.TheVariants as layout
use Rattle.ts_domain.specs.declared.orders.Order.TheVariants as order
use Rattle.ts_order.proofs.OrderLemmas.{order_total, global_total, order_cmp-exact, global_cmp-exact}
use Rattle.ts_schema.specs.declared.attrs.Attr.{Attr}
use Rattle.ts_schema.specs.declared.frames.Frame.{Frame}
use Rattle.ts_model.specs.declared.places.GlobalPlace.{GlobalPlace}
use Rattle.ts_model.specs.declared.queries.Ready.{Ready}
use Rattle.ts_model.specs.declared.queries.Shown.{Shown}
use Rattle.ts_model.specs.Places.{place_in, place_cmp}
use Rattle.ts_model.specs.Queries.{attr_fields, passes, layout_cmp, in_layout, items_at, fields_of, selected}
use Rattle.ts_model.specs.Selections.{placed, picks_in, passes_by, placed_behind}

-- ---- places compare as coordinates do in the layout

place_cmp-layout : (frame : Frame) (l : Layout) (a b : List ℤ) → place_cmp (place_in frame l a) (place_in frame l b) ≡ layout_cmp frame l a b
place_cmp-layout frame layout.Row a b = refl
place_cmp-layout frame layout.Col a b = refl
place_cmp-layout frame layout.Global a b = refl

pub layout_total : (frame : Frame) (l : Layout) → IsTotalOrder (layout_cmp frame l)
layout_total frame layout.Row = order_total order.Row
layout_total frame layout.Col = order_total order.Col
layout_total frame layout.Global = global_total frame.domain frame.tile frame.cell

pub layout_exact : (frame : Frame) (l : Layout) (a b : List ℤ) → layout_cmp frame l a b ≡ Equal → a ≡ b
layout_exact frame layout.Row a b tie = order_cmp-exact order.Row a b tie
layout_exact frame layout.Col a b tie = order_cmp-exact order.Col a b tie
layout_exact frame layout.Global a b tie = global_cmp-exact frame.domain frame.tile frame.cell a b tie

-- ---- cells are placed

-- the last cell is put in first
placed_last : (frame : Frame) (ready : Ready) (picks : List Pick) (cells : List Shown) (cell : Shown) (es : List (GlobalPlace × Shown))
    → placed_behind frame ready picks (cells ++ cell ∷ []) es ≡ placed_behind frame ready picks cells (placed_behind frame ready picks (cell ∷ []) es)
placed_last frame ready picks [] cell es = refl
placed_last frame ready picks (x ∷ cells) cell es =
    ap (λ ys. if passes_by picks ready.filter x.coords x.row then insert_entry place_cmp ys (place_in frame ready.layout x.coords) x else ys) (placed_last frame ready picks cells cell es)

-- one cell more is placed, or does not pass: the last of those that were left
pub placed_more : (frame : Frame) (ready : Ready) (picks : List Pick) (whole left kept : List Shown) (cell : Shown) (es more : List (GlobalPlace × Shown)) → whole ≡ left ++ cell ∷ []
    → more ≡ placed_behind frame ready picks (cell ∷ []) es → placed_behind frame ready picks whole es ≡ placed_behind frame ready picks kept [] → placed_behind frame ready picks left more ≡ placed_behind frame ready picks kept []
placed_more frame ready picks whole left kept cell es more splits made was =
    ap (placed_behind frame ready picks left) made ∙ sym (placed_last frame ready picks left cell es) ∙ ap (λ xs. placed_behind frame ready picks xs es) (sym splits) ∙ was

-- what holds of each of a list and of one more
pub all_but_last : {A : Type 0} (P : A → Type 0) (xs : List A) (x : A) → All P (xs ++ x ∷ []) → All P xs
all_but_last P xs x all = let long = length_push xs x in λ k d lt. subst P (get_or_append_left xs (x ∷ []) d k lt) (all k d (omega (arith, lt, long)))

-- ---- the cells that are placed, in the layout

-- a placed cell as a pair of its coordinates and its row
abbrev seen : GlobalPlace × Shown → List ℤ × List Val
seen e = placed e.1

module _ (frame : Frame) (l : Layout) where
  -- the place is that of the cell
  abbrev IsThere : GlobalPlace × Shown → Type 0
  IsThere e = e.0 ≡ place_in frame l e.1.coords

  -- what comes of one more cell, by how it compares with the first that is there
  abbrev at_front : Ordering → Shown → GlobalPlace × Shown → List (GlobalPlace × Shown) → List (GlobalPlace × Shown)
  at_front r cell e es = match_ordering r ((place_in frame l cell.coords, cell) ∷ e ∷ es) ((e.0, cell) ∷ es) (e ∷ insert_entry place_cmp es (place_in frame l cell.coords) cell)

  -- one more cell compares with the first that is there as its coordinates do
  compared : (cell : Shown) (e : GlobalPlace × Shown) → IsThere e → place_cmp (place_in frame l cell.coords) e.0 ≡ layout_cmp frame l cell.coords e.1.coords
  compared cell e there = ap (place_cmp (place_in frame l cell.coords)) there ∙ place_cmp-layout frame l cell.coords e.1.coords

  -- to put a cell in is the same in both
  insert_seen : (cell : Shown) (es : List (GlobalPlace × Shown)) → AllByRecursion IsThere es
      → map seen (insert_entry place_cmp es (place_in frame l cell.coords) cell) ≡ put (layout_cmp frame l) cell.coords cell.row (map seen es)
  insert_seen cell [] there = refl
  insert_seen cell (e ∷ es) there =
      ap (λ r. map seen (at_front r cell e es)) (compared cell e there.0)
      ∙ elim (layout_cmp frame l cell.coords e.1.coords) as (λ r. layout_cmp frame l cell.coords e.1.coords ≡ r → map seen (at_front r cell e es)
      ≡ by_order r (placed cell ∷ seen e ∷ map seen es) ((e.1.coords, cell.row) ∷ map seen es) (seen e ∷ put (layout_cmp frame l) cell.coords cell.row (map seen es))) [
        | Less ↦ λ tie. refl
        | Equal ↦ λ tie. ap (λ c. (c, cell.row) ∷ map seen es) (layout_exact frame l cell.coords e.1.coords tie)
        | Greater ↦ λ tie. ap (λ xs. seen e ∷ xs) (insert_seen cell es there.1)
      ] refl

  -- and it stands at its place
  insert_there : (cell : Shown) (es : List (GlobalPlace × Shown)) → AllByRecursion IsThere es → AllByRecursion IsThere (insert_entry place_cmp es (place_in frame l cell.coords) cell)
  insert_there cell [] there = (refl, tt)
  insert_there cell (e ∷ es) there =
      subst (λ r. AllByRecursion IsThere (at_front r cell e es)) (sym (compared cell e there.0))
      (elim (layout_cmp frame l cell.coords e.1.coords) as (λ r. layout_cmp frame l cell.coords e.1.coords ≡ r → AllByRecursion IsThere (at_front r cell e es)) [
        | Less ↦ λ tie. (refl, there)
        | Equal ↦ λ tie. (there.0 ∙ ap (place_in frame l) (sym (layout_exact frame l cell.coords e.1.coords tie)), there.1)
        | Greater ↦ λ tie. (there.0, insert_there cell es there.1)
      ] refl)

-- the filter passes the same cells, however it finds its values
pub passes-picked : (attrs : List Attr) (filter : Option Condition) (c : List ℤ) (row : List Val) → passes_by (picks_in attrs filter) filter c row ≡ passes filter attrs c row
passes-picked attrs None c row = refl
passes-picked attrs (Some condition) c row = holds_as_picked condition.fields c (attr_fields attrs) row condition.root

module _ (frame : Frame) (attrs : List Attr) (ready : Ready) where
  -- the cells that are placed
  abbrev all_placed : List Shown → List (GlobalPlace × Shown)
  all_placed cells = placed_behind frame ready (picks_in attrs ready.filter) cells []

  -- a cell passes the filter
  abbrev passing : List ℤ × List Val → Bool
  passing e = passes ready.filter attrs e.0 e.1

  -- each stands at its place
  all_there : (cells : List Shown) → AllByRecursion (IsThere frame ready.layout) (all_placed cells)
  all_there [] = tt
  all_there (cell ∷ cells) = by_test (passes_by (picks_in attrs ready.filter) ready.filter cell.coords cell.row) (all_there cells)
    where
      by_test : (t : Bool) → AllByRecursion (IsThere frame ready.layout) (all_placed cells)
          → AllByRecursion (IsThere frame ready.layout) (if t then insert_entry place_cmp (all_placed cells) (place_in frame ready.layout cell.coords) cell else all_placed cells)
      by_test true there = insert_there frame ready.layout cell (all_placed cells) there
      by_test false there = there

  -- they are those that pass, in the layout
  placed_seen : (cells : List Shown) → map seen (all_placed cells) ≡ in_layout frame ready.layout (filter passing (map placed cells))
  unfolding in_layout
  placed_seen [] = sym (nil_from_length (entries (empty {X = List Val} {R = layout_cmp frame ready.layout})) (sym (len-entries (empty {X = List Val} {R = layout_cmp frame ready.layout})) ∙ len-empty (layout_cmp frame ready.layout) (List Val)))
  placed_seen (cell ∷ cells) =
      ap (λ t. map seen (if t then insert_entry place_cmp (all_placed cells) (place_in frame ready.layout cell.coords) cell else all_placed cells)) (passes-picked attrs ready.filter cell.coords cell.row)
      ∙ by_test (passing (placed cell)) (placed_seen cells)
    where
      by_test : (t : Bool) → map seen (all_placed cells) ≡ entries (from_entries {R = layout_cmp frame ready.layout} (filter passing (map placed cells)))
          → map seen (if t then insert_entry place_cmp (all_placed cells) (place_in frame ready.layout cell.coords) cell else all_placed cells)
          ≡ entries (from_entries {R = layout_cmp frame ready.layout} (if t then placed cell ∷ filter passing (map placed cells) else filter passing (map placed cells)))
      by_test true later =
          insert_seen frame ready.layout cell (all_placed cells) (all_there cells)
          ∙ ap (put (layout_cmp frame ready.layout) cell.coords cell.row) later
          ∙ sym (entries-insert (layout_total frame ready.layout) (from_entries {R = layout_cmp frame ready.layout} (filter passing (map placed cells))) cell.coords cell.row)
      by_test false later = later

  -- the rows of the cells that are placed are those that are selected
  pub rows_selected : (cells : List Shown) → map (λ (e : GlobalPlace × Shown). items_at ready.fields (fields_of (placed e.1))) (all_placed cells) ≡ selected frame attrs ready (map placed cells)
  rows_selected cells = rows_seen (all_placed cells) ∙ ap (map (λ e. items_at ready.fields (fields_of e))) (placed_seen cells)
    where
      rows_seen : (es : List (GlobalPlace × Shown)) → map (λ (e : GlobalPlace × Shown). items_at ready.fields (fields_of (placed e.1))) es ≡ map (λ e. items_at ready.fields (fields_of e)) (map seen es)
      rows_seen [] = refl
      rows_seen (e ∷ es) = ap (λ rs. items_at ready.fields (fields_of (seen e)) ∷ rs) (rows_seen es)
