-- The cells that a query selects: places by where their cells stand in the layout, and the cells themselves by their coordinates.
use Rattle.std.proofs.Common.{◌≡◌, ℕ, ◌<◌, ℤ, Bool, true, false, if◌then◌else◌, List, [], ◌∷◌, map, length, refl, sym, ap, ◌∙◌, subst}
use Rattle.std.specs.Prelude.{All, filter}
use Rattle.std.specs.declared.cmp.Ordering.{Ordering}
use Rattle.std.specs.declared.cmp.Ordering.TheVariants.{Less, Equal, Greater}
use Rattle.std.specs.Ordering.{match_ordering}
use Rattle.std.specs.List.{AllByRecursion, range_with_len}
use Rattle.std.specs.BTreeMap.{insert_entry}
use Rattle.std.specs.FinMap.Entries.{by_order}
use Rattle.std.specs.FinMap.{entries, from_entries, empty, put, entries-insert, len-entries, len-empty}
use Rattle.std.proofs.lemmas.List.{nil_from_length}
use Rattle.std.proofs.lemmas.List.Elements.{All-map, All-from_recursion, recursion_from_All}
use Rattle.ts_base.specs.declared.heads.Version.{Version}
use Rattle.ts_base.specs.declared.values.Val.{Val}
use Rattle.ts_domain.specs.declared.orders.Layout.{Layout}
use Rattle.ts_domain.specs.declared.orders.Layout.TheVariants as layout
use Rattle.ts_schema.specs.declared.attrs.Attr.{Attr}
use Rattle.ts_schema.specs.declared.frames.Frame.{Frame}
use Rattle.ts_model.specs.declared.places.GlobalPlace.{GlobalPlace}
use Rattle.ts_model.specs.declared.queries.Ready.{Ready}
use Rattle.ts_model.specs.Places.{place_in, place_cmp}
use Rattle.ts_model.specs.Queries.{passes, layout_cmp, in_layout}
use Rattle.ts_model.specs.Selections.{picks_in}
use Rattle.ts_model.proofs.Selected.{layout_total, layout_exact, passes-picked}
use Rattle.ts_table.specs.Tables.{version_or}
use Rattle.ts_select.specs.Cells.{cell_of, cell_at}
use Rattle.ts_select.specs.Places.{passes_at, placed_behind}
use Rattle.ts_select.proofs.Ranges.{all_cells, range_within}

-- places compare as coordinates do in the layout
place_cmp-layout : (frame : Frame) (l : Layout) (a b : List ℤ) → place_cmp (place_in frame l a) (place_in frame l b) ≡ layout_cmp frame l a b
place_cmp-layout frame layout.Row a b = refl
place_cmp-layout frame layout.Col a b = refl
place_cmp-layout frame layout.Global a b = refl

module _ (frame : Frame) (l : Layout) (versions : List Version) where
  -- the coordinates of the version at a place
  abbrev at : ℕ → List ℤ
  at place = (version_or versions place).coords

  -- the cell of an entry
  abbrev seen : GlobalPlace × ℕ → List ℤ × List Val
  seen e = cell_at versions e.1

  -- the key is where the cell stands in the layout
  abbrev IsThere : GlobalPlace × ℕ → Type 0
  IsThere e = e.0 ≡ place_in frame l (at e.1)

  -- what comes of one more place, by how its cell compares with the first that is there
  abbrev at_front : Ordering → ℕ → GlobalPlace × ℕ → List (GlobalPlace × ℕ) → List (GlobalPlace × ℕ)
  at_front r place e es = match_ordering r ((place_in frame l (at place), place) ∷ e ∷ es) ((e.0, place) ∷ es) (e ∷ insert_entry place_cmp es (place_in frame l (at place)) place)

  -- one more cell compares with the first that is there as its coordinates do
  compared : (place : ℕ) (e : GlobalPlace × ℕ) → IsThere e → place_cmp (place_in frame l (at place)) e.0 ≡ layout_cmp frame l (at place) (at e.1)
  compared place e there = ap (place_cmp (place_in frame l (at place))) there ∙ place_cmp-layout frame l (at place) (at e.1)

  -- to put a place in is to put its cell in
  insert_seen : (place : ℕ) (es : List (GlobalPlace × ℕ)) → AllByRecursion IsThere es
      → map seen (insert_entry place_cmp es (place_in frame l (at place)) place) ≡ put (layout_cmp frame l) (at place) (version_or versions place).row (map seen es)
  insert_seen place [] there = refl
  insert_seen place (e ∷ es) there =
      ap (λ r. map seen (at_front r place e es)) (compared place e there.0)
      ∙ elim (layout_cmp frame l (at place) (at e.1)) as (λ r. layout_cmp frame l (at place) (at e.1) ≡ r → map seen (at_front r place e es)
      ≡ by_order r (cell_at versions place ∷ seen e ∷ map seen es) ((at e.1, (version_or versions place).row) ∷ map seen es) (seen e ∷ put (layout_cmp frame l) (at place) (version_or versions place).row (map seen es))) [
        | Less ↦ λ tie. refl
        | Equal ↦ λ tie. ap (λ c. (c, (version_or versions place).row) ∷ map seen es) (layout_exact frame l (at place) (at e.1) tie)
        | Greater ↦ λ tie. ap (λ xs. seen e ∷ xs) (insert_seen place es there.1)
      ] refl

  -- and it stands where it belongs
  insert_there : (place : ℕ) (es : List (GlobalPlace × ℕ)) → AllByRecursion IsThere es → AllByRecursion IsThere (insert_entry place_cmp es (place_in frame l (at place)) place)
  insert_there place [] there = (refl, tt)
  insert_there place (e ∷ es) there =
      subst (λ r. AllByRecursion IsThere (at_front r place e es)) (sym (compared place e there.0))
      (elim (layout_cmp frame l (at place) (at e.1)) as (λ r. layout_cmp frame l (at place) (at e.1) ≡ r → AllByRecursion IsThere (at_front r place e es)) [
        | Less ↦ λ tie. (refl, there)
        | Equal ↦ λ tie. (there.0 ∙ ap (place_in frame l) (sym (layout_exact frame l (at place) (at e.1) tie)), there.1)
        | Greater ↦ λ tie. (there.0, insert_there place es there.1)
      ] refl)

-- what holds of each place holds when one more is put in of which it holds
insert_all : (P : ℕ → Type 0) (key : GlobalPlace) (place : ℕ) (es : List (GlobalPlace × ℕ)) → P place → AllByRecursion (λ (e : GlobalPlace × ℕ). P e.1) es
    → AllByRecursion (λ (e : GlobalPlace × ℕ). P e.1) (insert_entry place_cmp es key place)
insert_all P key place [] one all = (one, tt)
insert_all P key place (e ∷ es) one all =
    elim (place_cmp key e.0) as (λ r. AllByRecursion (λ (e : GlobalPlace × ℕ). P e.1) (match_ordering r ((key, place) ∷ e ∷ es) ((e.0, place) ∷ es) (e ∷ insert_entry place_cmp es key place))) [
      | Less ↦ (one, all)
      | Equal ↦ (one, all.1)
      | Greater ↦ (all.0, insert_all P key place es one all.1)
    ]

module _ (frame : Frame) (attrs : List Attr) (ready : Ready) (versions : List Version) where
  -- the entries of these places
  abbrev all_placed : List ℕ → List (GlobalPlace × ℕ)
  all_placed places = placed_behind frame ready (picks_in attrs ready.filter) versions places

  -- a cell passes the filter
  abbrev passing : List ℤ × List Val → Bool
  passing e = passes ready.filter attrs e.0 e.1

  -- each key is where its cell stands in the layout
  all_there : (places : List ℕ) → AllByRecursion (IsThere frame ready.layout versions) (all_placed places)
  all_there [] = tt
  all_there (place ∷ places) = by_test (passes_at (picks_in attrs ready.filter) ready.filter versions place) (all_there places)
    where
      by_test : (t : Bool) → AllByRecursion (IsThere frame ready.layout versions) (all_placed places)
          → AllByRecursion (IsThere frame ready.layout versions) (if t then insert_entry place_cmp (all_placed places) (place_in frame ready.layout (version_or versions place).coords) place else all_placed places)
      by_test true there = insert_there frame ready.layout versions place (all_placed places) there
      by_test false there = there

  -- each place is one of these
  all_within : (P : ℕ → Type 0) (places : List ℕ) → AllByRecursion P places → AllByRecursion (λ (e : GlobalPlace × ℕ). P e.1) (all_placed places)
  all_within P [] each = tt
  all_within P (place ∷ places) each = by_test (passes_at (picks_in attrs ready.filter) ready.filter versions place) (all_within P places each.1)
    where
      by_test : (t : Bool) → AllByRecursion (λ (e : GlobalPlace × ℕ). P e.1) (all_placed places)
          → AllByRecursion (λ (e : GlobalPlace × ℕ). P e.1) (if t then insert_entry place_cmp (all_placed places) (place_in frame ready.layout (version_or versions place).coords) place else all_placed places)
      by_test true all = insert_all P (place_in frame ready.layout (version_or versions place).coords) place (all_placed places) each.0 all
      by_test false all = all

  -- they are those that pass, in the layout
  placed_seen : (places : List ℕ) → map (seen frame ready.layout versions) (all_placed places) ≡ in_layout frame ready.layout (filter passing (map (cell_at versions) places))
  unfolding in_layout
  placed_seen [] = sym (nil_from_length (entries (empty {X = List Val} {R = layout_cmp frame ready.layout})) (sym (len-entries (empty {X = List Val} {R = layout_cmp frame ready.layout})) ∙ len-empty (layout_cmp frame ready.layout) (List Val)))
  placed_seen (place ∷ places) =
      ap (λ t. map (seen frame ready.layout versions) (if t then insert_entry place_cmp (all_placed places) (place_in frame ready.layout (version_or versions place).coords) place else all_placed places))
      (passes-picked attrs ready.filter (version_or versions place).coords (version_or versions place).row)
      ∙ by_test (passing (cell_at versions place)) (placed_seen places)
    where
      by_test : (t : Bool) → map (seen frame ready.layout versions) (all_placed places) ≡ entries (from_entries {R = layout_cmp frame ready.layout} (filter passing (map (cell_at versions) places)))
          → map (seen frame ready.layout versions) (if t then insert_entry place_cmp (all_placed places) (place_in frame ready.layout (version_or versions place).coords) place else all_placed places)
          ≡ entries (from_entries {R = layout_cmp frame ready.layout} (if t then cell_at versions place ∷ filter passing (map (cell_at versions) places) else filter passing (map (cell_at versions) places)))
      by_test true later =
          insert_seen frame ready.layout versions place (all_placed places) (all_there places)
          ∙ ap (put (layout_cmp frame ready.layout) (version_or versions place).coords (version_or versions place).row) later
          ∙ sym (entries-insert (layout_total frame ready.layout) (from_entries {R = layout_cmp frame ready.layout} (filter passing (map (cell_at versions) places))) (version_or versions place).coords (version_or versions place).row)
      by_test false later = later

  -- the places of entries have the cells of the entries
  cells_seen : (es : List (GlobalPlace × ℕ)) → map (cell_at versions) (map (λ (e : GlobalPlace × ℕ). e.1) es) ≡ map (seen frame ready.layout versions) es
  cells_seen [] = refl
  cells_seen (e ∷ es) = ap (λ cells. cell_at versions e.1 ∷ cells) (cells_seen es)

  -- the cells of all places that are put in are those that are selected
  pub cells_placed : map (cell_at versions) (map (λ (e : GlobalPlace × ℕ). e.1) (all_placed (range_with_len 0 (length versions))))
      ≡ in_layout frame ready.layout (filter passing (map cell_of versions))
  cells_placed =
      cells_seen (all_placed (range_with_len 0 (length versions))) ∙ placed_seen (range_with_len 0 (length versions))
      ∙ ap (λ cells. in_layout frame ready.layout (filter passing cells)) (all_cells versions)

  -- and the places lie within the list
  pub places_within : All (λ place. place < length versions) (map (λ (e : GlobalPlace × ℕ). e.1) (all_placed (range_with_len 0 (length versions))))
  places_within =
      let within : ℕ → Type 0 = λ place. place < length versions in
      All-map within (λ (e : GlobalPlace × ℕ). e.1) (all_placed (range_with_len 0 (length versions)))
      (All-from_recursion (λ (e : GlobalPlace × ℕ). within e.1) (all_placed (range_with_len 0 (length versions)))
      (all_within within (range_with_len 0 (length versions)) (recursion_from_All within (range_with_len 0 (length versions)) (range_within (length versions)))))
