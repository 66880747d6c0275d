-- The same entries in another order, in which they climb, are those of the map that they make.
use Rattle.std.proofs.Common.{◌≡◌, ℕ, cond, inl, inr, List, [], ◌∷◌, map, length, Some, None, Option, refl, sym, ap, ◌∙◌}
use Rattle.std.specs.Prelude.{Contains, ℤ, filter}
use Rattle.std.specs.List.{AllByRecursion, range_with_len}
use Rattle.std.specs.List.Sorted.{IsPermutation, IsStrictlySortedBy}
use Rattle.std.specs.Cmp.{IsTotalOrder}
use Rattle.std.specs.FinMap.{entries, from_entries, find, get-from_entries, same_map}
use Rattle.std.specs.Ordering.{is_eq, is_gt, is_lt, on, ordering_reverse}
use Rattle.std.specs.declared.cmp.Ordering.{Ordering}
use Rattle.std.specs.declared.cmp.Ordering.TheVariants.{Less, Equal, Greater}
use Rattle.std.proofs.lemmas.Bool.{true≢false}
use Rattle.std.proofs.lemmas.Option.{same_Some}
use Rattle.std.proofs.lemmas.List.Sorted.{Contains-permutation, IsPermutation-map, IsPermutation-sym}
use Rattle.std.proofs.lemmas.Cmp.{on_total}
use Rattle.ts_base.specs.declared.heads.Version.{Version}
use Rattle.ts_base.specs.declared.values.Val.{Val}
use Rattle.ts_schema.specs.declared.attrs.Attr.{Attr}
use Rattle.ts_schema.specs.declared.frames.Frame.{Frame}
use Rattle.ts_store.proofs.Trees.{entries-tree}
use Rattle.ts_table.specs.Tables.{version_or}
use Rattle.ts_model.specs.declared.queries.Ready.{Ready}
use Rattle.ts_model.specs.Queries.{layout_cmp, in_layout, passes}
use Rattle.ts_model.specs.Selections.{picks_in}
use Rattle.ts_model.proofs.Ascending.{sorted_of_neighbours}
use Rattle.ts_model.proofs.Selected.{layout_total, layout_exact}
use Rattle.ts_model.proofs.ListLemmas.{Contains-nil, Contains-cons, Contains-here, Contains-there}
use Rattle.ts_select.specs.Cells.{cell_of, cell_at}
use Rattle.ts_select.specs.Places.{passes_at}
use Rattle.ts_select.specs.Sites.{AreInLayout}
use Rattle.ts_select.proofs.Ascending.{sorted_images, passing_cells}

module _ {K X : Type 0} (R : K → K → Ordering) (total : IsTotalOrder R) (exact : (a b : K) → R a b ≡ Equal → a ≡ b) where
  -- how two entries stand
  abbrev by_key : K × X → K × X → Ordering
  by_key = on (λ (e : K × X). e.0) R

  -- a value that is found is that of an entry at this key
  found_there : (q : K) (es : List (K × X)) (x : X) → find R q es ≡ Some x → (e : K × X) × Contains es e × (R q e.0 ≡ Equal) × (e.1 ≡ x)
  found_there q [] x h = cc
  found_there q (f ∷ es) x h = by (R q f.0) refl (found_there q es x) h
    where
      by : (o : Ordering) → R q f.0 ≡ o → (find R q es ≡ Some x → (e : K × X) × Contains es e × (R q e.0 ≡ Equal) × (e.1 ≡ x))
          → cond (is_eq o) (Some f.1) (find R q es) ≡ Some x → (e : K × X) × Contains (f ∷ es) e × (R q e.0 ≡ Equal) × (e.1 ≡ x)
      by Less is rest h = let there = rest h in (there.0, Contains-there f es there.0 there.1, there.2, there.3)
      by Greater is rest h = let there = rest h in (there.0, Contains-there f es there.0 there.1, there.2, there.3)
      by Equal is rest h = (f, Contains-here f es, is, same_Some f.1 x h)

  -- an entry of a list comes after what comes before all of the list
  later : (e : K × X) (es : List (K × X)) (f : K × X) → AllByRecursion (λ g. by_key e g ≡ Less) es → Contains es f → by_key e f ≡ Less
  later e [] f all at = absurd (Contains-nil f at)
  later e (g ∷ es) f all at = elim (Contains-cons g es f at) [ inl same ↦ ap (by_key e) (sym same) ∙ all.0 | inr more ↦ later e es f all.1 more ]

  -- of entries that climb the one at this key is found
  sorted_found : (q : K) (es : List (K × X)) (f : K × X) → IsStrictlySortedBy by_key es → Contains es f → R q f.0 ≡ Equal → find R q es ≡ Some f.1
  unfolding IsStrictlySortedBy
  sorted_found q [] f sorted at tie = absurd (Contains-nil f at)
  sorted_found q (e ∷ es) f sorted at tie = elim (Contains-cons e es f at) [
    | inl same ↦ ap (λ o. cond (is_eq o) (Some e.1) (find R q es)) (ap (λ (g : K × X). R q g.0) same ∙ tie) ∙ ap (λ (g : K × X). Some g.1) same
    | inr more ↦
        let first : R q e.0 ≡ Greater = total.antisymm q e.0 ∙ ap ordering_reverse (ap (R e.0) (exact q f.0 tie) ∙ later e es f sorted.0 more) in
        ap (λ o. cond (is_eq o) (Some e.1) (find R q es)) first ∙ sorted_found q es f sorted.1 more tie
  ]

  -- where an entry is at this key a value is found
  tied_found : (q : K) (es : List (K × X)) (f : K × X) → Contains es f → R q f.0 ≡ Equal → find R q es ≡ None → ⊥
  tied_found q [] f at tie h = Contains-nil f at
  tied_found q (e ∷ es) f at tie h = test (R q e.0) refl (tied_found q es f) h
    where
      test : (o : Ordering) → R q e.0 ≡ o → (Contains es f → R q f.0 ≡ Equal → find R q es ≡ None → ⊥) → cond (is_eq o) (Some e.1) (find R q es) ≡ None → ⊥
      test Equal is rest h = cc
      test Less is rest h = elim (Contains-cons e es f at) [
        | inl same ↦ true≢false (ap is_lt (sym is ∙ ap (λ (g : K × X). R q g.0) same ∙ tie))
        | inr more ↦ rest more tie h
      ]
      test Greater is rest h = elim (Contains-cons e es f at) [
        | inl same ↦ true≢false (ap is_gt (sym is ∙ ap (λ (g : K × X). R q g.0) same ∙ tie))
        | inr more ↦ rest more tie h
      ]

  -- the same entries in another order, in which they climb, are found alike
  found_alike : (es fs : List (K × X)) → IsPermutation es fs → IsStrictlySortedBy by_key fs → (q : K) → find R q es ≡ find R q fs
  found_alike es fs moved sorted q = by (find R q es) (find R q fs) refl refl
    where
      by : (a b : Option X) → find R q es ≡ a → find R q fs ≡ b → find R q es ≡ find R q fs
      by None None g h = g ∙ sym h
      by (Some x) b g h =
          let there = found_there q es x g in
          g ∙ sym (sorted_found q fs there.0 sorted (Contains-permutation es fs there.0 moved there.1) there.2 ∙ ap Some there.3)
      by None (Some y) g h =
          let there = found_there q fs y h in
          absurd (tied_found q es there.0 (Contains-permutation fs es there.0 (IsPermutation-sym es fs moved) there.1) there.2 g)

  pub entries_alike : (es fs : List (K × X)) → IsPermutation es fs → IsStrictlySortedBy by_key fs → entries (from_entries {R = R} es) ≡ fs
  entries_alike es fs moved sorted =
      ap entries (same_map total exact (from_entries {R = R} es) (from_entries {R = R} fs) (λ q.
      get-from_entries total es q ∙ found_alike es fs moved sorted q ∙ sym (get-from_entries total fs q)))
      ∙ entries-tree total fs (sorted_images (λ (e : K × X). e.0) R fs sorted)

-- the versions that pass, sorted in the layout, are the cells that are selected
pub cells_sorted : (frame : Frame) (attrs : List Attr) (ready : Ready) (versions : List Version) (sorted : List ℕ)
    → AreInLayout frame ready.layout versions (filter (passes_at (picks_in attrs ready.filter) ready.filter versions) (range_with_len 0 (length versions))) sorted
    → map (cell_at versions) sorted ≡ in_layout frame ready.layout (filter (λ e. passes ready.filter attrs e.0 e.1) (map cell_of versions))
unfolding in_layout
cells_sorted frame attrs ready versions sorted are =
    let R = layout_cmp frame ready.layout in
    let places = filter (passes_at (picks_in attrs ready.filter) ready.filter versions) (range_with_len 0 (length versions)) in
    let total = layout_total frame ready.layout in
    let by_coords = on (λ (e : List ℤ × List Val). e.0) R in
    let climb = sorted_images (cell_at versions) by_coords sorted (sorted_of_neighbours (on_total (λ (place : ℕ). (version_or versions place).coords) total) sorted are.climb) in
    sym (ap (λ cells. entries (from_entries {R = R} cells)) (sym (passing_cells attrs ready versions))
    ∙ entries_alike R total (layout_exact frame ready.layout) (map (cell_at versions) places) (map (cell_at versions) sorted) (IsPermutation-map (cell_at versions) places sorted are.each) climb)
