-- The cells of a write in global order: none is lost, each is found as before, and they climb.
use Rattle.std.proofs.Common.{◌≡◌, ◌+◌, ℤ, Bool, true, false, not, ◌&&◌, cond, List, [], ◌∷◌, length, map as list_map, Option, Some, None, refl, sym, ap, ◌∙◌, subst, arith}
use Rattle.std.specs.Prelude.{option_map, is_some, T}
use Rattle.std.specs.List.{All, AllByRecursion}
use Rattle.std.specs.declared.cmp.Ordering.{Ordering}
use Rattle.std.specs.declared.cmp.Ordering.TheVariants.{Less, Equal, Greater}
use Rattle.std.specs.Ordering.{is_lt, eq_by_cmp}
use Rattle.std.specs.Cmp.{IsTotalOrder}
use Rattle.std.specs.FinMap as map
use Rattle.std.specs.FinMap.Entries.{by_order, below_all}
use Rattle.std.specs.FinMap.{IsAntisymmetric}
use Rattle.std.proofs.lemmas.Bool.{and_parts, true≢false, cond-false}
use Rattle.std.proofs.lemmas.List.{length-map, nil_from_length}
use Rattle.std.proofs.lemmas.List.Elements.{All-nil, All-cons, All-head, All-tail}
use Rattle.ts_base.specs.declared.heads.Cell.{Cell}
use Rattle.ts_base.specs.declared.heads.Version.{Version}
use Rattle.ts_base.specs.declared.keys.Key.{Key}
use Rattle.ts_base.specs.Coords.{coords_eq}
use Rattle.ts_order.proofs.OrderLemmas.{global_total, global_cmp-exact}
use Rattle.ts_schema.specs.declared.frames.Frame.{Frame}
use Rattle.ts_model.specs.Deeds.{row_at, are_apart}
use Rattle.ts_model.specs.Commands.{global_order, in_global_order, version_in}
use Rattle.ts_model.specs.Pieces.{Climb}
use Rattle.ts_model.proofs.KeyLemmas.{tie_itself, no_tie}
use Rattle.ts_model.proofs.Laying.{coords_decide}

-- ---- a map of cells by their coordinates

-- what holds of each entry and of a new one holds of each when that is put in its place
put_all : {K X : Type 0} {R : K → K → Ordering} → IsAntisymmetric R → (Q : K × X → Type 0) (k : K) (v : X) (es : List (K × X)) → AllByRecursion Q es → Q (k, v) → AllByRecursion Q (map.put R k v es)
put_all exact Q k v [] all new = (new, tt)
put_all {R = R} exact Q k v (e ∷ es) all new =
    elim (R k e.0) as (λ o. R k e.0 ≡ o → AllByRecursion Q (by_order o ((k, v) ∷ e ∷ es) ((e.0, v) ∷ es) (e ∷ map.put R k v es))) [
      | Less ↦ λ p. (new, all)
      | Equal ↦ λ p. (subst (λ x. Q (x, v)) (exact k e.0 p) new, all.1)
      | Greater ↦ λ p. (all.0, put_all exact Q k v es all.1 new)
    ] refl

-- the map of nothing has no entry
entries_empty : {K X : Type 0} (R : K → K → Ordering) → map.entries (map.empty {X = X} {R = R}) ≡ []
entries_empty {X = X} R = nil_from_length (map.entries (map.empty {R = R})) (sym (map.len-entries (map.empty {R = R})) ∙ map.len-empty R X)

-- what holds of each entry of a list holds of each entry of its map
entries_all : {K X : Type 0} {R : K → K → Ordering} → IsTotalOrder R → IsAntisymmetric R → (Q : K × X → Type 0) (es : List (K × X)) → AllByRecursion Q es
    → AllByRecursion Q (map.entries (map.from_entries {R = R} es))
entries_all {R = R} total exact Q [] all = subst (AllByRecursion Q) (sym (entries_empty R)) tt
entries_all {R = R} total exact Q (e ∷ es) all =
    subst (AllByRecursion Q) (sym (map.entries-insert total (map.from_entries {R = R} es) e.0 e.1)) (put_all exact Q e.0 e.1 (map.entries (map.from_entries {R = R} es)) (entries_all total exact Q es all.1) all.0)

-- a cell behind its coordinates
abbrev Entry : Type 0
Entry = List ℤ × Cell

-- the entry of a cell
abbrev entry_of : Cell → Entry
entry_of cell = (cell.coords, cell)

-- the key of the entry is the cell's coordinates
abbrev IsNamed : Entry → Type 0
IsNamed e = e.0 ≡ e.1.coords

-- the cells of entries
abbrev cells_of : List Entry → List Cell
cells_of es = list_map (λ e. e.1) es

-- the entries of cells have their coordinates as keys
entries_named : (cells : List Cell) → AllByRecursion IsNamed (list_map entry_of cells)
entries_named [] = tt
entries_named (cell ∷ cells) = (refl, entries_named cells)

-- the cells of the entries of cells are those cells
cells_back : (cells : List Cell) → cells_of (list_map entry_of cells) ≡ cells
cells_back [] = refl
cells_back (cell ∷ cells) = ap (λ xs. cell ∷ xs) (cells_back cells)

-- of two tests that pass together each passes
parts_of : (a b : Bool) → T (a && b) → T a × T b
parts_of true b h = (tt, h)
parts_of false b h = absurd h

-- what is below is Less
less_of : (o : Ordering) → T (is_lt o) → o ≡ Less
less_of Less h = refl
less_of Equal h = absurd h
less_of Greater h = absurd h

module _ (frame : Frame) where
  -- the global order is total
  total : IsTotalOrder (global_order frame)
  total = global_total frame.domain frame.tile frame.cell

  -- in it only equal coordinates tie
  exact : IsAntisymmetric (global_order frame)
  exact = global_cmp-exact frame.domain frame.tile frame.cell

  -- the map of cells by their coordinates
  abbrev MapOf : List Cell → map.FinMap (global_order frame) Cell
  MapOf cells = map.from_entries {R = global_order frame} (list_map entry_of cells)

  -- ---- what is found

  -- coordinates tie in the global order exactly where they are equal
  tests_same : (x c : List ℤ) → eq_by_cmp (global_order frame) c x ≡ coords_eq x c
  tests_same x c = by (coords_eq x c) refl
    where
      by : (b : Bool) → coords_eq x c ≡ b → eq_by_cmp (global_order frame) c x ≡ coords_eq x c
      by true e = subst (λ y. eq_by_cmp (global_order frame) y x ≡ true) ((coords_decide x c).0 e) (tie_itself total exact x) ∙ sym e
      by false e = no_tie total exact c x (λ same. true≢false (sym ((coords_decide x c).1 (sym same)) ∙ e)) ∙ sym e

  -- the row at a coordinate is that of the cell that is found there
  row_at-find : (c : List ℤ) (es : List Entry) → AllByRecursion IsNamed es → row_at c (cells_of es) ≡ option_map (λ (cell : Cell). cell.row) (map.find (global_order frame) c es)
  row_at-find c [] named = refl
  row_at-find c (e ∷ es) named =
      let test : eq_by_cmp (global_order frame) c e.0 ≡ coords_eq (e.1).coords c = tests_same e.0 c ∙ ap (λ x. coords_eq x c) named.0 in
      by (coords_eq (e.1).coords c) (row_at-find c es named.1) ∙ ap (λ b. option_map (λ (cell : Cell). cell.row) (cond b (Some e.1) (map.find (global_order frame) c es))) (sym test)
    where
      by : (b : Bool) → row_at c (cells_of es) ≡ option_map (λ (cell : Cell). cell.row) (map.find (global_order frame) c es)
          → cond b (Some (e.1).row) (row_at c (cells_of es)) ≡ option_map (λ (cell : Cell). cell.row) (cond b (Some e.1) (map.find (global_order frame) c es))
      by true rest = refl
      by false rest = rest

  -- the map of cells finds at each coordinate the cell whose row stands there
  row_at-get : (c : List ℤ) (cells : List Cell) → option_map (λ (cell : Cell). cell.row) (map.get (MapOf cells) c) ≡ row_at c cells
  row_at-get c cells =
      ap (option_map (λ (cell : Cell). cell.row)) (map.get-from_entries total (list_map entry_of cells) c)
      ∙ sym (row_at-find c (list_map entry_of cells) (entries_named cells)) ∙ ap (row_at c) (cells_back cells)

  -- in global order the same row stands at each coordinate
  pub row_at-in_global_order : (c : List ℤ) (cells : List Cell) → row_at c (in_global_order frame cells) ≡ row_at c cells
  unfolding in_global_order
  row_at-in_global_order c cells =
      row_at-find c (map.entries (MapOf cells)) (entries_all total exact IsNamed (list_map entry_of cells) (entries_named cells))
      ∙ ap (option_map (λ (cell : Cell). cell.row)) (sym (map.get-entries (MapOf cells) c)) ∙ row_at-get c cells

  -- ---- what holds of each

  -- what holds of each cell holds of the cell of each entry
  each_entry : (P : Cell → Type 0) (cells : List Cell) → All P cells → AllByRecursion (λ (e : Entry). P e.1) (list_map entry_of cells)
  each_entry P [] all = tt
  each_entry P (cell ∷ cells) all = (All-head P cell cells all, each_entry P cells (All-tail P cell cells all))

  -- what holds of the cell of each entry holds of each of their cells
  each_cell : (P : Cell → Type 0) (es : List Entry) → AllByRecursion (λ (e : Entry). P e.1) es → All P (cells_of es)
  each_cell P [] all = All-nil P
  each_cell P (e ∷ es) all = All-cons P e.1 (cells_of es) all.0 (each_cell P es all.1)

  -- what holds of each cell holds of each in global order
  pub All-in_global_order : (P : Cell → Type 0) (cells : List Cell) → All P cells → All P (in_global_order frame cells)
  unfolding in_global_order
  All-in_global_order P cells all = each_cell P (map.entries (MapOf cells)) (entries_all total exact (λ (e : Entry). P e.1) (list_map entry_of cells) (each_entry P cells all))

  -- ---- how many

  -- something is made of an option exactly where something is there
  some_mapped : {A B : Type 0} (f : A → B) (o : Option A) → is_some (option_map f o) ≡ is_some o
  some_mapped f None = refl
  some_mapped f (Some x) = refl

  -- the map of cells that are apart has as many entries
  len_of : (cells : List Cell) → are_apart cells ≡ true → map.len (MapOf cells) ≡ length cells
  len_of [] apart = map.len-empty (global_order frame) Cell
  len_of (cell ∷ cells) apart =
      let parts = and_parts (not (is_some (row_at cell.coords cells))) (are_apart cells) apart in
      let new : is_some (map.get (MapOf cells) cell.coords) ≡ false =
      sym (some_mapped (λ (x : Cell). x.row) (map.get (MapOf cells) cell.coords)) ∙ ap is_some (row_at-get cell.coords cells) ∙ is_not (is_some (row_at cell.coords cells)) parts.0 in
      map.len-insert total (MapOf cells) cell.coords cell ∙ cond-false (is_some (map.get (MapOf cells) cell.coords)) _ _ new ∙ ap (λ n. n + 1) (len_of cells parts.1) ∙ omega arith
    where
      is_not : (b : Bool) → not b ≡ true → b ≡ false
      is_not true e = sym e
      is_not false e = refl

  -- in global order there are as many cells, where they are apart
  pub length-in_global_order : (cells : List Cell) → are_apart cells ≡ true → length (in_global_order frame cells) ≡ length cells
  unfolding in_global_order
  length-in_global_order cells apart = length-map (map.entries (MapOf cells)) (λ e. e.1) ∙ sym (map.len-entries (MapOf cells)) ∙ len_of cells apart

  -- ---- they climb

  module _ (key schema : Key) where
    -- what is below the keys of entries comes before the versions of their cells
    above : (x : List ℤ) (es : List Entry) → AllByRecursion IsNamed es → T (below_all (global_order frame) x es)
        → All (λ (w : Version). global_order frame x w.coords ≡ Less) (list_map (version_in key schema) (cells_of es))
    above x [] named below = All-nil (λ (w : Version). global_order frame x w.coords ≡ Less)
    above x (e ∷ es) named below =
        let parts = parts_of (is_lt (global_order frame x e.0)) (below_all (global_order frame) x es) below in
        All-cons (λ (w : Version). global_order frame x w.coords ≡ Less) (version_in key schema e.1) (list_map (version_in key schema) (cells_of es))
        (subst (λ y. global_order frame x y ≡ Less) named.0 (less_of (global_order frame x e.0) parts.0)) (above x es named.1 parts.1)

    -- the versions of entries in order climb
    climb_entries : (es : List Entry) → AllByRecursion IsNamed es → T (map.is_sorted (global_order frame) es) → Climb frame (list_map (version_in key schema) (cells_of es))
    climb_entries [] named sorted = tt
    climb_entries (e ∷ es) named sorted =
        let parts = parts_of (below_all (global_order frame) e.0 es) (map.is_sorted (global_order frame) es) sorted in
        (subst (λ x. All (λ (w : Version). global_order frame x w.coords ≡ Less) (list_map (version_in key schema) (cells_of es))) named.0 (above e.0 es named.1 parts.0), climb_entries es named.1 parts.1)

    -- the versions of cells in global order climb
    pub Climb-in_global_order : (cells : List Cell) → Climb frame (list_map (version_in key schema) (in_global_order frame cells))
    unfolding in_global_order
    Climb-in_global_order cells = climb_entries (map.entries (MapOf cells)) (entries_all total exact IsNamed (list_map entry_of cells) (entries_named cells)) (map.entries_sorted (MapOf cells))
