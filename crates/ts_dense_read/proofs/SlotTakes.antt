-- What is taken of the slots of a space tile.
use Rattle.std.proofs.Common.{◌≡◌, ℕ, zero, suc, ◌+◌, ◌<◌, ◌≤◌, Bool, true, false, not, ◌&&◌, cond, ℤ, List, [], ◌∷◌, ◌++◌, length, map, get_or, refl, sym, ap, subst, ◌∙◌, arith, add-zero}
use Rattle.std.specs.Prelude.{filter, Result, Ok, Err, IfOk}
use Rattle.std.specs.List.{All, range_with_len}
use Rattle.std.proofs.lemmas.List.{map-append}
use Rattle.std.proofs.lemmas.List.Elements.{All-head, All-tail, All-from_get_or, All-filter, filter-append}
use Rattle.std.proofs.lemmas.List.FromFn.{length-range_with_len, get_or-range_with_len, fill_by_all}
use Rattle.ts_base.specs.declared.heads.Version.{Version}
use Rattle.ts_base.specs.declared.keys.Key.{Key}
use Rattle.ts_base.specs.declared.values.Val.{Val}
use Rattle.ts_base.specs.declared.values.Val.TheVariants.{Null}
use Rattle.ts_base.specs.Keys.{is_within}
use Rattle.ts_domain.specs.declared.boxes.SubBox.{SubBox}
use Rattle.ts_domain.specs.Boxes.{is_in_box}
use Rattle.ts_order.specs.Orders.{coords_in_order}
use Rattle.ts_order.proofs.OrderedCoords.{length-coords_in_order}
use Rattle.ts_gather.specs.Sides.{AreCoords}
use Rattle.ts_gather.specs.Rows.{AreColumns, AreRows, version_there}
use Rattle.ts_schema.specs.Wants.{cut, taken}
use Rattle.ts_plain.specs.declared.stored.StoredCell.{StoredCell}
use Rattle.ts_plain.specs.Pieces.{origin_key, version_in}
use Rattle.ts_dense.specs.Slots.{is_hole, cells_in, versions_of}
use Rattle.ts_sparse_read.specs.TileReads.{rows_in}
use Rattle.ts_sparse_read.specs.ReadRows.{cells_many}
use Rattle.ts_sparse_read.proofs.CellSteps.{rows_long, row_of, cell_here}
use Rattle.ts_sparse_read.proofs.SiftLaws.{taken_join}
use Rattle.ts_dense_read.specs.declared.opened.Opened.{Opened}
use Rattle.ts_dense_read.specs.declared.slots.TileSlots.{TileSlots}
use Rattle.ts_dense_read.specs.SpaceTakes.{IsCounted, AreWhole, slots_in, slot_at, is_slot_wanted, rows_wanted, taken_of}

-- ---- rows

-- one number more
range_more : (a n : ℕ) → range_with_len a (suc n) ≡ range_with_len a n ++ (a + n) ∷ []
range_more a zero = ap (λ (k : ℕ). k ∷ []) (sym (add-zero a))
range_more a (suc n) =
    let same : a + 1 + n ≡ a + suc n = omega arith in
    ap (λ ks. a ∷ ks) (range_more (a + 1) n) ∙ ap (λ (k : ℕ). a ∷ (range_with_len (a + 1) n ++ k ∷ [])) same

-- of the numbers up to the next one those that pass are those before, and that one if it does
pub passing_more : (test : ℕ → Bool) (rows more : List ℕ) (k : ℕ) → rows ≡ filter test (range_with_len 0 k) → more ≡ rows ++ cond (test k) (k ∷ []) [] → more ≡ filter test (range_with_len 0 (k + 1))
passing_more test rows more k so push =
    let next : suc k ≡ k + 1 = omega arith in
    let here : 0 + k ≡ k = omega arith in
    push ∙ ap (λ ks. ks ++ cond (test k) (k ∷ []) []) so ∙ sym (filter-append test (range_with_len 0 k) (k ∷ []))
    ∙ ap (λ (j : ℕ). filter test (range_with_len 0 k ++ j ∷ [])) (sym here) ∙ ap (filter test) (sym (range_more 0 k)) ∙ ap (λ n. filter test (range_with_len 0 n)) next

-- no more pass than there are
few_pass : (test : ℕ → Bool) (ks : List ℕ) → length (filter test ks) ≤ length ks
few_pass test [] = omega arith
few_pass test (k ∷ ks) = go (few_pass test ks) (test k)
  where
    go : length (filter test ks) ≤ length ks → (b : Bool) → length (cond b (k ∷ filter test ks) (filter test ks)) ≤ suc (length ks)
    go rest true = omega (arith, rest)
    go rest false = omega (arith, rest)

-- where as many pass, all do
all_pass : (test : ℕ → Bool) (ks : List ℕ) → length (filter test ks) ≡ length ks → filter test ks ≡ ks
all_pass test [] many = refl
all_pass test (k ∷ ks) many = go (all_pass test ks) (few_pass test ks) (test k) many
  where
    go : (length (filter test ks) ≡ length ks → filter test ks ≡ ks) → length (filter test ks) ≤ length ks → (b : Bool) → length (cond b (k ∷ filter test ks) (filter test ks)) ≡ suc (length ks)
        → cond b (k ∷ filter test ks) (filter test ks) ≡ k ∷ ks
    go rest few true same = ap (λ js. k ∷ js) (rest (omega (arith, same)))
    go rest few false same = absurd (omega (arith, same, few))

-- those that pass are rows
pub are_rows : (test : ℕ → Bool) (rows : List ℕ) (count : ℕ) → rows ≡ filter test (range_with_len 0 count) → AreRows count rows
are_rows test rows count is = subst (AreRows count) (sym is) (record { within = All-filter test (λ k. k < count) (range_with_len 0 count) below; whole = λ many. all_pass test (range_with_len 0 count) (many ∙ sym (length-range_with_len 0 count)) })
  where
    below : All (λ k. k < count) (range_with_len 0 count)
    below =
        All-from_get_or (λ k. k < count) (range_with_len 0 count) 0
        (λ i within. let here : i < count = omega (arith, within, length-range_with_len 0 count) in omega (arith, here, get_or-range_with_len 0 count i 0 here))

module _ (opened : Opened) where
  -- ---- what is taken

  -- what is taken of two lists is what is taken of the one behind that of the other
  pub taken_both : (xs ys : List StoredCell) → taken_of opened (xs ++ ys) ≡ taken_of opened xs ++ taken_of opened ys
  taken_both xs ys =
      ap (taken opened.want) (ap (map (version_in opened.head)) (filter-append (λ (slot : StoredCell). not (is_hole slot)) xs ys) ∙ map-append (version_in opened.head) (cells_in xs) (cells_in ys))
      ∙ taken_join opened.want (versions_of opened.head xs) (versions_of opened.head ys)

  -- the version of a slot that has a cell, with the values that are wanted
  abbrev pub version_of : StoredCell → Version
  version_of c = cut opened.want (version_in opened.head c)

  -- of a slot that version is taken, if it has a cell which is wanted
  taken_one : (c : StoredCell)
      → taken_of opened (c ∷ []) ≡ cond ((not (is_hole c) && is_within (opened.want).a (opened.want).b (origin_key (opened.head).origins c.origin)) && is_in_box (opened.want).sub c.coords) (version_of c ∷ []) []
  taken_one c = go (not (is_hole c))
    where
      by : (a b : Bool) → map (cut opened.want) (cond (a && b) (version_in opened.head c ∷ []) []) ≡ cond ((true && a) && b) (version_of c ∷ []) []
      by true true = refl
      by true false = refl
      by false b = refl

      go : (h : Bool)
          → taken opened.want (map (version_in opened.head) (cond h (c ∷ []) []))
          ≡ cond ((h && is_within (opened.want).a (opened.want).b (origin_key (opened.head).origins c.origin)) && is_in_box (opened.want).sub c.coords) (version_of c ∷ []) []
      go true = by (is_within (opened.want).a (opened.want).b (origin_key (opened.head).origins c.origin)) (is_in_box (opened.want).sub c.coords)
      go false = refl

  module _ (leaf : SubBox) (s : TileSlots) where
    -- so what is taken of slots are the versions of those that are wanted
    taken_there : (ks : List ℕ) → taken_of opened (map (slot_at opened leaf s) ks) ≡ map (λ k. version_of (slot_at opened leaf s k)) (filter (is_slot_wanted opened leaf s.origins) ks)
    taken_there [] = refl
    taken_there (k ∷ ks) =
        let slot = slot_at opened leaf s in
        let F = λ (j : ℕ). version_of (slot_at opened leaf s j) in
        taken_both (slot k ∷ []) (map slot ks) ∙ ap (λ vs. vs ++ taken_of opened (map slot ks)) (taken_one (slot k))
        ∙ ap (λ vs. cond (is_slot_wanted opened leaf s.origins k) (F k ∷ []) [] ++ vs) (taken_there ks) ∙ go (is_slot_wanted opened leaf s.origins k)
      where
        go : (b : Bool)
            → cond b (version_of (slot_at opened leaf s k) ∷ []) [] ++ map (λ j. version_of (slot_at opened leaf s j)) (filter (is_slot_wanted opened leaf s.origins) ks)
            ≡ map (λ j. version_of (slot_at opened leaf s j)) (cond b (k ∷ filter (is_slot_wanted opened leaf s.origins) ks) (filter (is_slot_wanted opened leaf s.origins) ks))
        go true = refl
        go false = refl

    module _ (counted : IsCounted leaf s.count) (whole : AreWhole s) where
      pub coords_many : length (coords_in_order (opened.frame).cell leaf) ≡ s.count
      coords_many = length-coords_in_order (opened.frame).cell leaf counted.valid ∙ sym counted.cells

      -- there are as many slots as the box has cells
      slots_many : length (slots_in opened leaf s) ≡ s.count
      slots_many = cells_many s.count (coords_in_order (opened.frame).cell leaf) s.origins (rows_in s.count s.vals) coords_many whole.origins (rows_long s.count s.vals whole.vals)

      -- the slot at a place
      slot_there : (k : ℕ) (c : StoredCell) → k < s.count → get_or (slots_in opened leaf s) k c ≡ slot_at opened leaf s k
      slot_there k c within =
          cell_here (coords_in_order (opened.frame).cell leaf) s.origins (rows_in s.count s.vals) k c (omega (arith, coords_many, within)) (omega (arith, whole.origins, within)) (omega (arith, rows_long s.count s.vals whole.vals, within))
          ∙ ap (λ (row : List Val). record { coords = get_or (coords_in_order (opened.frame).cell leaf) k []; origin = get_or s.origins k 0; row = row }) (row_of Null s.count s.vals k whole.vals within)

      -- the slots are those at all places
      slots_are : slots_in opened leaf s ≡ map (slot_at opened leaf s) (range_with_len 0 s.count)
      slots_are = fill_by_all (slot_at opened leaf s) (slots_in opened leaf s) s.count (slot_at opened leaf s 0) slots_many (λ k within. slot_there k (slot_at opened leaf s 0) within)

      -- so what is taken are the versions of those that are wanted of all
      pub taken_all : taken_of opened (slots_in opened leaf s) ≡ map (λ k. version_of (slot_at opened leaf s k)) (filter (is_slot_wanted opened leaf s.origins) (range_with_len 0 s.count))
      taken_all = ap (taken_of opened) slots_are ∙ taken_there (range_with_len 0 s.count)

      module _ (columns : List (List ℤ)) (are : AreCoords (opened.frame).cell leaf columns) where
        -- the columns of the tile, where there are 1 to 8 dimensions
        pub are_columns : 1 ≤ length leaf.low → length leaf.low ≤ 8 → AreColumns s.count columns s.origins s.vals
        are_columns some few = record {
          some = omega (arith, some, are.many);
          few = omega (arith, few, are.many);
          coords = λ i d within. are.long i d within ∙ sym counted.cells;
          origins = whole.origins;
          vals = whole.vals;
        }

        -- a version of columns at a row
        abbrev of_row : ℕ → Version
        of_row = version_there (opened.head).origins (opened.head).schema (opened.want).attrs columns s.origins s.vals

        -- the version of a slot is that of the columns in its row
        each_row : (ks : List ℕ) → All (λ k. k < s.count) ks → map of_row ks ≡ map (λ k. version_of (slot_at opened leaf s k)) ks
        each_row [] all = refl
        each_row (k ∷ ks) all =
            let B = λ (j : ℕ). j < s.count in
            let here : k < s.count = All-head B k ks all in
            let at = are.there k (omega (arith, here, counted.cells)) in
            let row = of_row k in
            ap (λ (coords : List ℤ). record { key = row.key; schema = row.schema; coords = coords; row = row.row } ∷ map of_row ks) at
            ∙ ap (λ vs. version_of (slot_at opened leaf s k) ∷ vs) (each_row ks (All-tail B k ks all))

        -- the table of the rows that are wanted is what is taken of the slots
        pub table_taken : (rows : List ℕ) (table : List Version) → rows ≡ rows_wanted opened leaf s.origins → table ≡ map of_row rows → table ≡ taken_of opened (slots_in opened leaf s)
        table_taken rows table wanted is =
            let among : rows ≡ filter (is_slot_wanted opened leaf s.origins) (range_with_len 0 s.count) = wanted ∙ ap (λ n. filter (is_slot_wanted opened leaf s.origins) (range_with_len 0 n)) whole.origins in
            is ∙ each_row rows (are_rows (is_slot_wanted opened leaf s.origins) rows s.count among).within
            ∙ ap (map (λ k. version_of (slot_at opened leaf s k))) among ∙ sym taken_all

        -- so of the table that is made of them, if there is one
        pub table_wanted : {E : Type 0} (r : Result (List Version) E) (keys : List Key) (attrs : List ℕ) (origins : List ℕ) (vals : List (List Val)) (rows : List ℕ) → keys ≡ (opened.head).origins → attrs ≡ (opened.want).attrs → origins ≡ s.origins → vals ≡ s.vals
            → rows ≡ rows_wanted opened leaf s.origins → IfOk r (λ table. table ≡ map (version_there keys (opened.head).schema attrs columns origins vals) rows) → IfOk r (λ table. table ≡ taken_of opened (slots_in opened leaf s))
        table_wanted (Ok table) keys attrs origins vals rows k a o v wanted is =
            table_taken rows table wanted (is ∙ (λ i. map (version_there (k i) (opened.head).schema (a i) columns (o i) (v i)) rows))
        table_wanted (Err e) keys attrs origins vals rows k a o v wanted is = tt
