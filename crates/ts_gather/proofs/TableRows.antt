-- The table of rows of columns.
use Rattle.std.proofs.Common.{◌≡◌, ℕ, zero, suc, ◌<◌, ℤ, pos, List, [], ◌∷◌, length, map, get_or, refl, sym, ap, subst, ◌∙◌, arith}
use Rattle.std.specs.List.{All}
use Rattle.std.proofs.lemmas.List.{same_lists, length-map, get_or-map, get_or_default}
use Rattle.std.proofs.lemmas.List.Elements.{All-nil, All-cons}
use Rattle.std.proofs.lemmas.Option.{slice_get-get_or}
use Rattle.ts_base.specs.declared.keys.Key.{Key}
use Rattle.ts_base.specs.declared.values.Val.{Val}
use Rattle.ts_base.specs.declared.values.Val.TheVariants.{Null}
use Rattle.ts_table.specs.Tables.{across, no_origin, no_version, versions_from, IsTable}
use Rattle.ts_table.proofs.Tables.{versions-length, version_is, across_first}
use Rattle.ts_gather.specs.declared.runs.Runs.{Runs}
use Rattle.ts_gather.specs.Rows.{origin_there, version_there, AreColumns, at_rows, chosen}
use Rattle.ts_gather.specs.Runs.{AreRuns}

-- ---- one row

-- what columns at rows have at a place is what they have in the row there
across_rows : {X : Type 0} (d : X) (rows : List ℕ) (i : ℕ) (columns : List (List X)) → i < length rows → across i (map (at_rows d rows) columns) ≡ map (λ column. get_or column (get_or rows i 0) d) columns
across_rows d rows i [] within = refl
across_rows d rows i (c ∷ columns) within =
    let F = λ (k : ℕ). get_or c k d in
    let long : i < length (map F rows) = subst (λ n. i < n) (sym (length-map rows F)) within in
    let there = slice_get-get_or (map F rows) i d long in
    across_first i (map F rows) (map (at_rows d rows) columns) (get_or (map F rows) i d) there
    ∙ ap (λ x. x ∷ across i (map (at_rows d rows) columns)) (get_or-map F rows i 0 d within)
    ∙ ap (λ xs. F (get_or rows i 0) ∷ xs) (across_rows d rows i columns within)

value_there : (vals : List (List Val)) (k attr : ℕ) → get_or (get_or vals attr []) k Null ≡ get_or (map (λ column. get_or column k Null) vals) attr Null
value_there [] k attr = refl
value_there (c ∷ vals) k zero = refl
value_there (c ∷ vals) k (suc attr) = value_there vals k attr

pub row_there : (vals : List (List Val)) (rows attrs : List ℕ) (i : ℕ) → i < length rows → across i (chosen attrs rows vals) ≡ map (λ attr. get_or (map (λ column. get_or column (get_or rows i 0) Null) vals) attr Null) attrs
row_there vals rows [] i within = refl
row_there vals rows (a ∷ attrs) i within =
    let column = get_or vals a [] in
    let F = λ (k : ℕ). get_or column k Null in
    let long : i < length (map F rows) = subst (λ n. i < n) (sym (length-map rows F)) within in
    across_first i (map F rows) (chosen attrs rows vals) (get_or (map F rows) i Null) (slice_get-get_or (map F rows) i Null long)
    ∙ ap (λ x. x ∷ across i (chosen attrs rows vals)) (get_or-map F rows i 0 Null within ∙ value_there vals (get_or rows i 0) a)
    ∙ ap (λ xs. get_or (map (λ column. get_or column (get_or rows i 0) Null) vals) a Null ∷ xs) (row_there vals rows attrs i within)

-- ---- all rows

all_at_rows : {X : Type 0} (d : X) (rows : List ℕ) (n : ℕ) (columns : List (List X)) → length rows ≡ n → All (λ (column : List X). length column ≡ n) (map (at_rows d rows) columns)
all_at_rows {X = X} d rows n [] many = All-nil (λ (column : List X). length column ≡ n)
all_at_rows {X = X} d rows n (c ∷ columns) many =
    All-cons (λ (column : List X). length column ≡ n) (at_rows d rows c) (map (at_rows d rows) columns) (length-map rows (λ k. get_or c k d) ∙ many) (all_at_rows d rows n columns many)

pub all_chosen : (rows attrs : List ℕ) (n : ℕ) (vals : List (List Val)) → length rows ≡ n → All (λ (column : List Val). length column ≡ n) (chosen attrs rows vals)
all_chosen rows [] n vals many = All-nil (λ (column : List Val). length column ≡ n)
all_chosen rows (a ∷ attrs) n vals many =
    All-cons (λ (column : List Val). length column ≡ n) (at_rows Null rows (get_or vals a [])) (chosen attrs rows vals) (length-map rows (λ k. get_or (get_or vals a []) k Null) ∙ many) (all_chosen rows attrs n vals many)

module _ (keys : List Key) (schema : Key) (attrs : List ℕ) (count : ℕ) (coords : List (List ℤ)) (origins : List ℕ) (vals : List (List Val)) (rows : List ℕ)
    (dims : List (List ℤ)) (columns : List (List Val)) (runs : Runs) (are : AreColumns count coords origins vals)
    (dims_are : dims ≡ map (at_rows (pos 0) rows) coords) (columns_are : columns ≡ chosen attrs rows vals) (runs_are : AreRuns keys schema origins rows runs) where
  -- each row has a cell
  as_many : length rows ≡ length runs.cells.items
  as_many =
      sym (length-map rows (origin_there keys schema origins)) ∙ ap length (sym runs_are.each) ∙ length-map runs.cells.items (λ cell. get_or runs.origins.items cell no_origin)

  -- the columns make a table
  pub rows_table : IsTable runs.origins.items dims columns runs.cells.items
  rows_table =
      let n = length runs.cells.items in
      let dims_many : length dims ≡ length coords = ap length dims_are ∙ length-map coords (at_rows (pos 0) rows) in
      record {
        some = omega (arith, dims_many, are.some);
        room = omega (arith, dims_many, are.few);
        named = runs_are.named;
        dims_long = subst (λ (cs : List (List ℤ)). All (λ (column : List ℤ). length column ≡ n) cs) (sym dims_are) (all_at_rows (pos 0) rows n coords as_many);
        attrs_long = subst (λ (cs : List (List Val)). All (λ (column : List Val). length column ≡ n) cs) (sym columns_are) (all_chosen rows attrs n vals as_many);
      }

  -- it is that of the rows
  pub table_is : versions_from runs.origins.items dims columns 0 runs.cells.items ≡ map (version_there keys schema attrs coords origins vals) rows
  table_is =
      let V = version_there keys schema attrs coords origins vals in
      let N = λ (cell : ℕ). get_or runs.origins.items cell no_origin in
      let made = versions_from runs.origins.items dims columns 0 runs.cells.items in
      let long : length made ≡ length runs.cells.items = versions-length runs.origins.items dims columns 0 runs.cells.items in
      same_lists made (map V rows) (long ∙ sym as_many ∙ sym (length-map rows V))
      (λ i d within.
      let here : i < length runs.cells.items = omega (arith, within, long) in
      let inside : i < length rows = omega (arith, here, as_many) in
      let cell = get_or runs.cells.items i 0 in
      let write : N cell ≡ origin_there keys schema origins (get_or rows i 0) =
      sym (get_or-map N runs.cells.items i 0 no_origin here) ∙ ap (λ ws. get_or ws i no_origin) runs_are.each ∙ get_or-map (origin_there keys schema origins) rows i 0 no_origin inside in
      let at = ap (across i) dims_are ∙ across_rows (pos 0) rows i coords inside in
      let row = ap (across i) columns_are ∙ row_there vals rows attrs i inside in
      get_or_default made i d no_version within
      ∙ version_is runs.origins.items dims columns runs.cells.items i 0 here
      ∙ (λ j. record { key = (write j).key; schema = (write j).schema; coords = at j; row = row j })
      ∙ sym (get_or-map V rows i 0 d inside))
