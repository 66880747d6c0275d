-- The rows that a read answers with do not depend on the values that it does not use.
use Rattle.std.proofs.Common.{◌≡◌, ℤ, Bool, true, false, cond, not, ◌&&◌, ◌||◌, List, [], ◌∷◌, length, Option, Some, None, Ordering, Less, Equal, Greater, int_cmp, is_eq, refl, sym, ◌∙◌, ap, subst}
use Rattle.std.specs.Prelude.{Contains, filter, option_map, option_and_then, map as list_map}
use Rattle.std.specs.Cmp.{IsTotalOrder}
use Rattle.std.specs.Cmp.Lexicographic.{slice_cmp}
use Rattle.std.specs.FinMap as map
use Rattle.std.specs.FinMap.Entries.{by_order}
use Rattle.std.specs.List.{AllByRecursion, list_any}
use Rattle.std.specs.Option.{option_map_or}
use Rattle.std.specs.Ordering.{eq_by_cmp}
use Rattle.std.proofs.lemmas.Bool.{cond-true, cond-false}
use Rattle.std.proofs.lemmas.Cmp.{tied_itself}
use Rattle.std.proofs.lemmas.Option.{none-some, same_Some}
use Rattle.ts_base.specs.declared.heads.Version.{Version}
use Rattle.ts_base.specs.declared.values.Val.{Val}
use Rattle.ts_base.specs.Keys.{key_lt}
use Rattle.ts_domain.specs.Boxes.{coords_of_box, is_in_box}
use Rattle.ts_domain.proofs.Between.{length-is_between}
use Rattle.ts_schema.specs.declared.schemas.Schema.{Schema}
use Rattle.ts_schema.specs.Attrs.{shown_row}
use Rattle.ts_cond.specs.Picks.{matches}
use Rattle.ts_model.specs.declared.states.Reading.{Reading}
use Rattle.ts_model.specs.Answers.{Cells, fills_of}
use Rattle.ts_model.specs.Pieces.{newest_of}
use Rattle.ts_model.specs.Merging.{newest_at}
use Rattle.ts_model.specs.Queries.{attr_fields, fields_of, in_layout, items_at, layout_cmp, passes, selected}
use Rattle.ts_model.specs.States.{attrs_got, cell_shown, cells_filled, cells_left, is_erased_by, known_attrs, row_or_fill, version_left}
use Rattle.ts_model.specs.Used.{used_row}
use Rattle.ts_model.proofs.Filled.{box_map, entries_box, get_box}
use Rattle.ts_model.proofs.ListLemmas.{Contains-here, Contains-there}
use Rattle.ts_model.proofs.Newest.{OwnCoords, coords_exact, coords_total, get_newest_of, own_newest}
use Rattle.ts_model.proofs.Selected.{layout_exact, layout_total}
use Rattle.ts_model.proofs.UnionLaws.{entries_all, entries_empty}
use Rattle.ts_law.specs.Kept.{used_version}
use Rattle.ts_law.proofs.MapValues.{entries_left, get_left, left_of, left_values}
use Rattle.ts_law.proofs.UsedLaws.{blank, delete_used, items_blank, matches_used, passes_blank, same_shown}

-- ---- maps whose values are changed

module _ {K X Y : Type 0} (f : X → Y) where
  -- entries with another value each
  abbrev pub each_as : List (K × X) → List (K × Y)
  each_as es = list_map (λ e. (e.0, f e.1)) es

  -- an entry more has its place among them
  put_as : (R : K → K → Ordering) (k : K) (v : X) (es : List (K × X)) → map.put R k (f v) (each_as es) ≡ each_as (map.put R k v es)
  put_as R k v [] = refl
  put_as R k v (e ∷ es) =
      elim (R k e.0) as (λ o. by_order o ((k, f v) ∷ (e.0, f e.1) ∷ each_as es) ((e.0, f v) ∷ each_as es) ((e.0, f e.1) ∷ map.put R k (f v) (each_as es))
      ≡ each_as (by_order o ((k, v) ∷ e ∷ es) ((e.0, v) ∷ es) (e ∷ map.put R k v es))) [
        | Less ↦ refl
        | Equal ↦ refl
        | Greater ↦ ap (λ l. (e.0, f e.1) ∷ l) (put_as R k v es)
      ]

  -- the entries of their map are those of the map, with another value each
  entries_as : {R : K → K → Ordering} → IsTotalOrder R → (es : List (K × X)) → map.entries (map.from_entries {R = R} (each_as es)) ≡ each_as (map.entries (map.from_entries {R = R} es))
  entries_as {R = R} total [] = entries_empty R ∙ ap each_as (sym (entries_empty R))
  entries_as {R = R} total (e ∷ es) =
      map.entries-insert total (map.from_entries {R = R} (each_as es)) e.0 (f e.1) ∙ ap (map.put R e.0 (f e.1)) (entries_as total es) ∙ put_as R e.0 e.1 (map.entries (map.from_entries {R = R} es))
      ∙ ap each_as (sym (map.entries-insert total (map.from_entries {R = R} es) e.0 e.1))

-- a test that tells the same of the other values
filter_as : {K X : Type 0} (f : X → X) (p : K → X → Bool) → ((k : K) (x : X) → p k (f x) ≡ p k x) → (es : List (K × X)) → filter (λ e. p e.0 e.1) (each_as f es) ≡ each_as f (filter (λ e. p e.0 e.1) es)
filter_as f p same [] = refl
filter_as {K} {X} f p same (e ∷ es) =
    ap (λ b. cond b ((e.0, f e.1) ∷ filter test (each_as f es)) (filter test (each_as f es))) (same e.0 e.1) ∙ ap (λ l. cond (p e.0 e.1) ((e.0, f e.1) ∷ l) l) (filter_as f p same es) ∙ by_test (p e.0 e.1)
  where
    test : K × X → Bool
    test = λ x. p x.0 x.1

    by_test : (b : Bool) → cond b ((e.0, f e.1) ∷ each_as f (filter test es)) (each_as f (filter test es)) ≡ each_as f (cond b (e ∷ filter test es) (filter test es))
    by_test true = refl
    by_test false = refl

-- what holds of all holds of those that pass a test
all_kept : {X : Type 0} (P : X → Type 0) (p : X → Bool) (xs : List X) → AllByRecursion P xs → AllByRecursion P (filter p xs)
all_kept P p [] all = tt
all_kept P p (x ∷ xs) all = elim (p x) as (λ b. AllByRecursion P (cond b (x ∷ filter p xs) (filter p xs))) [
  | true ↦ (all.0, all_kept P p xs all.1)
  | false ↦ all_kept P p xs all.1
]

-- what holds at each key of a map holds of the key of each entry
all_found : {K X : Type 0} {R : K → K → Ordering} → IsTotalOrder R → (P : K → Type 0) (es : List (K × X)) → ((k : K) (x : X) → map.find R k es ≡ Some x → P k) → AllByRecursion (λ e. P e.0) es
all_found total P [] each = tt
all_found {K} {X} {R = R} total P (e ∷ es) each = (
  each e.0 e.1 (cond-true (eq_by_cmp R e.0 e.0) (Some e.1) (map.find R e.0 es) (ap is_eq (tied_itself total e.0))),
  all_found total P es (λ k x found. by_tie k x found (eq_by_cmp R k e.0) refl),
)
  where
    by_tie : (k : K) (x : X) → map.find R k es ≡ Some x → (t : Bool) → eq_by_cmp R k e.0 ≡ t → P k
    by_tie k x found true tie = each k e.1 (cond-true (eq_by_cmp R k e.0) (Some e.1) (map.find R k es) tie)
    by_tie k x found false apart = each k x (cond-false (eq_by_cmp R k e.0) (Some e.1) (map.find R k es) apart ∙ found)

all_keys : {X : Type 0} (P : List ℤ → Type 0) (m : map.FinMap (slice_cmp int_cmp) X) → ((c : List ℤ) (x : X) → map.get m c ≡ Some x → P c) → AllByRecursion (λ e. P e.0) (map.entries m)
all_keys P m each = all_found coords_total P (map.entries m) (λ c x found. each c x (map.get-entries m c ∙ found))

-- a test tells the same of all of a list where two tests tell the same of each
any_alike : {X : Type 0} (p q : X → Bool) (xs : List X) → ((x : X) → Contains xs x → p x ≡ q x) → list_any p xs ≡ list_any q xs
any_alike p q [] same = refl
any_alike p q (x ∷ xs) same = λ i. same x (Contains-here x xs) i || any_alike p q xs (λ y at. same y (Contains-there x xs y at)) i

-- ---- the rows that are selected

module _ (r : Reading) where
  -- a cell of the array has a coordinate in each dimension
  abbrev IsLong : List ℤ → Type 0
  IsLong c = length c ≡ length r.frame.domain

  -- cells with null in place of each value that is not used
  abbrev pub cells_blank : List (List ℤ × List Val) → List (List ℤ × List Val)
  cells_blank cells = each_as (blank r r.current.attrs) cells

  -- the rows that are selected of cells
  abbrev rows_of : List (List ℤ × List Val) → List (List Val)
  rows_of cells = selected r.frame r.current.attrs r.ready cells

  -- each shows the same fields
  items_same : (es : List (List ℤ × List Val)) → AllByRecursion (λ e. IsLong e.0) es
      → list_map (λ e. items_at r.ready.fields (fields_of e)) (cells_blank es) ≡ list_map (λ e. items_at r.ready.fields (fields_of e)) es
  items_same [] long = refl
  items_same (e ∷ es) long =
      ap (λ x. x ∷ list_map (λ e. items_at r.ready.fields (fields_of e)) (cells_blank es)) (items_blank r e.0 e.1 long.0) ∙ ap (λ l. items_at r.ready.fields (fields_of e) ∷ l) (items_same es long.1)

  -- the same rows are selected of them
  rows_blank : (cells : List (List ℤ × List Val)) → AllByRecursion (λ e. IsLong e.0) cells → rows_of (cells_blank cells) ≡ rows_of cells
  unfolding in_layout
  rows_blank cells long =
      let total = layout_total r.frame r.ready.layout in
      let kept = filter (λ e. passes r.ready.filter r.current.attrs e.0 e.1) cells in
      let show : List (List ℤ × List Val) → List (List Val) = list_map (λ e. items_at r.ready.fields (fields_of e)) in
      ap (λ es. show (map.entries (map.from_entries {R = layout_cmp r.frame r.ready.layout} es))) (filter_as (blank r r.current.attrs) (λ c row. passes r.ready.filter r.current.attrs c row) (λ c row. passes_blank r c r.current.attrs row) cells)
      ∙ ap show (entries_as (blank r r.current.attrs) total kept)
      ∙ items_same (map.entries (map.from_entries {R = layout_cmp r.frame r.ready.layout} kept))
      (entries_all total (layout_exact r.frame r.ready.layout) (λ e. IsLong e.0) kept (all_kept (λ e. IsLong e.0) (λ e. passes r.ready.filter r.current.attrs e.0 e.1) cells long))

  -- so the same rows are selected of cells that have the same used values
  same_rows : (a b : List (List ℤ × List Val)) → AllByRecursion (λ e. IsLong e.0) a → AllByRecursion (λ e. IsLong e.0) b → cells_blank a ≡ cells_blank b → rows_of a ≡ rows_of b
  same_rows a b long_a long_b same = sym (rows_blank a long_a) ∙ ap rows_of same ∙ rows_blank b long_b

-- ---- what is left of a whole version

module _ (r : Reading) (schemas : List Schema) where
  -- a whole version is erased by the deletes
  abbrev pub erased_whole : Version → Bool
  erased_whole v = list_any (λ e. key_lt v.key e.key && matches e.cond v.coords (attr_fields (known_attrs r schemas v.schema)) v.row) r.deletions

  -- its row as it shows through the schema there
  abbrev pub shown_whole : Version → List Val
  shown_whole v = shown_row (known_attrs r schemas v.schema) v.row r.current.attrs

  -- that row, unless it is erased
  abbrev pub left_whole : Version → Option (List Val)
  left_whole v = cond (not (erased_whole v)) (Some (shown_whole v)) None

  -- that of the newest version, or else the fill
  abbrev pub whole_or_fill : Option Version → List Val
  whole_or_fill newest = option_map_or (λ row. row) (option_and_then left_whole newest) (fills_of r.current.attrs)

  -- what was got of a version is erased where the whole one is
  same_erased : (v : Version) → is_erased_by r schemas (used_version r schemas v) ≡ erased_whole v
  same_erased v =
      any_alike (λ e. key_lt v.key e.key && matches e.cond v.coords (attr_fields (attrs_got r schemas v.schema)) (used_row r (known_attrs r schemas v.schema) v.row))
      (λ e. key_lt v.key e.key && matches e.cond v.coords (attr_fields (known_attrs r schemas v.schema)) v.row) r.deletions
      (λ e at. ap (λ b. key_lt v.key e.key && b) (matches_used r e.cond (delete_used r e at) v.coords (known_attrs r schemas v.schema) v.row))

  -- a row with its used values alone, where there may be one
  abbrev blank_left : Option (List Val) → Option (List Val)
  blank_left o = option_map (blank r r.current.attrs) o

  -- the same used values are left
  same_left : (v : Version) → blank_left (version_left r schemas (used_version r schemas v)) ≡ blank_left (left_whole v)
  same_left v = ap (λ b. blank_left (cond (not b) (Some shown) None)) (same_erased v) ∙ by_test (erased_whole v)
    where
      shown : List Val
      shown = shown_row (attrs_got r schemas v.schema) (used_row r (known_attrs r schemas v.schema) v.row) r.current.attrs

      by_test : (b : Bool) → blank_left (cond (not b) (Some shown) None) ≡ blank_left (cond (not b) (Some (shown_whole v)) None)
      by_test true = refl
      by_test false = ap Some (same_shown r (known_attrs r schemas v.schema) v.row r.current.attrs)

  -- so it is where there may be a version
  same_left_of : (o : Option Version) → blank_left (option_and_then (version_left r schemas) (option_map (used_version r schemas) o)) ≡ blank_left (option_and_then left_whole o)
  same_left_of None = refl
  same_left_of (Some v) = same_left v

  -- or the fill
  same_filled : (a b : Option (List Val)) → blank_left a ≡ blank_left b → blank r r.current.attrs (option_map_or (λ row. row) a (fills_of r.current.attrs)) ≡ blank r r.current.attrs (option_map_or (λ row. row) b (fills_of r.current.attrs))
  same_filled None None same = refl
  same_filled None (Some y) same = absurd (none-some (blank r r.current.attrs y) same)
  same_filled (Some x) None same = absurd (none-some (blank r r.current.attrs x) (sym same))
  same_filled (Some x) (Some y) same = same_Some (blank r r.current.attrs x) (blank r r.current.attrs y) same

  -- ---- what was got

  module _ (got whole : List Version) (uses : (c : List ℤ) → newest_at got c ≡ option_map (used_version r schemas) (newest_at whole c))
      (outside : (c : List ℤ) → is_in_box r.ready.sub c ≡ false → newest_at whole c ≡ None)
      (low : length r.ready.sub.low ≡ length r.frame.domain) (high : length r.ready.sub.high ≡ length r.ready.sub.low) where
    -- the newest version that was got has the values that are used of the newest whole one
    newest_used : (c : List ℤ) → map.get (newest_of got) c ≡ option_map (used_version r schemas) (newest_at whole c)
    newest_used c = get_newest_of got c ∙ uses c

    -- a cell of the box is long
    box_long : (c : List ℤ) → is_in_box r.ready.sub c ≡ true → IsLong r c
    box_long c inside = sym (length-is_between r.ready.sub.low r.ready.sub.high c inside).0 ∙ low

    -- where there is a newest version the cell is long
    there_long : (c : List ℤ) (v : Version) → newest_at whole c ≡ Some v → IsLong r c
    there_long c v there = by_test (is_in_box r.ready.sub c) refl
      where
        by_test : (t : Bool) → is_in_box r.ready.sub c ≡ t → IsLong r c
        by_test true inside = box_long c inside
        by_test false apart = absurd (none-some v (sym (outside c apart) ∙ there))

    -- a version that was got is left
    abbrev is_left : Version → Bool
    is_left v = not (is_erased_by r schemas v)

    -- its row as it shows
    abbrev shown : Version → List Val
    shown v = shown_row (attrs_got r schemas v.schema) v.row r.current.attrs

    -- the cells that are left of what was got
    abbrev got_left : Cells
    got_left = left_values (slice_cmp int_cmp) coords_exact is_left shown (newest_of got)

    -- the cells that are left of the whole versions
    abbrev pub whole_left : Cells
    whole_left = left_values (slice_cmp int_cmp) coords_exact (λ v. not (erased_whole v)) shown_whole (newest_of whole)

    -- versions that are left, at their own coordinates
    cells_are : (es : List (List ℤ × Version)) → OwnCoords es → list_map (cell_shown r schemas) (filter is_left (list_map (λ e. e.1) es)) ≡ left_of (slice_cmp int_cmp) coords_exact is_left shown es
    cells_are [] own = refl
    cells_are (e ∷ es) own =
        elim (is_left e.1) as (λ b. list_map (cell_shown r schemas) (cond b (e.1 ∷ filter is_left (list_map (λ x. x.1) es)) (filter is_left (list_map (λ x. x.1) es)))
        ≡ cond b ((e.0, shown e.1) ∷ left_of (slice_cmp int_cmp) coords_exact is_left shown es) (left_of (slice_cmp int_cmp) coords_exact is_left shown es)) [
          | true ↦ λ i. (own.0 i, shown e.1) ∷ cells_are es own.1 i
          | false ↦ cells_are es own.1
        ]

    -- they are the entries of a map
    entries_of_left : cells_left r schemas got ≡ map.entries got_left
    entries_of_left = cells_are (map.entries (newest_of got)) (own_newest got) ∙ sym (entries_left (slice_cmp int_cmp) coords_exact is_left shown (newest_of got))

    -- what is left at a cell of what was got, and of the whole
    left_at : (c : List ℤ) → map.get got_left c ≡ option_and_then (version_left r schemas) (option_map (used_version r schemas) (newest_at whole c))
    left_at c = get_left (slice_cmp int_cmp) coords_exact is_left shown (newest_of got) c ∙ ap (option_and_then (version_left r schemas)) (newest_used c)

    pub whole_at : (c : List ℤ) → map.get whole_left c ≡ option_and_then left_whole (newest_at whole c)
    whole_at c = get_left (slice_cmp int_cmp) coords_exact (λ v. not (erased_whole v)) shown_whole (newest_of whole) c ∙ ap (option_and_then left_whole) (get_newest_of whole c)

    -- with their used values alone the two maps are the same
    abbrev blanks : Cells → Cells
    blanks m = left_values (slice_cmp int_cmp) coords_exact (λ row. true) (blank r r.current.attrs) m

    -- the entries of such a map
    all_left : (es : List (List ℤ × List Val)) → left_of (slice_cmp int_cmp) coords_exact (λ row. true) (blank r r.current.attrs) es ≡ cells_blank r es
    all_left [] = refl
    all_left (e ∷ es) = ap (λ l. (e.0, blank r r.current.attrs e.1) ∷ l) (all_left es)

    entries_of_blanks : (m : Cells) → map.entries (blanks m) ≡ cells_blank r (map.entries m)
    entries_of_blanks m = entries_left (slice_cmp int_cmp) coords_exact (λ row. true) (blank r r.current.attrs) m ∙ all_left (map.entries m)

    -- the row at a cell of such a map
    get_blanks : (m : Cells) (c : List ℤ) → map.get (blanks m) c ≡ blank_left (map.get m c)
    get_blanks m c = get_left (slice_cmp int_cmp) coords_exact (λ row. true) (blank r r.current.attrs) m c ∙ by (map.get m c)
      where
        by : (o : Option (List Val)) → option_and_then (λ row. Some (blank r r.current.attrs row)) o ≡ blank_left o
        by None = refl
        by (Some row) = refl

    same_blanks : blanks got_left ≡ blanks whole_left
    same_blanks = map.same_map coords_total coords_exact (blanks got_left) (blanks whole_left) (λ c. get_blanks got_left c ∙ ap blank_left (left_at c) ∙ same_left_of (newest_at whole c) ∙ ap blank_left (sym (whole_at c)) ∙ sym (get_blanks whole_left c))

    -- a cell at which something is left is long
    left_long : (c : List ℤ) (f : Version → Option (List Val)) (row : List Val) → option_and_then f (newest_at whole c) ≡ Some row → IsLong r c
    left_long c f row is = by (newest_at whole c) refl is
      where
        by : (o : Option Version) → newest_at whole c ≡ o → option_and_then f o ≡ Some row → IsLong r c
        by None there e = absurd (none-some row e)
        by (Some v) there e = there_long c v there

    -- so it is of what was got
    got_long : (c : List ℤ) (row : List Val) → option_and_then (version_left r schemas) (option_map (used_version r schemas) (newest_at whole c)) ≡ Some row → IsLong r c
    got_long c row is = by (newest_at whole c) refl is
      where
        by : (o : Option Version) → newest_at whole c ≡ o → option_and_then (version_left r schemas) (option_map (used_version r schemas) o) ≡ Some row → IsLong r c
        by None there e = absurd (none-some row e)
        by (Some v) there e = there_long c v there

    -- a sparse array answers with the rows that the whole versions show
    pub sparse_rows : selected r.frame r.current.attrs r.ready (cells_left r schemas got) ≡ selected r.frame r.current.attrs r.ready (map.entries whole_left)
    sparse_rows =
        ap (rows_of r) entries_of_left
        ∙ same_rows r (map.entries got_left) (map.entries whole_left) (all_keys (IsLong r) got_left (λ c row found. got_long c row (sym (left_at c) ∙ found)))
        (all_keys (IsLong r) whole_left (λ c row found. left_long c left_whole row (sym (whole_at c) ∙ found)))
        (sym (entries_of_blanks got_left) ∙ ap map.entries same_blanks ∙ entries_of_blanks whole_left)

    -- ---- a dense array

    -- the row that it shows at a cell, of what was got
    abbrev got_row : List ℤ → List Val
    got_row c = row_or_fill r schemas (map.get (newest_of got) c)

    -- and of the whole
    abbrev pub whole_row : List ℤ → List Val
    whole_row c = whole_or_fill (newest_at whole c)

    -- they have the same used values
    same_row : (c : List ℤ) → blank r r.current.attrs (got_row c) ≡ blank r r.current.attrs (whole_row c)
    same_row c =
        ap (λ o. blank r r.current.attrs (row_or_fill r schemas o)) (newest_used c)
        ∙ same_filled (option_and_then (version_left r schemas) (option_map (used_version r schemas) (newest_at whole c))) (option_and_then left_whole (newest_at whole c)) (same_left_of (newest_at whole c))

    -- so it is of each of some cells
    same_each : (cs : List (List ℤ)) → cells_blank r (list_map (λ c. (c, got_row c)) cs) ≡ cells_blank r (list_map (λ c. (c, whole_row c)) cs)
    same_each [] = refl
    same_each (c ∷ cs) = λ i. (c, same_row c i) ∷ same_each cs i

    -- the cells of the box are long
    box_keys : {X : Type 0} (f : List ℤ → X) → AllByRecursion (λ (e : List ℤ × X). IsLong r e.0) (list_map (λ c. (c, f c)) (coords_of_box r.ready.sub))
    box_keys {X} f =
        let Each : List (List ℤ × X) → Type 0 = AllByRecursion (λ e. IsLong r e.0) in
        subst Each (entries_box r.ready.sub.low r.ready.sub.high high f) (all_keys (IsLong r) (box_map r.ready.sub.low r.ready.sub.high high f)
        (λ c x found. by_test c x (is_in_box r.ready.sub c) refl (sym (get_box r.ready.sub.low r.ready.sub.high high f c) ∙ found)))
      where
        by_test : (c : List ℤ) (x : X) (t : Bool) → is_in_box r.ready.sub c ≡ t → cond t (Some (f c)) None ≡ Some x → IsLong r c
        by_test c x true inside e = box_long c inside
        by_test c x false apart e = absurd (none-some x e)

    -- it answers with the rows that the whole versions show
    pub dense_rows : selected r.frame r.current.attrs r.ready (cells_filled r schemas got) ≡ selected r.frame r.current.attrs r.ready (list_map (λ c. (c, whole_row c)) (coords_of_box r.ready.sub))
    dense_rows =
        same_rows r (list_map (λ c. (c, got_row c)) (coords_of_box r.ready.sub)) (list_map (λ c. (c, whole_row c)) (coords_of_box r.ready.sub)) (box_keys got_row) (box_keys whole_row) (same_each (coords_of_box r.ready.sub))
