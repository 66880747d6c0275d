-- Cells in columns: what stands across them, and that the cells which a read shows do.
use Rattle.std.proofs.Common.{◌≡◌, ℕ, ◌<◌, ◌≤◌, ℤ, pos, Bool, true, false, not, cond, List, [], ◌∷◌, length, map, get_or, replicate, Option, Some, None, refl, sym, ap, subst, ◌∙◌, arith}
use Rattle.std.specs.Prelude.{slice_get}
use Rattle.std.specs.FinMap as finite
use Rattle.std.specs.List.{All, range_with_len}
use Rattle.std.specs.Option.{option_map_or}
use Rattle.std.proofs.lemmas.List.{same_lists, length-map, length-replicate, get_or-map, get_or_default, get_or-replicate}
use Rattle.std.proofs.lemmas.List.Elements.{All-nil, All-cons, All-head, All-tail}
use Rattle.std.proofs.lemmas.List.FromFn.{length-range_with_len, get_or-map-range_with_len, length-map-range_with_len}
use Rattle.std.proofs.lemmas.Option.{slice_get-get_or}
use Rattle.ts_base.specs.declared.heads.Version.{Version}
use Rattle.ts_base.specs.declared.values.Val.{Val}
use Rattle.ts_base.specs.declared.values.Val.TheVariants.{Null}
use Rattle.ts_domain.specs.declared.boxes.SubBox.{SubBox}
use Rattle.ts_domain.specs.declared.orders.Order.TheVariants.{Row}
use Rattle.ts_domain.specs.Boxes.{IsBox, cells_of, coords_of_box}
use Rattle.ts_order.specs.Orders.{coords_in_order}
use Rattle.ts_table.specs.BoxTables.{versions_over}
use Rattle.ts_table.proofs.BoxTables.{coords_are, count_is, version_over}
use Rattle.ts_domain.proofs.Between.{length-coords_between}
use Rattle.ts_gather.proofs.RowLaws.{whole_column}
use Rattle.ts_schema.specs.declared.attrs.Attr.{Attr}
use Rattle.ts_schema.specs.declared.schemas.Schema.{Schema}
use Rattle.ts_model.specs.declared.states.Reading.{Reading}
use Rattle.ts_model.specs.Answers.{fills_of}
use Rattle.ts_model.specs.Pieces.{newest_of}
use Rattle.ts_model.specs.States.{cell_shown, cells_filled, is_erased_by, row_or_fill}
use Rattle.ts_table.specs.declared.origins.Origin.{Origin}
use Rattle.ts_table.specs.Tables.{across, column_of, no_version, versions_from, IsTable}
use Rattle.ts_table.proofs.Tables.{versions-length, version_is, across_first}
use Rattle.ts_reader.specs.Left.{slot_left}
use Rattle.ts_reader.specs.Newest.{slots_in}
use Rattle.ts_reader.specs.Shown.{AreShown, HaveCoords, cell_across, cells_across, cells_over, pair_of, slot_val, slot_vals, vals_filled, version_val, version_vals}
use Rattle.ts_reader.proofs.BoxSlots.{in_row_order}

-- ---- the table of columns

-- what stands at a place of long columns
items_across : {X : Type 0} (d : X) (place : ℕ) (columns : List (List X)) → All (λ (column : List X). place < length column) columns → across place columns ≡ map (λ (column : List X). get_or column place d) columns
items_across d place [] long = refl
items_across {X} d place (c ∷ columns) long =
    let L : List X → Type 0 = λ column. place < length column in
    across_first place c columns (get_or c place d) (slice_get-get_or c place d (All-head L c columns long))
    ∙ ap (λ xs. get_or c place d ∷ xs) (items_across d place columns (All-tail L c columns long))

longer : {X : Type 0} (n k : ℕ) (columns : List (List X)) → k < n → All (λ (column : List X). length column ≡ n) columns → All (λ (column : List X). k < length column) columns
longer n k columns within long i d there = omega (arith, within, long i d there)

module _ (origin : Origin) (dims : List (List ℤ)) (vals : List (List Val)) (count : ℕ) (are : AreShown count dims vals) where
  abbrev cells : List ℕ
  cells = replicate count 0

  as_many : length cells ≡ count
  as_many = length-replicate count 0

  -- the columns make a table
  pub shown_table : IsTable (origin ∷ []) dims vals cells
  shown_table = record {
    some = are.some;
    room = are.few;
    named = λ i d within. subst (λ (n : ℕ). n < 1) (sym (get_or-replicate count i 0 d (omega (arith, within, as_many)))) (omega arith);
    dims_long = λ i d within. are.coords i d within ∙ sym as_many;
    attrs_long = λ i d within. are.vals i d within ∙ sym as_many;
  }

  -- its versions are the cells of the columns
  pub table_cells : map pair_of (versions_from (origin ∷ []) dims vals 0 cells) ≡ cells_across dims vals count
  table_cells =
      let made = versions_from (origin ∷ []) dims vals 0 cells in
      let F = cell_across dims vals in
      let long : length made ≡ count = versions-length (origin ∷ []) dims vals 0 cells ∙ as_many in
      same_lists (map pair_of made) (cells_across dims vals count) (length-map made pair_of ∙ long ∙ sym (length-map-range_with_len F 0 count))
      (λ k d within.
      let here : k < count = omega (arith, within, length-map made pair_of, long) in
      let inside : k < length cells = omega (arith, here, as_many) in
      get_or-map pair_of made k no_version d (omega (arith, here, long))
      ∙ ap pair_of (version_is (origin ∷ []) dims vals cells k 0 inside)
      ∙ (λ i. (items_across (pos 0) k dims (longer count k dims here are.coords) i, items_across Null k vals (longer count k vals here are.vals) i))
      ∙ sym (get_or-map-range_with_len F 0 count k k d here (omega arith)))

-- ---- the columns of attributes

module _ {X : Type 0} (f : Attr → X → Val) (xs : List X) where
  vals_there : (k : ℕ) (d : X) (attrs : List Attr) → k < length xs → map (λ (column : List Val). get_or column k Null) (map (λ a. map (f a) xs) attrs) ≡ map (λ a. f a (get_or xs k d)) attrs
  vals_there k d [] within = refl
  vals_there k d (a ∷ attrs) within =
      ap (λ val. val ∷ map (λ (column : List Val). get_or column k Null) (map (λ b. map (f b) xs) attrs)) (get_or-map (f a) xs k d Null within)
      ∙ ap (λ vs. f a (get_or xs k d) ∷ vs) (vals_there k d attrs within)

  vals_long : (attrs : List Attr) → All (λ (column : List Val). length column ≡ length xs) (map (λ a. map (f a) xs) attrs)
  vals_long [] = All-nil (λ (column : List Val). length column ≡ length xs)
  vals_long (a ∷ attrs) = All-cons (λ (column : List Val). length column ≡ length xs) (map (f a) xs) (map (λ b. map (f b) xs) attrs) (length-map xs (f a)) (vals_long attrs)

  -- they have a value for each item
  pub columns_shown : (coords dims : List (List ℤ)) (attrs : List Attr) (vals : List (List Val)) → HaveCoords coords dims → length coords ≡ length xs → vals ≡ map (λ a. map (f a) xs) attrs → AreShown (length xs) dims vals
  columns_shown coords dims attrs vals have many is = record {
    some = have.some;
    few = have.few;
    coords = λ i d within. have.long i d within ∙ many;
    vals = subst (λ (vs : List (List Val)). All (λ (column : List Val). length column ≡ length xs) vs) (sym is) (vals_long attrs);
  }

  -- the cells of the columns are those whose coordinates and values these are
  pub cells_are : (coords dims : List (List ℤ)) (attrs : List Attr) (vals : List (List Val)) (es : List (List ℤ × List Val)) (e : List ℤ × List Val) (d : X)
      → HaveCoords coords dims → length coords ≡ length xs → vals ≡ map (λ a. map (f a) xs) attrs → length es ≡ length xs
      → ((k : ℕ) → k < length xs → get_or es k e ≡ (get_or coords k [], map (λ a. f a (get_or xs k d)) attrs)) → cells_across dims vals (length xs) ≡ es
  cells_are coords dims attrs vals es e d have many is all each =
      let n = length xs in
      let F = cell_across dims vals in
      same_lists (cells_across dims vals n) es (length-map-range_with_len F 0 n ∙ sym all)
      (λ k g within.
      let here : k < n = omega (arith, within, length-map-range_with_len F 0 n) in
      let pair : F k ≡ (get_or coords k [], map (λ a. f a (get_or xs k d)) attrs) =
      (λ i. (have.there k (omega (arith, here, many)) i, (ap (map (λ (column : List Val). get_or column k Null)) is ∙ vals_there k d attrs here) i)) in
      get_or-map-range_with_len F 0 n k k g here (omega arith) ∙ pair ∙ sym (each k here) ∙ get_or_default es k e g (omega (arith, here, all)))

-- ---- the coordinates

module _ (versions : List Version) where
  abbrev coords_all : List (List ℤ)
  coords_all = map (λ (v : Version). v.coords) versions

  coords_there : (k : ℕ) → k < length versions → (ds : List ℕ) → map (λ (column : List ℤ). get_or column k (pos 0)) (map (column_of versions) ds) ≡ map (λ dim. get_or (get_or versions k no_version).coords dim (pos 0)) ds
  coords_there k within [] = refl
  coords_there k within (d ∷ ds) =
      ap (λ x. x ∷ map (λ (column : List ℤ). get_or column k (pos 0)) (map (column_of versions) ds)) (get_or-map (λ (v : Version). get_or v.coords d (pos 0)) versions k no_version (pos 0) within)
      ∙ ap (λ xs. get_or (get_or versions k no_version).coords d (pos 0) ∷ xs) (coords_there k within ds)

  coords_long : (ds : List ℕ) → All (λ (column : List ℤ). length column ≡ length coords_all) (map (column_of versions) ds)
  coords_long [] = All-nil (λ (column : List ℤ). length column ≡ length coords_all)
  coords_long (d ∷ ds) =
      All-cons (λ (column : List ℤ). length column ≡ length coords_all) (column_of versions d) (map (column_of versions) ds)
      (length-map versions (λ (v : Version). get_or v.coords d (pos 0)) ∙ sym (length-map versions (λ (v : Version). v.coords))) (coords_long ds)

  -- columns of all coordinates of versions have them
  pub coords_have : (count : ℕ) (dims : List (List ℤ)) → 1 ≤ count → count ≤ 8 → All (λ (v : Version). length v.coords ≡ count) versions → dims ≡ map (column_of versions) (range_with_len 0 count) → HaveCoords coords_all dims
  coords_have count dims some few wide is =
      let many : length dims ≡ count = ap length is ∙ length-map (range_with_len 0 count) (column_of versions) ∙ length-range_with_len 0 count in
      record {
        some = omega (arith, many, some);
        few = omega (arith, many, few);
        long = subst (λ (cs : List (List ℤ)). All (λ (column : List ℤ). length column ≡ length coords_all) cs) (sym is) (coords_long (range_with_len 0 count));
        there = λ k within.
            let here : k < length versions = omega (arith, within, length-map versions (λ (v : Version). v.coords)) in
            ap (map (λ (column : List ℤ). get_or column k (pos 0))) is ∙ coords_there k here (range_with_len 0 count)
            ∙ whole_column (pos 0) count (get_or versions k no_version).coords (wide k no_version here)
            ∙ sym (get_or-map (λ (v : Version). v.coords) versions k no_version [] here);
      }

-- ---- the cells of versions

module _ (r : Reading) (schemas : List Schema) where
  abbrev attrs : List Attr
  attrs = (r.current).attrs

  -- the columns of versions have their cells as they show
  pub versions_cells : (versions : List Version) (coords dims : List (List ℤ)) (vals : List (List Val)) → HaveCoords coords dims → coords ≡ map (λ (v : Version). v.coords) versions → vals ≡ map (version_vals r schemas versions) attrs
      → cells_across dims vals (length versions) ≡ map (cell_shown r schemas) versions
  versions_cells versions coords dims vals have same is =
      let many : length coords ≡ length versions = ap length same ∙ length-map versions (λ (v : Version). v.coords) in
      cells_are (version_val r schemas) versions coords dims attrs vals (map (cell_shown r schemas) versions) (cell_shown r schemas no_version) no_version have many is (length-map versions (cell_shown r schemas))
      (λ k within.
      get_or-map (cell_shown r schemas) versions k no_version (cell_shown r schemas no_version) within
      ∙ ap (λ (c : List ℤ). (c, map (λ a. version_val r schemas a (get_or versions k no_version)) attrs)) (sym (ap (λ (cs : List (List ℤ)). get_or cs k []) same ∙ get_or-map (λ (v : Version). v.coords) versions k no_version [] within)))

  -- what is left in a slot shows as the newest version does
  slot_row : (newest : Option Version) → map (λ a. slot_val r schemas a (slot_left r schemas newest)) attrs ≡ row_or_fill r schemas newest
  slot_row None = refl
  slot_row (Some v) = by_test (is_erased_by r schemas v)
    where
      by_test : (b : Bool) → map (λ a. slot_val r schemas a (cond (not b) (Some v) None)) attrs ≡ option_map_or (λ (row : List Val). row) (cond (not b) (Some (map (λ a. version_val r schemas a v) attrs)) None) (fills_of attrs)
      by_test true = refl
      by_test false = refl

  -- the columns of slots have the values of the cells of the box
  pub slots_over : (got : List Version) (slots : List (Option Version)) (vals : List (List Val))
      → slots ≡ map (slot_left r schemas) (slots_in (r.ready).sub (newest_of got)) → vals ≡ map (slot_vals r schemas slots) attrs → cells_over (coords_of_box (r.ready).sub) vals ≡ cells_filled r schemas got
  slots_over got slots vals left is =
      let cs = coords_of_box (r.ready).sub in
      let newest : List ℤ → Option Version = λ c. finite.get (newest_of got) c in
      let cell : List ℤ → List ℤ × List Val = λ c. (c, row_or_fill r schemas (newest c)) in
      let stands = slots_in (r.ready).sub (newest_of got) in
      let count : length stands ≡ length cs = length-map cs newest in
      let many : length slots ≡ length cs = ap length left ∙ length-map stands (slot_left r schemas) ∙ count in
      let F : ℕ → List ℤ × List Val = λ k. (get_or cs k [], map (λ (column : List Val). get_or column k Null) vals) in
      same_lists (cells_over cs vals) (cells_filled r schemas got) (length-map-range_with_len F 0 (length cs) ∙ sym (length-map cs cell))
      (λ k g within.
      let here : k < length cs = omega (arith, within, length-map-range_with_len F 0 (length cs)) in
      let slot : get_or slots k None ≡ slot_left r schemas (newest (get_or cs k [])) =
      ap (λ (os : List (Option Version)). get_or os k None) left ∙ get_or-map (slot_left r schemas) stands k None None (omega (arith, here, count)) ∙ ap (slot_left r schemas) (get_or-map newest cs k [] None here) in
      let row : map (λ (column : List Val). get_or column k Null) vals ≡ row_or_fill r schemas (newest (get_or cs k [])) =
      ap (map (λ (column : List Val). get_or column k Null)) is ∙ vals_there (slot_val r schemas) slots k None attrs (omega (arith, here, many))
      ∙ ap (λ (o : Option Version). map (λ a. slot_val r schemas a o) attrs) slot ∙ slot_row (newest (get_or cs k [])) in
      get_or-map-range_with_len F 0 (length cs) k k g here (omega arith) ∙ ap (λ (vs : List Val). (get_or cs k [], vs)) row ∙ sym (get_or-map cell cs k [] g here))

  -- they are as long as the box has cells
  pub filled_long : (got : List Version) → All (λ (column : List Val). length column ≡ cells_of (r.ready).sub) (vals_filled r schemas got)
  filled_long got =
      let cs = coords_of_box (r.ready).sub in
      let stands = slots_in (r.ready).sub (newest_of got) in
      let many : length (map (slot_left r schemas) stands) ≡ cells_of (r.ready).sub =
      length-map stands (slot_left r schemas) ∙ length-map cs (λ (c : List ℤ). finite.get (newest_of got) c) ∙ length-coords_between ((r.ready).sub).low ((r.ready).sub).high in
      subst (λ (n : ℕ). All (λ (column : List Val). length column ≡ n) (vals_filled r schemas got)) many (vals_long (slot_val r schemas) (map (slot_left r schemas) stands) attrs)

-- the cells of a table over a box
pub box_pairs : (o : Origin) (vals : List (List Val)) (sub : SubBox) → IsBox sub → All (λ (column : List Val). length column ≡ cells_of sub) vals
    → map pair_of (versions_over o vals 0 (coords_in_order Row sub)) ≡ cells_over (coords_of_box sub) vals
box_pairs o vals sub valid long =
    let made = versions_over o vals 0 (coords_in_order Row sub) in
    let cs = coords_of_box sub in
    let F : ℕ → List ℤ × List Val = λ k. (get_or cs k [], map (λ (column : List Val). get_or column k Null) vals) in
    let count : length made ≡ cells_of sub = count_is o vals Row sub valid in
    let many : length cs ≡ cells_of sub = length-coords_between sub.low sub.high in
    same_lists (map pair_of made) (cells_over cs vals) (length-map made pair_of ∙ count ∙ sym many ∙ sym (length-map-range_with_len F 0 (length cs)))
    (λ k d within.
    let here : k < length made = omega (arith, within, length-map made pair_of) in
    let inside : k < length cs = omega (arith, here, count, many) in
    let there : slice_get (coords_in_order Row sub) k ≡ Some (get_or cs k []) = ap (λ (es : List (List ℤ)). slice_get es k) (in_row_order sub) ∙ slice_get-get_or cs k [] inside in
    let coords = coords_are o vals Row sub k (get_or cs k []) here there in
    let row = (version_over o vals Row sub k here).2 ∙ items_across Null k vals (longer (cells_of sub) k vals (omega (arith, here, count)) long) in
    get_or-map pair_of made k no_version d here ∙ (λ i. (sym coords i, row i)) ∙ sym (get_or-map-range_with_len F 0 (length cs) k k d inside (omega arith)))
