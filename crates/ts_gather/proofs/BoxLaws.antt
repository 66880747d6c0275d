-- Tables of boxes.
use Rattle.std.proofs.Common.{◌≡◌, ℕ, suc, ◌+◌, ◌<◌, ◌≤◌, true, ◌&&◌, ℤ, List, [], ◌∷◌, length, map, get_or, replicate, refl, sym, ap, subst, ◌∙◌, arith}
use Rattle.std.specs.Prelude.{Result, Ok, Err, IfOk}
use Rattle.std.specs.List.{All, range_with_len}
use Rattle.std.specs.Ordering.{int_eq}
use Rattle.std.specs.Cmp.Lexicographic.{pointwise}
use Rattle.std.proofs.lemmas.Bool.{and_parts}
use Rattle.std.proofs.lemmas.List.{same_lists, length-map, get_or-map}
use Rattle.std.proofs.lemmas.List.FromFn.{length-range_with_len, get_or-range_with_len}
use Rattle.std.proofs.lemmas.List.Elements.{All-from_get_or}
use Rattle.std.proofs.lemmas.Option.{slice_get-get_or}
use Rattle.ts_base.proofs.Equal.{coords_decide}
use Rattle.ts_base.specs.declared.values.Val.{Val}
use Rattle.ts_base.specs.declared.values.Val.TheVariants.{Null}
use Rattle.ts_domain.specs.declared.orders.Order.{Order}
use Rattle.ts_domain.specs.declared.boxes.SubBox.{SubBox}
use Rattle.ts_domain.specs.Boxes.{IsBox, cells_of, Covers}
use Rattle.ts_order.specs.Orders.{coords_in_order}
use Rattle.ts_order.proofs.OrderedCoords.{length-coords_in_order, is_in_box-slice_get, place_of-only}
use Rattle.ts_table.specs.declared.origins.Origin.{Origin}
use Rattle.ts_table.specs.Tables.{across}
use Rattle.ts_table.specs.BoxTables.{versions_over, IsBoxTable}
use Rattle.ts_gather.specs.Rows.{AreRows, AreAscending, chosen}
use Rattle.ts_gather.specs.Parts.{place_in, places_over, vals_over, version_over}
use Rattle.ts_gather.proofs.RowLaws.{moved_whole, none_there}
use Rattle.ts_gather.proofs.TableRows.{row_there, all_chosen}
use Rattle.ts_gather.proofs.PartLaws.{fewer}

-- what holds of a value holds of it where there is one
pub ok_then : {A E : Type 0} (P Q : A → Type 0) (r : Result A E) → ((x : A) → P x → Q x) → IfOk r P → IfOk r Q
ok_then P Q (Ok x) then holds = then x holds
ok_then P Q (Err e) then holds = tt

-- there are as many places as cells
pub places_many : (order : Order) (outer inner : SubBox) → IsBox inner → length (places_over order outer inner) ≡ cells_of inner
places_many order outer inner valid = length-map (coords_in_order order inner) (place_in order outer) ∙ length-coords_in_order order inner valid

-- ---- a box in itself

-- boxes whose corners are found the same are the same
pub same_boxes : (a b : SubBox) → (pointwise int_eq a.low b.low && pointwise int_eq a.high b.high) ≡ true → a ≡ b
same_boxes a b found =
    let parts = and_parts (pointwise int_eq a.low b.low) (pointwise int_eq a.high b.high) found in
    let low = (coords_decide a.low b.low).0 parts.0 in
    let high = (coords_decide a.high b.high).0 parts.1 in
    λ i. record { low = low i; high = high i }

-- the places of the cells of a box in itself are all in turn
pub places_whole : (order : Order) (sub : SubBox) → IsBox sub → places_over order sub sub ≡ range_with_len 0 (cells_of sub)
places_whole order sub valid =
    let coords = coords_in_order order sub in
    let many = places_many order sub sub valid in
    same_lists (places_over order sub sub) (range_with_len 0 (cells_of sub)) (many ∙ sym (length-range_with_len 0 (cells_of sub)))
    (λ k d within.
    let below : k < cells_of sub = omega (arith, within, many) in
    let few : k < length (coords_in_order order sub) = omega (arith, below, length-coords_in_order order sub valid) in
    let c = get_or coords k [] in
    let there = slice_get-get_or (coords_in_order order sub) k [] few in
    let start : 0 + k ≡ k = omega arith in
    get_or-map (place_in order sub) (coords_in_order order sub) k [] d few ∙ sym (place_of-only order sub c (is_in_box-slice_get order sub valid k c there) k there) ∙ sym (get_or-range_with_len 0 (cells_of sub) k d below ∙ start))

-- so columns that are moved are those of its cells
pub moved_over : (order : Order) (outer inner : SubBox) (attrs : List ℕ) (vals columns : List (List Val)) → inner ≡ outer → IsBox inner → All (λ (column : List Val). length column ≡ cells_of outer) vals → AreAscending attrs (length vals)
    → columns ≡ map (λ attr. get_or vals attr []) attrs → columns ≡ chosen attrs (places_over order outer inner) vals
moved_over order outer inner attrs vals columns same valid long rising is =
    let whole = places_whole order outer (subst IsBox same valid) in
    let count = cells_of outer in
    let many : length (places_over order outer outer) ≡ cells_of outer = places_many order outer outer (subst IsBox same valid) in
    let are : AreRows (cells_of outer) (places_over order outer outer) = record {
      within = All-from_get_or (λ k. k < count) (places_over order outer outer) 0
          (λ i within. let here : i < cells_of outer = omega (arith, within, many) in omega (arith, here, ap (λ (ks : List ℕ). get_or ks i 0) whole ∙ get_or-range_with_len 0 (cells_of outer) i 0 here));
      whole = λ _. whole;
    } in
    moved_whole count (places_over order outer outer) attrs vals columns are many long rising is ∙ ap (λ (sub : SubBox). chosen attrs (places_over order outer sub) vals) (sym same)

-- a place without a column has nulls
pub none_over : (order : Order) (outer inner : SubBox) (vals : List (List Val)) (attr count : ℕ) (column : List Val) → IsBox inner → length vals ≤ attr → count ≡ cells_of inner → column ≡ replicate count Null → column ≡ vals_over order outer inner (get_or vals attr [])
none_over order outer inner vals attr count column valid past many is =
    none_there vals attr (places_over order outer inner) column past (is ∙ ap (λ n. replicate n Null) (many ∙ sym (places_many order outer inner valid)))

-- ---- versions

-- versions over coordinates, where what stands at a place of each column is told by the coordinates there
over_are : (o : Origin) (columns : List (List Val)) (row : List ℤ → List Val) (place : ℕ) (cs : List (List ℤ)) → ((i : ℕ) → i < length cs → across (place + i) columns ≡ row (get_or cs i []))
    → versions_over o columns place cs ≡ map (λ c. record { key = o.key; schema = o.schema; coords = c; row = row c }) cs
over_are o columns row place [] same = refl
over_are o columns row place (c ∷ cs) same =
    let start : place ≡ place + 0 = omega arith in
    let here : across place columns ≡ row c = ap (λ (p : ℕ). across p columns) start ∙ same 0 (omega arith) in
    let rest = over_are o columns row (suc place) cs (λ i within. let next : suc place + i ≡ place + suc i = omega arith in ap (λ (p : ℕ). across p columns) next ∙ same (suc i) (omega (arith, within))) in
    λ i. record { key = o.key; schema = o.schema; coords = c; row = here i } ∷ rest i

module _ (o : Origin) (order : Order) (outer inner : SubBox) (attrs : List ℕ) (vals columns : List (List Val)) (is : columns ≡ chosen attrs (places_over order outer inner) vals) where
  -- the columns make a table of the box
  pub box_table : IsBox inner → Covers outer inner → cells_of outer < 18446744073709551615 → IsBoxTable inner columns
  box_table valid covers few = record {
    valid = valid;
    few = omega (arith, few, fewer order outer inner valid covers);
    long = subst (λ (cs : List (List Val)). All (λ (column : List Val). length column ≡ cells_of inner) cs) (sym is) (all_chosen (places_over order outer inner) attrs (cells_of inner) vals (places_many order outer inner valid));
  }

  -- it is that of its cells
  pub box_is : versions_over o columns 0 (coords_in_order order inner) ≡ map (version_over o attrs order outer vals) (coords_in_order order inner)
  box_is =
      let rows = places_over order outer inner in
      over_are o columns (λ c. map (λ attr. get_or (map (λ column. get_or column (place_in order outer c) Null) vals) attr Null) attrs) 0 (coords_in_order order inner)
      (λ i within.
      let inside : i < length (places_over order outer inner) = omega (arith, within, length-map (coords_in_order order inner) (place_in order outer)) in
      let start : 0 + i ≡ i = omega arith in
      ap (λ (p : ℕ). across p columns) start ∙ ap (across i) is ∙ row_there vals rows attrs i inside
      ∙ ap (λ (k : ℕ). map (λ attr. get_or (map (λ column. get_or column k Null) vals) attr Null) attrs) (get_or-map (place_in order outer) (coords_in_order order inner) i [] 0 within))
