-- Maps that have a row at each coordinate of a box.
use Rattle.std.proofs.Common.{◌≡◌, ℕ, zero, suc, ◌+◌, ◌<◌, ◌≤◌, ℤ, Bool, true, false, cond, ◌⊎◌, inl, inr, List, [], ◌∷◌, length, Option, Some, None, int_cmp, refl, sym, ◌∙◌, ap, subst, arith}
use Rattle.std.specs.Prelude.{slice_get, map as list_map}
use Rattle.std.specs.declared.cmp.Ordering.{Ordering}
use Rattle.std.specs.declared.cmp.Ordering.TheVariants.{Less}
use Rattle.std.specs.Cmp.{Equal-is}
use Rattle.std.specs.Cmp.Lexicographic.{slice_cmp}
use Rattle.std.specs.FinMap as map
use Rattle.std.specs.List.{AllByRecursion}
use Rattle.std.specs.List.Sorted.{IsStrictlySortedBy}
use Rattle.std.specs.Map.{keys_of}
use Rattle.std.specs.Option.{is_some, option_or, option_map_or}
use Rattle.std.specs.Ordering.{eq_by_cmp, is_eq}
use Rattle.std.proofs.lemmas.Bool.{true≢false, cases_order}
use Rattle.std.proofs.lemmas.Cmp.{tied_itself}
use Rattle.std.proofs.lemmas.Option.{none-some, same_Some, slice_get_within}
use Rattle.ts_base.specs.declared.values.Val.{Val}
use Rattle.ts_base.specs.Coords.{coords_eq}
use Rattle.ts_domain.specs.declared.boxes.SubBox.{SubBox}
use Rattle.ts_domain.specs.declared.orders.Order.TheVariants.{Row}
use Rattle.ts_domain.specs.Bounds.{is_between, cells_between, coords_between}
use Rattle.ts_domain.specs.Boxes.{is_in_box, cells_of}
use Rattle.ts_domain.proofs.Between.{length-coords_between}
use Rattle.ts_order.specs.Orders.{coords_in_order, Ascends}
use Rattle.ts_order.specs.Places.{coords_of_place, place_of}
use Rattle.ts_order.proofs.OrderedCoords.{place_of-cells, slice_get-place_of}
use Rattle.ts_order.proofs.PlaceLaws.{slice_get-coords_between, is_between-coords_of_place, place_of-coords_of_place, place_of-below, coords_of_place-place_of, slice_cmp-place_of, nat_cmp-lt}
use Rattle.ts_store.proofs.Trees.{entries-tree}
use Rattle.ts_model.specs.Answers.{Cells}
use Rattle.ts_model.specs.Scans.{AreShown}
use Rattle.ts_model.proofs.Newest.{coords_total, coords_exact, coords_same, coords_itself}
use Rattle.ts_model.proofs.Scans.{get_more}

-- ---- lists in strict order

module _ {A : Type 0} where
  -- what holds at each place holds of all
  all_at : (P : A → Type 0) (xs : List A) → ((place : ℕ) (x : A) → slice_get xs place ≡ Some x → P x) → AllByRecursion P xs
  all_at P [] each = tt
  all_at P (x ∷ xs) each = (each 0 x refl, all_at P xs (λ place y at. each (suc place) y at))

  -- what ascends is in strict order
  sorted_from_Ascends : (cmp : A → A → Ordering) (xs : List A) → Ascends cmp xs → IsStrictlySortedBy cmp xs
  unfolding IsStrictlySortedBy
  sorted_from_Ascends cmp [] ascends = tt
  sorted_from_Ascends cmp (x ∷ xs) ascends = (
    all_at (λ y. cmp x y ≡ Less) xs (λ place y at. ascends 0 (suc place) x y (omega arith) refl at),
    sorted_from_Ascends cmp xs (λ i j y z later at_i at_j. ascends (suc i) (suc j) y z (omega arith) at_i at_j),
  )

-- ---- a value at each key of a list

module _ {X : Type 0} (f : List ℤ → X) where
  -- each of the keys with its value
  abbrev pub tabled : List (List ℤ) → List (List ℤ × X)
  tabled ks = list_map (λ k. (k, f k)) ks

  -- its keys are these
  keys_tabled : (ks : List (List ℤ)) → keys_of (tabled ks) ≡ ks
  keys_tabled [] = refl
  keys_tabled (k ∷ ks) = ap (λ l. k ∷ l) (keys_tabled ks)

  -- at a key that is there its value is found
  find_there : (q : List ℤ) (ks : List (List ℤ)) (place : ℕ) → slice_get ks place ≡ Some q → map.find (slice_cmp int_cmp) q (tabled ks) ≡ Some (f q)
  find_there q [] place at = absurd (none-some q at)
  find_there q (k ∷ ks) place at = by_test (λ place at. find_there q ks place at) (eq_by_cmp (slice_cmp int_cmp) q k) refl
    where
      later : ((place : ℕ) → slice_get ks place ≡ Some q → map.find (slice_cmp int_cmp) q (tabled ks) ≡ Some (f q)) → (place : ℕ) → eq_by_cmp (slice_cmp int_cmp) q k ≡ false → slice_get (k ∷ ks) place ≡ Some q
          → map.find (slice_cmp int_cmp) q (tabled ks) ≡ Some (f q)
      later behind zero apart at = absurd (true≢false (sym (ap is_eq (tied_itself coords_total q)) ∙ ap (λ l. eq_by_cmp (slice_cmp int_cmp) q l) (sym (same_Some k q at)) ∙ apart))
      later behind (suc place) apart at = behind place at

      by_test : ((place : ℕ) → slice_get ks place ≡ Some q → map.find (slice_cmp int_cmp) q (tabled ks) ≡ Some (f q)) → (t : Bool) → eq_by_cmp (slice_cmp int_cmp) q k ≡ t
          → cond t (Some (f k)) (map.find (slice_cmp int_cmp) q (tabled ks)) ≡ Some (f q)
      by_test behind true tie = ap (λ l. Some (f l)) (sym (coords_exact q k ((Equal-is (slice_cmp int_cmp q k)).0 tie)))
      by_test behind false apart = later behind place apart at

  -- at another key nothing is found
  find_elsewhere : (q : List ℤ) (ks : List (List ℤ)) → ((place : ℕ) → slice_get ks place ≡ Some q → ⊥) → map.find (slice_cmp int_cmp) q (tabled ks) ≡ None
  find_elsewhere q [] nowhere = refl
  find_elsewhere q (k ∷ ks) nowhere = by_test (find_elsewhere q ks (λ place at. nowhere (suc place) at)) (eq_by_cmp (slice_cmp int_cmp) q k) refl
    where
      by_test : map.find (slice_cmp int_cmp) q (tabled ks) ≡ None → (t : Bool) → eq_by_cmp (slice_cmp int_cmp) q k ≡ t → cond t (Some (f k)) (map.find (slice_cmp int_cmp) q (tabled ks)) ≡ None
      by_test later true tie = absurd (nowhere 0 (ap Some (sym (coords_exact q k ((Equal-is (slice_cmp int_cmp q k)).0 tie)))))
      by_test later false apart = later

-- ---- the coordinates between two corners

module _ (ls hs : List ℤ) (long : length hs ≡ length ls) where
  place_within : (place : ℕ) (c : List ℤ) → slice_get (coords_between ls hs) place ≡ Some c → place < cells_between ls hs
  place_within place c at = rw (← length-coords_between ls hs) (slice_get_within (coords_between ls hs) place c at)

  -- what stands at a place is the coordinates of that place
  at_place : (place : ℕ) (c : List ℤ) → slice_get (coords_between ls hs) place ≡ Some c → coords_of_place ls hs place ≡ c
  at_place place c at = same_Some _ _ (sym (slice_get-coords_between ls hs place long (place_within place c at)) ∙ at)

  between_at : (place : ℕ) (c : List ℤ) → slice_get (coords_between ls hs) place ≡ Some c → is_between ls hs c ≡ true
  between_at place c at = subst (λ d. is_between ls hs d ≡ true) (at_place place c at) (is_between-coords_of_place ls hs place long (place_within place c at))

  place_at : (place : ℕ) (c : List ℤ) → slice_get (coords_between ls hs) place ≡ Some c → place_of ls hs c ≡ place
  place_at place c at = ap (place_of ls hs) (sym (at_place place c at)) ∙ place_of-coords_of_place ls hs place long (place_within place c at)

  -- they ascend in row order
  between_ascend : Ascends (slice_cmp int_cmp) (coords_between ls hs)
  between_ascend i j x y later at_i at_j =
      slice_cmp-place_of ls hs x y (between_at i x at_i) (between_at j y at_j)
      ∙ nat_cmp-lt (place_of ls hs x) (place_of ls hs y) (rw (place_at i x at_i, place_at j y at_j) later)

  module _ {X : Type 0} (f : List ℤ → X) where
    -- the map that has a value at each of them
    abbrev pub box_map : map.FinMap (slice_cmp int_cmp) X
    box_map = map.from_entries (tabled f (coords_between ls hs))

    -- its entries are these, in row order
    pub entries_box : map.entries box_map ≡ tabled f (coords_between ls hs)
    entries_box = entries-tree coords_total (tabled f (coords_between ls hs)) (subst (IsStrictlySortedBy (slice_cmp int_cmp)) (sym (keys_tabled f (coords_between ls hs))) (sorted_from_Ascends (slice_cmp int_cmp) (coords_between ls hs) between_ascend))

    -- it has the value at each of them, and nothing elsewhere
    pub get_box : (c : List ℤ) → map.get box_map c ≡ cond (is_between ls hs c) (Some (f c)) None
    get_box c = map.get-from_entries coords_total (tabled f (coords_between ls hs)) c ∙ by_test (is_between ls hs c) refl
      where
        by_test : (t : Bool) → is_between ls hs c ≡ t → map.find (slice_cmp int_cmp) c (tabled f (coords_between ls hs)) ≡ cond t (Some (f c)) None
        by_test true inside =
            find_there f c (coords_between ls hs) (place_of ls hs c)
            (slice_get-coords_between ls hs (place_of ls hs c) long (place_of-below ls hs c inside) ∙ ap Some (coords_of_place-place_of ls hs c inside))
        by_test false outside = find_elsewhere f c (coords_between ls hs) (λ place at. true≢false (sym (between_at place c at) ∙ outside))

-- ---- the fill

-- where there may be a row that, or else the fill
pub or_fill : {A : Type 0} (o : Option A) (fill : A) → Some (option_map_or (λ row. row) o fill) ≡ option_or o (Some fill)
or_fill None fill = refl
or_fill (Some row) fill = refl

-- what is left is shown in every array
pub left_is_shown : {A : Type 0} (inside : Bool) (o fill : Option A) (row : A) → cond inside o None ≡ Some row → cond inside (option_or o fill) None ≡ Some row
left_is_shown true None fill row is = absurd (none-some row is)
left_is_shown true (Some r) fill row is = is
left_is_shown false o fill row is = is

-- a sparse array shows nothing else
pub left_alone : {A : Type 0} (inside : Bool) (o fill : Option A) → fill ≡ None → cond inside o None ≡ cond inside (option_or o fill) None
left_alone true None fill none = sym none
left_alone true (Some row) fill none = refl
left_alone false o fill none = refl

-- where nothing is left the fill is shown
pub fill_is_shown : {A : Type 0} (inside : Bool) (o fill : Option A) (row : A) → inside ≡ true → fill ≡ Some row → cond inside o None ≡ None → cond inside (option_or o fill) None ≡ Some row
fill_is_shown true None fill row is_inside is none = is
fill_is_shown true (Some r) fill row is_inside is none = absurd (none-some r (sym none))
fill_is_shown false o fill row is_inside is none = absurd (true≢false (sym is_inside))

-- ---- a map that is filled, one place after the other

-- the map has what is left or what is shown at each coordinate, and at those that stand before a place what is shown
pub record IsFilled (left shown : List ℤ → Option (List Val)) (cs : List (List ℤ)) (place : ℕ) (m : Cells) : Type 0 where
  pub either : (c : List ℤ) → (map.get m c ≡ left c) ⊎ (map.get m c ≡ shown c)
  pub before : (i : ℕ) (c : List ℤ) → i < place → slice_get cs i ≡ Some c → map.get m c ≡ shown c

module _ (left shown : List ℤ → Option (List Val)) (cs : List (List ℤ)) (over : (c : List ℤ) (row : List Val) → left c ≡ Some row → shown c ≡ Some row) where
  -- at first it has what is left
  pub filled_start : (m : Cells) → AreShown left m → IsFilled left shown cs 0 m
  filled_start m are = record { either = λ c. inl (are c); before = λ i c early at. absurd (omega arith) }

  -- what is shown at one coordinate more
  more : (m : Cells) (place : ℕ) (at : List ℤ) → slice_get cs place ≡ Some at → ((i : ℕ) (c : List ℤ) → i < place → slice_get cs i ≡ Some c → map.get m c ≡ shown c) → map.get m at ≡ shown at
      → (i : ℕ) (c : List ℤ) → i < place + 1 → slice_get cs i ≡ Some c → map.get m c ≡ shown c
  more m place at is before here i c early at_i = by_case (cases_order i place)
    where
      by_case : (i ≡ place) ⊎ ((i < place) ⊎ (place < i)) → map.get m c ≡ shown c
      by_case (inl same) = subst (λ d. map.get m d ≡ shown d) (same_Some at c (sym is ∙ ap (slice_get cs) (sym same) ∙ at_i)) here
      by_case (inr (inl below)) = before i c below at_i
      by_case (inr (inr above)) = absurd (omega arith)

  -- where a row is there it stays
  pub filled_kept : (m : Cells) (place : ℕ) (at : List ℤ) → slice_get cs place ≡ Some at → is_some (map.get m at) ≡ true → IsFilled left shown cs place m → IsFilled left shown cs (place + 1) m
  filled_kept m place at is there filled = record {
    either = filled.either;
    before = more m place at is filled.before (by_case (map.get m at) refl there (filled.either at));
  }
    where
      by_case : (o : Option (List Val)) → map.get m at ≡ o → is_some o ≡ true → (map.get m at ≡ left at) ⊎ (map.get m at ≡ shown at) → map.get m at ≡ shown at
      by_case None has some had = absurd (true≢false (sym some))
      by_case (Some row) has some (inl same) = has ∙ sym (over at row (sym same ∙ has))
      by_case (Some row) has some (inr same) = same

  -- where nothing is the fill is put
  pub filled_more : (m : Cells) (place : ℕ) (at : List ℤ) (row : List Val) → slice_get cs place ≡ Some at → is_some (map.get m at) ≡ false → (left at ≡ None → shown at ≡ Some row) → IsFilled left shown cs place m
      → IsFilled left shown cs (place + 1) (map.insert m at row)
  filled_more m place at row is not_there fill filled = record {
    either = λ c. by_test c (coords_eq at c) refl (filled.either c);
    before = more n place at is (λ i c early at_i. if_before c (coords_eq at c) refl (filled.before i c early at_i)) (just_put at (coords_itself at));
  }
    where
      n : Cells
      n = map.insert m at row

      nothing_in : (o : Option (List Val)) → is_some o ≡ false → o ≡ None
      nothing_in None e = refl
      nothing_in (Some r) e = absurd (true≢false e)

      none : map.get m at ≡ None
      none = nothing_in (map.get m at) not_there

      by_left : (o : Option (List Val)) → left at ≡ o → shown at ≡ None → shown at ≡ Some row
      by_left None nothing shows = fill nothing
      by_left (Some r) something shows = absurd (none-some r (sym shows ∙ over at r something))

      by_case : (map.get m at ≡ left at) ⊎ (map.get m at ≡ shown at) → shown at ≡ Some row
      by_case (inl same) = fill (sym same ∙ none)
      by_case (inr same) = by_left (left at) refl (sym same ∙ none)

      just_put : (c : List ℤ) → coords_eq at c ≡ true → map.get n c ≡ shown c
      just_put c same = get_more m at row c ∙ ap (λ t. cond t (Some row) (map.get m c)) same ∙ sym (ap shown (sym (coords_same at c same)) ∙ by_case (filled.either at))

      as_before : (c : List ℤ) → coords_eq at c ≡ false → map.get n c ≡ map.get m c
      as_before c other = get_more m at row c ∙ ap (λ t. cond t (Some row) (map.get m c)) other

      by_test : (c : List ℤ) (t : Bool) → coords_eq at c ≡ t → (map.get m c ≡ left c) ⊎ (map.get m c ≡ shown c) → (map.get n c ≡ left c) ⊎ (map.get n c ≡ shown c)
      by_test c true same had = inr (just_put c same)
      by_test c false other (inl had) = inl (as_before c other ∙ had)
      by_test c false other (inr had) = inr (as_before c other ∙ had)

      if_before : (c : List ℤ) (t : Bool) → coords_eq at c ≡ t → map.get m c ≡ shown c → map.get n c ≡ shown c
      if_before c true same had = just_put c same
      if_before c false other had = as_before c other ∙ had

-- once all coordinates of a box had their turn the map has what is shown, if nothing else is shown outside the box
pub filled_all : (left shown : List ℤ → Option (List Val)) (sub : SubBox) (m : Cells) (place : ℕ) → cells_of sub ≤ place
    → ((c : List ℤ) → is_in_box sub c ≡ false → left c ≡ shown c) → IsFilled left shown (coords_in_order Row sub) place m → AreShown shown m
filled_all left shown sub m place past outside filled c = by_test (is_in_box sub c) refl
  where
    either_way : left c ≡ shown c → (map.get m c ≡ left c) ⊎ (map.get m c ≡ shown c) → map.get m c ≡ shown c
    either_way same (inl had) = had ∙ same
    either_way same (inr had) = had

    by_test : (t : Bool) → is_in_box sub c ≡ t → map.get m c ≡ shown c
    by_test true inside = filled.before (place_of sub.low sub.high c) c (let below = place_of-cells Row sub c inside in omega arith) (slice_get-place_of Row sub c inside)
    by_test false not_inside = either_way (outside c not_inside) (filled.either c)
