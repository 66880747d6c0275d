-- Columns at rows.
use Rattle.std.proofs.Common.{◌≡◌, ℕ, ◌+◌, ◌<◌, ◌≤◌, ◌⊎◌, inl, inr, ℤ, pos, List, [], ◌∷◌, ◌++◌, length, map, get_or, take, drop, replicate, refl, sym, ap, subst, ◌∙◌, arith}
use Rattle.std.specs.List.{All, range_with_len}
use Rattle.std.proofs.lemmas.Bool.{cases_lt}
use Rattle.std.proofs.lemmas.List.{same_lists, get_or_default, get_or_past, drop_more, take_more, take_all, map-append, length-drop}
use Rattle.std.proofs.lemmas.List.FromFn.{get_or-map-range_with_len, length-map-range_with_len}
use Rattle.std.proofs.lemmas.List.Elements.{All-head, All-tail}
use Rattle.ts_base.specs.declared.values.Val.{Val}
use Rattle.ts_base.specs.declared.values.Val.TheVariants.{Null}
use Rattle.ts_gather.specs.Rows.{AreRows, AreAscending, at_rows, chosen}

-- at all rows a column is itself
pub whole_column : {X : Type 0} (d : X) (count : ℕ) (column : List X) → length column ≡ count → at_rows d (range_with_len 0 count) column ≡ column
whole_column {X = X} d count column long =
    let F = λ (k : ℕ). get_or column k d in
    same_lists (map F (range_with_len 0 count)) column (length-map-range_with_len F 0 count ∙ sym long)
    (λ k e within. get_or-map-range_with_len F 0 count k k e (omega (arith, within, length-map-range_with_len F 0 count)) (omega arith) ∙ get_or_default column k d e (omega (arith, within, long, length-map-range_with_len F 0 count)))

-- so are all columns of coordinates
pub coords_whole : (count : ℕ) (rows : List ℕ) (coords : List (List ℤ)) → AreRows count rows → length rows ≡ count → All (λ (column : List ℤ). length column ≡ count) coords → coords ≡ map (at_rows (pos 0) rows) coords
coords_whole count rows coords are many long = rw (are.whole many) (each coords long)
  where
    each : (columns : List (List ℤ)) → All (λ (column : List ℤ). length column ≡ count) columns → columns ≡ map (at_rows (pos 0) (range_with_len 0 count)) columns
    each [] all = refl
    each (c ∷ columns) all =
        let L = λ (column : List ℤ). length column ≡ count in
        ap (λ (x : List ℤ). x ∷ columns) (sym (whole_column (pos 0) count c (All-head L c columns all)))
        ∙ ap (λ xs. at_rows (pos 0) (range_with_len 0 count) c ∷ xs) (each columns (All-tail L c columns all))

-- and those of values
pub moved_whole : (count : ℕ) (rows attrs : List ℕ) (vals columns : List (List Val)) → AreRows count rows → length rows ≡ count → All (λ (column : List Val). length column ≡ count) vals → AreAscending attrs (length vals)
    → columns ≡ map (λ attr. get_or vals attr []) attrs → columns ≡ chosen attrs rows vals
moved_whole count rows attrs vals columns are many long rising is = is ∙ rw (are.whole many) (each attrs (λ i d within. subst (λ n. n < length vals) (get_or_default attrs i 0 d within) (rising.below i within)))
  where
    each : (bs : List ℕ) → All (λ attr. attr < length vals) bs → map (λ attr. get_or vals attr []) bs ≡ chosen bs (range_with_len 0 count) vals
    each [] all = refl
    each (a ∷ bs) all =
        let B = λ (attr : ℕ). attr < length vals in
        ap (λ (x : List Val). x ∷ map (λ attr. get_or vals attr []) bs) (sym (whole_column Null count (get_or vals a []) (long a [] (All-head B a bs all))))
        ∙ ap (λ xs. at_rows Null (range_with_len 0 count) (get_or vals a []) ∷ xs) (each bs (All-tail B a bs all))

-- a place without a column has nulls
pub none_there : (vals : List (List Val)) (attr : ℕ) (rows : List ℕ) (column : List Val) → length vals ≤ attr → column ≡ replicate (length rows) Null → column ≡ at_rows Null rows (get_or vals attr [])
none_there vals attr rows column past is = is ∙ sym (ap (at_rows Null rows) (get_or_past vals attr [] past) ∙ none rows)
  where
    none : (ks : List ℕ) → at_rows Null ks [] ≡ replicate (length ks) Null
    none [] = refl
    none (k ∷ ks) = ap (λ vs. Null ∷ vs) (none ks)

-- ---- columns one after another

-- the columns so far, and those that are left; the next place is not among those that are gone
pub record Moving (attrs : List ℕ) (vals columns rest : List (List Val)) (next place : ℕ) : Type 0 where
  pub left : rest ≡ drop place vals
  pub within : place ≤ length vals
  pub few : next ≤ length attrs
  pub ahead : next < length attrs → place ≤ get_or attrs next 0
  pub made : columns ≡ map (λ attr. get_or vals attr []) (take next attrs)

pub moving_none : (attrs : List ℕ) (vals columns rest : List (List Val)) → columns ≡ [] → rest ≡ vals → Moving attrs vals columns rest 0 0
moving_none attrs vals columns rest none all = record { left = all; within = omega arith; few = omega arith; ahead = λ _. omega arith; made = none }

module _ (attrs : List ℕ) (vals columns rest more : List (List Val)) (column : List Val) (next place : ℕ) (moving : Moving attrs vals columns rest next place) (steps : rest ≡ column ∷ more) where
  there : place < length vals
  there = omega (arith, ap length steps, ap length moving.left, length-drop place vals, moving.within)

  split : column ∷ more ≡ get_or vals place [] ∷ drop (place + 1) vals
  split = sym steps ∙ moving.left ∙ drop_more vals place [] there

  behind : more ≡ drop (place + 1) vals
  behind = let e = split in cc

  -- the next column is pushed
  pub moving_more : (other : List (List Val)) → AreAscending attrs (length vals) → next < length attrs → get_or attrs next 0 ≡ place → other ≡ columns ++ column ∷ [] → Moving attrs vals other more (next + 1) (place + 1)
  moving_more other rising here is push =
      let same : column ≡ get_or vals place [] = (let e = split in cc) in
      record {
        left = behind;
        within = omega (arith, there);
        few = omega (arith, here);
        ahead = λ on. omega (arith, rising.rising next on, is);
        made =
            push ∙ ap (λ cs. cs ++ column ∷ []) moving.made ∙ ap (λ c. map (λ attr. get_or vals attr []) (take next attrs) ++ c ∷ []) (same ∙ ap (λ n. get_or vals n []) (sym is))
            ∙ sym (map-append (λ attr. get_or vals attr []) (take next attrs) (get_or attrs next 0 ∷ [])) ∙ ap (map (λ attr. get_or vals attr [])) (sym (take_more attrs next 0 here));
      }

  -- another one is left out
  pub moving_past : ((next < length attrs) × (get_or attrs next 0 ≡ place) → ⊥) → Moving attrs vals columns more next (place + 1)
  moving_past other = record {
    left = behind;
    within = omega (arith, there);
    few = moving.few;
    ahead = λ on. let apart : get_or attrs next 0 ≡ place → ⊥ = λ e. other (on, e) in omega (arith, moving.ahead on, apart);
    made = moving.made;
  }

  pub moving_there : place < length vals
  moving_there = there

-- behind the last column there are all
pub moving_all : (attrs : List ℕ) (vals columns rest : List (List Val)) (next place : ℕ) → Moving attrs vals columns rest next place → AreAscending attrs (length vals) → length rest ≡ 0
    → columns ≡ map (λ attr. get_or vals attr []) attrs
moving_all attrs vals columns rest next place moving rising none =
    let end : length vals ≤ place = omega (arith, ap length moving.left, length-drop place vals, none) in
    moving.made ∙ ap (map (λ attr. get_or vals attr [])) (take_all next attrs (done end (cases_lt next (length attrs))))
  where
    done : length vals ≤ place → (next < length attrs) ⊎ (length attrs ≤ next) → length attrs ≤ next
    done end (inl on) = absurd (omega (arith, end, moving.ahead on, rising.below next on))
    done end (inr over) = over
