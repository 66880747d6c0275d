-- Of versions in row order the newest one of each cell: one version more.
use Rattle.std.proofs.Common.{◌≡◌, ℕ, zero, suc, ◌+◌, ◌<◌, ◌≤◌, ℤ, Bool, true, false, cond, List, [], ◌∷◌, ◌++◌, length, get_or, take, Option, Some, None, int_cmp, Ordering, Less, Equal, Greater, refl, sym, ap, subst, ◌∙◌, arith, append_assoc}
use Rattle.std.specs.Prelude.{filter}
use Rattle.std.specs.Cmp.Lexicographic.{slice_cmp}
use Rattle.std.specs.FinMap as finite
use Rattle.std.specs.List.{AllByRecursion}
use Rattle.std.specs.List.Sorted.{IsSortedBy, IsStrictlySortedBy}
use Rattle.std.specs.Option.{option_map_or, option_or}
use Rattle.std.specs.Ordering.{is_eq, is_lt, ordering_reverse}
use Rattle.std.proofs.lemmas.Bool.{true≢false}
use Rattle.std.proofs.lemmas.List.{take_more, take_all}
use Rattle.std.proofs.lemmas.List.Elements.{filter-append}
use Rattle.ts_base.specs.declared.heads.Version.{Version}
use Rattle.ts_base.specs.Coords.{coords_eq}
use Rattle.ts_base.specs.Keys.{key_lt, greater, greatest}
use Rattle.ts_model.specs.Merging.{newest_at}
use Rattle.ts_model.specs.Pieces.{newest_of}
use Rattle.ts_model.proofs.Newest.{coords_total, coords_exact, get_newest_of, greater_assoc, version_key}
use Rattle.ts_table.specs.Merges.{newer}
use Rattle.ts_reader.specs.Newest.{AreNewest, ComesBehind, last_coords, newest_of_two}
use Rattle.ts_reader.proofs.Ordered.{newest_of_ascending}

-- how two versions stand
abbrev stand : Version → Version → Ordering
stand v w = slice_cmp int_cmp v.coords w.coords

-- the last one is the one behind the others
last_behind : (vs : List Version) (v : Version) → last_coords (vs ++ v ∷ []) ≡ Some v.coords
last_behind [] v = refl
last_behind (w ∷ vs) v = ap (λ o. option_or o (Some w.coords)) (last_behind vs v)

-- ---- the newest one of a cell

-- the version, where it is one of the cell
abbrev one_at : Version → List ℤ → Option Version
one_at v c = cond (coords_eq v.coords c) (Some v) None

newest_of_one : (v : Version) (c : List ℤ) → newest_at (v ∷ []) c ≡ one_at v c
newest_of_one v c = by_test (coords_eq v.coords c)
  where
    by_test : (b : Bool) → greatest version_key (cond b (v ∷ []) []) ≡ cond b (Some v) None
    by_test true = refl
    by_test false = refl

greatest_append : (xs ys : List Version) → greatest version_key (xs ++ ys) ≡ greater version_key (greatest version_key xs) (greatest version_key ys)
greatest_append [] ys = refl
greatest_append (x ∷ xs) ys = ap (greater version_key (Some x)) (greatest_append xs ys) ∙ sym (greater_assoc version_key (Some x) (greatest version_key xs) (greatest version_key ys))

newest_append : (xs ys : List Version) (c : List ℤ) → newest_at (xs ++ ys) c ≡ greater version_key (newest_at xs c) (newest_at ys c)
newest_append xs ys c =
    ap (greatest version_key) (filter-append (λ (v : Version). coords_eq v.coords c) xs ys) ∙ greatest_append (filter (λ (v : Version). coords_eq v.coords c) xs) (filter (λ (v : Version). coords_eq v.coords c) ys)

-- the newer one of two of a cell is the newest there
newer_at : (l v : Version) (c : List ℤ) → l.coords ≡ v.coords → one_at (newer l v) c ≡ greater version_key (one_at l c) (one_at v c)
newer_at l v c same = by_tests (coords_eq v.coords c) (key_lt l.key v.key) refl refl
  where
    by_tests : (b k : Bool) → coords_eq v.coords c ≡ b → key_lt l.key v.key ≡ k → one_at (newer l v) c ≡ greater version_key (one_at l c) (one_at v c)
    by_tests true true here less = rw (less, same, here, less) refl
    by_tests true false here less = rw (less, same, here, less) refl
    by_tests false true here less = rw (less, same, here) refl
    by_tests false false here less = rw (less, same, here) refl

both : (l v : Version) (c : List ℤ) → greater version_key (newest_at (l ∷ []) c) (newest_at (v ∷ []) c) ≡ greater version_key (one_at l c) (one_at v c)
both l v c = ap (λ o. greater version_key o (newest_at (v ∷ []) c)) (newest_of_one l c) ∙ ap (greater version_key (one_at l c)) (newest_of_one v c)

newer_coords : (l v : Version) → l.coords ≡ v.coords → l.coords ≡ (newer l v).coords
newer_coords l v same = by_test (key_lt l.key v.key) refl
  where
    by_test : (k : Bool) → key_lt l.key v.key ≡ k → l.coords ≡ (newer l v).coords
    by_test true less = rw less same
    by_test false less = rw less refl

-- ---- versions that ascend

below_more : (x l v : Version) (front : List Version) → AllByRecursion (λ w. stand x w ≡ Less) (front ++ l ∷ []) → stand l v ≡ Less → AllByRecursion (λ w. stand x w ≡ Less) ((front ++ l ∷ []) ++ v ∷ [])
below_more x l v [] all up = (all.0, (coords_total.trans x.coords l.coords v.coords all.0 up, tt))
below_more x l v (y ∷ front) all up = (all.0, below_more x l v front all.1 up)

rise_more : (front : List Version) (l v : Version) → IsStrictlySortedBy stand (front ++ l ∷ []) → stand l v ≡ Less → IsStrictlySortedBy stand ((front ++ l ∷ []) ++ v ∷ [])
unfolding IsStrictlySortedBy
rise_more [] l v sorted up = ((up, tt), (tt, tt))
rise_more (x ∷ front) l v sorted up = (below_more x l v front sorted.0 up, rise_more front l v sorted.1 up)

below_same : (x l v : Version) (front : List Version) → l.coords ≡ v.coords → AllByRecursion (λ w. stand x w ≡ Less) (front ++ l ∷ []) → AllByRecursion (λ w. stand x w ≡ Less) (front ++ v ∷ [])
below_same x l v [] same all = (subst (λ (c : List ℤ). slice_cmp int_cmp x.coords c ≡ Less) same all.0, tt)
below_same x l v (y ∷ front) same all = (all.0, below_same x l v front same all.1)

rise_same : (front : List Version) (l v : Version) → l.coords ≡ v.coords → IsStrictlySortedBy stand (front ++ l ∷ []) → IsStrictlySortedBy stand (front ++ v ∷ [])
unfolding IsStrictlySortedBy
rise_same [] l v same sorted = (tt, tt)
rise_same (x ∷ front) l v same sorted = (below_same x l v front same sorted.0, rise_same front l v same sorted.1)

rise_one : (v : Version) → IsStrictlySortedBy stand (v ∷ [])
unfolding IsStrictlySortedBy
rise_one v = (tt, tt)

rise_none : IsStrictlySortedBy stand []
unfolding IsStrictlySortedBy
rise_none = tt

-- ---- one version more

-- none are the newest of none
pub newest_none : AreNewest [] []
newest_none = record { rise = rise_none; each = λ c. refl; last = refl }

-- the first one
pub newest_first : (versions : List Version) (v : Version) → AreNewest versions [] → AreNewest (versions ++ v ∷ []) (v ∷ [])
newest_first versions v are = record {
  rise = rise_one v;
  each = λ c. sym (newest_append versions (v ∷ []) c ∙ ap (λ o. greater version_key o (newest_at (v ∷ []) c)) (sym (are.each c)));
  last = sym (last_behind versions v);
}

module _ (versions front : List Version) (l v : Version) (are : AreNewest versions (front ++ l ∷ [])) where
  two_cells : stand l v ≡ Less → AreNewest (versions ++ v ∷ []) ((front ++ l ∷ []) ++ v ∷ [])
  two_cells up = record {
    rise = rise_more front l v are.rise up;
    each = λ c. newest_append (front ++ l ∷ []) (v ∷ []) c ∙ ap (λ o. greater version_key o (newest_at (v ∷ []) c)) (are.each c) ∙ sym (newest_append versions (v ∷ []) c);
    last = last_behind (front ++ l ∷ []) v ∙ sym (last_behind versions v);
  }

  one_cell : stand l v ≡ Equal → AreNewest (versions ++ v ∷ []) (front ++ newer l v ∷ [])
  one_cell tie =
      let same : l.coords ≡ v.coords = coords_exact l.coords v.coords tie in
      let top : l.coords ≡ (newer l v).coords = newer_coords l v same in
      record {
        rise = rise_same front l (newer l v) top are.rise;
        each = λ c.
            newest_append front (newer l v ∷ []) c
            ∙ ap (greater version_key (newest_at front c)) (newest_of_one (newer l v) c ∙ newer_at l v c same ∙ sym (both l v c))
            ∙ sym (greater_assoc version_key (newest_at front c) (newest_at (l ∷ []) c) (newest_at (v ∷ []) c))
            ∙ ap (λ o. greater version_key o (newest_at (v ∷ []) c)) (sym (newest_append front (l ∷ []) c) ∙ are.each c)
            ∙ sym (newest_append versions (v ∷ []) c);
        last = last_behind front (newer l v) ∙ ap Some (sym top ∙ same) ∙ sym (last_behind versions v);
      }

  -- one more behind the last
  pub newest_more : ComesBehind versions v → AreNewest (versions ++ v ∷ []) (front ++ newest_of_two l v)
  newest_more behind = by_order (stand l v) refl
    where
      level : is_lt (slice_cmp int_cmp v.coords l.coords) ≡ false
      level =
          let last = sym are.last ∙ last_behind front l in
          sym (ap (λ o. option_map_or (λ (c : List ℤ). is_lt (slice_cmp int_cmp v.coords c)) o false) last) ∙ behind

      by_order : (o : Ordering) → stand l v ≡ o → AreNewest (versions ++ v ∷ []) (front ++ newest_of_two l v)
      by_order Less is =
          let other : newest_of_two l v ≡ l ∷ v ∷ [] = ap (λ p. cond (is_eq p) (newer l v ∷ []) (l ∷ v ∷ [])) is in
          subst (AreNewest (versions ++ v ∷ [])) (append_assoc front (l ∷ []) (v ∷ []) ∙ ap (λ ws. front ++ ws) (sym other)) (two_cells is)
      by_order Equal is =
          let one : newest_of_two l v ≡ newer l v ∷ [] = ap (λ p. cond (is_eq p) (newer l v ∷ []) (l ∷ v ∷ [])) is in
          subst (AreNewest (versions ++ v ∷ [])) (ap (λ ws. front ++ ws) (sym one)) (one_cell is)
      by_order Greater is =
          let below : is_lt (slice_cmp int_cmp v.coords l.coords) ≡ true = ap is_lt (coords_total.antisymm v.coords l.coords ∙ ap ordering_reverse is) in
          absurd (true≢false (sym below ∙ level))

-- ---- all versions

-- where the versions are in row order the next one does not come before those so far
pub comes_behind : (versions : List Version) (place : ℕ) (v : Version) → IsSortedBy (λ (a b : Version). is_lt (slice_cmp int_cmp a.coords b.coords)) versions → place < length versions → v ≡ get_or versions place v
    → ComesBehind (take place versions) v
comes_behind versions zero v sorted within is = refl
comes_behind versions (suc k) v sorted within is =
    let next : k + 1 ≡ suc k = omega arith in
    let before : k < length versions = omega (arith, within) in
    let below : k + 1 < length versions = omega (arith, within) in
    let prior = get_or versions k v in
    let last : last_coords (take (suc k) versions) ≡ Some prior.coords = ap (λ n. last_coords (take n versions)) (sym next) ∙ ap last_coords (take_more versions k v before) ∙ last_behind (take k versions) prior in
    let here : get_or versions (k + 1) v ≡ v = ap (λ n. get_or versions n v) next ∙ sym is in
    ap (λ o. option_map_or (λ (c : List ℤ). is_lt (slice_cmp int_cmp v.coords c)) o false) last
    ∙ ap (λ (w : Version). is_lt (slice_cmp int_cmp w.coords prior.coords)) (sym here) ∙ sorted k v (omega arith) below

-- up to the next one
pub newest_on : (versions newest : List Version) (place : ℕ) (v : Version) → place < length versions → v ≡ get_or versions place v → AreNewest (take place versions ++ v ∷ []) newest → AreNewest (take (place + 1) versions) newest
newest_on versions newest place v within is are =
    let on : take (place + 1) versions ≡ take place versions ++ v ∷ [] = take_more versions place v within ∙ ap (λ (w : Version). take place versions ++ w ∷ []) (sym is) in
    subst (λ (vs : List Version). AreNewest vs newest) (sym on) are

-- in the end they are the newest ones of all
pub newest_all : (versions newest : List Version) (place : ℕ) → length versions ≤ place → AreNewest (take place versions) newest → newest ≡ finite.values (newest_of versions)
newest_all versions newest place over are =
    let all : take place versions ≡ versions = take_all place versions over in
    sym (newest_of_ascending newest are.rise)
    ∙ ap finite.values (finite.same_map coords_total coords_exact (newest_of newest) (newest_of versions) (λ c. get_newest_of newest c ∙ are.each c ∙ ap (λ (vs : List Version). newest_at vs c) all ∙ sym (get_newest_of versions c)))
