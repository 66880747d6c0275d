-- What stands among the newest versions of a list, at each coordinate.
use Rattle.std.proofs.Common.{◌≡◌, ℤ, Bool, true, false, cond, List, [], ◌∷◌, length, arith, Option, Some, None, refl, sym, ◌∙◌, ap, subst, Less, Equal, Greater, Ordering, int_cmp, is_eq}
use Rattle.std.specs.Prelude.{filter, ⊤}
use Rattle.std.specs.Bool.{one_answer}
use Rattle.std.specs.Cmp.{IsTotalOrder, Equal-is}
use Rattle.std.specs.Cmp.Lexicographic.{slice_cmp}
use Rattle.std.specs.FinMap.{IsAntisymmetric, int_cmp-IsAntisymmetric, slice_cmp-IsAntisymmetric}
use Rattle.std.specs.FinMap as map
use Rattle.std.specs.Ordering.{eq_by_cmp}
use Rattle.std.proofs.lemmas.Bool.{true≢false}
use Rattle.std.proofs.lemmas.Cmp.{int_cmp_total, lists_total, tied_itself}
use Rattle.ts_base.specs.declared.keys.Key.{Key}
use Rattle.ts_base.specs.declared.heads.Version.{Version}
use Rattle.ts_base.specs.Keys.{key_lt, greater, greatest}
use Rattle.ts_base.specs.Coords.{coords_eq}
use Rattle.ts_base.proofs.Equal.{coords_decide}
use Rattle.ts_model.specs.Merging.{newest_at}
use Rattle.ts_model.specs.Pieces.{Newest, with_version, newest_after, newest_of}
use Rattle.ts_model.proofs.KeyLemmas.{not_below_on, not_below_back}

-- what is below one that is below a third is below the third
below_on : (k l m : Key) → key_lt k l ≡ true → key_lt l m ≡ true → key_lt k m ≡ true
below_on k l m first second = by_test (key_lt k m) refl
  where
    by_test : (b : Bool) → key_lt k m ≡ b → key_lt k m ≡ true
    by_test true e = e
    by_test false e = absurd (true≢false (sym first ∙ not_below_on k m l e (not_below_back l m second)))

module _ {X : Type 0} (key : X → Key) where
  -- so it is of three that are there
  three : (x y z : X) → greater key (greater key (Some x) (Some y)) (Some z) ≡ greater key (Some x) (greater key (Some y) (Some z))
  three x y z = by_tests (key_lt (key x) (key y)) (key_lt (key y) (key z)) (key_lt (key x) (key z)) refl refl refl
    where
      left : (p q r : Bool) → key_lt (key x) (key y) ≡ p → key_lt (key y) (key z) ≡ q → key_lt (key x) (key z) ≡ r → greater key (greater key (Some x) (Some y)) (Some z) ≡ Some (cond p (cond q z y) (cond r z x))
      left true q r e f g = simp (e, f)
      left false q r e f g = simp (e, g)

      right : (p q r : Bool) → key_lt (key x) (key y) ≡ p → key_lt (key y) (key z) ≡ q → key_lt (key x) (key z) ≡ r → greater key (Some x) (greater key (Some y) (Some z)) ≡ Some (cond q (cond r z x) (cond p y x))
      right p true r e f g = simp (f, g)
      right p false r e f g = simp (f, e)

      by_tests : (p q r : Bool) → key_lt (key x) (key y) ≡ p → key_lt (key y) (key z) ≡ q → key_lt (key x) (key z) ≡ r
          → greater key (greater key (Some x) (Some y)) (Some z) ≡ greater key (Some x) (greater key (Some y) (Some z))
      by_tests true true true e f g = left true true true e f g ∙ sym (right true true true e f g)
      by_tests true true false e f g = absurd (true≢false (sym (below_on (key x) (key y) (key z) e f) ∙ g))
      by_tests true false r e f g = left true false r e f g ∙ sym (right true false r e f g)
      by_tests false true r e f g = left false true r e f g ∙ sym (right false true r e f g)
      by_tests false false false e f g = left false false false e f g ∙ sym (right false false false e f g)
      by_tests false false true e f g = absurd (true≢false (sym g ∙ not_below_on (key x) (key y) (key z) e f))

  -- of three items the greatest does not depend on which two are compared first
  pub greater_assoc : (a b c : Option X) → greater key (greater key a b) c ≡ greater key a (greater key b c)
  greater_assoc None b c = refl
  greater_assoc (Some x) None c = refl
  greater_assoc (Some x) (Some y) None = refl
  greater_assoc (Some x) (Some y) (Some z) = three x y z

-- ---- coordinates

-- the order of coordinates is total
pub coords_total : IsTotalOrder (slice_cmp int_cmp)
coords_total = lists_total int_cmp_total

-- only equal coordinates tie
pub coords_exact : IsAntisymmetric (slice_cmp int_cmp)
coords_exact = slice_cmp-IsAntisymmetric int_cmp-IsAntisymmetric

-- coordinates are the same where their test says so
pub coords_same : (c d : List ℤ) → coords_eq c d ≡ true → c ≡ d
coords_same c d e = (coords_decide c d).0 e

-- coordinates are the same as themselves
pub coords_itself : (c : List ℤ) → coords_eq c c ≡ true
coords_itself c = (coords_decide c c).1 refl

-- coordinates tie where they are the same
pub coords_tie : (c d : List ℤ) → eq_by_cmp (slice_cmp int_cmp) c d ≡ coords_eq d c
coords_tie c d = one_answer (eq_by_cmp (slice_cmp int_cmp) c d) (coords_eq d c)
    (λ tie. coords_exact c d ((Equal-is (slice_cmp int_cmp c d)).0 tie), λ same. ap (λ x. is_eq (slice_cmp int_cmp c x)) (sym same) ∙ ap is_eq (tied_itself coords_total c))
    (λ same. sym (coords_same d c same), λ same. ap (λ x. coords_eq x c) (sym same) ∙ coords_itself c)

-- ---- the newest version

-- the key of a version
abbrev pub version_key : Version → Key
version_key v = v.key

-- the versions of a coordinate
abbrev pub versions_at : List Version → List ℤ → List Version
versions_at vs c = filter (λ v. coords_eq v.coords c) vs

-- a version that takes the place of an older one, or leaves it
placed : (m : Newest) (v : Version) (o : Option Version) → map.get m v.coords ≡ o → map.get (with_version m v) v.coords ≡ greater version_key o (Some v)
placed m v None none = rw none (map.get-insert coords_total m v.coords v v.coords ∙ ap (λ b. cond b (Some v) (map.get m v.coords)) (coords_tie v.coords v.coords ∙ coords_itself v.coords))
placed m v (Some w) some = by_test (key_lt w.key v.key) refl
  where
    by_test : (b : Bool) → key_lt w.key v.key ≡ b → map.get (with_version m v) v.coords ≡ Some (cond b v w)
    by_test true below = rw (some, below) (map.get-insert coords_total m v.coords v v.coords ∙ ap (λ b. cond b (Some v) (map.get m v.coords)) (coords_tie v.coords v.coords ∙ coords_itself v.coords))
    by_test false level = rw (some, level) some

-- a version of another coordinate changes nothing here
passed : (m : Newest) (v : Version) (c : List ℤ) (b : Bool) → coords_eq v.coords c ≡ false → map.get (cond b (map.insert m v.coords v) m) c ≡ map.get m c
passed m v c true other = map.get-insert coords_total m v.coords v c ∙ ap (λ b. cond b (Some v) (map.get m c)) (coords_tie c v.coords ∙ other)
passed m v c false other = refl

-- one version more, at each coordinate
pub get_with_version : (m : Newest) (v : Version) (c : List ℤ) → map.get (with_version m v) c ≡ cond (coords_eq v.coords c) (greater version_key (map.get m c) (Some v)) (map.get m c)
get_with_version m v c = by_test (coords_eq v.coords c) refl
  where
    by_test : (b : Bool) → coords_eq v.coords c ≡ b → map.get (with_version m v) c ≡ cond b (greater version_key (map.get m c) (Some v)) (map.get m c)
    by_test true same = subst (λ d. map.get (with_version m v) d ≡ greater version_key (map.get m d) (Some v)) (coords_same v.coords c same) (placed m v (map.get m v.coords) refl)
    by_test false other = passed m v c _ other

-- more versions, at each coordinate
get_newest_after : (m : Newest) (vs : List Version) (c : List ℤ) → map.get (newest_after m vs) c ≡ greater version_key (map.get m c) (newest_at vs c)
get_newest_after m [] c = by_found (map.get m c)
  where
    by_found : (o : Option Version) → o ≡ greater version_key o None
    by_found None = refl
    by_found (Some w) = refl
get_newest_after m (v ∷ vs) c =
    get_newest_after (with_version m v) vs c ∙ ap (λ o. greater version_key o (newest_at vs c)) (get_with_version m v c) ∙ by_test (coords_eq v.coords c)
  where
    by_test : (b : Bool) → greater version_key (cond b (greater version_key (map.get m c) (Some v)) (map.get m c)) (newest_at vs c)
        ≡ greater version_key (map.get m c) (greatest version_key (cond b (v ∷ versions_at vs c) (versions_at vs c)))
    by_test true = greater_assoc version_key (map.get m c) (Some v) (newest_at vs c)
    by_test false = refl

-- what stands at a coordinate is the newest version there
pub get_newest_of : (vs : List Version) (c : List ℤ) → map.get (newest_of vs) c ≡ newest_at vs c
unfolding newest_of
get_newest_of vs c = get_newest_after map.empty vs c ∙ ap (λ o. greater version_key o (newest_at vs c)) (map.get-empty (slice_cmp int_cmp) c)

-- ---- the entries of the newest versions

-- each version stands at its own coordinates
abbrev pub OwnCoords : List (List ℤ × Version) → Type 0
OwnCoords [] = ⊤
OwnCoords (e ∷ es) = (e.1.coords ≡ e.0) × OwnCoords es

-- so it is after a version takes its place, if it is so of those behind
own_placed : (v : Version) (e : List ℤ × Version) (es : List (List ℤ × Version)) → OwnCoords (e ∷ es) → OwnCoords (map.put (slice_cmp int_cmp) v.coords v es) → (o : Ordering) → slice_cmp int_cmp v.coords e.0 ≡ o
    → OwnCoords (map.put (slice_cmp int_cmp) v.coords v (e ∷ es))
own_placed v e es own later Less is = rw is (refl, own)
own_placed v e es own later Equal is = rw is (coords_exact v.coords e.0 is, own.1)
own_placed v e es own later Greater is = rw is (own.0, later)

-- so it is after one version more has taken its place
own_put : (v : Version) (es : List (List ℤ × Version)) → OwnCoords es → OwnCoords (map.put (slice_cmp int_cmp) v.coords v es)
own_put v [] own = (refl, tt)
own_put v (e ∷ es) own = own_placed v e es own (own_put v es own.1) (slice_cmp int_cmp v.coords e.0) refl

-- so it is of the map, whether the version takes its place or not
own_with : (m : Newest) (v : Version) (b : Bool) → OwnCoords (map.entries m) → OwnCoords (map.entries (cond b (map.insert m v.coords v) m))
own_with m v true own = subst OwnCoords (sym (map.entries-insert coords_total m v.coords v)) (own_put v (map.entries m) own)
own_with m v false own = own

-- so it is after more versions
own_after : (m : Newest) (vs : List Version) → OwnCoords (map.entries m) → OwnCoords (map.entries (newest_after m vs))
own_after m [] own = own
own_after m (v ∷ vs) own = own_after (with_version m v) vs (own_with m v _ own)

-- so it is of no entries
own_none : (es : List (List ℤ × Version)) → length es ≡ 0 → OwnCoords es
own_none [] e = tt
own_none (x ∷ es) e = absurd (omega arith)

-- each of the newest versions stands at its own coordinates
pub own_newest : (vs : List Version) → OwnCoords (map.entries (newest_of vs))
unfolding newest_of
own_newest vs = own_after map.empty vs (own_none (map.entries map.empty) (sym (map.len-entries map.empty) ∙ map.len-empty (slice_cmp int_cmp) Version))
