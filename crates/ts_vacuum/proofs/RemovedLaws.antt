-- What a vacuum removes: one fragment more, one `.vac` more, and that it may remove all of it.
use Rattle.std.proofs.Common.{◌≡◌, ℕ, ◌+◌, ◌<◌, ◌≤◌, Bool, true, false, not, ◌||◌, List, [], ◌∷◌, ◌++◌, length, take, get_or, map, min, suc, zero, refl, sym, ap, ◌∙◌, subst, arith, true≢false}
use Rattle.std.specs.Prelude.{All, cond, filter}
use Rattle.std.proofs.lemmas.List.{append-nil, append_assoc, map-append}
use Rattle.std.proofs.lemmas.List.Elements.{All-append, All-cons, All-filter, All-head, All-map, All-nil, All-tail, filter_more}
use Rattle.ts_base.specs.Exact.{frag_decides}
use Rattle.ts_base.specs.Keys.{frag_eq}
use Rattle.ts_base.specs.Names.{IsSpelled, is_under, wrt_of}
use Rattle.ts_base.specs.declared.keys.FragKey.{FragKey}
use Rattle.ts_base.specs.declared.names.Name.{Name}
use Rattle.ts_base.specs.declared.names.Name.TheVariants as name
use Rattle.ts_base.specs.declared.names.Prefix.TheVariants as prefix
use Rattle.ts_commit.specs.Selections.{is_among}
use Rattle.ts_commit.specs.declared.vacs.VacOf.{VacOf}
use Rattle.ts_model.specs.declared.states.Sweep.{Sweep}
use Rattle.ts_model.specs.States.{names_of_all, names_of_one, names_removed, vac_of, vacs_beside, where_among}
use Rattle.ts_actor.specs.Listings.{IsSpelledVac}
use Rattle.ts_vacuum.specs.Sweeping.{AreListed, AreRemovable, IsRemovable, IsSweep}

-- ---- one more

-- the objects of one fragment more
names_suc : (s : Sweep) (set : List FragKey) (listed : List (List Name)) (n : ℕ) (f : FragKey) (parts : List Name) → n < length set → n < length listed
    → names_of_all s (take (suc n) set) (take (suc n) listed) ≡ names_of_all s (take n set) (take n listed) ++ names_of_one s (get_or set n f) (get_or listed n parts)
names_suc s [] listed n f parts in_set in_listed = absurd (omega arith)
names_suc s (g ∷ set) [] n f parts in_set in_listed = absurd (omega arith)
names_suc s (g ∷ set) (others ∷ listed) zero f parts in_set in_listed = append-nil (names_of_one s g others)
names_suc s (g ∷ set) (others ∷ listed) (suc n) f parts in_set in_listed =
    ap (λ names. names_of_one s g others ++ names) (names_suc s set listed n f parts (omega arith) (omega arith))
    ∙ sym (append_assoc (names_of_one s g others) (names_of_all s (take n set) (take n listed)) (names_of_one s (get_or set n f) (get_or listed n parts)))

pub names_more : (s : Sweep) (set : List FragKey) (listed : List (List Name)) (n : ℕ) (f : FragKey) (parts : List Name) → n < length set → n < length listed
    → names_of_all s (take (n + 1) set) (take (n + 1) listed) ≡ names_of_all s (take n set) (take n listed) ++ names_of_one s (get_or set n f) (get_or listed n parts)
names_more s set listed n f parts in_set in_listed =
    let same : n + 1 ≡ suc n = omega arith in
    ap (λ i. names_of_all s (take i set) (take i listed)) same ∙ names_suc s set listed n f parts in_set in_listed

-- the same, where the names were put together from what is known of the sets
pub names_on : (s : Sweep) (set : List FragKey) (listed : List (List Name)) (n m : ℕ) (f : FragKey) (parts before names wrt vac : List Name) → m ≡ n + 1 → n < length set → n < length listed
    → f ≡ get_or set n f → parts ≡ get_or listed n parts → before ≡ names_of_all s (take n set) (take n listed)
    → wrt ≡ where_among s.committed wrt_of f → vac ≡ where_among s.with_vac vac_of f → names ≡ before ++ (wrt ++ (parts ++ vac))
    → names ≡ names_of_all s (take m set) (take m listed)
names_on s set listed n m f parts before names wrt vac next in_set in_listed at_set at_listed so_far is_wrt is_vac is =
    is
    ∙ ap (λ ns. ns ++ (wrt ++ (parts ++ vac))) so_far
    ∙ ap (λ ns. names_of_all s (take n set) (take n listed) ++ (ns ++ (parts ++ vac))) is_wrt
    ∙ ap (λ ns. names_of_all s (take n set) (take n listed) ++ (where_among s.committed wrt_of f ++ (parts ++ ns))) is_vac
    ∙ ap (λ g. names_of_all s (take n set) (take n listed) ++ names_of_one s g parts) at_set
    ∙ ap (λ ps. names_of_all s (take n set) (take n listed) ++ names_of_one s (get_or set n f) ps) at_listed
    ∙ sym (names_more s set listed n f parts in_set in_listed)
    ∙ ap (λ i. names_of_all s (take i set) (take i listed)) (sym next)

-- the objects of all fragments
pub names_all : (s : Sweep) (set : List FragKey) (listed : List (List Name)) (n : ℕ) → min (length set) (length listed) ≤ n
    → names_of_all s (take n set) (take n listed) ≡ names_of_all s set listed
names_all s [] listed zero most = refl
names_all s [] listed (suc n) most = refl
names_all s (g ∷ set) [] zero most = refl
names_all s (g ∷ set) [] (suc n) most = refl
names_all s (g ∷ set) (others ∷ listed) zero most = absurd (omega arith)
names_all s (g ∷ set) (others ∷ listed) (suc n) most = ap (λ names. names_of_one s g others ++ names) (names_all s set listed n (omega arith))

-- what one item more gives, where it passes
pub kept_more : {X Y : Type 0} (p : X → Bool) (f : X → Y) (xs : List X) (i : ℕ) (d : X) → i < length xs
    → map f (filter p (take (i + 1) xs)) ≡ map f (filter p (take i xs)) ++ cond (p (get_or xs i d)) (f (get_or xs i d) ∷ []) []
kept_more p f xs i d within =
    ap (map f) (filter_more p xs i d within)
    ∙ map-append f (filter p (take i xs)) (cond (p (get_or xs i d)) (get_or xs i d ∷ []) [])
    ∙ ap (λ ys. map f (filter p (take i xs)) ++ ys) (by (p (get_or xs i d)))
  where
    by : (b : Bool) → map f (cond b (get_or xs i d ∷ []) []) ≡ cond b (f (get_or xs i d) ∷ []) []
    by true = refl
    by false = refl

-- ---- what may be removed

-- a fragment that is among others has what each of them has
among_has : (P : FragKey → Type 0) (f : FragKey) (frags : List FragKey) → All P frags → is_among f frags ≡ true → P f
among_has P f [] all is = absurd (true≢false (sym is))
among_has P f (g ∷ frags) all is = by (frag_eq f g) refl is (among_has P f frags (All-tail P g frags all))
  where
    by : (b : Bool) → frag_eq f g ≡ b → (b || is_among f frags) ≡ true → (is_among f frags ≡ true → P f) → P f
    by true tied is on = subst P (sym ((frag_decides f g).0 tied)) (All-head P g frags all)
    by false other is on = on is

-- a part of a fragment
pub part_may : (f : FragKey) (n : Name) → IsSpelled n → is_under (prefix.Fragment f) n ≡ true → IsRemovable n
part_may f (name.Part g part) spelled under = spelled
part_may f name.Domain spelled under = absurd (true≢false (sym under))
part_may f (name.Schema k) spelled under = absurd (true≢false (sym under))
part_may f (name.Commit g kind) spelled under = absurd (true≢false (sym under))
part_may f (name.Lease k mode) spelled under = absurd (true≢false (sym under))

-- an object of a fragment, where the fragment is among others
where_may : (object : FragKey → Name) (f : FragKey) (frags : List FragKey) → All (λ g. IsRemovable (object g)) frags → AreRemovable (where_among frags object f)
where_may object f frags all = by (is_among f frags) refl
  where
    by : (b : Bool) → is_among f frags ≡ b → AreRemovable (cond b (object f ∷ []) [])
    by true is = All-cons IsRemovable (object f) [] (among_has (λ g. IsRemovable (object g)) f frags all is) (All-nil IsRemovable)
    by false is = All-nil IsRemovable

module _ (s : Sweep) (is : IsSweep s) where
  one_may : (f : FragKey) (parts : List Name) → AreRemovable parts → AreRemovable (names_of_one s f parts)
  one_may f parts may =
      All-append IsRemovable (where_among s.committed wrt_of f) (parts ++ where_among s.with_vac vac_of f) (where_may wrt_of f s.committed is.committed)
      (All-append IsRemovable parts (where_among s.with_vac vac_of f) may (where_may vac_of f s.with_vac is.with_vac))

  all_may : (set : List FragKey) (listed : List (List Name)) → AreListed listed → AreRemovable (names_of_all s set listed)
  all_may [] listed may = All-nil IsRemovable
  all_may (f ∷ set) [] may = All-nil IsRemovable
  all_may (f ∷ set) (parts ∷ listed) may =
      All-append IsRemovable (names_of_one s f parts) (names_of_all s set listed) (one_may f parts (All-head AreRemovable parts listed may)) (all_may set listed (All-tail AreRemovable parts listed may))

  -- a vacuum may remove all that it is to remove
  pub removed_may : (set : List FragKey) (listed : List (List Name)) → AreListed listed → AreRemovable (names_removed s set listed)
  removed_may set listed may =
      let beside = λ (v : VacOf). not (is_among v.frag set) in
      All-append IsRemovable (names_of_all s set listed) (vacs_beside s.vacs set) (all_may set listed may)
      (All-map IsRemovable (λ (v : VacOf). vac_of v.frag) (filter beside s.vacs) (All-filter beside (λ (v : VacOf). IsSpelledVac v.frag) s.vacs is.vacs))
