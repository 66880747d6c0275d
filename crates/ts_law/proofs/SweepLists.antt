-- The names that a vacuum removes, in their order: of each fragment its `.wrt` comes before its parts.
use Rattle.std.proofs.Common.{◌≡◌, ℕ, zero, suc, ◌+◌, Bool, true, false, cond, ◌⊎◌, inl, inr, List, [], ◌∷◌, ◌++◌, length, Some, refl, sym, ◌∙◌, ap, subst, arith}
use Rattle.std.specs.Prelude.{Contains, filter, not, slice_get}
use Rattle.std.proofs.lemmas.Option.{none-some, same_Some}
use Rattle.ts_base.specs.declared.keys.FragKey.{FragKey}
use Rattle.ts_base.specs.declared.names.Name.{Name}
use Rattle.ts_base.specs.declared.names.Name.TheVariants as name
use Rattle.ts_base.specs.declared.names.Part.{Part}
use Rattle.ts_base.specs.Names.{wrt_of}
use Rattle.ts_base.specs.Held.{Held}
use Rattle.ts_commit.specs.declared.vacs.VacOf.{VacOf}
use Rattle.ts_commit.specs.Selections.{is_among}
use Rattle.ts_model.specs.declared.states.Sweep.{Sweep}
use Rattle.ts_model.specs.States.{names_of_all, names_of_one, names_removed, vac_of, vacs_beside, where_among}
use Rattle.ts_model.proofs.ListLemmas.{Contains-cons, Contains-here, Contains-nil, Contains-slice_get, Contains-there, filter-Contains, slice_get_left}
use Rattle.ts_law.specs.Stands.{IsCommitted}
use Rattle.ts_law.specs.Sweeps.{AreLed, IsSwept, OfCommit, OfOther, OfPart, OfVac, Sweeping}
use Rattle.ts_law.proofs.Fetches.{map-Contains}
use Rattle.ts_law.proofs.SweepStays.{part_owner}

-- ---- two lists

-- an item of two lists is one of the first or of the second
split_at : {X : Type 0} (xs ys : List X) (i : ℕ) (x : X) → slice_get (xs ++ ys) i ≡ Some x → (slice_get xs i ≡ Some x) ⊎ ((k : ℕ) × (i ≡ length xs + k) × (slice_get ys k ≡ Some x))
split_at [] ys i x at = inr (i, omega arith, at)
split_at (y ∷ xs) ys zero x at = inl at
split_at (y ∷ xs) ys (suc i) x at = elim (split_at xs ys i x at) [
  | inl first ↦ inl first
  | inr second ↦ let same = second.1 in inr (second.0, omega (arith, same), second.2)
]

-- an item of the second list
right_at : {X : Type 0} (xs ys : List X) (i k : ℕ) → i ≡ length xs + k → slice_get (xs ++ ys) i ≡ slice_get ys k
right_at [] ys i k same = let e : i ≡ k = omega (arith, same) in ap (slice_get ys) e
right_at (x ∷ xs) ys zero k same = absurd (omega (arith, same))
right_at (x ∷ xs) ys (suc i) k same = right_at xs ys i k (omega (arith, same))

-- ---- names where fragments are among others

-- the object of a fragment that is among these
where_is : (frags : List FragKey) (object : FragKey → Name) (f : FragKey) → is_among f frags ≡ true → where_among frags object f ≡ object f ∷ []
where_is frags object f is = ap (λ t. cond t (object f ∷ []) []) is

-- a name that stands there is that object
there_is : (frags : List FragKey) (object : FragKey → Name) (f : FragKey) (q : Name) (i : ℕ) → slice_get (where_among frags object f) i ≡ Some q → object f ≡ q
there_is frags object f q i at = by (is_among f frags) i at
  where
    by : (t : Bool) (i : ℕ) → slice_get (cond t (object f ∷ []) []) i ≡ Some q → object f ≡ q
    by true zero at = same_Some (object f) q at
    by true (suc i) at = absurd (none-some q at)
    by false i at = absurd (none-some q at)

-- the parts of a fragment
abbrev pub ArePartsOf : FragKey → List Name → Type 0
ArePartsOf f parts = (n : Name) → Contains parts n → (part : Part) × (n ≡ name.Part f part)

-- of each of these fragments in turn
abbrev pub AllParts : List FragKey → List (List Name) → Type 0
AllParts set listed = (i : ℕ) (f : FragKey) (parts : List Name) → slice_get set i ≡ Some f → slice_get listed i ≡ Some parts → ArePartsOf f parts

-- no `.wrt` and no `.vac` is a part
wrt_no_part : (f g : FragKey) (part : Part) → wrt_of f ≡ name.Part g part → ⊥
wrt_no_part f g part same = cc

vac_no_part : (f g : FragKey) (part : Part) → vac_of f ≡ name.Part g part → ⊥
vac_no_part f g part same = cc

module _ (s : Sweep) where
  -- ---- what each name is

  -- a name of one fragment is swept
  swept_one : (set : List FragKey) (f : FragKey) (parts : List Name) → Contains set f → ArePartsOf f parts → (i : ℕ) (n : Name) → slice_get (names_of_one s f parts) i ≡ Some n → IsSwept set s.vacs n
  swept_one set f parts own are i n at = elim (split_at (where_among s.committed wrt_of f) (parts ++ where_among s.with_vac vac_of f) i n at) [
    | inl here ↦ OfCommit f own (sym (there_is s.committed wrt_of f n i here))
    | inr there ↦ elim (split_at parts (where_among s.with_vac vac_of f) there.0 n there.2) [
      | inl part ↦ let is = are n (Contains-slice_get parts there.0 n part) in OfPart f is.0 own is.1
      | inr vac ↦ OfVac f own (sym (there_is s.with_vac vac_of f n vac.0 vac.2))
    ]
  ]

  -- so is each of all fragments
  swept_all : (set fs : List FragKey) (listed : List (List Name)) → ((f : FragKey) → Contains fs f → Contains set f) → AllParts fs listed → (i : ℕ) (n : Name) → slice_get (names_of_all s fs listed) i ≡ Some n → IsSwept set s.vacs n
  swept_all set [] listed own are i n at = absurd (none-some n at)
  swept_all set (f ∷ fs) [] own are i n at = absurd (none-some n at)
  swept_all set (f ∷ fs) (parts ∷ listed) own are i n at = elim (split_at (names_of_one s f parts) (names_of_all s fs listed) i n at) [
    | inl here ↦ swept_one set f parts (own f (Contains-here f fs)) (are 0 f parts refl refl) i n here
    | inr there ↦ swept_all set fs listed (λ g at. own g (Contains-there f fs g at)) (λ k g ps first second. are (suc k) g ps first second) there.0 n there.2
  ]

  -- the other names are each that of a `.vac` that it got
  beside_is : (set : List FragKey) (i : ℕ) (n : Name) → slice_get (vacs_beside s.vacs set) i ≡ Some n → (v : VacOf) × Contains s.vacs v × (vac_of v.frag ≡ n)
  beside_is set i n at =
      let others = filter (λ (v : VacOf). not (is_among v.frag set)) s.vacs in
      let found = map-Contains (λ (v : VacOf). vac_of v.frag) others n (Contains-slice_get (vacs_beside s.vacs set) i n at) in
      (found.0, (filter-Contains (λ (v : VacOf). not (is_among v.frag set)) s.vacs found.0 found.1).0, found.2)

  -- ---- which come before which

  module _ (m : Held) where
    -- names that are led from their start
    abbrev Led : List Name → Type 0
    Led names = AreLed m names 0

    led_none : Led []
    led_none i f part from at committed = absurd (none-some (name.Part f part) at)

    -- two lists that are led make one
    led_both : (xs ys : List Name) → Led xs → Led ys → Led (xs ++ ys)
    led_both xs ys first second i f part from at committed = elim (split_at xs ys i (name.Part f part) at) [
      | inl here ↦ let before = first i f part from here committed in (before.0, before.1, before.2, slice_get_left xs ys before.0 (wrt_of f) before.3)
      | inr there ↦
          let before = second there.0 f part (omega arith) there.2 committed in
          let place = there.1 in
          let less = before.2 in
          (length xs + before.0, omega arith, omega (arith, place, less), right_at xs ys (length xs + before.0) before.0 refl ∙ before.3)
    ]

    -- each part of a fragment that is committed stands behind its `.wrt`
    led_one : (f : FragKey) (parts : List Name) → (IsCommitted m f → is_among f s.committed ≡ true) → ArePartsOf f parts → Led (names_of_one s f parts)
    led_one f parts listed are i g part from at committed = elim (split_at (where_among s.committed wrt_of f) (parts ++ where_among s.with_vac vac_of f) i (name.Part g part) at) [
      | inl here ↦ absurd (wrt_no_part f g part (there_is s.committed wrt_of f (name.Part g part) i here))
      | inr there ↦
          let own = is_own there.0 there.2 in
          let first : where_among s.committed wrt_of f ≡ wrt_of f ∷ [] = where_is s.committed wrt_of f (listed (subst (IsCommitted m) own committed)) in
          let place = there.1 in
          let long : length (where_among s.committed wrt_of f) ≡ 1 = ap length first in
          (0, omega arith, omega (arith, place, long), ap (λ l. slice_get (l ++ (parts ++ where_among s.with_vac vac_of f)) 0) first ∙ ap (λ x. Some (wrt_of x)) (sym own))
    ]
      where
        is_own : (k : ℕ) → slice_get (parts ++ where_among s.with_vac vac_of f) k ≡ Some (name.Part g part) → g ≡ f
        is_own k at = elim (split_at parts (where_among s.with_vac vac_of f) k (name.Part g part) at) [
          | inl here ↦ let is = are (name.Part g part) (Contains-slice_get parts k (name.Part g part) here) in part_owner g f part is.0 is.1
          | inr there ↦ absurd (vac_no_part f g part (there_is s.with_vac vac_of f (name.Part g part) there.0 there.2))
        ]

    -- so it is of all fragments
    led_all : (set : List FragKey) (listed : List (List Name)) → ((f : FragKey) → Contains set f → IsCommitted m f → is_among f s.committed ≡ true) → AllParts set listed → Led (names_of_all s set listed)
    led_all [] listed wrts are = led_none
    led_all (f ∷ set) [] wrts are = led_none
    led_all (f ∷ set) (parts ∷ listed) wrts are =
        led_both (names_of_one s f parts) (names_of_all s set listed) (led_one f parts (wrts f (Contains-here f set)) (are 0 f parts refl refl))
        (led_all set listed (λ g at. wrts g (Contains-there f set g at)) (λ k g ps first second. are (suc k) g ps first second))

    -- each listed `.wrt` is among the names
    wrt_there : (set : List FragKey) (listed : List (List Name)) → length listed ≡ length set → (f : FragKey) → Contains set f → is_among f s.committed ≡ true → (j : ℕ) × (slice_get (names_of_all s set listed) j ≡ Some (wrt_of f))
    wrt_there [] listed long f own wrt = absurd (Contains-nil f own)
    wrt_there (g ∷ set) [] long f own wrt = absurd (omega (arith, long))
    wrt_there (g ∷ set) (parts ∷ listed) long f own wrt = elim (Contains-cons g set f own) [
      | inl same ↦
          let first : where_among s.committed wrt_of g ≡ wrt_of g ∷ [] = where_is s.committed wrt_of g (subst (λ x. is_among x s.committed ≡ true) (sym same) wrt) in
          (0, ap (λ l. slice_get ((l ++ (parts ++ where_among s.with_vac vac_of g)) ++ names_of_all s set listed) 0) first ∙ ap (λ x. Some (wrt_of x)) same)
      | inr later ↦
          let there = wrt_there set listed (omega (arith, long)) f later wrt in
          (length (names_of_one s g parts) + there.0, right_at (names_of_one s g parts) (names_of_all s set listed) (length (names_of_one s g parts) + there.0) there.0 refl ∙ there.1)
    ]

    -- a vacuum that listed all begins to remove: of the fragments of its set those that are still committed were listed so, and the parts are theirs
    pub begins_sweeping : (set : List FragKey) (listed : List (List Name)) → length listed ≡ length set → ((f : FragKey) → Contains set f → IsCommitted m f → is_among f s.committed ≡ true) → AllParts set listed
        → Sweeping m set s.vacs (names_removed s set listed) 0
    begins_sweeping set listed long wrts are = record {
      each = λ i n at. elim (split_at (names_of_all s set listed) (vacs_beside s.vacs set) i n at) [
        | inl here ↦ swept_all set set listed (λ f own. own) are i n here
        | inr there ↦ let other = beside_is set there.0 n there.2 in OfOther other.0 other.1 (sym other.2)
      ];
      led = led_both (names_of_all s set listed) (vacs_beside s.vacs set) (led_all set listed wrts are)
          (λ i f part from at committed. let other = beside_is set i (name.Part f part) at in absurd (vac_no_part (other.0).frag f part other.2));
      left = λ f own committed.
          let there = wrt_there set listed long f own (wrts f own committed) in
          (there.0, omega arith, slice_get_left (names_of_all s set listed) (vacs_beside s.vacs set) there.0 (wrt_of f) there.1);
    }
