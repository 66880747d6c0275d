-- Steps of the loops of a plan over the heads.
use Rattle.std.proofs.Common.{◌≡◌, ℕ, ◌+◌, ◌<◌, ◌≤◌, min, Bool, true, false, List, [], ◌∷◌, ◌++◌, length, take, drop, get_or, refl, sym, ap, ◌∙◌, ⊎_elim, arith}
use Rattle.std.specs.Prelude.{cond, filter}
use Rattle.std.proofs.lemmas.Bool.{cases_lt}
use Rattle.std.proofs.lemmas.List.{drop_more, drop_all, length-take-le}
use Rattle.std.proofs.lemmas.List.Sums.{length-filter, count_by-le-length}
use Rattle.ts_base.specs.Keys.{key_eq}
use Rattle.ts_base.specs.declared.keys.Key.{Key}
use Rattle.ts_base.specs.declared.heads.Head.{Head}
use Rattle.ts_commit.specs.declared.choices.Eligible.{Eligible}
use Rattle.ts_commit.specs.declared.vacs.Limits.{Limits}
use Rattle.ts_commit.specs.Plans.{of_schema, is_in_bounds, taken_from, attributes_in}
use Rattle.ts_commit.specs.Passes.{passes, passed}

-- ---- the number of attributes

attributes_none : (heads : List Head) (k : Key) → attributes_in heads [] k ≡ 0
attributes_none [] k = refl
attributes_none (head ∷ heads) k = refl

module _ (heads : List Head) (counts : List ℕ) (k : Key) (i whole : ℕ) (before : attributes_in (drop i heads) (drop i counts) k ≡ whole) where
  -- the next head is not of the schema
  pub attributes_next : (d : Head) → i < length heads → i < length counts → key_eq (get_or heads i d).schema k ≡ false → attributes_in (drop (i + 1) heads) (drop (i + 1) counts) k ≡ whole
  attributes_next d in_heads in_counts is =
      sym (ap (λ l. attributes_in l (drop i counts) k) (drop_more heads i d in_heads) ∙ ap (λ l. attributes_in (get_or heads i d ∷ drop (i + 1) heads) l k) (drop_more counts i 0 in_counts)
      ∙ ap (λ b. cond b (get_or counts i 0) (attributes_in (drop (i + 1) heads) (drop (i + 1) counts) k)) is) ∙ before

  -- none is left
  pub attributes_past : min (length heads) (length counts) ≤ i → 0 ≡ whole
  attributes_past ends = sym none ∙ before
    where
      none : attributes_in (drop i heads) (drop i counts) k ≡ 0
      none = ⊎_elim (λ some. ap (λ l. attributes_in (drop i heads) l k) (drop_all i counts (omega arith)) ∙ attributes_none (drop i heads) k) (λ past. ap (λ l. attributes_in l (drop i counts) k) (drop_all i heads past)) (cases_lt i (length heads))

-- ---- how many are of a schema

-- no more than there are
pub few_passed : (e : Eligible) (k : Key) (heads : List Head) (i : ℕ) → i ≤ length heads → length (of_schema k (passed e (take i heads))) ≤ i
few_passed e k heads i within =
    let all = passed e (take i heads) in
    omega (arith, length-filter (λ (head : Head). key_eq head.schema k) all, count_by-le-length (λ (head : Head). key_eq head.schema k) all, length-filter (passes e) (take i heads), count_by-le-length (passes e) (take i heads), length-take-le i heads within)

-- ---- the fragments of a schema that are left

module _ {X : Type 0} (p : X → Bool) (xs : List X) (i : ℕ) (d : X) (more : i < length xs) where
  left_yes : p (get_or xs i d) ≡ true → filter p (drop i xs) ≡ get_or xs i d ∷ filter p (drop (i + 1) xs)
  left_yes is = ap (filter p) (drop_more xs i d more) ∙ ap (λ b. cond b (get_or xs i d ∷ filter p (drop (i + 1) xs)) (filter p (drop (i + 1) xs))) is

  left_no : p (get_or xs i d) ≡ false → filter p (drop i xs) ≡ filter p (drop (i + 1) xs)
  left_no is = ap (filter p) (drop_more xs i d more) ∙ ap (λ b. cond b (get_or xs i d ∷ filter p (drop (i + 1) xs)) (filter p (drop (i + 1) xs))) is

module _ (e : Eligible) (k : Key) (heads : List Head) (i : ℕ) (head : Head) (more : i < length heads) (at : head ≡ get_or heads i head) where
  -- the next one is eligible and of the schema
  pub source_yes : passes e head ≡ true → key_eq head.schema k ≡ true → of_schema k (passed e (drop i heads)) ≡ head ∷ of_schema k (passed e (drop (i + 1) heads))
  source_yes is same =
      ap (of_schema k) (left_yes (passes e) heads i head more (ap (passes e) (sym at) ∙ is) ∙ ap (λ h. h ∷ passed e (drop (i + 1) heads)) (sym at))
      ∙ ap (λ b. cond b (head ∷ of_schema k (passed e (drop (i + 1) heads))) (of_schema k (passed e (drop (i + 1) heads)))) same

  -- it is of another schema, or not eligible
  pub source_other : passes e head ≡ true → key_eq head.schema k ≡ false → of_schema k (passed e (drop i heads)) ≡ of_schema k (passed e (drop (i + 1) heads))
  source_other is other =
      ap (of_schema k) (left_yes (passes e) heads i head more (ap (passes e) (sym at) ∙ is) ∙ ap (λ h. h ∷ passed e (drop (i + 1) heads)) (sym at))
      ∙ ap (λ b. cond b (head ∷ of_schema k (passed e (drop (i + 1) heads))) (of_schema k (passed e (drop (i + 1) heads)))) other

  pub source_no : passes e head ≡ false → of_schema k (passed e (drop i heads)) ≡ of_schema k (passed e (drop (i + 1) heads))
  source_no is = ap (of_schema k) (left_no (passes e) heads i head more (ap (passes e) (sym at) ∙ is))

-- it is added, as long as that keeps the bounds
pub taken_more : (attributes : ℕ) (limits : Limits) (so_far left rest whole : List Head) (head : Head) → left ≡ head ∷ rest → is_in_bounds attributes limits (so_far ++ head ∷ []) ≡ true
    → taken_from attributes limits so_far left ≡ whole → taken_from attributes limits (so_far ++ head ∷ []) rest ≡ whole
taken_more attributes limits so_far left rest whole head is bounds before =
    sym (ap (taken_from attributes limits so_far) is ∙ ap (λ b. cond b (taken_from attributes limits (so_far ++ head ∷ []) rest) so_far) bounds) ∙ before
