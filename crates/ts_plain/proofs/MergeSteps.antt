-- A merge of two lists, of which the first i and the first j versions were merged.
use Rattle.std.proofs.Common.{◌≡◌, ℕ, ◌+◌, ◌-◌, ◌<◌, ◌≤◌, List, [], ◌∷◌, ◌++◌, length, take, drop, get_or, refl, sym, ap, ◌∙◌, append_assoc, arith, length-drop}
use Rattle.std.specs.declared.cmp.Ordering.TheVariants.{Less, Equal, Greater}
use Rattle.std.proofs.lemmas.List.{append-nil, take_all, drop_more, drop_all, get_or_default}
use Rattle.ts_base.specs.declared.heads.Version.{Version}
use Rattle.ts_plain.specs.Merges.{Order, newer, chosen, merged}

-- what was merged, and what is left to be merged
abbrev pub Goes : Order → List Version → List Version → ℕ → ℕ → List Version → List Version → Type 0
Goes cmp vs ws i j out all = out ++ merged cmp (drop i vs) (drop j ws) ≡ all

-- the next step, by the next version of each
next : (cmp : Order) (vs ws : List Version) (i j : ℕ) (v w : Version) (out all : List Version) → i < length vs → j < length ws → v ≡ get_or vs i v → w ≡ get_or ws j w → Goes cmp vs ws i j out all
    → out ++ chosen (cmp v.coords w.coords) v w (merged cmp (drop (i + 1) vs) (drop j ws)) (merged cmp (drop i vs) (drop (j + 1) ws)) (merged cmp (drop (i + 1) vs) (drop (j + 1) ws)) ≡ all
next cmp vs ws i j v w out all more less is are was =
    let first : drop i vs ≡ v ∷ drop (i + 1) vs = drop_more vs i v more ∙ ap (λ x. x ∷ drop (i + 1) vs) (sym is) in
    let second : drop j ws ≡ w ∷ drop (j + 1) ws = drop_more ws j w less ∙ ap (λ x. x ∷ drop (j + 1) ws) (sym are) in
    let others : List Version → List Version → List Version = λ xs ys. out ++ chosen (cmp v.coords w.coords) v w (merged cmp (drop (i + 1) vs) ys) (merged cmp xs (drop (j + 1) ws)) (merged cmp (drop (i + 1) vs) (drop (j + 1) ws)) in
    ap (λ xs. others xs (drop j ws)) first ∙ ap (λ ys. others (v ∷ drop (i + 1) vs) ys) second
    ∙ sym (ap (λ xs. out ++ merged cmp xs (drop j ws)) first ∙ ap (λ ys. out ++ merged cmp (v ∷ drop (i + 1) vs) ys) second) ∙ was

-- what was merged with one version more
grown : (out rest : List Version) (v : Version) → (out ++ v ∷ []) ++ rest ≡ out ++ (v ∷ rest)
grown out rest v = append_assoc out (v ∷ []) rest

pub first_on : (cmp : Order) (vs ws : List Version) (i j : ℕ) (v w : Version) (out all : List Version) → i < length vs → j < length ws → v ≡ get_or vs i v → w ≡ get_or ws j w → cmp v.coords w.coords ≡ Less
    → Goes cmp vs ws i j out all → Goes cmp vs ws (i + 1) j (out ++ v ∷ []) all
first_on cmp vs ws i j v w out all more less is are order was =
    grown out _ v ∙ sym (ap (λ o. out ++ chosen o v w (merged cmp (drop (i + 1) vs) (drop j ws)) (merged cmp (drop i vs) (drop (j + 1) ws)) (merged cmp (drop (i + 1) vs) (drop (j + 1) ws))) order)
    ∙ next cmp vs ws i j v w out all more less is are was

pub second_on : (cmp : Order) (vs ws : List Version) (i j : ℕ) (v w : Version) (out all : List Version) → i < length vs → j < length ws → v ≡ get_or vs i v → w ≡ get_or ws j w → cmp v.coords w.coords ≡ Greater
    → Goes cmp vs ws i j out all → Goes cmp vs ws i (j + 1) (out ++ w ∷ []) all
second_on cmp vs ws i j v w out all more less is are order was =
    grown out _ w ∙ sym (ap (λ o. out ++ chosen o v w (merged cmp (drop (i + 1) vs) (drop j ws)) (merged cmp (drop i vs) (drop (j + 1) ws)) (merged cmp (drop (i + 1) vs) (drop (j + 1) ws))) order)
    ∙ next cmp vs ws i j v w out all more less is are was

pub both_on : (cmp : Order) (vs ws : List Version) (i j : ℕ) (v w : Version) (out all : List Version) → i < length vs → j < length ws → v ≡ get_or vs i v → w ≡ get_or ws j w → cmp v.coords w.coords ≡ Equal
    → Goes cmp vs ws i j out all → Goes cmp vs ws (i + 1) (j + 1) (out ++ newer v w ∷ []) all
both_on cmp vs ws i j v w out all more less is are order was =
    grown out _ (newer v w) ∙ sym (ap (λ o. out ++ chosen o v w (merged cmp (drop (i + 1) vs) (drop j ws)) (merged cmp (drop i vs) (drop (j + 1) ws)) (merged cmp (drop (i + 1) vs) (drop (j + 1) ws))) order)
    ∙ next cmp vs ws i j v w out all more less is are was

-- the same where the versions are named by their places
pub first_place_on : (cmp : Order) (vs ws : List Version) (i j : ℕ) (d e : Version) (out all : List Version) → i < length vs → j < length ws → cmp (get_or vs i d).coords (get_or ws j e).coords ≡ Less
    → Goes cmp vs ws i j out all → Goes cmp vs ws (i + 1) j (out ++ get_or vs i d ∷ []) all
first_place_on cmp vs ws i j d e out all more less order was =
    first_on cmp vs ws i j (get_or vs i d) (get_or ws j e) out all more less (get_or_default vs i d (get_or vs i d) more) (get_or_default ws j e (get_or ws j e) less) order was

pub second_place_on : (cmp : Order) (vs ws : List Version) (i j : ℕ) (d e : Version) (out all : List Version) → i < length vs → j < length ws → cmp (get_or vs i d).coords (get_or ws j e).coords ≡ Greater
    → Goes cmp vs ws i j out all → Goes cmp vs ws i (j + 1) (out ++ get_or ws j e ∷ []) all
second_place_on cmp vs ws i j d e out all more less order was =
    second_on cmp vs ws i j (get_or vs i d) (get_or ws j e) out all more less (get_or_default vs i d (get_or vs i d) more) (get_or_default ws j e (get_or ws j e) less) order was

pub both_place_on : (cmp : Order) (vs ws : List Version) (i j : ℕ) (d e : Version) (out all : List Version) → i < length vs → j < length ws → cmp (get_or vs i d).coords (get_or ws j e).coords ≡ Equal
    → Goes cmp vs ws i j out all → Goes cmp vs ws (i + 1) (j + 1) (out ++ newer (get_or vs i d) (get_or ws j e) ∷ []) all
both_place_on cmp vs ws i j d e out all more less order was =
    both_on cmp vs ws i j (get_or vs i d) (get_or ws j e) out all more less (get_or_default vs i d (get_or vs i d) more) (get_or_default ws j e (get_or ws j e) less) order was

-- what is left of a list from a place on
pub rest_is : (vs : List Version) (i : ℕ) → take (length vs - i) (drop i vs) ≡ drop i vs
rest_is vs i = take_all (length vs - i) (drop i vs) (omega (arith, length-drop i vs))

-- where one list is at its end, the rest of the other follows
pub first_ends : (cmp : Order) (vs ws : List Version) (i j : ℕ) (out all : List Version) → length vs ≤ i → Goes cmp vs ws i j out all → (out ++ drop i vs) ++ drop j ws ≡ all
first_ends cmp vs ws i j out all over was =
    let none : drop i vs ≡ [] = drop_all i vs over in
    ap (λ xs. (out ++ xs) ++ drop j ws) none ∙ append_assoc out [] (drop j ws) ∙ sym (ap (λ xs. out ++ merged cmp xs (drop j ws)) none) ∙ was

pub second_ends : (cmp : Order) (vs ws : List Version) (i j : ℕ) (out all : List Version) → length ws ≤ j → Goes cmp vs ws i j out all → (out ++ drop i vs) ++ drop j ws ≡ all
second_ends cmp vs ws i j out all over was =
    let none : drop j ws ≡ [] = drop_all j ws over in
    ap (λ ys. (out ++ drop i vs) ++ ys) none ∙ append-nil (out ++ drop i vs) ∙ left_alone (drop i vs) ∙ sym (ap (λ ys. out ++ merged cmp (drop i vs) ys) none) ∙ was
  where
    left_alone : (xs : List Version) → out ++ xs ≡ out ++ merged cmp xs []
    left_alone [] = refl
    left_alone (x ∷ xs) = refl

-- what closes the steps of a merge
pub ruleset merge_loop = (first_on, second_on, both_on, first_place_on, second_place_on, both_place_on, first_ends, second_ends)
