-- The last versions of a list, place after place.
use Rattle.std.proofs.Common.{◌≡◌, ℕ, ◌+◌, ◌<◌, ◌≤◌, true, false, List, [], ◌∷◌, ◌++◌, length, drop, get_or, refl, sym, ap, ◌∙◌, append_assoc, arith}
use Rattle.std.specs.Prelude.{not, Some, slice_get}
use Rattle.std.proofs.lemmas.Option.{get_or_from_slice_get, slice_get_within}
use Rattle.std.specs.Ordering.{is_eq}
use Rattle.std.proofs.lemmas.List.{drop_more, drop_all}
use Rattle.ts_base.specs.declared.heads.Version.{Version}
use Rattle.ts_table.specs.Tables.{no_version, version_or}
use Rattle.ts_table.specs.Merges.{Order, is_last, last_alone}

-- what is behind a place
rest_at : (vs : List Version) (place : ℕ) → place < length vs → drop place vs ≡ version_or vs place ∷ drop (place + 1) vs
rest_at vs place within = drop_more vs place no_version within

-- a version that stands before the next is the last of its cell where the next stands at another one
pub last_before : (cmp : Order) (v : Version) (vs : List Version) (next : ℕ) → next < length vs → is_last cmp v (drop next vs) ≡ not (is_eq (cmp v.coords (version_or vs next).coords))
last_before cmp v vs next within = ap (is_last cmp v) (rest_at vs next within)

pub last_of_all : (cmp : Order) (v : Version) (vs : List Version) (next : ℕ) → length vs ≤ next → is_last cmp v (drop next vs) ≡ true
last_of_all cmp v vs next past = ap (is_last cmp v) (drop_all next vs past)

-- one version is kept, or none
pub last_kept : (cmp : Order) (vs : List Version) (place : ℕ) → place < length vs → is_last cmp (version_or vs place) (drop (place + 1) vs) ≡ true
    → last_alone cmp (drop place vs) ≡ version_or vs place ∷ last_alone cmp (drop (place + 1) vs)
last_kept cmp vs place within last = rw (rest_at vs place within, last) refl

pub last_left : (cmp : Order) (vs : List Version) (place : ℕ) → place < length vs → is_last cmp (version_or vs place) (drop (place + 1) vs) ≡ false
    → last_alone cmp (drop place vs) ≡ last_alone cmp (drop (place + 1) vs)
last_left cmp vs place within last = rw (rest_at vs place within, last) refl

pub ruleset lasts = (last_before, last_of_all, last_kept, last_left)

-- the same by the versions at two places
pub last_before_at : (cmp : Order) (vs : List Version) (place next : ℕ) (v w : Version) → slice_get vs place ≡ Some v → slice_get vs next ≡ Some w
    → is_last cmp (version_or vs place) (drop next vs) ≡ not (is_eq (cmp v.coords w.coords))
last_before_at cmp vs place next v w first second =
    let here : version_or vs place ≡ v = get_or_from_slice_get vs place v no_version first in
    let there : version_or vs next ≡ w = get_or_from_slice_get vs next w no_version second in
    last_before cmp (version_or vs place) vs next (slice_get_within vs next w second) ∙ (λ i. not (is_eq (cmp (here i).coords (there i).coords)))

-- a list of one item
pub alone : {X : Type 0} (xs : List X) (x : X) → 1 ≤ length xs → length xs < 2 → x ≡ get_or xs 0 x → xs ≡ x ∷ []
alone [] x some few is = absurd (omega (arith, some))
alone (y ∷ []) x some few is = ap (λ z. z ∷ []) (sym is)
alone (y ∷ z ∷ xs) x some few is = absurd (omega (arith, few))

-- one version more was kept
pub kept_on : (cmp : Order) (vs list more : List Version) (place : ℕ) (v : Version) → slice_get vs place ≡ Some v → is_last cmp (version_or vs place) (drop (place + 1) vs) ≡ true → more ≡ list ++ v ∷ []
    → list ++ last_alone cmp (drop place vs) ≡ last_alone cmp vs → more ++ last_alone cmp (drop (place + 1) vs) ≡ last_alone cmp vs
kept_on cmp vs list more place v there last is was =
    let here : version_or vs place ≡ v = get_or_from_slice_get vs place v no_version there in
    let rest = last_alone cmp (drop (place + 1) vs) in
    ap (λ xs. xs ++ rest) is ∙ append_assoc list (v ∷ []) rest ∙ ap (λ w. list ++ w ∷ rest) (sym here) ∙ ap (λ xs. list ++ xs) (sym (last_kept cmp vs place (slice_get_within vs place v there) last)) ∙ was

-- none was kept
pub left_on : (cmp : Order) (vs list same : List Version) (place : ℕ) → place < length vs → is_last cmp (version_or vs place) (drop (place + 1) vs) ≡ false → same ≡ list
    → list ++ last_alone cmp (drop place vs) ≡ last_alone cmp vs → same ++ last_alone cmp (drop (place + 1) vs) ≡ last_alone cmp vs
left_on cmp vs list same place within last is was =
    ap (λ xs. xs ++ last_alone cmp (drop (place + 1) vs)) is ∙ ap (λ xs. list ++ xs) (sym (last_left cmp vs place within last)) ∙ was
