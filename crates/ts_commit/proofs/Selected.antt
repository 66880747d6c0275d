-- What is loaded and what is clipped, by any tests that tell what is named and what is kept.
use Rattle.std.proofs.Common.{◌≡◌, ℕ, Bool, true, false, ◌&&◌, not, List, [], ◌∷◌, map, refl, ap, ◌∙◌}
use Rattle.std.specs.Prelude.{filter, cond}
use Rattle.std.specs.List.{list_any}
use Rattle.ts_base.specs.Keys.{is_within}
use Rattle.ts_base.specs.declared.keys.Key.{Key}
use Rattle.ts_base.specs.declared.keys.FragKey.{FragKey}
use Rattle.ts_base.specs.declared.heads.Head.{Head}
use Rattle.ts_commit.specs.declared.vacs.VacOf.{VacOf}
use Rattle.ts_commit.specs.Selections.{has_origin, is_usable, usable, is_named, loaded, is_clipped, clips, clipped_names}
use Rattle.ts_commit.proofs.Sets.{any_same, filter_same}

-- what passes two tests passes the second of those that pass the first
pub filter_both : {X : Type 0} (p q : X → Bool) (xs : List X) → filter (λ x. p x && q x) xs ≡ filter q (filter p xs)
filter_both p q [] = refl
filter_both p q (x ∷ xs) = by (p x) (filter_both p q xs)
  where
    by : (t : Bool) → filter (λ y. p y && q y) xs ≡ filter q (filter p xs) → cond (t && q x) (x ∷ filter (λ y. p y && q y) xs) (filter (λ y. p y && q y) xs) ≡ filter q (cond t (x ∷ filter p xs) (filter p xs))
    by true rest = ap (λ l. cond (q x) (x ∷ l) l) rest
    by false rest = rest

pub loaded_is : (a b : ℕ) (heads : List Head) (vacs : List VacOf) (named : FragKey → Bool) → ((f : FragKey) → named f ≡ is_named (usable a b heads) vacs f)
    → map (λ head. head.frag) (filter (λ head. is_usable a b head && not (named head.frag)) heads) ≡ map (λ head. head.frag) (loaded a b heads vacs)
loaded_is a b heads vacs named same =
    ap (map (λ (head : Head). head.frag)) (filter_both (is_usable a b) (λ head. not (named head.frag)) heads
    ∙ filter_same (λ head. not (named head.frag)) (λ head. not (is_named (usable a b heads) vacs head.frag)) (λ head. ap not (same head.frag)) (usable a b heads))

pub clipped_is : (a b : ℕ) (heads : List Head) (kept : Key → Bool) → ((k : Key) → kept k ≡ list_any (has_origin k) (usable a b heads))
    → map (λ head. head.frag) (filter (λ head. not (is_usable a b head) && list_any (λ k. is_within a b k && not (kept k)) head.origins) heads) ≡ clipped_names a b heads
clipped_is a b heads kept same =
    ap (map (λ (head : Head). head.frag)) (filter_same (λ head. not (is_usable a b head) && list_any (λ k. is_within a b k && not (kept k)) head.origins) (clips a b heads)
    (λ head. ap (λ t. not (is_usable a b head) && t) (any_same (λ k. is_within a b k && not (kept k)) (is_clipped a b heads) (λ k. ap (λ t. is_within a b k && not t) (same k)) head.origins)) heads)
