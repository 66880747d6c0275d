-- Keys and versions that stand in lists.
use Rattle.std.proofs.Common.{◌≡◌, ℤ, Bool, true, false, cond, ◌||◌, List, [], ◌∷◌, Option, Some, None, refl, sym, ◌∙◌, ap, subst}
use Rattle.std.specs.Prelude.{Contains, filter}
use Rattle.std.specs.List.{list_any}
use Rattle.std.proofs.lemmas.Bool.{true≢false, and_parts}
use Rattle.std.proofs.lemmas.List.Folds.{Any-from_list_any, list_any-from_Any}
use Rattle.std.proofs.lemmas.Option.{same_Some, none-some}
use Rattle.ts_base.specs.declared.keys.Key.{Key}
use Rattle.ts_base.specs.declared.heads.Version.{Version}
use Rattle.ts_base.specs.Keys.{key_eq}
use Rattle.ts_base.specs.Coords.{coords_eq}
use Rattle.ts_model.specs.Pieces.{version_at}
use Rattle.ts_model.specs.Merging.{newest_at, with_key}
use Rattle.ts_model.proofs.ListLemmas.{Contains-here, Contains-there, Contains-filter, find-Some, find-filter}
use Rattle.ts_model.proofs.KeyLemmas.{key_same, key_itself, greatest-Some}

-- a key that is found among others is one of them
pub key_there : (k : Key) (ks : List Key) → list_any (key_eq k) ks ≡ true → Contains ks k
key_there k [] e = absurd (true≢false (sym e))
key_there k (l ∷ ks) e = elim (key_eq k l) as (λ t. key_eq k l ≡ t → t || list_any (key_eq k) ks ≡ true → Contains (l ∷ ks) k) [
  | true ↦ λ same _. subst (λ x. Contains (x ∷ ks) k) (key_same k l same) (Contains-here k ks)
  | false ↦ λ other rest. Contains-there l ks k (key_there k ks rest)
] refl e

-- a test that a member passes is passed by one, and the other way
pub any_member : {X : Type 0} (q : X → Bool) (xs : List X) (x : X) → Contains xs x → q x ≡ true → list_any q xs ≡ true
any_member q xs x at passes = list_any-from_Any q xs (at.0, x, at.1, at.2, passes)

pub member_any : {X : Type 0} (q : X → Bool) (xs : List X) → list_any q xs ≡ true → (x : X) × Contains xs x × (q x ≡ true)
member_any q xs e = let found = Any-from_list_any q xs e in (found.1, (found.0, found.2, found.3), found.4)

-- a key among others is found
pub key_found : (k : Key) (ks : List Key) → Contains ks k → list_any (key_eq k) ks ≡ true
key_found k ks at = any_member (key_eq k) ks k at (key_itself k)

-- a version that has a key
pub with_key-is : (k : Key) (o : Option Version) (v : Version) → with_key k o ≡ Some v → (o ≡ Some v) × (v.key ≡ k)
with_key-is k None v e = absurd (none-some v e)
with_key-is k (Some u) v e = by (key_eq u.key k) refl e
  where
    by : (b : Bool) → key_eq u.key k ≡ b → cond b (Some u) None ≡ Some v → (Some u ≡ Some v) × (v.key ≡ k)
    by true same is = (is, subst (λ x. x.key ≡ k) (same_Some u v is) (key_same u.key k same))
    by false other is = absurd (none-some v is)

-- a version has its own key
pub with_own_key : (o : Option Version) (v : Version) → o ≡ Some v → with_key v.key o ≡ Some v
with_own_key o v is = ap (with_key v.key) is ∙ ap (λ b. cond b (Some v) None) (key_itself v.key)

-- the newest version of a coordinate is the one of its key
pub newest_is_at : (vs : List Version) (c : List ℤ) (v : Version) → newest_at vs c ≡ Some v → version_at vs v.key c ≡ Some v
newest_is_at vs c v newest =
    sym (find-filter (λ u. key_eq u.key v.key) (λ u. coords_eq u.coords c) vs) ∙ (greatest-Some (λ u. u.key) (filter (λ u. coords_eq u.coords c) vs) v newest).first

-- a version that is found stands among those of its coordinate
pub found_there : (vs : List Version) (k : Key) (c : List ℤ) (v : Version) → version_at vs k c ≡ Some v → Contains (filter (λ u. coords_eq u.coords c) vs) v
found_there vs k c v e =
    let found = find-Some _ vs v e in
    Contains-filter (λ u. coords_eq u.coords c) vs v found.0 (and_parts (key_eq v.key k) (coords_eq v.coords c) found.1).1
