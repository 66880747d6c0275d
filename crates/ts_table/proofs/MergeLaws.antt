-- Two lists that climb are merged into one that climbs and has at each place the newer version.
use Rattle.std.proofs.Common.{◌≡◌, ℤ, Bool, true, false, cond, List, [], ◌∷◌, Option, Some, None, refl, sym, ap, ◌∙◌}
use Rattle.std.specs.List.{AllByRecursion}
use Rattle.std.specs.Cmp.{IsTotalOrder}
use Rattle.std.specs.Ordering.{is_eq, ordering_reverse}
use Rattle.std.specs.declared.cmp.Ordering.{Ordering}
use Rattle.std.specs.declared.cmp.Ordering.TheVariants.{Less, Equal, Greater}
use Rattle.std.proofs.lemmas.Bool.{true≢false}
use Rattle.ts_base.specs.declared.keys.Key.{Key}
use Rattle.ts_base.specs.declared.heads.Version.{Version}
use Rattle.ts_base.specs.Keys.{key_lt, greater}
use Rattle.ts_table.specs.Merges.{Order, newer, chosen, merged, Climbs, one_at, IsMerged}

-- all of these come behind the coordinates
abbrev Above : Order → List ℤ → List Version → Type 0
Above cmp u vs = AllByRecursion (λ (w : Version). cmp u w.coords ≡ Less) vs

-- the key of a version
abbrev key_of : Version → Key
key_of v = v.key

-- the merged list has at a place what the newer of the two lists' versions is
abbrev Has : Order → List ℤ → List Version → List Version → List Version → Type 0
Has cmp c all xs ys = one_at cmp c all ≡ greater key_of (one_at cmp c xs) (one_at cmp c ys)

module _ (cmp : Order) (total : IsTotalOrder cmp) where
  flip : (x y : List ℤ) → cmp x y ≡ Greater → cmp y x ≡ Less
  flip x y h = total.antisymm y x ∙ ap ordering_reverse h

  -- what is behind a place is behind all before it
  behind : (x y : List ℤ) (vs : List Version) → cmp x y ≡ Less → Above cmp y vs → Above cmp x vs
  behind x y [] less all = tt
  behind x y (v ∷ vs) less all = (total.trans x y v.coords less all.0, behind x y vs less all.1)

  -- what ties with a place is behind what is behind it
  tied : (x y : List ℤ) (vs : List Version) → cmp x y ≡ Equal → Above cmp y vs → Above cmp x vs
  tied x y [] tie all = tt
  tied x y (v ∷ vs) tie all = (total.congr x y v.coords tie ∙ all.0, tied x y vs tie all.1)

  -- nothing behind a place ties with it
  none_behind : (c x : List ℤ) (vs : List Version) → is_eq (cmp x c) ≡ true → Above cmp x vs → one_at cmp c vs ≡ None
  none_behind c x [] tie all = refl
  none_behind c x (v ∷ vs) tie all = by_test (none_behind c x vs tie all.1) (is_eq (cmp v.coords c)) (apart (cmp x c) refl tie)
    where
      apart : (o : Ordering) → cmp x c ≡ o → is_eq o ≡ true → is_eq (cmp v.coords c) ≡ false
      apart Less e t = absurd (true≢false (sym t))
      apart Greater e t = absurd (true≢false (sym t))
      apart Equal e t = ap is_eq (total.antisymm v.coords c ∙ ap ordering_reverse (sym (total.congr x c v.coords e) ∙ all.0))

      by_test : one_at cmp c vs ≡ None → (b : Bool) → b ≡ false → cond b (Some v) (one_at cmp c vs) ≡ None
      by_test none true e = absurd (true≢false e)
      by_test none false e = none

  -- ---- the merged list climbs

  -- what holds of two versions holds of the newer one
  newer_all : (P : Version → Type 0) (v w : Version) → P v → P w → P (newer v w)
  newer_all P v w a b = by_test (key_lt v.key w.key)
    where
      by_test : (t : Bool) → P (cond t w v)
      by_test true = b
      by_test false = a

  -- what holds of each version of two lists holds of those of the merged list
  pub merged_all : (P : Version → Type 0) (vs ws : List Version) → AllByRecursion P vs → AllByRecursion P ws → AllByRecursion P (merged cmp vs ws)
  merged_all P [] ws a b = b
  merged_all P (v ∷ vs) [] a b = a
  merged_all P (v ∷ vs) (w ∷ ws) a b = by_order (merged_all P vs (w ∷ ws) a.1 b) (merged_all P (v ∷ vs) ws a b.1) (merged_all P vs ws a.1 b.1) (cmp v.coords w.coords)
    where
      by_order : AllByRecursion P (merged cmp vs (w ∷ ws)) → AllByRecursion P (merged cmp (v ∷ vs) ws) → AllByRecursion P (merged cmp vs ws)
          → (o : Ordering) → AllByRecursion P (chosen o v w (merged cmp vs (w ∷ ws)) (merged cmp (v ∷ vs) ws) (merged cmp vs ws))
      by_order first second both Less = (a.0, first)
      by_order first second both Greater = (b.0, second)
      by_order first second both Equal = (newer_all P v w a.0 b.0, both)

  -- what comes behind a place in both lists does so in the merged list
  merged_above : (u : List ℤ) (vs ws : List Version) → Above cmp u vs → Above cmp u ws → Above cmp u (merged cmp vs ws)
  merged_above u vs ws a b = merged_all (λ (w : Version). cmp u w.coords ≡ Less) vs ws a b

  pub merged_climbs : (vs ws : List Version) → Climbs cmp vs → Climbs cmp ws → Climbs cmp (merged cmp vs ws)
  merged_climbs [] ws a b = b
  merged_climbs (v ∷ vs) [] a b = a
  merged_climbs (v ∷ vs) (w ∷ ws) a b = by_order (merged_climbs vs (w ∷ ws) a.1 b) (merged_climbs (v ∷ vs) ws a b.1) (merged_climbs vs ws a.1 b.1) (cmp v.coords w.coords) refl
    where
      both_above : cmp v.coords w.coords ≡ Equal → (t : Bool) → Above cmp (cond t w v).coords (merged cmp vs ws)
      both_above e true = merged_above w.coords vs ws (tied w.coords v.coords vs (total.antisymm w.coords v.coords ∙ ap ordering_reverse e) a.0) b.0
      both_above e false = merged_above v.coords vs ws a.0 (tied v.coords w.coords ws e b.0)

      by_order : Climbs cmp (merged cmp vs (w ∷ ws)) → Climbs cmp (merged cmp (v ∷ vs) ws) → Climbs cmp (merged cmp vs ws)
          → (o : Ordering) → cmp v.coords w.coords ≡ o → Climbs cmp (chosen o v w (merged cmp vs (w ∷ ws)) (merged cmp (v ∷ vs) ws) (merged cmp vs ws))
      by_order first second both Less e = (merged_above v.coords vs (w ∷ ws) a.0 (e, behind v.coords w.coords ws e b.0), first)
      by_order first second both Greater e =
          let back = flip v.coords w.coords e in
          (merged_above w.coords (v ∷ vs) ws (back, behind w.coords v.coords vs back a.0) b.0, second)
      by_order first second both Equal e = (both_above e (key_lt v.key w.key), both)

  -- ---- what stands at a place

  none_right : (x : Option Version) → greater key_of x None ≡ x
  none_right None = refl
  none_right (Some v) = refl

  pub merged_at : (c : List ℤ) (vs ws : List Version) → Climbs cmp vs → Climbs cmp ws → one_at cmp c (merged cmp vs ws) ≡ greater key_of (one_at cmp c vs) (one_at cmp c ws)
  merged_at c [] ws a b = refl
  merged_at c (v ∷ vs) [] a b = sym (none_right (one_at cmp c (v ∷ vs)))
  merged_at c (v ∷ vs) (w ∷ ws) a b =
      by_order (merged_at c vs (w ∷ ws) a.1 b) (merged_at c (v ∷ vs) ws a b.1) (merged_at c vs ws a.1 b.1) (cmp v.coords w.coords) refl
    where
      first : Has cmp c (merged cmp vs (w ∷ ws)) vs (w ∷ ws) → cmp v.coords w.coords ≡ Less → (t : Bool) → is_eq (cmp v.coords c) ≡ t
          → cond t (Some v) (one_at cmp c (merged cmp vs (w ∷ ws))) ≡ greater key_of (cond t (Some v) (one_at cmp c vs)) (one_at cmp c (w ∷ ws))
      first has e true t = sym (ap (greater key_of (Some v)) (none_behind c v.coords (w ∷ ws) t (e, behind v.coords w.coords ws e b.0)))
      first has e false t = has

      second : Has cmp c (merged cmp (v ∷ vs) ws) (v ∷ vs) ws → cmp w.coords v.coords ≡ Less → (t : Bool) → is_eq (cmp w.coords c) ≡ t
          → cond t (Some w) (one_at cmp c (merged cmp (v ∷ vs) ws)) ≡ greater key_of (one_at cmp c (v ∷ vs)) (cond t (Some w) (one_at cmp c ws))
      second has e true t = sym (ap (λ x. greater key_of x (Some w)) (none_behind c w.coords (v ∷ vs) t (e, behind w.coords v.coords vs e a.0)))
      second has e false t = has

      same : Has cmp c (merged cmp vs ws) vs ws → (s t u : Bool) → s ≡ t → u ≡ t
          → cond s (Some (newer v w)) (one_at cmp c (merged cmp vs ws)) ≡ greater key_of (cond t (Some v) (one_at cmp c vs)) (cond u (Some w) (one_at cmp c ws))
      same has true true true e f = refl
      same has true true false e f = absurd (true≢false (sym f))
      same has true false u e f = absurd (true≢false e)
      same has false true u e f = absurd (true≢false (sym e))
      same has false false true e f = absurd (true≢false f)
      same has false false false e f = has

      newer_test : cmp v.coords w.coords ≡ Equal → (t : Bool) → is_eq (cmp (cond t w v).coords c) ≡ is_eq (cmp v.coords c)
      newer_test e true = ap is_eq (sym (total.congr v.coords w.coords c e))
      newer_test e false = refl

      by_order : Has cmp c (merged cmp vs (w ∷ ws)) vs (w ∷ ws) → Has cmp c (merged cmp (v ∷ vs) ws) (v ∷ vs) ws → Has cmp c (merged cmp vs ws) vs ws → (o : Ordering) → cmp v.coords w.coords ≡ o
          → Has cmp c (chosen o v w (merged cmp vs (w ∷ ws)) (merged cmp (v ∷ vs) ws) (merged cmp vs ws)) (v ∷ vs) (w ∷ ws)
      by_order less more both Less e = first less e (is_eq (cmp v.coords c)) refl
      by_order less more both Greater e = second more (flip v.coords w.coords e) (is_eq (cmp w.coords c)) refl
      by_order less more both Equal e = same both _ _ _ (newer_test e (key_lt v.key w.key)) (ap is_eq (sym (total.congr v.coords w.coords c e)))

  pub is_merged : (vs ws : List Version) → Climbs cmp vs → Climbs cmp ws → IsMerged cmp vs ws (merged cmp vs ws)
  is_merged vs ws a b = record { climbs = merged_climbs vs ws a b; at = λ c. merged_at c vs ws a b }
