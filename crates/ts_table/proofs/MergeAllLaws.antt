-- Lists merged two by two are merged as one list after the other, and the last versions of a list are its newest.
use Rattle.std.proofs.Common.{◌≡◌, ℤ, Bool, true, false, cond, List, [], ◌∷◌, ◌++◌, Option, Some, None, refl, sym, ap, ◌∙◌, subst}
use Rattle.std.specs.Prelude.{filter, not}
use Rattle.std.specs.List.{AllByRecursion}
use Rattle.std.specs.Cmp.{IsTotalOrder}
use Rattle.std.specs.Ordering.{is_eq, is_lt, ordering_reverse, ordering_then}
use Rattle.std.specs.declared.cmp.Ordering.{Ordering}
use Rattle.std.specs.declared.cmp.Ordering.TheVariants.{Less, Equal, Greater}
use Rattle.std.proofs.lemmas.Bool.{true≢false}
use Rattle.std.proofs.lemmas.List.{append-nil}
use Rattle.std.proofs.lemmas.Grind.{flat_map-append}
use Rattle.ts_base.specs.declared.keys.Key.{Key}
use Rattle.ts_base.specs.declared.heads.Version.{Version}
use Rattle.ts_base.specs.Keys.{key_cmp, key_lt, greater, greatest}
use Rattle.ts_table.specs.Merges.{Order, Climbs, one_at, IsMerged, version_cmp, VersionsAscend, is_last, last_alone, is_at, all_at, IsMergedAll}
use Rattle.ts_table.proofs.KeyLemmas.{below_on, not_below_on}

-- the key of a version
abbrev key_of : Version → Key
key_of v = v.key

-- ---- the greatest of some versions

-- of three versions the same one is the greatest, whichever two come first
greater_assoc : (x y z : Option Version) → greater key_of (greater key_of x y) z ≡ greater key_of x (greater key_of y z)
greater_assoc None y z = refl
greater_assoc (Some x) None z = refl
greater_assoc (Some x) (Some y) None = refl
greater_assoc (Some x) (Some y) (Some z) = by (key_lt x.key y.key) (key_lt y.key z.key) refl refl
  where
    by : (a b : Bool) → key_lt x.key y.key ≡ a → key_lt y.key z.key ≡ b
        → Some (cond (key_lt (cond a y x).key z.key) z (cond a y x)) ≡ Some (cond (key_lt x.key (cond b z y).key) (cond b z y) x)
    by true true e f = ap (λ t. Some (cond t z y)) f ∙ sym (ap (λ t. Some (cond t z x)) (below_on x.key y.key z.key e f))
    by true false e f = ap (λ t. Some (cond t z y)) f ∙ sym (ap (λ t. Some (cond t y x)) e)
    by false true e f = refl
    by false false e f = ap (λ t. Some (cond t z x)) (not_below_on x.key y.key z.key e f) ∙ sym (ap (λ t. Some (cond t y x)) e)

-- the greatest of two lists is the greater one of their greatest
greatest_append : (xs ys : List Version) → greatest key_of (xs ++ ys) ≡ greater key_of (greatest key_of xs) (greatest key_of ys)
greatest_append [] ys = refl
greatest_append (x ∷ xs) ys = ap (greater key_of (Some x)) (greatest_append xs ys) ∙ sym (greater_assoc (Some x) (greatest key_of xs) (greatest key_of ys))

-- a version is not the greatest where one follows it, and all that follow are above it
greatest_later : (v w : Version) (ws : List Version) → AllByRecursion (λ (x : Version). key_lt v.key x.key ≡ true) (w ∷ ws) → greatest key_of (v ∷ w ∷ ws) ≡ greatest key_of (w ∷ ws)
greatest_later v w [] all = ap (λ t. Some (cond t w v)) all.0
greatest_later v w (x ∷ xs) all = by (greatest key_of (x ∷ xs)) (greatest_later v x xs all.1)
  where
    by : (g : Option Version) → greater key_of (Some v) g ≡ g → greater key_of (Some v) (greater key_of (Some w) g) ≡ greater key_of (Some w) g
    by None e = ap (λ t. Some (cond t w v)) all.0
    by (Some g) e = sym (greater_assoc (Some v) (Some w) (Some g)) ∙ ap (λ t. greater key_of (Some (cond t w v)) (Some g)) all.0

module _ (cmp : Order) (total : IsTotalOrder cmp) where
  -- ---- the last versions of a list

  -- what is kept of a list keeps what holds of all
  pub last_all : (P : Version → Type 0) (vs : List Version) → AllByRecursion P vs → AllByRecursion P (last_alone cmp vs)
  last_all P [] all = tt
  last_all P (v ∷ vs) all = by (is_last cmp v vs) (last_all P vs all.1)
    where
      by : (b : Bool) → AllByRecursion P (last_alone cmp vs) → AllByRecursion P (cond b (v ∷ last_alone cmp vs) (last_alone cmp vs))
      by true rest = (all.0, rest)
      by false rest = rest

  -- what comes behind a version at its place or behind it is behind all before that place
  above_on : (u : List ℤ) (v w : Version) → cmp u v.coords ≡ Less → version_cmp cmp v w ≡ Less → cmp u w.coords ≡ Less
  above_on u v w less next = by (cmp v.coords w.coords) refl next
    where
      by : (o : Ordering) → cmp v.coords w.coords ≡ o → ordering_then o (key_cmp v.key w.key) ≡ Less → cmp u w.coords ≡ Less
      by Less e h = total.trans u v.coords w.coords less e
      by Equal e h = total.antisymm u w.coords ∙ ap ordering_reverse (sym (total.congr v.coords w.coords u e)) ∙ sym (total.antisymm u v.coords) ∙ less
      by Greater e h = absurd (cc)

  -- so are all that come behind that version
  above_all : (u : List ℤ) (v : Version) (ws : List Version) → cmp u v.coords ≡ Less → AllByRecursion (λ (w : Version). version_cmp cmp v w ≡ Less) ws
      → AllByRecursion (λ (w : Version). cmp u w.coords ≡ Less) ws
  above_all u v [] less all = tt
  above_all u v (w ∷ ws) less all = (above_on u v w less all.0, above_all u v ws less all.1)

  -- all that follow a version that is the last of its place are behind that place
  above_last : (v : Version) (vs : List Version) → VersionsAscend cmp (v ∷ vs) → is_last cmp v vs ≡ true → AllByRecursion (λ (w : Version). cmp v.coords w.coords ≡ Less) vs
  above_last v [] asc last = tt
  above_last v (w ∷ ws) asc last = let here = by (cmp v.coords w.coords) refl asc.0.0 last in (here, above_all v.coords w ws here asc.1.0)
    where
      by : (o : Ordering) → cmp v.coords w.coords ≡ o → ordering_then o (key_cmp v.key w.key) ≡ Less → not (is_eq o) ≡ true → cmp v.coords w.coords ≡ Less
      by Less e h l = e
      by Equal e h l = absurd (true≢false (sym l))
      by Greater e h l = absurd (cc)

  -- the last versions of a list that ascends climb
  pub last_climbs : (vs : List Version) → VersionsAscend cmp vs → Climbs cmp (last_alone cmp vs)
  last_climbs [] asc = tt
  last_climbs (v ∷ vs) asc = by (is_last cmp v vs) refl (last_climbs vs asc.1)
    where
      by : (b : Bool) → is_last cmp v vs ≡ b → Climbs cmp (last_alone cmp vs) → Climbs cmp (cond b (v ∷ last_alone cmp vs) (last_alone cmp vs))
      by true e rest = (last_all (λ (w : Version). cmp v.coords w.coords ≡ Less) vs (above_last v vs asc e), rest)
      by false e rest = rest

  -- two places that tie with a third tie
  ties : (x y c : List ℤ) → is_eq (cmp x c) ≡ true → is_eq (cmp y c) ≡ true → cmp x y ≡ Equal
  ties x y c first second = by (cmp x c) (cmp y c) refl refl first second
    where
      by : (o p : Ordering) → cmp x c ≡ o → cmp y c ≡ p → is_eq o ≡ true → is_eq p ≡ true → cmp x y ≡ Equal
      by Equal Equal e f s t = total.congr x c y e ∙ total.antisymm c y ∙ ap ordering_reverse f
      by Less p e f s t = absurd (true≢false (sym s))
      by Greater p e f s t = absurd (true≢false (sym s))
      by Equal Less e f s t = absurd (true≢false (sym t))
      by Equal Greater e f s t = absurd (true≢false (sym t))

  -- nothing behind a place stands there
  none_there : (c x : List ℤ) (vs : List Version) → is_eq (cmp x c) ≡ true → AllByRecursion (λ (w : Version). cmp x w.coords ≡ Less) vs → filter (is_at cmp c) vs ≡ []
  none_there c x [] tie all = refl
  none_there c x (v ∷ vs) tie all = by (is_at cmp c v) refl (none_there c x vs tie all.1)
    where
      by : (b : Bool) → is_at cmp c v ≡ b → filter (is_at cmp c) vs ≡ [] → cond b (v ∷ filter (is_at cmp c) vs) (filter (is_at cmp c) vs) ≡ []
      by true e rest = absurd (let level = ties x v.coords c tie e in let less = all.0 in cc)
      by false e rest = rest

  -- of the versions of one place those that follow are above
  later_above : (c : List ℤ) (v : Version) (vs : List Version) → is_at cmp c v ≡ true → AllByRecursion (λ (w : Version). version_cmp cmp v w ≡ Less) vs
      → AllByRecursion (λ (w : Version). key_lt v.key w.key ≡ true) (filter (is_at cmp c) vs)
  later_above c v [] at all = tt
  later_above c v (w ∷ ws) at all = by (is_at cmp c w) refl (later_above c v ws at all.1)
    where
      by : (b : Bool) → is_at cmp c w ≡ b → AllByRecursion (λ (x : Version). key_lt v.key x.key ≡ true) (filter (is_at cmp c) ws)
          → AllByRecursion (λ (x : Version). key_lt v.key x.key ≡ true) (cond b (w ∷ filter (is_at cmp c) ws) (filter (is_at cmp c) ws))
      by true e rest = (ap is_lt (sym (ap (λ o. ordering_then o (key_cmp v.key w.key)) (ties v.coords w.coords c at e)) ∙ all.0), rest)
      by false e rest = rest

  -- what stands at a place among the last versions is the newest one there
  pub last_at : (c : List ℤ) (vs : List Version) → VersionsAscend cmp vs → one_at cmp c (last_alone cmp vs) ≡ greatest key_of (filter (is_at cmp c) vs)
  last_at c [] asc = refl
  last_at c (v ∷ vs) asc = by (is_last cmp v vs) refl (is_at cmp c v) refl (last_at c vs asc.1)
    where
      -- where one of the same place follows, this one is not the greatest
      followed : (ws : List Version) → ws ≡ vs → is_last cmp v ws ≡ false → is_at cmp c v ≡ true → greatest key_of (filter (is_at cmp c) vs) ≡ greatest key_of (v ∷ filter (is_at cmp c) vs)
      followed [] same e at = absurd (true≢false e)
      followed (w ∷ ws) same e at =
          let all = subst (λ xs. AllByRecursion (λ (x : Version). version_cmp cmp v x ≡ Less) xs) (sym same) asc.0 in
          subst (λ xs. greatest key_of (filter (is_at cmp c) xs) ≡ greatest key_of (v ∷ filter (is_at cmp c) xs)) same
          (there (is_at cmp c w) refl (next (cmp v.coords w.coords) refl e) (later_above c v (w ∷ ws) at all))
        where
          next : (o : Ordering) → cmp v.coords w.coords ≡ o → not (is_eq o) ≡ false → is_at cmp c w ≡ true
          next Equal f k = ap is_eq (sym (total.congr v.coords w.coords c f)) ∙ at
          next Less f k = absurd (true≢false k)
          next Greater f k = absurd (true≢false k)

          there : (b : Bool) → is_at cmp c w ≡ b → b ≡ true → AllByRecursion (λ (x : Version). key_lt v.key x.key ≡ true) (cond b (w ∷ filter (is_at cmp c) ws) (filter (is_at cmp c) ws))
              → greatest key_of (cond b (w ∷ filter (is_at cmp c) ws) (filter (is_at cmp c) ws)) ≡ greatest key_of (v ∷ cond b (w ∷ filter (is_at cmp c) ws) (filter (is_at cmp c) ws))
          there true f k above = sym (greatest_later v w (filter (is_at cmp c) ws) above)
          there false f k above = absurd (true≢false (sym k))

      by : (b : Bool) → is_last cmp v vs ≡ b → (t : Bool) → is_at cmp c v ≡ t → one_at cmp c (last_alone cmp vs) ≡ greatest key_of (filter (is_at cmp c) vs)
          → one_at cmp c (cond b (v ∷ last_alone cmp vs) (last_alone cmp vs)) ≡ greatest key_of (cond t (v ∷ filter (is_at cmp c) vs) (filter (is_at cmp c) vs))
      by true e true f rest =
          ap (λ t. cond t (Some v) (one_at cmp c (last_alone cmp vs))) f
          ∙ sym (ap (λ xs. greatest key_of (v ∷ xs)) (none_there c v.coords vs f (above_last v vs asc e)))
      by true e false f rest = ap (λ t. cond t (Some v) (one_at cmp c (last_alone cmp vs))) f ∙ rest
      by false e true f rest = rest ∙ followed vs refl e f
      by false e false f rest = rest

  -- ---- many lists

  -- the last versions of one list are that list merged
  pub one_merged : (vs : List Version) → VersionsAscend cmp vs → IsMergedAll cmp (vs ∷ []) (last_alone cmp vs)
  one_merged vs asc = record { climbs = last_climbs vs asc; at = λ c. last_at c vs asc ∙ ap (greatest key_of) (sym (append-nil (filter (is_at cmp c) vs))) }

  -- what merges some lists and what merges others, merged, merges all
  pub both_merged : (xs ys : List (List Version)) (first second list : List Version) → IsMergedAll cmp xs first → IsMergedAll cmp ys second → IsMerged cmp first second list
      → IsMergedAll cmp (xs ++ ys) list
  both_merged xs ys first second list a b merged = record {
    climbs = merged.climbs;
    at = λ c.
        let left = a.at c in
        let right = b.at c in
        merged.at c ∙ (λ i. greater key_of (left i) (right i)) ∙ sym (greatest_append (all_at cmp c xs) (all_at cmp c ys))
        ∙ ap (greatest key_of) (sym (flat_map-append (filter (is_at cmp c)) xs ys));
  }
