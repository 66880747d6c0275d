-- The law of reading: what the piece of some origins holds of a coordinate.
use Rattle.std.proofs.Common.{◌≡◌, ℕ, ℤ, Bool, true, false, cond, ◌&&◌, ◌||◌, not, List, [], ◌∷◌, Option, Some, None, find, refl, sym, ◌∙◌, ap, subst, arith}
use Rattle.std.specs.Prelude.{Contains, filter, option_and_then, nat_le}
use Rattle.std.proofs.lemmas.Bool.{true≢false, and_parts, and_from, le-leb, leb-true}
use Rattle.std.proofs.lemmas.Option.{none-some}
use Rattle.ts_base.specs.declared.keys.Key.{Key}
use Rattle.ts_base.specs.declared.heads.Piece.{Piece}
use Rattle.ts_base.specs.declared.heads.Version.{Version}
use Rattle.ts_base.specs.Keys.{key_eq, key_lt, is_within}
use Rattle.ts_base.specs.Coords.{coords_eq}
use Rattle.ts_commit.specs.Selections.{meets, lies_in, has_origin, keeps_last, is_usable}
use Rattle.ts_model.specs.declared.deeds.Written.{Written}
use Rattle.ts_model.specs.Deeds.{History, IsHistory, writes, has_cell}
use Rattle.ts_model.specs.Pieces.{version_at, version_of}
use Rattle.ts_model.proofs.ListLemmas.{Contains-nil, Contains-here, Contains-there, Contains-filter, filter-Contains, find-Some, find_member, find-filter}
use Rattle.ts_model.proofs.KeyLemmas.{key_same, key_itself, greatest-None, greatest-Some, same_from_both}
use Rattle.ts_model.proofs.HistoryLaws.{one_write}
use Rattle.ts_law.specs.Origins.{origins_of, last_of, last_version, made_by, kept_of, HoldsWrites, newest_at}
pub use Rattle.ts_model.proofs.Members.{key_there, any_member, member_any, key_found, with_key-is, with_own_key}
use Rattle.ts_law.proofs.NewestBy.{key_of_version, last_is, newest_by}

-- ---- origins

-- a test that all pass leaves all
pub filter_all : {X : Type 0} (q : X → Bool) (xs : List X) → ((x : X) → Contains xs x → q x ≡ true) → filter q xs ≡ xs
filter_all q [] all = refl
filter_all q (x ∷ xs) all = ap (λ t. cond t (x ∷ filter q xs) (filter q xs)) (all x (Contains-here x xs)) ∙ ap (λ l. x ∷ l) (filter_all q xs (λ y at. all y (Contains-there x xs y at)))

-- ---- searches

-- searches by tests that agree find the same
pub find_alike : {X : Type 0} (p q : X → Bool) (xs : List X) → ((x : X) → p x ≡ q x) → find p xs ≡ find q xs
find_alike p q [] same = refl
find_alike p q (x ∷ xs) same = ap (λ b. cond b (Some x) (find p xs)) (same x) ∙ ap (λ o. cond (q x) (Some x) o) (find_alike p q xs same)

-- a search by a test that nothing passes finds nothing
pub find_none : {X : Type 0} (p : X → Bool) (xs : List X) → ((x : X) → p x ≡ false) → find p xs ≡ None
find_none p [] fails = refl
find_none p (x ∷ xs) fails = ap (λ b. cond b (Some x) (find p xs)) (fails x) ∙ find_none p xs fails

-- a test on keys is decided by the key that is looked for
pub with_test : (f : Key → Bool) (own k : Key) (rest b : Bool) → f k ≡ b → (key_eq own k && rest) && f own ≡ cond b (key_eq own k && rest) false
with_test f own k rest b is = by (key_eq own k) refl
  where
    and_is : (r c : Bool) → r && c ≡ cond c r false
    and_is true true = refl
    and_is true false = refl
    and_is false true = refl
    and_is false false = refl

    by : (t : Bool) → key_eq own k ≡ t → (t && rest) && f own ≡ cond b (t && rest) false
    by true same = ap (λ c. rest && c) (ap f (key_same own k same) ∙ is) ∙ and_is rest b
    by false other = both b
      where
        both : (c : Bool) → false ≡ cond c false false
        both true = refl
        both false = refl

-- a version is found among those whose keys pass a test where its key passes it
pub version_at_filter : (f : Key → Bool) (vs : List Version) (k : Key) (c : List ℤ) → version_at (filter (λ v. f v.key) vs) k c ≡ cond (f k) (version_at vs k c) None
version_at_filter f vs k c =
    find-filter (λ v. key_eq v.key k && coords_eq v.coords c) (λ v. f v.key) vs ∙ by (f k) refl
  where
    by : (b : Bool) → f k ≡ b → find (λ v. (key_eq v.key k && coords_eq v.coords c) && f v.key) vs ≡ cond b (version_at vs k c) None
    by true is = find_alike _ _ vs (λ v. with_test f v.key k (coords_eq v.coords c) true is)
    by false is = find_none _ vs (λ v. with_test f v.key k (coords_eq v.coords c) false is)

-- the test alone
just_test : (f : Key → Bool) (own k : Key) (b : Bool) → f k ≡ b → key_eq own k && f own ≡ cond b (key_eq own k) false
just_test f own k b is = by (key_eq own k) refl
  where
    by : (t : Bool) → key_eq own k ≡ t → t && f own ≡ cond b t false
    by true same = ap f (key_same own k same) ∙ is ∙ itself b
      where
        itself : (c : Bool) → c ≡ cond c true false
        itself true = refl
        itself false = refl
    by false other = both b
      where
        both : (c : Bool) → false ≡ cond c false false
        both true = refl
        both false = refl

-- the write of a key is found among those whose keys pass a test where the key passes it
pub made_by_filter : (f : Key → Bool) (ws : List Written) (k : Key) (c : List ℤ) → made_by (filter (λ w. f w.key) ws) k c ≡ cond (f k) (made_by ws k c) None
made_by_filter f ws k c = ap (option_and_then (λ w. version_of w c)) (find-filter (λ w. key_eq w.key k) (λ w. f w.key) ws) ∙ by (f k) refl
  where
    by : (b : Bool) → f k ≡ b → option_and_then (λ w. version_of w c) (find (λ w. key_eq w.key k && f w.key) ws) ≡ cond b (made_by ws k c) None
    by true is = ap (option_and_then (λ w. version_of w c)) (find_alike _ _ ws (λ w. just_test f w.key k true is))
    by false is = ap (option_and_then (λ w. version_of w c)) (find_none _ ws (λ w. just_test f w.key k false is))

-- ---- versions and their keys

-- the write of a key, and its version
pub made_by-is : (ws : List Written) (k : Key) (c : List ℤ) (v : Version) → made_by ws k c ≡ Some v → (w : Written) × Contains ws w × (version_of w c ≡ Some v) × (w.key ≡ k)
made_by-is ws k c v e = by (find (λ w. key_eq w.key k) ws) refl e
  where
    by : (o : Option Written) → find (λ w. key_eq w.key k) ws ≡ o → option_and_then (λ w. version_of w c) o ≡ Some v → (w : Written) × Contains ws w × (version_of w c ≡ Some v) × (w.key ≡ k)
    by None none is = absurd (none-some v is)
    by (Some w) some is = let found = find-Some _ ws w some in (w, found.0, is, key_same w.key k found.1)

-- the last write and its version
pub last_version-is : (ws : List Written) (c : List ℤ) (v : Version) → last_version ws c ≡ Some v → (w : Written) × (last_of ws c ≡ Some w) × (version_of w c ≡ Some v)
last_version-is ws c v e = by (last_of ws c) refl e
  where
    by : (o : Option Written) → last_of ws c ≡ o → option_and_then (λ w. version_of w c) o ≡ Some v → (w : Written) × (last_of ws c ≡ Some w) × (version_of w c ≡ Some v)
    by None none is = absurd (none-some v is)
    by (Some w) some is = (w, some, is)

-- what is kept is the version of a write, under its key
pub kept_of-is : (last : Bool) (ws : List Written) (k : Key) (c : List ℤ) (v : Version) → kept_of last ws k c ≡ Some v → (w : Written) × Contains ws w × (version_of w c ≡ Some v) × (v.key ≡ k)
kept_of-is true ws k c v e =
    let own = with_key-is k (last_version ws c) v e in
    let of = last_version-is ws c v own.0 in
    (of.0, (last_is ws c of.0 of.1).0, of.2, own.1)
kept_of-is false ws k c v e =
    let of = made_by-is ws k c v e in
    (of.0, of.1, of.2, key_of_version of.0 c v of.2 ∙ of.3)

module _ (h : History) (is : IsHistory h) where
  -- a write of the history makes its own version
  pub made_by_own : (f : Key → Bool) (w : Written) (c : List ℤ) → Contains (writes h) w → f w.key ≡ true → made_by (filter (λ w. f w.key) (writes h)) w.key c ≡ version_of w c
  made_by_own f w c at passes = by (find (λ u. key_eq u.key w.key) ws) refl
    where
      ws : List Written
      ws = filter (λ w. f w.key) (writes h)

      by : (o : Option Written) → find (λ u. key_eq u.key w.key) ws ≡ o → option_and_then (λ u. version_of u c) o ≡ version_of w c
      by None none =
          let some = find_member (λ u. key_eq u.key w.key) ws w (Contains-filter (λ u. f u.key) (writes h) w at passes) (key_itself w.key) in
          absurd (none-some some.0 (sym none ∙ some.1))
      by (Some u) some =
          let found = find-Some _ ws u some in
          ap (λ x. version_of x c) (one_write h u w is (filter-Contains (λ u. f u.key) (writes h) u found.0).0 at (key_same u.key w.key found.1))

  -- ---- the last of more writes

  -- the last write of these, where it is one of fewer, is the last of those
  pub last_of_fewer : (ws us : List Written) (c : List ℤ) (w : Written) → ((u : Written) → Contains us u → Contains ws u × Contains (writes h) u) → last_of ws c ≡ Some w → Contains us w → last_of us c ≡ Some w
  last_of_fewer ws us c w fewer last own = by (last_of us c) refl
    where
      has : has_cell c w ≡ true
      has = (last_is ws c w last).1

      there : Contains (filter (has_cell c) us) w
      there = Contains-filter (has_cell c) us w own has

      by : (o : Option Written) → last_of us c ≡ o → o ≡ Some w
      by None none = absurd (Contains-nil w (subst (λ l. Contains l w) (greatest-None (λ u. u.key) (filter (has_cell c) us) none) there))
      by (Some u) some =
          let of = last_is us c u some in
          let of_all = fewer u of.0 in
          let not_below : key_lt w.key u.key ≡ false = (greatest-Some (λ x. x.key) (filter (has_cell c) ws) w last).top u (Contains-filter (has_cell c) ws u of_all.0 of.1) in
          let not_above : key_lt u.key w.key ≡ false = (greatest-Some (λ x. x.key) (filter (has_cell c) us) u some).top w there in
          ap Some (one_write h u w is of_all.1 (fewer w own).1 (same_from_both u.key w.key not_above not_below))

  -- ---- the law of reading

  module _ (p : Piece) (holds : HoldsWrites h p) (a b : ℕ) (usable : is_usable a b p.head ≡ true) (c : List ℤ) where
    -- the versions of the piece that are stamped in the interval
    abbrev within : List Version
    within = filter (λ v. is_within a b v.key) p.versions

    -- the origins that are stamped there
    abbrev wrote : List Written
    wrote = filter (λ w. is_within a b w.key) (origins_of h p.head)

    -- a version there is that of an origin there
    of_write : (v : Version) → version_at within v.key c ≡ Some v → (w : Written) × Contains wrote w × (version_of w c ≡ Some v)
    of_write v found = by (is_within a b v.key) refl (sym (version_at_filter (is_within a b) p.versions v.key c) ∙ found)
      where
        by : (t : Bool) → is_within a b v.key ≡ t → cond t (version_at p.versions v.key c) None ≡ Some v → (w : Written) × Contains wrote w × (version_of w c ≡ Some v)
        by true inside e =
            let of = kept_of-is (keeps_last p.head) (origins_of h p.head) v.key c v (sym (holds.versions v.key c) ∙ e) in
            (of.0, Contains-filter (λ w. is_within a b w.key) (origins_of h p.head) of.0 of.1 (subst (λ k. is_within a b k ≡ true) (key_of_version of.0 c v of.2) inside), of.2)
        by false outside e = absurd (none-some v e)

    -- where the piece keeps the last versions alone, all its origins are stamped in the interval
    all_within : keeps_last p.head ≡ true → (w : Written) → Contains (origins_of h p.head) w → is_within a b w.key ≡ true
    all_within last w at =
        let k : Contains p.head.origins w.key = key_there w.key p.head.origins (filter-Contains (λ u. has_origin u.key p.head) (writes h) w at).1 in
        let lies = and_parts (nat_le a p.head.frag.t1) (nat_le p.head.frag.t2 b) (by_kind (keeps_last p.head) last (and_parts (meets a b p.head.frag) (not (keeps_last p.head) || lies_in a b p.head.frag) usable).1) in
        let from_on = holds.span.from_on w.key k in
        let up_to = holds.span.up_to w.key k in
        let low = leb-true a p.head.frag.t1 lies.0 in
        let high = leb-true p.head.frag.t2 b lies.1 in
        and_from (nat_le a w.key.t) (nat_le w.key.t b) (le-leb a w.key.t (omega (arith, from_on, low))) (le-leb w.key.t b (omega (arith, up_to, high)))
      where
        by_kind : (t : Bool) → t ≡ true → not t || lies_in a b p.head.frag ≡ true → lies_in a b p.head.frag ≡ true
        by_kind true e lies = lies
        by_kind false e lies = absurd (true≢false (sym e))

    -- the last origin there has its version there
    has_last : (w : Written) (v : Version) → last_of wrote c ≡ Some w → version_of w c ≡ Some v → version_at within v.key c ≡ Some v
    has_last w v last made =
        let of = filter-Contains (λ u. is_within a b u.key) (origins_of h p.head) w (last_is wrote c w last).0 in
        let own : v.key ≡ w.key = key_of_version w c v made in
        version_at_filter (is_within a b) p.versions v.key c
        ∙ ap (λ t. cond t (version_at p.versions v.key c) None) (ap (is_within a b) own ∙ of.1)
        ∙ holds.versions v.key c
        ∙ by (keeps_last p.head) refl of.0 own
      where
        by : (t : Bool) → keeps_last p.head ≡ t → Contains (origins_of h p.head) w → v.key ≡ w.key → kept_of t (origins_of h p.head) v.key c ≡ Some v
        by false kind own_origin own =
            let of = filter-Contains (λ u. has_origin u.key p.head) (writes h) w own_origin in
            ap (λ k. made_by (origins_of h p.head) k c) own ∙ made_by_own (λ k. has_origin k p.head) w c of.0 of.1 ∙ made
        by true kind own_origin own =
            let same : last_of (origins_of h p.head) c ≡ Some w = ap (λ l. last_of l c) (sym (filter_all (λ u. is_within a b u.key) (origins_of h p.head) (all_within kind))) ∙ last in
            with_own_key (last_version (origins_of h p.head) c) v (ap (option_and_then (λ u. version_of u c)) same ∙ made)

    -- the newest version there is that of the last origin there that has the coordinate; where there is none, there is no version
    pub law_of_reading : newest_at within c ≡ last_version wrote c
    law_of_reading = newest_by within wrote c of_write has_last

    -- a version of the piece that is stamped there is that of an origin there
    pub reads_own : (v : Version) → is_within a b v.key ≡ true → version_at p.versions v.key c ≡ Some v → (w : Written) × Contains wrote w × (version_of w c ≡ Some v)
    reads_own v inside found = of_write v (version_at_filter (is_within a b) p.versions v.key c ∙ ap (λ t. cond t (version_at p.versions v.key c) None) inside ∙ found)

    -- the last origin there has its version in the piece
    pub reads_last : (w : Written) (v : Version) → last_of wrote c ≡ Some w → version_of w c ≡ Some v → version_at p.versions v.key c ≡ Some v
    reads_last w v last made = by (is_within a b v.key) (sym (version_at_filter (is_within a b) p.versions v.key c) ∙ has_last w v last made)
      where
        by : (t : Bool) → cond t (version_at p.versions v.key c) None ≡ Some v → version_at p.versions v.key c ≡ Some v
        by true e = e
        by false e = absurd (none-some v e)
