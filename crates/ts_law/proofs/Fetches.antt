-- What a read got, fragment by fragment, and the schemas that it knows.
use Rattle.std.proofs.Common.{◌≡◌, ℕ, ℤ, Bool, true, false, cond, not, ◌&&◌, ◌⊎◌, inl, inr, List, [], ◌∷◌, ◌++◌, Option, Some, None, Ok, Result, length, arith, take, refl, sym, ◌∙◌, ap, subst}
use Rattle.std.specs.Prelude.{Contains, filter, find, option_and_then, option_map, map as list_map}
use Rattle.std.specs.List.{list_any}
use Rattle.std.specs.Option.{is_some, option_map_or}
use Rattle.std.specs.FinMap as map
use Rattle.std.specs.FinMap.Entries.{is_some-find}
use Rattle.std.proofs.lemmas.Bool.{and_parts, and_from}
use Rattle.std.proofs.lemmas.Cmp.{eq_by_cmp_equiv}
use Rattle.std.proofs.lemmas.Option.{same_Some}
use Rattle.std.proofs.lemmas.List.{take_all}
use Rattle.std.proofs.lemmas.List.Elements.{Contains-push, Contains-push_cases, Contains-append_left}
use Rattle.std.proofs.lemmas.Map.Views.{Contains-from_any, list_any-from_Contains}
use Rattle.ts_base.specs.declared.keys.Key.{Key}
use Rattle.ts_base.specs.declared.keys.FragKey.{FragKey}
use Rattle.ts_base.specs.declared.names.Name.TheVariants as name
use Rattle.ts_base.specs.declared.heads.Head.{Head}
use Rattle.ts_base.specs.declared.heads.Piece.{Piece}
use Rattle.ts_base.specs.declared.heads.Version.{Version}
use Rattle.ts_base.specs.Keys.{key_eq, key_cmp, key_lt, greater, greatest, is_within}
use Rattle.ts_base.specs.Coords.{coords_eq}
use Rattle.ts_base.specs.Exact.{key_total}
use Rattle.ts_base.specs.Held.{Held}
use Rattle.ts_domain.specs.declared.boxes.SubBox.{SubBox}
use Rattle.ts_domain.specs.Boxes.{is_in_box}
use Rattle.ts_schema.specs.declared.schemas.Schema.{Schema}
use Rattle.ts_commit.specs.Selections.{has_origin}
use Rattle.ts_model.specs.declared.deeds.Written.{Written}
use Rattle.ts_model.specs.declared.states.Opened.{Opened}
use Rattle.ts_model.specs.declared.states.Reading.{Reading}
use Rattle.ts_model.specs.Deeds.{History, IsHistory, writes, schema_with, attrs_with, has_cell}
use Rattle.ts_model.specs.Codecs.{Codec, CodecLaws, Spelled, Tracking}
use Rattle.ts_model.specs.Pieces.{version_of}
use Rattle.ts_law.specs.Origins.{origins_of, wrote_in, last_of, last_version, newest_at}
use Rattle.ts_law.specs.Stands.{HoldsIn}
use Rattle.ts_model.specs.States.{keys_named, known_schema, known_attrs}
use Rattle.ts_law.specs.Kept.{AreGot, AreSchemas, GotUsed, IsOpen, used_version}
use Rattle.ts_model.proofs.ListLemmas.{Contains-nil, Contains-cons, Contains-here, Contains-there, Contains-filter, filter-Contains, find-Some, find_member}
use Rattle.ts_model.proofs.KeyLemmas.{key_same, key_itself, greatest-None, greatest-Some, same_from_both}
use Rattle.ts_model.proofs.HistoryLaws.{one_write}
use Rattle.ts_model.proofs.Newest.{greater_assoc, version_key}
use Rattle.ts_law.proofs.NewestBy.{has_cell-version, version-has_cell, key_of_version, last_is}
use Rattle.ts_law.proofs.OriginLaws.{key_there, any_member, member_any, last_of_fewer}
use Rattle.ts_law.proofs.Grows.{filter_none, filter-append}

-- ---- members of mapped lists

module _ {X Y : Type 0} (f : X → Y) where
  -- the image of a member is a member of the images
  pub Contains-map : (xs : List X) (x : X) → Contains xs x → Contains (list_map f xs) (f x)
  Contains-map [] x at = absurd (Contains-nil x at)
  Contains-map (y ∷ xs) x at = elim (Contains-cons y xs x at) [
    | inl same ↦ subst (λ z. Contains (list_map f (y ∷ xs)) (f z)) same (Contains-here (f y) (list_map f xs))
    | inr later ↦ Contains-there (f y) (list_map f xs) (f x) (Contains-map xs x later)
  ]

  -- a member of the images is the image of a member
  pub map-Contains : (xs : List X) (y : Y) → Contains (list_map f xs) y → (x : X) × Contains xs x × (f x ≡ y)
  map-Contains [] y at = absurd (Contains-nil y at)
  map-Contains (x ∷ xs) y at = elim (Contains-cons (f x) (list_map f xs) y at) [
    | inl same ↦ (x, Contains-here x xs, same)
    | inr later ↦ let found = map-Contains xs y later in (found.0, Contains-there x xs found.0 found.1, found.2)
  ]

-- ---- the newest of two lists

-- the greatest of two lists is the greater one of each
greatest-append : {X : Type 0} (key : X → Key) (xs ys : List X) → greatest key (xs ++ ys) ≡ greater key (greatest key xs) (greatest key ys)
greatest-append key [] ys = refl
greatest-append key (x ∷ xs) ys = ap (greater key (Some x)) (greatest-append key xs ys) ∙ sym (greater_assoc key (Some x) (greatest key xs) (greatest key ys))

-- the newest version of two lists is the newer one of each
newest-append : (xs ys : List Version) (c : List ℤ) → newest_at (xs ++ ys) c ≡ greater version_key (newest_at xs c) (newest_at ys c)
newest-append xs ys c =
    ap (greatest version_key) (filter-append (λ v. coords_eq v.coords c) xs ys) ∙ greatest-append version_key (filter (λ v. coords_eq v.coords c) xs) (filter (λ v. coords_eq v.coords c) ys)

-- the version of the last of all writes is the newer one of each part's last
module _ (h : History) (is : IsHistory h) (ws us all : List Written) (c : List ℤ)
    (of_ws : (w : Written) → Contains ws w → Contains all w × Contains (writes h) w) (of_us : (w : Written) → Contains us w → Contains all w × Contains (writes h) w)
    (either : (w : Written) → Contains all w → Contains ws w ⊎ Contains us w) where
  -- no write is above the last of all
  not_above : (w : Written) → last_of all c ≡ Some w → (u : Written) → Contains all u → has_cell c u ≡ true → key_lt w.key u.key ≡ false
  not_above w last u at has = (greatest-Some (λ x. x.key) (filter (has_cell c) all) w last).top u (Contains-filter (has_cell c) all u at has)

  -- nor is its version
  no_newer : (w : Written) (v : Version) → last_of all c ≡ Some w → version_of w c ≡ Some v → (u : Written) (x : Version) → Contains all u → version_of u c ≡ Some x → key_lt v.key x.key ≡ false
  no_newer w v last made u x at is_x =
      subst (λ k. key_lt k x.key ≡ false) (sym (key_of_version w c v made)) (subst (λ k. key_lt w.key k ≡ false) (sym (key_of_version u c x is_x)) (not_above w last u at (has_cell-version u c x is_x)))

  -- the last of all stands in the first part
  in_first : (w : Written) (v : Version) → last_of all c ≡ Some w → version_of w c ≡ Some v → Contains ws w → greater version_key (last_version ws c) (last_version us c) ≡ Some v
  in_first w v last made at =
      ap (λ o. greater version_key (option_and_then (λ x. version_of x c) o) (last_version us c)) (last_of_fewer h is all ws c w of_ws last at)
      ∙ ap (λ o. greater version_key o (last_version us c)) made ∙ by (last_of us c) refl
    where
      by : (o : Option Written) → last_of us c ≡ o → greater version_key (Some v) (option_and_then (λ x. version_of x c) o) ≡ Some v
      by None none = refl
      by (Some u) some =
          let own = last_is us c u some in
          let its = version-has_cell u c own.1 in
          ap (greater version_key (Some v)) its.1 ∙ ap (λ b. Some (cond b its.0 v)) (no_newer w v last made u its.0 (of_us u own.0).0 its.1)

  -- or in the second
  in_second : (w : Written) (v : Version) → last_of all c ≡ Some w → version_of w c ≡ Some v → Contains us w → greater version_key (last_version ws c) (last_version us c) ≡ Some v
  in_second w v last made at =
      ap (λ o. greater version_key (last_version ws c) (option_and_then (λ x. version_of x c) o)) (last_of_fewer h is all us c w of_us last at)
      ∙ ap (greater version_key (last_version ws c)) made ∙ by (last_of ws c) refl
    where
      newer : (u : Written) (x : Version) → Contains ws u → version_of u c ≡ Some x → (b : Bool) → key_lt x.key v.key ≡ b → Some (cond b v x) ≡ Some v
      newer u x own is_x true below = refl
      newer u x own is_x false below =
          let same_key = same_from_both u.key w.key
          (subst (λ k. key_lt u.key k ≡ false) (key_of_version w c v made) (subst (λ k. key_lt k v.key ≡ false) (key_of_version u c x is_x) below))
          (not_above w last u (of_ws u own).0 (has_cell-version u c x is_x)) in
          sym is_x ∙ ap (λ y. version_of y c) (one_write h u w is (of_ws u own).1 (of_us w at).1 same_key) ∙ made

      by : (o : Option Written) → last_of ws c ≡ o → greater version_key (option_and_then (λ x. version_of x c) o) (Some v) ≡ Some v
      by None none = refl
      by (Some u) some =
          let own = last_is ws c u some in
          let its = version-has_cell u c own.1 in
          ap (λ o. greater version_key o (Some v)) its.1 ∙ newer u its.0 own.0 its.1 (key_lt (its.0).key v.key) refl

  -- where all have none, each part has none
  none_of : last_of all c ≡ None → (xs : List Written) → ((w : Written) → Contains xs w → Contains all w) → last_version xs c ≡ None
  none_of none xs part = by (last_of xs c) refl
    where
      by : (o : Option Written) → last_of xs c ≡ o → option_and_then (λ w. version_of w c) o ≡ None
      by None e = refl
      by (Some w) e =
          let own = last_is xs c w e in
          absurd (Contains-nil w (subst (λ l. Contains l w) (greatest-None (λ u. u.key) (filter (has_cell c) all) none) (Contains-filter (has_cell c) all w (part w own.0) own.1)))

  pub last_joined : greater version_key (last_version ws c) (last_version us c) ≡ last_version all c
  last_joined = by (last_of all c) refl
    where
      by : (o : Option Written) → last_of all c ≡ o → greater version_key (last_version ws c) (last_version us c) ≡ option_and_then (λ w. version_of w c) o
      by None none =
          ap (λ o. greater version_key o (last_version us c)) (none_of none ws (λ w at. (of_ws w at).0)) ∙ ap (greater version_key None) (none_of none us (λ w at. (of_us w at).0))
      by (Some w) last =
          let own = last_is all c w last in
          let its = version-has_cell w c own.1 in
          let found : greater version_key (last_version ws c) (last_version us c) ≡ Some its.0 = elim (either w own.0) [
            | inl first ↦ in_first w its.0 last its.1 first
            | inr second ↦ in_second w its.0 last its.1 second
          ] in
          found ∙ sym its.1

-- ---- what was got

module _ (h : History) (from to : ℕ) (sub : SubBox) where
  -- before the first fetch nothing was got
  got_none : AreGot h from to sub [] []
  got_none = record {
    inside = λ c inside. sym (ap (λ ws. last_version ws c) (filter_none (λ w. is_within from to w.key && false) (writes h) (λ w at. never (is_within from to w.key))));
    outside = λ c outside. refl;
  }
    where
      never : (t : Bool) → t && false ≡ false
      never true = refl
      never false = refl

  module _ (is : IsHistory h) (heads : List Head) (head : Head) where
    -- the writes in the interval that went into the first fragments
    abbrev before : List Written
    before = wrote_in h from to heads

    -- those that went into one more
    abbrev own : List Written
    own = filter (λ w. is_within from to w.key) (origins_of h head)

    -- all of them
    abbrev all : List Written
    all = wrote_in h from to (heads ++ head ∷ [])

    -- a write of the first fragments is one of all
    of_before : (w : Written) → Contains before w → Contains all w × Contains (writes h) w
    of_before w at =
        let parts = filter-Contains (λ u. is_within from to u.key && list_any (has_origin u.key) heads) (writes h) w at in
        let tests = and_parts (is_within from to w.key) (list_any (has_origin w.key) heads) parts.1 in
        let one = member_any (has_origin w.key) heads tests.1 in (
          Contains-filter (λ u. is_within from to u.key && list_any (has_origin u.key) (heads ++ head ∷ [])) (writes h) w parts.0
              (and_from (is_within from to w.key) (list_any (has_origin w.key) (heads ++ head ∷ [])) tests.0
              (any_member (has_origin w.key) (heads ++ head ∷ []) one.0 (Contains-append_left heads (head ∷ []) one.0 one.1) one.2)),
          parts.0,
        )

    -- a write of the further one is one of all
    of_own : (w : Written) → Contains own w → Contains all w × Contains (writes h) w
    of_own w at =
        let in_time = filter-Contains (λ u. is_within from to u.key) (origins_of h head) w at in
        let origin = filter-Contains (λ u. has_origin u.key head) (writes h) w in_time.0 in (
          Contains-filter (λ u. is_within from to u.key && list_any (has_origin u.key) (heads ++ head ∷ [])) (writes h) w origin.0
              (and_from (is_within from to w.key) (list_any (has_origin w.key) (heads ++ head ∷ [])) in_time.1
              (any_member (has_origin w.key) (heads ++ head ∷ []) head (Contains-push heads head) origin.1)),
          origin.0,
        )

    -- and there are no others
    either_of : (w : Written) → Contains all w → Contains before w ⊎ Contains own w
    either_of w at =
        let parts = filter-Contains (λ u. is_within from to u.key && list_any (has_origin u.key) (heads ++ head ∷ [])) (writes h) w at in
        let tests = and_parts (is_within from to w.key) (list_any (has_origin w.key) (heads ++ head ∷ [])) parts.1 in
        let one = member_any (has_origin w.key) (heads ++ head ∷ []) tests.1 in
        elim (Contains-push_cases heads head one.0 one.1) [
          | inl first ↦ inl (Contains-filter (λ u. is_within from to u.key && list_any (has_origin u.key) heads) (writes h) w parts.0
              (and_from (is_within from to w.key) (list_any (has_origin w.key) heads) tests.0 (any_member (has_origin w.key) heads one.0 first one.2)))
          | inr last ↦ inr (Contains-filter (λ u. is_within from to u.key) (origins_of h head) w
              (Contains-filter (λ u. has_origin u.key head) (writes h) w parts.0 (subst (λ x. has_origin w.key x ≡ true) (sym last) one.2)) tests.0)
        ]

    -- with one fragment more, whose newest versions are those of its last origins, the newest of all are those of all
    pub got_more : (got vs : List Version) → AreGot h from to sub heads got → ((c : List ℤ) → is_in_box sub c ≡ true → newest_at vs c ≡ last_version own c)
        → ((c : List ℤ) → is_in_box sub c ≡ false → newest_at vs c ≡ None) → AreGot h from to sub (heads ++ head ∷ []) (got ++ vs)
    got_more got vs are newest none = record {
      inside = λ c inside. newest-append got vs c ∙ ap (λ o. greater version_key o (newest_at vs c)) (are.inside c inside) ∙ ap (greater version_key (last_version before c)) (newest c inside)
          ∙ last_joined h is before own all c of_before of_own either_of;
      outside = λ c outside. newest-append got vs c ∙ ap (λ o. greater version_key o (newest_at vs c)) (are.outside c outside) ∙ ap (greater version_key None) (none c outside);
    }

-- before the first fetch a read got nothing of it
pub used_none : (h : History) (r : Reading) (schemas : List Schema) → GotUsed h r schemas [] []
used_none h r schemas = record { whole = []; are = got_none h r.from r.to r.ready.sub; uses = λ c. refl }

module _ (r : Reading) (schemas : List Schema) where
  -- of two versions the same one is newer where values are left out
  newer_used : (a b : Option Version) → greater version_key (option_map (used_version r schemas) a) (option_map (used_version r schemas) b) ≡ option_map (used_version r schemas) (greater version_key a b)
  newer_used None b = refl
  newer_used (Some v) None = refl
  newer_used (Some v) (Some w) = elim (key_lt v.key w.key) as (λ t. Some (cond t (used_version r schemas w) (used_version r schemas v)) ≡ option_map (used_version r schemas) (Some (cond t w v))) [ true ↦ refl | false ↦ refl ]

  -- what a read got of two lists of whole versions it got of both together
  pub used_more : (got vs whole ws : List Version) → ((c : List ℤ) → newest_at got c ≡ option_map (used_version r schemas) (newest_at whole c)) → ((c : List ℤ) → newest_at vs c ≡ option_map (used_version r schemas) (newest_at ws c))
      → (c : List ℤ) → newest_at (got ++ vs) c ≡ option_map (used_version r schemas) (newest_at (whole ++ ws) c)
  used_more got vs whole ws first second c =
      newest-append got vs c ∙ (λ i. greater version_key (first c i) (second c i)) ∙ newer_used (newest_at whole c) (newest_at ws c) ∙ ap (option_map (used_version r schemas)) (sym (newest-append whole ws c))

-- ---- heads

-- a fragment has one head, whatever pieces its parts spell
pub one_head : {F : Type 0} (codec : Codec F) (spelled : Spelled) (tracks : Tracking F) → CodecLaws codec spelled tracks → (g : History) (m : Held) (f : FragKey) (p q : Piece)
    → HoldsIn spelled g m f p → HoldsIn spelled g m f q → p.head ≡ q.head
one_head codec spelled tracks laws g m f p q a b =
    let first = laws.head a.frame a.schema p (a.spells).look (a.spells).spells in
    let second = laws.head b.frame b.schema q (b.spells).look (b.spells).spells in
    let frame : a.frame ≡ b.frame = same_Some a.frame b.frame (sym a.framed ∙ b.framed) in
    let object : first.0 ≡ second.0 = same_Some first.0 second.0 (sym ((a.spells).held (codec.head_part a.frame) first.0 first.1) ∙ ap (λ x. map.get m (name.Part f (codec.head_part x))) frame
    ∙ (b.spells).held (codec.head_part b.frame) second.0 second.1) in
    let same : codec.head a.frame p.head.frag first.0 ≡ codec.head b.frame q.head.frag second.0 =
    ap (λ x. codec.head x p.head.frag first.0) frame ∙ ap (λ x. codec.head b.frame x first.0) ((a.spells).named ∙ sym (b.spells).named) ∙ ap (codec.head b.frame q.head.frag) object in
    one_read (codec.head b.frame q.head.frag second.0) p.head q.head (sym same ∙ first.2) second.2
  where
    one_read : (r : Result Head ℕ) (x y : Head) → r ≡ Ok x → r ≡ Ok y → x ≡ y
    one_read r x y e f = cc

-- ---- the schemas that a read knows

module _ (r : Reading) (opened : List Opened) where
  -- the open fragments whose heads name another schema than the one there
  abbrev further : List Opened
  further = filter (λ o. not (key_eq (o.head).schema (r.current).key)) opened

  -- the keys that they name, as entries of a map
  abbrev named : List (Key × Key)
  named = list_map (λ o. ((o.head).schema, (o.head).schema)) further

  -- an open fragment whose head names another schema than the one there has it among the keys named
  pub keys_named_has : (o : Opened) → Contains opened o → key_eq (o.head).schema (r.current).key ≡ false → Contains (keys_named r opened) (o.head).schema
  keys_named_has o at other =
      Contains-from_any key_same (o.head).schema (keys_named r opened)
      (sym (map.contains_key-keys (map.from_entries {R = key_cmp} named) (o.head).schema) ∙ ap is_some (map.get-from_entries key_total named (o.head).schema)
      ∙ is_some-find key_cmp (o.head).schema named ∙ list_any-from_Contains (eq_by_cmp_equiv key_total) (o.head).schema (list_map (λ e. e.0) named)
      (Contains-map (λ e. e.0) named ((o.head).schema, (o.head).schema) (Contains-map (λ p. ((p.head).schema, (p.head).schema)) further o (Contains-filter _ opened o at (ap not other)))))

module _ {F : Type 0} (codec : Codec F) (spelled : Spelled) (g h : History) (m : Held) (r : Reading) (opened : List Opened) (schemas : List Schema)
    (grows : (k : Key) (s : Schema) → schema_with g k ≡ Some s → schema_with h k ≡ Some s)
    (there : schema_with h (r.current).key ≡ Some r.current)
    (open_ones : (o : Opened) → Contains opened o → IsOpen codec spelled g m r.frame o) (gathered : AreSchemas h (keys_named r opened) schemas) (all_schemas : length schemas ≡ length (keys_named r opened)) where
  -- the schemas that were gathered have all keys that the heads name
  all_keys : list_map (λ s. s.key) schemas ≡ keys_named r opened
  all_keys = gathered.keys_are ∙ ap (λ n. take n (keys_named r opened)) all_schemas ∙ take_all (length (keys_named r opened)) (keys_named r opened) (omega arith)

  module _ (o : Opened) (at : Contains opened o) where
    -- how it is open
    abbrev open_at : IsOpen codec spelled g m r.frame o
    open_at = open_ones o at

    -- its schema
    abbrev own_schema : Schema
    own_schema = (open_at.holds).schema

    -- the key that its head names
    abbrev key : Key
    key = (o.head).schema

    -- the schema of the fragment is a deed
    is_declared : schema_with h key ≡ Some own_schema
    is_declared = grows key own_schema (ap (λ x. schema_with g x.schema) open_at.head ∙ (open_at.holds).declared)

    -- where it is not the one there, it was gathered
    is_further : key_eq key (r.current).key ≡ false → find (λ s. key_eq s.key key) schemas ≡ Some own_schema
    is_further other =
        let s = map-Contains (λ t. t.key) schemas key (subst (λ ks. Contains ks key) (sym all_keys) (keys_named_has r opened o at other)) in
        let found = find_member (λ t. key_eq t.key key) schemas s.0 s.1 (ap (λ k. key_eq k key) s.2 ∙ key_itself key) in
        let is = find-Some (λ t. key_eq t.key key) schemas found.0 found.1 in
        found.1 ∙ sym (gathered.each found.0 is.0) ∙ ap (schema_with h) (key_same (found.0).key key is.1) ∙ is_declared

    -- a read knows the schema of each open fragment
    pub knows : known_schema r schemas (o.head).schema ≡ Some ((open_ones o at).holds).schema
    knows = by_test (key_eq key (r.current).key) refl
      where
        by_test : (b : Bool) → key_eq key (r.current).key ≡ b → cond b (Some r.current) (find (λ s. key_eq s.key key) schemas) ≡ Some own_schema
        by_test true same = sym there ∙ ap (schema_with h) (sym (key_same key (r.current).key same)) ∙ is_declared
        by_test false other = is_further other

  -- a read knows the attributes of the schema of each write that went into an open fragment
  pub knows_attrs : (w : Written) → IsHistory g → Contains (writes g) w → (o : Opened) → Contains opened o → has_origin w.key o.head ≡ true → known_attrs r schemas w.schema ≡ attrs_with g w.schema
  knows_attrs w is written o at origin =
      let opens = open_ones o at in
      let own = ((opens.holds).holds).origins w.key (key_there w.key (opens.piece).head.origins (subst (λ x. has_origin w.key x ≡ true) opens.head origin)) in
      let key : w.schema ≡ (o.head).schema = ap (λ (u : Written). u.schema) (sym (one_write g own.0 w is own.1 written own.2)) ∙ own.3 ∙ ap (λ x. x.schema) (sym opens.head) in
      ap (λ k. known_attrs r schemas k) key ∙ ap (λ s. option_map_or (λ t. t.attrs) s []) (knows o at)
      ∙ ap (λ s. option_map_or (λ t. t.attrs) s []) (sym (opens.holds).declared) ∙ ap (λ x. attrs_with g x.schema) (sym opens.head) ∙ ap (attrs_with g) (sym key)
