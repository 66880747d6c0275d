-- What pieces hold as the history grows, and what an ordinary piece holds.
use Rattle.std.proofs.Common.{◌≡◌, ℕ, ℤ, Bool, true, false, cond, ◌||◌, List, [], ◌∷◌, ◌++◌, Option, Some, None, refl, sym, ◌∙◌, ap, subst, arith}
use Rattle.std.specs.Prelude.{Contains, filter, option_and_then}
use Rattle.std.specs.List.{list_any}
use Rattle.std.specs.List.Sorted.{IsStrictlySortedBy}
use Rattle.std.proofs.lemmas.Bool.{true≢false}
use Rattle.std.proofs.lemmas.List.{append-nil}
use Rattle.std.proofs.lemmas.List.Elements.{Contains-append_left}
use Rattle.std.proofs.lemmas.Option.{same_Some, none-some}
use Rattle.ts_base.specs.declared.keys.Key.{Key}
use Rattle.ts_base.specs.declared.keys.FragKey.{FragKey}
use Rattle.ts_base.specs.declared.heads.Piece.{Piece}
use Rattle.ts_base.specs.declared.heads.Version.{Version}
use Rattle.ts_base.specs.Keys.{key_cmp, key_eq, frag_of, is_within}
use Rattle.ts_base.specs.Held.{Held}
use Rattle.ts_base.specs.declared.names.Part.{Part}
use Rattle.ts_base.specs.declared.names.Name.TheVariants as name
use Rattle.std.specs.FinMap as map
use Rattle.ts_domain.specs.Boxes.{is_in_box}
use Rattle.ts_commit.specs.Selections.{has_origin, keeps_last, meets}
use Rattle.ts_model.specs.declared.deeds.Written.{Written}
use Rattle.ts_model.specs.declared.deeds.Deed.{Deed}
use Rattle.ts_model.specs.declared.deeds.Deed.TheVariants.{Framed, Declared, Wrote, Erased}
use Rattle.ts_law.proofs.Effects.{cond_same}
use Rattle.ts_model.specs.Deeds.{History, IsHistory, IsNewKey, key_in, write_in, keys, writes, has_cell}
use Rattle.ts_model.specs.Codecs.{Spelled}
use Rattle.ts_schema.specs.declared.frames.Frame.{Frame}
use Rattle.ts_model.specs.Commands.{FillBox, piece_of}
use Rattle.ts_model.specs.Pieces.{version_of, HoldsWrite}
use Rattle.ts_model.proofs.ListLemmas.{Contains-nil, Contains-here, Contains-there, Contains-only, filter_map-Contains, Contains-filter, filter-Contains, Contains-filter_map}
use Rattle.ts_model.proofs.KeyLemmas.{key_same, key_itself, key_other, greatest-None}
use Rattle.ts_model.proofs.HistoryLaws.{writes-append, frame_in-append, schema_with-append, absent_from_new, one_write}
use Rattle.ts_law.specs.Origins.{origins_of, last_of, last_version, made_by, with_key, kept_of, IsHullOfCells, box_in, HoldsWrites}
use Rattle.ts_law.specs.Stands.{HoldsIn, Within}
use Rattle.ts_law.proofs.NewestBy.{key_of_version, last_is, has_cell-version}
use Rattle.ts_law.proofs.OriginLaws.{key_there, filter_all, made_by_filter, made_by_own}

-- ---- a history that grows

-- a test that none passes leaves none
pub filter_none : {X : Type 0} (q : X → Bool) (xs : List X) → ((x : X) → Contains xs x → q x ≡ false) → filter q xs ≡ []
filter_none q [] fails = refl
filter_none q (x ∷ xs) fails = ap (λ t. cond t (x ∷ filter q xs) (filter q xs)) (fails x (Contains-here x xs)) ∙ filter_none q xs (λ y at. fails y (Contains-there x xs y at))

-- what passes of two lists is what passes of each
pub filter-append : {X : Type 0} (q : X → Bool) (xs ys : List X) → filter q (xs ++ ys) ≡ filter q xs ++ filter q ys
filter-append q [] ys = refl
filter-append q (x ∷ xs) ys = elim (q x) as (λ t. cond t (x ∷ filter q (xs ++ ys)) (filter q (xs ++ ys)) ≡ cond t (x ∷ filter q xs) (filter q xs) ++ filter q ys) [
  | true ↦ ap (λ l. x ∷ l) (filter-append q xs ys)
  | false ↦ filter-append q xs ys
]

module _ (h more : History) (new : (w : Written) → Contains (writes more) w → IsNewKey h w.key) where
  -- a key of a write of the history
  pub key_in_writes : (w : Written) → Contains (writes h) w → (k : Key) → w.key ≡ k → IsNewKey h k → ⊥
  key_in_writes w at k same fresh = absent_from_new h k fresh (subst (Contains _) same (key_of_write w at))
    where
      key_there_in : (d : Deed) (w : Written) → write_in d ≡ Some w → key_in d ≡ Some w.key
      key_there_in (Wrote v) w e = ap (λ x. Some x.key) (same_Some v w e)
      key_there_in (Framed x) w e = absurd (none-some w e)
      key_there_in (Declared x) w e = absurd (none-some w e)
      key_there_in (Erased x) w e = absurd (none-some w e)

      key_of_write : (w : Written) → Contains (writes h) w → Contains (keys h) w.key
      key_of_write w at = let d = filter_map-Contains write_in h w at in Contains-filter_map key_in h d.0 w.key d.1 (key_there_in d.0 w d.2)

  -- the origins of a piece are the same writes
  pub same_origins : (p : Piece) → HoldsWrites h p → origins_of (h ++ more) p.head ≡ origins_of h p.head
  same_origins p holds =
      ap (filter (λ w. has_origin w.key p.head)) (writes-append h more) ∙ filter-append (λ w. has_origin w.key p.head) (writes h) (writes more)
      ∙ ap (λ l. origins_of h p.head ++ l) (filter_none (λ w. has_origin w.key p.head) (writes more) (λ w at. not_origin w at (has_origin w.key p.head) refl)) ∙ append-nil (origins_of h p.head)
    where
      not_origin : (w : Written) → Contains (writes more) w → (t : Bool) → has_origin w.key p.head ≡ t → t ≡ false
      not_origin w at false e = refl
      not_origin w at true e =
          let of = holds.origins w.key (key_there w.key p.head.origins e) in
          absurd (key_in_writes of.0 of.1 w.key of.2 (new w at))

  -- what a piece holds it holds on
  pub holds_grows : (p : Piece) → HoldsWrites h p → HoldsWrites (h ++ more) p
  holds_grows p holds = record {
    origins = λ k at. let of = holds.origins k at in (of.0, rw (writes-append h more) (Contains-append_left (writes h) (writes more) of.0 of.1), of.2, of.3);
    ascend = holds.ascend;
    span = holds.span;
    ordinary = holds.ordinary;
    versions = λ k c. holds.versions k c ∙ ap (λ ws. kept_of (keeps_last p.head) ws k c) (sym (same_origins p holds));
    hull = λ dense. subst (IsHullOfCells (box_in p.head)) (sym (same_origins p holds)) (holds.hull dense);
  }

  -- so does a fragment
  abbrev pub holds_in_grows : (spelled : Spelled) (m : Held) (f : FragKey) (p : Piece) → HoldsIn spelled h m f p → HoldsIn spelled (h ++ more) m f p
  holds_in_grows spelled m f p is = record {
    frame = is.frame;
    framed = frame_in-append h more is.frame is.framed;
    dense = is.dense;
    schema = is.schema;
    declared = schema_with-append h more p.head.schema is.schema is.declared;
    spells = is.spells;
    holds = holds_grows p is.holds;
    name = is.name;
  }

  -- what went into both goes on being in both
  abbrev pub within_grows : (spelled : Spelled) (m : Held) (f g : FragKey) → Within spelled h m f g → Within spelled (h ++ more) m f g
  within_grows spelled m f g is = record {
    piece = is.piece;
    holds = holds_in_grows spelled m f is.piece is.holds;
    other = is.other;
    other_holds = holds_in_grows spelled m g is.other is.other_holds;
    within = is.within;
  }

-- ---- what is held

-- the parts of a fragment that one map holds another holds too
abbrev pub PartsStay : Held → Held → FragKey → Type 0
PartsStay m n f = (part : Part) (bytes : List ℕ) → map.get m (name.Part f part) ≡ Some bytes → map.get n (name.Part f part) ≡ Some bytes

-- what a fragment holds in one map it holds in another that has its parts
abbrev pub holds_on_in : (spelled : Spelled) (h : History) (m n : Held) (f : FragKey) (p : Piece) → PartsStay m n f → HoldsIn spelled h m f p → HoldsIn spelled h n f p
holds_on_in spelled h m n f p stay is = record {
  frame = is.frame;
  framed = is.framed;
  dense = is.dense;
  schema = is.schema;
  declared = is.declared;
  spells = record {
    look = (is.spells).look;
    spells = (is.spells).spells;
    held = λ part bytes e. stay part bytes ((is.spells).held part bytes e);
    short = (is.spells).short;
    named = (is.spells).named;
  };
  holds = is.holds;
  name = is.name;
}

-- so it is of what went into both
abbrev pub within_on : (spelled : Spelled) (h : History) (m n : Held) (f g : FragKey) → PartsStay m n f → PartsStay m n g → Within spelled h m f g → Within spelled h n f g
within_on spelled h m n f g first second is = record {
  piece = is.piece;
  holds = holds_on_in spelled h m n f is.piece first is.holds;
  other = is.other;
  other_holds = holds_on_in spelled h m n g is.other second is.other_holds;
  within = is.within;
}

-- ---- an ordinary piece

module _ (h : History) (is : IsHistory h) (w : Written) (written : Contains (writes h) w) (p : Piece) (holds : HoldsWrite w p)
    (box : p.head.dense ≡ true → (c : List ℤ) → has_cell c w ≡ is_in_box (box_in p.head) c) where
  -- a key is an origin where it is that of the write
  pub origin_is : (k : Key) → has_origin k p.head ≡ key_eq k w.key
  origin_is k = ap (list_any (key_eq k)) holds.origins ∙ alone (key_eq k w.key)
    where
      alone : (t : Bool) → t || false ≡ t
      alone true = refl
      alone false = refl

  -- the write is an origin
  own_origin : Contains (origins_of h p.head) w
  own_origin = Contains-filter (λ u. has_origin u.key p.head) (writes h) w written (origin_is w.key ∙ key_itself w.key)

  -- and no other is
  only_origin : (u : Written) → Contains (origins_of h p.head) u → u ≡ w
  only_origin u at = let of = filter-Contains (λ v. has_origin v.key p.head) (writes h) u at in one_write h u w is of.0 written (key_same u.key w.key (sym (origin_is u.key) ∙ of.1))

  -- the last origin of a coordinate is the write, if it has the coordinate
  last_made : (c : List ℤ) → last_version (origins_of h p.head) c ≡ version_of w c
  last_made c = by (last_of (origins_of h p.head) c) refl
    where
      by : (o : Option Written) → last_of (origins_of h p.head) c ≡ o → option_and_then (λ u. version_of u c) o ≡ version_of w c
      by (Some u) some = ap (λ x. version_of x c) (only_origin u (last_is (origins_of h p.head) c u some).0)
      by None none = none_made (version_of w c) refl
        where
          none_made : (o : Option Version) → version_of w c ≡ o → None ≡ o
          none_made None e = refl
          none_made (Some v) e =
              absurd (Contains-nil w (subst (λ l. Contains l w) (greatest-None (λ u. u.key) (filter (has_cell c) (origins_of h p.head)) none) (Contains-filter (has_cell c) (origins_of h p.head) w own_origin (has_cell-version w c v e))))

  -- the version of a key and a coordinate is what is kept there
  kept_is : (last : Bool) (k : Key) (c : List ℤ) → cond (key_eq k w.key) (version_of w c) None ≡ kept_of last (origins_of h p.head) k c
  kept_is false k c =
      by (key_eq k w.key) refl ∙ ap (λ t. cond t (made_by (writes h) k c) None) (sym (origin_is k)) ∙ sym (made_by_filter (λ l. has_origin l p.head) (writes h) k c)
    where
      by : (t : Bool) → key_eq k w.key ≡ t → cond t (version_of w c) None ≡ cond t (made_by (writes h) k c) None
      by true same =
          sym (made_by_own h is (λ l. true) w c written refl) ∙ ap (λ ws. made_by ws w.key c) (filter_all (λ u. true) (writes h) (λ u at. refl)) ∙ ap (λ l. made_by (writes h) l c) (sym (key_same k w.key same))
      by false other = refl
  kept_is true k c = by (version_of w c) refl ∙ ap (with_key k) (sym (last_made c))
    where
      by : (o : Option Version) → version_of w c ≡ o → cond (key_eq k w.key) o None ≡ with_key k o
      by None e = cond_same (key_eq k w.key) None
      by (Some v) e = ap (λ t. cond t (Some v) None) (turned (key_eq k w.key) refl)
        where
          turned : (t : Bool) → key_eq k w.key ≡ t → t ≡ key_eq v.key k
          turned true same = sym (ap (λ x. key_eq x k) (key_of_version w c v e ∙ sym (key_same k w.key same)) ∙ key_itself k)
          turned false other = sym (key_other v.key k (λ same. true≢false (sym (key_itself k) ∙ ap (key_eq k) (sym same ∙ key_of_version w c v e) ∙ other)))

  -- a key alone ascends
  alone_ascends : (k : Key) → IsStrictlySortedBy key_cmp (k ∷ [])
  unfolding IsStrictlySortedBy
  alone_ascends k = (tt, tt)

  -- an origin has the key of the write
  only_key : (k : Key) → Contains p.head.origins k → w.key ≡ k
  only_key k at = Contains-only w.key k (subst (λ l. Contains l k) holds.origins at)

  -- its key is among the origins
  own_key : Contains p.head.origins w.key
  own_key = subst (λ l. Contains l w.key) (sym holds.origins) (Contains-here w.key [])

  -- an ordinary piece holds what its one origin wrote
  pub ordinary_holds : HoldsWrites h p
  ordinary_holds = record {
    origins = λ k at. (w, written, only_key k at, sym holds.schema);
    ascend = subst (IsStrictlySortedBy key_cmp) (sym holds.origins) (alone_ascends w.key);
    span = record {
      from_on = λ k at. let a = ap (λ (f : FragKey). f.t1) holds.named in let b = ap (λ (l : Key). l.t) (only_key k at) in omega (arith, a, b);
      up_to = λ k at. let a = ap (λ (f : FragKey). f.t2) holds.named in let b = ap (λ (l : Key). l.t) (only_key k at) in omega (arith, a, b);
      least = (w.key, own_key, sym (ap (λ (f : FragKey). f.t1) holds.named));
      greatest_is = (w.key, own_key, sym (ap (λ (f : FragKey). f.t2) holds.named));
    };
    ordinary = λ e. (w.key, holds.origins, holds.named);
    versions = λ k c. holds.versions k c ∙ kept_is (keeps_last p.head) k c;
    hull = λ dense. record {
      cells = λ u c at has. sym (box dense c) ∙ ap (has_cell c) (sym (only_origin u at)) ∙ has;
      least = λ outer all c inside. all w c own_origin (box dense c ∙ inside);
    };
  }

-- the piece of a write into a dense array has the cells of the box between its corners
pub piece_box : (frame : Frame) (w : Written) → (frame.dense ≡ true → FillBox w.cells) → (piece_of frame w).head.dense ≡ true → (c : List ℤ) → has_cell c w ≡ is_in_box (box_in (piece_of frame w).head) c
unfolding piece_of
piece_box frame w boxed dense c = let box = boxed dense in box.each c ∙ (λ i. is_in_box (record { low = sym box.low i; high = sym box.high i }) c)

-- the fragment of a write in the interval meets it
pub meets_of_within : (from to : ℕ) (k : Key) → is_within from to k ≡ true → meets from to (frag_of k) ≡ true
meets_of_within from to k within = grind arith
