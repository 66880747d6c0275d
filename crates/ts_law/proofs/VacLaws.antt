-- What puts and leases do to what the `.vac` objects tell.
use Rattle.std.proofs.Common.{◌≡◌, ℕ, suc, ◌<◌, Bool, true, false, cond, ◌⊎◌, inl, inr, List, [], ◌++◌, Some, None, Result, Ok, refl, subst, sym, ◌∙◌, ap, arith}
use Rattle.std.specs.Prelude.{Contains}
use Rattle.std.specs.Option.{is_some}
use Rattle.std.specs.FinMap as map
use Rattle.std.proofs.lemmas.Option.{none-some}
use Rattle.ts_base.specs.declared.keys.FragKey.{FragKey}
use Rattle.ts_base.specs.declared.names.Name.{Name}
use Rattle.ts_base.specs.declared.names.Name.TheVariants as name
use Rattle.ts_base.specs.Names.{wrt_of}
use Rattle.ts_base.specs.Held.{Held}
use Rattle.ts_model.specs.declared.deeds.Written.{Written}
use Rattle.ts_model.specs.Deeds.{History, IsNewKey, writes}
use Rattle.ts_model.specs.Codecs.{Spelled}
use Rattle.ts_law.specs.Stands.{AreMerged, DoesName, IsCommitted, IsNamed, IsNoLease, Names, Within}
use Rattle.ts_commit.specs.Vacs.{names_of, AreNames}
use Rattle.ts_schema.specs.Parts.{IsShort}
use Rattle.std.proofs.lemmas.Option.{same_Some}
use Rattle.ts_model.specs.States.{vac_of}
use Rattle.ts_law.proofs.HeldLemmas.{Holds, get_apart, held_before, stays_held}
use Rattle.ts_law.proofs.Grows.{PartsStay, within_grows, within_on}

-- ---- puts

-- a fragment has no `.vac`, and that of no committed fragment names it
pub record IsBare (m : Held) (f : FragKey) : Type 0 where
  pub none : map.get m (vac_of f) ≡ None
  pub unnamed : IsNamed m f → ⊥

-- a put that no `.vac` of a committed fragment tells of: it is of none, and a fragment that it commits is in none
pub record MarksNone (m : Held) (n : Name) : Type 0 where
  pub no_vac : (g : FragKey) → IsCommitted m g → vac_of g ≡ n → ⊥
  pub bare : (f : FragKey) → wrt_of f ≡ n → IsBare m f

-- a `.vac` is no `.wrt`
vac_no_wrt : (g : FragKey) (n : Name) → wrt_of g ≡ n → vac_of g ≡ n → ⊥
vac_no_wrt g n a b = cc

module _ (m : Held) (n : Name) (bytes : List ℕ) (free : Holds m n → ⊥) (marks : MarksNone m n) where
  -- what is held after the put
  abbrev later : Held
  later = map.insert m n bytes

  -- a fragment that is committed after the put was so before, or the put is of its `.wrt`
  committed_before : (f : FragKey) → IsCommitted later f → IsCommitted m f ⊎ (wrt_of f ≡ n)
  committed_before f committed = held_before m n bytes (wrt_of f) committed

  -- a `.vac` of such a fragment that is held after the put was held before
  vac_before : (g : FragKey) (kept : List ℕ) → IsCommitted m g ⊎ (wrt_of g ≡ n) → map.get later (vac_of g) ≡ Some kept → map.get m (vac_of g) ≡ Some kept
  vac_before g kept was e = sym (get_apart m n bytes (vac_of g) (λ same. elim was [ inl committed ↦ marks.no_vac g committed same | inr own ↦ vac_no_wrt g n own same ])) ∙ e

  -- names that are read after the put were read before
  names_before : (g f : FragKey) → IsCommitted m g → DoesName later g f → DoesName m g f
  names_before g f was named = (named.0, record { bytes = (named.1).bytes; held = vac_before g (named.1).bytes (inl was) (named.1).held; reads = (named.1).reads }, named.2)

  -- so are those of committed fragments
  pub named_before : (g f : FragKey) → IsCommitted later g → DoesName later g f → IsCommitted m g × DoesName m g f
  named_before g f committed named = elim (committed_before g committed) [
    | inl before ↦ (before, names_before g f before named)
    | inr same ↦ absurd (none-some ((named.1).bytes) (sym (marks.bare g same).none ∙ vac_before g (named.1).bytes (inr same) (named.1).held))
  ]

  -- a fragment that they name was committed before
  old_before : (g f : FragKey) → IsCommitted m g → DoesName m g f → IsCommitted later f → IsCommitted m f
  old_before g f before named committed = elim (committed_before f committed) [
    | inl old ↦ old
    | inr same ↦ absurd ((marks.bare f same).unnamed (g, before, named))
  ]

  module _ (spelled : Spelled) (h more : History) (new : (w : Written) → Contains (writes more) w → IsNewKey h w.key) (are : AreMerged spelled h m) where
    -- parts that are held stay held
    parts_stay : (f : FragKey) → PartsStay m later f
    parts_stay f part kept e = stays_held m n bytes (name.Part f part) kept free e

    -- a fragment that comes has the highest rank
    abbrev ranks : FragKey → ℕ
    ranks f = cond (map.contains_key m (wrt_of f)) (are.rank f) are.top

    -- the others keep theirs
    rank_old : (f : FragKey) → IsCommitted m f → ranks f ≡ are.rank f
    rank_old f committed = ap (λ b. cond b (are.rank f) are.top) committed

    -- and all are below the next one
    ranks_below : (f : FragKey) → ranks f < suc are.top
    ranks_below f = by (map.contains_key m (wrt_of f)) refl
      where
        by : (b : Bool) → map.contains_key m (wrt_of f) ≡ b → cond b (are.rank f) are.top < suc are.top
        by true committed = let below = are.below f committed in omega (arith, below)
        by false none = omega arith

    -- what the `.vac` objects tell is so after the put
    pub merged_grows : AreMerged spelled (h ++ more) later
    merged_grows = record {
      reads = λ g kept committed e. elim (committed_before g committed) [
        | inl before ↦ are.reads g kept before (vac_before g kept (inl before) e)
        | inr same ↦ absurd (none-some kept (sym (marks.bare g same).none ∙ vac_before g kept (inr same) e))
      ];
      within = λ g f by committed named.
          let before = named_before g f by named in
          within_on spelled (h ++ more) m later f g (parts_stay f) (parts_stay g) (within_grows h more new spelled m f g (are.within g f before.0 (old_before g f before.0 before.1 committed) before.1));
      rank = ranks;
      top = suc are.top;
      below = λ f committed. ranks_below f;
      falls = λ g f by committed named.
          let before = named_before g f by named in
          let old = old_before g f before.0 before.1 committed in
          let falls = are.falls g f before.0 old before.1 in
          let first = rank_old f old in
          let second = rank_old g before.0 in
          omega (arith, falls, first, second);
    }

-- ---- the `.wrt` of a consolidation

-- one `.wrt` is of one fragment
one_frag : (f g : FragKey) → wrt_of f ≡ wrt_of g → f ≡ g
one_frag f g same = cc

-- no `.vac` is a `.wrt`
wrt_no_vac : (f g : FragKey) → vac_of f ≡ wrt_of g → ⊥
wrt_no_vac f g same = cc

-- a fragment that is to be committed, whose `.vac` is held: it is no committed fragment's, and what its `.vac` names was committed, or named by one that is
module _ (m : Held) (f : FragKey) (free : Holds m (wrt_of f) → ⊥) (unnamed : IsNamed m f → ⊥) (names : List FragKey) (vac : Names m f names)
    (old : (x : FragKey) → Contains names x → IsCommitted m x ⊎ IsNamed m x) where
  -- what is held after the put of its `.wrt`
  abbrev joined : Held
  joined = map.insert m (wrt_of f) []

  -- a fragment that is committed then was so before, or is this one
  joined_before : (g : FragKey) → IsCommitted joined g → IsCommitted m g ⊎ (g ≡ f)
  joined_before g committed = elim (held_before m (wrt_of f) [] (wrt_of g) committed) [ inl before ↦ inl before | inr same ↦ inr (one_frag g f same) ]

  -- each `.vac` is held as before
  vac_same : (g : FragKey) → map.get joined (vac_of g) ≡ map.get m (vac_of g)
  vac_same g = get_apart m (wrt_of f) [] (vac_of g) (wrt_no_vac g f)

  names_same : (g x : FragKey) → DoesName joined g x → DoesName m g x
  names_same g x named = (named.0, record { bytes = (named.1).bytes; held = sym (vac_same g) ∙ (named.1).held; reads = (named.1).reads }, named.2)

  -- what its own `.vac` names is one of the names
  own_named : (x : FragKey) → DoesName m f x → Contains names x
  own_named x named =
      let same : (named.1).bytes ≡ vac.bytes = same_Some (named.1).bytes vac.bytes (sym (named.1).held ∙ vac.held) in
      subst (λ l. Contains l x) (one_read (names_of vac.bytes) named.0 names (ap names_of (sym same) ∙ (named.1).reads) vac.reads) named.2
    where
      one_read : (r : Result (List FragKey) ℕ) (a b : List FragKey) → r ≡ Ok a → r ≡ Ok b → a ≡ b
      one_read r a b e d = cc

  -- what a committed fragment names then was committed before, or was named by one
  pub joined_names : (g x : FragKey) → IsCommitted joined g → DoesName joined g x → IsCommitted m x ⊎ IsNamed m x
  joined_names g x committed named = elim (joined_before g committed) [
    | inl before ↦ inr (g, before, names_same g x named)
    | inr same ↦ old x (own_named x (subst (λ y. DoesName m y x) same (names_same g x named)))
  ]

  -- so it is no fragment that was not committed
  named_old : (g x : FragKey) → IsCommitted joined g → DoesName joined g x → IsCommitted joined x → IsCommitted m x
  named_old g x by named committed = elim (joined_before x committed) [
    | inl before ↦ before
    | inr same ↦ absurd (elim (joined_names g x by named) [ inl was ↦ free (subst (IsCommitted m) same was) | inr was ↦ unnamed (subst (IsNamed m) same was) ])
  ]

  module _ (spelled : Spelled) (h : History) (short : IsShort vac.bytes) (are_names : AreNames names) (are : AreMerged spelled h m) (joins : (x : FragKey) → Contains names x → IsCommitted m x → Within spelled h joined x f) where
    -- parts that are held stay held
    joined_parts : (g : FragKey) → PartsStay m joined g
    joined_parts g part kept e = stays_held m (wrt_of f) [] (name.Part g part) kept free e

    -- the fragment has the highest rank
    abbrev joined_ranks : FragKey → ℕ
    joined_ranks g = cond (map.contains_key m (wrt_of g)) (are.rank g) are.top

    joined_old : (g : FragKey) → IsCommitted m g → joined_ranks g ≡ are.rank g
    joined_old g committed = ap (λ b. cond b (are.rank g) are.top) committed

    joined_own : joined_ranks f ≡ are.top
    joined_own = by (map.contains_key m (wrt_of f)) refl
      where
        by : (b : Bool) → map.contains_key m (wrt_of f) ≡ b → cond b (are.rank f) are.top ≡ are.top
        by true held = absurd (free held)
        by false none = refl

    joined_below : (g : FragKey) → joined_ranks g < suc are.top
    joined_below g = by (map.contains_key m (wrt_of g)) refl
      where
        by : (b : Bool) → map.contains_key m (wrt_of g) ≡ b → cond b (are.rank g) are.top < suc are.top
        by true committed = let below = are.below g committed in omega (arith, below)
        by false none = omega arith

    -- what the `.vac` objects tell is so after the put
    pub merged_joins : AreMerged spelled h joined
    merged_joins = record {
      reads = λ g kept committed e. elim (joined_before g committed) [
        | inl before ↦ are.reads g kept before (sym (vac_same g) ∙ e)
        | inr same ↦
            let is : vac.bytes ≡ kept = same_Some vac.bytes kept (sym vac.held ∙ ap (λ y. map.get m (vac_of y)) (sym same) ∙ sym (vac_same g) ∙ e) in
            (subst IsShort is short, (names, ap names_of (sym is) ∙ vac.reads, are_names))
      ];
      within = λ g x by committed named.
          let was = named_old g x by named committed in
          elim (joined_before g by) [
            | inl before ↦ within_on spelled h m joined x g (joined_parts x) (joined_parts g) (are.within g x before was (names_same g x named))
            | inr same ↦ subst (Within spelled h joined x) (sym same) (joins x (own_named x (subst (λ y. DoesName m y x) same (names_same g x named))) was)
          ];
      rank = joined_ranks;
      top = suc are.top;
      below = λ g committed. joined_below g;
      falls = λ g x by committed named.
          let was = named_old g x by named committed in
          let first = joined_old x was in
          elim (joined_before g by) [
            | inl before ↦
                let falls = are.falls g x before was (names_same g x named) in
                let second = joined_old g before in
                omega (arith, falls, first, second)
            | inr same ↦
                let below = are.below x was in
                let second : joined_ranks g ≡ are.top = ap joined_ranks same ∙ joined_own in
                omega (arith, below, first, second)
          ];
    }

-- ---- leases

module _ (m m' : Held) (same : (n : Name) → IsNoLease n → map.get m' n ≡ map.get m n) where
  -- where only leases differ, the same fragments are committed
  committed_beside : (f : FragKey) → IsCommitted m' f → IsCommitted m f
  committed_beside f committed = ap is_some (sym (same (wrt_of f) tt)) ∙ committed

  -- and the same is named
  names_beside : (g f : FragKey) → DoesName m' g f → DoesName m g f
  names_beside g f named = (named.0, record { bytes = (named.1).bytes; held = sym (same (vac_of g) tt) ∙ (named.1).held; reads = (named.1).reads }, named.2)

  pub named_beside : (g f : FragKey) → IsCommitted m' g → DoesName m' g f → IsCommitted m f ⊎ IsNamed m f
  named_beside g f committed named = inr (g, committed_beside g committed, names_beside g f named)

  -- what the `.vac` objects tell is so
  pub merged_beside : (spelled : Spelled) (h : History) → AreMerged spelled h m → AreMerged spelled h m'
  merged_beside spelled h are = record {
    reads = λ g kept committed e. are.reads g kept (committed_beside g committed) (sym (same (vac_of g) tt) ∙ e);
    within = λ g f by committed named. within_on spelled h m m' f g (parts_stay f) (parts_stay g) (are.within g f (committed_beside g by) (committed_beside f committed) (names_beside g f named));
    rank = are.rank;
    top = are.top;
    below = λ f committed. are.below f (committed_beside f committed);
    falls = λ g f by committed named. are.falls g f (committed_beside g by) (committed_beside f committed) (names_beside g f named);
  }
    where
      parts_stay : (f : FragKey) → PartsStay m m' f
      parts_stay f part kept e = same (name.Part f part) tt ∙ e
