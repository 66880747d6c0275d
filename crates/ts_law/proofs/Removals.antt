-- What removals leave: safe ones leave objects that stand for the same history, and the removal set of a vacuum is covered from outside.
use Rattle.std.proofs.Common.{◌≡◌, ◌≢◌, ℕ, zero, suc, ◌+◌, ◌≤◌, Bool, true, false, cond, ◌⊎◌, inl, inr, List, [], ◌∷◌, ◌++◌, refl, sym, ◌∙◌, ap, subst, arith}
use Rattle.std.specs.Prelude.{Contains, ⊤}
use Rattle.std.specs.Option.{is_some}
use Rattle.std.specs.FinMap as map
use Rattle.std.proofs.lemmas.Bool.{true≢false}
use Rattle.ts_base.specs.declared.keys.FragKey.{FragKey}
use Rattle.ts_base.specs.declared.names.Name.{Name}
use Rattle.ts_base.specs.declared.names.Name.TheVariants as name
use Rattle.ts_base.specs.declared.names.Part.{Part}
use Rattle.ts_base.specs.declared.names.CommitKind.TheVariants.{Del}
use Rattle.ts_base.specs.declared.heads.Piece.{Piece}
use Rattle.ts_base.specs.Keys.{frag_eq}
use Rattle.ts_base.specs.Names.{wrt_of}
use Rattle.ts_base.specs.Held.{Held}
use Rattle.ts_store.specs.declared.call.Reply.{Reply}
use Rattle.ts_store.specs.declared.call.Call.TheVariants as call
use Rattle.ts_store.specs.declared.call.Reply.TheVariants as reply
use Rattle.ts_store.specs.declared.fate.Fate.{Fate}
use Rattle.ts_store.specs.declared.fate.Fate.TheVariants as fate
use Rattle.ts_store.specs.Calls.{after, is_no_memory, reply_of}
use Rattle.ts_commit.specs.declared.vacs.VacOf.{VacOf}
use Rattle.ts_commit.specs.Selections.{has_origin, is_among, removal_set}
use Rattle.ts_commit.proofs.Sets.{among_removed}
use Rattle.ts_model.specs.declared.deeds.Written.{Written}
use Rattle.ts_model.specs.Deeds.{History, IsHistory}
use Rattle.ts_model.specs.Codecs.{Spelled}
use Rattle.ts_model.specs.States.{vac_of}
use Rattle.ts_model.specs.Told.{IsReplied, Told, after_told}
use Rattle.ts_model.proofs.KeyLemmas.{frag_itself, frag_same}
use Rattle.ts_law.specs.Ends.{AreAllVacs}
use Rattle.ts_law.specs.Fresh.{AreSpent}
use Rattle.ts_law.specs.Kept.{HeldSince}
use Rattle.ts_law.specs.Removals.{AreCoveredOutside, IsCoveredOutside, IsNoPartOf, OfCommit, OfPart, OfVac, Remains, SafeRemoval}
use Rattle.ts_law.specs.Stands.{AreMerged, DoesName, HoldsIn, IsCommitted, IsNamed, IsReached, Names, Stands, Within}
use Rattle.ts_law.proofs.Fetches.{Contains-map}
use Rattle.ts_law.proofs.Grows.{PartsStay, holds_on_in, within_grows, within_on}
use Rattle.ts_law.proofs.HeldLemmas.{Holds-from_get, bytes_there, removal_apart, removal_before}
use Rattle.ts_law.proofs.ListSteps.{counting_held}
use Rattle.ts_law.proofs.Loading.{OneHead}
use Rattle.ts_law.proofs.MergeSources.{new_later}
use Rattle.ts_law.proofs.OriginLaws.{member_any}
use Rattle.ts_law.proofs.Spent.{are_spent_on}
use Rattle.ts_law.proofs.VacTexts.{among_of, of_among}

-- ---- what remains

-- a removal leaves what is held without the object
pub remains_removed : (m : Held) (n : Name) → Remains m n (map.remove m n)
remains_removed m n = record { others = λ q apart. removal_apart m n fate.Done q apart; before = λ q bytes held. removal_before m n fate.Done q bytes held }

-- so does one that was told, or it leaves all
pub remains_told : (m : Held) (n : Name) (e : Told) → e.call ≡ call.Remove n → Remains m n (after_told m e)
remains_told m n e is = subst (λ c. Remains m n (cond (is_no_memory e.reply) m (after m c e.fate))) (sym is) (by (is_no_memory e.reply))
  where
    by : (b : Bool) → Remains m n (cond b m (after m (call.Remove n) e.fate))
    by true = record { others = λ q apart. refl; before = λ q bytes held. held }
    by false = record { others = λ q apart. removal_apart m n e.fate q apart; before = λ q bytes held. removal_before m n e.fate q bytes held }

-- how a removal went: the object is gone, or nothing was changed, and the reply does not tell of a removal
pub data RemovalWent (m : Held) (n : Name) (later : Held) (r : Reply) : Type 0 where
  Gone : later ≡ map.remove m n → RemovalWent m n later r
  Left : later ≡ m → r ≢ reply.Removed → RemovalWent m n later r

-- how one went that was answered
answered : (m : Held) (n : Name) (f : Fate) → RemovalWent m n (cond (is_no_memory (reply_of m (call.Remove n) f)) m (after m (call.Remove n) f)) (reply_of m (call.Remove n) f)
answered m n fate.Done = Gone refl
answered m n fate.FailedDone = Gone refl
answered m n fate.FailedSkipped = Left refl (λ e. cc)
answered m n fate.Unknown = Left refl (λ e. cc)

-- how a removal went
pub removal_went : (m : Held) (n : Name) (e : Told) → e.call ≡ call.Remove n → IsReplied m e → RemovalWent m n (after_told m e) e.reply
removal_went m n e is (inl none) = Left (rw none.0 refl) (λ removed. true≢false (sym none.0 ∙ ap is_no_memory removed))
removal_went m n e is (inr replied) = rw (replied.0, is) (answered m n e.fate)

-- ---- what the objects that are left tell

module _ (m : Held) (n : Name) (later : Held) (left : Remains m n later) where
  -- a fragment that is committed after a removal was so before it
  pub was_committed : (f : FragKey) → IsCommitted later f → IsCommitted m f
  was_committed f committed = let found = bytes_there later (wrt_of f) committed in Holds-from_get m (wrt_of f) found.0 (left.before (wrt_of f) found.0 found.1)

  -- and one that was so before is so after it, where it is not its `.wrt` that is removed
  pub stays_committed : (f : FragKey) → wrt_of f ≢ n → IsCommitted m f → IsCommitted later f
  stays_committed f apart committed = ap is_some (left.others (wrt_of f) apart) ∙ committed

  -- a fragment that a `.vac` names after it was named by that before
  pub did_name : (g f : FragKey) → DoesName later g f → DoesName m g f
  did_name g f named = (named.0, record { bytes = (named.1).bytes; held = left.before (vac_of g) (named.1).bytes (named.1).held; reads = (named.1).reads }, named.2)

  -- so it is of those that the `.vac` objects of committed fragments name
  pub was_named : (f : FragKey) → IsNamed later f → IsNamed m f
  was_named f named = (named.0, was_committed named.0 named.1, did_name named.0 f named.2)

  -- so what is named after it was committed before it, or was named
  pub names_before : (g f : FragKey) → IsCommitted later g → DoesName later g f → IsCommitted m f ⊎ IsNamed m f
  names_before g f committed named = inr (was_named f (g, committed, named))

  -- the parts of a fragment stay where none of them is removed
  pub parts_left : (f : FragKey) → IsNoPartOf f n → PartsStay m later f
  parts_left f none part bytes held = left.others (name.Part f part) (λ same. none part (sym same)) ∙ held

  -- so what it holds it holds on
  pub holds_in_stays : (spelled : Spelled) (h : History) (f : FragKey) (p : Piece) → IsNoPartOf f n → HoldsIn spelled h m f p → HoldsIn spelled h later f p
  holds_in_stays spelled h f p none is = holds_on_in spelled h m later f p (parts_left f none) is

  -- and what went into two fragments went into both still
  pub within_stays : (spelled : Spelled) (h : History) (f g : FragKey) → IsNoPartOf f n → IsNoPartOf g n → Within spelled h m f g → Within spelled h later f g
  within_stays spelled h f g first second is = within_on spelled h m later f g (parts_left f first) (parts_left g second) is

-- ---- safe removals

-- no `.wrt` and no `.vac` is a part
wrt_no_part : (f : FragKey) (n : Name) → n ≡ wrt_of f → (g : FragKey) → IsNoPartOf g n
wrt_no_part f n is g part same = let e : wrt_of f ≡ name.Part g part = sym is ∙ same in cc

vac_no_part : (f : FragKey) (n : Name) → n ≡ vac_of f → (g : FragKey) → IsNoPartOf g n
vac_no_part f n is g part same = let e : vac_of f ≡ name.Part g part = sym is ∙ same in cc

-- a part is of one fragment
one_part : (f g : FragKey) (part other : Part) → name.Part f part ≡ name.Part g other → g ≡ f
one_part f g part other same = cc

-- one `.wrt` is of one fragment
one_wrt : (f g : FragKey) → wrt_of f ≡ wrt_of g → f ≡ g
one_wrt f g same = cc

-- an object by which the frame, a schema or a delete is told
abbrev TellsDeed : Name → Type 0
TellsDeed name.Domain = ⊤
TellsDeed (name.Schema k) = ⊤
TellsDeed (name.Commit f Del) = ⊤
TellsDeed _ = ⊥

module _ (m : Held) (n : Name) (later : Held) (left : Remains m n later) (spelled : Spelled) (h : History) (safe : SafeRemoval spelled m h n) where
  -- what is removed is no such object
  apart : (q : Name) → TellsDeed q → q ≢ n
  apart q tells same = by safe
    where
      by : SafeRemoval spelled m h n → ⊥
      by (OfCommit f g is other committed within) = subst TellsDeed (same ∙ is) tells
      by (OfPart f part is gone) = subst TellsDeed (same ∙ is) tells
      by (OfVac f is) = subst TellsDeed (same ∙ is) tells

  -- it is no part of a committed fragment
  pub no_part_of : (f : FragKey) → IsCommitted m f → IsNoPartOf f n
  no_part_of f committed = by safe
    where
      by : SafeRemoval spelled m h n → IsNoPartOf f n
      by (OfCommit g k is other there within) = wrt_no_part g n is f
      by (OfPart g part is gone) = λ own same. gone (subst (IsCommitted m) (one_part g f part own (sym is ∙ same)) committed)
      by (OfVac g is) = vac_no_part g n is f

  -- the parts of each committed fragment stay
  parts_there : (f : FragKey) → IsCommitted m f → PartsStay m later f
  parts_there f committed = parts_left m n later left f (no_part_of f committed)

  -- what the `.vac` objects tell is so still
  merged_left : AreMerged spelled h m → AreMerged spelled h later
  merged_left are = record {
    reads = λ g bytes committed held. are.reads g bytes (was_committed m n later left g committed) (left.before (vac_of g) bytes held);
    within = λ g f by committed named.
        let first = was_committed m n later left f committed in
        let second = was_committed m n later left g by in
        within_on spelled h m later f g (parts_there f first) (parts_there g second) (are.within g f second first (did_name m n later left g f named));
    rank = are.rank;
    top = are.top;
    below = λ f committed. are.below f (was_committed m n later left f committed);
    falls = λ g f by committed named. are.falls g f (was_committed m n later left g by) (was_committed m n later left f committed) (did_name m n later left g f named);
  }

  module _ (one : OneHead spelled h m) (stands : Stands spelled m h) where
    -- a write that went into a fragment which stays committed is there still
    still_there : (w : Written) (is : IsReached spelled h m w.key) → wrt_of is.frag ≢ n → IsReached spelled h later w.key
    still_there w is other = record {
      frag = is.frag;
      committed = stays_committed m n later left is.frag other is.committed;
      went = record { piece = (is.went).piece; holds = holds_on_in spelled h m later is.frag (is.went).piece (parts_there is.frag is.committed) (is.went).holds; origin = (is.went).origin };
    }

    -- one that went into the fragment which is no longer committed went into the other too
    in_other : (w : Written) (is : IsReached spelled h m w.key) (f g : FragKey) → n ≡ wrt_of f → g ≢ f → IsCommitted m g → Within spelled h m f g → is.frag ≡ f → IsReached spelled h later w.key
    in_other w is f g removed other committed within same = record {
      frag = g;
      committed = stays_committed m n later left g (λ e. other (one_wrt g f (e ∙ removed))) committed;
      went = record {
        piece = within.other;
        holds = holds_on_in spelled h m later g within.other (parts_there g committed) within.other_holds;
        origin = within.within w.key
            (subst (λ x. has_origin w.key x ≡ true) (one f (is.went).piece within.piece (subst (λ x. HoldsIn spelled h m x (is.went).piece) same (is.went).holds) within.holds) (is.went).origin);
      };
    }

    -- each write went into a committed fragment still
    covered_left : (w : Written) → IsReached spelled h m w.key → IsReached spelled h later w.key
    covered_left w is = by safe
      where
        by : SafeRemoval spelled m h n → IsReached spelled h later w.key
        by (OfCommit f g removed other committed within) = by_test (frag_eq is.frag f) refl
          where
            by_test : (t : Bool) → frag_eq is.frag f ≡ t → IsReached spelled h later w.key
            by_test true tie = in_other w is f g removed other committed within (frag_same is.frag f tie)
            by_test false apart = still_there w is (λ e. true≢false (sym (frag_itself f) ∙ ap (λ x. frag_eq x f) (sym (one_wrt is.frag f (e ∙ removed))) ∙ apart))
        by (OfPart f part removed gone) = still_there w is (λ e. let same : wrt_of is.frag ≡ name.Part f part = e ∙ removed in cc)
        by (OfVac f removed) = still_there w is (λ e. let same : wrt_of is.frag ≡ vac_of f = e ∙ removed in cc)

    -- the objects that are left stand for the history
    pub removal_stands : Stands spelled later h
    removal_stands = record {
      history = stands.history;
      frame = left.others name.Domain (apart name.Domain tt) ∙ stands.frame;
      schemas = λ k. left.others (name.Schema k) (apart (name.Schema k) tt) ∙ stands.schemas k;
      deletes = λ f. left.others (name.Commit f Del) (apart (name.Commit f Del) tt) ∙ stands.deletes f;
      short_frame = λ bytes held. stands.short_frame bytes (left.before name.Domain bytes held);
      short_schemas = λ k bytes held. stands.short_schemas k bytes (left.before (name.Schema k) bytes held);
      short_deletes = λ f bytes held. stands.short_deletes f bytes (left.before (name.Commit f Del) bytes held);
      whole = λ f committed.
          let there = was_committed m n later left f committed in
          let is = stands.whole f there in
          (is.0, holds_on_in spelled h m later f is.0 (parts_there f there) is.1);
      merged = merged_left stands.merged;
      covered = λ w at. covered_left w (stands.covered w at);
    }

  -- a set stays covered from outside where no `.wrt` of a fragment outside of it is removed
  pub covered_stays : (set : List FragKey) → ((g : FragKey) → n ≡ wrt_of g → Contains set g) → AreCoveredOutside spelled h m set → AreCoveredOutside spelled h later set
  covered_stays set inside are f at committed =
      let first = was_committed m n later left f committed in
      let is = are f at first in
      record {
        other = is.other;
        committed = stays_committed m n later left is.other (λ same. is.outside (inside is.other (sym same))) is.committed;
        outside = is.outside;
        within = within_on spelled h m later f is.other (parts_there f first) (parts_there is.other is.committed) is.within;
      }

-- a set stays covered from outside as objects and deeds come, where none of its fragments is committed anew
pub covered_grows : (spelled : Spelled) (m later : Held) (h more : History) (set : List FragKey) → HeldSince m later → IsHistory (h ++ more)
    → ((f : FragKey) → Contains set f → IsCommitted later f → IsCommitted m f) → AreCoveredOutside spelled h m set → AreCoveredOutside spelled (h ++ more) later set
covered_grows spelled m later h more set held is_history old are f at committed =
    let is = are f at (old f at committed) in
    let found = bytes_there m (wrt_of is.other) is.committed in
    record {
      other = is.other;
      committed = Holds-from_get later (wrt_of is.other) found.0 (held (wrt_of is.other) found.0 tt found.1);
      outside = is.outside;
      within = within_on spelled (h ++ more) m later f is.other (parts f) (parts is.other) (within_grows h more (new_later h more is_history) spelled m f is.other is.within);
    }
  where
    parts : (g : FragKey) → PartsStay m later g
    parts g part bytes there = held (name.Part g part) bytes tt there

-- ---- identifiers

-- what is spent stays so by a removal
pub removal_spends : (opening : Held) (past : History) (seen : List Told) (e : Told) (m : Held) (n : Name) → e.call ≡ call.Remove n → IsReplied m e → AreSpent opening past seen m
    → AreSpent opening past (seen ++ e ∷ []) (after_told m e)
removal_spends opening past seen e m n is replied are = are_spent_on opening past seen e m replied (names_before m n (after_told m e) (remains_told m n e is)) are

-- ---- the removal set

-- the `.wrt` of a committed fragment of a set that is covered from outside can be removed
pub safe_commit : (spelled : Spelled) (m : Held) (h : History) (set : List FragKey) (f : FragKey) → AreCoveredOutside spelled h m set → Contains set f → IsCommitted m f → SafeRemoval spelled m h (wrt_of f)
safe_commit spelled m h set f are at committed =
    let is = are f at committed in
    OfCommit f is.other refl (λ same. is.outside (subst (Contains set) (sym same) at)) is.committed is.within

-- of all `.vac` objects that count each is that of a committed fragment
pub all_vacs_each : (m : Held) (vacs : List VacOf) → AreAllVacs m vacs → (v : VacOf) → Contains vacs v → IsCommitted m v.frag × Names m v.frag v.names
all_vacs_each m vacs are v at =
    ((counting_held m v.frag (subst (λ l. Contains l v.frag) are.frags (Contains-map (λ x. x.frag) vacs v at))).0, are.each v at)

module _ (spelled : Spelled) (m : Held) (h : History) (one : OneHead spelled h m) (stands : Stands spelled m h) where
  -- what went into a fragment that went into another went into a third that that one went into
  within_both : (f g k : FragKey) → Within spelled h m f g → Within spelled h m g k → Within spelled h m f k
  within_both f g k first second = record {
    piece = first.piece;
    holds = first.holds;
    other = second.other;
    other_holds = second.other_holds;
    within = λ key e. second.within key (subst (λ x. has_origin key x ≡ true) (one g first.other second.piece first.other_holds second.holds) (first.within key e));
  }

  module _ (vacs : List VacOf) (each_vac : (v : VacOf) → Contains vacs v → IsCommitted m v.frag × Names m v.frag v.names) where
    -- a fragment of the removal set is named by the `.vac` of a committed one
    named_in_set : (f : FragKey) → Contains (removal_set vacs) f → IsNamed m f
    named_in_set f at =
        let v = member_any (λ v. is_among f v.names) vacs (sym (among_removed f vacs) ∙ among_of (removal_set vacs) f at) in
        let is = each_vac v.0 v.1 in
        ((v.0).frag, is.0, ((v.0).names, is.1, of_among (v.0).names f v.2))

    -- names are followed upwards until they leave the set
    climb : (steps : ℕ) (f : FragKey) → Contains (removal_set vacs) f → IsCommitted m f → (stands.merged).top ≤ (stands.merged).rank f + steps → IsCoveredOutside spelled h m (removal_set vacs) f
    climb zero f at committed enough = let below = (stands.merged).below f committed in absurd (omega (arith, enough, below))
    climb (suc steps) f at committed enough =
        let up = named_in_set f at in
        let within = (stands.merged).within up.0 f up.1 committed up.2 in
        let falls = (stands.merged).falls up.0 f up.1 committed up.2 in
        elim (is_among up.0 (removal_set vacs)) as (λ t. is_among up.0 (removal_set vacs) ≡ t → IsCoveredOutside spelled h m (removal_set vacs) f) [
          | true ↦ λ inside.
              let on = climb steps up.0 (of_among (removal_set vacs) up.0 inside) up.1 (omega (arith, falls, enough)) in
              record { other = on.other; committed = on.committed; outside = on.outside; within = within_both f up.0 on.other within on.within }
          | false ↦ λ outside. record { other = up.0; committed = up.1; outside = λ there. true≢false (sym (among_of (removal_set vacs) up.0 there) ∙ outside); within = within }
        ] refl

    -- the removal set of a vacuum is covered from outside
    pub covered_outside : AreCoveredOutside spelled h m (removal_set vacs)
    covered_outside f at committed = climb (stands.merged).top f at committed (omega arith)
