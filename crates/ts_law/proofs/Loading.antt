-- What a read loads: each write in its interval that is not clipped went into one of the fragments that it loads.
use Rattle.std.proofs.Common.{◌≡◌, ℕ, zero, suc, ◌+◌, ◌<◌, ◌≤◌, Bool, true, false, ◌&&◌, not, List, refl, sym, ◌∙◌, ap, subst, arith}
use Rattle.std.specs.Prelude.{Contains}
use Rattle.std.specs.List.{list_any}
use Rattle.std.proofs.lemmas.Bool.{and_parts, true≢false}
use Rattle.ts_base.specs.declared.keys.Key.{Key}
use Rattle.ts_base.specs.declared.keys.FragKey.{FragKey}
use Rattle.ts_base.specs.declared.heads.Head.{Head}
use Rattle.ts_base.specs.declared.heads.Piece.{Piece}
use Rattle.ts_base.specs.Keys.{frag_eq, is_within}
use Rattle.ts_base.specs.Held.{Held}
use Rattle.ts_commit.specs.declared.vacs.VacOf.{VacOf}
use Rattle.ts_commit.specs.Selections.{has_origin, is_usable, usable, is_head_of, is_named, is_among, loaded, is_clipped}
use Rattle.ts_model.specs.Deeds.{History}
use Rattle.ts_model.specs.Codecs.{Spelled}
use Rattle.ts_model.specs.States.{meets}
use Rattle.ts_model.proofs.ListLemmas.{Contains-filter, filter-Contains}
use Rattle.ts_model.proofs.KeyLemmas.{frag_same}
use Rattle.ts_law.specs.Ends.{AreHeads}
use Rattle.ts_law.specs.Stands.{DoesName, HoldsIn, IsCommitted, Names, Stands}
use Rattle.ts_law.proofs.Fetches.{Contains-map, map-Contains}
use Rattle.ts_law.proofs.ListSteps.{committed_from_looked, looked_from_committed}
use Rattle.ts_law.proofs.OriginLaws.{member_any}

-- each fragment of a history and a map has one head
abbrev pub OneHead : Spelled → History → Held → Type 0
OneHead spelled h m = (f : FragKey) (p q : Piece) → HoldsIn spelled h m f p → HoldsIn spelled h m f q → p.head ≡ q.head

module _ (spelled : Spelled) (m : Held) (h : History) (a b : ℕ) (heads : List Head) (are : AreHeads spelled h m a b heads) (one : OneHead spelled h m) (stands : Stands spelled m h) where
  -- each head is that of a committed fragment whose span meets the interval
  pub head_committed : (head : Head) → Contains heads head → IsCommitted m head.frag × (meets a b head.frag ≡ true)
  head_committed head at = committed_from_looked m a b head.frag (subst (λ l. Contains l head.frag) are.frags (Contains-map (λ x. x.frag) heads head at))

  -- a committed fragment whose span meets the interval has its head among them
  pub has_head : (f : FragKey) → IsCommitted m f → meets a b f ≡ true → (head : Head) × Contains heads head × (head.frag ≡ f)
  has_head f committed near = map-Contains (λ x. x.frag) heads f (subst (λ l. Contains l f) (sym are.frags) (looked_from_committed m a b f committed near))

  -- the head of a piece that a fragment holds is the one among them
  pub same_head : (head : Head) → Contains heads head → (p : Piece) → HoldsIn spelled h m head.frag p → p.head ≡ head
  same_head head at p holds = let own = are.each head at in one head.frag p own.0 holds own.1 ∙ own.2

  -- ---- what is loaded

  module _ (vacs : List VacOf) (each_vac : (v : VacOf) → Contains vacs v → IsCommitted m v.frag × Names m v.frag v.names) where
    -- a fragment has its origins in another, which can be used and has a greater rank
    abbrev IsAbove : Head → Head → Type 0
    IsAbove head up = Contains (usable a b heads) up × ((stands.merged).rank head.frag < (stands.merged).rank up.frag) × ((k : Key) → has_origin k head ≡ true → has_origin k up ≡ true)

    -- so it is with what the `.vac` of a usable fragment names
    named_by : (head up : Head) → Contains heads head → Contains (usable a b heads) up → IsCommitted m up.frag → DoesName m up.frag head.frag → IsAbove head up
    named_by head up at up_at up_committed names =
        let committed = (head_committed head at).0 in
        let within = (stands.merged).within up.frag head.frag up_committed committed names in
        let falls = (stands.merged).falls up.frag head.frag up_committed committed names in
        let first : (within.piece).head ≡ head = same_head head at within.piece within.holds in
        let second : (within.other).head ≡ up = same_head up (filter-Contains (is_usable a b) heads up up_at).0 within.other within.other_holds in
        (up_at, falls, λ k e. subst (λ x. has_origin k x ≡ true) second (within.within k (subst (λ x. has_origin k x ≡ true) (sym first) e)))

    -- and with what one of the `.vac` objects names
    named_in : (head up : Head) (v : VacOf) → Contains heads head → Contains (usable a b heads) up → up.frag ≡ v.frag → Contains vacs v → Contains v.names head.frag → IsAbove head up
    named_in head up v at up_at same there names =
        let vac = each_vac v there in
        named_by head up at up_at (subst (IsCommitted m) (sym same) vac.0) (v.names, subst (λ f. Names m f v.names) (sym same) vac.1, names)

    -- so a usable fragment that is named is below another
    named_above : (head : Head) → Contains (usable a b heads) head → is_named (usable a b heads) vacs head.frag ≡ true → (up : Head) × IsAbove head up
    named_above head at named =
        let v = member_any (λ v. list_any (is_head_of v.frag) (usable a b heads) && is_among head.frag v.names) vacs named in
        let tests = and_parts (list_any (is_head_of (v.0).frag) (usable a b heads)) (is_among head.frag (v.0).names) v.2 in
        let up = member_any (is_head_of (v.0).frag) (usable a b heads) tests.0 in
        let there = member_any (frag_eq head.frag) (v.0).names tests.1 in (
          up.0,
          named_in head up.0 v.0 (filter-Contains (is_usable a b) heads head at).0 up.1 (frag_same (up.0).frag (v.0).frag up.2) v.1
              (subst (Contains (v.0).names) (sym (frag_same head.frag there.0 there.2)) there.1),
        )

    -- names are followed upwards to a fragment that is loaded
    climb : (steps : ℕ) (head : Head) → Contains (usable a b heads) head → (stands.merged).top ≤ (stands.merged).rank head.frag + steps → (k : Key) → has_origin k head ≡ true
        → (up : Head) × Contains (loaded a b heads vacs) up × (has_origin k up ≡ true)
    climb zero head at enough k origin =
        let below = (stands.merged).below head.frag (head_committed head (filter-Contains (is_usable a b) heads head at).0).0 in
        absurd (omega (arith, enough, below))
    climb (suc steps) head at enough k origin =
        elim (is_named (usable a b heads) vacs head.frag) as (λ t. is_named (usable a b heads) vacs head.frag ≡ t → (up : Head) × Contains (loaded a b heads vacs) up × (has_origin k up ≡ true)) [
          | true ↦ λ named. let up = named_above head at named in let falls = up.1.1 in climb steps up.0 up.1.0 (omega (arith, falls, enough)) k (up.1.2 k origin)
          | false ↦ λ free. (head, Contains-filter (λ x. not (is_named (usable a b heads) vacs x.frag)) (usable a b heads) head at (ap not free), origin)
        ] refl

    -- a write in the interval that is not clipped went into a fragment that is loaded
    pub loaded_with : (k : Key) → is_within a b k ≡ true → is_clipped a b heads k ≡ false → (up : Head) × Contains (loaded a b heads vacs) up × (has_origin k up ≡ true)
    loaded_with k within left =
        let head = member_any (has_origin k) (usable a b heads) (used (is_within a b k) (list_any (has_origin k) (usable a b heads)) within left) in climb (stands.merged).top head.0 head.1 (omega arith) k head.2
      where
        used : (s t : Bool) → s ≡ true → s && not t ≡ false → t ≡ true
        used true true s e = refl
        used true false s e = sym e
        used false t s e = absurd (true≢false (sym s))

    -- a fragment that is loaded can be used
    pub loaded_usable : (head : Head) → Contains (loaded a b heads vacs) head → Contains (usable a b heads) head
    loaded_usable head at = (filter-Contains (λ x. not (is_named (usable a b heads) vacs x.frag)) (usable a b heads) head at).0
