-- Where no fragment is clipped: where each write is in its own fragment, and in a sparse array.
use Rattle.std.proofs.Common.{◌≡◌, ℕ, Bool, true, false, ◌&&◌, ◌||◌, not, List, [], ◌∷◌, Some, refl, sym, ◌∙◌, ap, subst}
use Rattle.std.specs.Prelude.{Contains, map as list_map}
use Rattle.std.specs.List.{list_any}
use Rattle.std.proofs.lemmas.Bool.{true≢false}
use Rattle.std.proofs.lemmas.Option.{same_Some}
use Rattle.ts_base.specs.declared.keys.Key.{Key}
use Rattle.ts_base.specs.declared.heads.Head.{Head}
use Rattle.ts_base.specs.Keys.{frag_of, is_within}
use Rattle.ts_base.specs.Held.{Held}
use Rattle.ts_schema.specs.declared.frames.Frame.{Frame}
use Rattle.ts_commit.specs.Selections.{clipped_names, clips, has_origin, is_clipped, is_usable, keeps_last, lies_in, usable}
use Rattle.ts_model.specs.declared.deeds.Written.{Written}
use Rattle.ts_model.specs.Deeds.{History, frame_in, writes}
use Rattle.ts_model.specs.Codecs.{Spelled}
use Rattle.ts_model.specs.States.{meets}
use Rattle.ts_model.proofs.ListLemmas.{Contains-filter, Contains-here, Contains-there}
use Rattle.ts_law.specs.Ends.{AreHeads}
use Rattle.ts_law.specs.Stands.{EachInItsOwn, HoldsIn}
use Rattle.ts_law.proofs.Fetches.{Contains-map, map-Contains}
use Rattle.ts_law.proofs.Grows.{filter_none, meets_of_within}
use Rattle.ts_law.proofs.ListSteps.{committed_from_looked, looked_from_committed}
use Rattle.ts_law.proofs.Loading.{OneHead}
use Rattle.ts_law.proofs.OriginLaws.{any_member}

-- a test that no item passes is passed by none
any_none : {X : Type 0} (q : X → Bool) (xs : List X) → ((x : X) → Contains xs x → q x ≡ false) → list_any q xs ≡ false
any_none q [] fails = refl
any_none q (x ∷ xs) fails = ap (λ t. t || list_any q xs) (fails x (Contains-here x xs)) ∙ any_none q xs (λ y at. fails y (Contains-there x xs y at))

-- a fragment that does not keep the last versions alone can be used where it meets the interval
usable_meets : (near kept inside : Bool) → near ≡ true → kept ≡ false → near && (not kept || inside) ≡ true
usable_meets true false inside is none = refl
usable_meets true true inside is none = absurd (true≢false none)
usable_meets false kept inside is none = is

-- so can one that lies in the interval
usable_inside : (near kept inside : Bool) → near ≡ true → inside ≡ true → near && (not kept || inside) ≡ true
usable_inside true true true is within = refl
usable_inside true true false is within = within
usable_inside true false inside is within = refl
usable_inside false kept inside is within = is

module _ (spelled : Spelled) (m : Held) (h : History) (a b : ℕ) (heads : List Head) (are : AreHeads spelled h m a b heads) where
  -- each head is that of a committed fragment whose span meets the interval
  near : (head : Head) → Contains heads head → meets a b head.frag ≡ true
  near head at = (committed_from_looked m a b head.frag (subst (λ l. Contains l head.frag) are.frags (Contains-map (λ x. x.frag) heads head at))).1

  -- where each fragment can be used none is clipped
  all_used : ((head : Head) → Contains heads head → is_usable a b head ≡ true) → clipped_names a b heads ≡ []
  all_used can = ap (list_map (λ head. head.frag)) (filter_none (clips a b heads) heads (λ head at. ap (λ t. not t && list_any (is_clipped a b heads) head.origins) (can head at)))

  -- in a sparse array no fragment is clipped
  pub sparse_unclipped : (frame : Frame) → frame_in h ≡ Some frame → frame.dense ≡ false → clipped_names a b heads ≡ []
  sparse_unclipped frame framed sparse = all_used can
    where
      can : (head : Head) → Contains heads head → is_usable a b head ≡ true
      can head at =
          let (p, holds, same) = are.each head at in
          let dense : keeps_last head ≡ false = ap (λ x. x.dense) (sym same) ∙ holds.dense ∙ ap (λ f. f.dense) (same_Some holds.frame frame (sym holds.framed ∙ framed)) ∙ sparse in
          usable_meets (meets a b head.frag) (keeps_last head) (lies_in a b head.frag) (near head at) dense

  -- where each write is in its own fragment no fragment is clipped
  module _ (one : OneHead spelled h m) (own : EachInItsOwn spelled m h) where
    -- a write in the interval went into a fragment that the read can use
    used : (w : Written) → Contains (writes h) w → is_within a b w.key ≡ true → list_any (has_origin w.key) (usable a b heads) ≡ true
    used w at within =
        let (committed, went) = own w at in
        let meets_it : meets a b (frag_of w.key) ≡ true = meets_of_within a b w.key within in
        let (head, there, same) = map-Contains (λ x. x.frag) heads (frag_of w.key) (subst (λ l. Contains l (frag_of w.key)) (sym are.frags) (looked_from_committed m a b (frag_of w.key) committed meets_it)) in
        let (p, holds, same_head) = are.each head there in
        let headed : (went.piece).head ≡ head = one (frag_of w.key) went.piece p went.holds (subst (λ g. HoldsIn spelled h m g p) same holds) ∙ same_head in
        let inside : lies_in a b head.frag ≡ true = ap (lies_in a b) same ∙ within in
        any_member (has_origin w.key) (usable a b heads) head
        (Contains-filter (is_usable a b) heads head there (usable_inside (meets a b head.frag) (keeps_last head) (lies_in a b head.frag) (near head there) inside))
        (subst (λ x. has_origin w.key x ≡ true) headed went.origin)

    -- so no write is clipped
    none_clips : (w : Written) → Contains (writes h) w → is_clipped a b heads w.key ≡ false
    none_clips w at = by (is_within a b w.key) refl
      where
        by : (t : Bool) → is_within a b w.key ≡ t → t && not (list_any (has_origin w.key) (usable a b heads)) ≡ false
        by false e = refl
        by true e = ap not (used w at e)

    -- and no fragment
    pub own_unclipped : clipped_names a b heads ≡ []
    own_unclipped = ap (list_map (λ head. head.frag)) (filter_none (clips a b heads) heads none)
      where
        no_both : (s : Bool) → not s && false ≡ false
        no_both true = refl
        no_both false = refl

        origin_kept : (head : Head) → Contains heads head → (k : Key) → Contains head.origins k → is_clipped a b heads k ≡ false
        origin_kept head at k origin =
            let (p, holds, same) = are.each head at in
            let w = (holds.holds).origins k (subst (λ x. Contains x.origins k) (sym same) origin) in
            subst (λ l. is_clipped a b heads l ≡ false) w.2 (none_clips w.0 w.1)

        none : (head : Head) → Contains heads head → clips a b heads head ≡ false
        none head at = ap (λ t. not (is_usable a b head) && t) (any_none (is_clipped a b heads) head.origins (origin_kept head at)) ∙ no_both (is_usable a b head)
