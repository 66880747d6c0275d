-- What is clipped from a read: where no fragment is clipped no write is, and the history without its clipped writes is the history.
use Rattle.std.proofs.Common.{◌≡◌, ℕ, Bool, true, false, cond, ◌&&◌, not, List, [], ◌∷◌, refl, sym, ◌∙◌, ap, subst}
use Rattle.std.specs.Prelude.{Contains, filter}
use Rattle.std.specs.List.{list_any}
use Rattle.std.proofs.lemmas.Bool.{and_from}
use Rattle.ts_base.specs.declared.keys.Key.{Key}
use Rattle.ts_base.specs.declared.heads.Head.{Head}
use Rattle.ts_base.specs.Keys.{is_within}
use Rattle.ts_base.specs.Held.{Held}
use Rattle.ts_commit.specs.Selections.{has_origin, is_usable, usable, is_clipped, clips, clipped_names}
use Rattle.ts_model.specs.declared.deeds.Written.{Written}
use Rattle.ts_model.specs.declared.deeds.Deed.TheVariants.{Framed, Declared, Wrote, Erased}
use Rattle.ts_model.specs.Deeds.{History, writes}
use Rattle.ts_model.specs.Codecs.{Spelled}
use Rattle.ts_model.specs.States.{meets}
use Rattle.ts_model.proofs.ListLemmas.{Contains-here, Contains-nil, Contains-there, Contains-filter}
use Rattle.ts_law.specs.Ends.{AreHeads, without_clipped}
use Rattle.ts_law.specs.Stands.{HoldsIn, Stands}
use Rattle.ts_law.proofs.Fetches.{Contains-map}
use Rattle.ts_law.proofs.ListSteps.{meets_of_origin}
use Rattle.ts_law.proofs.Loading.{OneHead, has_head, same_head}
use Rattle.ts_law.proofs.OriginLaws.{any_member, key_there}

-- what is no clipped write is left
nothing_left_out : (a b : ℕ) (heads : List Head) (h : History) → ((w : Written) → Contains (writes h) w → is_clipped a b heads w.key ≡ false) → without_clipped a b heads h ≡ h
nothing_left_out a b heads [] all = refl
nothing_left_out a b heads (Framed x ∷ h) all = ap (λ l. Framed x ∷ l) (nothing_left_out a b heads h all)
nothing_left_out a b heads (Declared x ∷ h) all = ap (λ l. Declared x ∷ l) (nothing_left_out a b heads h all)
nothing_left_out a b heads (Erased x ∷ h) all = ap (λ l. Erased x ∷ l) (nothing_left_out a b heads h all)
nothing_left_out a b heads (Wrote w ∷ h) all =
    ap (λ t. cond (not t) (Wrote w ∷ without_clipped a b heads h) (without_clipped a b heads h)) (all w (Contains-here w (writes h)))
    ∙ ap (λ l. Wrote w ∷ l) (nothing_left_out a b heads h (λ v at. all v (Contains-there w (writes h) v at)))

module _ (spelled : Spelled) (m : Held) (h : History) (a b : ℕ) (heads : List Head) (are : AreHeads spelled h m a b heads) (one : OneHead spelled h m) (stands : Stands spelled m h) where
  -- a write in the interval went into a fragment whose head is among these
  headed : (w : Written) → Contains (writes h) w → is_within a b w.key ≡ true → (head : Head) × Contains heads head × (has_origin w.key head ≡ true)
  headed w at within =
      let own = stands.covered w at in
      let went = own.went in
      let near : meets a b own.frag ≡ true = meets_of_origin spelled m h a b own.frag w.key went within in
      let head = has_head spelled m h a b heads are one stands own.frag own.committed near in
      let same : (went.piece).head ≡ head.0 = same_head spelled m h a b heads are one stands head.0 head.1 went.piece (subst (λ g. HoldsIn spelled h m g went.piece) (sym head.2) went.holds) in
      (head.0, head.1, subst (λ x. has_origin w.key x ≡ true) same went.origin)

  -- a fragment that a clipped write went into is clipped
  clips_with : (k : Key) → is_clipped a b heads k ≡ true → (head : Head) → Contains heads head → has_origin k head ≡ true → clips a b heads head ≡ true
  clips_with k clipped head at origin =
      and_from (not (is_usable a b head)) (list_any (is_clipped a b heads) head.origins) (not_usable (is_usable a b head) refl)
      (any_member (is_clipped a b heads) head.origins k (key_there k head.origins origin) clipped)
    where
      kept : (s t : Bool) → s && not t ≡ true → t ≡ true → false ≡ true
      kept true true e is = e
      kept true false e is = is
      kept false t e is = e

      not_usable : (t : Bool) → is_usable a b head ≡ t → not t ≡ true
      not_usable false e = refl
      not_usable true e =
          kept (is_within a b k) (list_any (has_origin k) (usable a b heads)) clipped (any_member (has_origin k) (usable a b heads) head (Contains-filter (is_usable a b) heads head at e) origin)

  -- where no fragment is clipped no write is
  no_write_clipped : clipped_names a b heads ≡ [] → (w : Written) → Contains (writes h) w → is_clipped a b heads w.key ≡ false
  no_write_clipped none w at = by (is_within a b w.key) refl (is_clipped a b heads w.key) refl
    where
      by : (s : Bool) → is_within a b w.key ≡ s → (t : Bool) → is_clipped a b heads w.key ≡ t → t ≡ false
      by s within false e = refl
      by false within true e = sym e ∙ ap (λ t. t && not (list_any (has_origin w.key) (usable a b heads))) within
      by true within true e =
          let head = headed w at within in
          let clip = clips_with w.key e head.0 head.1 head.2 in
          absurd (Contains-nil (head.0).frag (subst (λ l. Contains l (head.0).frag) none (Contains-map (λ x. x.frag) (filter (clips a b heads) heads) head.0 (Contains-filter (clips a b heads) heads head.0 head.1 clip))))

  -- so the history without its clipped writes is the history
  pub unclipped_same : clipped_names a b heads ≡ [] → without_clipped a b heads h ≡ h
  unclipped_same none = nothing_left_out a b heads h (no_write_clipped none)
