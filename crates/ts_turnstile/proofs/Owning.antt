-- The calls of the passes' lanes, through each step.
use Rattle.std.proofs.Common.{◌≡◌, ◌≢◌, ℕ, ◌||◌, true, false, List, [], ◌∷◌, ◌++◌, set, refl, sym, ap, ◌∙◌, subst, ne_eqb}
use mathlib.Core.Logic.{dite}
use native.Mathlib.Decide.{ℕ_discrete}
use Rattle.atomic_table.proofs.Lists.{set_here, set_else, at_longer}
use Rattle.ts_turnstile.specs.declared.turn.Turn.{Turn}
use Rattle.ts_turnstile.specs.Turns.{turns_by}
use Rattle.ts_turnstile.proofs.Growth.{turns_by-other}
use Rattle.ts_turnstile.specs.Lanes.{has}
use Rattle.ts_turnstile.specs.Rule.{At, Share, Owned}
use Rattle.ts_turnstile.proofs.Items.{at_length, same_item, each_set, unset, each_added}
use Rattle.ts_turnstile.proofs.Truths.{off, both_of, or_none}

module _ (turns : List Turn) (all : List Share) (h : Owned turns all) where
  -- a pass has seen the whole turns
  pub owner_sees : (i : ℕ) (v : Share) → At all i v → Owned turns (set all i (record { lanes = v.lanes; seen = turns }))
  owner_sees i v at =
      let w : Share = record { lanes = v.lanes; seen = turns } in
      record {
        own = each_set (λ j u. (lane : ℕ) → has lane u.lanes ≡ true → turns_by lane turns ≡ turns_by lane u.seen) all i w (λ j u apart e. h.own j u e) (λ lane is. refl);
        strangers = λ lane none. h.strangers lane (unset (λ u. has lane u.lanes ≡ false) all i v w at (λ is. is) none);
      }

  -- a call of one of a pass's lanes comes, and it has seen it
  pub owner_calls : (i : ℕ) (v : Share) → At all i v → (e : Turn) → has e.lane v.lanes ≡ true
      → ((j : ℕ) (u : Share) → At all j u → has e.lane u.lanes ≡ true → j ≡ i)
      → Owned (turns ++ e ∷ []) (set all i (record { lanes = v.lanes; seen = turns ++ e ∷ [] }))
  owner_calls i v at e mine only =
      let w : Share = record { lanes = v.lanes; seen = turns ++ e ∷ [] } in
      record {
        own = each_set (λ j u. (lane : ℕ) → has lane u.lanes ≡ true → turns_by lane (turns ++ e ∷ []) ≡ turns_by lane u.seen) all i w
            (λ j u apart here lane is. turns_by-other lane turns e (ne_eqb e.lane lane (λ same. apart (only j u here (subst (λ l. has l u.lanes ≡ true) (sym same) is)))) ∙ h.own j u here lane is)
            (λ lane is. refl);
        strangers = λ lane none.
            let none_now = unset (λ u. has lane u.lanes ≡ false) all i v w at (λ is. is) none in
            turns_by-other lane turns e (ne_eqb e.lane lane (λ same. both_of (has lane v.lanes) (subst (λ l. has l v.lanes ≡ true) same mine) (none_now i v at)))
            ∙ h.strangers lane none_now;
      }

  -- one more pass
  pub owner_added : (w : Share) → ((lane : ℕ) → has lane w.lanes ≡ true → turns_by lane turns ≡ turns_by lane w.seen) → Owned turns (all ++ w ∷ [])
  owner_added w mine =
      record {
        own = each_added (λ j u. (lane : ℕ) → has lane u.lanes ≡ true → turns_by lane turns ≡ turns_by lane u.seen) all w h.own mine;
        strangers = λ lane none. h.strangers lane (λ j u e. none j u (at_longer all (w ∷ []) j u e));
      }

  -- one takes in another's lanes
  pub owner_joins : (i : ℕ) (v w : Share) → At all i v → (k : ℕ) (x : Share) → At all k x → k ≢ i
      → ((lane : ℕ) → has lane w.lanes ≡ (has lane v.lanes || has lane x.lanes))
      → ((lane : ℕ) → has lane w.lanes ≡ true → turns_by lane turns ≡ turns_by lane w.seen)
      → Owned turns (set (set all i w) k (record { lanes = []; seen = [] }))
  owner_joins i v w at k x at' apart sum mine =
      let y : Share = record { lanes = []; seen = [] } in
      record {
        own = each_set (λ j u. (lane : ℕ) → has lane u.lanes ≡ true → turns_by lane turns ≡ turns_by lane u.seen) (set all i w) k y
            (λ j u away e. each_set (λ j u. (lane : ℕ) → has lane u.lanes ≡ true → turns_by lane turns ≡ turns_by lane u.seen) all i w (λ j u away' e'. h.own j u e') mine j u e)
            (λ lane is. absurd (off is));
        strangers = λ lane none.
            let here : At (set (set all i w) k y) i w = set_else (set all i w) k i y (λ same. apart (sym same)) ∙ set_here all i w (at_length all i v at) in
            let neither = or_none (has lane v.lanes) (has lane x.lanes) (sym (sum lane) ∙ none i w here) in
            h.strangers lane (λ j u e.
            dite (ℕ_discrete j k)
            (λ (same : j ≡ k). ap (λ (s : Share). has lane s.lanes) (sym (same_item all k j x u same at' e)) ∙ neither.1)
            (λ (other : j ≢ k).
            dite (ℕ_discrete j i)
            (λ (same : j ≡ i). ap (λ (s : Share). has lane s.lanes) (sym (same_item all i j v u same at e)) ∙ neither.0)
            (λ (away : j ≢ i). none j u (set_else (set all i w) k j y other ∙ (set_else all i j w away ∙ e)))));
      }
