-- What was seen, through each step.
use Rattle.std.proofs.Common.{◌≡◌, ◌≢◌, ℕ, true, false, List, [], ◌∷◌, ◌++◌, set, sym, ap, ◌∙◌, subst, append_assoc}
use mathlib.Core.Logic.{dite}
use native.Mathlib.Decide.{ℕ_discrete}
use Rattle.atomic_table.proofs.Lists.{set_here, set_else}
use Rattle.ts_turnstile.specs.declared.turn.Turn.{Turn}
use Rattle.ts_turnstile.specs.Turns.{GoesInto}
use Rattle.ts_turnstile.specs.declared.view.Opening.{Opening}
use Rattle.ts_turnstile.specs.Lanes.{Hears}
use Rattle.ts_turnstile.specs.Rule.{At, Sight, Seens}
use Rattle.ts_turnstile.proofs.Items.{at_length, same_item, each_set, moved, each_added, longer_still}
use Rattle.ts_turnstile.proofs.Truths.{off}
use Rattle.ts_turnstile.proofs.Growth.{begins_self, begins_nil, begins_both}

-- nothing was heard of no lane
pub nothing_heard : (seen : List Turn) → Hears [] [] seen
nothing_heard seen = record { begins = begins_nil seen; own = λ lane is. absurd (off is) }

module _ (opening : Opening) (turns : List Turn) (all : List Sight) (h : Seens opening turns all) where
  -- a pass sees the whole turns, as it is or with one more entry, and its turn has come
  pub seen_whole : (i : ℕ) (v w : Sight) → At all i v → (now : List Turn) → GoesInto turns now
      → ((j : ℕ) (u : Sight) → At all j u → u.turn ≡ true → j ≡ i)
      → v.spent ≡ false → w.opening ≡ v.opening → w.spent ≡ v.spent → w.seen ≡ now → Hears w.left w.left_lanes w.seen × Hears w.right w.right_lanes w.seen
      → Seens opening now (set all i w)
  seen_whole i v w at now grows only alive opens spends sees hears =
      record {
        begins = each_set (λ j u. GoesInto u.seen now) all i w
            (λ j u apart e. let b = h.begins j u e in (b.0 ++ grows.0, grows.1 ∙ ap (λ l. l ++ grows.0) b.1 ∙ append_assoc u.seen b.0 grows.0))
            (subst (λ l. GoesInto l now) (sym sees) (begins_self now));
        whole = each_set (λ j u. u.turn ≡ true → u.seen ≡ now) all i w
            (λ j u apart e is. absurd (apart (only j u e is)))
            (λ is. sees);
        longest = (i, w, set_here all i w (at_length all i v at), (spends ∙ alive, sees));
        opened = each_set (λ j u. u.spent ≡ false → u.opening ≡ opening) all i w
            (λ j u apart e. h.opened j u e)
            (λ is. opens ∙ h.opened i v at (sym spends ∙ is));
        heard = each_set (λ j u. Hears u.left u.left_lanes u.seen × Hears u.right u.right_lanes u.seen) all i w
            (λ j u apart e. h.heard j u e)
            hears;
      }

  -- a turn ends, or did not come
  pub seen_kept : (i : ℕ) (v w : Sight) → At all i v → w.turn ≡ false → w.opening ≡ v.opening → w.spent ≡ v.spent → w.seen ≡ v.seen
      → Hears w.left w.left_lanes w.seen × Hears w.right w.right_lanes w.seen
      → Seens opening turns (set all i w)
  seen_kept i v w at waits opens spends sees hears =
      record {
        begins = each_set (λ j u. GoesInto u.seen turns) all i w
            (λ j u apart e. h.begins j u e)
            (subst (λ l. GoesInto l turns) (sym sees) (h.begins i v at));
        whole = each_set (λ j u. u.turn ≡ true → u.seen ≡ turns) all i w
            (λ j u apart e. h.whole j u e)
            (λ is. absurd (off (sym waits ∙ is)));
        longest = moved (λ u. (u.spent ≡ false) × (u.seen ≡ turns)) all i v w at (λ is. (spends ∙ is.0, sees ∙ is.1)) h.longest;
        opened = each_set (λ j u. u.spent ≡ false → u.opening ≡ opening) all i w
            (λ j u apart e. h.opened j u e)
            (λ is. opens ∙ h.opened i v at (sym spends ∙ is));
        heard = each_set (λ j u. Hears u.left u.left_lanes u.seen × Hears u.right u.right_lanes u.seen) all i w
            (λ j u apart e. h.heard j u e)
            hears;
      }

  -- one more that has seen what another has
  pub seen_added : (w : Sight) → w.turn ≡ false → w.opening ≡ opening → GoesInto w.seen turns
      → Hears w.left w.left_lanes w.seen × Hears w.right w.right_lanes w.seen
      → Seens opening turns (all ++ w ∷ [])
  seen_added w waits opens begins hears =
      record {
        begins = each_added (λ j u. GoesInto u.seen turns) all w h.begins begins;
        whole = each_added (λ j u. u.turn ≡ true → u.seen ≡ turns) all w h.whole (λ is. absurd (off (sym waits ∙ is)));
        longest = longer_still (λ u. (u.spent ≡ false) × (u.seen ≡ turns)) all (w ∷ []) h.longest;
        opened = each_added (λ j u. u.spent ≡ false → u.opening ≡ opening) all w h.opened (λ is. opens);
        heard = each_added (λ j u. Hears u.left u.left_lanes u.seen × Hears u.right u.right_lanes u.seen) all w h.heard hears;
      }

  -- one takes in what another has seen, and the other is gone
  pub seen_joined : (i : ℕ) (v w : Sight) → At all i v → (k : ℕ) (x y : Sight) → At all k x → k ≢ i
      → v.spent ≡ false → w.turn ≡ false → w.opening ≡ v.opening → w.spent ≡ v.spent → GoesInto w.seen turns → GoesInto v.seen w.seen → GoesInto x.seen w.seen
      → Hears w.left w.left_lanes w.seen × Hears w.right w.right_lanes w.seen
      → y.turn ≡ false → y.spent ≡ true → y.seen ≡ [] → Hears y.left y.left_lanes y.seen × Hears y.right y.right_lanes y.seen
      → Seens opening turns (set (set all i w) k y)
  seen_joined i v w at k x y at' apart alive waits opens spends begins from_v from_x hears waits' gone empty hears' =
      record {
        begins = each_set (λ j u. GoesInto u.seen turns) (set all i w) k y
            (λ j u away e. each_set (λ j u. GoesInto u.seen turns) all i w (λ j u away' e'. h.begins j u e') begins j u e)
            (subst (λ l. GoesInto l turns) (sym empty) (begins_nil turns));
        whole = each_set (λ j u. u.turn ≡ true → u.seen ≡ turns) (set all i w) k y
            (λ j u away e. each_set (λ j u. u.turn ≡ true → u.seen ≡ turns) all i w (λ j u away' e'. h.whole j u e') (λ is. absurd (off (sym waits ∙ is))) j u e)
            (λ is. absurd (off (sym waits' ∙ is)));
        longest = pick h.longest;
        opened = each_set (λ j u. u.spent ≡ false → u.opening ≡ opening) (set all i w) k y
            (λ j u away e. each_set (λ j u. u.spent ≡ false → u.opening ≡ opening) all i w (λ j u away' e'. h.opened j u e') (λ is. opens ∙ h.opened i v at (sym spends ∙ is)) j u e)
            (λ is. absurd (off (sym is ∙ gone)));
        heard = each_set (λ j u. Hears u.left u.left_lanes u.seen × Hears u.right u.right_lanes u.seen) (set all i w) k y
            (λ j u away e. each_set (λ j u. Hears u.left u.left_lanes u.seen × Hears u.right u.right_lanes u.seen) all i w (λ j u away' e'. h.heard j u e') hears j u e)
            hears';
      }
    where
      here : At (set (set all i w) k y) i w
      here = set_else (set all i w) k i y (λ same. apart (sym same)) ∙ set_here all i w (at_length all i v at)

      all_of : (u : Sight) → u.seen ≡ turns → GoesInto u.seen w.seen → w.seen ≡ turns
      all_of u is on = begins_both w.seen turns begins (subst (λ l. GoesInto l w.seen) is on)

      pick : (j : ℕ) × (u : Sight) × At all j u × ((u.spent ≡ false) × (u.seen ≡ turns)) → (j : ℕ) × (u : Sight) × At (set (set all i w) k y) j u × ((u.spent ≡ false) × (u.seen ≡ turns))
      pick z =
          dite (ℕ_discrete z.0 k)
          (λ (same : z.0 ≡ k). let is = same_item all k z.0 x z.1 same at' z.2 in (i, w, here, (spends ∙ alive, all_of x (ap (λ (u : Sight). u.seen) is ∙ z.3.1) from_x)))
          (λ (other : z.0 ≢ k).
          dite (ℕ_discrete z.0 i)
          (λ (same : z.0 ≡ i). let is = same_item all i z.0 v z.1 same at z.2 in (i, w, here, (spends ∙ alive, all_of v (ap (λ (u : Sight). u.seen) is ∙ z.3.1) from_v)))
          (λ (away : z.0 ≢ i). (z.0, z.1, set_else (set all i w) k z.0 y other ∙ (set_else all i z.0 w away ∙ z.2), z.3)))
