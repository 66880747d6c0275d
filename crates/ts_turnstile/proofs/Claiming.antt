-- The lanes of passes, through a split and a join.
use Rattle.std.proofs.Common.{◌≡◌, ◌≢◌, ◌⊎◌, ⊎_elim, ℕ, ◌||◌, true, false, List, [], ◌∷◌, ◌++◌, length, set, refl, sym, ap, ◌∙◌, subst}
use mathlib.Core.Logic.{dite}
use native.Mathlib.Decide.{ℕ_discrete}
use Rattle.atomic_table.proofs.Lists.{set_here, set_else, at_longer}
use Rattle.ts_turnstile.specs.Lanes.{has}
use Rattle.ts_turnstile.specs.Rule.{At, Claim, Claims}
use Rattle.ts_turnstile.proofs.Items.{at_length, same_item, each_set, moved, each_added, added_here}
use Rattle.ts_turnstile.proofs.Truths.{off, false_of, both_of, or_left, or_right, or_split, has_here, has_there, has_one, has_more, has_less}

module _ (all : List Claim) (h : Claims all) where
  -- a lane that was not split off the first pass stands in none
  pub none_claims : (i : ℕ) (v : Claim) → At all i v → v.first ≡ true → (lane : ℕ) → has lane (0 ∷ v.split_off) ≡ false → (j : ℕ) (u : Claim) → At all j u → has lane u.lanes ≡ false
  none_claims i v at first lane new j u e = false_of (has lane u.lanes) (λ is. both_of (has lane (0 ∷ v.split_off)) (h.listed i v at j u e first lane is) new)

  each_split : (P : ℕ → Claim → Type 0) (i : ℕ) (left right : Claim) → ((j : ℕ) (u : Claim) → j ≢ i → At all j u → P j u) → P i left → P (length (set all i left)) right
      → (j : ℕ) (u : Claim) → At (set all i left ++ right ∷ []) j u → P j u
  each_split P i left right others mine new = each_added P (set all i left) right (each_set P all i left others mine) new

  each_join : (P : ℕ → Claim → Type 0) (i : ℕ) (w : Claim) (k : ℕ) (y : Claim) → ((j : ℕ) (u : Claim) → j ≢ i → j ≢ k → At all j u → P j u) → P i w → P k y
      → (j : ℕ) (u : Claim) → At (set (set all i w) k y) j u → P j u
  each_join P i w k y others mine gone =
      each_set P (set all i w) k y
      (λ j u off_k e. each_set (λ n s. n ≢ k → P n s) all i w (λ n s away e' off. others n s away off e') (λ off. mine) j u e off_k)
      gone

  -- a lane is split off the first pass
  pub claim_split : (i : ℕ) (v : Claim) → At all i v → v.first ≡ true → (lane : ℕ) → has lane (0 ∷ v.split_off) ≡ false
      → Claims (set all i (record { lanes = v.lanes; first = v.first; split_off = lane ∷ v.split_off }) ++ record { lanes = lane ∷ []; first = false; split_off = [] } ∷ [])
  claim_split i v at first lane new =
      let left : Claim = record { lanes = v.lanes; first = v.first; split_off = lane ∷ v.split_off } in
      let right : Claim = record { lanes = lane ∷ []; first = false; split_off = [] } in
      let after : List Claim = set all i left ++ right ∷ [] in
      let clash : (j : ℕ) (u : Claim) → At all j u → (l : ℕ) → has l u.lanes ≡ true → has l right.lanes ≡ true → ⊥ =
      λ j u e l is is'. both_of (has lane u.lanes) (subst (λ n. has n u.lanes ≡ true) (sym (has_one l lane is')) is) (none_claims i v at first lane new j u e) in
      let other_first : (j : ℕ) (u : Claim) → j ≢ i → At all j u → u.first ≡ true → ⊥ = λ j u apart e is. apart (h.one_first j u e i v at is first) in
      record {
        apart = each_split (λ j u. (k : ℕ) (x : Claim) → At after k x → (l : ℕ) → has l u.lanes ≡ true → has l x.lanes ≡ true → j ≡ k) i left right
            (λ j u away e. each_split (λ k x. (l : ℕ) → has l u.lanes ≡ true → has l x.lanes ≡ true → j ≡ k) i left right
            (λ k x away' e'. h.apart j u e k x e')
            (h.apart j u e i v at)
            (λ l is is'. absurd (clash j u e l is is')))
            (each_split (λ k x. (l : ℕ) → has l v.lanes ≡ true → has l x.lanes ≡ true → i ≡ k) i left right
            (λ k x away' e'. h.apart i v at k x e')
            (λ l is is'. refl)
            (λ l is is'. absurd (clash i v at l is is')))
            (each_split (λ k x. (l : ℕ) → has l right.lanes ≡ true → has l x.lanes ≡ true → length (set all i left) ≡ k) i left right
            (λ k x away' e' l is is'. absurd (clash k x e' l is' is))
            (λ l is is'. absurd (clash i v at l is' is))
            (λ l is is'. refl));
        one_first = each_split (λ j u. (k : ℕ) (x : Claim) → At after k x → u.first ≡ true → x.first ≡ true → j ≡ k) i left right
            (λ j u away e k x e' is. absurd (other_first j u away e is))
            (each_split (λ k x. v.first ≡ true → x.first ≡ true → i ≡ k) i left right
            (λ k x away' e' is is'. absurd (other_first k x away' e' is'))
            (λ is is'. refl)
            (λ is is'. absurd (off is')))
            (λ k x e is. absurd (off is));
        listed = each_split (λ j u. (k : ℕ) (x : Claim) → At after k x → u.first ≡ true → (l : ℕ) → has l x.lanes ≡ true → has l (0 ∷ u.split_off) ≡ true) i left right
            (λ j u away e k x e' is. absurd (other_first j u away e is))
            (each_split (λ k x. v.first ≡ true → (l : ℕ) → has l x.lanes ≡ true → has l (0 ∷ lane ∷ v.split_off) ≡ true) i left right
            (λ k x away' e' is l is'. has_more l 0 lane v.split_off (h.listed i v at k x e' is l is'))
            (λ is l is'. has_more l 0 lane v.split_off (h.listed i v at i v at is l is'))
            (λ is l is'. subst (λ n. has n (0 ∷ lane ∷ v.split_off) ≡ true) (has_one l lane is') (has_there lane 0 (lane ∷ v.split_off) (has_here lane v.split_off))))
            (λ k x e is. absurd (off is));
        stands = each_split (λ j u. u.first ≡ true → (l : ℕ) → has l (0 ∷ u.split_off) ≡ true → (k : ℕ) × (x : Claim) × At after k x × (has l x.lanes ≡ true)) i left right
            (λ j u away e is. absurd (other_first j u away e is))
            (λ is l is'.
            ⊎_elim
            (λ (same : lane ≡ l). (length (set all i left), right, added_here (set all i left) right, subst (λ n. has n right.lanes ≡ true) same (has_here lane [])))
            (λ (old : has l (0 ∷ v.split_off) ≡ true).
            let still = moved (λ u. has l u.lanes ≡ true) all i v left at (λ stays. stays) (h.stands i v at is l old) in
            (still.0, still.1, at_longer (set all i left) (right ∷ []) still.0 still.1 still.2, still.3))
            (has_less l 0 lane v.split_off is'))
            (λ is. absurd (off is));
      }

  -- one takes in another's lanes, and the other is gone
  pub claim_joins : (i : ℕ) (v : Claim) → At all i v → (k : ℕ) (x : Claim) → At all k x → k ≢ i → (lanes : List ℕ)
      → ((lane : ℕ) → has lane lanes ≡ (has lane v.lanes || has lane x.lanes))
      → Claims (set (set all i (record { lanes = lanes; first = v.first; split_off = v.split_off })) k (record { lanes = []; first = false; split_off = [] }))
  claim_joins i v at k x at' apart lanes sum =
      let w : Claim = record { lanes = lanes; first = v.first; split_off = v.split_off } in
      let y : Claim = record { lanes = []; first = false; split_off = [] } in
      let after : List Claim = set (set all i w) k y in
      let here : At after i w = set_else (set all i w) k i y (λ same. apart (sym same)) ∙ set_here all i w (at_length all i v at) in
      let parts : (l : ℕ) → has l lanes ≡ true → (has l v.lanes ≡ true) ⊎ (has l x.lanes ≡ true) = λ l is. or_split (has l v.lanes) (has l x.lanes) (sym (sum l) ∙ is) in
      let from_v : (l : ℕ) → has l v.lanes ≡ true → has l lanes ≡ true = λ l is. sum l ∙ or_left (has l v.lanes) (has l x.lanes) is in
      let from_x : (l : ℕ) → has l x.lanes ≡ true → has l lanes ≡ true = λ l is. sum l ∙ or_right (has l v.lanes) (has l x.lanes) is in
      let owner : (j : ℕ) (u : Claim) → j ≢ i → j ≢ k → At all j u → (l : ℕ) → has l u.lanes ≡ true → has l lanes ≡ true → ⊥ =
      λ j u away off_k e l is is'. ⊎_elim (λ (one : has l v.lanes ≡ true). away (h.apart j u e i v at l is one)) (λ (other : has l x.lanes ≡ true). off_k (h.apart j u e k x at' l is other)) (parts l is') in
      record {
        apart = each_join (λ j u. (m : ℕ) (z : Claim) → At after m z → (l : ℕ) → has l u.lanes ≡ true → has l z.lanes ≡ true → j ≡ m) i w k y
            (λ j u away off_k e. each_join (λ m z. (l : ℕ) → has l u.lanes ≡ true → has l z.lanes ≡ true → j ≡ m) i w k y
            (λ m z away' off_k' e'. h.apart j u e m z e')
            (λ l is is'. absurd (owner j u away off_k e l is is'))
            (λ l is is'. absurd (off is')))
            (each_join (λ m z. (l : ℕ) → has l lanes ≡ true → has l z.lanes ≡ true → i ≡ m) i w k y
            (λ m z away' off_k' e' l is is'. absurd (owner m z away' off_k' e' l is' is))
            (λ l is is'. refl)
            (λ l is is'. absurd (off is')))
            (λ m z e l is. absurd (off is));
        one_first = each_join (λ j u. (m : ℕ) (z : Claim) → At after m z → u.first ≡ true → z.first ≡ true → j ≡ m) i w k y
            (λ j u away off_k e. each_join (λ m z. u.first ≡ true → z.first ≡ true → j ≡ m) i w k y
            (λ m z away' off_k' e'. h.one_first j u e m z e')
            (h.one_first j u e i v at)
            (λ is is'. absurd (off is')))
            (each_join (λ m z. v.first ≡ true → z.first ≡ true → i ≡ m) i w k y
            (λ m z away' off_k' e'. h.one_first i v at m z e')
            (λ is is'. refl)
            (λ is is'. absurd (off is')))
            (λ m z e is. absurd (off is));
        listed = each_join (λ j u. (m : ℕ) (z : Claim) → At after m z → u.first ≡ true → (l : ℕ) → has l z.lanes ≡ true → has l (0 ∷ u.split_off) ≡ true) i w k y
            (λ j u away off_k e. each_join (λ m z. u.first ≡ true → (l : ℕ) → has l z.lanes ≡ true → has l (0 ∷ u.split_off) ≡ true) i w k y
            (λ m z away' off_k' e'. h.listed j u e m z e')
            (λ is l is'. ⊎_elim (λ (one : has l v.lanes ≡ true). h.listed j u e i v at is l one) (λ (other : has l x.lanes ≡ true). h.listed j u e k x at' is l other) (parts l is'))
            (λ is l is'. absurd (off is')))
            (each_join (λ m z. v.first ≡ true → (l : ℕ) → has l z.lanes ≡ true → has l (0 ∷ v.split_off) ≡ true) i w k y
            (λ m z away' off_k' e'. h.listed i v at m z e')
            (λ is l is'. ⊎_elim (λ (one : has l v.lanes ≡ true). h.listed i v at i v at is l one) (λ (other : has l x.lanes ≡ true). h.listed i v at k x at' is l other) (parts l is'))
            (λ is l is'. absurd (off is')))
            (λ m z e is. absurd (off is));
        stands =
            let still : (l : ℕ) → (j : ℕ) × (u : Claim) × At all j u × (has l u.lanes ≡ true) → (j : ℕ) × (u : Claim) × At after j u × (has l u.lanes ≡ true) = λ l s.
            dite (ℕ_discrete s.0 k)
            (λ (same : s.0 ≡ k). (i, w, here, from_x l (ap (λ (u : Claim). has l u.lanes) (same_item all k s.0 x s.1 same at' s.2) ∙ s.3)))
            (λ (other : s.0 ≢ k).
            dite (ℕ_discrete s.0 i)
            (λ (same : s.0 ≡ i). (i, w, here, from_v l (ap (λ (u : Claim). has l u.lanes) (same_item all i s.0 v s.1 same at s.2) ∙ s.3)))
            (λ (away : s.0 ≢ i). (s.0, s.1, set_else (set all i w) k s.0 y other ∙ (set_else all i s.0 w away ∙ s.2), s.3))) in
            each_join (λ j u. u.first ≡ true → (l : ℕ) → has l (0 ∷ u.split_off) ≡ true → (m : ℕ) × (z : Claim) × At after m z × (has l z.lanes ≡ true)) i w k y
            (λ j u away off_k e is l is'. still l (h.stands j u e is l is'))
            (λ is l is'. still l (h.stands i v at is l is'))
            (λ is. absurd (off is));
      }
