-- Tickets and turns, through each step.
use Rattle.std.proofs.Common.{◌≡◌, ◌≢◌, ℕ, ◌+◌, ◌<◌, ◌≤◌, ◌^◌, true, false, Some, None, List, [], ◌∷◌, ◌++◌, length, set, refl, sym, ap, ◌∙◌, arith}
use mathlib.Core.Option as raw
use mathlib.Core.Logic.{dite}
use native.Mathlib.Decide.{ℕ_discrete}
use Rattle.atomic_table.proofs.Lists.{set_here}
use Rattle.ts_turnstile.specs.Rule.{At, Standing, Tickets}
use Rattle.ts_turnstile.proofs.Items.{at_length, same_item, each_set, moved, each_added, longer_still}
use Rattle.ts_turnstile.proofs.Truths.{off}

module _ {X : Type 0} (drawn served : ℕ) (homes : List (raw.Option X)) (all : List Standing) (h : Tickets drawn served homes all) where
  -- a ticket is drawn
  pub drawn_next : (i : ℕ) (v : Standing) → At all i v → v.ticket ≡ None → v.turn ≡ false → drawn + 1 < 2 ^ 64
      → Tickets (drawn + 1) served homes (set all i (record { ticket = Some drawn; turn = v.turn; spent = v.spent }))
  drawn_next i v at idle waits few =
      let w : Standing = record { ticket = Some drawn; turn = v.turn; spent = v.spent } in
      let below : (j : ℕ) (u : Standing) → At all j u → u.ticket ≡ Some drawn → ⊥ = λ j u e t. absurd (let b = (h.between j u e drawn t).1 in omega arith) in
      record {
        order = let o = h.order in omega arith;
        few = few;
        between = each_set (λ j u. (t : ℕ) → u.ticket ≡ Some t → (served ≤ t) × (t < drawn + 1)) all i w
            (λ j u apart e t is. let b = h.between j u e t is in let b0 = b.0 in let b1 = b.1 in (b0, omega arith))
            (λ t is. let same : drawn ≡ t = cc in let o = h.order in (omega arith, omega arith));
        alone = each_set (λ j u. (k : ℕ) (x : Standing) → At (set all i w) k x → (t : ℕ) → u.ticket ≡ Some t → x.ticket ≡ Some t → j ≡ k) all i w
            (λ j u apart e. each_set (λ k x. (t : ℕ) → u.ticket ≡ Some t → x.ticket ≡ Some t → j ≡ k) all i w
            (λ k x apart' e' t is is'. h.alone j u e k x e' t is is')
            (λ t is is'. absurd (below j u e (is ∙ sym is'))))
            (each_set (λ k x. (t : ℕ) → w.ticket ≡ Some t → x.ticket ≡ Some t → i ≡ k) all i w
            (λ k x apart' e' t is is'. absurd (below k x e' (is' ∙ sym is)))
            (λ t is is'. refl));
        waited = λ t from to. dite (ℕ_discrete t drawn)
            (λ (same : t ≡ drawn). (i, w, set_here all i w (at_length all i v at), ap Some (sym same)))
            (λ (other : t ≢ drawn). moved (λ u. u.ticket ≡ Some t) all i v w at (λ is. absurd (let n : None ≡ Some t = sym idle ∙ is in cc)) (h.waited t from (omega arith)));
        turn = each_set (λ j u. u.turn ≡ true → (u.ticket ≡ Some served) × At homes 0 raw.none × (u.spent ≡ false)) all i w
            (λ j u apart e is. h.turn j u e is)
            (λ is. absurd (off (sym waits ∙ is)));
        out = λ gone. moved (λ u. u.turn ≡ true) all i v w at (λ is. is) (h.out gone);
      }

  -- where one whose ticket is served has not had its turn yet, the value is at home
  pub at_home : (i : ℕ) (v : Standing) → At all i v → v.ticket ≡ Some served → v.turn ≡ false → length homes ≡ 1 → (y : X) × At homes 0 (raw.some y)
  at_home i v at is waits one = home homes one (λ gone. let x = h.out gone in let t = h.turn x.0 x.1 x.2 x.3 in
      let same : x.0 ≡ i = h.alone x.0 x.1 x.2 i v at served t.0 is in
      off (sym waits ∙ ap (λ (u : Standing). u.turn) (same_item all i x.0 v x.1 same at x.2) ∙ x.3))
    where
      home : (hs : List (raw.Option X)) → length hs ≡ 1 → (At hs 0 raw.none → ⊥) → (y : X) × At hs 0 (raw.some y)
      home [] e never = absurd (omega arith)
      home (raw.none ∷ hs) e never = absurd (never refl)
      home (raw.some y ∷ hs) e never = (y, refl)

  -- a turn comes
  pub turn_comes : (i : ℕ) (v : Standing) → At all i v → v.ticket ≡ Some served → v.spent ≡ false → 0 < length homes
      → ((j : ℕ) (u : Standing) → At all j u → u.turn ≡ true → j ≡ i)
      → Tickets drawn served (set homes 0 raw.none) (set all i (record { ticket = v.ticket; turn = true; spent = v.spent }))
  turn_comes i v at is alive some only =
      let w : Standing = record { ticket = v.ticket; turn = true; spent = v.spent } in
      record {
        order = h.order;
        few = h.few;
        between = each_set (λ j u. (t : ℕ) → u.ticket ≡ Some t → (served ≤ t) × (t < drawn)) all i w (λ j u apart e. h.between j u e) (h.between i v at);
        alone = each_set (λ j u. (k : ℕ) (x : Standing) → At (set all i w) k x → (t : ℕ) → u.ticket ≡ Some t → x.ticket ≡ Some t → j ≡ k) all i w
            (λ j u apart e. each_set (λ k x. (t : ℕ) → u.ticket ≡ Some t → x.ticket ≡ Some t → j ≡ k) all i w
            (λ k x apart' e'. h.alone j u e k x e')
            (h.alone j u e i v at))
            (each_set (λ k x. (t : ℕ) → w.ticket ≡ Some t → x.ticket ≡ Some t → i ≡ k) all i w
            (λ k x apart' e'. h.alone i v at k x e')
            (λ t is is'. refl));
        waited = λ t from to. moved (λ u. u.ticket ≡ Some t) all i v w at (λ is. is) (h.waited t from to);
        turn = each_set (λ j u. u.turn ≡ true → (u.ticket ≡ Some served) × At (set homes 0 raw.none) 0 raw.none × (u.spent ≡ false)) all i w
            (λ j u apart e t. absurd (apart (only j u e t)))
            (λ t. (is, set_here homes 0 raw.none some, alive));
        out = λ gone. (i, w, set_here all i w (at_length all i v at), refl);
      }

  -- a turn ends: the value is at home again, and the next ticket served
  pub turn_ends : (i : ℕ) (v : Standing) → At all i v → v.turn ≡ true → (back : List (raw.Option X)) → (At back 0 raw.none → ⊥)
      → Tickets drawn (served + 1) back (set all i (record { ticket = None; turn = false; spent = v.spent }))
  turn_ends i v at turns back home =
      let w : Standing = record { ticket = None; turn = false; spent = v.spent } in
      let mine : v.ticket ≡ Some served = (h.turn i v at turns).0 in
      let within = (h.between i v at served mine).1 in
      record {
        order = omega arith;
        few = h.few;
        between = each_set (λ j u. (t : ℕ) → u.ticket ≡ Some t → (served + 1 ≤ t) × (t < drawn)) all i w
            (λ j u apart e t is. let b = h.between j u e t is in let b0 = b.0 in let b1 = b.1 in
            let other : t ≢ served = λ same. apart (h.alone j u e i v at served (is ∙ ap Some same) mine) in (omega arith, b1))
            (λ t is. absurd (let n : None ≡ Some t = is in cc));
        alone = each_set (λ j u. (k : ℕ) (x : Standing) → At (set all i w) k x → (t : ℕ) → u.ticket ≡ Some t → x.ticket ≡ Some t → j ≡ k) all i w
            (λ j u apart e. each_set (λ k x. (t : ℕ) → u.ticket ≡ Some t → x.ticket ≡ Some t → j ≡ k) all i w
            (λ k x apart' e'. h.alone j u e k x e')
            (λ t is is'. absurd (let n : None ≡ Some t = is' in cc)))
            (each_set (λ k x. (t : ℕ) → w.ticket ≡ Some t → x.ticket ≡ Some t → i ≡ k) all i w
            (λ k x apart' e' t is is'. absurd (let n : None ≡ Some t = is in cc))
            (λ t is is'. refl));
        waited = λ t from to. moved (λ u. u.ticket ≡ Some t) all i v w at
            (λ is. absurd (let same : Some served ≡ Some t = sym mine ∙ is in let n : served ≡ t = cc in omega arith))
            (h.waited t (omega arith) to);
        turn = each_set (λ j u. u.turn ≡ true → (u.ticket ≡ Some (served + 1)) × At back 0 raw.none × (u.spent ≡ false)) all i w
            (λ j u apart e t. absurd (apart (h.alone j u e i v at served (h.turn j u e t).0 mine)))
            (λ t. absurd (off t));
        out = λ gone. absurd (home gone);
      }

  -- one that waits for nothing changes to another that doesn't
  pub idle_set : (i : ℕ) (v w : Standing) → At all i v → v.ticket ≡ None → v.turn ≡ false → w.ticket ≡ None → w.turn ≡ false → Tickets drawn served homes (set all i w)
  idle_set i v w at idle waits idle' waits' =
      record {
        order = h.order;
        few = h.few;
        between = each_set (λ j u. (t : ℕ) → u.ticket ≡ Some t → (served ≤ t) × (t < drawn)) all i w (λ j u apart e. h.between j u e) (λ t is. absurd (let n : None ≡ Some t = sym idle' ∙ is in cc));
        alone = each_set (λ j u. (k : ℕ) (x : Standing) → At (set all i w) k x → (t : ℕ) → u.ticket ≡ Some t → x.ticket ≡ Some t → j ≡ k) all i w
            (λ j u apart e. each_set (λ k x. (t : ℕ) → u.ticket ≡ Some t → x.ticket ≡ Some t → j ≡ k) all i w
            (λ k x apart' e'. h.alone j u e k x e')
            (λ t is is'. absurd (let n : None ≡ Some t = sym idle' ∙ is' in cc)))
            (each_set (λ k x. (t : ℕ) → w.ticket ≡ Some t → x.ticket ≡ Some t → i ≡ k) all i w
            (λ k x apart' e' t is is'. absurd (let n : None ≡ Some t = sym idle' ∙ is in cc))
            (λ t is is'. refl));
        waited = λ t from to. moved (λ u. u.ticket ≡ Some t) all i v w at (λ is. absurd (let n : None ≡ Some t = sym idle ∙ is in cc)) (h.waited t from to);
        turn = each_set (λ j u. u.turn ≡ true → (u.ticket ≡ Some served) × At homes 0 raw.none × (u.spent ≡ false)) all i w
            (λ j u apart e. h.turn j u e)
            (λ is. absurd (off (sym waits' ∙ is)));
        out = λ gone. moved (λ u. u.turn ≡ true) all i v w at (λ is. absurd (off (sym waits ∙ is))) (h.out gone);
      }

  -- one more that waits for nothing
  pub idle_added : (w : Standing) → w.ticket ≡ None → w.turn ≡ false → Tickets drawn served homes (all ++ w ∷ [])
  idle_added w idle waits =
      record {
        order = h.order;
        few = h.few;
        between = each_added (λ j u. (t : ℕ) → u.ticket ≡ Some t → (served ≤ t) × (t < drawn)) all w h.between (λ t is. absurd (let n : None ≡ Some t = sym idle ∙ is in cc));
        alone = each_added (λ j u. (k : ℕ) (x : Standing) → At (all ++ w ∷ []) k x → (t : ℕ) → u.ticket ≡ Some t → x.ticket ≡ Some t → j ≡ k) all w
            (λ j u e. each_added (λ k x. (t : ℕ) → u.ticket ≡ Some t → x.ticket ≡ Some t → j ≡ k) all w
            (h.alone j u e)
            (λ t is is'. absurd (let n : None ≡ Some t = sym idle ∙ is' in cc)))
            (λ k x e t is is'. absurd (let n : None ≡ Some t = sym idle ∙ is in cc));
        waited = λ t from to. longer_still (λ u. u.ticket ≡ Some t) all (w ∷ []) (h.waited t from to);
        turn = each_added (λ j u. u.turn ≡ true → (u.ticket ≡ Some served) × At homes 0 raw.none × (u.spent ≡ false)) all w h.turn (λ is. absurd (off (sym waits ∙ is)));
        out = λ gone. longer_still (λ u. u.turn ≡ true) all (w ∷ []) (h.out gone);
      }
