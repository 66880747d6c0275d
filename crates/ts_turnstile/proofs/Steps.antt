-- Each atomic step keeps the rule, and tells what it is to tell.
use Rattle.std.proofs.Common.{◌≡◌, ◌≢◌, ⊎_elim, ℕ, zero, suc, ◌+◌, ◌%◌, ◌<◌, ◌≤◌, ◌^◌, ◌==◌, ◌||◌, Bool, true, false, Option, Some, None, MatchBool, List, [], ◌∷◌, ◌++◌, map, length, length-set, set, refl, sym, ap, ◌∙◌, subst, eq-eqb, ne_eqb, arith, slice_set, slice_index}
use Rattle.std.proofs.lemmas.List.{map-append}
use mathlib.Core.Option as raw
use mathlib.Core.Logic.{dite}
use native.Mathlib.Decide.{ℕ_discrete}
use lib.ListN.{get_elem?}
use prog.Atomic.{either}
use Rattle.atomic_table.specs.Table.{State, Me, step, Act, Valid, stepped, carried_after, Allows, Splits, Joins, opening, Final, Seen}
use Rattle.atomic_table.specs.Table.Act.{keeps, takes, gives}
use Rattle.atomic_table.proofs.Lists.{at_set, set_here, set_else, set_again, exchanged}
use Rattle.ts_base.specs.Held.{Held}
use Rattle.ts_turnstile.specs.declared.slot.Slot.{Slot}
use Rattle.ts_turnstile.specs.declared.slot.Slot.TheVariants as slot
use Rattle.ts_turnstile.specs.declared.turn.Turn.{Turn}
use Rattle.ts_turnstile.specs.Turns.{entries_in, turns_by, GoesInto}
use Rattle.ts_turnstile.specs.declared.told.Told.{Told}
use Rattle.ts_turnstile.specs.declared.closed.Closed.{Closed}
use Rattle.ts_turnstile.specs.declared.view.Opening.{Opening}
use Rattle.ts_turnstile.specs.declared.view.View.{View}
use Rattle.ts_turnstile.specs.Lanes.{has, Hears}
use Rattle.ts_turnstile.specs.Views.{opening_of, first_view, spent_view, lanes_of, lanes_if, with_ticket, in_turn, naming, left_of, right_of, joined_view, longer}
use Rattle.ts_turnstile.specs.Rule.{At, Stands, AtHome, Standing, standing_of, Tickets, Sight, sight_of, Seens, Share, share_of, Owned, Claim, claim_of, Claims, Orderly}
use Rattle.ts_turnstile.specs.Plays.{Took, drew, looked, posted, served, named, heard}
use Rattle.ts_turnstile.proofs.Items.{same_item, at_length, map_at, at_image, kept, changed}
use Rattle.ts_turnstile.proofs.Truths.{off, false_of, both_of, or_split, has_append, has_here, has_one}
use Rattle.ts_turnstile.proofs.Growth.{begins_nil, begins_self, longer_goes_on, longer_begins, between_same, none_before}
use Rattle.ts_turnstile.proofs.Line.{drawn_next, at_home, turn_comes, turn_ends, idle_set, idle_added}
use Rattle.ts_turnstile.proofs.Sights.{nothing_heard, seen_whole, seen_kept, seen_added, seen_joined}
use Rattle.ts_turnstile.proofs.Owning.{owner_sees, owner_calls, owner_added, owner_joins}
use Rattle.ts_turnstile.proofs.Claiming.{none_claims, claim_split, claim_joins}

-- the lanes of a pass that is not gone
lanes_there : (spent : Bool) (lane : ℕ) (joined : List ℕ) → spent ≡ false → lanes_if spent lane joined ≡ lane ∷ joined
lanes_there spent lane joined is = ap (λ b. lanes_if b lane joined) is

module _ {S : Type 0} (held : S → Option Held) (faults : S → ℕ) (did : S → Turn → S → Type 0) where
  -- the table at the start
  pub opens : (store : S) → Orderly held faults did store (opening (0 ∷ 0 ∷ 0 ∷ []) (slot.Home (record { store = store; journal = [] }) ∷ []) (first_view (opening_of held faults store)))
  opens store =
      let home : Closed S = record { store = store; journal = [] } in
      let stands : Stands did store [] home = record { enters = refl; leads = refl } in
      let v = first_view (opening_of held faults store) in
      record {
        turns = [];
        drawn = 0;
        served = 0;
        words = refl;
        slots = refl;
        value = λ other at. subst (λ x. AtHome did store [] x) (raw.some-injective _ _ (raw.some-injective _ _ at)) stands;
        tickets = record {
          order = omega arith;
          few = omega arith;
          between = only (λ j u. (t : ℕ) → u.ticket ≡ Some t → (0 ≤ t) × (t < 0)) (standing_of v) (λ t is. absurd (let n : None ≡ Some t = is in cc));
          alone = only (λ j u. (k : ℕ) (x : Standing) → At (standing_of v ∷ []) k x → (t : ℕ) → u.ticket ≡ Some t → x.ticket ≡ Some t → j ≡ k) (standing_of v) (λ k x e t is. absurd (let n : None ≡ Some t = is in cc));
          waited = λ t from to. absurd (omega arith);
          turn = only (λ j u. u.turn ≡ true → (u.ticket ≡ Some 0) × At (raw.some (slot.Home home) ∷ []) 0 raw.none × (u.spent ≡ false)) (standing_of v) (λ is. absurd (off is));
          out = λ gone. absurd (raw.some-ne-none _ (raw.some-injective _ _ gone));
        };
        seens = record {
          begins = only (λ j u. GoesInto u.seen []) (sight_of v) (begins_nil []);
          whole = only (λ j u. u.turn ≡ true → u.seen ≡ []) (sight_of v) (λ is. refl);
          longest = (0, sight_of v, refl, (refl, refl));
          opened = only (λ j u. u.spent ≡ false → u.opening ≡ opening_of held faults store) (sight_of v) (λ is. refl);
          heard = only (λ j u. Hears u.left u.left_lanes u.seen × Hears u.right u.right_lanes u.seen) (sight_of v) (nothing_heard [], nothing_heard []);
        };
        owned = record {
          own = only (λ j u. (lane : ℕ) → has lane u.lanes ≡ true → turns_by lane [] ≡ turns_by lane u.seen) (share_of v) (λ lane is. refl);
          strangers = λ lane none. refl;
        };
        claims = record {
          apart = only (λ j u. (k : ℕ) (x : Claim) → At (claim_of v ∷ []) k x → (l : ℕ) → has l u.lanes ≡ true → has l x.lanes ≡ true → j ≡ k) (claim_of v) (only (λ k x. (l : ℕ) → has l (0 ∷ []) ≡ true → has l x.lanes ≡ true → 0 ≡ k) (claim_of v) (λ l is is'. refl));
          one_first = only (λ j u. (k : ℕ) (x : Claim) → At (claim_of v ∷ []) k x → u.first ≡ true → x.first ≡ true → j ≡ k) (claim_of v) (only (λ k x. true ≡ true → x.first ≡ true → 0 ≡ k) (claim_of v) (λ is is'. refl));
          listed = only (λ j u. (k : ℕ) (x : Claim) → At (claim_of v ∷ []) k x → u.first ≡ true → (l : ℕ) → has l x.lanes ≡ true → has l (0 ∷ u.split_off) ≡ true) (claim_of v) (only (λ k x. true ≡ true → (l : ℕ) → has l x.lanes ≡ true → has l (0 ∷ []) ≡ true) (claim_of v) (λ is l here. here));
          stands = only (λ j u. u.first ≡ true → (l : ℕ) → has l (0 ∷ u.split_off) ≡ true → (k : ℕ) × (x : Claim) × At (claim_of v ∷ []) k x × (has l x.lanes ≡ true)) (claim_of v) (λ is l here. (0, claim_of v, refl, here));
        };
      }
    where
      only : {A : Type 0} (P : ℕ → A → Type 0) (a : A) → P 0 a → (j : ℕ) (u : A) → At (a ∷ []) j u → P j u
      only P a p zero u e = subst (P 0) (raw.some-injective a u e) p
      only P a p (suc j) u e = absurd (raw.some-ne-none u (sym e))

module _ {S : Type 0} (held : S → Option Held) (faults : S → ℕ) (did : S → Turn → S → Type 0) (start : S) where
  abbrev o : Opening
  o = opening_of held faults start

  -- a ticket is drawn
  pub draws : (slots id old : ℕ) (m : Me (Slot S) View) → m.0.ticket ≡ None → m.0.turn ≡ false → old + 1 < 2 ^ 64
      → Allows (Orderly held faults did start) slots id m 1 (λ n. either (n == old) (old + 1) n) (drew (step slots 1 old (old + 1) raw.none) m)
  draws slots id old m idle waits few s h len at below =
      let Told : ℕ → Type 0 = λ n. (w : View) × (a : Act (Slot S)) × Valid s.homes m.1 a × Orderly held faults did start (stepped s 1 (either (n == old) (old + 1) n) id m.1 w a) × drew (step slots 1 old (old + 1) raw.none) m n (w, carried_after m.1 a) in
      let If : Bool → Type 0 = λ b. (w : View) × (a : Act (Slot S)) × Valid s.homes m.1 a × Orderly held faults did start (stepped s 1 (either b (old + 1) h.drawn) id m.1 w a) × MatchBool b (◌≡◌ {A = Me (Slot S) View} (w, carried_after m.1 a) (with_ticket m.0 (Some h.drawn), m.1)) (◌≡◌ {A = Me (Slot S) View} (w, carried_after m.1 a) m) in
      subst Told (sym (ap (λ ws. slice_index ws 1) h.words))
      (dite (ℕ_discrete h.drawn old)
      (λ (same : h.drawn ≡ old). subst If (sym (eq-eqb h.drawn old same)) (with_ticket m.0 (Some h.drawn), keeps, tt, won same, refl))
      (λ (other : h.drawn ≢ old). subst If (sym (ne_eqb h.drawn old other)) (m.0, keeps, tt, lost, refl)))
    where
      won : h.drawn ≡ old → Orderly held faults did start (stepped s 1 (old + 1) id m.1 (with_ticket m.0 (Some h.drawn)) keeps)
      won same =
          let v : View = m.0 in
          let w : View = with_ticket v (Some h.drawn) in
          let next : h.drawn + 1 ≡ old + 1 = ap (λ n. n + 1) same in
          record {
            turns = h.turns;
            drawn = old + 1;
            served = h.served;
            words = ap (λ ws. slice_set ws 1 (old + 1)) h.words;
            slots = h.slots;
            value = h.value;
            tickets = subst (λ n. Tickets n h.served s.homes (map standing_of (set s.views id w))) next
                (changed standing_of (Tickets (h.drawn + 1) h.served s.homes) s.views id w
                (subst (λ b. Tickets (h.drawn + 1) h.served s.homes (set (map standing_of s.views) id (record { ticket = Some h.drawn; turn = b; spent = v.spent }))) waits
                (drawn_next h.drawn h.served s.homes (map standing_of s.views) h.tickets id (standing_of v) (at_image standing_of s.views id v at) idle waits (omega arith))));
            seens = changed sight_of (Seens o h.turns) s.views id w
                (seen_kept o h.turns (map sight_of s.views) h.seens id (sight_of v) (sight_of w) (at_image sight_of s.views id v at) refl refl refl refl (h.seens.heard id (sight_of v) (at_image sight_of s.views id v at)));
            owned = kept share_of (Owned h.turns) s.views id v w at refl h.owned;
            claims = kept claim_of Claims s.views id v w at refl h.claims;
          }

      lost : Orderly held faults did start (stepped s 1 h.drawn id m.1 m.0 keeps)
      lost = record {
        turns = h.turns;
        drawn = h.drawn;
        served = h.served;
        words = ap (λ ws. slice_set ws 1 h.drawn) h.words;
        slots = h.slots;
        value = h.value;
        tickets = kept standing_of (Tickets h.drawn h.served s.homes) s.views id m.0 m.0 at refl h.tickets;
        seens = kept sight_of (Seens o h.turns) s.views id m.0 m.0 at refl h.seens;
        owned = kept share_of (Owned h.turns) s.views id m.0 m.0 at refl h.owned;
        claims = kept claim_of Claims s.views id m.0 m.0 at refl h.claims;
      }

  -- only the pass whose turn it is has it
  one_turn : (s : State (Slot S) View) (h : Orderly held faults did start s) (id : ℕ) (v : View) → At s.views id v → v.ticket ≡ Some h.served
      → (j : ℕ) (u : View) → At s.views j u → u.turn ≡ true → j ≡ id
  one_turn s h id v at is j u e turns =
      h.tickets.alone j (standing_of u) (at_image standing_of s.views j u e) id (standing_of v) (at_image standing_of s.views id v at) h.served
      (h.tickets.turn j (standing_of u) (at_image standing_of s.views j u e) turns).0 is

  -- the same, as sights tell
  one_turn_seen : (s : State (Slot S) View) (h : Orderly held faults did start s) (id : ℕ) (v : View) → At s.views id v → v.ticket ≡ Some h.served
      → (j : ℕ) (u : Sight) → At (map sight_of s.views) j u → u.turn ≡ true → j ≡ id
  one_turn_seen s h id v at is j u e turns =
      let from = map_at sight_of s.views j u e in
      one_turn s h id v at is j from.0 from.1 (ap (λ (x : Sight). x.turn) from.2 ∙ turns)

  one_turn_stands : (s : State (Slot S) View) (h : Orderly held faults did start s) (id : ℕ) (v : View) → At s.views id v → v.ticket ≡ Some h.served
      → (j : ℕ) (u : Standing) → At (map standing_of s.views) j u → u.turn ≡ true → j ≡ id
  one_turn_stands s h id v at is j u e turns =
      let from = map_at standing_of s.views j u e in
      one_turn s h id v at is j from.0 from.1 (ap (λ (x : Standing). x.turn) from.2 ∙ turns)

  -- a view stays as it is, and the words too
  stays : (s : State (Slot S) View) (h : Orderly held faults did start s) (id : ℕ) (v : View) (c : List (ℕ × Slot S)) (i n : ℕ) → At s.views id v → slice_set s.words i n ≡ s.words
      → Orderly held faults did start (stepped s i n id c v keeps)
  stays s h id v c i n at same = record {
    turns = h.turns;
    drawn = h.drawn;
    served = h.served;
    words = same ∙ h.words;
    slots = h.slots;
    value = h.value;
    tickets = kept standing_of (Tickets h.drawn h.served s.homes) s.views id v v at refl h.tickets;
    seens = kept sight_of (Seens o h.turns) s.views id v v at refl h.seens;
    owned = kept share_of (Owned h.turns) s.views id v v at refl h.owned;
    claims = kept claim_of Claims s.views id v v at refl h.claims;
  }

  -- the ticket served is looked at, and where it is one's own the store is taken
  pub looks : (slots id t : ℕ) (m : Me (Slot S) View) (opened : Told (Told S)) → opened.value.value ≡ start → m.0.ticket ≡ Some t → m.0.turn ≡ false → m.0.spent ≡ false
      → Allows (Orderly held faults did start) slots id m 2 (λ n. either (n == t) t n) (looked held faults did (step slots 2 t t (raw.some (slot.Opened opened))) m)
  looks slots id t m opened told is waits alive s h len at below =
      let Told : ℕ → Type 0 = λ n. (w : View) × (a : Act (Slot S)) × Valid s.homes m.1 a × Orderly held faults did start (stepped s 2 (either (n == t) t n) id m.1 w a) × looked held faults did (step slots 2 t t (raw.some (slot.Opened opened))) m n (w, carried_after m.1 a) in
      let Same : ℕ → Type 0 = λ n. (w : View) × (a : Act (Slot S)) × Valid s.homes m.1 a × Orderly held faults did start (stepped s 2 n id m.1 w a) × looked held faults did (step slots 2 t t (raw.some (slot.Opened opened))) m h.served (w, carried_after m.1 a) in
      let same_word : either (h.served == t) t h.served ≡ h.served = exchanged h.served t t (λ k. k ≡ h.served) (λ hit. sym hit) (λ miss. refl) in
      subst Told (sym (ap (λ ws. slice_index ws 2) h.words))
      (subst Same (sym same_word)
      (dite (ℕ_discrete t h.served)
      (λ (same : t ≡ h.served). mine same)
      (λ (other : t ≢ h.served). (
        m.0,
        keeps,
        tt,
        stays s h id m.0 m.1 2 h.served at (ap (λ ws. slice_set ws 2 h.served) h.words ∙ sym h.words),
        ((λ hit. absurd (other (let same : Some t ≡ Some h.served = sym is ∙ hit in cc))), (λ miss. refl)),
      ))))
    where
      mine : t ≡ h.served → (w : View) × (a : Act (Slot S)) × Valid s.homes m.1 a × Orderly held faults did start (stepped s 2 h.served id m.1 w a) × looked held faults did (step slots 2 t t (raw.some (slot.Opened opened))) m h.served (w, carried_after m.1 a)
      mine same =
          let ours : m.0.ticket ≡ Some h.served = is ∙ ap Some same in
          let there = at_home h.drawn h.served s.homes (map standing_of s.views) h.tickets id (standing_of m.0) (at_image standing_of s.views id m.0 at) ours waits h.slots in
          taken ours there.0 there.1 (h.value there.0 there.1)
        where
          taken : m.0.ticket ≡ Some h.served → (y : Slot S) → At s.homes 0 (raw.some y) → AtHome did start h.turns y
              → (w : View) × (a : Act (Slot S)) × Valid s.homes m.1 a × Orderly held faults did start (stepped s 2 h.served id m.1 w a) × looked held faults did (step slots 2 t t (raw.some (slot.Opened opened))) m h.served (w, carried_after m.1 a)
          taken ours slot.Out there home = absurd home
          taken ours (slot.Opened x) there home = absurd home
          taken ours (slot.Done x) there home = absurd home
          taken ours (slot.Home home) there stands =
              let w : View = in_turn m.0 h.turns in
              let sight_at = at_image sight_of s.views id m.0 at in
              let share_at = at_image share_of s.views id m.0 at in
              let ord : Orderly held faults did start (stepped s 2 h.served id m.1 w (takes 0 (slot.Home home))) = record {
                turns = h.turns;
                drawn = h.drawn;
                served = h.served;
                words = ap (λ ws. slice_set ws 2 h.served) h.words;
                slots = length-set s.homes 0 raw.none ∙ h.slots;
                value = λ other e. absurd (raw.some-ne-none other (sym (raw.some-injective _ _ (sym (set_here s.homes 0 raw.none (at_length s.homes 0 (raw.some (slot.Home home)) there)) ∙ e))));
                tickets = changed standing_of (Tickets h.drawn h.served (set s.homes 0 raw.none)) s.views id w
                    (turn_comes h.drawn h.served s.homes (map standing_of s.views) h.tickets id (standing_of m.0) (at_image standing_of s.views id m.0 at) ours alive (at_length s.homes 0 (raw.some (slot.Home home)) there) (one_turn_stands s h id m.0 at ours));
                seens = changed sight_of (Seens o h.turns) s.views id w
                    (seen_whole o h.turns (map sight_of s.views) h.seens id (sight_of m.0) (sight_of w) sight_at h.turns (begins_self h.turns) (one_turn_seen s h id m.0 at ours) alive refl refl refl (nothing_heard h.turns, nothing_heard h.turns));
                owned = changed share_of (Owned h.turns) s.views id w (owner_sees h.turns (map share_of s.views) h.owned id (share_of m.0) share_at);
                claims = kept claim_of Claims s.views id m.0 w at refl h.claims;
              } in
              let took : Took held faults did start m (w, (0, slot.Home home) ∷ m.1) = record {
                home = home;
                seat = refl;
                stands = stands;
                goes_on = record { begins = h.seens.begins id (sight_of m.0) sight_at; own = λ lane here. h.owned.own id (share_of m.0) share_at lane here };
                opened = h.seens.opened id (sight_of m.0) sight_at alive;
              } in
              (w, takes 0 (slot.Home home), there, ord, ((λ hit. subst (λ x. Took held faults did x m (w, (0, slot.Home home) ∷ m.1)) (sym told) took), (λ miss. absurd (miss ours))))

  -- what was done in a turn is posted
  pub posts : (slots id old new : ℕ) (m : Me (Slot S) View) (done : Told Turn) → m.0.turn ≡ true → done.value.lane ≡ m.0.lane
      → old ≡ length (entries_in m.0.seen) → new ≡ length (entries_in (m.0.seen ++ done.value ∷ []))
      → Allows (Orderly held faults did start) slots id m 0 (λ n. either (n == old) new n) (posted (step slots 0 old new (raw.some (slot.Done done))) m)
  posts slots id old new m done turns lane was is s h len at below =
      let t : Turn = done.value in
      let stand_at = at_image standing_of s.views id m.0 at in
      let sight_at = at_image sight_of s.views id m.0 at in
      let share_at = at_image share_of s.views id m.0 at in
      let turn = h.tickets.turn id (standing_of m.0) stand_at turns in
      let whole : m.0.seen ≡ h.turns = h.seens.whole id (sight_of m.0) sight_at turns in
      let now : List Turn = h.turns ++ t ∷ [] in
      let is_now : m.0.seen ++ t ∷ [] ≡ now = ap (λ l. l ++ t ∷ []) whole in
      let lanes : lanes_of m.0 ≡ m.0.lane ∷ m.0.joined = lanes_there m.0.spent m.0.lane m.0.joined turn.2 in
      let own : has t.lane (lanes_of m.0) ≡ true = subst (λ l. has t.lane l ≡ true) (sym lanes) (subst (λ n. has t.lane (n ∷ m.0.joined) ≡ true) lane (has_here t.lane m.0.joined)) in
      let only : (j : ℕ) (u : Share) → At (map share_of s.views) j u → has t.lane u.lanes ≡ true → j ≡ id = λ j u here has_it.
      let from = map_at share_of s.views j u here in
      h.claims.apart j (claim_of from.0) (at_image claim_of s.views j from.0 from.1) id (claim_of m.0) (at_image claim_of s.views id m.0 at) t.lane (ap (λ (x : Share). has t.lane x.lanes) from.2 ∙ has_it) own in
      let found : slice_index s.words 0 ≡ old = ap (λ ws. slice_index ws 0) h.words ∙ ap (λ l. length (entries_in l)) (sym whole) ∙ sym was in
      let w : View = in_turn m.0 (m.0.seen ++ t ∷ []) in
      let Posted : ℕ → Type 0 = λ n. (w : View) × (a : Act (Slot S)) × Valid s.homes m.1 a × Orderly held faults did start (stepped s 0 n id m.1 w a) × posted (step slots 0 old new (raw.some (slot.Done done))) m (slice_index s.words 0) (w, carried_after m.1 a) in
      let ord : Orderly held faults did start (stepped s 0 new id m.1 w keeps) = record {
        turns = now;
        drawn = h.drawn;
        served = h.served;
        words = ap (λ ws. slice_set ws 0 new) h.words ∙ ap (λ n. n ∷ h.drawn ∷ h.served ∷ []) (is ∙ ap (λ l. length (entries_in l)) is_now);
        slots = h.slots;
        value = λ other e. absurd (raw.some-ne-none other (sym (raw.some-injective _ _ (sym turn.1 ∙ e))));
        tickets = changed standing_of (Tickets h.drawn h.served s.homes) s.views id w
            (subst (λ b. Tickets h.drawn h.served s.homes (set (map standing_of s.views) id (record { ticket = m.0.ticket; turn = b; spent = m.0.spent }))) turns
            (subst (λ l. Tickets h.drawn h.served s.homes l) (sym (set_again (map standing_of s.views) id (standing_of m.0) stand_at)) h.tickets));
        seens = changed sight_of (Seens o now) s.views id w
            (seen_whole o h.turns (map sight_of s.views) h.seens id (sight_of m.0) (sight_of w) sight_at now (t ∷ [], refl) (one_turn_seen s h id m.0 at turn.0) turn.2 refl refl is_now (nothing_heard (m.0.seen ++ t ∷ []), nothing_heard (m.0.seen ++ t ∷ [])));
        owned = changed share_of (Owned now) s.views id w
            (subst (λ l. Owned now (set (map share_of s.views) id (record { lanes = lanes_of m.0; seen = l }))) (sym is_now) (owner_calls h.turns (map share_of s.views) h.owned id (share_of m.0) share_at t own only));
        claims = kept claim_of Claims s.views id m.0 w at refl h.claims;
      } in
      let posts_it : Posted new = (w, keeps, tt, ord, refl) in
      subst Posted (sym (exchanged (slice_index s.words 0) old new (λ k. k ≡ new) (λ hit. refl) (λ miss. absurd (miss found)))) posts_it

  -- the store is given back, and the next ticket served
  pub serves : (slots id : ℕ) (v : View) (home : Closed S) → v.turn ≡ true → Stands did start v.seen home
      → Allows (Orderly held faults did start) slots id (v, (0, slot.Home home) ∷ []) 2 (λ n. (n + 1) % 2 ^ 64) (served (step slots 2 1 0 raw.none) (v, (0, slot.Home home) ∷ []))
  serves slots id v home turns stands s h len at below =
      let c : List (ℕ × Slot S) = (0, slot.Home home) ∷ [] in
      let stand_at = at_image standing_of s.views id v at in
      let sight_at = at_image sight_of s.views id v at in
      let turn = h.tickets.turn id (standing_of v) stand_at turns in
      let whole : v.seen ≡ h.turns = h.seens.whole id (sight_of v) sight_at turns in
      let again : Stands did start h.turns home = subst (λ l. Stands did start l home) whole stands in
      let within = (h.tickets.between id (standing_of v) stand_at h.served turn.0).1 in
      let number : (h.served + 1) % 2 ^ 64 ≡ h.served + 1 = let f = h.tickets.few in omega arith in
      let w : View = with_ticket v None in
      let back : List (raw.Option (Slot S)) = set s.homes 0 (raw.some (slot.Home home)) in
      let here : At back 0 (raw.some (slot.Home home)) = set_here s.homes 0 (raw.some (slot.Home home)) (at_length s.homes 0 raw.none turn.1) in
      let Served : ℕ → Type 0 = λ n. (w : View) × (a : Act (Slot S)) × Valid s.homes c a × Orderly held faults did start (stepped s 2 ((n + 1) % 2 ^ 64) id c w a) × served (step slots 2 1 0 raw.none) (v, c) n (w, carried_after c a) in
      let ord : Orderly held faults did start (stepped s 2 ((h.served + 1) % 2 ^ 64) id c w gives) = record {
        turns = h.turns;
        drawn = h.drawn;
        served = h.served + 1;
        words = ap (λ ws. slice_set ws 2 ((h.served + 1) % 2 ^ 64)) h.words ∙ ap (λ n. length (entries_in h.turns) ∷ h.drawn ∷ n ∷ []) number;
        slots = length-set s.homes 0 (raw.some (slot.Home home)) ∙ h.slots;
        value = λ other e. subst (AtHome did start h.turns) (raw.some-injective _ _ (raw.some-injective _ _ (sym here ∙ e))) again;
        tickets = changed standing_of (Tickets h.drawn (h.served + 1) back) s.views id w
            (turn_ends h.drawn h.served s.homes (map standing_of s.views) h.tickets id (standing_of v) stand_at turns back (λ gone. raw.some-ne-none (slot.Home home) (raw.some-injective _ _ (sym here ∙ gone))));
        seens = changed sight_of (Seens o h.turns) s.views id w
            (seen_kept o h.turns (map sight_of s.views) h.seens id (sight_of v) (sight_of w) sight_at refl refl refl refl (h.seens.heard id (sight_of v) sight_at));
        owned = kept share_of (Owned h.turns) s.views id v w at refl h.owned;
        claims = kept claim_of Claims s.views id v w at refl h.claims;
      } in
      let done : Served h.served = (w, gives, tt, ord, refl) in
      subst Served (sym (ap (λ ws. slice_index ws 2) h.words)) done

  -- a lane that was not split off has no calls
  stranger : (s : State (Slot S) View) (h : Orderly held faults did start s) (id : ℕ) (v : View) → At s.views id v → v.first ≡ true → (lane : ℕ) → has lane (0 ∷ v.split_off) ≡ false → turns_by lane h.turns ≡ []
  stranger s h id v at first lane new =
      h.owned.strangers lane (λ j u e.
      let from = map_at share_of s.views j u e in
      ap (λ (x : Share). has lane x.lanes) (sym from.2) ∙ none_claims (map claim_of s.views) h.claims id (claim_of v) (at_image claim_of s.views id v at) first lane new j (claim_of from.0) (at_image claim_of s.views j from.0 from.1))

  -- a lane is named
  pub names : (slots id lane : ℕ) (m : Me (Slot S) View)
      → Allows (Orderly held faults did start) slots id m 0 (λ n. either (n == lane) lane n) (named (step slots 0 lane lane raw.none) m)
  names slots id lane m s h len at below =
      let w : View = naming m.0 lane in
      let n : ℕ = slice_index s.words 0 in
      let same : either (n == lane) lane n ≡ n = exchanged n lane lane (λ k. k ≡ n) (λ is. sym is) (λ other. refl) in
      let words : slice_set s.words 0 n ≡ s.words = ap (λ ws. slice_set ws 0 (slice_index ws 0)) h.words ∙ sym h.words in
      let ord : Orderly held faults did start (stepped s 0 (either (n == lane) lane n) id m.1 w keeps) = record {
        turns = h.turns;
        drawn = h.drawn;
        served = h.served;
        words = ap (λ k. slice_set s.words 0 k) same ∙ words ∙ h.words;
        slots = h.slots;
        value = h.value;
        tickets = kept standing_of (Tickets h.drawn h.served s.homes) s.views id m.0 w at refl h.tickets;
        seens = kept sight_of (Seens o h.turns) s.views id m.0 w at refl h.seens;
        owned = kept share_of (Owned h.turns) s.views id m.0 w at refl h.owned;
        claims = kept claim_of Claims s.views id m.0 w at refl h.claims;
      } in (
        w,
        keeps,
        tt,
        ord,
        (
          refl,
          λ first new. none_before lane m.0.seen h.turns (h.seens.begins id (sight_of m.0) (at_image sight_of s.views id m.0 at)) (stranger s h id m.0 at first lane new),
        ),
      )

  -- the named lane is split off
  pub splits : (id : ℕ) (v : View) → v.first ≡ true → v.spent ≡ false → has v.next (0 ∷ v.split_off) ≡ false → Splits (Orderly held faults did start) id v (left_of v) (right_of v)
  splits id v first alive new s h at =
      let l : View = left_of v in
      let r : View = right_of v in
      let sight_at = at_image sight_of s.views id v at in
      let begins = h.seens.begins id (sight_of v) sight_at in
      let none = stranger s h id v at first v.next new in
      record {
        turns = h.turns;
        drawn = h.drawn;
        served = h.served;
        words = h.words;
        slots = h.slots;
        value = h.value;
        tickets = subst (λ x. Tickets h.drawn h.served s.homes x) (sym (map-append standing_of (set s.views id l) (r ∷ [])))
            (kept standing_of (λ x. Tickets h.drawn h.served s.homes (x ++ standing_of r ∷ [])) s.views id v l at refl (idle_added h.drawn h.served s.homes (map standing_of s.views) h.tickets (standing_of r) refl refl));
        seens = subst (λ x. Seens o h.turns x) (sym (map-append sight_of (set s.views id l) (r ∷ [])))
            (kept sight_of (λ x. Seens o h.turns (x ++ sight_of r ∷ [])) s.views id v l at refl (seen_added o h.turns (map sight_of s.views) h.seens (sight_of r) refl (h.seens.opened id (sight_of v) sight_at alive) begins (nothing_heard v.seen, nothing_heard v.seen)));
        owned = subst (λ x. Owned h.turns x) (sym (map-append share_of (set s.views id l) (r ∷ [])))
            (kept share_of (λ x. Owned h.turns (x ++ share_of r ∷ [])) s.views id v l at refl
            (owner_added h.turns (map share_of s.views) h.owned (share_of r) (λ lane is. let same : v.next ≡ lane = has_one lane v.next is in subst (λ n. turns_by n h.turns ≡ turns_by n v.seen) same (none ∙ sym (none_before v.next v.seen h.turns begins none)))));
        claims = subst Claims (sym (map-append claim_of (set s.views id l) (r ∷ [])))
            (changed claim_of (λ x. Claims (x ++ claim_of r ∷ [])) s.views id l (claim_split (map claim_of s.views) h.claims id (claim_of v) (at_image claim_of s.views id v at) first v.next new));
      }

  -- one pass takes in another
  pub joins : (id : ℕ) (v : View) (other : ℕ) (x : View) → v.ticket ≡ None → v.turn ≡ false → v.spent ≡ false → x.ticket ≡ None → x.turn ≡ false → Joins (Orderly held faults did start) id v other x (joined_view v x) spent_view
  joins id v other x idle waits alive idle' waits' s h at apart there =
      let w : View = joined_view v x in
      let at' : At s.views other x = ⊎_elim (λ (t : (other ≡ id) × (w ≡ x)). absurd (apart t.0)) (λ (t : (other ≢ id) × (get_elem? s.views other ≡ raw.some x)). t.1) (at_set s.views id other w x there) in
      let mine = at_image sight_of s.views id v at in
      let theirs = at_image sight_of s.views other x at' in
      let a = h.seens.begins id (sight_of v) mine in
      let b = h.seens.begins other (sight_of x) theirs in
      let on = longer_goes_on v.seen x.seen h.turns a b in
      let whole : GoesInto (longer v.seen x.seen) h.turns = longer_begins v.seen x.seen h.turns a b in
      let own_v : (lane : ℕ) → has lane (lanes_of v) ≡ true → turns_by lane h.turns ≡ turns_by lane v.seen = h.owned.own id (share_of v) (at_image share_of s.views id v at) in
      let own_x : (lane : ℕ) → has lane (lanes_of x) ≡ true → turns_by lane h.turns ≡ turns_by lane x.seen = h.owned.own other (share_of x) (at_image share_of s.views other x at') in
      let left : Hears v.seen (lanes_of v) (longer v.seen x.seen) = record { begins = on.0; own = λ lane is. between_same lane v.seen (longer v.seen x.seen) h.turns on.0 whole (own_v lane is) } in
      let right : Hears x.seen (lanes_of x) (longer v.seen x.seen) = record { begins = on.1; own = λ lane is. between_same lane x.seen (longer v.seen x.seen) h.turns on.1 whole (own_x lane is) } in
      let sum : (lane : ℕ) → has lane (lanes_of w) ≡ (has lane (lanes_of v) || has lane (lanes_of x)) = λ lane.
      ap (λ l. has lane l) (lanes_there v.spent v.lane (v.joined ++ lanes_of x) alive) ∙ has_append lane (v.lane ∷ v.joined) (lanes_of x) ∙ ap (λ l. has lane l || has lane (lanes_of x)) (sym (lanes_there v.spent v.lane v.joined alive)) in
      let own_w : (lane : ℕ) → has lane (lanes_of w) ≡ true → turns_by lane h.turns ≡ turns_by lane (longer v.seen x.seen) = λ lane is.
      ⊎_elim (λ (t : has lane (lanes_of v) ≡ true). own_v lane t ∙ sym (left.own lane t)) (λ (t : has lane (lanes_of x) ≡ true). own_x lane t ∙ sym (right.own lane t)) (or_split (has lane (lanes_of v)) (has lane (lanes_of x)) (sym (sum lane) ∙ is)) in
      record {
        turns = h.turns;
        drawn = h.drawn;
        served = h.served;
        words = h.words;
        slots = h.slots;
        value = h.value;
        tickets = both_changed standing_of (Tickets h.drawn h.served s.homes) s.views id w other spent_view
            (idle_set h.drawn h.served s.homes (set (map standing_of s.views) id (standing_of w))
            (subst (λ l. Tickets h.drawn h.served s.homes l) (sym (set_again (map standing_of s.views) id (standing_of v) (at_image standing_of s.views id v at))) h.tickets)
            other (standing_of x) (standing_of spent_view) (set_else (map standing_of s.views) id other (standing_of w) apart ∙ at_image standing_of s.views other x at') idle' waits' refl refl);
        seens = both_changed sight_of (Seens o h.turns) s.views id w other spent_view
            (seen_joined o h.turns (map sight_of s.views) h.seens id (sight_of v) (sight_of w) mine other (sight_of x) (sight_of spent_view) theirs apart
            alive waits refl refl whole on.0 on.1 (left, right) refl refl refl (nothing_heard [], nothing_heard []));
        owned = both_changed share_of (Owned h.turns) s.views id w other spent_view
            (owner_joins h.turns (map share_of s.views) h.owned id (share_of v) (share_of w) (at_image share_of s.views id v at) other (share_of x) (at_image share_of s.views other x at') apart sum own_w);
        claims = both_changed claim_of Claims s.views id w other spent_view
            (claim_joins (map claim_of s.views) h.claims id (claim_of v) (at_image claim_of s.views id v at) other (claim_of x) (at_image claim_of s.views other x at') apart (lanes_of w) sum);
      }
    where
      both_changed : {B : Type 0} (f : View → B) (P : List B → Type 0) (l : List View) (i : ℕ) (w : View) (k : ℕ) (y : View) → P (set (set (map f l) i (f w)) k (f y)) → P (map f (set (set l i w) k y))
      both_changed f P l i w k y p = changed f P (set l i w) k y (changed f (λ r. P (set r k (f y))) l i w p)

  -- what was seen after a join is told
  pub hears : (slots id : ℕ) (m : Me (Slot S) View) → Allows (Orderly held faults did start) slots id m 0 (λ n. n) (heard (step slots 0 0 0 raw.none) m)
  hears slots id m s h len at below = (
    m.0,
    keeps,
    tt,
    stays s h id m.0 m.1 0 (slice_index s.words 0) at (ap (λ ws. slice_set ws 0 (slice_index ws 0)) h.words ∙ sym h.words),
    (refl, (h.seens.heard id (sight_of m.0) (at_image sight_of s.views id m.0 at)).0, (h.seens.heard id (sight_of m.0) (at_image sight_of s.views id m.0 at)).1),
  )

  -- the table at the end: the store is at home, and replays what the first pass has seen
  pub closes : (id : ℕ) (v : View) (ws : List ℕ) (xs : List (Slot S)) → v.first ≡ true → v.turn ≡ false → v.spent ≡ false
      → ((lane : ℕ) → has lane (0 ∷ v.split_off) ≡ true → has lane (lanes_of v) ≡ true)
      → Final (Seen (Orderly held faults did start) id v) ws xs
      → (home : Closed S) × At xs 0 (slot.Home home) × Stands did start v.seen home × (v.opening ≡ o) × ((lane : ℕ) → has lane (lanes_of v) ≡ false → turns_by lane v.seen ≡ [])
  closes id v ws xs first waits alive joined (s, (h, at), same, len, filled) =
      let sight_at = at_image sight_of s.views id v at in
      let opened : v.opening ≡ o = h.seens.opened id (sight_of v) sight_at alive in
      let mine : (j : ℕ) (u : View) → At s.views j u → u.spent ≡ false → j ≡ id = λ j u e there.
      let lanes : has u.lane (lanes_of u) ≡ true = subst (λ l. has u.lane l ≡ true) (sym (lanes_there u.spent u.lane u.joined there)) (has_here u.lane u.joined) in
      h.claims.apart j (claim_of u) (at_image claim_of s.views j u e) id (claim_of v) (at_image claim_of s.views id v at) u.lane lanes
      (joined u.lane (h.claims.listed id (claim_of v) (at_image claim_of s.views id v at) j (claim_of u) (at_image claim_of s.views j u e) first u.lane lanes)) in
      let whole : v.seen ≡ h.turns = last mine h.seens.longest in
      let none : (lane : ℕ) → has lane (lanes_of v) ≡ false → turns_by lane h.turns ≡ [] = λ lane not_ours. h.owned.strangers lane (λ j u e.
      let from = map_at share_of s.views j u e in
      ap (λ (x : Share). has lane x.lanes) (sym from.2) ∙ false_of (has lane (lanes_of from.0)) (λ is. both_of (has lane (lanes_of v)) (joined lane (h.claims.listed id (claim_of v) (at_image claim_of s.views id v at) j (claim_of from.0) (at_image claim_of s.views j from.0 from.1) first lane is)) not_ours)) in
      let never_out : At s.homes 0 raw.none → ⊥ = λ gone.
      let out = h.tickets.out gone in
      let from = map_at standing_of s.views out.0 out.1 out.2 in
      let turns : from.0.turn ≡ true = ap (λ (x : Standing). x.turn) from.2 ∙ out.3 in
      let there = (h.tickets.turn out.0 (standing_of from.0) (at_image standing_of s.views out.0 from.0 from.1) turns).2 in
      let is = mine out.0 from.0 from.1 there in
      off (sym waits ∙ ap (λ (u : View). u.turn) (same_item s.views id out.0 v from.0 is at from.1) ∙ turns) in
      home_of s.homes h.slots never_out
      (λ y e. got y (filled 0 y e) (h.value y e) opened whole none)
    where
      home_of : {R : Type 0} (hs : List (raw.Option (Slot S))) → length hs ≡ 1 → (At hs 0 raw.none → ⊥) → ((y : Slot S) → At hs 0 (raw.some y) → R) → R
      home_of [] one never on = absurd (omega arith)
      home_of (raw.none ∷ hs) one never on = absurd (never refl)
      home_of (raw.some y ∷ hs) one never on = on y refl

      last : ((j : ℕ) (u : View) → At s.views j u → u.spent ≡ false → j ≡ id) → (j : ℕ) × (u : Sight) × At (map sight_of s.views) j u × ((u.spent ≡ false) × (u.seen ≡ h.turns)) → v.seen ≡ h.turns
      last mine x =
          let from = map_at sight_of s.views x.0 x.1 x.2 in
          let there : from.0.spent ≡ false = ap (λ (u : Sight). u.spent) from.2 ∙ x.3.0 in
          let is = same_item s.views id x.0 v from.0 (mine x.0 from.0 from.1 there) at from.1 in
          ap (λ (u : View). u.seen) is ∙ ap (λ (u : Sight). u.seen) from.2 ∙ x.3.1

      got : (y : Slot S) → At xs 0 y → AtHome did start h.turns y → v.opening ≡ o → v.seen ≡ h.turns → ((lane : ℕ) → has lane (lanes_of v) ≡ false → turns_by lane h.turns ≡ [])
          → (home : Closed S) × At xs 0 (slot.Home home) × Stands did start v.seen home × (v.opening ≡ o) × ((lane : ℕ) → has lane (lanes_of v) ≡ false → turns_by lane v.seen ≡ [])
      got slot.Out e home opened whole none = absurd home
      got (slot.Opened x) e home opened whole none = absurd home
      got (slot.Done x) e home opened whole none = absurd home
      got (slot.Home home) e stands opened whole none = (
        home,
        e,
        subst (λ l. Stands did start l home) (sym whole) stands,
        opened,
        λ lane is. ap (turns_by lane) whole ∙ none lane is,
      )
