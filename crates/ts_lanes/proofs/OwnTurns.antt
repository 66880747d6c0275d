-- The turns of a command, and of the commands of a lane.
use Rattle.std.proofs.Common.{◌≡◌, inl, ℕ, ◌+◌, true, false, List, [], ◌∷◌, ◌++◌, length, map, All, refl, sym, ap, ◌∙◌, subst, arith, append_assoc, append-nil}
use Rattle.std.proofs.lemmas.List.Elements.{All-nil, All-cons}
use Rattle.ts_model.specs.declared.answers.Driven.{Driven}
use Rattle.ts_model.specs.declared.answers.Outcome.{Outcome}
use Rattle.ts_model.specs.States.{Exchange}
use Rattle.ts_base.specs.declared.heads.Stop.{Stop}
use Rattle.ts_model.specs.Stops.{Uncut}
use Rattle.ts_actor.specs.Traces.{Trace}
use Rattle.ts_actor.specs.Drives.{MadeInTurn, AreAsked, EndsAs, Drove}
use Rattle.ts_turnstile.specs.declared.turn.Turn.{Turn}
use Rattle.ts_turnstile.specs.declared.view.View.{View}
use Rattle.ts_turnstile.specs.Lanes.{has}
use Rattle.ts_turnstile.specs.Turns.{turn, turns_by}
use Rattle.ts_turnstile.specs.Views.{lanes_of, lanes_if}
use Rattle.ts_turnstile.specs.Rule.{claim_of}
use Rattle.ts_turnstile.proofs.Growth.{turns_by-same}
use Rattle.ts_turnstile.proofs.Truths.{has_here}
use Rattle.ts_lanes.specs.Commands.{CalledShort, Acted, CameOut, exchange_in, IsTurnOf, DidCommand, Did}

-- the turns that a pass had for a command: those of its lane after what it had seen before
pub record Had (lane number : ℕ) (v : View) (trace : List Exchange) (w : View) : Type 0 where
  pub own : List Turn
  pub adds : turns_by lane w.seen ≡ turns_by lane v.seen ++ own
  pub of_it : All (IsTurnOf lane number) own
  pub calls : map exchange_in own ≡ trace
  pub same : claim_of w ≡ claim_of v
  pub lane_stays : w.lane ≡ lane

-- the lane of a pass is one of its own
own_lane : (lane : ℕ) (v : View) → v.spent ≡ false → v.lane ≡ lane → has lane (lanes_of v) ≡ true
own_lane lane v alive own =
    let lanes : lanes_of v ≡ v.lane ∷ v.joined = ap (λ b. lanes_if b v.lane v.joined) alive in
    subst (λ l. has lane l ≡ true) (sym lanes) (subst (λ n. has lane (n ∷ v.joined) ≡ true) (sym own) (has_here lane v.joined))

-- calls in turn are turns of the lane
pub had : (lane number : ℕ) (v : View) (trace : List Exchange) (w : View) → v.spent ≡ false → v.lane ≡ lane → MadeInTurn (CalledShort number) v trace w → Had lane number v trace w
had lane number v [] w alive own same =
    record { own = []; adds = ap (λ (u : View). turns_by lane u.seen) same ∙ sym (append-nil (turns_by lane v.seen)); of_it = All-nil (IsTurnOf lane number); calls = refl; same = ap claim_of same; lane_stays = ap (λ (u : View). u.lane) same ∙ own }
had lane number v (x ∷ trace) w alive own (u, (called, short), rest) =
    let t : Turn = turn v.lane number x.call called.did x.reply in
    let stays : u.spent ≡ false = ap (λ (k : View). k.spent) called.same ∙ alive in
    let on = had lane number u trace w stays (ap (λ (k : View). k.lane) called.same ∙ own) rest in
    let first : turns_by lane u.seen ≡ turns_by lane v.seen ++ t ∷ [] =
    ap (turns_by lane) called.turns ∙ turns_by-same lane called.before t own ∙ ap (λ l. l ++ t ∷ []) (called.goes_on.own lane (own_lane lane v alive own)) in
    record {
      own = t ∷ on.own;
      adds = on.adds ∙ ap (λ l. l ++ on.own) first ∙ append_assoc (turns_by lane v.seen) (t ∷ []) on.own;
      of_it = All-cons (IsTurnOf lane number) t on.own (own, refl, short) on.of_it;
      calls = ap (λ l. x ∷ l) on.calls;
      same = on.same ∙ ap claim_of called.same;
      lane_stays = on.lane_stays;
    }

-- how a command came out by its turns
pub did_command : (came : ℕ → ℕ → List Exchange → Driven Outcome → Type 0) (lane number : ℕ) (v : View) (trace : List Exchange) (w : View) (result : Driven Outcome) → Had lane number v trace w → came lane number trace result
    → DidCommand came lane number (turns_by lane v.seen) (turns_by lane w.seen) result
did_command came lane number v trace w result h came_out = record { own = h.own; adds = h.adds; of_it = h.of_it; came_out = subst (λ l. came lane number l result) (sym h.calls) came_out }

-- one more command of a lane
pub did_next : (came : ℕ → ℕ → List Exchange → Driven Outcome → Type 0) (lane number : ℕ) (results : List (Driven Outcome)) (turns longer : List Turn) (result : Driven Outcome)
    → Did came lane number results turns → DidCommand came lane (length results + number) turns longer result → Did came lane number (results ++ result ∷ []) longer
did_next came lane number [] turns longer result none next =
    let place : 0 + number ≡ number = omega arith in
    (next.own, [], next.adds ∙ ap (λ l. l ++ next.own) none ∙ sym (append-nil next.own), subst (λ n. All (IsTurnOf lane n) next.own) place next.of_it, subst (λ n. came lane n (map exchange_in next.own) result) place next.came_out, refl)
did_next came lane number (first ∷ results) turns longer result (own, rest, parts, of_it, came_out, did) next =
    let place : length (first ∷ results) + number ≡ length results + (1 + number) = omega arith in
    let more : List Turn = rest ++ next.own in
    let split : longer ≡ own ++ more = next.adds ∙ ap (λ l. l ++ next.own) parts ∙ append_assoc own rest next.own in
    (own, more, split, of_it, came_out, did_next came lane (1 + number) results rest more result did (record { own = next.own; adds = refl; of_it = subst (λ n. All (IsTurnOf lane n) next.own) place next.of_it; came_out = subst (λ n. came lane n (map exchange_in next.own) result) place next.came_out }))

-- a machine that was driven in turn did its command
module _ {A T : Type 0} (stops : ℕ → ℕ → Stop) (offers : ℕ → ℕ → T → Type 0) (task : A → T) (follows : A → Trace → Type 0) (ends : T → List Exchange → Outcome → Type 0) where
  pub driven_command : (lane number : ℕ) (v u w : View) (first last : A) (n : ℕ) (stop : Stop) (result : Driven Outcome) (k : T) → v.spent ≡ false → v.lane ≡ lane → u ≡ v → n ≡ number → stop ≡ stops lane number
      → task first ≡ k → task last ≡ task first → offers lane number k → Drove task follows ends (CalledShort n) first last u w stop result
      → (trace : List Exchange) × Had lane number v trace w × DidCommand (CameOut stops offers task follows ends) lane number (turns_by lane v.seen) (turns_by lane w.seen) result
  driven_command lane number v u w first last n stop result k alive own begins number_is stop_is chosen stays offered drove =
      let calls : MadeInTurn (CalledShort number) v drove.trace w = subst (λ x. MadeInTurn (CalledShort number) x drove.trace w) begins (subst (λ x. MadeInTurn (CalledShort x) u drove.trace w) number_is drove.calls) in
      let h = had lane number v drove.trace w alive own calls in
      let acted : Acted task follows ends (stops lane number) k drove.trace result = record {
        last = last;
        same = stays ∙ chosen;
        asked = subst (λ x. AreAsked task follows x [] drove.trace) chosen drove.asked;
        uncut = subst (λ x. Uncut x 0 drove.trace) stop_is drove.uncut;
        end = subst (λ x. EndsAs (ends k) (follows last) x drove.trace result) stop_is (subst (λ x. EndsAs (ends x) (follows last) stop drove.trace result) chosen drove.end);
      } in
      (drove.trace, h, did_command (CameOut stops offers task follows ends) lane number v drove.trace w result h (k, offered, inl acted))
