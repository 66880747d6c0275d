-- A turn from its ticket to the next one: what is put back is what it took, with one turn more.
use Rattle.std.proofs.Common.{◌≡◌, None, Some, cond, [], ◌∷◌, ◌++◌, length, ◌∙◌, refl, sym, ap, subst}
use Rattle.atomic_table.specs.Table.{Me}
use Rattle.ts_store.specs.Calls.{is_no_memory}
use Rattle.ts_turnstile.specs.declared.closed.Closed.{Closed}
use Rattle.ts_turnstile.specs.declared.slot.Slot.{Slot}
use Rattle.ts_turnstile.specs.declared.turn.Turn.{Turn}
use Rattle.ts_turnstile.specs.declared.view.View.{View}
use Rattle.ts_turnstile.specs.Lanes.{Hears}
use Rattle.ts_turnstile.specs.Turns.{turn, entries_in}
use Rattle.ts_turnstile.specs.Chains.{TurnDid}
use Rattle.ts_turnstile.specs.Places.{place_in, place_after}
use Rattle.ts_turnstile.specs.Rule.{Stands}
use Rattle.ts_turnstile.specs.Views.{lanes_of, with_ticket, in_turn, saw}
use Rattle.ts_turnstile.proofs.Growth.{entries_in-append}
use Rattle.ts_turnstile.proofs.Seats.{placed, place_heard}
use Rattle.ts_turnstile.proofs.Replayed.{lead_on, called, back_again}
use Rattle.ts_turnstile.proofs.turnstile.Turnstile.call_at.Goals as goal

pub enter-requires-clause-grows : goal.enter-requires-clause-grows
enter-requires-clause-grows g c κs within =
    c.make-reply.ensures.enters ∙ ap (λ l. l ++ entries_in (c.make-reply.result.1.value ∷ [])) c.take-home.ensures.stands.enters
    ∙ sym (entries_in-append c.take-home.new.seat.me.0.seen (c.make-reply.result.1.value ∷ []))

pub serve-requires-clause-full : goal.serve-requires-clause-full
serve-requires-clause-full g c κs within =
    let did = TurnDid g.S.Store.held g.S.Store.last g.S.Store.faults g.S.Store.asked g.S.Store.notes in
    let home : Closed g.row.S.Denot = record { store = c.make-reply.new.store; journal = c.make-reply.new.journal } in
    let stands : Stands did c.args.self.now.opened.value (c.take-home.new.seat.me.0.seen ++ c.make-reply.result.1.value ∷ []) home = record {
      enters = c.make-reply.ensures.enters ∙ ap (λ l. l ++ entries_in (c.make-reply.result.1.value ∷ [])) c.take-home.ensures.stands.enters ∙ sym (entries_in-append c.take-home.new.seat.me.0.seen (c.make-reply.result.1.value ∷ []));
      leads = lead_on did c.args.self.now.opened.value c.take-home.result.store c.make-reply.new.store c.take-home.new.seat.me.0.seen c.make-reply.result.1.value c.take-home.ensures.stands.leads c.make-reply.ensures.did;
    } in
    (home, ap (λ (m : Me (Slot g.row.S.Denot) View). m.1) c.enter.ensures.posted, subst (λ l. Stands did c.args.self.now.opened.value l home) (sym (ap (λ (m : Me (Slot g.row.S.Denot) View). m.0.seen) c.enter.ensures.posted)) stands)

pub returns-clause-called : goal.returns-clause-called
returns-clause-called g c =
    let did = TurnDid g.S.Store.held g.S.Store.last g.S.Store.faults g.S.Store.asked g.S.Store.notes in
    let v : View = c.args.seat.now.me.0 in
    let before = c.take-home.new.seat.me.0.seen in
    let drew = c.draw-ticket.ensures.drew in
    let longer = before ++ c.make-reply.result.1.value ∷ [] in
    let view : c.serve.new.seat.me.0 ≡ saw v (before ++ turn c.args.lane c.args.number c.args.call c.make-reply.ensures.turn.0 c.make-reply.result.0 ∷ []) =
    ap (λ (m : Me (Slot g.row.S.Denot) View). m.0) c.serve.ensures.served
    ∙ ap (λ (m : Me (Slot g.row.S.Denot) View). with_ticket m.0 None) c.enter.ensures.posted
    ∙ ap (λ (m : Me (Slot g.row.S.Denot) View). with_ticket (in_turn m.0 longer) None) c.take-home.ensures.took
    ∙ ap (λ (m : Me (Slot g.row.S.Denot) View). with_ticket (in_turn (in_turn m.0 before) longer) None) drew
    ∙ back_again v longer c.requires.rests.0 c.requires.rests.1
    ∙ ap (λ (t : Turn). saw v (before ++ t ∷ [])) c.make-reply.ensures.turn.1 in
    called g.S.Store.held g.S.Store.last g.S.Store.faults g.S.Store.asked g.S.Store.notes c.args.self.now.opened.value c.take-home.result.store c.make-reply.new.store v c.serve.new.seat.me.0 c.args.lane c.args.number before c.args.call c.make-reply.ensures.turn.0 c.make-reply.result.0
    c.requires.lane view
    (ap (λ (m : Me (Slot g.row.S.Denot) View). m.0.opening) (sym drew) ∙ c.take-home.ensures.opened)
    (subst (λ (u : View). Hears u.seen (lanes_of u) before) (ap (λ (m : Me (Slot g.row.S.Denot) View). m.0) drew) c.take-home.ensures.goes_on)
    c.take-home.ensures.stands.leads
    (subst (λ (t : Turn). did c.take-home.result.store t c.make-reply.new.store) c.make-reply.ensures.turn.1 c.make-reply.ensures.did)

pub returns-clause-placed : goal.returns-clause-placed
returns-clause-placed g c =
    let v : View = c.args.seat.now.me.0 in
    let before = c.take-home.new.seat.me.0.seen in
    let seen : c.serve.new.seat.me.0.seen ≡ before ++ turn c.args.lane c.args.number c.args.call c.make-reply.ensures.turn.0 c.make-reply.result.0 ∷ [] =
    ap (λ (m : Me (Slot g.row.S.Denot) View). m.0.seen) c.serve.ensures.served ∙ ap (λ (m : Me (Slot g.row.S.Denot) View). m.0.seen) c.enter.ensures.posted ∙ ap (λ (t : Turn). before ++ t ∷ []) c.make-reply.ensures.turn.1 in
    let heard : place_in c.args.lane (entries_in before) ≡ place_in c.args.lane (entries_in v.seen) =
    place_heard c.args.lane v before c.requires.rests.2 c.requires.lane (subst (λ (u : View). Hears u.seen (lanes_of u) before) (ap (λ (m : Me (Slot g.row.S.Denot) View). m.0) c.draw-ticket.ensures.drew) c.take-home.ensures.goes_on) in
    let missed : c.is_no_memory.result ≡ is_no_memory c.make-reply.result.0 = c.is_no_memory.ensures in
    let place : c.len-place.result ≡ length (entries_in before) = c.len-place.ensures ∙ ap length c.take-home.ensures.stands.enters in
    ap (λ l. place_in c.args.lane (entries_in l)) seen
    ∙ placed (is_no_memory c.make-reply.result.0) c.args.lane c.args.number c.args.call c.make-reply.ensures.turn.0 c.make-reply.result.0 before refl
    ∙ ap (λ p. place_after (cond (is_no_memory c.make-reply.result.0) None (Some (length (entries_in before)))) p) heard
    ∙ ap (λ p. place_after p (place_in c.args.lane (entries_in v.seen))) (ap (λ n. cond (is_no_memory c.make-reply.result.0) None (Some n)) (sym place) ∙ ap (λ b. cond b None (Some c.len-place.result)) (sym missed) ∙ sym c.place_unless-place.ensures)
