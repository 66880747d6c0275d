use Rattle.std.proofs.Common.{◌≡◌, ◌∙◌, sym, ap, subst}
use Rattle.ts_turnstile.specs.declared.told.Told.{Told}
use Rattle.ts_store.specs.Journals.{calls_by}
use Rattle.ts_turnstile.specs.declared.closed.Closed.{Closed}
use Rattle.ts_turnstile.specs.declared.slot.Slot.TheVariants as slot
use Rattle.ts_turnstile.specs.Turns.{entries_in}
use Rattle.ts_turnstile.specs.Chains.{TurnDid, LeadTo}
use Rattle.ts_turnstile.specs.Rule.{Replays}
use Rattle.ts_turnstile.specs.Passes.{pass_view}
use Rattle.ts_turnstile.proofs.Growth.{calls_by-entries}
use Rattle.ts_turnstile.proofs.Seats.{same_view, closed}
use Rattle.ts_turnstile.proofs.Replayed.{replays}
use Rattle.ts_turnstile.proofs.turnstile.Turnstile.close.Goals as goal

pub unreachable-requires : goal.unreachable-requires
unreachable-requires g c =
    let same = sym (same_view c.args.pass.badge.views c.into_seat.result.me.0 c.into_seat.ensures.2) in
    let all = closed g.S.Store.held g.S.Store.faults (TurnDid g.S.Store.held g.S.Store.last g.S.Store.faults g.S.Store.asked g.S.Store.notes) c.args.self.table.shared.key.value c.into_seat.result.id c.into_seat.result.me.0 (pass_view c.args.pass) _ _ c.take-slot.result same c.requires.first c.args.pass.idle.1 c.args.pass.idle.2 c.requires.joined c.close_with-closed.ensures.values.2 c.take-slot.ensures.value in
    absurd (c.in_default.not-Home all.0 all.1)

pub returns-clause-leads : goal.returns-clause-leads
returns-clause-leads g c =
    let same = sym (same_view c.args.pass.badge.views c.into_seat.result.me.0 c.into_seat.ensures.2) in
    let all = closed g.S.Store.held g.S.Store.faults (TurnDid g.S.Store.held g.S.Store.last g.S.Store.faults g.S.Store.asked g.S.Store.notes) c.args.self.table.shared.key.value c.into_seat.result.id c.into_seat.result.me.0 (pass_view c.args.pass) _ _ c.take-slot.result same c.requires.first c.args.pass.idle.1 c.args.pass.idle.2 c.requires.joined c.close_with-closed.ensures.values.2 c.take-slot.ensures.value in
    let one : all.0 ≡ c.in-Home.home = let both : slot.Home all.0 ≡ slot.Home c.in-Home.home = sym all.1 ∙ c.in-Home.is in cc in
    subst (λ (x : g.row.S.Denot × g.row.S.Denot). LeadTo (TurnDid g.S.Store.held g.S.Store.last g.S.Store.faults g.S.Store.asked g.S.Store.notes) x.0 (pass_view c.args.pass).seen x.1)
    (λ k. (ap (λ (s : Told g.row.S.Denot). s.value) (sym c.args.self.same) k, ap (λ (h : Closed g.row.S.Denot). h.store) one k)) all.2.leads

pub returns-clause-replays : goal.returns-clause-replays
returns-clause-replays g c =
    let same = sym (same_view c.args.pass.badge.views c.into_seat.result.me.0 c.into_seat.ensures.2) in
    let all = closed g.S.Store.held g.S.Store.faults (TurnDid g.S.Store.held g.S.Store.last g.S.Store.faults g.S.Store.asked g.S.Store.notes) c.args.self.table.shared.key.value c.into_seat.result.id c.into_seat.result.me.0 (pass_view c.args.pass) _ _ c.take-slot.result same c.requires.first c.args.pass.idle.1 c.args.pass.idle.2 c.requires.joined c.close_with-closed.ensures.values.2 c.take-slot.ensures.value in
    let one : all.0 ≡ c.in-Home.home = let both : slot.Home all.0 ≡ slot.Home c.in-Home.home = sym all.1 ∙ c.in-Home.is in cc in
    subst (λ (h : Closed g.row.S.Denot). Replays g.S.Store.held g.S.Store.faults (pass_view c.args.pass).opening (entries_in (pass_view c.args.pass).seen) h) one
    (replays g.S.Store.held g.S.Store.last g.S.Store.faults g.S.Store.asked g.S.Store.notes c.args.self.table.shared.key.value (pass_view c.args.pass) all.0 all.2 all.3)

pub returns-clause-others : goal.returns-clause-others
returns-clause-others g c =
    let same = sym (same_view c.args.pass.badge.views c.into_seat.result.me.0 c.into_seat.ensures.2) in
    let all = closed g.S.Store.held g.S.Store.faults (TurnDid g.S.Store.held g.S.Store.last g.S.Store.faults g.S.Store.asked g.S.Store.notes) c.args.self.table.shared.key.value c.into_seat.result.id c.into_seat.result.me.0 (pass_view c.args.pass) _ _ c.take-slot.result same c.requires.first c.args.pass.idle.1 c.args.pass.idle.2 c.requires.joined c.close_with-closed.ensures.values.2 c.take-slot.ensures.value in
    all.4

pub returns-clause-strangers : goal.returns-clause-strangers
returns-clause-strangers g c = λ lane is.
    ap (calls_by lane) (returns-clause-replays g c).enters ∙ calls_by-entries lane (pass_view c.args.pass).seen ∙ ap entries_in (returns-clause-others g c lane is)
