use Rattle.std.proofs.Common.{◌≡◌, false, ◌∙◌, sym, ap}
use Rattle.atomic_table.specs.declared.badge.Badge.{Badge}
use Rattle.atomic_table.specs.Table.{Me}
use Rattle.ts_turnstile.specs.declared.slot.Slot.{Slot}
use Rattle.ts_turnstile.specs.declared.view.View.{View}
use Rattle.ts_turnstile.specs.Turns.{entries_in}
use Rattle.ts_turnstile.specs.Places.{place_in}
use Rattle.ts_turnstile.specs.Views.{view_in}
use Rattle.ts_turnstile.proofs.Seats.{pass_kept, same_view, place_heard}
use Rattle.ts_turnstile.proofs.turnstile.Turnstile.join.Goals as goal

pub invariant_of-pass : goal.invariant_of-pass
invariant_of-pass g c =
    let old : View = c.into_seat-seat.result.me.0 in
    let new : View = c.join_at.new.seat.me.0 in
    let joined = c.join_at.ensures.joined in
    let was : old ≡ view_in c.args.pass.now.badge.views = sym (same_view c.replace-badge.result.views old c.into_seat-seat.ensures.2) ∙ ap (λ (b : Badge View). view_in b.views) c.replace-badge.ensures.value in
    let alive : old.spent ≡ false = ap (λ (u : View). u.spent) was ∙ c.args.pass.now.idle.2 in
    let own : old.lane ≡ c.args.pass.now.lane = ap (λ (u : View). u.lane) was ∙ c.args.pass.now.idle.3 in
    let place : c.args.pass.now.place ≡ place_in c.args.pass.now.lane (entries_in new.seen) =
    c.args.pass.now.at ∙ sym (ap (λ (u : View). place_in c.args.pass.now.lane (entries_in u.seen)) was) ∙ sym (place_heard c.args.pass.now.lane old new.seen alive own c.join_at.ensures.seen) in
    let p = pass_kept c.into_badge.result.views new c.args.pass.now.lane c.args.pass.now.place c.into_badge.ensures.2
    (ap (λ (m : Me (Slot g.row.S.Denot) View). m.0.ticket) joined ∙ ap (λ (u : View). u.ticket) was ∙ c.args.pass.now.idle.0)
    (ap (λ (m : Me (Slot g.row.S.Denot) View). m.0.turn) joined ∙ ap (λ (u : View). u.turn) was ∙ c.args.pass.now.idle.1)
    (ap (λ (m : Me (Slot g.row.S.Denot) View). m.0.spent) joined ∙ alive)
    (ap (λ (m : Me (Slot g.row.S.Denot) View). m.0.lane) joined ∙ own)
    place in
    record { one = p.0; idle = p.1; at = p.2 }
