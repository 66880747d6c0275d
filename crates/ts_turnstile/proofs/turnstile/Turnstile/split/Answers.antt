use Rattle.std.proofs.Common.{None, [], ◌∷◌, ◌∙◌, sym, ap, refl}
use Rattle.atomic_table.specs.Table.{Me}
use Rattle.ts_turnstile.specs.declared.slot.Slot.{Slot}
use Rattle.ts_turnstile.specs.declared.view.View.{View}
use Rattle.ts_turnstile.specs.Turns.{entries_in}
use Rattle.ts_turnstile.specs.Views.{naming, right_of}
use Rattle.ts_turnstile.proofs.Growth.{calls_by-entries, no_place}
use Rattle.ts_turnstile.proofs.Seats.{pass_kept}
use Rattle.ts_turnstile.proofs.turnstile.Turnstile.split.Goals as goal

pub invariant_of-result : goal.invariant_of-result
invariant_of-result g c =
    let old : View = c.into_seat-seat.result.me.0 in
    let p = pass_kept c.into_badge-2.result.views (right_of (naming old c.args.lane)) c.args.lane None (c.into_badge-2.ensures.2 ∙ ap (λ (m : Me (Slot g.row.S.Denot) View). m.0 ∷ []) c.split_at-other.ensures.given) refl refl refl refl (sym (no_place c.args.lane (entries_in old.seen) (calls_by-entries c.args.lane old.seen ∙ ap entries_in c.split_at-other.ensures.none))) in
    record { one = p.0; idle = p.1; at = p.2 }
