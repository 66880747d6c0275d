-- The store is with the seat whose ticket is served.
use Rattle.std.proofs.Common.{◌≡◌, [], ◌∷◌, ◌∙◌, ap}
use Rattle.atomic_table.specs.Table.{Me}
use Rattle.ts_turnstile.specs.declared.slot.Slot.{Slot}
use Rattle.ts_turnstile.specs.declared.slot.Slot.TheVariants as slot
use Rattle.ts_turnstile.specs.declared.view.View.{View}
use Rattle.ts_turnstile.proofs.turnstile.Turnstile.take.Goals as goal

pub lift-requires-clause-out : goal.lift-requires-clause-out
lift-requires-clause-out g c κs within =
    let took = c.look-served.ensures.took c.if-served-ticket.true in
    let empty : c.loop.seat.me.1 ≡ [] = ap (λ (m : Me (Slot g.row.S.Denot) View). m.1) c.loop.invariant.4 ∙ c.requires.waits.3 in
    (took.home, ap (λ (m : Me (Slot g.row.S.Denot) View). m.1) took.seat ∙ ap (λ l. (0, slot.Home took.home) ∷ l) empty)
