use Rattle.std.proofs.Common.{◌∷◌, ◌∙◌, sym, ap}
use Rattle.atomic_table.specs.Table.{rest}
use Rattle.ts_turnstile.specs.declared.slot.Slot.TheVariants as slot
use Rattle.ts_turnstile.proofs.turnstile.Turnstile.lift.Goals as goal

pub exchange-slot-requires : goal.exchange-slot-requires
exchange-slot-requires g c =
    let out = c.requires.out in
    (c.requires.own, (slot.Home out.0, out.1 ∙ ap (λ l. (0, slot.Home out.0) ∷ l) (sym (ap rest out.1))))
