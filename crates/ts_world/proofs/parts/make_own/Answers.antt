-- The call takes no lease from another actor that runs, or that is its fault.
use Rattle.std.proofs.Common.{ℕ, Some, Err, sym, subst}
use Rattle.ts_store.specs.declared.call.Call.{Call}
use Rattle.ts_world.specs.declared.parts.Parts.{Parts}
use Rattle.ts_world.specs.declared.events.WorldFault.{WorldFault}
use Rattle.ts_world.specs.declared.events.WorldFault.TheVariants.{IdTaken, NoActor, LeaseLive, OutOfMemory}
use Rattle.ts_world.specs.Breaks.{DoesSpare, TakesLive}
use Rattle.ts_world.specs.Slots.{IsOwnFault, standings}
use Rattle.ts_world.proofs.parts.make_own.Goals as goal

-- the fault of a call that is not spared is that of its actor
own_fault : {P F : Type 0} (p : Parts P F) (number : ℕ) (c : Call) (fault : WorldFault) → DoesSpare p.jobs (standings p.slots.items) (Some number) c (Err fault) → IsOwnFault p number c (Err fault)
own_fault p number c (IdTaken id) is = absurd is
own_fault p number c (NoActor none) is = absurd is
own_fault p number c (LeaseLive lease) is = is
own_fault p number c OutOfMemory is = absurd is

pub returns-in-Ok-make-clause-fault : goal.returns-in-Ok-make-clause-fault
returns-in-Ok-make-clause-fault g c = λ lease takes.
    c.in-Ok.ensures lease
    (subst (λ js. TakesLive js (standings c.as_slice-2.result.now) (Some c.args.number) c.args.call lease) (sym c.as_slice.ensures)
    (subst (λ ss. TakesLive c.args.parts.now.jobs (standings ss) (Some c.args.number) c.args.call lease) (sym c.as_slice-2.ensures.value) takes))

pub returns-in-Err-clause-fault : goal.returns-in-Err-clause-fault
returns-in-Err-clause-fault g c =
    own_fault c.args.parts.now c.args.number c.args.call c.in-Err.fault
    (subst (λ js. DoesSpare js (standings c.args.parts.now.slots.items) (Some c.args.number) c.args.call (Err c.in-Err.fault)) c.as_slice.ensures
    (subst (λ ss. DoesSpare c.as_slice.result.now (standings ss) (Some c.args.number) c.args.call (Err c.in-Err.fault)) c.as_slice-2.ensures.value c.in-Err.ensures))
