-- The lease is a running actor's, or it is broken.
use Rattle.std.proofs.Common.{◌≡◌, Bool, List, None, refl, sym, ◌∙◌, ap}
use Rattle.std.proofs.lemmas.Bool.{true≢false}
use Rattle.ts_base.specs.declared.names.Name.{Name}
use Rattle.ts_store.specs.Memory.{held_in}
use Rattle.ts_model.specs.declared.commands.Job.{Job}
use Rattle.ts_world.specs.declared.slots.Slot.{Slot}
use Rattle.ts_world.specs.Slots.{is_live_from}
use Rattle.ts_world.proofs.Broken.{broken_kept, lease_spelled}
use Rattle.ts_world.proofs.LiveLeases.{live_from, live_to}
use Rattle.ts_world.proofs.breaks.break_lease.Goals as goal

-- what the test found of slices it finds of the parts
of_parts : {P F : Type 0} (jobs js : List Job) (slots ss : List (Slot P F)) (lease : Name) (found b : Bool) → js ≡ jobs → ss ≡ slots → found ≡ is_live_from 0 js ss None lease → found ≡ b → is_live_from 0 jobs slots None lease ≡ b
of_parts {P} {F} jobs js slots ss lease found b same_jobs same_slots is found_is =
    ap (λ l. is_live_from 0 l slots None lease) (sym same_jobs) ∙ ap (λ (l : List (Slot P F)). is_live_from 0 js l None lease) (sym same_slots) ∙ sym is ∙ found_is

pub returns-then-is_live-clause-cause : goal.returns-then-is_live-clause-cause
returns-then-is_live-clause-cause g c =
    (refl, live_from c.args.parts.now.jobs c.args.parts.now.slots.items None c.args.lease (of_parts _ _ _ _ c.args.lease _ _ c.as_slice.ensures c.as_slice-2.ensures.value c.is_live.ensures c.if-is_live.true))

pub returns-clause-cause : goal.returns-clause-cause
returns-clause-cause g c = λ live.
    true≢false (sym (live_to c.args.parts.now.jobs c.args.parts.now.slots.items None c.args.lease live) ∙ of_parts _ _ _ _ c.args.lease _ _ c.as_slice.ensures c.as_slice-2.ensures.value c.is_live.ensures c.if-is_live.false)

pub returns-clause-kept : goal.returns-clause-kept
returns-clause-kept g c =
    let made = c.in_ok-reply.ensures.made in
    let before = c.args.parts.now in
    rw (made.opening, made.past, made.jobs, made.told, made.answer.held, made.entered, made.slots, made.answer.reply)
    (broken_kept g.P.Pieces.codec g.P.Spelling.spelled g.P.Pieces.tracks g.met.P.Pieces.laws (held_in before.opening.value) before.past before.jobs before.told.items (held_in before.store) before.journal before.slots.items c.requires.kept c.args.lease c.requires.lease (returns-clause-cause g c))

pub make-requires-clause-spelled : goal.make-requires-clause-spelled
make-requires-clause-spelled g c = lease_spelled c.args.lease c.requires.lease
