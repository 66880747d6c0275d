-- An actor with a new identifier came, or the identifier is taken.
use Rattle.std.proofs.Common.{[], refl, sym, ◌∙◌, subst}
use Rattle.std.proofs.lemmas.Bool.{true≢false}
use Rattle.ts_store.specs.Memory.{held_in}
use Rattle.ts_world.specs.Slots.{IsSlot, view_of}
use Rattle.ts_world.specs.Clauses.{IsTaken}
use Rattle.ts_world.proofs.Ids.{taken_from, taken_to, new_id}
use Rattle.ts_world.proofs.Laws.{spawned_kept}
use Rattle.ts_world.proofs.parts.spawn.Goals as goal

pub returns-clause-kept : goal.returns-clause-kept
returns-clause-kept g c =
    let added = c.in_ok-add.ensures.added in
    let before = c.args.parts.now in
    let free : IsTaken (view_of before) c.args.id → ⊥ = λ taken. true≢false (sym (taken_to (view_of before) c.args.id taken) ∙ (sym c.in_ok-is_taken.ensures ∙ c.if-branch.false)) in
    rw (added.opening, added.past, added.jobs, added.told, added.store, added.journal, added.slots)
    (spawned_kept g.P.Pieces.codec g.P.Spelling.spelled g.P.Pieces.tracks (held_in before.opening.value) before.past before.jobs before.told.items (held_in before.store) before.journal before.slots.items c.requires.kept _ _
    c.requires.may.fewer
    (new_id (view_of before) c.args.id free (λ carried. free (c.requires.may.new carried))) (record { stamp = c.ranges.at.fits; id = c.ranges.id.fits; command = c.requires.may.value }) refl (subst (λ j. IsSlot g.P.Pieces.codec j [] c.first_slot-slot.result) c.in_ok-twin.ensures c.first_slot-slot.ensures.slot_is))

pub returns-clause-cause : goal.returns-clause-cause
returns-clause-cause g c = λ taken. true≢false (sym (taken_to (view_of c.args.parts.now) c.args.id taken) ∙ (sym c.in_ok-is_taken.ensures ∙ c.if-branch.false))

pub returns-then-branch-clause-cause : goal.returns-then-branch-clause-cause
returns-then-branch-clause-cause g c = (refl, taken_from (view_of c.args.parts.now) c.args.id (sym c.in_ok-is_taken.ensures ∙ c.if-branch.true))
