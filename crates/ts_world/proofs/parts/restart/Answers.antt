-- The slots are those after a restart, and so is what contracts see of them.
use Rattle.std.proofs.Common.{◌≡◌, length, map, sym, ◌∙◌, ap, subst}
use Rattle.std.specs.Vec.{with_items}
use Rattle.std.proofs.lemmas.List.{length-map, with_items_is}
use Rattle.ts_store.specs.Memory.{held_in}
use Rattle.ts_world.specs.Views.{WorldView}
use Rattle.ts_world.specs.Slots.{IsKept, standings, dropped_slot}
use Rattle.ts_world.proofs.Views.{restart_seen}
use Rattle.ts_world.proofs.Laws.{restarted_kept}
use Rattle.ts_world.proofs.parts.restart.Goals as goal

slots_are : (g : _) (c : goal.After-parts-1 g) → (with_items c.args.parts.now.slots c.drop_running.new.slots).items ≡ map dropped_slot c.args.parts.now.slots.items
slots_are g c =
    let is = c.drop_running.ensures ∙ ap (map dropped_slot) c.deref_mut.ensures.value in
    with_items_is c.args.parts.now.slots c.drop_running.new.slots (ap length is ∙ length-map c.args.parts.now.slots.items dropped_slot ∙ ap length (sym c.deref_mut.ensures.value) ∙ c.deref_mut.ensures.len) ∙ is

pub returns-clause-kept : goal.returns-clause-kept
returns-clause-kept g c =
    let P : _ → Type 0 = λ l. IsKept g.P.Pieces.codec g.P.Spelling.spelled g.P.Pieces.tracks (held_in c.args.parts.now.opening.value) c.args.parts.now.past c.args.parts.now.jobs c.args.parts.now.told.items (held_in c.args.parts.now.store) c.args.parts.now.journal l in
    subst P (sym (slots_are g c)) (restarted_kept _ _ _ _ _ _ _ _ _ _ c.requires)

pub returns-clause-restarted : goal.returns-clause-restarted
returns-clause-restarted g c =
    let P : _ → WorldView = λ l. record { opening = held_in c.args.parts.now.opening.value; past = c.args.parts.now.past; jobs = c.args.parts.now.jobs; told = c.args.parts.now.told.items; held = held_in c.args.parts.now.store; journal = c.args.parts.now.journal; actors = standings l } in
    let Q : _ → WorldView = λ l. record { opening = held_in c.args.parts.now.opening.value; past = c.args.parts.now.past; jobs = c.args.parts.now.jobs; told = c.args.parts.now.told.items; held = held_in c.args.parts.now.store; journal = c.args.parts.now.journal; actors = l } in
    ap P (slots_are g c) ∙ ap Q (restart_seen c.args.parts.now.slots.items)
