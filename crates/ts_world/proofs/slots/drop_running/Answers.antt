-- One more slot is dropped where it ran.
use Rattle.std.proofs.Common.{◌≡◌, ◌++◌, ◌+◌, ℕ, List, Some, map, take, drop, set, sym, ◌∙◌, ap, add-one, arith}
use Rattle.std.specs.Prelude.{slice_get}
use Rattle.std.proofs.lemmas.Option.{slice_get-get_or}
use Rattle.ts_world.specs.declared.slots.Slot.{Slot}
use Rattle.ts_world.specs.Slots.{dropped_slot}
use Rattle.ts_world.proofs.Lists.{changed_up_to, item_after}
use Rattle.ts_world.proofs.slots.drop_running.Goals as goal

one_more : {P F : Type 0} (xs now : List (Slot P F)) (i : ℕ) (x : Slot P F) → now ≡ map dropped_slot (take i xs) ++ drop i xs → slice_get now i ≡ Some x → set now i (dropped_slot x) ≡ map dropped_slot (take (i + 1) xs) ++ drop (i + 1) xs
one_more xs now i x is at =
    ap (λ l. set l i (dropped_slot x)) is
    ∙ changed_up_to dropped_slot xs i x (sym (item_after dropped_slot xs i) ∙ ap (λ l. slice_get l i) (sym is) ∙ at)
    ∙ ap (λ n. map dropped_slot (take n xs) ++ drop n xs) (sym (add-one i))

pub loop-slot-preserved : goal.loop-slot-preserved
loop-slot-preserved g c =
    ap (set c.loop-slot.slots c.loop-slot.slot-index) (c.replace.ensures.after ∙ c.dropped.ensures)
    ∙ one_more c.args.slots.now c.loop-slot.slots c.loop-slot.slot-index c.replace-was.result c.loop-slot.invariant
    (slice_get-get_or c.loop-slot.slots c.loop-slot.slot-index c.slot-item.result (omega (arith, c.loop-slot-test.true, c.loop-slot.auto.slots)) ∙ ap Some (sym c.replace-was.ensures.value))
