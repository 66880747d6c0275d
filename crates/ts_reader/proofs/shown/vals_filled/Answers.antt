-- Strips are laid where the newest versions stand, and all of these are left; or the newest stand in slots.
use Rattle.std.proofs.Common.{◌≡◌, map, sym, ap, subst, ◌∙◌, arith}
use Rattle.std.specs.Prelude.{IfSome}
use Rattle.std.specs.List.{All, flat_map}
use Rattle.std.specs.List.Sorted.{IsPermutation}
use Rattle.std.proofs.lemmas.List.Sorted.{All-permutation}
use Rattle.std.proofs.lemmas.Result.{IfOk-weaker}
use Rattle.ts_batch.specs.Batches.{versions_of}
use Rattle.ts_domain.specs.Boxes.{cells_of, coords_of_box}
use Rattle.ts_model.specs.Pieces.{newest_of}
use Rattle.ts_strip.specs.Strips.{strip_versions, Climb, IsStrip}
use Rattle.ts_reader.specs.Laid.{laid, AreLaid}
use Rattle.ts_reader.specs.Left.{slot_left}
use Rattle.ts_reader.specs.Newest.{slots_in}
use Rattle.ts_reader.specs.Shown.{slot_vals, vals_filled}
use Rattle.ts_reader.proofs.Kept.{slots_all_left}
use Rattle.ts_reader.proofs.LaidSlots.{laid_slots}
use Rattle.ts_reader.proofs.shown.vals_filled.Goals as goal

pub laid_vals-requires-clause-there : goal.laid_vals-requires-clause-there
laid_vals-requires-clause-there c =
    let batches = c.as_slice-batches.result.now in
    let P = IsStrip batches (coords_of_box ((c.args.reading.now).ready).sub) in
    let each = subst (λ o. IfSome o (λ strips. All P strips.items)) c.in-Some.is c.in_ok-strips.ensures.each in
    let same = subst (λ o. IfSome o (λ sorted. IsPermutation c.as_slice-strips.result.now sorted.items)) c.in-Some-2.is c.in_ok-sorted.ensures.same in
    let all = All-permutation P c.as_slice-strips.result.now c.in-Some-2.sorted.items same (subst (All P) (sym c.as_slice-strips.ensures.value) each) in
    let there = subst (All P) (sym c.as_slice-sorted.ensures.value) all in
    λ k d within. let s = there k d within in record { named = s.named; room = s.room }

pub returns-in-Some-2 : goal.returns-in-Some-2
returns-in-Some-2 c =
    let r = c.args.reading.now in
    let schemas = c.args.schemas.now in
    let sub = (r.ready).sub in
    let batches = c.as_slice-batches.result.now in
    let strips = c.as_slice-strips.result.now in
    let sorted = c.in-Some-2.sorted.items in
    let P = IsStrip batches (coords_of_box sub) in
    let each = subst (λ o. IfSome o (λ strips. All P strips.items)) c.in-Some.is c.in_ok-strips.ensures.each in
    let all = subst (λ o. IfSome o (λ strips. flat_map (strip_versions batches) strips.items ≡ versions_of batches)) c.in-Some.is c.in_ok-strips.ensures.all in
    let same = subst (λ o. IfSome o (λ sorted. IsPermutation strips sorted.items)) c.in-Some-2.is c.in_ok-sorted.ensures.same in
    let climb = subst (λ o. IfSome o (λ sorted. Climb 0 sorted.items c.cells-cells.result)) c.in-Some-2.is c.in_ok-sorted.ensures.climb in
    let few = c.requires.reading.few_cells c.requires.dense in
    let cells : c.cells-cells.result ≡ cells_of sub = omega (arith, c.cells-cells.ensures.capped, few) in
    let are : AreLaid sub batches sorted = record {
      each = All-permutation P strips sorted same (subst (All P) (sym c.as_slice-strips.ensures.value) each);
      climb = subst (Climb 0 sorted) cells climb;
      turn = strips;
      shuffled = same;
      all = ap (flat_map (strip_versions batches)) c.as_slice-strips.ensures.value ∙ all;
    } in
    let stand = laid_slots sub batches sorted c.requires.reading.valid are ∙ ap (λ vs. slots_in sub (newest_of vs)) c.as_slice-batches.ensures in
    let left = slots_all_left r schemas (slots_in sub (newest_of c.args.got.now)) (c.is_empty.ensures.0 c.if-is_empty.true) in
    let laid_so = ap (λ l. laid batches 0 l c.cells-cells.result) c.as_slice-sorted.ensures.value ∙ ap (laid batches 0 sorted) cells in
    IfOk-weaker c.laid_vals.result (λ vals. vals.items ≡ map (slot_vals r schemas (laid batches 0 c.as_slice-sorted.result.now c.cells-cells.result)) (r.current).attrs) (λ vals. vals.items ≡ vals_filled r schemas c.args.got.now)
    (λ vals is. is ∙ ap (λ slots. map (slot_vals r schemas slots) (r.current).attrs) (laid_so ∙ stand ∙ left)) c.laid_vals.ensures

pub returns : goal.returns
returns c =
    let r = c.args.reading.now in
    let schemas = c.args.schemas.now in
    let sub = (r.ready).sub in
    let batches = c.as_slice-batches.result.now in
    let all = subst (λ o. IfSome o (λ strips. flat_map (strip_versions batches) strips.items ≡ versions_of batches)) c.in-Some.is c.in_ok-strips.ensures.all in
    let stand = c.in_ok-slots-2.ensures
    ∙ ap (λ vs. slots_in sub (newest_of vs)) (ap (flat_map (strip_versions batches)) c.as_slice-strips.ensures.value ∙ all ∙ c.as_slice-batches.ensures) in
    IfOk-weaker c.left_vals-2.result _ _ (λ vals is. is ∙ ap (λ slots. map (slot_vals r schemas (map (slot_left r schemas) slots)) (r.current).attrs) stand) c.left_vals-2.ensures
