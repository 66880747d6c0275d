-- One place more is found, or not.
use Rattle.std.proofs.Common.{arith, ◌≡◌, ℕ, ◌+◌, ◌++◌, [], ◌∷◌, true, false, get_or, length, sym, ap, ◌∙◌}
use Rattle.std.specs.Prelude.{filter}
use Rattle.std.specs.List.{range_with_len}
use Rattle.std.proofs.lemmas.List.{length-append}
use Rattle.ts_select.proofs.Ranges.{passing_few, passing_left, passing_taken}
use Rattle.ts_select.proofs.places.found_count.Goals as goal
use Rattle.ts_select.proofs.places.found_count.Goals.{then-is_found, else-is_found}

pub overflow_add-count : goal.overflow_add-count
overflow_add-count c = record { fits = omega (arith, c.loop-place.invariant, passing_few (λ place. get_or c.args.found.now place false) c.loop-place.place, c.requires, c.loop-place-test.true, c.loop-place.auto.place-end) }

pub loop-place-preserved : goal.loop-place-preserved
loop-place-preserved c =
    let n = c.loop-place.place in
    let P = λ (place : ℕ). get_or c.args.found.now place false in
    let before = filter (λ place. get_or c.args.found.now place false) (range_with_len 0 c.loop-place.place) in
    elim c.if-is_found.branch [
      | then-is_found w ↦ w.count-is ∙ ap (λ k. k + 1) c.loop-place.invariant ∙ sym (ap length (passing_taken P n w.if-is_found.true) ∙ length-append before (n ∷ []))
      | else-is_found w ↦ w.count-is ∙ c.loop-place.invariant ∙ sym (ap length (passing_left P n w.if-is_found.false))
    ]
