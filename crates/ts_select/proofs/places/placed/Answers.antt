-- The place before those that are put in is put in.
use Rattle.std.proofs.Common.{arith, ap, sym, ◌∙◌, length, ◌-◌}
use Rattle.ts_select.specs.Places.{placed_behind, with_place}
use Rattle.ts_select.proofs.Ranges.{place_before}
use Rattle.ts_select.proofs.places.placed.Goals as goal

pub loop-left-preserved : goal.loop-left-preserved
loop-left-preserved c =
    let frame = c.args.frame.now in
    let ready = c.args.ready.now in
    let picks = c.args.picks.now in
    let versions = c.args.cells.now in
    let left = c.loop-left.left in (
      omega arith,
      c.in_ok-place.ensures ∙ ap (with_place frame ready picks versions (left - 1)) c.loop-left.invariant.1
          ∙ ap (placed_behind frame ready picks versions) (sym (place_before left (length versions) (omega arith) (omega arith))),
    )
