use Rattle.ts_model.proofs.WholeRows.{turn_more}
use Rattle.ts_model.proofs.selection.are_in_turn.Goals as goal

pub loop-place-preserved : goal.loop-place-preserved
loop-place-preserved c = turn_more c.args.fields.now c.loop-place.place c.loop-place-test.true c.if-fields-place.false c.loop-place.invariant
