-- Each integer has room, and is written behind those so far.
use Rattle.std.proofs.Common.{rules, get_or, FitsSigned, to_z-of_z}
use Rattle.std.specs.Int.{w128}
use Rattle.ts_base.specs.declared.values.Val.TheVariants.{Null}
use Rattle.ts_base.specs.Values.{width_of}
use Rattle.ts_column.specs.Spelled.{number_of}
use Rattle.ts_sparse.proofs.SpotLaws.{integer_fits, number_next}
use Rattle.ts_sparse.proofs.columns.numbers_object.Goals as goal

pub int-requires-clause-fits : goal.int-requires-clause-fits
int-requires-clause-fits c =
    let z : FitsSigned w128 c.number_at-number.result = search rules in
    rw (c.width-in-loop-spot.ensures, c.is_signed.ensures, to_z-of_z z)
    (integer_fits c.args.ty (λ v. number_of (get_or v.row c.args.attr Null)) c.parts.result.batches.now c.parts.result.spots.now c.args.piece.now.versions c.loop-spot.spot-index _ c.number_at-number.result
    c.parts.ensures.versions c.requires.fits c.loop-spot-test.true c.number_at-number.ensures)

pub loop-spot-preserved : goal.loop-spot-preserved
loop-spot-preserved c =
    let z : FitsSigned w128 c.number_at-number.result = search rules in
    number_next c.args.attr (width_of c.args.ty) c.width-in-loop-spot.result c.parts.result.batches.now c.parts.result.spots.now c.loop-spot.spot-index _ _ c.number_at-number.result c.loop-spot.scribe c.int.new.self
    c.loop-spot.invariant c.loop-spot-test.true c.number_at-number.ensures c.width-in-loop-spot.ensures (to_z-of_z z) c.in_ok-int.ensures.ok
