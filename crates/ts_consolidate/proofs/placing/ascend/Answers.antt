-- Where neighbours ascend all do.
use Rattle.std.proofs.Common.{arith}
use Rattle.std.proofs.lemmas.List.{length-map}
use Rattle.ts_piece.specs.Spots.{spotted, version_in}
use Rattle.ts_model.proofs.Ascending.{sorted_of_neighbours}
use Rattle.ts_consolidate.proofs.Neighbours.{by_version_total}
use Rattle.ts_consolidate.proofs.placing.ascend.Goals as goal

pub returns : goal.returns
returns c up =
    let long = length-map c.args.spots.now (version_in c.args.batches.now) in
    sorted_of_neighbours (by_version_total c.args.frame.now) (spotted c.args.batches.now c.args.spots.now) (λ k d below. c.do_neighbours_ascend.ensures up k d (omega (arith, below, long)))
