-- The write of each version is known.
use Rattle.ts_sparse.proofs.SpotLaws.{key_known}
use Rattle.ts_sparse.proofs.columns.origins_object.Goals as goal

pub place_of-requires-clause-known : goal.place_of-requires-clause-known
place_of-requires-clause-known c =
    key_known c.args.origins.now c.parts.result.batches.now c.parts.result.spots.now c.args.piece.now.versions c.loop-spot.spot-index _ c.cell_at.result c.key.result
    c.parts.ensures.versions c.requires.known c.loop-spot-test.true c.cell_at.ensures c.key.ensures
