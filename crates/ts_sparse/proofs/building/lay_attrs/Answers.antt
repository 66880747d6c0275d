-- The values of each attribute fit it.
use Rattle.ts_sparse.proofs.FitLaws.{values_at}
use Rattle.ts_sparse.proofs.building.lay_attrs.Goals as goal

pub lay_attr-requires-clause-fits : goal.lay_attr-requires-clause-fits
lay_attr-requires-clause-fits c = values_at c.args.attrs.now c.args.piece.now.versions c.loop-place.place c.index-attrs-place.result c.requires.fits c.loop-place-test.true c.index-attrs-place.is
