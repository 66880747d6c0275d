-- The columns are sound, and their cells lie in the leaf.
use Rattle.ts_sparse_read.proofs.TileSteps.{cells_in_leaf, columns_sound}
use Rattle.ts_sparse_read.proofs.columns.read_columns.Goals as goal

pub returns-clause-sound : goal.returns-clause-sound
returns-clause-sound c =
    columns_sound c.args.opened.now.frame c.args.leaf.now c.args.count c.in_ok-coords.coords c.in_ok-origins.origins c.in_ok-vals.vals c.in_ok-coords.ensures.some c.in_ok-coords.ensures.few c.requires.leaf
    c.in_ok-coords.ensures.sides c.in_ok-origins.ensures.many c.in_ok-vals.ensures.many

pub returns-clause-within : goal.returns-clause-within
returns-clause-within c = cells_in_leaf c.args.leaf.now c.args.count c.in_ok-coords.coords c.in_ok-origins.origins c.in_ok-vals.vals c.in_ok-coords.ensures.sides
