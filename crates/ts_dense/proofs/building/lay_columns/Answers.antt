-- Attributes and origins are all columns.
use Rattle.ts_dense.proofs.PartLaws.{columns_laid}
use Rattle.ts_dense.proofs.building.lay_columns.Goals as goal

pub returns : goal.returns
returns c =
    columns_laid c.args.schema.now.attrs c.as_slice.result.now c.args.consolidated c.args.slots.now c.new.result c.new-2.result c.lay_attrs.new.laid c.lay_origins.new.laid c.new.ensures c.new-2.ensures c.as_slice.ensures
    c.in_ok-lay_attrs.ensures c.in_ok-lay_origins.ensures
