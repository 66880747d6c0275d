-- The values of each attribute fit it, and its objects are laid.
use Rattle.ts_dense.specs.Laying.{held}
use Rattle.ts_dense.proofs.SlotFits.{values_at}
use Rattle.ts_dense.proofs.SlotLays.{attrs_more, attrs_all}
use Rattle.ts_dense.proofs.building.lay_attrs.Goals as goal

pub lay_attr-requires : goal.lay_attr-requires
lay_attr-requires c = values_at c.args.attrs.now (held c.args.slots.now) c.loop-place.place c.index-attrs-place.result c.requires.fits c.loop-place-test.true c.index-attrs-place.is

pub loop-place-preserved : goal.loop-place-preserved
loop-place-preserved c =
    attrs_more c.args.slots.now c.args.laid.now c.args.attrs.now c.loop-place.laid c.lay_attr.new.laid c.loop-place.place c.index-attrs-place.result c.loop-place.invariant c.loop-place-test.true c.index-attrs-place.is c.in_ok-lay_attr.ensures

pub returns : goal.returns
returns c = attrs_all c.args.slots.now c.args.laid.now c.args.attrs.now c.loop-place.laid c.loop-place.place c.loop-place.invariant c.loop-place-test.false
