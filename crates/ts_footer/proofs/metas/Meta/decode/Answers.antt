-- What was read is what is spelled, by the laws of metadata.
use Rattle.std.proofs.Common.{◌<◌, ◌^◌, length, arith, rules}
use Rattle.ts_footer.specs.Tilings.{tiling_of}
use Rattle.ts_footer.proofs.MetaObjects.{found_in, writable_in, only_in, cut_in}
use Rattle.ts_footer.proofs.metas.Meta.decode.Goals as goal

pub returns-clause-found : goal.returns-clause-found
returns-clause-found c =
    let few : length c.args.object.now < 2 ^ 64 = search rules in
    found_in (tiling_of c.args.frame.now) c.args.frame.now c.args.schema.now.attrs c.args.frag c.args.object.now _ (λ i. omega (arith, c.type_inv.object i)) few (rw c.as_slice.ensures at c.read_meta.ensures)

pub returns-clause-writable : goal.returns-clause-writable
returns-clause-writable c =
    let few : length c.args.object.now < 2 ^ 64 = search rules in
    writable_in (tiling_of c.args.frame.now) c.args.frame.now c.args.schema.now.attrs c.args.frag c.args.object.now _ c.as_slice-dims.ensures.sound (λ i. omega (arith, c.type_inv.object i)) few (rw c.as_slice.ensures at c.read_meta.ensures)

pub returns-clause-only : goal.returns-clause-only
returns-clause-only c meta named is =
    only_in (tiling_of c.args.frame.now) c.args.frame.now c.args.schema.now.attrs meta c.args.frag c.args.object.now _ named is (rw c.as_slice.ensures at c.read_meta.ensures)

pub returns-clause-cut : goal.returns-clause-cut
returns-clause-cut c body few cut =
    cut_in (tiling_of c.args.frame.now) c.args.frame.now c.args.schema.now.attrs c.args.frag c.args.object.now body _ (rw c.as_slice.ensures at c.read_meta.ensures) few cut
