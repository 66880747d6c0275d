-- What was read fits, and the object is its spelling.
use Rattle.std.proofs.Common.{◌<◌, ◌^◌, length, arith, rules}
use Rattle.ts_footer.proofs.MetaObjects.{stored_fits, stored_spells}
use Rattle.ts_footer.proofs.footers.read_laid_footer.Goals as goal

pub returns-clause-found : goal.returns-clause-found
returns-clause-found c =
    let few : length c.args.object.now < 2 ^ 64 = search rules in
    stored_fits c.args.tiling c.args.frame.now c.args.attrs.now c.args.frag c.args.object.now _ (λ i. omega (arith, c.type_inv.object i)) few c.read_object.ensures.reads

pub returns-clause-spelled : goal.returns-clause-spelled
returns-clause-spelled c =
    let few : length c.args.object.now < 2 ^ 64 = search rules in
    stored_spells c.args.tiling c.args.frame.now c.args.attrs.now c.args.frag c.args.object.now _ (λ i. omega (arith, c.type_inv.object i)) few c.read_object.ensures.reads
