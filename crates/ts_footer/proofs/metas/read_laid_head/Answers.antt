-- The head of what is spelled, and what is broken, whatever the attributes are.
use Rattle.ts_footer.proofs.MetaObjects.{laid_only_head, laid_broken_head}
use Rattle.ts_footer.proofs.metas.read_laid_head.Goals as goal

pub returns-clause-only : goal.returns-clause-only
returns-clause-only c attrs meta named is = laid_only_head c.args.tiling c.args.frame.now attrs meta c.args.frag c.args.object.now _ named is c.read_meta_head.ensures

pub returns-clause-broken : goal.returns-clause-broken
returns-clause-broken c attrs = laid_broken_head c.args.tiling c.args.frame.now attrs c.args.frag c.args.object.now _ c.read_meta_head.ensures
