-- Each of the names is that of a part.
use Rattle.std.proofs.Common.{sym, subst, arith}
use Rattle.std.proofs.lemmas.List.{take_all}
use Rattle.std.proofs.lemmas.List.Elements.{All-get_or, All-more}
use Rattle.ts_base.specs.declared.names.Name.TheVariants.{Domain}
use Rattle.ts_base.specs.Names.{IsSpelled}
use Rattle.ts_vacuum.specs.Sweeping.{AreRemovable, IsRemovable}
use Rattle.ts_vacuum.proofs.RemovedLaws.{part_may}
use Rattle.ts_vacuum.proofs.sweeping.are_parts.Goals as goal

pub loop-name-preserved : goal.loop-name-preserved
loop-name-preserved c =
    let names = c.args.names.now in
    let i = c.loop-name.name-index in
    let under = c.if-not-under.ensures.same in
    All-more IsRemovable names i Domain (omega arith) c.loop-name.invariant (part_may c.args.frag _ (All-get_or IsSpelled names i Domain (omega arith) c.requires) (sym under))

pub returns : goal.returns
returns c = λ is. subst AreRemovable (take_all c.loop-name.name-index c.args.names.now (omega arith)) c.loop-name.invariant
