use Rattle.std.proofs.Common.{◌≡◌, ap, ◌∙◌, arith}
use Rattle.std.proofs.lemmas.List.{take_all}
use Rattle.ts_commit.specs.Selections.{is_among, removal_set}
use Rattle.ts_commit.proofs.Sets.{among_removed}
use Rattle.ts_commit.proofs.named.all_named.Goals as goal

pub returns-clause-named : goal.returns-clause-named
returns-clause-named c =
    let made : c.loop-vac.named.keys ≡ removal_set c.args.vacs.now = c.loop-vac.invariant ∙ ap removal_set (take_all c.loop-vac.vac-index c.args.vacs.now (omega arith)) in
    λ f. ap (is_among f) made ∙ among_removed f c.args.vacs.now
