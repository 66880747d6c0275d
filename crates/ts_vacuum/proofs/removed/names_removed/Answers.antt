-- A vacuum may remove all of these.
use Rattle.std.proofs.Common.{◌≡◌, rules, sym, subst}
use Rattle.ts_model.specs.States.{names_removed}
use Rattle.ts_vacuum.specs.Sweeping.{AreRemovable}
use Rattle.ts_vacuum.proofs.RemovedLaws.{removed_may}
use Rattle.ts_vacuum.proofs.removed.names_removed.Goals as goal

pub returns-clause-may : goal.returns-clause-may
returns-clause-may c =
    let all : c.add_vacs_beside.new.names ≡ names_removed c.args.sweep.now c.args.set.now c.args.listed.now = search rules in
    subst AreRemovable (sym all) (removed_may c.args.sweep.now c.requires.sweep c.args.set.now c.args.listed.now c.requires.listed)
