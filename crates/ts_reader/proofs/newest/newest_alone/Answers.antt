-- One version more, and in the end all of them.
use Rattle.std.proofs.Common.{take, [], sym, subst}
use Rattle.ts_reader.specs.Newest.{AreNewest}
use Rattle.ts_reader.proofs.Alone.{comes_behind, newest_all, newest_none, newest_on}
use Rattle.ts_reader.proofs.newest.newest_alone.Goals as goal

pub loop-version-init : goal.loop-version-init
loop-version-init c = subst (AreNewest []) (sym c.new-newest.ensures) newest_none

pub loop-version-preserved : goal.loop-version-preserved
loop-version-preserved c =
    let versions = c.args.versions.now in
    let place = c.loop-version.version-index in
    let v = c.version-item.result in
    let within = c.loop-version-test.true in
    newest_on versions c.add.new.newest place v within c.version-item.is (c.in_ok-add.ensures (take place versions) c.loop-version.invariant (comes_behind versions place v c.requires within c.version-item.is))

pub returns : goal.returns
returns c = newest_all c.args.versions.now c.loop-version.newest c.loop-version.version-index c.loop-version-test.false c.loop-version.invariant
