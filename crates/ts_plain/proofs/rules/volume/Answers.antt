use Rattle.std.proofs.Common.{rules, ◌≤◌, ◌<◌, ◌^◌, length}
use Rattle.ts_plain.specs.Rules.{volume}
use Rattle.ts_plain.proofs.Volumes.{volume_side}
use Rattle.ts_plain.proofs.rules.volume.Goals as goal

pub returns-in_err-count : goal.returns-in_err-count
returns-in_err-count c =
    let l = c.loop-side in
    let more : l.side-index < length c.args.hull.now = search rules in
    let large : 2 ^ 64 ≤ volume c.args.hull.now = volume_side c.args.hull.now l.side-index _ (2 ^ 64) l.cells _ c.requires more l.invariant.0 l.invariant.1 c.in_err-count.ensures in
    rw c.from_residual.ensures large
