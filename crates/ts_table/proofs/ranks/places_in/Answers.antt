-- All dimensions are counted.
use Rattle.std.proofs.Common.{arith}
use Rattle.ts_table.specs.Tables.{no_version, version_or}
use Rattle.ts_table.proofs.RankSteps.{count_all}
use Rattle.ts_table.proofs.ranks.places_in.Goals as goal

pub returns : goal.returns
returns c =
    let dims = c.args.domain.now in
    let vs = c.args.table.now in
    record {
      long = c.loop-rank.invariant.long;
      each = λ k below. count_all c.args.counted dims c.args.order (version_or vs k).coords c.requires.sound (c.requires.inside k no_version below) c.requires.countable c.loop-rank.rank _ (omega arith) (c.loop-rank.invariant.each k below);
    }
