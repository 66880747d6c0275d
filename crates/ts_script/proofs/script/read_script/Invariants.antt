use Rattle.std.proofs.Common.{length}
use Rattle.ts_script.specs.Script.{byte_limit, AreLimited}
use Rattle.ts_script.proofs.Whole.{IsUnderWay}
use Rattle.ts_script.proofs.script.read_script.Given as goal

abbrev pub invariant-loop-piece : goal.invariant-loop-piece
invariant-loop-piece l = record {
  way : IsUnderWay byte_limit l.input l.number l.lines l.rest;
  limited : AreLimited l.lines;
}

abbrev pub decreases-loop-piece : goal.decreases-loop-piece
decreases-loop-piece l = length l.rest
