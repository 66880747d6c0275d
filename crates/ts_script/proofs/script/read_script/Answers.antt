use Rattle.std.proofs.Common.{arith}
use Rattle.std.proofs.lemmas.Result.{err_from_is_err_and}
use Rattle.std.proofs.lemmas.List.Elements.{All-nil}
use Rattle.ts_model.specs.Jobs.{IsFitLine}
use Rattle.ts_script.specs.Script.{byte_limit, script_of}
use Rattle.ts_script.proofs.Whole.{IsUnderWay-first, IsUnderWay-next, IsScript-stopped}
use Rattle.ts_script.proofs.script.read_script.Goals as goal

pub loop-piece-init : goal.loop-piece-init
loop-piece-init c = record {
  way = rw (c.within_limit-rest.ensures, c.new-lines.ensures) (IsUnderWay-first byte_limit c.args.input.now);
  limited = rw c.new-lines.ensures (record { few = omega arith; fit = All-nil IsFitLine });
}

pub loop-piece-preserved : goal.loop-piece-preserved
loop-piece-preserved c =
    let l = c.loop-piece in
    record {
      way = IsUnderWay-next byte_limit _ l.number l.lines c.in_ok-lines.lines l.rest.now c.in-Some.piece.now c.in-Some.others.now l.invariant.way c.in-Some.ensures.parts c.in-Some.ensures.shorter c.in_ok-lines.ensures.script;
      limited = c.in_ok-lines.ensures.limited;
    }

pub returns-in_err-lines-clause-script : goal.returns-in_err-lines-clause-script
unfolding script_of
returns-in_err-lines-clause-script c =
    let l = c.loop-piece in
    let p = err_from_is_err_and c.from_residual.result c.from_residual.ensures.1 in
    rw (p.1, p.2) (IsScript-stopped byte_limit _ l.number l.lines l.rest.now c.in-Some.piece.now c.in-Some.others.now _ l.invariant.way c.in-Some.ensures.parts c.in_err-lines.ensures.script)
