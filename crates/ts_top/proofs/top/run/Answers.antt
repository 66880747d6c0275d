-- A run stops before its first command, or it does the commands of its script; each status is told by what is seen of it.
use Rattle.std.proofs.Common.{◌+◌, ◌≤◌, arith, refl, sym, subst, List}
use Rattle.ts_script.specs.declared.words.Report.{Report}
use Rattle.ts_store.specs.declared.journal.Entry.{Entry}
use Rattle.ts_store.specs.Counts.{capped}
use Rattle.ts_store.specs.Journals.{failures}
use Rattle.ts_top.specs.Runners.{JustMade}
use Rattle.ts_top.specs.Seen.{Seen, Stream, stream, Plays, Stopped, IsRunOf, stopped, played}
use Rattle.ts_script.specs.Words.{word_texts}
use Rattle.ts_top.proofs.Promised.{promise_stopped, promise_played}
use Rattle.ts_top.proofs.Exact.{usage, usage_there, refused, bad_script, bad_script_there, read_fault, write_fault, untouched}
use Rattle.ts_top.proofs.top.run.Goals as goal

pub returns-in-Ok : goal.returns-in-Ok
returns-in-Ok g c =
    let held = g.S.Store.held in
    let made = JustMade held g.S.Store.last g.S.Store.faults g.S.Store.asked g.S.Store.notes in
    let words = word_texts c.args.words.now in
    let input : Stream = stream g.I.Source.left g.I.Source.faults c.args.input.now c.prepare.new.input in
    let out : Stream = stream g.O.Sink.contents g.O.Sink.faults c.args.out.now c.play.new.out in
    let seen : Seen g.row.S.Denot = record { words = words; seed = c.args.seed; gives = g.C.Clock.gives c.args.clock.now; input = input; out = out; store = c.args.store; later = c.play.result.store; status = c.play.result.status; journal = c.play.result.journal } in
    let lines = c.in-Ok.prepared.lines in
    let (job, read, same) = c.in-Ok.ensures.read in
    let Q : Report → Type 0 = λ report. Plays held made seen report lines in
    let plays = subst Q same (c.play.ensures.plays words input) in
    let is : IsRunOf held made seen = played job lines (record { read = read; plays = plays }) in
    record {
      run = is;
      promise = promise_played held made seen job lines (omega arith) c.in-Ok.ensures.limited read.asks read.means plays;
      counted = c.play.ensures.counted;
      usage = usage held made seen is;
      usage_there = usage_there held made seen is;
      bad_script = bad_script held made seen is;
      bad_script_there = bad_script_there held made seen is;
      read_fault = read_fault held made seen is;
      write_fault = write_fault held made seen is;
      refused = refused held made seen is;
      untouched = untouched held made seen is;
    }

pub returns-in-Err : goal.returns-in-Err
returns-in-Err g c =
    let held = g.S.Store.held in
    let made = JustMade held g.S.Store.last g.S.Store.faults g.S.Store.asked g.S.Store.notes in
    let words = word_texts c.args.words.now in
    let input : Stream = stream g.I.Source.left g.I.Source.faults c.args.input.now c.prepare.new.input in
    let out : Stream = stream g.O.Sink.contents g.O.Sink.faults c.args.out.now c.print_stop.new.out in
    let seen : Seen g.row.S.Denot = record { words = words; seed = c.args.seed; gives = g.C.Clock.gives c.args.clock.now; input = input; out = out; store = c.args.store; later = c.args.store; status = c.status.result; journal = c.new.result } in
    let C : List Entry → Type 0 = λ es. capped (g.S.Store.faults c.args.store + failures es) ≤ g.S.Store.faults c.args.store in
    let halt : Stopped seen c.in-Err.stop = record { reason = c.in-Err.ensures.reason; status = c.status.ensures; printed = c.print_stop.ensures; journal = c.new.ensures; untouched = refl } in
    let is : IsRunOf held made seen = stopped c.in-Err.stop halt in
    record {
      run = is;
      promise = promise_stopped held made seen c.in-Err.stop halt;
      counted = subst C (sym c.new.ensures) (omega arith);
      usage = usage held made seen is;
      usage_there = usage_there held made seen is;
      bad_script = bad_script held made seen is;
      bad_script_there = bad_script_there held made seen is;
      read_fault = read_fault held made seen is;
      write_fault = write_fault held made seen is;
      refused = refused held made seen is;
      untouched = untouched held made seen is;
    }
