-- The frame and the schema are those of the later history, and the rows those of the one before.
use Rattle.std.proofs.Common.{◌≡◌, Some, None, rules}
use Rattle.ts_model.specs.Deeds.{frame_in, current_schema}
use Rattle.std.specs.Prelude.{IfOk}
use Rattle.ts_model.specs.Scans.{IsAsked}
use Rattle.ts_model.proofs.Scans.{referred_or}
use Rattle.ts_model.proofs.Referred.{current_is_frame, current_attrs, framed_is}
use Rattle.ts_model.proofs.scan.reference.Goals as goal

pub unreachable-requires : goal.unreachable-requires
unreachable-requires c =
    let holds : current_schema c.args.later.now c.args.to ≡ Some c.in-Some.current.now = search rules in
    let none : frame_in c.args.later.now ≡ None = search rules in
    current_is_frame c.args.later.now c.args.to c.in-Some.current.now c.requires.history holds none

pub ask-requires-clause-frame : goal.ask-requires-clause-frame
ask-requires-clause-frame c =
    let framed : frame_in c.args.later.now ≡ Some c.in-Some-frame_in.frame.now = search rules in
    framed_is c.args.later.now c.in-Some-frame_in.frame.now c.requires.history framed

pub ask-requires-clause-attrs : goal.ask-requires-clause-attrs
ask-requires-clause-attrs c =
    let holds : current_schema c.args.later.now c.args.to ≡ Some c.in-Some.current.now = search rules in
    current_attrs c.args.later.now c.args.to c.in-Some.current.now c.requires.history holds

pub returns-in-Some-frame_in : goal.returns-in-Some-frame_in
returns-in-Some-frame_in c =
    let holds : current_schema c.args.later.now c.args.to ≡ Some c.in-Some.current.now = search rules in
    let framed : frame_in c.args.later.now ≡ Some c.in-Some-frame_in.frame.now = search rules in
    let asked : IfOk c.ask.result (IsAsked c.args.seen.now c.in-Some-frame_in.frame.now c.in-Some.current.now c.args.from c.args.to c.args.query.now) = search rules in
    referred_or c.args.seen.now c.args.later.now c.in-Some-frame_in.frame.now c.in-Some.current.now c.args.from c.args.to c.args.query.now c.ask.result framed holds asked
