use Rattle.std.proofs.Common.{rules, ◌++◌, ◌∙◌, ap}
use Rattle.ts_wire.proofs.Bodies.{body_grows_thrice}
use Rattle.ts_wire.proofs.scribe.Scribe.texts.Goals as goal

pub returns-clause-ok : goal.returns-clause-ok
returns-clause-ok c =
    let grows = body_grows_thrice c.make_front.new.bytes.items c.args.first.now c.args.second.now c.args.third.now c.put.new.out.items c.put-2.new.out.items
    c.put-3.new.out.items c.in_ok-make_front.ensures.room (c.put.ensures.items ∙ ap (λ t. t ++ c.args.first.now) c.in_ok-reserve.ensures.items) c.put-2.ensures.items
    c.put-3.ensures.items in
    let behind = c.in_ok-make_front.ensures.behind in
    let joint = grows ∙ ap (λ t. t ++ (c.args.first.now ++ c.args.second.now ++ c.args.third.now)) behind in
    search rules
