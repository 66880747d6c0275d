use Rattle.std.proofs.Common.{rules, ◌∙◌, ap}
use Rattle.ts_wire.proofs.Bodies.{enveloped}
use Rattle.ts_wire.specs.Envelope.{wrapped}
use Rattle.ts_wire.proofs.scribe.Scribe.into_object.Goals as goal

pub returns : goal.returns
returns c =
    let whole = enveloped c.args.kind c.make_front.new.bytes.items c.envelope_of.result c.put_front.new.text c.from_vec.result c.make_front.new.bytes.len c.in_ok-make_front.ensures.room
    (search rules) (search rules) (search rules) c.from_vec.ensures in
    let behind = c.in_ok-make_front.ensures.behind in
    let joint = whole ∙ ap (wrapped c.args.kind) behind in
    search rules
