-- The fetch that begins is one of what lies in the box.
use Rattle.std.proofs.Common.{ap}
use Rattle.ts_actor.specs.PieceLaws.{Begun}
use Rattle.ts_reader.proofs.fetching.start.Goals as goal

pub returns-in-Ok-clause-inside : goal.returns-in-Ok-clause-inside
returns-in-Ok-clause-inside g c =
    let r = c.args.reading.now in
    c.go_on.ensures.inside (r.ready).sub
    (Begun r.frame c.in-Some.schema.now c.args.opened.now.frag c.args.opened.now.object c.in_ok-want.want c.in-Ok.fetch (ap (λ want. want.sub) c.in_ok-want.ensures) c.in-Ok.ensures.is)
