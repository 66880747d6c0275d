use Rattle.std.proofs.Common.{◌∙◌, lit<, arith}
use Rattle.ts_turnstile.specs.Chains.{TurnDid}
use Rattle.ts_turnstile.proofs.Seats.{in_three, draws_from}
use Rattle.ts_turnstile.proofs.turnstile.Turnstile.draw.Goals as goal

-- a ticket may be drawn, since fewer than 2^64 are
pub compare_exchange-found-requires : goal.compare_exchange-found-requires
compare_exchange-found-requires g c =
    let i = c.loop.invariant in (
      i.2 ∙ c.requires.own,
      in_three c.args.self.now.table.shared.table_id.words 1 c.args.self.now.sized.0 (lit< tt),
      draws_from g.S.Store.held g.S.Store.faults (TurnDid g.S.Store.held g.S.Store.last g.S.Store.faults g.S.Store.asked g.S.Store.notes) c.args.self.now.table.shared.key.value c.args.self.now.table.shared.table_id.slots c.loop.seat.id c.peek-seen.result c.loop.seat.me c.args.seat.now.me i.4 c.requires.rests.0 c.requires.rests.1 (omega arith),
    )
