use Rattle.std.proofs.Common.{◌∙◌, lit<}
use Rattle.ts_turnstile.specs.Chains.{TurnDid}
use Rattle.ts_turnstile.proofs.Steps.{joins, hears}
use Rattle.ts_turnstile.proofs.Seats.{in_three}
use Rattle.ts_turnstile.proofs.turnstile.Turnstile.join_at.Goals as goal

pub join_seat-requires : goal.join_seat-requires
join_seat-requires g c =
    let a = c.requires.rests.0 in
    let b = c.requires.rests.1 in (
      c.requires.own.0,
      c.requires.own.1,
      b.3,
      in_three c.args.self.now.table.shared.table_id.words 0 c.args.self.now.sized.0 (lit< tt),
      joins g.S.Store.held g.S.Store.faults (TurnDid g.S.Store.held g.S.Store.last g.S.Store.faults g.S.Store.asked g.S.Store.notes) c.args.self.now.table.shared.key.value c.args.seat.now.id c.args.seat.now.me.0 c.args.other.id c.args.other.me.0 a.0 a.1 a.2 b.0 b.1,
    )

pub load-requires : goal.load-requires
load-requires g c = (
  c.join_seat.ensures.0 ∙ c.requires.own.0,
  in_three c.args.self.now.table.shared.table_id.words 0 c.args.self.now.sized.0 (lit< tt),
  hears g.S.Store.held g.S.Store.faults (TurnDid g.S.Store.held g.S.Store.last g.S.Store.faults g.S.Store.asked g.S.Store.notes) c.args.self.now.table.shared.key.value c.args.self.now.table.shared.table_id.slots c.join_seat.new.seat.id c.join_seat.new.seat.me,
)
