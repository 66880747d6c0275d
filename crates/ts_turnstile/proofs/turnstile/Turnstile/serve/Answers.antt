use Rattle.std.proofs.Common.{subst, ap, lit<}
use Rattle.ts_turnstile.specs.declared.told.Told.{Told}
use Rattle.ts_turnstile.specs.Chains.{TurnDid}
use Rattle.ts_turnstile.specs.Rule.{Stands}
use Rattle.ts_turnstile.proofs.Seats.{in_three, serves_from}
use Rattle.ts_turnstile.proofs.turnstile.Turnstile.serve.Goals as goal

pub fetch_add-served-requires : goal.fetch_add-served-requires
fetch_add-served-requires g c =
    let full = c.requires.full in (
      c.requires.own,
      in_three c.args.self.now.table.shared.table_id.words 2 c.args.self.now.sized.0 (lit< tt),
      serves_from g.S.Store.held g.S.Store.faults (TurnDid g.S.Store.held g.S.Store.last g.S.Store.faults g.S.Store.asked g.S.Store.notes) c.args.self.now.table.shared.key.value c.args.self.now.table.shared.table_id.slots c.args.seat.now.id c.args.seat.now.me full.0 full.1 c.requires.turn (subst (λ x. Stands (TurnDid g.S.Store.held g.S.Store.last g.S.Store.faults g.S.Store.asked g.S.Store.notes) x c.args.seat.now.me.0.seen full.0) (ap (λ (k : Told g.row.S.Denot). k.value) c.args.self.now.same) full.2),
    )
