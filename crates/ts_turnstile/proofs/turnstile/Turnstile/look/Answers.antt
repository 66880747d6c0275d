-- The step is told which store was handed in.
use Rattle.std.proofs.Common.{Some, ◌∙◌, sym, ap, subst, lit<}
use Rattle.ts_turnstile.specs.declared.told.Told.{Told}
use Rattle.ts_turnstile.specs.Chains.{TurnDid}
use Rattle.ts_turnstile.specs.Plays.{Took}
use Rattle.ts_turnstile.proofs.Steps.{looks}
use Rattle.ts_turnstile.proofs.Seats.{in_three}
use Rattle.ts_turnstile.proofs.turnstile.Turnstile.look.Goals as goal

pub compare_exchange_with-served-requires : goal.compare_exchange_with-served-requires
compare_exchange_with-served-requires g c = (
  c.requires.own,
  in_three c.args.self.now.table.shared.table_id.words 2 c.args.self.now.sized.0 (lit< tt),
  looks g.S.Store.held g.S.Store.faults (TurnDid g.S.Store.held g.S.Store.last g.S.Store.faults g.S.Store.asked g.S.Store.notes) c.args.self.now.table.shared.key.value c.args.self.now.table.shared.table_id.slots c.args.seat.now.id c.args.ticket c.args.seat.now.me c.of.result
      (ap (λ (s : Told g.row.S.Denot). s.value) (c.of.ensures ∙ c.args.self.now.same)) c.requires.waits.0 c.requires.waits.1 c.requires.waits.2,
)

pub returns-clause-took : goal.returns-clause-took
returns-clause-took g c = λ hit.
    subst (λ s. Took g.S.Store.held g.S.Store.faults (TurnDid g.S.Store.held g.S.Store.last g.S.Store.faults g.S.Store.asked g.S.Store.notes) s c.args.seat.now.me c.compare_exchange_with-served.new.seat.me) (ap (λ (s : Told g.row.S.Denot). s.value) c.of.ensures)
    (c.compare_exchange_with-served.ensures.2.0 (c.requires.waits.0 ∙ ap Some (sym hit)))
