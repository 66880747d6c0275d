use Rattle.std.proofs.Common.{[], ◌∷◌, length, ◌∙◌, ap, lit<}
use Rattle.ts_turnstile.specs.declared.slot.Slot.TheVariants as slot
use Rattle.ts_turnstile.specs.Chains.{TurnDid}
use Rattle.ts_turnstile.proofs.Seats.{in_three, posts_from}
use Rattle.ts_turnstile.proofs.turnstile.Turnstile.enter.Goals as goal

pub compare_exchange_with-requires : goal.compare_exchange_with-requires
compare_exchange_with-requires g c = (
  c.lower.ensures.own.0 ∙ c.requires.own,
  in_three c.args.self.now.table.shared.table_id.words 0 c.args.self.now.sized.0 (lit< tt),
  posts_from g.S.Store.held g.S.Store.faults (TurnDid g.S.Store.held g.S.Store.last g.S.Store.faults g.S.Store.asked g.S.Store.notes) c.args.self.now.table.shared.key.value c.args.self.now.table.shared.table_id.slots c.lower.new.seat.id c.args.place c.len-entries.result c.lower.new.seat.me c.args.seat.now.me.0 ((0, slot.Home c.args.home) ∷ []) c.args.turn
      c.lower.ensures.has c.requires.turn c.requires.lane c.requires.place (c.len-entries.ensures ∙ ap length c.requires.grows),
)
