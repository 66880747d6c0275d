use Rattle.std.proofs.Common.{◌≡◌, false, ◌∷◌, ◌∙◌, sym, ap, subst, lit<}
use Rattle.atomic_table.specs.Table.{Splits}
use Rattle.ts_turnstile.specs.declared.view.View.{View}
use Rattle.ts_turnstile.specs.Lanes.{has}
use Rattle.ts_turnstile.specs.Chains.{TurnDid}
use Rattle.ts_turnstile.specs.Views.{naming, left_of, right_of}
use Rattle.ts_turnstile.specs.Rule.{Orderly}
use Rattle.ts_turnstile.proofs.Steps.{names, splits}
use Rattle.ts_turnstile.proofs.Seats.{in_three}
use Rattle.ts_turnstile.proofs.turnstile.Turnstile.split_at.Goals as goal

pub compare_exchange-requires : goal.compare_exchange-requires
compare_exchange-requires g c = (
  c.requires.own,
  in_three c.args.self.now.table.shared.table_id.words 0 c.args.self.now.sized.0 (lit< tt),
  names g.S.Store.held g.S.Store.faults (TurnDid g.S.Store.held g.S.Store.last g.S.Store.faults g.S.Store.asked g.S.Store.notes) c.args.self.now.table.shared.key.value c.args.self.now.table.shared.table_id.slots c.args.seat.now.id c.from-lane.result c.args.seat.now.me,
)

pub split_seat-requires : goal.split_seat-requires
split_seat-requires g c =
    let named = c.compare_exchange.ensures.2.0 in
    let view : c.compare_exchange.new.seat.me.0 ≡ naming c.args.seat.now.me.0 c.from-lane.result = ap (λ m. m.0) named in
    let P : View → Type 0 = λ v. Splits (Orderly g.S.Store.held g.S.Store.faults (TurnDid g.S.Store.held g.S.Store.last g.S.Store.faults g.S.Store.asked g.S.Store.notes) c.args.self.now.table.shared.key.value) c.compare_exchange.new.seat.id v (left_of v) (right_of v) in (
      c.compare_exchange.ensures.0 ∙ c.requires.own,
      in_three c.args.self.now.table.shared.table_id.words 0 c.args.self.now.sized.0 (lit< tt),
      subst P (sym view)
          (splits g.S.Store.held g.S.Store.faults (TurnDid g.S.Store.held g.S.Store.last g.S.Store.faults g.S.Store.asked g.S.Store.notes) c.args.self.now.table.shared.key.value c.compare_exchange.new.seat.id (naming c.args.seat.now.me.0 c.from-lane.result) c.requires.first c.requires.rests.2
          (subst (λ n. has n (0 ∷ c.args.seat.now.me.0.split_off) ≡ false) (sym c.from-lane.ensures) c.requires.lane)),
    )
