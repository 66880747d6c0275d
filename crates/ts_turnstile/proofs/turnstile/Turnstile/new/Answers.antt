use Rattle.std.proofs.Common.{◌≡◌, List, [], ◌∷◌, ◌++◌, ◌∙◌, sym, ap, subst}
use Rattle.atomic_table.specs.Table.{opening}
use Rattle.ts_store.specs.declared.journal.Entry.{Entry}
use Rattle.ts_turnstile.specs.declared.slot.Slot.{Slot}
use Rattle.ts_turnstile.specs.declared.slot.Slot.TheVariants as slot
use Rattle.ts_turnstile.specs.Chains.{TurnDid}
use Rattle.ts_turnstile.specs.Views.{opening_of, first_view}
use Rattle.ts_turnstile.specs.Rule.{Orderly}
use Rattle.ts_turnstile.proofs.Steps.{opens}
use Rattle.ts_turnstile.proofs.turnstile.Turnstile.new.Goals as goal

-- the one slot has the store, with no journal yet
pub new-requires : goal.new-requires
new-requires g c =
    let journal : List Entry = c.new-journal.result in
    let items : c.push_reserved.new.self.items ≡ slot.Home (record { store = c.args.store; journal = [] }) ∷ [] = c.push_reserved.ensures.items ∙ ap (λ (l : List (Slot g.row.S.Denot)). l ++ slot.Home (record { store = c.args.store; journal = journal }) ∷ []) c.in-Ok.ensures.items ∙ ap (λ (j : List Entry). slot.Home (record { store = c.args.store; journal = j }) ∷ []) c.new-journal.ensures in
    let did = TurnDid g.S.Store.held g.S.Store.last g.S.Store.faults g.S.Store.asked g.S.Store.notes in
    let At : List (Slot g.row.S.Denot) → Type 0 = λ l. Orderly g.S.Store.held g.S.Store.faults did c.args.store (opening (0 ∷ 0 ∷ 0 ∷ []) l (first_view (opening_of g.S.Store.held g.S.Store.faults c.args.store))) in
    let Of : g.row.S.Denot → Type 0 = λ s. Orderly g.S.Store.held g.S.Store.faults did s (opening (0 ∷ 0 ∷ 0 ∷ []) c.push_reserved.new.self.items (first_view (opening_of g.S.Store.held g.S.Store.faults s))) in
    subst Of (sym c.of-start.ensures) (subst At (sym items) (opens g.S.Store.held g.S.Store.faults did c.args.store))

pub only_store-requires : goal.only_store-requires
only_store-requires g c =
    (record { store = c.args.store; journal = c.new-journal.result }, c.in-Err.ensures.err ∙ c.push_reserved.ensures.items ∙ ap (λ (l : List (Slot g.row.S.Denot)). l ++ slot.Home (record { store = c.args.store; journal = c.new-journal.result }) ∷ []) c.in-Ok.ensures.items)
