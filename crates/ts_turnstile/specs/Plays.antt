-- What the steps of a turnstile tell of the one who makes them.
use Rattle.std.specs.Prelude.{◌≡◌, ◌≢◌, ℕ, ◌==◌, true, false, MatchBool, Option, Some, None, [], ◌∷◌, ◌++◌, ⊤}
use mathlib.Core.Option as raw
use Rattle.ts_base.specs.Held.{Held}
use Rattle.atomic_table.specs.Table.{Step, Me}
use Rattle.ts_turnstile.specs.declared.closed.Closed.{Closed}
use Rattle.ts_turnstile.specs.declared.slot.Slot.{Slot}
use Rattle.ts_turnstile.specs.declared.slot.Slot.TheVariants as slot
use Rattle.ts_turnstile.specs.declared.turn.Turn.{Turn}
use Rattle.ts_turnstile.specs.declared.view.View.{View}
use Rattle.ts_turnstile.specs.Turns.{turns_by}
use Rattle.ts_turnstile.specs.Lanes.{has, Hears}
use Rattle.ts_turnstile.specs.Views.{opening_of, with_ticket, in_turn, naming, lanes_of}
use Rattle.ts_turnstile.specs.Rule.{Stands}

module _ {S : Type 0} where
  -- where the step is told which store was handed in, this holds of that
  abbrev pub IfOpened : raw.Option (Slot S) → (S → Type 0) → Type 0
  IfOpened (raw.some (slot.Opened opened)) P = P opened.value.value
  IfOpened _ P = ⊤

  -- where the step is told what was done in the turn, this holds of that
  abbrev pub IfDone : raw.Option (Slot S) → (Turn → Type 0) → Type 0
  IfDone (raw.some (slot.Done done)) P = P done.value
  IfDone _ P = ⊤

  -- where the number of tickets drawn was the expected one, it is the ticket
  abbrev pub drew : Step (Slot S) → Me (Slot S) View → ℕ → Me (Slot S) View → Type 0
  drew st m found m' = MatchBool (found == st.first) (m' ≡ (with_ticket m.0 (Some found), m.1)) (m' ≡ m)

  -- what was done in the turn was posted, and the pass has seen it
  abbrev pub posted : Step (Slot S) → Me (Slot S) View → ℕ → Me (Slot S) View → Type 0
  posted st m found m' = IfDone st.said (λ t. m' ≡ (in_turn m.0 (m.0.seen ++ t ∷ []), m.1))

  -- the store was given back
  abbrev pub served : Step (Slot S) → Me (Slot S) View → ℕ → Me (Slot S) View → Type 0
  served st m found m' = m' ≡ (with_ticket m.0 None, [])

  -- the store was taken: the turns that the pass now has seen led to it from the one that was handed in, and go on from what was seen by turns of others
  pub record Took (held : S → Option Held) (faults : S → ℕ) (did : S → Turn → S → Type 0) (start : S) (m m' : Me (Slot S) View) : Type 0 where
    pub home : Closed S
    pub seat : m' ≡ (in_turn m.0 m'.0.seen, (0, slot.Home home) ∷ m.1)
    pub stands : Stands did start m'.0.seen home
    pub goes_on : Hears m.0.seen (lanes_of m.0) m'.0.seen
    pub opened : m.0.opening ≡ opening_of held faults start

  -- where the ticket served is the pass's own it took the store
  abbrev pub looked : (S → Option Held) → (S → ℕ) → (S → Turn → S → Type 0) → Step (Slot S) → Me (Slot S) View → ℕ → Me (Slot S) View → Type 0
  looked held faults did st m found m' = (m.0.ticket ≡ Some found → IfOpened st.said (λ start. Took held faults did start m m')) × (m.0.ticket ≢ Some found → m' ≡ m)

-- the lane is named by the operand. One that was not split off before had no turn
abbrev pub named : {X : Type 0} → Step X → Me X View → ℕ → Me X View → Type 0
named st m found m' = (m' ≡ (naming m.0 st.first, m.1)) × (m.0.first ≡ true → has st.first (0 ∷ m.0.split_off) ≡ false → turns_by st.first m.0.seen ≡ [])

-- what was seen goes on from what each of the two had seen that were joined last
abbrev pub heard : {X : Type 0} → Step X → Me X View → ℕ → Me X View → Type 0
heard st m found m' = (m' ≡ m) × Hears m.0.left m.0.left_lanes m.0.seen × Hears m.0.right m.0.right_lanes m.0.seen
