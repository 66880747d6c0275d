-- Which turnstile a pass belongs to, and how its seat stands on the way through a call.
use Rattle.std.specs.Prelude.{◌≡◌, ℕ, false, Some, None, []}
use Rattle.atomic_table.specs.Table.{Me}
use Rattle.ts_turnstile.specs.declared.view.View.{View}
use Rattle.ts_turnstile.specs.declared.slot.Slot.{Slot}
use Rattle.ts_turnstile.specs.declared.pass.Pass.{Pass}
use Rattle.ts_turnstile.specs.declared.turnstile.Turnstile.{Turnstile}

-- the pass was made by this turnstile
abbrev pub Belongs : {S : Type 0} → Turnstile S → Pass → Type 0
Belongs turnstile pass = pass.badge.table_id ≡ turnstile.table.shared.table_id

-- the seat waits for nothing and has nothing
abbrev pub Rests : {S : Type 0} → Me (Slot S) View → Type 0
Rests me = (me.0.ticket ≡ None) × (me.0.turn ≡ false) × (me.0.spent ≡ false) × (me.1 ≡ [])

-- the seat waits for the turn of this ticket
abbrev pub Awaits : {S : Type 0} → Me (Slot S) View → ℕ → Type 0
Awaits me ticket = (me.0.ticket ≡ Some ticket) × (me.0.turn ≡ false) × (me.0.spent ≡ false) × (me.1 ≡ [])
