-- What passes know, and how steps change it.
use Rattle.std.specs.Prelude.{ℕ, Bool, true, false, Option, None, List, [], ◌∷◌, ◌++◌, length, if◌then◌else◌, nat_lt}
use Rattle.ts_base.specs.Held.{Held}
use Rattle.ts_turnstile.specs.declared.turn.Turn.{Turn}
use Rattle.ts_turnstile.specs.declared.view.Opening.{Opening}
use Rattle.ts_turnstile.specs.declared.view.View.{View}

-- what a store is, as far as it tells
abbrev pub opening_of : {S : Type 0} → (S → Option Held) → (S → ℕ) → S → Opening
opening_of held faults store = record { held = held store; faults = faults store }

-- what a pass knows that has seen nothing and made no call
abbrev pub new_view : Opening → ℕ → Bool → List Turn → View
new_view opening lane first seen = record { opening = opening; lane = lane; ticket = None; turn = false; seen = seen; first = first; split_off = []; joined = []; spent = false; next = 0; left = []; left_lanes = []; right = []; right_lanes = [] }

-- the first pass, which makes the calls of lane 0
abbrev pub first_view : Opening → View
first_view opening = new_view opening 0 true []

-- a pass that is gone
abbrev pub spent_view : View
spent_view = record (new_view (record { held = None; faults = 0 }) 0 false []) { spent = true }

-- the view of a pass
abbrev pub view_in : List View → View
view_in [] = spent_view
view_in (v ∷ views) = v

-- the lanes of a pass: none once it is spent
abbrev pub lanes_if : Bool → ℕ → List ℕ → List ℕ
lanes_if true lane joined = []
lanes_if false lane joined = lane ∷ joined

-- the lanes whose calls are a pass's own: its lane and those joined into it, and none where it is gone
abbrev pub lanes_of : View → List ℕ
lanes_of v = lanes_if v.spent v.lane v.joined

-- the pass has drawn this ticket, or gave its ticket back
abbrev pub with_ticket : View → Option ℕ → View
with_ticket v ticket = record v { ticket = ticket; turn = false }

-- the pass has seen these turns, and what was joined before is of no concern any more
abbrev pub saw : View → List Turn → View
saw v seen = record v { seen = seen; left = []; left_lanes = []; right = []; right_lanes = [] }

-- its turn has come, and it has seen all turns
abbrev pub in_turn : View → List Turn → View
in_turn v seen = record (saw v seen) { turn = true }

-- it is to split off this lane
abbrev pub naming : View → ℕ → View
naming v lane = record v { next = lane }

-- what is left of a pass after a lane was split off
abbrev pub left_of : View → View
left_of v = record v { split_off = v.next ∷ v.split_off }

-- the pass that was split off, which has seen what the other has
abbrev pub right_of : View → View
right_of v = new_view v.opening v.next false v.seen

-- the longer of two lists of turns
abbrev pub longer : List Turn → List Turn → List Turn
longer one other = if nat_lt (length one) (length other) then other else one

-- a pass that has taken in another
abbrev pub joined_view : View → View → View
joined_view v w = record v { seen = longer v.seen w.seen; joined = v.joined ++ lanes_of w; left = v.seen; left_lanes = lanes_of v; right = w.seen; right_lanes = lanes_of w }
