-- The rule of a turnstile: what holds of its words, of the store at home and of all views, between any two steps.
--
-- Word 0 is the length of the journal: the number of turns that have an entry. Word 1 is the number of tickets drawn, and word 2 the ticket served. The slot holds the store with its journal, and nothing while a turn has it.
use Rattle.std.specs.Prelude.{◌≡◌, ℕ, ◌+◌, ◌^◌, ◌<◌, ◌≤◌, Bool, true, false, Option, Some, IfSome, List, [], ◌∷◌, length, map}
use mathlib.Core.Option as raw
use lib.ListN.{get_elem?}
use Rattle.atomic_table.specs.Table.{State}
use Rattle.ts_base.specs.Held.{Held}
use Rattle.ts_store.specs.declared.journal.Entry.{Entry}
use Rattle.ts_store.specs.Counts.{capped}
use Rattle.ts_store.specs.Journals.{failures, held_after}
use Rattle.ts_turnstile.specs.Turns.{entries_in, turns_by, GoesInto}
use Rattle.ts_turnstile.specs.Chains.{LeadTo}
use Rattle.ts_turnstile.specs.declared.closed.Closed.{Closed}
use Rattle.ts_turnstile.specs.declared.slot.Slot.{Slot}
use Rattle.ts_turnstile.specs.declared.slot.Slot.TheVariants as slot
use Rattle.ts_turnstile.specs.declared.turn.Turn.{Turn}
use Rattle.ts_turnstile.specs.declared.view.Opening.{Opening}
use Rattle.ts_turnstile.specs.declared.view.View.{View}
use Rattle.ts_turnstile.specs.Lanes.{has, Hears}
use Rattle.ts_turnstile.specs.Views.{opening_of, lanes_of}

-- the item stands at this place of the list
abbrev pub At : {A : Type 0} → List A → ℕ → A → Type 0
At items place item = get_elem? items place ≡ raw.some item

-- the store holds what the journal leaves of the opening, and its count of faults has risen by the calls that failed
pub record Replays {S : Type 0} (held : S → Option Held) (faults : S → ℕ) (opening : Opening) (journal : List Entry) (home : Closed S) : Type 0 where
  pub enters : home.journal ≡ journal
  pub told : IfSome opening.held (λ m. held home.store ≡ Some (held_after m journal))
  pub rose : capped (opening.faults + failures journal) ≤ faults home.store

-- the turns led to the store from the one that was handed in, and their entries are its journal
pub record Stands {S : Type 0} (did : S → Turn → S → Type 0) (start : S) (turns : List Turn) (home : Closed S) : Type 0 where
  pub enters : home.journal ≡ entries_in turns
  pub leads : LeadTo did start turns home.store

-- what is at home, if anything is, is the store that the turns led to
abbrev pub AtHome : {S : Type 0} → (S → Turn → S → Type 0) → S → List Turn → Slot S → Type 0
AtHome did start turns (slot.Home home) = Stands did start turns home
AtHome did start turns _ = ⊥

-- Tickets and turns

-- how a pass stands in the line
pub record Standing : Type 0 where
  pub ticket : Option ℕ
  pub turn : Bool
  pub spent : Bool

-- where a pass stands
abbrev pub standing_of : View → Standing
standing_of v = record { ticket = v.ticket; turn = v.turn; spent = v.spent }

-- the tickets of the passes are the numbers from the one served on, each in one pass. Only the pass with the served one may have the store
pub record Tickets {X : Type 0} (drawn served : ℕ) (homes : List (raw.Option X)) (all : List Standing) : Type 0 where
  pub order : served ≤ drawn
  pub few : drawn < 2 ^ 64
  pub between : (j : ℕ) (v : Standing) → At all j v → (t : ℕ) → v.ticket ≡ Some t → (served ≤ t) × (t < drawn)
  pub alone : (i : ℕ) (v : Standing) → At all i v → (j : ℕ) (w : Standing) → At all j w → (t : ℕ) → v.ticket ≡ Some t → w.ticket ≡ Some t → i ≡ j
  pub waited : (t : ℕ) → served ≤ t → t < drawn → (j : ℕ) × (v : Standing) × At all j v × (v.ticket ≡ Some t)
  pub turn : (j : ℕ) (v : Standing) → At all j v → v.turn ≡ true → (v.ticket ≡ Some served) × At homes 0 raw.none × (v.spent ≡ false)
  pub out : At homes 0 raw.none → (j : ℕ) × (v : Standing) × At all j v × (v.turn ≡ true)

-- What was seen

-- what a pass has seen
pub record Sight : Type 0 where
  pub opening : Opening
  pub spent : Bool
  pub turn : Bool
  pub seen : List Turn
  pub left : List Turn
  pub left_lanes : List ℕ
  pub right : List Turn
  pub right_lanes : List ℕ

-- what a pass has seen
abbrev pub sight_of : View → Sight
sight_of v = record { opening = v.opening; spent = v.spent; turn = v.turn; seen = v.seen; left = v.left; left_lanes = v.left_lanes; right = v.right; right_lanes = v.right_lanes }

-- each pass has seen the turns from the first on. One that is not gone has seen them all, and so has the one whose turn it is
pub record Seens (opening : Opening) (turns : List Turn) (all : List Sight) : Type 0 where
  pub begins : (j : ℕ) (v : Sight) → At all j v → GoesInto v.seen turns
  pub whole : (j : ℕ) (v : Sight) → At all j v → v.turn ≡ true → v.seen ≡ turns
  pub longest : (j : ℕ) × (v : Sight) × At all j v × ((v.spent ≡ false) × (v.seen ≡ turns))
  pub opened : (j : ℕ) (v : Sight) → At all j v → v.spent ≡ false → v.opening ≡ opening
  pub heard : (j : ℕ) (v : Sight) → At all j v → Hears v.left v.left_lanes v.seen × Hears v.right v.right_lanes v.seen

-- The lanes

-- the lanes of a pass with what it has seen
pub record Share : Type 0 where
  pub lanes : List ℕ
  pub seen : List Turn

-- the lanes of a pass, and what it has seen
abbrev pub share_of : View → Share
share_of v = record { lanes = lanes_of v; seen = v.seen }

-- a pass has seen each turn of its lanes, and a lane of no pass had none
pub record Owned (turns : List Turn) (all : List Share) : Type 0 where
  pub own : (j : ℕ) (v : Share) → At all j v → (lane : ℕ) → has lane v.lanes ≡ true → turns_by lane turns ≡ turns_by lane v.seen
  pub strangers : (lane : ℕ) → ((j : ℕ) (v : Share) → At all j v → has lane v.lanes ≡ false) → turns_by lane turns ≡ []

-- the lanes of a pass, and those that were split off it where it is the first
pub record Claim : Type 0 where
  pub lanes : List ℕ
  pub first : Bool
  pub split_off : List ℕ

-- the lanes of a pass, and those that were split off it
abbrev pub claim_of : View → Claim
claim_of v = record { lanes = lanes_of v; first = v.first; split_off = v.split_off }

-- lane 0 and the lanes that were split off the first pass stand in one pass each, and no other lane does
pub record Claims (all : List Claim) : Type 0 where
  pub apart : (i : ℕ) (v : Claim) → At all i v → (j : ℕ) (w : Claim) → At all j w → (lane : ℕ) → has lane v.lanes ≡ true → has lane w.lanes ≡ true → i ≡ j
  pub one_first : (i : ℕ) (v : Claim) → At all i v → (j : ℕ) (w : Claim) → At all j w → v.first ≡ true → w.first ≡ true → i ≡ j
  pub listed : (i : ℕ) (v : Claim) → At all i v → (j : ℕ) (w : Claim) → At all j w → v.first ≡ true → (lane : ℕ) → has lane w.lanes ≡ true → has lane (0 ∷ v.split_off) ≡ true
  pub stands : (i : ℕ) (v : Claim) → At all i v → v.first ≡ true → (lane : ℕ) → has lane (0 ∷ v.split_off) ≡ true
      → (j : ℕ) × (w : Claim) × At all j w × (has lane w.lanes ≡ true)

module _ {S : Type 0} (held : S → Option Held) (faults : S → ℕ) (did : S → Turn → S → Type 0) (start : S) where
  pub record Orderly (s : State (Slot S) View) : Type 0 where
    pub turns : List Turn
    pub drawn : ℕ
    pub served : ℕ
    pub words : s.words ≡ length (entries_in turns) ∷ drawn ∷ served ∷ []
    pub slots : length s.homes ≡ 1
    pub value : (home : Slot S) → At s.homes 0 (raw.some home) → AtHome did start turns home
    pub tickets : Tickets drawn served s.homes (map standing_of s.views)
    pub seens : Seens (opening_of held faults start) turns (map sight_of s.views)
    pub owned : Owned turns (map share_of s.views)
    pub claims : Claims (map claim_of s.views)
