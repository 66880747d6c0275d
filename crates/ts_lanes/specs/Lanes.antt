-- What lanes have done, by the turns that were their own.
use Rattle.std.specs.Prelude.{◌≡◌, ℕ, ◌+◌, ◌<◌, ◌≤◌, true, false, List, [], ◌∷◌, length, slice_get, Some, vec_capacity}
use Rattle.std.specs.declared.alloc.Global.{Global}
use Rattle.std.specs.declared.vec.Vec.{Vec}
use Rattle.ts_model.specs.declared.answers.Driven.{Driven}
use Rattle.ts_model.specs.declared.answers.Outcome.{Outcome}
use Rattle.ts_model.specs.States.{Exchange}
use Rattle.ts_turnstile.specs.declared.turn.Turn.{Turn}
use Rattle.ts_turnstile.specs.declared.view.View.{View}
use Rattle.ts_turnstile.specs.Turns.{turns_by}
use Rattle.ts_turnstile.specs.Lanes.{has}
use Rattle.ts_turnstile.specs.Views.{lanes_of}
use Rattle.ts_lanes.specs.Commands.{Did}

-- a lane did all its commands in these turns, one after the other
pub record LaneDid (came : ℕ → ℕ → List Exchange → Driven Outcome → Type 0) (count : ℕ) (lane : ℕ) (results : List (Driven Outcome)) (turns : List Turn) : Type 0 where
  pub one_each : length results ≡ count
  pub did : Did came lane 1 results turns

-- the pass is the first one, and its lane had no turn yet. So many lanes may be split off it, and those that were are no higher than the top
pub record MaySplit (top lane : ℕ) (v : View) : Type 0 where
  pub below : lane ≤ top
  pub first : v.first ≡ true
  pub lanes : lanes_of v ≡ 0 ∷ []
  pub seen : v.seen ≡ []
  pub unsplit : (n : ℕ) → 0 < n → n ≤ lane → has n v.split_off ≡ false
  pub within : (n : ℕ) → has n v.split_off ≡ true → n ≤ top

-- the pass is that of a lane which had no turn yet
pub record IsNewLane (lane : ℕ) (v : View) : Type 0 where
  pub lanes : lanes_of v ≡ lane ∷ []
  pub own : v.lane ≡ lane
  pub none : turns_by lane v.seen ≡ []

-- each lane's room is empty, and has room for the results of its commands
abbrev pub AreRooms : (ℕ → ℕ) → List (Vec (Driven Outcome) Global) → Type 0
AreRooms count rooms = (n : ℕ) (room : Vec (Driven Outcome) Global) → slice_get rooms n ≡ Some room → (room.items ≡ []) × (count n ≤ vec_capacity room)

-- each lane has a queue of all its commands
pub record AreQueues {Q : Type 0} (lanes : ℕ) (waits : ℕ → ℕ → Q → Type 0) (queues : List Q) : Type 0 where
  pub one_each : length queues ≡ lanes
  pub all : (lane : ℕ) (queue : Q) → slice_get queues lane ≡ Some queue → waits lane 1 queue

-- the lanes up to one can be run: there are so many, their passes may be split off, and each has its room and its queue
pub record IsReady {Q : Type 0} (lanes : ℕ) (count : ℕ → ℕ) (waits : ℕ → ℕ → Q → Type 0) (top lane : ℕ) (v : View) (rooms : List (Vec (Driven Outcome) Global)) (queues : List Q) : Type 0 where
  pub below : lane < lanes
  pub may : MaySplit top lane v
  pub many : length rooms ≡ lane + 1
  pub empty : AreRooms count rooms
  pub queued : AreQueues (lane + 1) waits queues

-- the lane can be run: it is one of so many, its pass is new, it has room for its results, and a queue of all its commands
pub record IsReadyLane {Q : Type 0} (lanes : ℕ) (count : ℕ → ℕ) (waits : ℕ → ℕ → Q → Type 0) (lane : ℕ) (v : View) (room : Vec (Driven Outcome) Global) (queue : Q) : Type 0 where
  pub below : lane < lanes
  pub new : IsNewLane lane v
  pub empty : room.items ≡ []
  pub holds : count lane ≤ vec_capacity room
  pub queued : waits lane 1 queue

-- the first pass, into which the lanes up to one were joined: each has done its commands
pub record DidDown (came : ℕ → ℕ → List Exchange → Driven Outcome → Type 0) (count : ℕ → ℕ) (top lane : ℕ) (results : List (Vec (Driven Outcome) Global)) (w : View) : Type 0 where
  pub one_each : length results ≡ lane + 1
  pub first : w.first ≡ true
  pub lanes : (n : ℕ) → n ≤ lane → has n (lanes_of w) ≡ true
  pub only : (n : ℕ) → has n (lanes_of w) ≡ true → n ≤ lane
  pub within : (n : ℕ) → has n w.split_off ≡ true → n ≤ top
  pub did : (n : ℕ) (room : Vec (Driven Outcome) Global) → slice_get results n ≡ Some room → LaneDid came (count n) n room.items (turns_by n w.seen)

-- the first pass, into which all lanes were joined: each has done its commands, and no other had a turn
pub record LanesDid (came : ℕ → ℕ → List Exchange → Driven Outcome → Type 0) (lanes : ℕ) (count : ℕ → ℕ) (results : List (Vec (Driven Outcome) Global)) (w : View) : Type 0 where
  pub one_each : length results ≡ lanes
  pub first : w.first ≡ true
  pub joined : (n : ℕ) → has n (0 ∷ w.split_off) ≡ true → has n (lanes_of w) ≡ true
  pub did : (n : ℕ) (room : Vec (Driven Outcome) Global) → slice_get results n ≡ Some room → LaneDid came (count n) n room.items (turns_by n w.seen)
  pub others : (n : ℕ) → has n (lanes_of w) ≡ true → lanes ≤ n → turns_by n w.seen ≡ []
