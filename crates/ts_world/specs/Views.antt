-- What contracts see of a world.
use Rattle.std.specs.Prelude.{ℕ, List, Option, Some, None, option_and_then, slice_get, ⊤}
use Rattle.ts_base.specs.Held.{Held}
use Rattle.ts_store.specs.declared.call.Reply.{Reply}
use Rattle.ts_store.specs.declared.call.Reply.TheVariants as reply
use Rattle.ts_store.specs.declared.journal.Entry.{Entry}
use Rattle.ts_model.specs.declared.commands.Job.{Job}
use Rattle.ts_model.specs.declared.answers.Outcome.{Outcome}
use Rattle.ts_model.specs.Deeds.{History}
use Rattle.ts_model.specs.Told.{Told}
use Rattle.ts_law.specs.Lanes.{lane_by, own_lane}

-- where an actor stands: it runs, it ended, or it was dropped
pub data Standing : Type 0 where
  Runs : Standing
  Ended : Outcome → Standing
  Dropped : Standing

-- a world: what the store held when it began, the past, the job of each actor that ever came, the calls that were made since with all that is known of each, what the store holds now, the journal, and where each actor stands
pub record WorldView : Type 0 where
  pub opening : Held
  pub past : History
  pub jobs : List Job
  pub told : List Told
  pub held : Held
  pub journal : List Entry
  pub actors : List Standing

-- the end of an actor that ended
abbrev pub end_in : Standing → Option Outcome
end_in (Ended end) = Some end
end_in _ = None

-- the end of the actor with a number, if there is one and it ended
abbrev pub end_of : List Standing → ℕ → Option Outcome
end_of actors number = option_and_then end_in (slice_get actors number)

-- a restart drops an actor that runs
abbrev pub dropped : Standing → Standing
dropped Runs = Dropped
dropped s = s

-- each actor has the lane of its number, and a call of nobody one that no actor has
abbrev pub lane_of : Option ℕ → ℕ
lane_of by = lane_by own_lane by

-- a reply with names or bytes, which changes nothing
abbrev pub HasList : Reply → Type 0
HasList (reply.Names names) = ⊤
HasList (reply.Bytes bytes) = ⊤
HasList _ = ⊥
