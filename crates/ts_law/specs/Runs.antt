-- Runs: what the jobs of some lanes did, those of a lane one after the other.
use Rattle.std.specs.Prelude.{◌≡◌, ℕ, List, [], ◌++◌, Option, Some, length, slice_get, IfSome, All}
use Rattle.ts_store.specs.declared.journal.Entry.{Entry}
use Rattle.ts_model.specs.declared.commands.Job.{Job}
use Rattle.ts_model.specs.declared.answers.Outcome.{Outcome}
use Rattle.ts_model.specs.declared.answers.Driven.{Driven}
use Rattle.ts_base.specs.Held.{Held}
use Rattle.ts_store.specs.Journals.{held_after}
use Rattle.ts_model.specs.declared.answers.Driven.TheVariants.{Done}
use Rattle.ts_model.specs.Driven.{IsDriven}
use Rattle.ts_model.specs.Told.{Told, trace_of, Suits, Replied, entries_of, held_told, history_told}
use Rattle.ts_law.specs.Fresh.{IsFreshSeed}
use Rattle.ts_law.specs.Lanes.{lane_by, IsOwned, AreInLanes}
use Rattle.ts_law.specs.Histories.{history_of}
use Rattle.ts_model.specs.Codecs.{Codec, Spelled}
use Rattle.ts_law.specs.Stands.{Stands}
use Rattle.ts_law.specs.Kept.{HeldSince}
use Rattle.ts_law.specs.Sweeps.{IsNoSweep, StayInTheirOwn}
use Rattle.ts_law.specs.Ends.{IsTrueOver}
use Rattle.ts_law.specs.Changes.{ChangedNothing, OnlyLooks, PutsAlone, RemovesNone, SweepsAlone, UnlocksAlone}
use Rattle.ts_law.specs.Refusals.{IsNoFault, IsRefusedFor}
use Rattle.ts_model.specs.declared.commands.Command.TheVariants.{Vacuum, Unlock}
use Rattle.ts_model.specs.declared.answers.Refusal.{Refusal}
use Rattle.ts_model.specs.Deeds.{History}
use Rattle.ts_law.specs.Courses.{IsSegment}
use Rattle.ts_model.specs.declared.answers.Outcome.TheVariants as outcome

-- each job was driven by its own calls, to its end or to its stop
pub record AreDriven {F : Type 0} (codec : Codec F) (jobs : List Job) (results : List (Driven Outcome)) (told : List Told) : Type 0 where
  pub one_each : length results ≡ length jobs
  pub driven : (number : ℕ) (job : Job) (result : Driven Outcome) → slice_get jobs number ≡ Some job → slice_get results number ≡ Some result → IsDriven codec job (trace_of number told) result

-- each job made the calls of its course, and ended by them, or where it was stopped
abbrev pub AreSegments : {F : Type 0} → Codec F → List Job → List (Driven Outcome) → List Told → Type 0
AreSegments codec jobs results told =
    (number : ℕ) (job : Job) (result : Driven Outcome) → slice_get jobs number ≡ Some job → slice_get results number ≡ Some result → IsSegment codec job (trace_of number told) result

-- each first part of what was told leaves objects that stand for its history, and so does each first part of the journal. By calls of which none is of a vacuum, what is held stays held, but for leases, and each write stays in its own fragment. What each end tells of the history is true as soon as its job has made its calls, and each job that ended refused is so for its cause, and but for a fault changed nothing. A vacuum and an unlock, however they came out, changed no other objects than they are to remove, and a read and a list of the commits none but a lease. Any other command changed its own objects alone, and a create the frame; a job that was stopped has no end
pub record IsTrueRun (spelled : Spelled) (lanes : ℕ → ℕ) (jobs : List Job) (h : History) (m : Held) (told : List Told) (results : List (Driven Outcome)) : Type 0 where
  pub stands : (front back : List Told) → told ≡ front ++ back → Stands spelled (held_after m (entries_of (lane_by lanes) front)) (history_told jobs h front)
  pub journal : (front back : List Entry) → entries_of (lane_by lanes) told ≡ front ++ back → Stands spelled (held_after m front) (history_of h m jobs front)
  pub own : StayInTheirOwn spelled jobs h m told
  pub stays : (front mid back : List Told) → told ≡ front ++ (mid ++ back) → All (IsNoSweep jobs) mid → HeldSince (held_told m front) (held_told m (front ++ mid))
  pub answers : (front back : List Told) → told ≡ front ++ back → (number : ℕ) (job : Job) (end : Outcome) → slice_get jobs number ≡ Some job → slice_get results number ≡ Some (Done end) → trace_of number back ≡ []
      → IsTrueOver spelled m jobs h front number job end
  pub causes : (number : ℕ) (job : Job) (r : Refusal) → slice_get jobs number ≡ Some job → slice_get results number ≡ Some (Done (outcome.Refused r)) → IsRefusedFor spelled m jobs h told number job r
  pub idle : (number : ℕ) (job : Job) (r : Refusal) → slice_get jobs number ≡ Some job → slice_get results number ≡ Some (Done (outcome.Refused r)) → IsNoFault r → ChangedNothing m told number job
  pub sweeps : (number : ℕ) (job : Job) → slice_get jobs number ≡ Some job → job.command ≡ Vacuum → SweepsAlone m told number job
  pub unlocks : (number : ℕ) (job : Job) (seed lane : ℕ) → slice_get jobs number ≡ Some job → job.command ≡ Unlock seed lane → UnlocksAlone m told number job
  pub looks : (number : ℕ) (job : Job) → slice_get jobs number ≡ Some job → OnlyLooks job.command → ChangedNothing m told number job
  pub puts : (number : ℕ) (job : Job) → slice_get jobs number ≡ Some job → RemovesNone job.command → PutsAlone m told number job

-- what a run is over a store that held m
pub record IsRunOver (spelled : Spelled) (seed : ℕ) (lanes : ℕ → ℕ) (jobs : List Job) (m : Held) (later : Option Held) (journal : List Entry) (told : List Told) (results : List (Driven Outcome)) : Type 0 where
  -- each call is replied to as by a store of one thread
  pub replied : Replied m told
  -- the store now holds what the journal leaves
  pub held : later ≡ Some (held_after m journal)
  -- where the objects stand for a history that the seed is fresh over, the run is true of it
  pub true_run : (h : History) → Stands spelled m h → IsFreshSeed m h seed → IsTrueRun spelled lanes jobs h m told results

-- the jobs ran in these lanes over a store, made the entries of the journal, and came out so; `held` is what a store holds, where it tells that, and `made` says that just these calls were made of it, with these fates
pub record IsRun {F S : Type 0} (codec : Codec F) (spelled : Spelled) (held : S → Option Held) (made : S → List Told → S → Type 0) (seed : ℕ) (lanes : ℕ → ℕ) (jobs : List Job) (store later : S) (journal : List Entry) (results : List (Driven Outcome)) : Type 0 where
  pub told : List Told
  -- each call is one that a job made
  pub owned : All IsOwned told
  -- just these calls were made of the store, and the fate that is told of each is the one that the store has for it
  pub calls : made store told later
  -- the journal has them with these fates, but for those that found no memory
  pub entries : entries_of (lane_by lanes) told ≡ journal
  -- each reply suits its call: it tells of a failure just where the journal does
  pub suit : All Suits told
  -- each job makes just calls that it may make, and those of a lane come one after the other
  pub in_lanes : AreInLanes codec lanes jobs told
  -- each comes out by the replies to its calls
  pub driven : AreDriven codec jobs results told
  -- each job makes the calls of its course, and ends by them, or where it is stopped
  pub segments : AreSegments codec jobs results told
  -- over a store that told what it held
  pub over : IfSome (held store) (λ m. IsRunOver spelled seed lanes jobs m (held later) journal told results)
