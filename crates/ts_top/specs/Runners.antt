-- What the program does jobs by, and what doing the lines of a script is.
use Rattle.std.specs.Prelude.{ℕ, Bool, List, Option}
use Rattle.ts_base.specs.Held.{Held}
use Rattle.ts_store.specs.declared.call.Call.{Call}
use Rattle.ts_store.specs.declared.call.Reply.{Reply}
use Rattle.ts_store.specs.declared.fate.Fate.{Fate}
use Rattle.ts_store.specs.declared.journal.Entry.{Entry}
use Rattle.ts_store.specs.Recorders.{WasMade}
use Rattle.ts_model.specs.declared.answers.Driven.{Driven}
use Rattle.ts_model.specs.declared.answers.Outcome.{Outcome}
use Rattle.ts_model.specs.declared.commands.Job.{Job}
use Rattle.ts_model.specs.Codecs.{Codec, Spelled, Tracking}
use Rattle.ts_model.specs.Gets.{MostGets}
use Rattle.ts_model.specs.Told.{Told}
use Rattle.ts_law.specs.Fresh.{AreJobsOf, Numbered, lanes_of}
use Rattle.ts_law.specs.Runs.{IsRun}
use Rattle.ts_dense.specs.Dense.{IsDense}
use Rattle.ts_actor.specs.Drives.{Exchanged, MadeOf}
use Rattle.ts_fetch.specs.Plans.{Going, calls_left}
use Rattle.ts_kinds.specs.declared.either_fetch.EitherFetch.{EitherFetch}
use Rattle.ts_kinds.specs.Kinds.{either_codec, either_count, either_most, either_spelled, either_tracks}
use Rattle.ts_sparse_read.specs.declared.opened.Opened.{Opened as SparseOpened}
use Rattle.ts_sparse_read.specs.Codecs.{sparse_codec, sparse_gets, SparseTracks, IsSparseIn}
use Rattle.ts_dense_read.specs.declared.opened.Opened.{Opened as DenseOpened}
use Rattle.ts_dense_read.specs.SpaceCodecs.{space_codec, space_gets, SpaceTracks}

-- just these calls were made of a store, but for such as found no memory; the store's own members say what each did, each get raised its count of gets by one, and the fate that is told of a call is the store's own
abbrev pub JustMade : {S : Type 0} → (S → Option Held) → (S → Fate) → (S → ℕ) → (S → ℕ) → (S → Call → Reply → S → Type 0) → S → List Told → S → Type 0
JustMade held last faults asked notes before told later = MadeOf last (Exchanged held last faults (WasMade asked notes)) before told later

-- how far a fetch of the program has come: it goes through the tiles of its plan
abbrev pub RunFetch : Type 0
RunFetch = EitherFetch (Going DenseOpened) (Going SparseOpened)

-- the functions of the program's way to write fragments: those of dense arrays stand in space tiles, those of sparse arrays in tiles of so many cells
abbrev pub run_codec : Codec RunFetch
run_codec = either_codec space_codec sparse_codec

-- which pieces the parts of fragments spell that are written so
abbrev pub run_spelled : Spelled
run_spelled = either_spelled IsDense IsSparseIn

-- what a fetch of the program waits for
abbrev pub run_tracks : Tracking RunFetch
run_tracks = either_tracks SpaceTracks SparseTracks

-- the most gets that a fetch of the program may make: in a dense array so many as `space_gets` says, in a sparse one as `sparse_gets`
abbrev pub run_most : MostGets
run_most = either_most space_gets sparse_gets

-- more than the calls that a fetch of the program still asks for
abbrev pub run_left : RunFetch → ℕ
run_left = either_count calls_left calls_left

-- the commands of lines were done, those of a lane one after the other, each as a job of its line: the journal and how they came out are a run of these, each in its lane
pub record RanLines {S : Type 0} (held : S → Option Held) (made : S → List Told → S → Type 0) (gives : ℕ → Bool) (seed : ℕ) (items : List Numbered) (store later : S) (journal : List Entry) (results : List (Driven Outcome)) : Type 0 where
  pub jobs : List Job
  pub of_lines : AreJobsOf gives seed items jobs
  pub run : IsRun run_codec run_spelled held made seed (lanes_of items) jobs store later journal results
