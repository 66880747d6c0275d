-- What is seen of a run of the program, and what a run may be.
use Rattle.std.specs.Prelude.{◌≡◌, ℕ, List, [], ◌∷◌, Bool, true, false, Option, Some, None, Result, Ok, Err, IfSome, All, ⊤}
use Rattle.std.specs.Io.KnownBytes.{Appends}
use Rattle.ts_base.specs.Held.{Held}
use Rattle.ts_store.specs.Counts.{Rose}
use Rattle.ts_store.specs.Streams.{AppendsFront, TakesInput}
use Rattle.ts_store.specs.declared.journal.Entry.{Entry}
use Rattle.ts_model.specs.declared.commands.Line.{Line}
use Rattle.ts_model.specs.declared.answers.Driven.{Driven}
use Rattle.ts_model.specs.declared.answers.Outcome.{Outcome}
use Rattle.ts_model.specs.declared.commands.Job.{Job}
use Rattle.ts_model.specs.Deeds.{History}
use Rattle.ts_model.specs.Told.{Told}
use Rattle.ts_law.specs.Bounds.{ReadsFew, ReadsFewListed}
use Rattle.ts_law.specs.Fresh.{AreJobsOf, IsFreshSeed, in_lane_order, lanes_of}
use Rattle.ts_law.specs.Lanes.{InTurn}
use Rattle.ts_law.specs.Runs.{IsRun}
use Rattle.ts_law.specs.Stands.{Stands}
use Rattle.ts_top.specs.declared.top.Prepared.{Prepared}
use Rattle.ts_top.specs.declared.top.Stop.{Stop}
use Rattle.ts_top.specs.declared.top.Stop.TheVariants.{Usage, BadScript, ReadFault, OutOfMemory}
use Rattle.ts_script.specs.declared.words.Asked.{Asked}
use Rattle.ts_script.specs.declared.words.Asked.TheVariants.{Command as Alone, Generate}
use Rattle.ts_script.specs.declared.words.Report.{Report}
use Rattle.ts_script.specs.Generator.{generated}
use Rattle.ts_top.specs.Runners.{run_codec, run_most, run_spelled}
use Rattle.ts_script.specs.Words.{asked}
use Rattle.ts_script.specs.Script.{Fault, Bad}
use Rattle.ts_script.specs.Meanings.{has_input, meaning, report_of}
use Rattle.ts_top.specs.Notices.{usage_text, bad_script_text}
use Rattle.ts_top.specs.Reports.{report_text, status_printed}

-- what a stream shows: its bytes before and after, where it tells them, and its counts of faults
pub record Stream : Type 0 where
  pub old : Option (List ℕ)
  pub new : Option (List ℕ)
  pub before : ℕ
  pub now : ℕ

-- what is seen of a stream by what its type tells: its bytes, and its count of faults
abbrev pub stream : {X : Type 0} → (X → Option (List ℕ)) → (X → ℕ) → X → X → Stream
stream bytes faults before later = record { old = bytes before; new = bytes later; before = faults before; now = faults later }

-- what is seen of a run: its words and seed, the numbers that its clock may give, the bytes that its source had left, those that its sink holds, its store before and after, its status and its journal
pub record Seen (S : Type 0) : Type 0 where
  pub words : List (List ℕ)
  pub seed : ℕ
  pub gives : ℕ → Bool
  pub input : Stream
  pub out : Stream
  pub store : S
  pub later : S
  pub status : ℕ
  pub journal : List Entry

-- ---- runs that stop before the first command

-- the status of a run that stopped
abbrev pub status_of : Stop → ℕ
status_of Usage = 2
status_of (BadScript n) = 3
status_of ReadFault = 4
status_of OutOfMemory = 7

-- what it prints
abbrev pub stop_text : Stop → List ℕ
stop_text Usage = usage_text
stop_text (BadScript n) = bad_script_text n
stop_text ReadFault = []
stop_text OutOfMemory = []

-- what is asked for stands for this: where there is an input, some bytes tell it, and they are the whole input where the source tells that
abbrev pub Means : Asked → Option (List ℕ) → Result (List Line) Fault → Type 0
Means (Alone line) told said = said ≡ Ok (line ∷ [])
Means (Generate cells) told said = said ≡ Ok (generated cells)
Means job told said = (input : List ℕ) × IfSome told (λ all. input ≡ all) × (meaning job input ≡ said)

-- the words ask for what stands for this
abbrev pub AskFor : List (List ℕ) → Option (List ℕ) → Result (List Line) Fault → Type 0
AskFor words told said = (job : Asked) × (asked words ≡ Some job) × Means job told said

-- nothing was read
abbrev pub IsUnread : Stream → Type 0
IsUnread input = (input.new ≡ input.old) × (input.now ≡ input.before)

-- what was taken of the input is a front of it, up to the limit: where less was taken, it is all
abbrev pub IsFrontRead : Stream → Type 0
IsFrontRead input = (taken : List ℕ) × TakesInput input.old input.new taken

-- the input that was asked for is no script, or no object of the single command: no read failed, and no more was read than an input may have and one byte more
pub record IsNoInput (words : List (List ℕ)) (input : Stream) (fault : Fault) : Type 0 where
  pub job : Asked
  pub asks : asked words ≡ Some job
  pub has : has_input job ≡ true
  pub means : Means job input.old (Err fault)
  pub front : IsFrontRead input
  pub unhurt : input.now ≡ input.before

-- why the run stopped
abbrev pub HasReason : List (List ℕ) → Stream → Stop → Type 0
HasReason words input Usage = (asked words ≡ None) × IsUnread input
HasReason words input (BadScript n) = IsNoInput words input (Bad n)
HasReason words input ReadFault = (job : Asked) × (asked words ≡ Some job) × (has_input job ≡ true) × Rose input.before input.now
HasReason words input OutOfMemory = ⊤

-- a line was printed: a front of it, and all of it unless the sink failed
pub record Prints (out : Stream) (text : List ℕ) : Type 0 where
  pub front : AppendsFront out.old out.new text
  pub whole : (Rose out.before out.now → ⊥) → Appends out.old out.new text

-- the run stopped before its first command: no call was made of the store
pub record Stopped {S : Type 0} (seen : Seen S) (stop : Stop) : Type 0 where
  pub reason : HasReason seen.words seen.input stop
  pub status : seen.status ≡ status_of stop
  pub printed : Prints seen.out (stop_text stop)
  pub journal : seen.journal ≡ []
  pub untouched : seen.later ≡ seen.store

-- ---- runs that do commands

-- the input was read to its end, with no failed read; a command without one read nothing
abbrev pub IsInputRead : Asked → Stream → Type 0
IsInputRead (Alone line) input = IsUnread input
IsInputRead (Generate cells) input = IsUnread input
IsInputRead job input = IfSome input.old (λ _. input.new ≡ Some []) × (input.now ≡ input.before)

-- the lines are those that were asked for
pub record IsRead (words : List (List ℕ)) (input : Stream) (job : Asked) (lines : List Line) : Type 0 where
  pub asks : asked words ≡ Some job
  pub means : Means job input.old (Ok lines)
  pub read : IsInputRead job input

-- the lines are there that the words ask for, and what is to be printed of their ends
abbrev pub IsPrepared : List (List ℕ) → Stream → Prepared → Type 0
IsPrepared words input prepared = (job : Asked) × IsRead words input job prepared.lines × (prepared.report ≡ report_of job)

-- the input was read up to its limit where there is one, and else nothing was
abbrev pub IsTaken : Bool → Stream → List ℕ → Type 0
IsTaken true input bytes = TakesInput input.old input.new bytes × (input.now ≡ input.before)
IsTaken false input bytes = (bytes ≡ []) × IsUnread input

-- the ends were printed, no write failed, and the run has the status that they give; or the sink failed, with status 5 and a front of the text; or there was no memory for the text, with status 7 and nothing printed
pub data PrintsEnds (out : Stream) (text : List ℕ) (printed status : ℕ) : Type 0 where
  whole : status ≡ printed → out.now ≡ out.before → Appends out.old out.new text → PrintsEnds out text printed status
  sink_failed : status ≡ 5 → Rose out.before out.now → AppendsFront out.old out.new text → PrintsEnds out text printed status
  no_text : status ≡ 7 → Appends out.old out.new [] → PrintsEnds out text printed status

-- all lines are of one lane
abbrev pub AreInOneLane : List Line → Type 0
AreInOneLane lines = (lane : ℕ) × All (λ line. line.lane ≡ lane) lines

-- below `held` is what a store holds, where it tells that, and `made` that just these calls were made of it, with these fates

-- the commands were done, those of a lane one after the other, each as a job of its line: the journal and how they came out, in lane order, are a run of these, each in its lane
pub record Performed {S : Type 0} (held : S → Option Held) (made : S → List Told → S → Type 0) (seen : Seen S) (lines : List Line) (results : List (Driven Outcome)) : Type 0 where
  pub jobs : List Job
  pub of_lines : AreJobsOf seen.gives seen.seed (in_lane_order lines) jobs
  pub run : IsRun run_codec run_spelled held made seen.seed (lanes_of (in_lane_order lines)) jobs seen.store seen.later seen.journal results
  -- the calls of a lane come in turn
  pub in_turn : InTurn (lanes_of (in_lane_order lines)) run.told
  -- over a store that told what it held, where that stands for a history that the seed is fresh over, each read makes few gets, by its listings
  pub gets : IfSome (held seen.store) (λ m. (h : History) → Stands run_spelled m h → IsFreshSeed m h seen.seed → ReadsFewListed run_spelled run_most jobs h m run.told)
  -- where all lines are of one lane: over a store that told what it held, where that stands for a history that the seed is fresh over, each read makes few gets
  pub few_gets : AreInOneLane lines → IfSome (held seen.store) (λ m. (h : History) → Stands run_spelled m h → IsFreshSeed m h seen.seed → ReadsFew run_spelled run_most jobs h m run.told)

-- the commands were done and their ends printed, or there was no memory to begin with them
pub data Plays {S : Type 0} (held : S → Option Held) (made : S → List Told → S → Type 0) (seen : Seen S) (report : Report) (lines : List Line) : Type 0 where
  ended : (results : List (Driven Outcome)) → Performed held made seen lines results → PrintsEnds seen.out (report_text report (in_lane_order lines) results) (status_printed report results) seen.status → Plays held made seen report lines
  ran_short : seen.status ≡ 7 → seen.journal ≡ [] → seen.later ≡ seen.store → Appends seen.out.old seen.out.new [] → Plays held made seen report lines

-- the run had its lines, and did their commands or found no memory to begin
pub record Played {S : Type 0} (held : S → Option Held) (made : S → List Told → S → Type 0) (seen : Seen S) (job : Asked) (lines : List Line) : Type 0 where
  pub read : IsRead seen.words seen.input job lines
  pub plays : Plays held made seen (report_of job) lines

-- what a run may be
pub data IsRunOf {S : Type 0} (held : S → Option Held) (made : S → List Told → S → Type 0) (seen : Seen S) : Type 0 where
  stopped : (stop : Stop) → Stopped seen stop → IsRunOf held made seen
  played : (job : Asked) (lines : List Line) → Played held made seen job lines → IsRunOf held made seen

-- the commands came out so that one of them counts as refused, and its line was printed: the single command, or the first of a generated script
pub record EndsRefused {S : Type 0} (held : S → Option Held) (made : S → List Told → S → Type 0) (seen : Seen S) (report : Report) (lines : List Line) : Type 0 where
  pub results : List (Driven Outcome)
  pub performed : Performed held made seen lines results
  pub refused : status_printed report results ≡ 6
  pub printed : Appends seen.out.old seen.out.new (report_text report (in_lane_order lines) results)

-- a single command or a generated script was asked for; a command was refused, and its line was printed
pub record WasRefused {S : Type 0} (held : S → Option Held) (made : S → List Told → S → Type 0) (seen : Seen S) : Type 0 where
  pub job : Asked
  pub lines : List Line
  pub read : IsRead seen.words seen.input job lines
  pub ended : EndsRefused held made seen (report_of job) lines
