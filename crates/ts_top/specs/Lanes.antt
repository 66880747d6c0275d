-- What a run promises while its lanes are at work beside one another: what its printed text and the end of each command mean, in words of the times of the run.
use Rattle.std.specs.Prelude.{◌≡◌, ℕ, ◌≤◌, Bool, List, Option, Some, Ok, length, slice_get, All, ◌⊎◌}
use Rattle.std.specs.Io.KnownBytes.{Appends}
use Rattle.ts_base.specs.Held.{Held}
use Rattle.ts_store.specs.Journals.{held_after}
use Rattle.ts_store.specs.Streams.{AppendsFront}
use Rattle.ts_model.specs.declared.commands.Line.{Line}
use Rattle.ts_model.specs.declared.answers.Answer.{Answer}
use Rattle.ts_model.specs.declared.answers.Driven.{Driven}
use Rattle.ts_model.specs.declared.answers.Driven.TheVariants.{Done}
use Rattle.ts_model.specs.declared.answers.Outcome.{Outcome}
use Rattle.ts_model.specs.declared.answers.Outcome.TheVariants as outcome
use Rattle.ts_model.specs.Answers.{IsWhole}
use Rattle.ts_model.specs.Deeds.{History}
use Rattle.ts_law.specs.Fresh.{IsStampOf, Numbered, command_at, id_of, in_lane_order}
use Rattle.ts_law.specs.Stands.{EachInItsOwn}
use Rattle.ts_law.specs.Sweeps.{IsNoVacuum}
use Rattle.ts_script.specs.declared.words.Asked.{Asked}
use Rattle.ts_script.specs.Words.{asked}
use Rattle.ts_script.specs.Meanings.{report_of}
use Rattle.ts_top.specs.Promise.{IsStored, KeepsStop, Promise}
use Rattle.ts_top.specs.Reports.{report_text}
use Rattle.ts_top.specs.Runners.{run_spelled}
use Rattle.ts_top.specs.Seen.{AreInOneLane, Seen, Means}
use Rattle.ts_top.specs.Times.{Made, Span, Timeline, entries_by, held_at, journal_of}
use Rattle.ts_top.specs.Together.{WasDone}

-- the call is one of a command of these, in the lane of its line
abbrev pub IsOfLane : List Numbered → Made → Type 0
IsOfLane items c = (item : Numbered) × (slice_get items c.number ≡ Some item) × (c.entry.lane ≡ item.line.lane)

-- in each lane the commands come one after the other: no call of a later one stands before one of an earlier one
abbrev pub ComeInTurn : List Made → Type 0
ComeInTurn calls = (i n : ℕ) (a b : Made) → i ≤ n → slice_get calls i ≡ Some a → slice_get calls n ≡ Some b → a.entry.lane ≡ b.entry.lane → a.number ≤ b.number

-- the command of a line was done in the run, at a stamp of the line, by no call at which the line stops it.
-- Its key is that stamp, with the identifier that is made of the seed, the lane and the line's number there.
abbrev pub LineWasDone : (ℕ → Bool) → ℕ → Span → Numbered → Driven Outcome → Type 0
LineWasDone gives seed s item result =
    KeepsStop item.line.stop (record { opening = s.run.opening; entries = entries_by s.number s.run.calls })
    × ((at : ℕ) × IsStampOf gives item.line at × WasDone s (record { t = at; id = id_of seed item.line.lane item.number }) item.line.stop result (command_at seed item.line at))

-- what a run promises over objects and the history that they stand for.
-- The commands that were asked for were done, those of a lane one after the other, and came out so: each with an end, or stopped.
-- After each call, whoever made it, the objects stand for the history, and the store holds those after the last.
-- What was printed tells the ends, with status 0 or 6, or is a front of that.
pub record PromiseOfLanes {S : Type 0} (held : S → Option Held) (seen : Seen S) (m : Held) (past : History) : Type 0 where
  pub job : Asked
  pub asks : asked seen.words ≡ Some job
  pub lines : List Line
  pub means : Means job seen.input.old (Ok lines)
  pub ends : List (Driven Outcome)
  pub one_each : length ends ≡ length lines
  -- the times of the run: its calls are those of the journal, and it goes on from the past
  pub run : Timeline
  pub begins : (run.opening ≡ m) × (run.history 0 ≡ past) × (journal_of run.calls ≡ seen.journal)
  pub in_lanes : All (IsOfLane (in_lane_order lines)) run.calls
  pub in_turn : ComeInTurn run.calls
  pub done : (i : ℕ) (item : Numbered) (end : Driven Outcome) → slice_get (in_lane_order lines) i ≡ Some item → slice_get ends i ≡ Some end
      → (from : ℕ) × (to : ℕ) × LineWasDone seen.gives seen.seed (record { run = run; number = i; from = from; to = to }) item end
  -- without a vacuum no answer is clipped, where at the beginning each write is in its own fragment, as from nothing
  pub unclipped : EachInItsOwn run_spelled m past → All IsNoVacuum lines → (i : ℕ) (answer : Answer) → slice_get ends i ≡ Some (Done (outcome.Read answer)) → IsWhole answer
  -- after each call, also of a stopped command, the objects stand for the history
  pub stood : (n : ℕ) → n ≤ length run.calls → IsStored (held_at run n) (run.history n)
  pub stored : held seen.later ≡ Some (held_after m seen.journal)
  pub front : AppendsFront seen.out.old seen.out.new (report_text (report_of job) (in_lane_order lines) ends)
  pub whole : (seen.status ≡ 0) ⊎ (seen.status ≡ 6) → Appends seen.out.old seen.out.new (report_text (report_of job) (in_lane_order lines) ends)
  -- a script of one lane, as each single command is, is done one command after the other
  pub alone : AreInOneLane lines → (one : Promise held seen m past) × (one.lines ≡ lines) × (one.ends ≡ ends)
