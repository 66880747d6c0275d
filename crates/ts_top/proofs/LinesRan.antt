-- The commands of lines were done: each is a job of its line, and each read makes few gets.
use Rattle.std.proofs.Common.{◌≡◌, ℕ, ◌<◌, ◌^◌, Bool, List, Option, Some, length, sym, ◌∙◌, subst, arith}
use Rattle.ts_base.specs.Held.{Held}
use Rattle.ts_store.specs.declared.journal.Entry.{Entry}
use Rattle.ts_model.specs.declared.answers.Driven.{Driven}
use Rattle.ts_model.specs.declared.answers.Outcome.{Outcome}
use Rattle.ts_model.specs.declared.commands.Line.{Line}
use Rattle.ts_model.specs.Told.{Told}
use Rattle.ts_law.specs.Fresh.{IsJobOf, IsStampOf, Numbered, id_of, in_lane_order, job_from, lanes_of}
use Rattle.ts_law.proofs.LineJobs.{in_order, job_of_line}
use Rattle.ts_script.specs.Script.{AreLimited}
use Rattle.ts_top.specs.Crews.{IsTaskOf, item_of}
use Rattle.ts_top.specs.Runners.{RanLines}
use Rattle.ts_top.specs.Seen.{Seen, Performed}
use Rattle.ts_top.proofs.FewListed.{reads_few_listed}
use Rattle.ts_top.proofs.FewReads.{few_reads}
use Rattle.ts_top.proofs.LinesDone.{one_turn}

-- the job of a line at its stamp is one of the command of its lane
pub task_of : (gives : ℕ → Bool) (seed : ℕ) (lines : List Line) (lane number at : ℕ) (line : Line) → item_of lines lane number ≡ Some (record { number = number; line = line }) → line.lane ≡ lane → IsStampOf gives line at
    → IsTaskOf gives seed lines lane number (job_from (id_of seed line.lane number) line at)
task_of gives seed lines lane number at line is in_lane stamp =
    let item : Numbered = record { number = number; line = line } in
    (item, is, subst (λ l. IsJobOf gives (id_of seed l number) line (job_from (id_of seed line.lane number) line at)) in_lane (job_of_line gives (id_of seed line.lane number) line at stamp))

module _ {S : Type 0} (held : S → Option Held) (made : S → List Told → S → Type 0) where
  -- each line has a result
  pub as_many : (gives : ℕ → Bool) (seed : ℕ) (items : List Numbered) (store later : S) (journal : List Entry) (results : List (Driven Outcome)) → RanLines held made gives seed items store later journal results → length items ≡ length results
  as_many gives seed items store later journal results ran = sym (ran.run.driven.one_each ∙ ran.of_lines.one_each)

  -- the commands were done
  pub performed : (seen : Seen S) (lines : List Line) (results : List (Driven Outcome)) → AreLimited lines → seen.seed < 2 ^ 64 → RanLines held made seen.gives seen.seed (in_lane_order lines) seen.store seen.later seen.journal results → Performed held made seen lines results
  performed seen lines results limited fits ran =
      let run = ran.run in
      let in_turn = run.in_lanes.in_turn in
      record {
        jobs = ran.jobs;
        of_lines = ran.of_lines;
        run = run;
        in_turn = in_turn;
        gets = reads_few_listed seen.gives seen.seed (in_lane_order lines) ran.jobs (held seen.store) (held seen.later) seen.journal run.told results ran.of_lines (in_order lines (let few = limited.few in omega (arith, few)) limited.fit) fits run.suit run.owned run.in_lanes.within in_turn run.driven run.over;
        few_gets = λ alone. few_reads seen.seed (lanes_of (in_lane_order lines)) ran.jobs (held seen.store) (held seen.later) seen.journal run.told results run.over run.owned (one_turn lines ran.jobs ran.of_lines.one_each run.told run.in_lanes.within in_turn alone) run.driven;
      }
