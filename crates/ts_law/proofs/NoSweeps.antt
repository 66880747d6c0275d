-- Scripts without a vacuum: none of their calls is one's, so no answer names a clipped fragment, where at the beginning each write is in its own one.
use Rattle.std.proofs.Common.{◌≡◌, ℕ, Bool, true, false, List, [], ◌∷◌, Some, refl, sym, ◌∙◌}
use Rattle.std.specs.Prelude.{All, Contains, slice_get}
use Rattle.std.proofs.lemmas.List.{append-nil}
use Rattle.std.proofs.lemmas.List.Elements.{All-contains, All-contains_itself, All-weaker}
use Rattle.std.proofs.lemmas.Option.{slice_get_within}
use Rattle.ts_base.specs.Held.{Held}
use Rattle.ts_model.specs.declared.answers.Answer.{Answer}
use Rattle.ts_model.specs.declared.answers.Driven.{Driven}
use Rattle.ts_model.specs.declared.answers.Driven.TheVariants.{Done}
use Rattle.ts_model.specs.declared.answers.Outcome.{Outcome}
use Rattle.ts_model.specs.declared.answers.Outcome.TheVariants as outcome
use Rattle.ts_model.specs.declared.commands.Command.{Command}
use Rattle.ts_model.specs.declared.commands.Command.TheVariants.{Create, Evolve, Write, Read, Delete, Consolidate, Vacuum, Unlock, Fragments}
use Rattle.ts_model.specs.declared.commands.Job.{Job}
use Rattle.ts_model.specs.declared.commands.Line.{Line}
use Rattle.ts_model.specs.Answers.{IsWhole}
use Rattle.ts_model.specs.Codecs.{Spelled}
use Rattle.ts_model.specs.Deeds.{History}
use Rattle.ts_model.specs.Told.{Told}
use Rattle.ts_model.proofs.ListLemmas.{Contains-slice_get}
use Rattle.ts_law.specs.Fresh.{AreJobsOf, Numbered, ends_at, in_lane_order, seed_in, seeded}
use Rattle.ts_law.specs.Runs.{IsTrueRun}
use Rattle.ts_law.specs.Stands.{EachInItsOwn}
use Rattle.ts_law.specs.Sweeps.{IsNoSweep, IsNoVacuum}
use Rattle.ts_law.proofs.LineJobs.{among_lines}
use Rattle.ts_law.proofs.Lists.{item_at}

-- a command is a vacuum at its stamp and in its run if it is one
ends_vacuum : (to_stamp : Bool) (at : ℕ) (c : Command) → ends_at to_stamp at c ≡ Vacuum → c ≡ Vacuum
ends_vacuum true at (Read from to query) is = cc
ends_vacuum true at (Consolidate from to limits) is = cc
ends_vacuum true at (Create f) is = is
ends_vacuum true at (Evolve change) is = is
ends_vacuum true at (Write w) is = is
ends_vacuum true at (Delete text) is = is
ends_vacuum true at Vacuum is = is
ends_vacuum true at (Unlock seed lane) is = is
ends_vacuum true at Fragments is = is
ends_vacuum false at c is = is

seeded_vacuum : (seed lane : ℕ) (c : Command) → seeded seed lane c ≡ Vacuum → c ≡ Vacuum
seeded_vacuum seed lane (Unlock own other) is = cc
seeded_vacuum seed lane (Create f) is = is
seeded_vacuum seed lane (Evolve change) is = is
seeded_vacuum seed lane (Write w) is = is
seeded_vacuum seed lane (Read from to query) is = is
seeded_vacuum seed lane (Delete text) is = is
seeded_vacuum seed lane (Consolidate from to limits) is = is
seeded_vacuum seed lane Vacuum is = is
seeded_vacuum seed lane Fragments is = is

-- no call is one of a vacuum's where no line asks for one
pub no_sweeps : (gives : ℕ → Bool) (seed : ℕ) (lines : List Line) (jobs : List Job) → AreJobsOf gives seed (in_lane_order lines) jobs → All IsNoVacuum lines → (e : Told) → IsNoSweep jobs e
no_sweeps gives seed lines jobs are none e number job mine at vacuums =
    let items : List Numbered = in_lane_order lines in
    let (item, there) = item_at jobs items number are.one_each (slice_get_within jobs number job at) in
    let is = are.each number item job there at in
    All-contains IsNoVacuum lines item.line none (among_lines lines item (Contains-slice_get items number item there))
    (ends_vacuum (item.line).to_stamp job.at (item.line).command (seeded_vacuum (seed_in _) (item.line).lane (ends_at (item.line).to_stamp job.at (item.line).command) (sym is.command ∙ vacuums)))

-- an answer of a run without a vacuum names no clipped fragment, where at the beginning each write is in its own one
pub unclipped_run : (spelled : Spelled) (lanes : ℕ → ℕ) (jobs : List Job) (h : History) (m : Held) (told : List Told) (results : List (Driven Outcome)) → IsTrueRun spelled lanes jobs h m told results → EachInItsOwn spelled m h
    → ((e : Told) → IsNoSweep jobs e) → (number : ℕ) (job : Job) (answer : Answer) → slice_get jobs number ≡ Some job → slice_get results number ≡ Some (Done (outcome.Read answer)) → IsWhole answer
unclipped_run spelled lanes jobs h m told results is own none number job answer at end_at =
    let (from, to, query, reads, tells) = is.answers told [] (sym (append-nil told)) number job (outcome.Read answer) at end_at refl in
    let commits = tells.commits in
    (tells.answers).unclipped (is.own own commits.before (commits.listing ∷ commits.later) commits.place
    (All-weaker (Contains commits.before) (IsNoSweep jobs) (λ e among. none e) commits.before (All-contains_itself commits.before)))
