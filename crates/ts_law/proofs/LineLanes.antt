-- The jobs of lines are of the lanes of these lines: by their identifiers, and an unlock by what it takes for dead.
use Rattle.std.proofs.Common.{◌≡◌, ℕ, Bool, true, not, nat_eq, inl, inr, Some, ◌/◌, ◌^◌, ◌<◌, List, sym, ◌∙◌, ap, arith}
use Rattle.std.specs.Prelude.{slice_get}
use Rattle.std.proofs.lemmas.Bool.{eq-eqb, eqb-true, or_cases, true≢false}
use Rattle.ts_base.specs.declared.keys.Key.{Key}
use Rattle.ts_base.specs.declared.names.LeaseMode.{LeaseMode}
use Rattle.ts_base.specs.declared.names.Name.TheVariants as name
use Rattle.ts_model.specs.declared.commands.Command.{Command}
use Rattle.ts_model.specs.declared.commands.Command.TheVariants.{Create, Evolve, Write, Read, Delete, Consolidate, Vacuum, Unlock, Fragments}
use Rattle.ts_model.specs.declared.commands.Job.{Job}
use Rattle.ts_model.specs.Jobs.{key_of}
use Rattle.ts_model.specs.States.{is_unlocked, lane_in}
use Rattle.ts_law.specs.Fresh.{AreJobsOf, Numbered, ends_at, id_of, lane_of, lanes_of, seed_in, seeded}
use Rattle.ts_law.proofs.LineJobs.{AreInOrder, fit_at, id_has_seed, line_of, seed_of_id}
use Rattle.ts_law.proofs.Turns.{TakeTheirLane}

-- the lane of the identifier of a command is that of its line
lane_of_id : (seed lane number : ℕ) → lane < 2 ^ 32 → number < 2 ^ 32 → lane_in (id_of seed lane number) ≡ lane
lane_of_id seed lane number lane_fits few = omega arith

-- an unlock in a run has its seed and its lane
unlock_seeded : (seed lane : ℕ) (c : Command) (by under : ℕ) → seeded seed lane c ≡ Unlock by under → (by ≡ seed) × (under ≡ lane)
unlock_seeded seed lane (Unlock own other) by under is = (let same : by ≡ seed = cc in same, let same : under ≡ lane = cc in same)
unlock_seeded seed lane (Create f) by under is = cc
unlock_seeded seed lane (Evolve change) by under is = cc
unlock_seeded seed lane (Write w) by under is = cc
unlock_seeded seed lane (Read from to query) by under is = cc
unlock_seeded seed lane (Delete text) by under is = cc
unlock_seeded seed lane (Consolidate from to limits) by under is = cc
unlock_seeded seed lane Vacuum by under is = cc
unlock_seeded seed lane Fragments by under is = cc

-- an unlock of a seed takes for dead no lease of this seed but those of its lane
dead_in_lane : (seed lane : ℕ) (k : Key) (mode : LeaseMode) → k.id / 2 ^ 64 ≡ seed → is_unlocked seed lane (name.Lease k mode) ≡ true → lane_in k.id ≡ lane
dead_in_lane seed lane k mode own dead = elim (or_cases (not (nat_eq (k.id / 2 ^ 64) seed)) (nat_eq (lane_in k.id) lane) dead) [
  | inl apart ↦ absurd (true≢false (sym apart ∙ ap not (eq-eqb (k.id / 2 ^ 64) seed own)))
  | inr same ↦ eqb-true (lane_in k.id) lane same
]

module _ (gives : ℕ → Bool) (seed : ℕ) (items : List Numbered) (jobs : List Job) (are : AreJobsOf gives seed items jobs) (order : AreInOrder items) where
  -- the lane of a job's identifier is that of its line
  lane_is : (number : ℕ) (job : Job) → slice_get jobs number ≡ Some job → lane_in job.id ≡ lanes_of items number
  lane_is number job at =
      let (x, x_at, is) = line_of gives seed items jobs are order number job at in
      let small = fit_at gives seed items jobs are order number x x_at in
      ap lane_in is.id_is ∙ lane_of_id seed (x.line).lane x.number (omega (arith, (small.fit).lane)) small.few ∙ sym (ap lane_of x_at)

  -- an unlock of a line takes for dead, of the leases of the other jobs, those of its own lane
  pub lines_take : TakeTheirLane (lanes_of items) jobs
  lines_take i k unlock holder by lane mode apart at holder_at unlocks dead =
      let (x, x_at, is) = line_of gives seed items jobs are order i unlock at in
      let small = fit_at gives seed items jobs are order i x x_at in
      let of_line = unlock_seeded (seed_in (id_of seed (x.line).lane x.number)) (x.line).lane (ends_at (x.line).to_stamp unlock.at (x.line).command) by lane (sym is.command ∙ unlocks) in
      let own : by ≡ seed = of_line.0 ∙ seed_of_id seed (x.line).lane x.number (omega (arith, (small.fit).lane)) small.few in
      sym (lane_is k holder holder_at) ∙ dead_in_lane by lane (key_of holder) mode (id_has_seed gives seed items jobs are order k holder holder_at ∙ sym own) dead ∙ of_line.1 ∙ sym (ap lane_of x_at)
