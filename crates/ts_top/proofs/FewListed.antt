-- Each read of a run makes few gets, by its listings, whatever commands of other lanes do between its calls.
use Rattle.std.proofs.Common.{ℕ, ◌<◌, ◌^◌, Bool, List, Option, Some, None, length, sym}
use Rattle.std.specs.Prelude.{All, IfSome}
use Rattle.std.proofs.lemmas.Option.{slice_get_within}
use Rattle.ts_base.specs.Held.{Held}
use Rattle.ts_store.specs.declared.journal.Entry.{Entry}
use Rattle.ts_model.specs.declared.answers.Driven.{Driven}
use Rattle.ts_model.specs.declared.answers.Outcome.{Outcome}
use Rattle.ts_model.specs.declared.commands.Job.{Job}
use Rattle.ts_model.specs.Deeds.{History}
use Rattle.ts_model.specs.Told.{Suits, Told}
use Rattle.ts_law.specs.Bounds.{ReadsFewListed}
use Rattle.ts_law.specs.Fresh.{AreJobsOf, IsFreshSeed, Numbered, lanes_of}
use Rattle.ts_law.specs.Lanes.{IsOwned, IsWithin, InTurn}
use Rattle.ts_law.specs.Runs.{AreDriven, IsRunOver}
use Rattle.ts_law.specs.Stands.{Stands}
use Rattle.ts_law.proofs.LineJobs.{AreInOrder}
use Rattle.ts_law.proofs.Lists.{item_at}
use Rattle.ts_law.proofs.ReadListings.{few_by_listings}
use Rattle.ts_law.proofs.Turns.{stopped_before}
use Rattle.ts_top.specs.Runners.{run_codec, run_most, run_spelled, run_tracks}
use Rattle.ts_top.proofs.RunCodec.{run_bounded, run_gets, run_laws}
use Rattle.ts_top.proofs.RunTimes.{InLanes, begins, may}

-- each read makes few, over objects that stand for a history which the seed is fresh over
few_listed : (gives : ℕ → Bool) (seed : ℕ) (items : List Numbered) (jobs : List Job) (past : History) (m : Held) (told : List Told) (results : List (Driven Outcome)) → InLanes gives seed items jobs past m told results
    → ReadsFewListed run_spelled run_most jobs past m told
few_listed gives seed items jobs past m told results w i job from to query is_job reads =
    let (result, result_at) = item_at jobs results i (sym w.driven.one_each) (slice_get_within jobs i job is_job) in
    few_by_listings run_codec run_spelled run_tracks run_laws run_gets run_most run_bounded m past jobs i job from to query reads (stopped_before results (length jobs)) told
    (begins gives seed items jobs past m told results w) (may gives seed items jobs past m told results w) w.replied is_job (w.driven.driven i job result is_job result_at).asked

-- so it is over a store that held what stands for a history
pub reads_few_listed : (gives : ℕ → Bool) (seed : ℕ) (items : List Numbered) (jobs : List Job) (o later : Option Held) (journal : List Entry) (told : List Told) (results : List (Driven Outcome))
    → AreJobsOf gives seed items jobs → AreInOrder items → seed < 2 ^ 64 → All Suits told → All IsOwned told → All (IsWithin jobs) told → InTurn (lanes_of items) told → AreDriven run_codec jobs results told
    → IfSome o (λ m. IsRunOver run_spelled seed (lanes_of items) jobs m later journal told results)
    → IfSome o (λ m. (h : History) → Stands run_spelled m h → IsFreshSeed m h seed → ReadsFewListed run_spelled run_most jobs h m told)
reads_few_listed gives seed items jobs None later journal told results are order fits suit owned within in_turn driven over = tt
reads_few_listed gives seed items jobs (Some m) later journal told results are order fits suit owned within in_turn driven over = λ h stands fresh. few_listed gives seed items jobs h m told results (record {
  are = are;
  order = order;
  stands = stands;
  fresh = fresh;
  seed_fits = fits;
  replied = over.replied;
  suit = suit;
  owned = owned;
  within = within;
  in_turn = in_turn;
  driven = driven;
})
