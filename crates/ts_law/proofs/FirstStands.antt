-- Where a run may begin: the empty map stands for the empty history, and each seed is fresh over it.
use Rattle.std.proofs.Common.{◌≡◌, ℕ, Bool, ◌^◌, ◌<◌, inl, inr, List, [], None, sym, ◌∙◌, ap}
use Rattle.std.specs.Prelude.{All}
use Rattle.std.specs.Option.{is_some}
use Rattle.std.specs.FinMap as map
use Rattle.std.proofs.lemmas.Bool.{true≢false}
use Rattle.std.proofs.lemmas.Option.{none-some}
use Rattle.ts_base.specs.declared.names.Name.{Name}
use Rattle.ts_base.specs.declared.names.Name.TheVariants as name
use Rattle.ts_base.specs.declared.names.CommitKind.TheVariants.{Del}
use Rattle.ts_base.specs.Names.{name_cmp, wrt_of}
use Rattle.ts_base.specs.Held.{Held}
use Rattle.ts_model.specs.declared.commands.Job.{Job}
use Rattle.ts_model.specs.declared.answers.Driven.{Driven}
use Rattle.ts_model.specs.declared.answers.Outcome.{Outcome}
use Rattle.ts_model.specs.Codecs.{Codec, Spelled, Tracking, CodecLaws}
use Rattle.ts_law.specs.Stands.{Stands}
use Rattle.ts_law.specs.Fresh.{IsFreshSeed, Numbered, AreJobsOf, lanes_of}
use Rattle.ts_law.specs.Lanes.{IsOwned, IsWithin, InTurn}
use Rattle.ts_model.specs.Told.{Told, Suits, Replied}
use Rattle.ts_law.specs.Runs.{AreDriven, IsTrueRun}
use Rattle.ts_model.proofs.ListLemmas.{Contains-nil}
use Rattle.ts_law.proofs.HeldLemmas.{Holds}
use Rattle.ts_law.proofs.LineJobs.{AreInOrder}
use Rattle.ts_law.proofs.TrueRuns.{true_run}

-- nothing is held
abbrev pub nothing : Held
nothing = map.empty

-- no name is held
pub none_held : (n : Name) → Holds nothing n → ⊥
none_held n held = true≢false (sym held ∙ ap is_some (map.get-empty name_cmp n))

-- nothing is held under any name
none_there : (n : Name) → map.get nothing n ≡ None
none_there n = map.get-empty name_cmp n

-- the empty map stands for the empty history
pub nothing_stands : (spelled : Spelled) → Stands spelled nothing []
nothing_stands spelled = record {
  history = tt;
  frame = none_there name.Domain;
  schemas = λ k. none_there (name.Schema k);
  deletes = λ f. none_there (name.Commit f Del);
  short_frame = λ bytes is. absurd (none-some bytes (sym (none_there name.Domain) ∙ is));
  short_schemas = λ k bytes is. absurd (none-some bytes (sym (none_there (name.Schema k)) ∙ is));
  short_deletes = λ f bytes is. absurd (none-some bytes (sym (none_there (name.Commit f Del)) ∙ is));
  whole = λ f committed. absurd (none_held (wrt_of f) committed);
  merged = record {
    reads = λ g bytes committed e. absurd (none_held (wrt_of g) committed);
    within = λ g f by committed named. absurd (none_held (wrt_of g) by);
    rank = λ f. 0;
    top = 0;
    below = λ f committed. absurd (none_held (wrt_of f) committed);
    falls = λ g f by committed named. absurd (none_held (wrt_of g) by);
  };
  covered = λ w at. absurd (Contains-nil w at);
}

-- each seed is fresh over nothing
pub fresh_over_nothing : (seed : ℕ) → IsFreshSeed nothing [] seed
fresh_over_nothing seed id upper (inl (k, at, is)) = Contains-nil k at
fresh_over_nothing seed id upper (inr (inl (n, held, is))) = none_held n held
fresh_over_nothing seed id upper (inr (inr (f, (g, committed, names), is))) = none_held (wrt_of g) committed

-- a run over nothing is true of the empty history
pub true_from_nothing : {F : Type 0} (codec : Codec F) (spelled : Spelled) (tracks : Tracking F) → CodecLaws codec spelled tracks
    → (gives : ℕ → Bool) (seed : ℕ) (items : List Numbered) (jobs : List Job) (told : List Told) (results : List (Driven Outcome))
    → AreJobsOf gives seed items jobs → AreInOrder items → seed < 2 ^ 64
    → Replied nothing told → All Suits told → All IsOwned told → All (IsWithin jobs) told → InTurn (lanes_of items) told → AreDriven codec jobs results told → IsTrueRun spelled (lanes_of items) jobs [] nothing told results
true_from_nothing codec spelled tracks laws gives seed items jobs told results are order seed_fits replied suit owned within in_turn driven =
    true_run codec spelled tracks laws gives seed items jobs [] nothing told results are order (nothing_stands spelled) (fresh_over_nothing seed) seed_fits replied suit owned within in_turn driven
