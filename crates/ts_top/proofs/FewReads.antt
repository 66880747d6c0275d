-- Each read of a run makes few gets.
use Rattle.std.proofs.Common.{◌≡◌, ℕ, ◌+◌, List, [], ◌∷◌, ◌++◌, Option, Some, None, append_assoc, refl, sym, ◌∙◌, ap, subst, arith}
use Rattle.std.specs.Prelude.{All, Contains, IfSome, slice_get}
use Rattle.std.proofs.lemmas.List.{append-nil}
use Rattle.std.proofs.lemmas.List.Elements.{All-contains, Contains-append_left, Contains-append_right}
use Rattle.std.proofs.lemmas.Option.{slice_get_within}
use Rattle.ts_base.specs.Held.{Held}
use Rattle.ts_cond.specs.declared.query.Query.{Query}
use Rattle.ts_store.specs.declared.journal.Entry.{Entry}
use Rattle.ts_model.specs.declared.answers.Driven.{Driven}
use Rattle.ts_model.specs.declared.answers.Outcome.{Outcome}
use Rattle.ts_model.specs.declared.commands.Command.TheVariants.{Read}
use Rattle.ts_model.specs.declared.commands.Job.{Job}
use Rattle.ts_model.specs.Deeds.{History}
use Rattle.ts_model.specs.Driven.{AskedFrom}
use Rattle.ts_model.specs.Stages.{first_stage}
use Rattle.ts_model.specs.Told.{Told, Replied, held_told, history_told, trace_of}
use Rattle.ts_model.proofs.ListLemmas.{Contains-here}
use Rattle.ts_model.proofs.Traces.{trace_of-append}
use Rattle.ts_law.specs.Bounds.{IsFewRead, ReadsFew}
use Rattle.ts_law.specs.Changes.{ChangedNothing, OnlyLooks}
use Rattle.ts_law.specs.Fresh.{IsFreshSeed}
use Rattle.ts_law.specs.Lanes.{IsOwned, InTurn, lane_by, one_lane}
use Rattle.ts_law.specs.Runs.{AreDriven, IsRunOver, IsTrueRun}
use Rattle.ts_law.specs.Stands.{Stands}
use Rattle.ts_law.proofs.Journals.{journal_held}
use Rattle.ts_law.proofs.KeptLaws.{Replied-front}
use Rattle.ts_law.proofs.Lists.{item_at}
use Rattle.ts_top.specs.Runners.{run_codec, run_most, run_spelled}
use Rattle.ts_top.proofs.GetsTold.{gets_made}
use Rattle.ts_top.proofs.Places.{Early, Late, cancelled, fronts}
use Rattle.ts_top.proofs.Promises.{cut, no_trace}
use Rattle.ts_top.proofs.Removed.{Replied-back}

module _ (lanes : ℕ → ℕ) (jobs : List Job) (past : History) (m : Held) (told : List Told) (results : List (Driven Outcome)) (true_run : IsTrueRun run_spelled lanes jobs past m told results)
    (replied : Replied m told) (owned : All IsOwned told) (in_turn : InTurn one_lane told) (driven : AreDriven run_codec jobs results told) where
  -- a job that changes nothing in all changes nothing in a first part
  front_idle : (a b : List Told) (number : ℕ) (job : Job) → told ≡ a ++ b → ChangedNothing m told number job → ChangedNothing m a number job
  front_idle a b number job parts idle front back e place own = idle front (back ++ b) e (parts ∙ ap (λ l. l ++ b) place ∙ append_assoc front (e ∷ back) b) own

  -- the calls of a read come one after the other
  few_read : (i : ℕ) (job : Job) (from to : ℕ) (query : Query) → slice_get jobs i ≡ Some job → job.command ≡ Read from to query → IsFewRead run_spelled run_most jobs past m told i from to query
  few_read i job from to query is_job reads =
      let (a, b, parts, early, late) = cut i told owned in_turn in
      let (a', b', parts', early', late') = cut (i + 1) told owned in_turn in
      let apart : (x : Told) (xs : List Told) → b' ≡ x ∷ xs → Contains a x → ⊥ = λ x xs q among.
      let (number, mine) = All-contains IsOwned told x owned (subst (λ l. Contains l x) (sym parts) (Contains-append_left a b x among)) in
      let less = early x among number mine in
      let from = late' x (subst (λ l. Contains l x) (sym q) (Contains-here x xs)) number mine in
      omega (arith, less, from) in
      let (c, grows) = fronts a b a' b' (sym parts ∙ parts') apart in
      let behind : b ≡ c ++ b' = cancelled a b (c ++ b') (sym parts ∙ parts' ∙ ap (λ l. l ++ b') grows ∙ append_assoc a c b') in
      let place : told ≡ a ++ (c ++ b') = parts ∙ ap (λ l. a ++ l) behind in
      let within : told ≡ (a ++ c) ++ b' = place ∙ sym (append_assoc a c b') in
      let below : Early (i + 1) c = λ e among. early' e (subst (λ l. Contains l e) (sym grows) (Contains-append_right a c e among)) in
      let above : Late i c = λ e among. late e (subst (λ l. Contains l e) (sym behind) (Contains-append_left c b' e among)) in
      let mine : (e : Told) → Contains c e → e.job ≡ Some i = λ e among.
      let (number, is) = All-contains IsOwned told e owned (subst (λ l. Contains l e) (sym place) (Contains-append_right a (c ++ b') e (Contains-append_left c b' e among))) in
      is ∙ ap Some (let at_i : number ≡ i = omega (arith, below e among number is, above e among number is) in at_i) in
      let none_early : trace_of i a ≡ [] = no_trace i a (λ e among is. let less = early e among i is in omega (arith, less)) in
      let none_late : trace_of i b' ≡ [] = no_trace i b' (λ e among is. let more = late' e among i is in omega (arith, more)) in
      let traced : trace_of i told ≡ trace_of i c =
      ap (trace_of i) within ∙ trace_of-append i (a ++ c) b' ∙ ap (λ t. trace_of i (a ++ c) ++ t) none_late ∙ append-nil (trace_of i (a ++ c)) ∙ trace_of-append i a c ∙ ap (λ t. t ++ trace_of i c) none_early in
      let replies : Replied (held_told m a) c = Replied-back m a c (Replied-front m (a ++ c) b' (subst (Replied m) within replied)) in
      let over : Stands run_spelled (held_told m a) (history_told jobs past a) = subst (λ h. Stands run_spelled h (history_told jobs past a)) (sym (journal_held (lane_by lanes) m a)) (true_run.stands a (c ++ b') place) in
      let idle : ChangedNothing m (a ++ c) i job = front_idle (a ++ c) b' i job within (true_run.looks i job is_job (subst OnlyLooks (sym reads) tt)) in
      let (result, result_at) = item_at jobs results i (sym driven.one_each) (slice_get_within jobs i job is_job) in
      let asked : AskedFrom run_codec job (first_stage job) (trace_of i c) = subst (AskedFrom run_codec job (first_stage job)) traced (driven.driven i job result is_job result_at).asked in
      record {
        front = a;
        own = c;
        rest = b';
        parts = within;
        mine = mine;
        all = sym traced;
        few = gets_made m (lane_by lanes) a c (a ++ c) refl i job mine replies idle (history_told jobs past a) over from to query reads asked;
      }

-- over a store that held what stands for a history each read of the run makes few gets
pub few_reads : (seed : ℕ) (lanes : ℕ → ℕ) (jobs : List Job) (o later : Option Held) (journal : List Entry) (told : List Told) (results : List (Driven Outcome))
    → IfSome o (λ m. IsRunOver run_spelled seed lanes jobs m later journal told results) → All IsOwned told → InTurn one_lane told → AreDriven run_codec jobs results told
    → IfSome o (λ m. (h : History) → Stands run_spelled m h → IsFreshSeed m h seed → ReadsFew run_spelled run_most jobs h m told)
few_reads seed lanes jobs None later journal told results over owned in_turn driven = tt
few_reads seed lanes jobs (Some m) later journal told results over owned in_turn driven = λ h stands fresh. few_read lanes jobs h m told results (over.true_run h stands fresh) over.replied owned in_turn driven
