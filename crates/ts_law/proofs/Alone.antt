-- One job alone, over objects that stand for a history: what it leaves stands for the history after it, and what its end tells of that is true.
use Rattle.std.proofs.Common.{◌≡◌, ℕ, zero, suc, List, [], ◌∷◌, Some, refl, sym, ◌∙◌, ap, subst, arith}
use Rattle.std.specs.Prelude.{All, slice_get}
use Rattle.std.proofs.lemmas.List.{append-nil}
use Rattle.std.proofs.lemmas.List.Elements.{All-weaker}
use Rattle.std.proofs.lemmas.Option.{none-some, same_Some, slice_get_within}
use Rattle.ts_base.specs.Held.{Held}
use Rattle.ts_model.specs.declared.commands.Job.{Job}
use Rattle.ts_model.specs.declared.answers.Driven.{Driven}
use Rattle.ts_model.specs.declared.answers.Driven.TheVariants.{Done}
use Rattle.ts_model.specs.declared.answers.Outcome.{Outcome}
use Rattle.ts_model.specs.Deeds.{History}
use Rattle.ts_model.specs.Driven.{IsDriven}
use Rattle.ts_model.specs.Codecs.{Codec, Spelled, Tracking, CodecLaws}
use Rattle.ts_model.specs.Jobs.{IsFit}
use Rattle.ts_model.specs.Told.{Told, Suits, Replied, trace_of, held_told, history_told}
use Rattle.ts_law.specs.Ends.{IsTrueOver}
use Rattle.ts_law.specs.Fresh.{IsNewId}
use Rattle.ts_law.specs.Kept.{Kept}
use Rattle.ts_law.specs.Lanes.{lane_by, own_lane, IsOwned, IsWithin}
use Rattle.ts_law.specs.Refusals.{IsRefusedFor}
use Rattle.ts_model.specs.declared.answers.Outcome.TheVariants as outcome
use Rattle.ts_model.specs.declared.answers.Refusal.{Refusal}
use Rattle.ts_law.specs.Runs.{AreDriven, IsTrueRun}
use Rattle.ts_law.specs.Stands.{Stands}
use Rattle.ts_law.proofs.Journals.{journal_held}
use Rattle.ts_law.proofs.Lanes.{AreBy, apart_in_turn}
use Rattle.ts_law.proofs.Spawns.{starts_kept, spawn_kept}
use Rattle.ts_law.proofs.Turns.{TakeTheirLane}
use Rattle.ts_law.proofs.TrueRuns.{jobs_true_run}

-- what the calls of one job leave, and what its end tells
pub record IsTrueAlone (spelled : Spelled) (job : Job) (h : History) (m : Held) (told : List Told) (result : Driven Outcome) : Type 0 where
  pub stands : Stands spelled (held_told m told) (history_told (job ∷ []) h told)
  pub is_true : (end : Outcome) → result ≡ Done end → IsTrueOver spelled m (job ∷ []) h told 0 job end
  pub causes : (r : Refusal) → result ≡ Done (outcome.Refused r) → IsRefusedFor spelled m (job ∷ []) h told 0 job r

module _ {F : Type 0} (codec : Codec F) (spelled : Spelled) (tracks : Tracking F) (laws : CodecLaws codec spelled tracks) (job : Job) (h : History) (m : Held) (told : List Told) (result : Driven Outcome)
    (stands : Stands spelled m h) (new : IsNewId m h m [] job.id) (fit : IsFit job) (replied : Replied m told) (suit : All Suits told) (own : AreBy 0 told) (is : IsDriven codec job (trace_of 0 told) result) where
  begins : Kept codec spelled tracks m h (job ∷ []) [] [] m
  begins = spawn_kept codec spelled tracks m h [] [] [] m job (starts_kept codec spelled tracks h m stands) fit new

  driven : AreDriven codec (job ∷ []) (result ∷ []) told
  driven = record { one_each = refl; driven = by_place }
    where
      by_place : (number : ℕ) (j : Job) (r : Driven Outcome) → slice_get (job ∷ []) number ≡ Some j → slice_get (result ∷ []) number ≡ Some r → IsDriven codec j (trace_of number told) r
      by_place zero j r at r_at = subst (λ i. IsDriven codec i (trace_of 0 told) r) (same_Some job j at) (subst (λ o. IsDriven codec job (trace_of 0 told) o) (same_Some result r r_at) is)
      by_place (suc number) j r at r_at = absurd (none-some j at)

  -- there is no other job whose lease an unlock could take
  only : TakeTheirLane own_lane (job ∷ [])
  only i k unlock holder seed lane mode apart at holder_at unlocks dead =
      let first = slice_get_within (job ∷ []) i unlock at in
      let second = slice_get_within (job ∷ []) k holder holder_at in
      absurd (apart (let same : i ≡ k = omega (arith, first, second) in same))

  run : IsTrueRun spelled own_lane (job ∷ []) h m told (result ∷ [])
  run =
      jobs_true_run codec spelled tracks laws own_lane (job ∷ []) h m told (result ∷ []) only begins replied suit
      (All-weaker (λ e. e.job ≡ Some 0) IsOwned (λ e mine. (0, mine)) told own)
      (All-weaker (λ e. e.job ≡ Some 0) (IsWithin (job ∷ [])) (λ e mine number by_it. let same = same_Some 0 number (sym mine ∙ by_it) in omega (arith, same)) told own) (apart_in_turn told) driven

  -- a job of any new identifier and any stop, of which nothing else is asked than that there can be such a one
  pub true_alone : IsTrueAlone spelled job h m told result
  true_alone = record {
    stands = subst (λ n. Stands spelled n (history_told (job ∷ []) h told)) (sym (journal_held (lane_by own_lane) m told)) (run.stands told [] (sym (append-nil told)));
    is_true = λ end ended. run.answers told [] (sym (append-nil told)) 0 job end refl (ap Some ended) refl;
    causes = λ r ended. run.causes 0 job r refl (ap Some ended);
  }
