-- Each command alone: its actor, driven over a store that tells what it holds.
use Rattle.std.proofs.Common.{◌≡◌, ℕ, true, false, cond, List, [], ◌∷◌, ◌++◌, Option, Some, refl, sym, ◌∙◌, ap, subst}
use Rattle.std.specs.Prelude.{IfSome}
use Rattle.ts_base.specs.Held.{Held}
use Rattle.ts_store.specs.declared.call.Call.{Call}
use Rattle.ts_store.specs.declared.call.Reply.{Reply}
use Rattle.ts_store.specs.declared.fate.Fate.{Fate}
use Rattle.ts_store.specs.declared.journal.Entry.{Entry}
use Rattle.ts_store.specs.Calls.{is_no_memory}
use Rattle.ts_store.specs.Journals.{entry, Enters, EntersIf}
use Rattle.ts_model.specs.declared.commands.Job.{Job}
use Rattle.ts_model.specs.declared.answers.Driven.{Driven}
use Rattle.ts_model.specs.declared.answers.Outcome.{Outcome}
use Rattle.ts_model.specs.Deeds.{History}
use Rattle.ts_model.specs.Driving.{Leaves}
use Rattle.ts_model.specs.Codecs.{Codec, Spelled, Tracking, CodecLaws}
use Rattle.ts_model.specs.Jobs.{IsFit}
use Rattle.ts_model.specs.States.{Exchange}
use Rattle.ts_model.specs.Told.{Told, held_told}
use Rattle.ts_model.proofs.Driving.{Makes}
use Rattle.ts_law.specs.Fresh.{IsNewId}
use Rattle.ts_law.specs.Stands.{Stands}
use Rattle.ts_law.proofs.Alone.{IsTrueAlone, true_alone}
use Rattle.ts_law.proofs.Doing.{ran-told}
use Rattle.ts_law.proofs.Lanes.{exchanges}
use Rattle.ts_actor.specs.Drives.{Exchanged, MadeInTurn, AreAsked, EndsAs, Drove}
use Rattle.ts_actor.proofs.JobRuns.{job_ends, asked_by, comes_out}
use Rattle.ts_commands.specs.declared.actors.AnyActor.{AnyActor}
use Rattle.ts_commands.specs.Actors.{job_of, Follows}
use Rattle.ts_commands.proofs.Asked.{asks_it}

-- a store with a journal of the calls that were made of it
record Entered (S : Type 0) : Type 0 where
  store : S
  journal : List Entry

-- the journal after a call
abbrev entered_after : List Entry → Call → Fate → Reply → List Entry
entered_after journal c fate r = cond (is_no_memory r) journal (journal ++ entry 0 c fate ∷ [])

enters : (journal : List Entry) (c : Call) (fate : Fate) (r : Reply) → Enters journal (entered_after journal c fate r) 0 c fate r
enters journal c fate r = elim (is_no_memory r) as (λ b. EntersIf b journal (cond b journal (journal ++ entry 0 c fate ∷ [])) (entry 0 c fate)) [ true ↦ refl | false ↦ refl ]

-- what is told of an actor that was driven alone
pub record DroveAlone {S : Type 0} (held : S → Option Held) (spelled : Spelled) (job : Job) (h : History) (m : Held) (trace : List Exchange) (later : S) (result : Driven Outcome) : Type 0 where
  -- its calls, and no others
  pub told : List Told
  pub same : exchanges told ≡ trace
  -- the store holds what they leave
  pub leaves : held later ≡ Some (held_told m told)
  -- and that stands for the history after them, of which the end tells the truth
  pub alone : IsTrueAlone spelled job h m told result

module _ {S : Type 0} (held : S → Option Held) (last : S → Fate) (faults : S → ℕ) (notes : S → Call → Reply → S → Type 0) where
  -- calls that lead from one store to another, with their entries
  abbrev LeadsOn : Entered S → List Exchange → Entered S → Type 0
  LeadsOn a [] b = b ≡ a
  LeadsOn a (x ∷ xs) b =
      (between : Entered S) × Exchanged held last faults notes a.store x between.store × (between.journal ≡ entered_after a.journal x.call (last between.store) x.reply) × LeadsOn between xs b

  -- the calls that lead from one store to another have entries
  entered_all : (a : Entered S) (xs : List Exchange) (b : S) → MadeInTurn (Exchanged held last faults notes) a.store xs b → (end : Entered S) × (end.store ≡ b) × LeadsOn a xs end
  entered_all a [] b is = (a, sym is, refl)
  entered_all a (x ∷ xs) b (between, called, rest) =
      let next : Entered S = record { store = between; journal = entered_after a.journal x.call (last between) x.reply } in
      let (end, same, way) = entered_all next xs b rest in
      (end, same, (next, called, refl, way))

  makes : (a b : Entered S) (x : Exchange) → Exchanged held last faults notes a.store x b.store → b.journal ≡ entered_after a.journal x.call (last b.store) x.reply
      → Makes 0 (held a.store) (held b.store) a.journal b.journal x
  makes a b x called is =
      let P : List Entry → Type 0 = λ es. Enters a.journal es 0 x.call (last b.store) x.reply in
      record { fate = last b.store; short = called.short; fits = called.fits; answers = called.answers; enters = subst P (sym is) (enters a.journal x.call (last b.store) x.reply) }

  module _ {W F : Type 0} (codec : Codec F) (spelled : Spelled) (tracks : Tracking F) (laws : CodecLaws codec spelled tracks) where
    -- over a store that held m, which stands for a history, the actor of any job with a new identifier and any stop leaves what stands for the history after its calls, and its end tells the truth of it
    pub driven_alone : (job : Job) (h : History) (m : Held) (first final : AnyActor W F) (before later : S) (result : Driven Outcome)
        → held before ≡ Some m → Stands spelled m h → IsNewId m h m [] job.id → IsFit job → job_of first ≡ job → job_of final ≡ job
        → (drove : Drove job_of (Follows codec) (job_ends codec) (Exchanged held last faults notes) first final before later job.stop result)
        → DroveAlone held spelled job h m drove.trace later result
    driven_alone job h m first final before later result holds stands new fit first_is final_is drove =
        let Q : Job → Type 0 = λ j. AreAsked (job_of {P = W} {F = F}) (Follows {P = W} codec) j [] drove.trace in
        let P : Job → Type 0 = λ j. EndsAs (job_ends codec j) (Follows codec final) job.stop drove.trace result in
        let start : Entered S = record { store = before; journal = [] } in
        let (end, at_end, way) = entered_all start drove.trace later drove.calls in
        let (ran, same) =
        ran-told codec (λ (r : Entered S). held r.store) (λ (r : Entered S). r.journal) LeadsOn 0 0 job
        (λ a b way. way)
        (λ a b x xs way. (way.0, makes a way.0 x way.1 way.2, way.3))
        drove.trace start end result way (asked_by {A = AnyActor W F} codec job_of (Follows codec) (asks_it codec) job [] drove.trace (subst Q first_is drove.asked)) drove.uncut
        (comes_out {A = AnyActor W F} codec job_of (Follows codec) (asks_it codec) job final drove.trace result final_is (subst P first_is drove.end)) in
        let L : Option Held → Type 0 = λ o. IfSome o (λ n. Leaves n (held end.store) ran.told) in
        let leaves : Leaves m (held end.store) ran.told = subst L holds ran.calls.over in
        record {
          told = ran.told;
          same = same;
          leaves = sym (ap held at_end) ∙ leaves.held;
          alone = true_alone codec spelled tracks laws job h m ran.told result stands new fit leaves.replied ran.calls.suit ran.calls.own ran.driven;
        }
