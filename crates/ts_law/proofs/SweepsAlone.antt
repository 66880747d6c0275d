-- A vacuum, however it comes out, changes no object but its lease and those that it is to remove.
use Rattle.std.proofs.Common.{◌≡◌, ℕ, Bool, true, false, ◌⊎◌, inl, inr, List, [], ◌∷◌, ◌++◌, Some, refl, sym, ◌∙◌, ap, subst, append_assoc}
use Rattle.std.specs.Prelude.{slice_get, ⊤}
use Rattle.std.specs.FinMap as map
use Rattle.std.proofs.lemmas.Bool.{true≢false}
use Rattle.std.proofs.lemmas.Option.{none-some, same_Some}
use Rattle.ts_base.specs.declared.names.Name.{Name}
use Rattle.ts_base.specs.declared.names.Prefix.{Prefix}
use Rattle.ts_base.specs.declared.names.Prefix.TheVariants.{Commits}
use Rattle.ts_base.specs.Exact.{name_decides}
use Rattle.ts_base.specs.Names.{name_eq}
use Rattle.ts_base.specs.Held.{Held}
use Rattle.ts_commit.specs.Selections.{removal_set}
use Rattle.ts_store.specs.declared.call.Call.TheVariants as call
use Rattle.ts_model.specs.declared.answers.Outcome.{Outcome}
use Rattle.ts_model.specs.declared.answers.Outcome.TheVariants as outcome
use Rattle.ts_model.specs.declared.commands.Command.TheVariants.{Create, Evolve, Write, Delete, Consolidate, Vacuum, Unlock}
use Rattle.ts_model.specs.declared.commands.Command.{Command}
use Rattle.ts_model.specs.declared.commands.FrameIn.{FrameIn}
use Rattle.ts_model.specs.declared.commands.Job.{Job}
use Rattle.ts_model.specs.declared.states.Creating.TheVariants.{PutsFrame}
use Rattle.ts_model.specs.declared.states.NewObject.{NewObject}
use Rattle.ts_model.specs.declared.states.Stage.{Stage}
use Rattle.ts_model.specs.declared.states.Stage.TheVariants.{ListsLeases, PutsLease, Releases}
use Rattle.ts_model.specs.declared.states.Stage.TheVariants as stages
use Rattle.ts_model.specs.declared.states.State.{State}
use Rattle.ts_model.specs.declared.states.State.TheVariants.{Creates, Puts, Removes, Over}
use Rattle.ts_model.specs.Codecs.{Codec, CodecLaws, Spelled, Tracking}
use Rattle.ts_model.specs.Deeds.{History}
use Rattle.ts_model.specs.Driven.{MayAsk}
use Rattle.ts_model.specs.Stages.{lease_of, put_lease, stage_from, stage_of}
use Rattle.ts_model.specs.States.{asks, list_leases, put_of}
use Rattle.ts_model.specs.Told.{IsReplied, Replied, Told, after_told, held_told, trace_of}
use Rattle.ts_model.proofs.Traces.{held_told-append, stage_from-append, stage_of-own, trace_of-append}
use Rattle.ts_law.specs.Changes.{ChangedNothing, IsToSweep, SweepsAlone}
use Rattle.ts_law.specs.Ends.{ListedAt}
use Rattle.ts_law.specs.Kept.{Aims, AreAllowed, Claims, Kept, StageClaims}
use Rattle.ts_law.specs.Sweeps.{IsSwept, Vacuuming}
use Rattle.ts_law.proofs.CallsLeave.{told_same}
use Rattle.ts_law.proofs.Effects.{IsLook}
use Rattle.ts_law.proofs.Idle.{acted_from, acted_stage, call_leaves, lease_put, lease_removed, look_same, looks_else}
use Rattle.ts_law.proofs.JournalHistories.{replied_at}
use Rattle.ts_law.proofs.KeptLaws.{asked_by, calling, coming}
use Rattle.ts_law.proofs.LeaseSteps.{release_is}
use Rattle.ts_law.proofs.VacuumOver.{all_vacs_of}

-- ---- commands

-- the command puts no object but perhaps its lease
abbrev pub PutsNone : Command → Type 0
PutsNone (Create made) = ⊥
PutsNone (Evolve change) = ⊥
PutsNone (Write w) = ⊥
PutsNone (Delete text) = ⊥
PutsNone (Consolidate from to limits) = ⊥
PutsNone _ = ⊤

no_create : (f : FrameIn) → Create f ≡ Vacuum → ⊥
no_create f same = cc

no_unlock : (seed lane : ℕ) → Unlock seed lane ≡ Vacuum → ⊥
no_unlock seed lane same = cc

-- ---- calls

no_put : (p : Prefix) (n : Name) (bytes : List ℕ) → call.Put n bytes ≡ call.List p → ⊥
no_put p n bytes same = cc

no_removal : (p : Prefix) (n : Name) → call.Remove n ≡ call.List p → ⊥
no_removal p n same = cc

one_removed : (n q : Name) → call.Remove n ≡ call.Remove q → n ≡ q
one_removed n q same = cc

-- a job that lists names put and removed nothing yet
lists_unacted : {F : Type 0} (codec : Codec F) (job : Job) (stage : Stage F) (p : Prefix) → MayAsk codec job stage (call.List p) → acted_stage stage ≡ true → ⊥
lists_unacted codec job stage p (inr gives_up) acted = let (lease, some, removes) = release_is job (call.List p) gives_up.0 in no_removal p lease (sym removes)
lists_unacted codec job (stages.Works (Puts objects next end)) p (inl asked) acted = let (o, at, is) = asked_by put_of (slice_get objects next) (call.List p) asked in no_put p o.name o.bytes is
lists_unacted codec job (stages.Works (Removes names next end)) p (inl asked) acted = let (q, at, is) = asked_by call.Remove (slice_get names next) (call.List p) asked in no_removal p q is
lists_unacted codec job (stages.Works (Over end)) p (inl asked) acted = none-some (call.List p) asked
lists_unacted codec job (stages.Works _) p (inl asked) acted = true≢false (sym acted)
lists_unacted codec job (PutsLease lease) p (inl asked) acted = true≢false (sym acted)
lists_unacted codec job (ListsLeases lease) p (inl asked) acted = true≢false (sym acted)
lists_unacted codec job (Releases lease end) p (inl asked) acted = no_removal p lease (same_Some (call.Remove lease) (call.List p) asked)

module _ {F : Type 0} (codec : Codec F) (spelled : Spelled) (tracks : Tracking F) (laws : CodecLaws codec spelled tracks) (opening : Held) (past : History) (jobs : List Job) where
  module _ (seen : List Told) (m : Held) (number : ℕ) (job : Job) (silent : PutsNone job.command) where
    -- such a command aims at no put
    pub puts_none : (objects : List NewObject) (end : Outcome) → Aims codec spelled opening past jobs seen m number job objects end → ⊥
    puts_none objects outcome.Created aims = subst PutsNone aims.1 silent
    puts_none objects (outcome.Evolved k) aims = subst PutsNone aims.3 silent
    puts_none objects (outcome.Written f) aims = subst PutsNone aims.4 silent
    puts_none objects (outcome.Deleted f) aims = subst PutsNone aims.4 silent
    puts_none objects (outcome.Consolidated f count) aims = subst PutsNone (((aims.merges).has).surveys).merges silent
    puts_none objects (outcome.Read answer) none = none
    puts_none objects (outcome.Vacuumed count) none = none
    puts_none objects (outcome.Unlocked count) none = none
    puts_none objects (outcome.Listed names) none = none
    puts_none objects (outcome.Refused r) none = none
    puts_none objects outcome.OutOfMemory none = none

  module _ (seen : List Told) (m : Held) (number : ℕ) (job : Job) (vacuums : job.command ≡ Vacuum) where
    module _ (e : Told) (replied : IsReplied m e) (n : Name) (other : lease_of job ≡ Some n → ⊥) (idle : (commits : ListedAt seen number Commits) → ChangedNothing opening commits.before number job) where
      -- the object is as it was, or it is one to remove
      abbrev IsLeft : Type 0
      IsLeft = (map.get (after_told m e) n ≡ map.get m n) ⊎ IsToSweep opening seen number job n

      -- a removal of a vacuum
      removal_leaves : (names : List Name) (next : ℕ) (end : Outcome) → Vacuuming spelled opening past jobs seen m number job names next end → (q : Name) → slice_get names next ≡ Some q → call.Remove q ≡ e.call → IsLeft
      removal_leaves names next end is q at removes = by_test (name_eq q n) refl
        where
          by_test : (b : Bool) → name_eq q n ≡ b → IsLeft
          by_test true same = inr (record {
            commits = is.commits;
            idle = idle is.commits;
            vacs = (is.sweep).vacs;
            are_vacs = all_vacs_of (held_told opening (is.commits).before) is.sweep is.is_found is.all_vacs;
            swept = subst (IsSwept (removal_set (is.sweep).vacs) (is.sweep).vacs) ((name_decides q n).0 same) ((is.sweeping).each next q at);
          })
          by_test false apart =
              inl (told_same m e n (λ bytes puts. let same : call.Remove q ≡ call.Put n bytes = removes ∙ puts in cc)
              (λ gone. let same : call.Remove q ≡ call.Remove n = removes ∙ gone in true≢false (sym ((name_decides q n).1 (one_removed q n same)) ∙ apart)))

      work_sweeps : (s : State F) → Claims codec spelled tracks opening past jobs seen m number job s → asks codec job s ≡ Some e.call → IsLeft
      work_sweeps (Creates PutsFrame) claims asked = let (f, creates, sound) = claims.1 in absurd (no_create f (sym creates ∙ vacuums))
      work_sweeps (Puts objects next end) claims asked = absurd (puts_none seen m number job (subst PutsNone (sym vacuums) tt) objects end claims.aims)
      work_sweeps (Removes names next end) (inl unlocking) asked = absurd (no_unlock unlocking.seed unlocking.lane (sym unlocking.unlocks ∙ vacuums))
      work_sweeps (Removes names next end) (inr vacuuming) asked = let (q, at, is) = asked_by call.Remove (slice_get names next) e.call asked in removal_leaves names next end vacuuming q at is
      work_sweeps s claims asked =
          inl (look_same codec spelled tracks laws opening past jobs seen m number job e replied n other (looks_else codec spelled tracks laws opening past jobs seen m number job s e.call claims asked refl))

      call_sweeps : (stage : Stage F) → StageClaims codec spelled tracks opening past jobs seen m number job stage → MayAsk codec job stage e.call → IsLeft
      call_sweeps (PutsLease lease) claims (inl asked) =
          inl (lease_put codec spelled tracks laws opening past jobs seen m number job e replied n other lease claims.0.0 (sym (same_Some (put_lease lease) e.call asked)))
      call_sweeps (ListsLeases lease) claims (inl asked) = inl (look_same codec spelled tracks laws opening past jobs seen m number job e replied n other (subst IsLook (same_Some list_leases e.call asked) tt))
      call_sweeps (stages.Works s) claims (inl asked) = work_sweeps s claims asked
      call_sweeps (Releases lease end) claims (inl asked) =
          inl (lease_removed codec spelled tracks laws opening past jobs seen m number job e replied n other lease claims.0 (sym (same_Some (call.Remove lease) e.call asked)))
      call_sweeps stage claims (inr gives_up) =
          let (lease, some, removes) = release_is job e.call gives_up.0 in
          inl (lease_removed codec spelled tracks laws opening past jobs seen m number job e replied n other lease some removes)

  -- ---- all calls

  module _ (last : List ℕ) (told : List Told) (begins : Kept codec spelled tracks opening past jobs [] [] opening) (may : AreAllowed codec jobs [] last [] told) (replied : Replied opening told)
      (number : ℕ) (job : Job) (is_job : slice_get jobs number ≡ Some job) where
    -- before it lists names a job changes nothing
    pub listing_idle : (p : Prefix) (before later : List Told) (listing : Told) → told ≡ before ++ listing ∷ later → listing.job ≡ Some number → listing.call ≡ call.List p → ChangedNothing opening before number job
    listing_idle p before later listing place own lists front back e parts mine n other =
        let whole : told ≡ front ++ e ∷ (back ++ listing ∷ later) = place ∙ ap (λ l. l ++ listing ∷ later) parts ∙ append_assoc front (e ∷ back) (listing ∷ later) in
        let comes = coming codec spelled tracks laws opening past jobs [] last [] opening told front (back ++ listing ∷ later) e begins may replied whole in
        let calls = calling codec spelled tracks laws opening past jobs front (held_told opening front) e number job comes mine is_job in
        let here = replied_at opening front (back ++ listing ∷ later) e (subst (Replied opening) whole replied) in
        let later_comes = coming codec spelled tracks laws opening past jobs [] last [] opening told before later listing begins may replied place in
        let later_calls = calling codec spelled tracks laws opening past jobs before (held_told opening before) listing number job later_comes own is_job in
        elim (call_leaves codec spelled tracks laws opening past jobs front (held_told opening front) number job e here n other (stage_of codec job (trace_of number front)) calls.claims calls.asked) [
          | inl same ↦ ap (λ x. map.get x n) (held_told-append opening front (e ∷ [])) ∙ same
          | inr acts ↦
              absurd (lists_unacted codec job (stage_of codec job (trace_of number before)) p (subst (MayAsk codec job (stage_of codec job (trace_of number before))) lists later_calls.asked)
              (ap acted_stage reached ∙ acted_from codec job (stage_of codec job (trace_of number (front ++ e ∷ []))) (trace_of number back) (ap acted_stage (stage_of-own codec job number front e mine) ∙ acts)))
        ]
      where
        reached : stage_of codec job (trace_of number before) ≡ stage_from codec job (stage_of codec job (trace_of number (front ++ e ∷ []))) (trace_of number back)
        reached =
            ap (λ t. stage_of codec job (trace_of number t)) (parts ∙ sym (append_assoc front (e ∷ []) back)) ∙ ap (stage_of codec job) (trace_of-append number (front ++ e ∷ []) back)
            ∙ stage_from-append codec job (stage_of codec job []) (trace_of number (front ++ e ∷ [])) (trace_of number back)

    -- a vacuum changes no other objects than it is to remove
    pub sweeps_alone : job.command ≡ Vacuum → SweepsAlone opening told number job
    sweeps_alone vacuums front back e parts own n other =
        let comes = coming codec spelled tracks laws opening past jobs [] last [] opening told front back e begins may replied parts in
        let calls = calling codec spelled tracks laws opening past jobs front (held_told opening front) e number job comes own is_job in
        let here = replied_at opening front back e (subst (Replied opening) parts replied) in
        let idle : (commits : ListedAt front number Commits) → ChangedNothing opening commits.before number job = λ commits.
        listing_idle Commits commits.before (commits.later ++ e ∷ back) commits.listing (parts ∙ ap (λ l. l ++ e ∷ back) commits.place ∙ append_assoc commits.before (commits.listing ∷ commits.later) (e ∷ back)) commits.own commits.lists in
        elim (call_sweeps front (held_told opening front) number job vacuums e here n other idle (stage_of codec job (trace_of number front)) calls.claims calls.asked) [
          | inl same ↦ inl (ap (λ x. map.get x n) (held_told-append opening front (e ∷ [])) ∙ same)
          | inr swept ↦ inr swept
        ]
