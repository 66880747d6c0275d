-- What a command leaves of its lease: nothing, where it ended well.
use Rattle.std.proofs.Common.{◌≡◌, ◌⊎◌, inl, inr, ℕ, List, [], ◌∷◌, ◌++◌, Option, Some, None, cond, append_assoc, refl, sym, ◌∙◌, ap, subst}
use Rattle.std.specs.Prelude.{All, Contains, IfSome, option_map, ⊤}
use Rattle.std.specs.FinMap as map
use Rattle.std.proofs.lemmas.Bool.{cond-true}
use Rattle.std.proofs.lemmas.List.{same_from_push}
use Rattle.std.proofs.lemmas.List.Elements.{All-contains, Contains-append_right}
use Rattle.std.proofs.lemmas.Option.{none-some}
use Rattle.ts_base.specs.Exact.{name_total, name_exact}
use Rattle.ts_base.specs.Held.{Held}
use Rattle.ts_base.specs.declared.names.LeaseMode.{LeaseMode}
use Rattle.ts_base.specs.declared.names.Name.{Name}
use Rattle.ts_base.specs.declared.names.Name.TheVariants as name
use Rattle.ts_store.specs.Calls.{after, is_no_memory}
use Rattle.ts_store.specs.declared.call.Call.TheVariants as call
use Rattle.ts_store.specs.declared.call.Reply.{Reply}
use Rattle.ts_store.specs.declared.call.Reply.TheVariants as reply
use Rattle.ts_store.specs.declared.fate.Fate.TheVariants as fate
use Rattle.ts_model.specs.declared.answers.Driven.TheVariants.{Done}
use Rattle.ts_model.specs.declared.answers.Outcome.{Outcome}
use Rattle.ts_model.specs.declared.answers.Outcome.TheVariants as outcome
use Rattle.ts_model.specs.declared.commands.Command.{Command}
use Rattle.ts_model.specs.declared.commands.Command.TheVariants.{Create}
use Rattle.ts_model.specs.declared.commands.Job.{Job}
use Rattle.ts_model.specs.Jobs.{key_of, refused_before}
use Rattle.ts_model.specs.Stages.{lease_of, mode_of, released}
use Rattle.ts_model.specs.States.{Exchange}
use Rattle.ts_model.specs.Told.{Suits, Told, after_told, held_told, trace_of}
use Rattle.ts_model.proofs.KeyLemmas.{tie_itself}
use Rattle.ts_model.proofs.ListLemmas.{Contains-here}
use Rattle.ts_model.proofs.Traces.{held_told-append, trace_of-own}
use Rattle.ts_law.specs.Courses.{EndsUnder, IsSegment, LeaseEnds, MayEndAs, NotBegun, NotOwn, Removed, removal}
use Rattle.ts_top.specs.Promise.{HasNoLease}
use Rattle.ts_top.specs.Runners.{run_codec}
use Rattle.ts_top.proofs.MergesTold.{calls_in, held_entered}

-- the ends that a command with a lease comes well to
abbrev pub EndsWell : Outcome → Type 0
EndsWell (outcome.Refused r) = ⊥
EndsWell outcome.OutOfMemory = ⊥
EndsWell _ = ⊤

-- a job that removes its lease comes well to its end if it is told that the lease is removed
pub told_removed : (lease : Name) (was end : Outcome) (r : Reply) → EndsWell end → end ≡ released lease was r → r ≡ reply.Removed
told_removed lease (outcome.Refused cause) end r well is = absurd (subst EndsWell is well)
told_removed lease outcome.OutOfMemory end r well is = absurd (subst EndsWell is well)
told_removed lease was end reply.Removed well is = refl
told_removed lease was end _ well is = absurd (subst EndsWell is well)

-- a command that has a lease is not refused before its first call
pub unrefused : (c : Command) (mode : LeaseMode) → mode_of c ≡ Some mode → refused_before c ≡ None
unrefused (Create made) mode has = absurd (none-some mode has)
unrefused _ mode has = refl

-- a job that has a lease and ends well removes it by its last call
pub last_removes : (job : Job) (trace : List Exchange) (end : Outcome) (lease : Name) → lease_of job ≡ Some lease → refused_before job.command ≡ None → EndsWell end → IsSegment run_codec job trace (Done end)
    → (front : List Exchange) × (trace ≡ front ++ removal lease reply.Removed ∷ [])
last_removes job trace end lease has begins well is = by_ends (subst (λ o. EndsUnder run_codec job is.found o trace end) has (subst (MayEndAs run_codec job is.found trace end) begins is.ends))
  where
    by_ends : LeaseEnds run_codec job is.found lease trace end → (front : List Exchange) × (trace ≡ front ++ removal lease reply.Removed ∷ [])
    by_ends (NotBegun none short) = absurd (subst EndsWell short well)
    by_ends (NotOwn only taken) = absurd (subst EndsWell taken well)
    by_ends (Removed front r was parts put heeds ends same) = (front, parts ∙ ap (λ q. front ++ removal lease q ∷ []) (told_removed lease was end r well same))

-- items are none, or have a last one
pub last_of : {X : Type 0} (xs : List X) → (xs ≡ []) ⊎ ((d : List X) × (e : X) × (xs ≡ d ++ e ∷ []))
last_of [] = inl refl
last_of (x ∷ xs) = inr (by (last_of xs))
  where
    by : (xs ≡ []) ⊎ ((d : List _) × (e : _) × (xs ≡ d ++ e ∷ [])) → (d : List _) × (e : _) × (x ∷ xs ≡ d ++ e ∷ [])
    by (inl none) = ([], x, ap (λ l. x ∷ l) none)
    by (inr (d, e, is)) = (x ∷ d, e, ap (λ l. x ∷ l) is)

pub no_last : {X : Type 0} (front : List X) (x : X) → [] ≡ front ++ x ∷ [] → ⊥
no_last [] x is = cc
no_last (y ∷ front) x is = cc

-- what was removed is not held
pub gone : (n : Held) (e : Told) (lease : Name) → e.call ≡ call.Remove lease → e.reply ≡ reply.Removed → e.fate ≡ fate.Done → map.get (after_told n e) lease ≡ None
gone n e lease calls replies did =
    ap (λ r. map.get (cond (is_no_memory r) n (after n e.call e.fate)) lease) replies ∙ ap (λ c. map.get (after n c e.fate) lease) calls ∙ ap (λ f. map.get (after n (call.Remove lease) f) lease) did
    ∙ map.get-remove name_total n lease lease ∙ cond-true _ _ _ (tie_itself name_total name_exact lease)

module _ (m : Held) (lane : Option ℕ → ℕ) (a c : List Told) (i : ℕ) (job : Job) (own : (e : Told) → Contains c e → e.job ≡ Some i) (suit : All Suits c) (end : Outcome) (well : EndsWell end)
    (is : IsSegment run_codec job (trace_of i c) (Done end)) where
  -- where the last of the calls removes a lease, it is not held after them
  by_last : (lease : Name) (front : List Exchange) → trace_of i c ≡ front ++ removal lease reply.Removed ∷ [] → map.get (held_told m (a ++ c)) lease ≡ None
  by_last lease front ends = by (last_of c)
    where
      by : (c ≡ []) ⊎ ((d : List Told) × (e : Told) × (c ≡ d ++ e ∷ [])) → map.get (held_told m (a ++ c)) lease ≡ None
      by (inl none) = absurd (no_last front (removal lease reply.Removed) (sym (ap (trace_of i) none) ∙ ends))
      by (inr (d, e, parts)) =
          let among : Contains c e = subst (λ l. Contains l e) (sym parts) (Contains-append_right d (e ∷ []) e (Contains-here e [])) in
          let exchange : Exchange = record { call = e.call; reply = e.reply } in
          let same : exchange ≡ removal lease reply.Removed =
          (same_from_push (trace_of i d) front exchange (removal lease reply.Removed) (sym (trace_of-own i d e (own e among)) ∙ sym (ap (trace_of i) parts) ∙ ends)).1 in
          let replies : e.reply ≡ reply.Removed = ap (λ (x : Exchange). x.reply) same in
          let did : e.fate ≡ fate.Done = (All-contains Suits c e suit among).served (λ failed. let clash : reply.Removed ≡ reply.Failed = sym replies ∙ failed in cc) in
          ap (λ l. map.get (held_told m l) lease) (ap (λ l. a ++ l) parts ∙ sym (append_assoc a d (e ∷ []))) ∙ ap (λ h. map.get h lease) (held_told-append m (a ++ d) (e ∷ []))
          ∙ gone (held_told m (a ++ d)) e lease (ap (λ (x : Exchange). x.call) same) replies did

  by_mode : (o : Option LeaseMode) → mode_of job.command ≡ o → IfSome o (λ mode. map.get (held_told m (a ++ c)) (name.Lease (key_of job) mode) ≡ None)
  by_mode None none = tt
  by_mode (Some mode) has =
      let removes = last_removes job (trace_of i c) end (name.Lease (key_of job) mode) (ap (option_map (name.Lease (key_of job))) has) (unrefused job.command mode has) well is in
      by_last (name.Lease (key_of job) mode) removes.0 removes.1

  -- a command that ended well leaves no lease
  pub no_lease : HasNoLease (calls_in m lane a c) (key_of job) job.command
  no_lease = subst (λ h. IfSome (mode_of job.command) (λ mode. map.get h (name.Lease (key_of job) mode) ≡ None)) (held_entered m lane a c) (by_mode (mode_of job.command) refl)
