-- One call more: the history, the traces of jobs and their states.
use Rattle.std.proofs.Common.{Bool, List, None, Option, Some, [], ap, append_assoc, cond, false, inl, inr, refl, sym, true, ℕ, ◌++◌, ◌∙◌, ◌∷◌, ◌≡◌}
use Rattle.std.proofs.lemmas.Bool.{cases_eq, eq-eqb, ne_eqb}
use Rattle.std.proofs.lemmas.List.{append-nil}
use Rattle.std.proofs.lemmas.List.Elements.{filter_map-append}
use Rattle.std.proofs.lemmas.Option.{none-some, same_Some}
use Rattle.std.specs.List.{cons_option}
use Rattle.std.specs.Prelude.{option_to_list, slice_get}
use Rattle.ts_base.specs.Held.{Held}
use Rattle.ts_base.specs.declared.keys.Key.{Key}
use Rattle.ts_base.specs.declared.names.Prefix.TheVariants.{Schemas}
use Rattle.ts_model.specs.Deeds.{History}
use Rattle.ts_model.specs.Codecs.{Codec}
use Rattle.ts_model.specs.States.{Exchange, list_schemas}
use Rattle.ts_model.specs.Stages.{first_stage, goes_on, stage_from, stage_of}
use Rattle.ts_model.specs.Told.{Told, after_told, deed_in, deed_told, exchange_of, found_after, found_in, grown, held_told, history_from, history_told, schemas_found, trace_of}
use Rattle.ts_model.specs.declared.commands.Job.{Job}
use Rattle.ts_model.specs.declared.deeds.Deed.{Deed}
use Rattle.ts_model.specs.declared.states.Stage.{Stage}
use Rattle.ts_store.specs.declared.call.Call.{Call}
use Rattle.ts_store.specs.declared.call.Reply.{Reply}
use Rattle.ts_store.specs.declared.call.Call.TheVariants as call
use Rattle.ts_store.specs.declared.call.Reply.TheVariants as reply

-- ---- histories and objects

-- the history after more calls goes on from the one before them
pub history_from-append : (jobs : List Job) (h : History) (seen a b : List Told) → history_from jobs h seen (a ++ b) ≡ history_from jobs (history_from jobs h seen a) (seen ++ a) b
history_from-append jobs h seen [] b = ap (λ s. history_from jobs h s b) (sym (append-nil seen))
history_from-append jobs h seen (e ∷ a) b =
    history_from-append jobs (h ++ grown jobs h seen e) (seen ++ e ∷ []) a b
    ∙ ap (λ s. history_from jobs (history_from jobs (h ++ grown jobs h seen e) (seen ++ e ∷ []) a) s b) (append_assoc seen (e ∷ []) a)

-- the history after more calls goes on from the one that was told before
pub history_told-append : (jobs : List Job) (past : History) (a b : List Told) → history_told jobs past (a ++ b) ≡ history_from jobs (history_told jobs past a) a b
history_told-append jobs past a b = history_from-append jobs past [] a b

-- one call more appends its deeds
pub history_told-push : (jobs : List Job) (past : History) (seen : List Told) (e : Told)
    → history_told jobs past (seen ++ e ∷ []) ≡ history_told jobs past seen ++ grown jobs (history_told jobs past seen) seen e
history_told-push jobs past seen e = history_told-append jobs past seen (e ∷ [])

-- a history only grows
pub history_from_grows : (jobs : List Job) (h : History) (seen told : List Told) → (more : History) × (history_from jobs h seen told ≡ h ++ more)
history_from_grows jobs h seen [] = ([], sym (append-nil h))
history_from_grows jobs h seen (e ∷ told) =
    let rest = history_from_grows jobs (h ++ grown jobs h seen e) (seen ++ e ∷ []) told in
    (grown jobs h seen e ++ rest.0, rest.1 ∙ append_assoc h (grown jobs h seen e) rest.0)

-- what was told before is the front of what is told now
pub history_told_grows : (jobs : List Job) (past : History) (a b : List Told) → (more : History) × (history_told jobs past (a ++ b) ≡ history_told jobs past a ++ more)
history_told_grows jobs past a b =
    let rest = history_from_grows jobs (history_told jobs past a) a b in
    (rest.0, history_told-append jobs past a b ∙ rest.1)

-- what is held after more calls goes on from what was held before them
pub held_told-append : (m : Held) (a b : List Told) → held_told m (a ++ b) ≡ held_told (held_told m a) b
held_told-append m [] b = refl
held_told-append m (e ∷ a) b = held_told-append (after_told m e) a b

-- ---- the history after one call more

module _ (jobs : List Job) (past : History) (seen : List Told) (e : Told) where
  -- the history before the call
  abbrev before : History
  before = history_told jobs past seen

  -- the history after the call
  abbrev later : History
  later = history_told jobs past (seen ++ e ∷ [])

  -- a call that changes nothing appends nothing
  pub later_unchanged : e.changed ≡ false → later ≡ before
  later_unchanged still = history_told-push jobs past seen e ∙ ap (λ b. before ++ cond b (option_to_list (deed_told jobs before seen e)) []) still ∙ append-nil before

  -- a call of no deed appends nothing
  pub later_no_deed : deed_told jobs before seen e ≡ None → later ≡ before
  later_no_deed none =
      history_told-push jobs past seen e ∙ ap (λ o. before ++ cond e.changed (option_to_list o) []) none ∙ ap (λ d. before ++ d) (nothing e.changed) ∙ append-nil before
    where
      nothing : (b : Bool) → ◌≡◌ {A = List Deed} (cond b [] []) []
      nothing true = refl
      nothing false = refl

  -- a call that changes what is held appends its deed
  pub later_deed : (d : Deed) → deed_told jobs before seen e ≡ Some d → e.changed ≡ true → later ≡ before ++ d ∷ []
  later_deed d some changed =
      history_told-push jobs past seen e ∙ ap (λ b. before ++ cond b (option_to_list (deed_told jobs before seen e)) []) changed
      ∙ ap (λ o. before ++ option_to_list o) some

-- the deed of a call of a job is that of what it puts
pub deed_told_own : (jobs : List Job) (h : History) (seen : List Told) (e : Told) (number : ℕ) (job : Job) (c : Call) → e.job ≡ Some number → slice_get jobs number ≡ Some job → e.call ≡ c
    → deed_told jobs h seen e ≡ deed_in h job (schemas_found (trace_of number seen)) c
deed_told_own jobs h seen e number job c own at is = rw (own, at, is) refl

-- ---- traces

-- the trace of more calls goes on from the one before them
pub trace_of-append : (number : ℕ) (a b : List Told) → trace_of number (a ++ b) ≡ trace_of number a ++ trace_of number b
trace_of-append number a b = filter_map-append (exchange_of number) a b

-- a call of a job is an exchange of it
pub exchange_of_own : (number : ℕ) (e : Told) → e.job ≡ Some number → exchange_of number e ≡ Some (record { call = e.call; reply = e.reply })
exchange_of_own number e own = rw (own, eq-eqb number number refl) refl

-- a call of another is no exchange of a job
pub exchange_of_other : (number : ℕ) (e : Told) → (e.job ≡ Some number → ⊥) → exchange_of number e ≡ None
exchange_of_other number e apart = from_maker e.job refl
  where
    from_maker : (o : Option ℕ) → e.job ≡ o → exchange_of number e ≡ None
    from_maker None is = rw is refl
    from_maker (Some other) is = rw (is, ne_eqb other number (λ same. apart (is ∙ ap Some same))) refl

-- a call of a job is the last of its trace
pub trace_of-own : (number : ℕ) (seen : List Told) (e : Told) → e.job ≡ Some number → trace_of number (seen ++ e ∷ []) ≡ trace_of number seen ++ record { call = e.call; reply = e.reply } ∷ []
trace_of-own number seen e own = trace_of-append number seen (e ∷ []) ∙ ap (λ o. trace_of number seen ++ cons_option o []) (exchange_of_own number e own)

-- a call of another leaves the trace of a job alone
pub trace_of-other : (number : ℕ) (seen : List Told) (e : Told) → (e.job ≡ Some number → ⊥) → trace_of number (seen ++ e ∷ []) ≡ trace_of number seen
trace_of-other number seen e apart =
    trace_of-append number seen (e ∷ []) ∙ ap (λ o. trace_of number seen ++ cons_option o []) (exchange_of_other number e apart) ∙ append-nil (trace_of number seen)

-- ---- the schemas that a job found

-- what is found by more exchanges goes on from what was found before them
found_after-append : (found : Option (List Key)) (xs ys : List Exchange) → found_after found (xs ++ ys) ≡ found_after (found_after found xs) ys
found_after-append found [] ys = refl
found_after-append found (x ∷ xs) ys = found_after-append (found_in found x.call x.reply) xs ys

-- a call of a job may tell it the schemas anew
pub schemas_found-own : (number : ℕ) (seen : List Told) (e : Told) → e.job ≡ Some number
    → schemas_found (trace_of number (seen ++ e ∷ [])) ≡ found_in (schemas_found (trace_of number seen)) e.call e.reply
schemas_found-own number seen e own =
    ap schemas_found (trace_of-own number seen e own) ∙ found_after-append None (trace_of number seen) (record { call = e.call; reply = e.reply } ∷ [])

-- a call that does not list the schemas tells none
found_in_else : (found : Option (List Key)) (c : Call) (r : Reply) → (c ≡ list_schemas → ⊥) → found_in found c r ≡ found
found_in_else found (call.List Schemas) (reply.Names names) apart = absurd (apart refl)
found_in_else found _ r apart = refl

-- a job has found what it found before by a call by which it does not list the schemas
pub schemas_found-stays : (number : ℕ) (seen : List Told) (e : Told) → (e.job ≡ Some number → e.call ≡ list_schemas → ⊥)
    → schemas_found (trace_of number (seen ++ e ∷ [])) ≡ schemas_found (trace_of number seen)
schemas_found-stays number seen e unlisted = from_maker e.job refl
  where
    from_maker : (o : Option ℕ) → e.job ≡ o → schemas_found (trace_of number (seen ++ e ∷ [])) ≡ schemas_found (trace_of number seen)
    from_maker None is = ap schemas_found (trace_of-other number seen e (λ own. none-some number (sym is ∙ own)))
    from_maker (Some other) is = elim (cases_eq other number) [
      | inl same ↦
          let own = is ∙ ap Some same in
          schemas_found-own number seen e own ∙ found_in_else (schemas_found (trace_of number seen)) e.call e.reply (unlisted own)
      | inr apart ↦ ap schemas_found (trace_of-other number seen e (λ own. apart (same_Some other number (sym is ∙ own))))
    ]

-- ---- stages

module _ {F : Type 0} (codec : Codec F) (job : Job) where
  -- more exchanges lead on from where those before led
  pub stage_from-append : (stage : Stage F) (xs ys : List Exchange) → stage_from codec job stage (xs ++ ys) ≡ stage_from codec job (stage_from codec job stage xs) ys
  stage_from-append stage [] ys = refl
  stage_from-append stage (x ∷ xs) ys = stage_from-append (goes_on codec job stage x) xs ys

  -- a call of a job leads it on
  pub stage_of-own : (number : ℕ) (seen : List Told) (e : Told) → e.job ≡ Some number
      → stage_of codec job (trace_of number (seen ++ e ∷ [])) ≡ goes_on codec job (stage_of codec job (trace_of number seen)) (record { call = e.call; reply = e.reply })
  stage_of-own number seen e own =
      ap (stage_of codec job) (trace_of-own number seen e own) ∙ stage_from-append (first_stage job) (trace_of number seen) (record { call = e.call; reply = e.reply } ∷ [])

  -- a call of another leaves a job where it is
  pub stage_of-other : (number : ℕ) (seen : List Told) (e : Told) → (e.job ≡ Some number → ⊥)
      → stage_of codec job (trace_of number (seen ++ e ∷ [])) ≡ stage_of codec job (trace_of number seen)
  stage_of-other number seen e apart = ap (stage_of codec job) (trace_of-other number seen e apart)
