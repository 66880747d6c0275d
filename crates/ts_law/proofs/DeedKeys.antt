-- The keys of the deeds of jobs.
use Rattle.std.proofs.Common.{Bool, List, None, Option, Some, [], ap, cond, false, inl, inr, refl, subst, sym, true, ℕ, ◌++◌, ◌∙◌, ◌∷◌, ◌≡◌, ◌⊎◌}
use Rattle.std.proofs.lemmas.List.Elements.{Contains-append_cases}
use Rattle.std.proofs.lemmas.Option.{none-some, same_Some}
use Rattle.std.specs.Prelude.{Contains, option_and_then, option_map, option_to_list, slice_get}
use Rattle.ts_base.specs.declared.heads.Cell.{Cell}
use Rattle.ts_base.specs.declared.keys.Key.{Key}
use Rattle.ts_base.specs.declared.names.Name.{Name}
use Rattle.ts_cond.specs.Tests.{Condition}
use Rattle.ts_model.proofs.HistoryLaws.{keys-append}
use Rattle.ts_model.proofs.ListLemmas.{Contains-nil, Contains-only, filter_map-Contains}
use Rattle.ts_model.specs.Commands.{frame_made, laid}
use Rattle.ts_model.specs.Deeds.{History, frame_in, key_in, keys}
use Rattle.ts_model.specs.Jobs.{deletion_as, key_of, schema_of_job, written_as}
use Rattle.ts_model.specs.States.{made_by}
use Rattle.ts_model.specs.Told.{Told, cells_of, condition_of, declared_by, deed_in, deed_of, deed_told, deleted_by, deleted_in, grown, history_from, schema_used, schemas_found, trace_of, written_by, written_in}
use Rattle.ts_model.specs.declared.commands.Command.{Command}
use Rattle.ts_model.specs.declared.commands.Command.TheVariants.{Consolidate, Create, Delete, Evolve, Fragments, Read, Vacuum, Unlock, Write}
use Rattle.ts_model.specs.declared.commands.FrameIn.{FrameIn}
use Rattle.ts_model.specs.declared.commands.Job.{Job}
use Rattle.ts_model.specs.declared.commands.WriteIn.{WriteIn}
use Rattle.ts_model.specs.declared.deeds.Deed.{Deed}
use Rattle.ts_model.specs.declared.deeds.Deed.TheVariants.{Declared, Erased, Framed, Wrote}
use Rattle.ts_model.specs.declared.deeds.Deletion.{Deletion}
use Rattle.ts_model.specs.declared.deeds.Written.{Written}
use Rattle.ts_model.specs.Queries.{delete_condition}
use Rattle.ts_schema.specs.Evolutions.{evolved_attrs}
use Rattle.ts_schema.specs.declared.frames.Frame.{Frame}
use Rattle.ts_schema.specs.declared.schemas.Schema.{Schema}
use Rattle.ts_store.specs.declared.call.Call.{Call}
use Rattle.ts_store.specs.declared.call.Call.TheVariants as call
use Rattle.ts_base.specs.declared.names.CommitKind.TheVariants as kind
use Rattle.ts_base.specs.declared.names.Name.TheVariants as name

-- what a job declares has its key
pub declared_key_is : (h : History) (job : Job) (found : Option (List Key)) (c : Command) (s : Schema) → declared_by h job found c ≡ Some s → s.key ≡ key_of job
declared_key_is h job found (Create f) s is = ap (λ t. t.key) (sym (same_Some (schema_of_job job f.attrs) s is))
declared_key_is h job found (Evolve change) s is = of_used (schema_used h job found) is
  where
    of_used : (o : Option Schema) → option_map (λ t. schema_of_job job (evolved_attrs t.attrs change)) o ≡ Some s → s.key ≡ key_of job
    of_used None e = absurd (none-some s e)
    of_used (Some t) e = ap (λ t. t.key) (sym (same_Some (schema_of_job job (evolved_attrs t.attrs change)) s e))
declared_key_is h job found (Write w) s is = absurd (none-some s is)
declared_key_is h job found (Read from to query) s is = absurd (none-some s is)
declared_key_is h job found (Delete text) s is = absurd (none-some s is)
declared_key_is h job found (Consolidate from to limits) s is = absurd (none-some s is)
declared_key_is h job found Vacuum s is = absurd (none-some s is)
declared_key_is h job found (Unlock seed lane) s is = absurd (none-some s is)
declared_key_is h job found Fragments s is = absurd (none-some s is)

-- what a write writes has the key of the job
written_in_key_is : (job : Job) (v : WriteIn) (o : Option Schema) (q : Option Frame) (w : Written) → written_in job v o q ≡ Some w → w.key ≡ key_of job
written_in_key_is job v None q w is = absurd (none-some w is)
written_in_key_is job v (Some s) None w is = absurd (none-some w is)
written_in_key_is job v (Some s) (Some frame) w is = of_cells (cells_of (laid frame s.attrs v)) is
  where
    of_cells : (o : Option (List Cell)) → option_map (written_as job s.key) o ≡ Some w → w.key ≡ key_of job
    of_cells None e = absurd (none-some w e)
    of_cells (Some cells) e = ap (λ v. v.key) (sym (same_Some (written_as job s.key cells) w e))

-- what a job writes has its key
pub written_key_is : (h : History) (job : Job) (found : Option (List Key)) (c : Command) (w : Written) → written_by h job found c ≡ Some w → w.key ≡ key_of job
written_key_is h job found (Create f) w is = absurd (none-some w is)
written_key_is h job found (Evolve change) w is = absurd (none-some w is)
written_key_is h job found (Write v) w is = written_in_key_is job v (schema_used h job found) (frame_in h) w is
written_key_is h job found (Read from to query) w is = absurd (none-some w is)
written_key_is h job found (Delete text) w is = absurd (none-some w is)
written_key_is h job found (Consolidate from to limits) w is = absurd (none-some w is)
written_key_is h job found Vacuum w is = absurd (none-some w is)
written_key_is h job found (Unlock seed lane) w is = absurd (none-some w is)
written_key_is h job found Fragments w is = absurd (none-some w is)

-- what a text erases has the key of the job
deleted_in_key_is : (job : Job) (text : List ℕ) (o : Option Schema) (q : Option Frame) (x : Deletion) → deleted_in job text o q ≡ Some x → x.key ≡ key_of job
deleted_in_key_is job text None q x is = absurd (none-some x is)
deleted_in_key_is job text (Some s) None x is = absurd (none-some x is)
deleted_in_key_is job text (Some s) (Some frame) x is = of_condition (condition_of (delete_condition frame s.attrs text)) is
  where
    of_condition : (o : Option Condition) → option_map (deletion_as job) o ≡ Some x → x.key ≡ key_of job
    of_condition None e = absurd (none-some x e)
    of_condition (Some condition) e = ap (λ y. y.key) (sym (same_Some (deletion_as job condition) x e))

-- what a job erases has its key
deletion_key_is : (h : History) (job : Job) (found : Option (List Key)) (c : Command) (x : Deletion) → deleted_by h job found c ≡ Some x → x.key ≡ key_of job
deletion_key_is h job found (Create f) x is = absurd (none-some x is)
deletion_key_is h job found (Evolve change) x is = absurd (none-some x is)
deletion_key_is h job found (Write v) x is = absurd (none-some x is)
deletion_key_is h job found (Read from to query) x is = absurd (none-some x is)
deletion_key_is h job found (Delete text) x is = deleted_in_key_is job text (schema_used h job found) (frame_in h) x is
deletion_key_is h job found (Consolidate from to limits) x is = absurd (none-some x is)
deletion_key_is h job found Vacuum x is = absurd (none-some x is)
deletion_key_is h job found (Unlock seed lane) x is = absurd (none-some x is)
deletion_key_is h job found Fragments x is = absurd (none-some x is)

-- what is made of something that has a key
made_key : {A : Type 0} (make : A → Deed) (key : A → Key) (o : Option A) (own : Key) → ((a : A) → key_in (make a) ≡ Some (key a)) → ((a : A) → o ≡ Some a → key a ≡ own)
    → (d : Deed) (k : Key) → option_map make o ≡ Some d → key_in d ≡ Some k → k ≡ own
made_key make key None own keyed owns d k is has = absurd (none-some d is)
made_key make key (Some a) own keyed owns d k is has = sym (same_Some (key a) k (sym (keyed a) ∙ ap key_in (same_Some (make a) d is) ∙ has)) ∙ owns a refl

-- a frame has no key
pub frame_has_no_key : (o : Option FrameIn) (d : Deed) (k : Key) → option_map (λ f. Framed (frame_made f)) o ≡ Some d → key_in d ≡ Some k → ⊥
frame_has_no_key None d k is has = none-some d is
frame_has_no_key (Some f) d k is has = none-some k (ap key_in (same_Some (Framed (frame_made f)) d is) ∙ has)

-- the key of the deed of an object that a job puts is the job's
deed_of_key : (h : History) (job : Job) (found : Option (List Key)) (n : Name) (d : Deed) (k : Key) → deed_of h job found n ≡ Some d → key_in d ≡ Some k → k ≡ key_of job
deed_of_key h job found name.Domain d k is has = absurd (frame_has_no_key (made_by job.command) d k is has)
deed_of_key h job found (name.Schema l) d k is has =
    made_key Declared (λ s. s.key) (declared_by h job found job.command) (key_of job) (λ s. refl) (λ s e. declared_key_is h job found job.command s e) d k is has
deed_of_key h job found (name.Commit f kind.Wrt) d k is has =
    made_key Wrote (λ w. w.key) (written_by h job found job.command) (key_of job) (λ w. refl) (λ w e. written_key_is h job found job.command w e) d k is has
deed_of_key h job found (name.Commit f kind.Del) d k is has =
    made_key Erased (λ x. x.key) (deleted_by h job found job.command) (key_of job) (λ x. refl) (λ x e. deletion_key_is h job found job.command x e) d k is has
deed_of_key h job found _ d k is has = absurd (none-some d is)

-- the key of a deed of a job's call is the job's
pub deed_in_key : (h : History) (job : Job) (found : Option (List Key)) (c : Call) (d : Deed) (k : Key) → deed_in h job found c ≡ Some d → key_in d ≡ Some k → k ≡ key_of job
deed_in_key h job found (call.Put n bytes) d k is has = deed_of_key h job found n d k is has
deed_in_key h job found _ d k is has = absurd (none-some d is)

-- the key is that of a job
pub record IsKeyOfJob (jobs : List Job) (k : Key) : Type 0 where
  pub number : ℕ
  pub job : Job
  pub is_job : slice_get jobs number ≡ Some job
  pub key : k ≡ key_of job

-- the key of a deed of a call is that of a job
pub deed_told_key : (jobs : List Job) (h : History) (seen : List Told) (e : Told) (d : Deed) (k : Key) → deed_told jobs h seen e ≡ Some d → key_in d ≡ Some k → IsKeyOfJob jobs k
deed_told_key jobs h seen e d k is has = of_maker e.job is
  where
    of_job : (number : ℕ) (o : Option Job) → slice_get jobs number ≡ o → option_and_then (λ job. deed_in h job (schemas_found (trace_of number seen)) e.call) o ≡ Some d → IsKeyOfJob jobs k
    of_job number None at it = absurd (none-some d it)
    of_job number (Some job) at it = record { number = number; job = job; is_job = at; key = deed_in_key h job (schemas_found (trace_of number seen)) e.call d k it has }

    of_maker : (o : Option ℕ) → option_and_then (λ number. option_and_then (λ job. deed_in h job (schemas_found (trace_of number seen)) e.call) (slice_get jobs number)) o ≡ Some d → IsKeyOfJob jobs k
    of_maker None it = absurd (none-some d it)
    of_maker (Some number) it = of_job number (slice_get jobs number) refl it

-- each key that a call appends is that of a job
grown_key : (jobs : List Job) (h : History) (seen : List Told) (e : Told) (k : Key) → Contains (keys (grown jobs h seen e)) k → IsKeyOfJob jobs k
grown_key jobs h seen e k at = from_changed e.changed (deed_told jobs h seen e) refl at
  where
    from_changed : (changed : Bool) (o : Option Deed) → deed_told jobs h seen e ≡ o → Contains (keys (cond changed (option_to_list o) [])) k → IsKeyOfJob jobs k
    from_changed false o is there = absurd (Contains-nil k there)
    from_changed true None is there = absurd (Contains-nil k there)
    from_changed true (Some d) is there =
        let found = filter_map-Contains key_in (d ∷ []) k there in
        deed_told_key jobs h seen e d k is (ap key_in (Contains-only d found.0 found.1) ∙ found.2)

-- each key of the history is one of those before, or that of a job
pub key_told : (jobs : List Job) (h : History) (before seen : List Told) (k : Key) → Contains (keys (history_from jobs h before seen)) k → Contains (keys h) k ⊎ IsKeyOfJob jobs k
key_told jobs h before [] k at = inl at
key_told jobs h before (e ∷ seen) k at = elim (key_told jobs (h ++ grown jobs h before e) (before ++ e ∷ []) seen k at) [
  | inl there ↦ elim (Contains-append_cases (keys h) (keys (grown jobs h before e)) k (subst (λ ks. Contains ks k) (keys-append h (grown jobs h before e)) there)) [
    | inl first ↦ inl first
    | inr own ↦ inr (grown_key jobs h before e k own)
  ]
  | inr known ↦ inr known
]
