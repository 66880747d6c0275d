-- A job that ends for want of memory did nothing: no deed has its key.
use Rattle.std.proofs.Common.{◌≡◌, ℕ, Bool, true, false, ◌||◌, cond, inl, inr, ◌⊎◌, List, [], ◌∷◌, ◌++◌, Option, Some, None, length, suc, refl, sym, ◌∙◌, ap, subst, append_assoc}
use Rattle.std.specs.Prelude.{Contains, nat_lt, option_map, option_to_list, slice_get}
use Rattle.std.specs.Option.{option_or}
use Rattle.std.proofs.lemmas.Bool.{cases_eq, true≢false}
use Rattle.std.proofs.lemmas.List.{append-nil}
use Rattle.std.proofs.lemmas.List.Elements.{Contains-append_cases}
use Rattle.std.proofs.lemmas.Option.{none-some, same_Some}
use Rattle.ts_base.specs.Held.{Held}
use Rattle.ts_base.specs.declared.keys.Key.{Key}
use Rattle.ts_base.specs.declared.names.CommitKind.TheVariants.{Del}
use Rattle.ts_base.specs.declared.names.Name.{Name}
use Rattle.ts_base.specs.declared.names.Prefix.TheVariants.{Commits, Fragment, Schemas}
use Rattle.ts_domain.specs.declared.dims.DomainFault.{DomainFault}
use Rattle.ts_domain.specs.Dims.{domain_fault}
use Rattle.ts_schema.specs.declared.faults.SchemaFault.{SchemaFault}
use Rattle.ts_schema.specs.Faults.{schema_fault}
use Rattle.ts_schema.specs.FrameTexts.{frame_object}
use Rattle.ts_store.specs.declared.call.Call.{Call}
use Rattle.ts_model.specs.declared.commands.Command.{Command}
use Rattle.ts_model.specs.declared.commands.Command.TheVariants.{Create, Evolve, Write, Read, Delete, Consolidate, Vacuum, Unlock, Fragments}
use Rattle.ts_model.specs.declared.commands.Job.{Job}
use Rattle.ts_model.specs.declared.answers.Refusal.{Refusal}
use Rattle.ts_model.specs.declared.deeds.Deed.{Deed}
use Rattle.ts_model.specs.declared.states.State.{State}
use Rattle.ts_model.specs.declared.states.State.TheVariants.{Creates, Seeks, Puts, Collects, Merges, Lists, Sweeps, Removes, Over}
use Rattle.ts_model.specs.declared.states.Merging.TheVariants as merging
use Rattle.ts_model.specs.declared.states.Sweeping.TheVariants as sweeping
use Rattle.ts_commit.specs.Selections.{removal_set}
use Rattle.ts_model.specs.declared.states.Creating.TheVariants.{PutsFrame, ComparesFrame, ListsDeclared}
use Rattle.ts_model.specs.declared.states.Seeking.TheVariants.{ListsCommits, ListsSchemas, GetsSchema, GetsFrame}
use Rattle.ts_model.specs.declared.states.Collecting.TheVariants.{GetsVacs, GetsHeads, GetsSchemas, GetsDeletes, Fetches}
use Rattle.ts_model.specs.declared.states.NewObject.{NewObject}
use Rattle.ts_model.specs.Commands.{frame_made}
use Rattle.ts_model.specs.Deeds.{History, key_in, keys}
use Rattle.ts_model.specs.Driven.{EndsBy, MayAsk, lacks_after, lacks_from}
use Rattle.ts_model.specs.Codecs.{Codec, CodecLaws, Spelled, Tracking}
use Rattle.ts_model.specs.Jobs.{AreApart, key_of}
use Rattle.ts_model.specs.States.{all_of, get_vac, list_parts, vac_of, Exchange, asks, asks_memory, begun, frame_put, get_delete, get_head, get_head_in, get_schema, goes, is_over, made_by, on_made, on_removed, put_of, putting, removing, takes_memory, unless_refused, want_of, with_item}
use Rattle.ts_model.specs.Stages.{begins_at, first_stage, goes_on, lease_of, stage_asks_memory, stage_of, stage_takes_memory}
use Rattle.ts_model.specs.declared.states.Stage.{Stage}
use Rattle.ts_model.specs.declared.states.Stage.TheVariants.{ListsLeases, PutsLease, Releases}
use Rattle.ts_model.specs.declared.states.Stage.TheVariants as stages
use Rattle.ts_law.proofs.LeaseSteps.{before_clean, going_undone, leased_history, stage_undone}
use Rattle.ts_model.specs.Told.{IsReplied, Replied, Told, after_told, deed_in, deed_of, deed_told, exchange_of, grown, held_told, history_told, schemas_found, trace_of}
use Rattle.ts_law.specs.Ends.{IsUndone}
use Rattle.ts_law.specs.Kept.{Aims, AreAllowed, Claims, Kept, StageClaims}
use Rattle.ts_model.proofs.Asked.{next_call, no_release}
use Rattle.ts_model.proofs.HistoryLaws.{absent_from_new, keys-append, new_from_absent}
use Rattle.ts_model.proofs.Lacks.{bare_goes, lacks-push}
use Rattle.ts_model.proofs.ListLemmas.{Contains-filter_map, Contains-here, Contains-nil, Contains-only, Contains-there, filter_map-Contains}
use Rattle.ts_model.proofs.Traces.{deed_told_own, exchange_of_other, exchange_of_own, history_told-push, stage_from-append, stage_of-own, trace_of-append}
use Rattle.ts_law.proofs.Effects.{Added, PutWent, Still, put_went}
use Rattle.ts_law.proofs.KeptLaws.{asked_by, calling, coming, every_prefix, no_get, no_listing, one_name, speaks_no_put}
use Rattle.ts_law.proofs.DeedKeys.{deed_in_key, frame_has_no_key}
use Rattle.ts_law.proofs.UnlockSteps.{own_listing_no_put, removal_still}
use Rattle.std.specs.List.{cons_option}
use Rattle.ts_base.specs.declared.names.Name.TheVariants as name
use Rattle.ts_store.specs.declared.call.Call.TheVariants as call
use Rattle.ts_model.specs.declared.answers.Outcome.TheVariants as outcome
use Rattle.ts_model.specs.declared.answers.Refusal.TheVariants as refusal

-- ---- calls that add no deed of a job

-- the call puts nothing, but perhaps the frame
abbrev IsKeyless : Call → Type 0
IsKeyless c = (n : Name) (bytes : List ℕ) → c ≡ call.Put n bytes → n ≡ name.Domain

-- no deed of such a call has a key
keyless_deed : (h : History) (job : Job) (found : Option (List Key)) (c : Call) (d : Deed) (k : Key) → IsKeyless c → deed_in h job found c ≡ Some d → key_in d ≡ Some k → ⊥
keyless_deed h job found (call.Put n bytes) d k keyless is has = frame_has_no_key (made_by job.command) d k (subst (λ (x : Name). deed_of h job found x ≡ Some d) (keyless n bytes refl) is) has
keyless_deed h job found (call.Remove n) d k keyless is has = none-some d is
keyless_deed h job found (call.List p) d k keyless is has = none-some d is
keyless_deed h job found (call.Get n from len) d k keyless is has = none-some d is
keyless_deed h job found (call.Size n) d k keyless is has = none-some d is

-- the call adds no deed of the job with a number: another made it, it changed nothing, or it is of no key
data AddsNone (number : ℕ) (e : Told) : Type 0 where
  OfAnother : (e.job ≡ Some number → ⊥) → AddsNone number e
  Unchanged : e.changed ≡ false → AddsNone number e
  Keyless : IsKeyless e.call → AddsNone number e

module _ (jobs : List Job) (past : History) (number : ℕ) (job : Job) (is_job : slice_get jobs number ≡ Some job) (apart : AreApart jobs) where
  -- the deed of such a call does not have the key of the job
  adds_none : (h : History) (seen : List Told) (e : Told) (d : Deed) → AddsNone number e → e.changed ≡ true → deed_told jobs h seen e ≡ Some d → key_in d ≡ Some (key_of job) → ⊥
  adds_none h seen e d none changed is has = by_maker e.job refl is
    where
      by_kind : (i : ℕ) (j : Job) → e.job ≡ Some i → slice_get jobs i ≡ Some j → deed_in h j (schemas_found (trace_of i seen)) e.call ≡ Some d → AddsNone number e → ⊥
      by_kind i j mine at deed (OfAnother other) =
          let same : key_of job ≡ key_of j = deed_in_key h j (schemas_found (trace_of i seen)) e.call d (key_of job) deed has in
          other (mine ∙ ap Some (sym (apart number i job j is_job at (ap (λ (k : Key). k.id) same))))
      by_kind i j mine at deed (Unchanged still) = true≢false (sym changed ∙ still)
      by_kind i j mine at deed (Keyless keyless) = keyless_deed h j (schemas_found (trace_of i seen)) e.call d (key_of job) keyless deed has

      by_job : (i : ℕ) → e.job ≡ Some i → (o : Option Job) → slice_get jobs i ≡ o → deed_told jobs h seen e ≡ Some d → ⊥
      by_job i mine None at deed = let gone : deed_told jobs h seen e ≡ None = rw (mine, at) refl in none-some d (sym gone ∙ deed)
      by_job i mine (Some j) at deed = by_kind i j mine at (sym (deed_told_own jobs h seen e i j e.call mine at refl) ∙ deed) none

      by_maker : (o : Option ℕ) → e.job ≡ o → deed_told jobs h seen e ≡ Some d → ⊥
      by_maker None mine deed = let gone : deed_told jobs h seen e ≡ None = rw mine refl in none-some d (sym gone ∙ deed)
      by_maker (Some i) mine deed = by_job i mine (slice_get jobs i) refl deed

  -- so no key that it adds is that of the job
  grown_none : (h : History) (seen : List Told) (e : Told) → AddsNone number e → Contains (keys (grown jobs h seen e)) (key_of job) → ⊥
  grown_none h seen e none at = by_changed e.changed (deed_told jobs h seen e) refl refl at
    where
      by_changed : (b : Bool) (o : Option Deed) → e.changed ≡ b → deed_told jobs h seen e ≡ o → Contains (keys (cond b (option_to_list o) [])) (key_of job) → ⊥
      by_changed false o changed is there = Contains-nil (key_of job) there
      by_changed true None changed is there = Contains-nil (key_of job) there
      by_changed true (Some d) changed is there =
          let found = filter_map-Contains key_in (d ∷ []) (key_of job) there in
          adds_none h seen e d none changed is (ap key_in (Contains-only d found.0 found.1) ∙ found.2)

  -- a job of which nothing is done is so after a call that adds no deed of it
  undone_after : (seen : List Told) (e : Told) → AddsNone number e → IsUndone (history_told jobs past seen) job → IsUndone (history_told jobs past (seen ++ e ∷ [])) job
  undone_after seen e none undone =
      let h = history_told jobs past seen in
      let more = grown jobs h seen e in
      new_from_absent (history_told jobs past (seen ++ e ∷ [])) (key_of job)
      (λ at. elim (Contains-append_cases (keys h) (keys more) (key_of job) (subst (λ ks. Contains ks (key_of job)) (ap keys (history_told-push jobs past seen e) ∙ keys-append h more) at)) [
        | inl there ↦ absent_from_new h (key_of job) undone there
        | inr own ↦ grown_none h seen e none own
      ])

  -- and so after calls of others
  pub undone_on : (seen told : List Told) → ((e : Told) → Contains told e → e.job ≡ Some number → ⊥) → IsUndone (history_told jobs past seen) job → IsUndone (history_told jobs past (seen ++ told)) job
  undone_on seen [] others undone = subst (λ t. IsUndone (history_told jobs past t) job) (sym (append-nil seen)) undone
  undone_on seen (e ∷ told) others undone =
      subst (λ t. IsUndone (history_told jobs past t) job) (append_assoc seen (e ∷ []) told)
      (undone_on (seen ++ e ∷ []) told (λ d at. others d (Contains-there e told d at)) (undone_after seen e (OfAnother (others e (Contains-here e told))) undone))

-- ---- the last call of a job

-- the last call of the job with a number
record LastCall (number : ℕ) (told : List Told) : Type 0 where
  before : List Told
  last : Told
  later : List Told
  parts : told ≡ before ++ last ∷ later
  own : last.job ≡ Some number
  others : (e : Told) → Contains later e → e.job ≡ Some number → ⊥

-- where a job made no call, none is of it
none_of : (number : ℕ) (told : List Told) → trace_of number told ≡ [] → (e : Told) → Contains told e → e.job ≡ Some number → ⊥
none_of number told none e at mine =
    let x : Exchange = record { call = e.call; reply = e.reply } in
    Contains-nil x (subst (λ t. Contains t x) none (Contains-filter_map (exchange_of number) told e x at (exchange_of_own number e mine)))

-- a job made no call, or one is its last
last_call : (number : ℕ) (told : List Told) → (trace_of number told ≡ []) ⊎ LastCall number told
last_call number [] = inl refl
last_call number (e ∷ told) = by_rest (last_call number told)
  where
    by_maker : (o : Option ℕ) → e.job ≡ o → trace_of number told ≡ [] → (trace_of number (e ∷ told) ≡ []) ⊎ LastCall number (e ∷ told)
    by_maker None mine none = inl (ap (λ o. cons_option o (trace_of number told)) (exchange_of_other number e (λ own. none-some number (sym mine ∙ own))) ∙ none)
    by_maker (Some i) mine none = elim (cases_eq i number) [
      | inl same ↦ inr (record { before = []; last = e; later = told; parts = refl; own = mine ∙ ap Some same; others = none_of number told none })
      | inr apart ↦ inl (ap (λ o. cons_option o (trace_of number told)) (exchange_of_other number e (λ own. apart (same_Some i number (sym mine ∙ own)))) ∙ none)
    ]

    by_rest : (trace_of number told ≡ []) ⊎ LastCall number told → (trace_of number (e ∷ told) ≡ []) ⊎ LastCall number (e ∷ told)
    by_rest (inl none) = by_maker e.job refl none
    by_rest (inr is) = inr (record { before = e ∷ is.before; last = is.last; later = is.later; parts = ap (λ t. e ∷ t) is.parts; own = is.own; others = is.others })

-- ---- what the states of a job say of its deeds

module _ {F : Type 0} (codec : Codec F) (spelled : Spelled) (tracks : Tracking F) (laws : CodecLaws codec spelled tracks) (opening : Held) (past : History) (jobs : List Job) (seen : List Told) (m : Held) (number : ℕ) (job : Job) where
  -- what a state says here
  abbrev Says : State F → Type 0
  Says s = Claims codec spelled tracks opening past jobs seen m number job s

  -- where a reply takes memory the job puts nothing but the frame
  asks_frame : (s : State F) (n : Name) (bytes : List ℕ) → takes_memory s ≡ true → Says s → asks codec job s ≡ Some (call.Put n bytes) → n ≡ name.Domain
  asks_frame (Creates PutsFrame) n bytes takes is asked =
      let f = asked_by frame_put (made_by job.command) (call.Put n bytes) asked in
      sym (one_name name.Domain n (frame_object (frame_made f.0)) bytes f.2)
  asks_frame (Puts objects next end) n bytes takes is asked = absurd (true≢false (sym takes))
  asks_frame (Over end) n bytes takes is asked = absurd (none-some _ asked)
  asks_frame Lists n bytes takes is asked = absurd (own_listing_no_put job.command n bytes is.1 asked)
  asks_frame (Sweeps sweeping.ListsCommits) n bytes takes is asked = absurd (no_listing Commits n bytes (same_Some _ _ asked))
  asks_frame (Sweeps (sweeping.ListsSchemas s)) n bytes takes is asked = absurd (no_listing Schemas n bytes (same_Some _ _ asked))
  asks_frame (Sweeps (sweeping.GetsVacs s)) n bytes takes is asked =
      let f = asked_by get_vac (slice_get s.counting (length s.vacs)) (call.Put n bytes) asked in
      absurd (no_get (vac_of f.0) 0 _ n bytes f.2)
  asks_frame (Sweeps (sweeping.ListsParts s set listed)) n bytes takes is asked =
      let f = asked_by list_parts (slice_get set (length listed)) (call.Put n bytes) asked in
      absurd (no_listing (Fragment f.0) n bytes f.2)
  asks_frame (Removes names next end) n bytes takes is asked = absurd (true≢false (sym takes))
  asks_frame (Creates ListsDeclared) n bytes takes is asked = absurd (no_listing Schemas n bytes (same_Some _ _ asked))
  asks_frame (Seeks ListsCommits) n bytes takes is asked = absurd (no_listing Commits n bytes (same_Some _ _ asked))
  asks_frame (Seeks (ListsSchemas listing)) n bytes takes is asked = absurd (no_listing Schemas n bytes (same_Some _ _ asked))
  asks_frame (Creates ComparesFrame) n bytes takes is asked = absurd (no_get name.Domain 0 _ n bytes (same_Some _ _ asked))
  asks_frame (Seeks (GetsFrame listing there)) n bytes takes is asked = absurd (no_get name.Domain 0 _ n bytes (same_Some _ _ asked))
  asks_frame (Seeks (GetsSchema listing there)) n bytes takes is asked = absurd (no_get (name.Schema there) 0 _ n bytes (same_Some _ _ asked))
  asks_frame (Collects (GetsVacs r)) n bytes takes is asked =
      let f = asked_by get_vac (slice_get r.counting (length r.vacs)) (call.Put n bytes) asked in
      absurd (no_get (vac_of f.0) 0 _ n bytes f.2)
  asks_frame (Collects (GetsHeads r opened)) n bytes takes is asked =
      let f = asked_by (get_head codec r) (slice_get r.fragments (length opened)) (call.Put n bytes) asked in
      absurd (no_get (name.Part f.0 (codec.head_part r.frame)) 0 _ n bytes f.2)
  asks_frame (Collects (GetsSchemas r opened named schemas)) n bytes takes is asked =
      let k = asked_by get_schema (slice_get named (length schemas)) (call.Put n bytes) asked in
      absurd (no_get (name.Schema k.0) 0 _ n bytes k.2)
  asks_frame (Collects (GetsDeletes r opened schemas)) n bytes takes is asked =
      let f = asked_by get_delete (slice_get r.delete_names (length r.deletions)) (call.Put n bytes) asked in
      absurd (no_get (name.Commit f.0 Del) 0 _ n bytes f.2)
  asks_frame (Collects (Fetches r opened schemas next frag got fetch c)) n bytes takes is asked =
      let way = is.2.1 in
      let held = laws.asks r.frame (way.holds).schema way.piece ((way.holds).spells).look (want_of r ((way.holds).schema).attrs) fetch c way.way in
      absurd (speaks_no_put c (name.Part ((way.piece).head).frag held.part) n bytes held.named (same_Some c (call.Put n bytes) asked))
  asks_frame (Merges merging.ListsCommits) n bytes takes is asked = absurd (no_listing Commits n bytes (same_Some _ _ asked))
  asks_frame (Merges (merging.ListsSchemas c)) n bytes takes is asked = absurd (no_listing Schemas n bytes (same_Some _ _ asked))
  asks_frame (Merges (merging.GetsFrame c)) n bytes takes is asked = absurd (no_get name.Domain 0 _ n bytes (same_Some _ _ asked))
  asks_frame (Merges (merging.GetsVacs s)) n bytes takes is asked =
      let f = asked_by get_vac (slice_get s.counting (length s.vacs)) (call.Put n bytes) asked in
      absurd (no_get (vac_of f.0) 0 _ n bytes f.2)
  asks_frame (Merges (merging.GetsHeads s opened)) n bytes takes is asked =
      let f = asked_by (get_head_in codec s.frame) (slice_get s.fragments (length opened)) (call.Put n bytes) asked in
      absurd (no_get (name.Part f.0 (codec.head_part s.frame)) 0 _ n bytes f.2)
  asks_frame (Merges (merging.GetsSchemas s opened named schemas)) n bytes takes is asked =
      let k = asked_by get_schema (slice_get named (length schemas)) (call.Put n bytes) asked in
      absurd (no_get (name.Schema k.0) 0 _ n bytes k.2)
  asks_frame (Merges (merging.Fetches s sources schema next frag got fetch c)) n bytes takes is asked =
      let way = is.2.1 in
      let held = laws.asks s.frame schema way.piece ((way.is.holds).spells).look (all_of s.frame schema.attrs) fetch c way.way in
      absurd (speaks_no_put c (name.Part ((way.piece).head).frag held.part) n bytes held.named (same_Some c (call.Put n bytes) asked))

  -- a put or a removal of an object by which the job is over for want of memory changed nothing
  put_still : (s : State F) (e : Told) → takes_memory s ≡ false → Says s → asks codec job s ≡ Some e.call → IsReplied m e → goes codec job s e.reply ≡ Over outcome.OutOfMemory → e.changed ≡ false
  put_still (Over end) e takes is asked replied ends = absurd (none-some e.call asked)
  put_still (Puts objects next end) e takes is asked replied ends =
      let (o, at, same) = asked_by put_of (slice_get objects next) e.call asked in
      by_fate o (put_went m o.name o.bytes e (sym same) replied)
      (ap (λ i. with_item (λ x. on_made (put_of x) (putting objects (suc next) end) e.reply) i) (sym at) ∙ ends)
    where
      Ends : NewObject → Type 0
      Ends o = on_made {F = F} (put_of o) (putting objects (suc next) end) e.reply ≡ Over outcome.OutOfMemory

      by_made : (b : Bool) → ◌≡◌ {A = State F} (cond b (Puts objects (suc next) end) (Over end)) (Over outcome.OutOfMemory) → ⊥
      by_made true same = cc
      by_made false same = let none : end ≡ outcome.OutOfMemory = cc in subst (Aims codec spelled opening past jobs seen m number job objects) none is.aims

      by_fate : (o : NewObject) → PutWent m o.name o.bytes (after_told m e) e.changed e.reply → Ends o → e.changed ≡ false
      by_fate o (Still later changed made taken) over = changed
      by_fate o (Added free later changed (inl made)) over = absurd (by_made (nat_lt (suc next) (length objects)) (subst (λ r. on_made {F = F} (put_of o) (putting objects (suc next) end) r ≡ Over outcome.OutOfMemory) made over))
      by_fate o (Added free later changed (inr failed)) over = absurd (no_refusal (subst (λ r. on_made {F = F} (put_of o) (putting objects (suc next) end) r ≡ Over outcome.OutOfMemory) failed over))
        where
          no_refusal : {r : Refusal} → ◌≡◌ {A = State F} (Over (outcome.Refused r)) (Over outcome.OutOfMemory) → ⊥
          no_refusal same = cc
  put_still (Removes names next end) e takes is asked replied ends =
      let (n, at, same) = asked_by call.Remove (slice_get names next) e.call asked in
      removal_still {F = F} m e n names next end (sym same) replied has_end (ap (λ i. with_item (λ x. on_removed (call.Remove x) (removing names (suc next) end) e.reply) i) (sym at) ∙ ends)
    where
      has_end : end ≡ outcome.OutOfMemory → ⊥
      has_end none = elim is [
        | inl unlocking ↦ let clash : outcome.Unlocked (length names) ≡ outcome.OutOfMemory = sym unlocking.ends ∙ none in cc
        | inr vacuuming ↦ let clash : outcome.Vacuumed (length (removal_set (vacuuming.sweep).vacs)) ≡ outcome.OutOfMemory = sym vacuuming.ends ∙ none in cc
      ]
  put_still _ e takes is asked replied ends = absurd (true≢false takes)

  -- a job that made no call did nothing
  begun_undone : Says (begun job.command) → IsUndone (history_told jobs past seen) job
  begun_undone = by_command job.command
    where
      by_faults : (d : Option DomainFault) (s : Option SchemaFault) → Says (unless_refused (Creates PutsFrame) (option_or (option_map refusal.DomainBad d) (option_map refusal.SchemaBad s))) → IsUndone (history_told jobs past seen) job
      by_faults (Some fault) s is = is
      by_faults None (Some fault) is = is
      by_faults None None is = is.0.undone

      by_command : (command : Command) → Says (begun command) → IsUndone (history_told jobs past seen) job
      by_command (Create f) is = by_faults (domain_fault f.dims) (schema_fault f.dims f.attrs) is
      by_command (Read from to query) is = is.0.undone
      by_command (Evolve change) is = is.0.undone
      by_command (Write w) is = is.0.undone
      by_command (Delete text) is = is.0.undone
      by_command (Consolidate from to limits) is = is.0.undone
      by_command Vacuum is = is.0.undone
      by_command (Unlock seed lane) is = is.0.undone
      by_command Fragments is = is.0.undone

-- ---- want of memory

-- each of the calls is replied to over what those before it left
pub replied_at : (m : Held) (a : List Told) (e : Told) (b : List Told) → Replied m (a ++ e ∷ b) → IsReplied (held_told m a) e
replied_at m [] e b replied = replied.0
replied_at m (d ∷ a) e b replied = replied_at (after_told m d) a e b replied.1

module _ {F : Type 0} (codec : Codec F) (spelled : Spelled) (tracks : Tracking F) (laws : CodecLaws codec spelled tracks) (past : History) (jobs : List Job) (m : Held) (told : List Told)
    (last : List ℕ) (begins : Kept codec spelled tracks m past jobs [] [] m) (may : AreAllowed codec jobs [] last [] told) (replied : Replied m told)
    (number : ℕ) (job : Job) (is_job : slice_get jobs number ≡ Some job) (alive : Contains last number → ⊥) where
  -- what the job's stage says after a first part of the calls
  says_at : (a b : List Told) → told ≡ a ++ b → StageClaims codec spelled tracks m past jobs a (held_told m a) number job (stage_of codec job (trace_of number a))
  says_at a b parts =
      let then = every_prefix codec spelled tracks laws m past jobs [] last [] m told a b begins may replied parts in
      (then.kept).claims number job is_job (λ dead. alive (then.among number dead))

  -- after its last call the job did nothing
  last_undone : (is : LastCall number told) → EndsBy codec job (trace_of number told) outcome.OutOfMemory → IsUndone (history_told jobs past (is.before ++ is.last ∷ [])) job
  last_undone is ends = by_lease (lease_of job) refl
    where
      a : List Told
      a = is.before

      e : Told
      e = is.last

      x : Exchange
      x = record { call = e.call; reply = e.reply }

      g : Stage F
      g = stage_of codec job (trace_of number a)

      says : StageClaims codec spelled tracks m past jobs a (held_told m a) number job g
      says = says_at a (e ∷ is.later) is.parts

      may_ask : MayAsk codec job g e.call
      may_ask = (calling codec spelled tracks laws m past jobs a (held_told m a) e number job (coming codec spelled tracks laws m past jobs [] last [] m told a is.later e begins may replied is.parts) is.own is_job).asked

      trace : trace_of number told ≡ trace_of number a ++ x ∷ []
      trace =
          ap (trace_of number) is.parts ∙ trace_of-append number a (e ∷ is.later)
          ∙ ap (λ o. trace_of number a ++ cons_option o (trace_of number is.later)) (exchange_of_own number e is.own)
          ∙ ap (λ t. trace_of number a ++ x ∷ t) (none_later is.later is.others)
        where
          none_later : (told : List Told) → ((d : Told) → Contains told d → d.job ≡ Some number → ⊥) → trace_of number told ≡ []
          none_later [] none = refl
          none_later (d ∷ ds) none = ap (λ o. cons_option o (trace_of number ds)) (exchange_of_other number d (none d (Contains-here d ds))) ∙ none_later ds (λ c at. none c (Contains-there d ds c at))

      leads : stage_of codec job (trace_of number told) ≡ goes_on codec job g x
      leads = ap (stage_of codec job) trace ∙ stage_from-append codec job (first_stage job) (trace_of number a) (x ∷ [])

      undone : IsUndone (history_told jobs past a) job
      undone = stage_undone codec spelled tracks m past jobs a (held_told m a) number job g e.call may_ask says

      adds : AddsNone number e → IsUndone (history_told jobs past (a ++ e ∷ [])) job
      adds none = undone_after jobs past number job is_job begins.apart a e none undone

      -- a job without a lease is at its work
      at_work : lease_of job ≡ None → (s : State F) → g ≡ stages.Works s → IsUndone (history_told jobs past (a ++ e ∷ [])) job
      at_work none s works = by_memory (takes_memory s) refl
        where
          says_work : Claims codec spelled tracks m past jobs a (held_told m a) number job s
          says_work = subst (StageClaims codec spelled tracks m past jobs a (held_told m a) number job) works says

          asked : asks codec job s ≡ Some e.call
          asked = next_call codec job (stages.Works s) e.call none (subst (λ t. MayAsk codec job t e.call) works may_ask)

          goes_bare : goes_on codec job g x ≡ stages.Works (goes codec job s e.reply)
          goes_bare = ap (λ t. goes_on codec job t x) works ∙ bare_goes codec job s x none

          -- where the job goes on after the call, what its state says there tells it
          by_going : is_over (goes codec job s e.reply) ≡ false → IsUndone (history_told jobs past (a ++ e ∷ [])) job
          by_going going =
              let here = says_at (a ++ e ∷ []) is.later (is.parts ∙ sym (append_assoc a (e ∷ []) is.later)) in
              going_undone codec spelled tracks m past jobs (a ++ e ∷ []) (held_told m (a ++ e ∷ [])) number job (goes codec job s e.reply) going
              (subst (StageClaims codec spelled tracks m past jobs (a ++ e ∷ []) (held_told m (a ++ e ∷ [])) number job) (stage_of-own codec job number a e is.own ∙ goes_bare) here)

          same_work : {s t : State F} → ◌≡◌ {A = Stage F} (stages.Works s) (stages.Works t) → s ≡ t
          same_work same = cc

          by_end : takes_memory s ≡ false → EndsBy codec job (trace_of number told) outcome.OutOfMemory → IsUndone (history_told jobs past (a ++ e ∷ [])) job
          by_end takes (inl over) =
              adds (Unchanged (put_still codec spelled tracks laws m past jobs a (held_told m a) number job s e takes says_work asked (replied_at m a e is.later (subst (Replied m) is.parts replied)) (same_work (sym goes_bare ∙ sym leads ∙ over))))
          by_end takes (inr short) =
              let before = lacks_from codec job true (first_stage job) (trace_of number a) in
              let lacks : lacks_after codec job before g x ≡ true = sym (lacks-push codec job true (first_stage job) (trace_of number a) x) ∙ ap (lacks_from codec job true (first_stage job)) (sym trace) ∙ short.1.1 in
              let asks_more : stage_asks_memory (goes_on codec job g x) ≡ true = ap (λ b. b || stage_asks_memory (goes_on codec job g x)) (sym takes ∙ ap stage_takes_memory (sym works)) ∙ ap (λ b. cond b before (stage_takes_memory g || stage_asks_memory (goes_on codec job g x))) (sym (no_release job e.call none)) ∙ lacks in
              by_going (asking_going (goes codec job s e.reply) (ap stage_asks_memory (sym goes_bare) ∙ asks_more))
            where
              asking_going : (t : State F) → asks_memory t ≡ true → is_over t ≡ false
              asking_going (Over end) asking = absurd (true≢false (sym asking))
              asking_going _ asking = refl

          by_memory : (b : Bool) → takes_memory s ≡ b → IsUndone (history_told jobs past (a ++ e ∷ [])) job
          by_memory true takes = adds (Keyless (λ n bytes put. asks_frame codec spelled tracks laws m past jobs a (held_told m a) number job s n bytes takes says_work (asked ∙ ap Some put)))
          by_memory false takes = by_end takes ends

      by_stage : lease_of job ≡ None → (t : Stage F) → g ≡ t → StageClaims codec spelled tracks m past jobs a (held_told m a) number job t → IsUndone (history_told jobs past (a ++ e ∷ [])) job
      by_stage none (stages.Works s) same claims = at_work none s same
      by_stage none (PutsLease lease) same claims = absurd (none-some lease (sym none ∙ claims.0.0))
      by_stage none (ListsLeases lease) same claims = absurd (none-some lease (sym none ∙ claims.0))
      by_stage none (Releases lease end) same claims = absurd (none-some lease (sym none ∙ claims.0))

      by_lease : (o : Option Name) → lease_of job ≡ o → IsUndone (history_told jobs past (a ++ e ∷ [])) job
      by_lease None none = by_stage none g refl says
      by_lease (Some lease) some = subst (λ h. IsUndone h job) (sym (leased_history past jobs a e number job lease is.own is_job some)) undone

  -- a job that ended for want of memory did nothing
  pub short_undone : EndsBy codec job (trace_of number told) outcome.OutOfMemory → IsUndone (history_told jobs past told) job
  short_undone ends = by_last (last_call number told)
    where
      by_first : (o : Option Name) → lease_of job ≡ o → StageClaims codec spelled tracks m past jobs told (held_told m told) number job (begins_at o (begun job.command)) → IsUndone (history_told jobs past told) job
      by_first None none says = begun_undone codec spelled tracks laws m past jobs told (held_told m told) number job says
      by_first (Some lease) some says = (before_clean codec spelled tracks m past jobs told (held_told m told) number job lease some says.0.1).undone

      by_last : (trace_of number told ≡ []) ⊎ LastCall number told → IsUndone (history_told jobs past told) job
      by_last (inl none) =
          by_first (lease_of job) refl
          (subst (λ t. StageClaims codec spelled tracks m past jobs told (held_told m told) number job (stage_of codec job t)) none (says_at told [] (sym (append-nil told))))
      by_last (inr is) =
          subst (λ t. IsUndone (history_told jobs past t) job) (append_assoc is.before (is.last ∷ []) is.later ∙ sym is.parts)
          (undone_on jobs past number job is_job begins.apart (is.before ++ is.last ∷ []) is.later is.others (last_undone is ends))
