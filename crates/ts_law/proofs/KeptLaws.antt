-- Every call of a job keeps what is kept.
use Rattle.std.proofs.Common.{List, None, Option, Some, [], ap, append_assoc, inl, inr, length, refl, subst, sym, ℕ, ◌++◌, ◌-◌, ◌<◌, ◌^◌, ◌∙◌, ◌∷◌, ◌≡◌}
use Rattle.std.proofs.lemmas.Bool.{cases_eq}
use Rattle.std.proofs.lemmas.List.{append-nil}
use Rattle.std.proofs.lemmas.List.Elements.{All-contains, All-head, All-push, All-tail}
use Rattle.std.proofs.lemmas.Option.{none-some, same_Some, slice_get_within}
use Rattle.std.specs.Prelude.{◌≢◌, All, Contains, IsSome, option_map, slice_get}
use Rattle.ts_base.specs.Held.{Held}
use Rattle.ts_base.specs.Names.{wrt_of}
use Rattle.ts_base.specs.declared.names.CommitKind.TheVariants.{Del}
use Rattle.ts_base.specs.declared.names.Name.{Name}
use Rattle.ts_base.specs.declared.names.Prefix.{Prefix}
use Rattle.ts_base.specs.declared.names.Prefix.TheVariants.{Commits, Fragment, Leases, Schemas}
use Rattle.ts_law.proofs.Broken.{broken_kept, broken_leads, drop_kept, goes_under}
use Rattle.ts_law.proofs.DeleteSteps.{deletes_steps}
use Rattle.ts_law.proofs.FetchSteps.{fetch_steps}
use Rattle.ts_law.proofs.Frames.{aims-carry, stage_stays}
use Rattle.ts_model.proofs.HistoryLaws.{job_of_id}
use Rattle.ts_model.proofs.ListLemmas.{Contains-slice_get}
use Rattle.ts_law.proofs.ListSteps.{commits_steps, schemas_steps}
use Rattle.ts_law.proofs.PutSteps.{compare_steps, declared_steps, frame_steps, deed_steps}
use Rattle.ts_law.proofs.MergePuts.{merge_puts_steps}
use Rattle.ts_law.proofs.MergeSteps.{merge_commits_steps, merge_schemas_steps, merge_frame_steps, merge_vacs_steps, merge_heads_steps, merge_learn_steps}
use Rattle.ts_law.proofs.MergeFetches.{merge_fetch_steps}
use Rattle.ts_law.proofs.UnlockSteps.{list_steps, own_listing_no_put, remove_steps}
use Rattle.ts_law.proofs.SweepSteps.{sweep_commits_steps, sweep_parts_steps, sweep_schemas_steps, sweep_vacs_steps}
use Rattle.ts_law.proofs.Clearing.{clear_steps}
use Rattle.ts_law.proofs.ClaimsLess.{others_idle, stage_less}
use Rattle.ts_law.proofs.Removals.{removal_spends}
use Rattle.ts_law.proofs.ReadSteps.{vacs_steps, framed_steps, further_steps, heads_steps, schema_steps}
use Rattle.ts_model.proofs.Traces.{held_told-append, stage_of-other, stage_of-own}
use Rattle.ts_model.specs.Commands.{frame_made}
use Rattle.ts_model.specs.Deeds.{History}
use Rattle.ts_law.specs.Ends.{IsTrueEnd}
use Rattle.ts_model.specs.Codecs.{Codec, CodecLaws, SpeaksOf, Spelled, Tracking}
use Rattle.ts_law.specs.Fresh.{id_in, AreSpent, DoesCommit, IsSpent}
use Rattle.ts_law.specs.Stands.{IsCommitted, Stands}
use Rattle.ts_law.specs.Sweeps.{IsNoSweep}
use Rattle.ts_base.specs.declared.keys.FragKey.{FragKey}
use Rattle.ts_model.specs.Jobs.{IsFit, job_with}
use Rattle.ts_law.specs.Kept.{AreAllowed, AreAmong, Claims, IsAllowed, IsOfJobs, Kept, MayCome, StageClaims, HeldSince}
use Rattle.ts_model.specs.Driven.{MayAsk}
use Rattle.ts_model.specs.declared.states.Stage.{Stage}
use Rattle.ts_model.specs.declared.states.Stage.TheVariants.{ListsLeases, PutsLease, Releases}
use Rattle.ts_model.specs.declared.states.Stage.TheVariants as stages
use Rattle.ts_law.proofs.LeaseSteps.{asks_going, before_clean, going_unspent, lease_is, release_is, stage_step}
use Rattle.ts_law.proofs.Spent.{are_spent_on, committed_by}
use Rattle.ts_law.proofs.Leasing.{leased_step}
use Rattle.ts_model.specs.States.{all_of, get_vac, list_parts, vac_of, asks, frame_put, get_delete, get_head, get_head_in, get_schema, made_by, put_of, want_of}
use Rattle.ts_model.specs.Stages.{put_lease, stage_of}
use Rattle.ts_law.specs.Steps.{Advances, Comes, Moves, StageAdvances}
use Rattle.ts_model.specs.Told.{IsReplied, Replied, Told, after_told, held_told, history_told, trace_of}
use Rattle.ts_model.specs.declared.answers.Outcome.{Outcome}
use Rattle.ts_model.specs.declared.commands.Job.{Job}
use Rattle.ts_model.specs.declared.states.State.{State}
use Rattle.ts_model.specs.declared.states.State.TheVariants.{Creates, Seeks, Puts, Collects, Merges, Lists, Sweeps, Removes, Over}
use Rattle.ts_model.specs.declared.states.Merging.TheVariants as merging
use Rattle.ts_model.specs.declared.states.Sweeping.TheVariants as sweeping
use Rattle.ts_model.specs.declared.states.Creating.TheVariants.{PutsFrame, ComparesFrame, ListsDeclared}
use Rattle.ts_model.specs.declared.states.Seeking.TheVariants.{ListsCommits, ListsSchemas, GetsSchema, GetsFrame}
use Rattle.ts_model.specs.declared.states.Collecting.TheVariants.{GetsVacs, GetsHeads, GetsSchemas, GetsDeletes, Fetches}
use Rattle.ts_schema.specs.FrameTexts.{frame_object}
use Rattle.ts_store.specs.declared.call.Call.{Call}
use Rattle.ts_store.specs.declared.call.Call.TheVariants as call
use Rattle.ts_base.specs.declared.names.Name.TheVariants as name

-- ---- what a put of a job carries

-- a put has one name
pub one_name : (n q : Name) (bytes more : List ℕ) → call.Put n bytes ≡ call.Put q more → n ≡ q
one_name n q bytes more same = cc

-- a listing is no put
pub no_listing : (p : Prefix) (q : Name) (more : List ℕ) → call.List p ≡ call.Put q more → ⊥
no_listing p q more same = cc

-- a get is no put
pub no_get : (n : Name) (from len : ℕ) (q : Name) (more : List ℕ) → call.Get n from len ≡ call.Put q more → ⊥
no_get n from len q more same = cc

-- a removal is no put
pub no_removal : (n q : Name) (more : List ℕ) → call.Remove n ≡ call.Put q more → ⊥
no_removal n q more same = cc

-- the item by which a job asks
pub asked_by : {A : Type 0} (of : A → Call) (o : Option A) (c : Call) → option_map of o ≡ Some c → (x : A) × (o ≡ Some x) × (of x ≡ c)
asked_by of None c e = absurd (none-some c e)
asked_by of (Some x) c e = (x, refl, same_Some (of x) c e)

-- a call that speaks of an object puts none
pub speaks_no_put : (c : Call) (n q : Name) (more : List ℕ) → SpeaksOf c n → c ≡ call.Put q more → ⊥
speaks_no_put c n q more speaks same = subst (λ d. SpeaksOf d n) same speaks

module _ {F : Type 0} (codec : Codec F) (spelled : Spelled) (tracks : Tracking F) (laws : CodecLaws codec spelled tracks) (opening : Held) (past : History) (jobs : List Job) (seen : List Told) (m : Held) where
  -- a put of a job carries its identifier
  own_put : (number : ℕ) (job : Job) (s : State F) (n : Name) (bytes : List ℕ) (id : ℕ) → Claims codec spelled tracks opening past jobs seen m number job s
      → asks codec job s ≡ Some (call.Put n bytes) → id_in n ≡ Some id → job.id ≡ id
  own_put number job (Creates PutsFrame) n bytes id claims asked carried =
      let f = asked_by frame_put (made_by job.command) (call.Put n bytes) asked in
      absurd (none-some id (ap id_in (one_name name.Domain n (frame_object (frame_made f.0)) bytes f.2) ∙ carried))
  own_put number job (Creates ComparesFrame) n bytes id claims asked carried = absurd (no_get name.Domain 0 (2 ^ 64 - 1) n bytes (same_Some _ _ asked))
  own_put number job (Creates ListsDeclared) n bytes id claims asked carried = absurd (no_listing Schemas n bytes (same_Some _ _ asked))
  own_put number job (Puts objects next end) n bytes id claims asked carried =
      let o = asked_by put_of (slice_get objects next) (call.Put n bytes) asked in
      same_Some job.id id (sym (aims-carry codec spelled opening past jobs seen m number job objects end claims.aims next o.0 o.1).0 ∙ ap id_in (one_name (o.0).name n (o.0).bytes bytes o.2) ∙ carried)
  own_put number job (Seeks ListsCommits) n bytes id claims asked carried = absurd (no_listing Commits n bytes (same_Some _ _ asked))
  own_put number job (Seeks (ListsSchemas listing)) n bytes id claims asked carried = absurd (no_listing Schemas n bytes (same_Some _ _ asked))
  own_put number job (Seeks (GetsSchema listing there)) n bytes id claims asked carried = absurd (no_get (name.Schema there) 0 (2 ^ 64 - 1) n bytes (same_Some _ _ asked))
  own_put number job (Seeks (GetsFrame listing there)) n bytes id claims asked carried = absurd (no_get name.Domain 0 (2 ^ 64 - 1) n bytes (same_Some _ _ asked))
  own_put number job (Collects (GetsVacs r)) n bytes id claims asked carried =
      let f = asked_by get_vac (slice_get r.counting (length r.vacs)) (call.Put n bytes) asked in
      absurd (no_get (vac_of f.0) 0 (2 ^ 64 - 1) n bytes f.2)
  own_put number job (Collects (GetsHeads r opened)) n bytes id claims asked carried =
      let f = asked_by (get_head codec r) (slice_get r.fragments (length opened)) (call.Put n bytes) asked in
      absurd (no_get (name.Part f.0 (codec.head_part r.frame)) 0 (2 ^ 64 - 1) n bytes f.2)
  own_put number job (Collects (GetsSchemas r opened named schemas)) n bytes id claims asked carried =
      let k = asked_by get_schema (slice_get named (length schemas)) (call.Put n bytes) asked in
      absurd (no_get (name.Schema k.0) 0 (2 ^ 64 - 1) n bytes k.2)
  own_put number job (Collects (GetsDeletes r opened schemas)) n bytes id claims asked carried =
      let f = asked_by get_delete (slice_get r.delete_names (length r.deletions)) (call.Put n bytes) asked in
      absurd (no_get (name.Commit f.0 Del) 0 (2 ^ 64 - 1) n bytes f.2)
  own_put number job (Collects (Fetches r opened schemas next frag got fetch c)) n bytes id claims asked carried =
      let way = claims.2.1 in
      let held = laws.asks r.frame (way.holds).schema way.piece ((way.holds).spells).look (want_of r ((way.holds).schema).attrs) fetch c way.way in
      absurd (speaks_no_put c (name.Part ((way.piece).head).frag held.part) n bytes held.named (same_Some c (call.Put n bytes) asked))
  own_put number job (Merges merging.ListsCommits) n bytes id claims asked carried = absurd (no_listing Commits n bytes (same_Some _ _ asked))
  own_put number job (Merges (merging.ListsSchemas c)) n bytes id claims asked carried = absurd (no_listing Schemas n bytes (same_Some _ _ asked))
  own_put number job (Merges (merging.GetsFrame c)) n bytes id claims asked carried = absurd (no_get name.Domain 0 (2 ^ 64 - 1) n bytes (same_Some _ _ asked))
  own_put number job (Merges (merging.GetsVacs s)) n bytes id claims asked carried =
      let f = asked_by get_vac (slice_get s.counting (length s.vacs)) (call.Put n bytes) asked in
      absurd (no_get (vac_of f.0) 0 (2 ^ 64 - 1) n bytes f.2)
  own_put number job (Merges (merging.GetsHeads s opened)) n bytes id claims asked carried =
      let f = asked_by (get_head_in codec s.frame) (slice_get s.fragments (length opened)) (call.Put n bytes) asked in
      absurd (no_get (name.Part f.0 (codec.head_part s.frame)) 0 (2 ^ 64 - 1) n bytes f.2)
  own_put number job (Merges (merging.GetsSchemas s opened named schemas)) n bytes id claims asked carried =
      let k = asked_by get_schema (slice_get named (length schemas)) (call.Put n bytes) asked in
      absurd (no_get (name.Schema k.0) 0 (2 ^ 64 - 1) n bytes k.2)
  own_put number job (Merges (merging.Fetches s sources schema next frag got fetch c)) n bytes id claims asked carried =
      let way = claims.2.1 in
      let held = laws.asks s.frame schema way.piece ((way.is.holds).spells).look (all_of s.frame schema.attrs) fetch c way.way in
      absurd (speaks_no_put c (name.Part ((way.piece).head).frag held.part) n bytes held.named (same_Some c (call.Put n bytes) asked))
  own_put number job (Sweeps sweeping.ListsCommits) n bytes id claims asked carried = absurd (no_listing Commits n bytes (same_Some _ _ asked))
  own_put number job (Sweeps (sweeping.ListsSchemas s)) n bytes id claims asked carried = absurd (no_listing Schemas n bytes (same_Some _ _ asked))
  own_put number job (Sweeps (sweeping.GetsVacs s)) n bytes id claims asked carried =
      let f = asked_by get_vac (slice_get s.counting (length s.vacs)) (call.Put n bytes) asked in
      absurd (no_get (vac_of f.0) 0 (2 ^ 64 - 1) n bytes f.2)
  own_put number job (Sweeps (sweeping.ListsParts s set listed)) n bytes id claims asked carried =
      let f = asked_by list_parts (slice_get set (length listed)) (call.Put n bytes) asked in
      absurd (no_listing (Fragment f.0) n bytes f.2)
  own_put number job Lists n bytes id claims asked carried = absurd (own_listing_no_put job.command n bytes claims.1 asked)
  own_put number job (Removes names next end) n bytes id claims asked carried =
      let q = asked_by call.Remove (slice_get names next) (call.Put n bytes) asked in
      absurd (no_removal q.0 n bytes q.2)
  own_put number job (Over end) n bytes id claims asked carried = absurd (none-some _ asked)

  -- so does a put of a job in whatever stage
  stage_put : (number : ℕ) (job : Job) (stage : Stage F) (n : Name) (bytes : List ℕ) (id : ℕ) → StageClaims codec spelled tracks opening past jobs seen m number job stage
      → MayAsk codec job stage (call.Put n bytes) → id_in n ≡ Some id → job.id ≡ id
  stage_put number job (PutsLease lease) n bytes id claims (inl asked) carried =
      let (mode, named) = lease_is job lease claims.0.0 in
      same_Some job.id id (ap id_in (sym named ∙ one_name lease n [] bytes (same_Some (put_lease lease) (call.Put n bytes) asked)) ∙ carried)
  stage_put number job (ListsLeases lease) n bytes id claims (inl asked) carried = absurd (no_listing Leases n bytes (same_Some _ _ asked))
  stage_put number job (stages.Works s) n bytes id claims (inl asked) carried = own_put number job s n bytes id claims asked carried
  stage_put number job (Releases lease end) n bytes id claims (inl asked) carried = absurd (no_removal lease n bytes (same_Some _ _ asked))
  stage_put number job stage n bytes id claims (inr gives_up) carried = let (lease, some, removes) = release_is job (call.Put n bytes) gives_up.0 in absurd (no_removal lease n bytes (sym removes))

  -- the identifier of a job that may put an object is unspent
  stage_unspent : (number : ℕ) (job : Job) (stage : Stage F) (n : Name) (bytes : List ℕ) → StageClaims codec spelled tracks opening past jobs seen m number job stage
      → MayAsk codec job stage (call.Put n bytes) → IsSpent opening past seen job.id → ⊥
  stage_unspent number job (PutsLease lease) n bytes claims (inl asked) = (before_clean codec spelled tracks opening past jobs seen m number job lease claims.0.0 claims.0.1).unspent
  stage_unspent number job (ListsLeases lease) n bytes claims (inl asked) = absurd (no_listing Leases n bytes (same_Some _ _ asked))
  stage_unspent number job (stages.Works s) n bytes claims (inl asked) =
      going_unspent codec spelled tracks opening past jobs seen m number job s (asks_going codec spelled tracks opening past jobs seen m number job s (call.Put n bytes) asked) claims
  stage_unspent number job (Releases lease end) n bytes claims (inl asked) = absurd (no_removal lease n bytes (same_Some _ _ asked))
  stage_unspent number job stage n bytes claims (inr gives_up) = let (lease, some, removes) = release_is job (call.Put n bytes) gives_up.0 in absurd (no_removal lease n bytes (sym removes))

-- ---- one call

module _ {F : Type 0} (codec : Codec F) (spelled : Spelled) (tracks : Tracking F) (laws : CodecLaws codec spelled tracks) (opening : Held) (past : History) (jobs : List Job) (dead : List ℕ) (seen : List Told) (m : Held)
    (e : Told) (kept : Kept codec spelled tracks opening past jobs dead seen m) (may : IsAllowed codec jobs dead seen e) (replied : IsReplied m e)
    (steps : StageAdvances codec spelled tracks opening past jobs seen e m may.number may.job (stage_of codec may.job (trace_of may.number seen))) where
  -- what it puts carries no identifier but that of its job
  own_id : (n : Name) (bytes : List ℕ) (id : ℕ) → e.call ≡ call.Put n bytes → id_in n ≡ Some id → (may.job).id ≡ id
  own_id n bytes id is carried = stage_put codec spelled tracks laws opening past jobs seen m may.number may.job (stage_of codec may.job (trace_of may.number seen)) n bytes id
      (kept.claims may.number may.job may.is_job may.alive) (subst (MayAsk codec may.job (stage_of codec may.job (trace_of may.number seen))) is may.asked) carried

  -- so it commits no other
  own_commit : (id : ℕ) → DoesCommit e id → (may.job).id ≡ id
  own_commit id is = own_id (wrt_of is.frag) is.bytes (is.frag).id is.puts refl ∙ is.carries

  -- what it commits had an identifier that was unspent
  none_back : (f : FragKey) → IsSpent opening past seen f.id → IsCommitted (after_told m e) f → IsCommitted m f
  none_back f spent committed = elim (committed_by m e f replied committed) [
    | inl before ↦ before
    | inr commits ↦
        let stage = stage_of codec may.job (trace_of may.number seen) in
        absurd (stage_unspent codec spelled tracks laws opening past jobs seen m may.number may.job stage (wrt_of commits.frag) commits.bytes (kept.claims may.number may.job may.is_job may.alive)
        (subst (MayAsk codec may.job stage) commits.puts may.asked) (subst (IsSpent opening past seen) (sym (own_commit f.id commits)) spent))
  ]

  -- the objects stand for the history after it
  later_stands : Stands spelled (after_told m e) (history_told jobs past (seen ++ e ∷ []))
  later_stands = elim steps.leads [ inl leads ↦ leads.stands | inr clears ↦ (clears.clears).stands ]

  -- what is committed and named has identifiers that are spent
  later_spent : AreSpent opening past (seen ++ e ∷ []) (after_told m e)
  later_spent = elim steps.leads [
    | inl leads ↦ are_spent_on opening past seen e m replied (leads.leaves).names kept.spent
    | inr clears ↦ removal_spends opening past seen e m (clears.clears).removed (clears.clears).removes replied kept.spent
  ]

  -- the claims of another job stay
  other_claims : (number : ℕ) (job : Job) → slice_get jobs number ≡ Some job → (Contains dead number → ⊥) → may.number ≢ number
      → StageClaims codec spelled tracks opening past jobs (seen ++ e ∷ []) (after_told m e) number job (stage_of codec job (trace_of number seen))
  other_claims number job at alive apart =
      let other : (e.job ≡ Some number → ⊥) = λ own. apart (same_Some may.number number (sym may.own ∙ own)) in
      let other_id : (job.id ≡ (may.job).id → ⊥) = λ one_id. apart (kept.apart may.number number may.job job may.is_job at (sym one_id)) in
      elim steps.leads [
        | inl leads ↦
            stage_stays codec spelled tracks opening past jobs seen e m (may.job).id leads.leaves number job (stage_of codec job (trace_of number seen))
            other_id other (λ commits. other_id (sym (own_commit job.id commits))) none_back (leads.stands).history (kept.claims number job at alive)
        | inr clears ↦
            stage_less codec spelled tracks opening past jobs seen e m may.job clears.clears number job other (stage_of codec job (trace_of number seen))
            (others_idle codec spelled opening past jobs dead seen e m kept.apart kept.leased may.number number may.job job may.is_job may.alive clears at alive apart) (kept.claims number job at alive)
      ]

  -- the call is one of a job
  is_of_jobs : IsOfJobs jobs e
  is_of_jobs = record {
    numbered = λ other is. subst (λ n. n < length jobs) (same_Some may.number other (sym may.own ∙ is)) (slice_get_within jobs may.number may.job may.is_job);
    puts = λ n bytes id is carried. subst (λ i. IsSome (job_with jobs i)) (own_id n bytes id is carried) (rw (job_of_id jobs may.number may.job kept.apart may.is_job) refl);
  }

  -- what is kept stays where the job of the call advances
  advance_kept : Kept codec spelled tracks opening past jobs dead (seen ++ e ∷ []) (after_told m e)
  advance_kept = record {
    stands = later_stands;
    is_held = ap (λ n. after_told n e) kept.is_held ∙ sym (held_told-append opening seen (e ∷ []));
    spent = later_spent;
    apart = kept.apart;
    fit = kept.fit;
    known = All-push (IsOfJobs jobs) seen e kept.known is_of_jobs;
    leased = leased_step codec jobs dead seen m e kept.apart replied (inl may) kept.leased
        (λ number job lease at alive has. goes_under codec spelled tracks opening past jobs seen m number job lease (stage_of codec job (trace_of number seen)) has (kept.claims number job at alive));
    claims = λ number job at alive. elim (cases_eq may.number number) [
      | inl own ↦
          let same : may.job ≡ job = same_Some may.job job (sym may.is_job ∙ ap (slice_get jobs) own ∙ at) in
          subst (λ n. StageClaims codec spelled tracks opening past jobs (seen ++ e ∷ []) (after_told m e) n job (stage_of codec job (trace_of n (seen ++ e ∷ [])))) own
          (subst (λ j. StageClaims codec spelled tracks opening past jobs (seen ++ e ∷ []) (after_told m e) may.number j (stage_of codec j (trace_of may.number (seen ++ e ∷ [])))) same
          (subst (StageClaims codec spelled tracks opening past jobs (seen ++ e ∷ []) (after_told m e) may.number may.job) (sym (stage_of-own codec may.job may.number seen e may.own)) steps.own))
      | inr apart ↦
          let other : (e.job ≡ Some number → ⊥) = λ own. apart (same_Some may.number number (sym may.own ∙ own)) in
          subst (StageClaims codec spelled tracks opening past jobs (seen ++ e ∷ []) (after_told m e) number job) (sym (stage_of-other codec job number seen e other)) (other_claims number job at alive apart)
    ];
  }

-- what the end of a job that was not dropped tells of the history is true
pub end_is_true : {F : Type 0} (codec : Codec F) (spelled : Spelled) (tracks : Tracking F) (opening : Held) (past : History) (jobs : List Job) (dead : List ℕ) (seen : List Told) (m : Held)
    → Kept codec spelled tracks opening past jobs dead seen m → (number : ℕ) (job : Job) (end : Outcome) → slice_get jobs number ≡ Some job → (Contains dead number → ⊥)
    → stage_of codec job (trace_of number seen) ≡ stages.Works (Over end) → IsTrueEnd spelled opening jobs past seen number job end
end_is_true codec spelled tracks opening past jobs dead seen m kept number job end at alive over = subst (StageClaims codec spelled tracks opening past jobs seen m number job) over (kept.claims number job at alive)

-- ---- parts of calls

-- of calls that may come some come first, and then the others
pub AreAllowed-parts : {F : Type 0} (codec : Codec F) (jobs : List Job) (dead last : List ℕ) (seen a b : List Told) → AreAllowed codec jobs dead last seen (a ++ b)
    → (now : List ℕ) × AreAllowed codec jobs dead now seen a × AreAllowed codec jobs now last (seen ++ a) b
AreAllowed-parts codec jobs dead last seen [] b may = (dead, (λ n at. at), subst (λ t. AreAllowed codec jobs dead last t b) (sym (append-nil seen)) may)
AreAllowed-parts codec jobs dead last seen (e ∷ a) b (now, among, first, rest) =
    let (then, front, back) = AreAllowed-parts codec jobs now last (seen ++ e ∷ []) a b rest in
    (then, (now, among, first, front), subst (λ t. AreAllowed codec jobs then last t b) (append_assoc seen (e ∷ []) a) back)

-- who was dropped stays so
pub dropped_stay : {F : Type 0} (codec : Codec F) (jobs : List Job) (dead last : List ℕ) (seen told : List Told) → AreAllowed codec jobs dead last seen told → AreAmong dead last
dropped_stay codec jobs dead last seen [] may = may
dropped_stay codec jobs dead last seen (e ∷ told) (now, among, first, rest) = λ n at. dropped_stay codec jobs now last (seen ++ e ∷ []) told rest n (among n at)

-- the front of calls that are replied to is such
pub Replied-front : (m : Held) (a b : List Told) → Replied m (a ++ b) → Replied m a
Replied-front m [] b replied = tt
Replied-front m (e ∷ a) b replied = (replied.0, Replied-front (after_told m e) a b replied.1)

-- so is the rest, over what the front leaves
pub Replied-back : (m : Held) (a b : List Told) → Replied m (a ++ b) → Replied (held_told m a) b
Replied-back m [] b replied = replied
Replied-back m (e ∷ a) b replied = Replied-back (after_told m e) a b replied.1

-- ---- any call

module _ {F : Type 0} (codec : Codec F) (spelled : Spelled) (tracks : Tracking F) (laws : CodecLaws codec spelled tracks) where
  -- a call that removes nothing but leases moves its job on
  moved : {opening : Held} {past : History} {jobs : List Job} {seen : List Told} {e : Told} {m : Held} {number : ℕ} {job : Job} {s : State F}
      → Advances codec spelled tracks opening past jobs seen e m number job s → Moves codec spelled tracks opening past jobs seen e m number job s
  moved is = record { leads = inl is.leads; own = is.own }

  -- a call leads its job on by the state that it is in
  own_step : (opening : Held) (past : History) (jobs : List Job) (seen : List Told) (e : Told) (m : Held) (number : ℕ) (job : Job) (s : State F)
      → Comes codec spelled tracks opening past jobs seen e m number job s → Moves codec spelled tracks opening past jobs seen e m number job s
  own_step opening past jobs seen e m number job (Creates PutsFrame) comes = moved (frame_steps codec spelled tracks opening past jobs seen e m number job laws comes)
  own_step opening past jobs seen e m number job (Creates ComparesFrame) comes = moved (compare_steps codec spelled tracks opening past jobs seen e m number job laws comes)
  own_step opening past jobs seen e m number job (Creates ListsDeclared) comes = moved (declared_steps codec spelled tracks opening past jobs seen e m number job laws comes)
  own_step opening past jobs seen e m number job (Puts objects next end) comes =
      moved (deed_steps codec spelled tracks opening past jobs seen e m number job (merge_puts_steps codec spelled tracks laws opening past jobs seen e m number job) objects next end laws comes)
  own_step opening past jobs seen e m number job (Seeks ListsCommits) comes = moved (commits_steps codec spelled tracks opening past jobs seen e m number job laws comes)
  own_step opening past jobs seen e m number job (Seeks (ListsSchemas listing)) comes = moved (schemas_steps codec spelled tracks opening past jobs seen e m number job laws listing comes)
  own_step opening past jobs seen e m number job (Seeks (GetsSchema listing there)) comes = moved (schema_steps codec spelled tracks opening past jobs seen e m number job laws listing there comes)
  own_step opening past jobs seen e m number job (Seeks (GetsFrame listing there)) comes = moved (framed_steps codec spelled tracks opening past jobs seen e m number job laws listing there comes)
  own_step opening past jobs seen e m number job (Collects (GetsVacs r)) comes = moved (vacs_steps codec spelled tracks opening past jobs seen e m number job laws r comes)
  own_step opening past jobs seen e m number job (Collects (GetsHeads r opened)) comes = moved (heads_steps codec spelled tracks opening past jobs seen e m number job laws r opened comes)
  own_step opening past jobs seen e m number job (Collects (GetsSchemas r opened named schemas)) comes = moved (further_steps codec spelled tracks opening past jobs seen e m number job laws r opened named schemas comes)
  own_step opening past jobs seen e m number job (Collects (GetsDeletes r opened schemas)) comes = moved (deletes_steps codec spelled tracks opening past jobs seen e m number job laws r opened schemas comes)
  own_step opening past jobs seen e m number job (Collects (Fetches r opened schemas next frag got fetch c)) comes =
      moved (fetch_steps codec spelled tracks opening past jobs seen e m number job r opened schemas next frag got fetch c laws comes)
  own_step opening past jobs seen e m number job (Merges merging.ListsCommits) comes = moved (merge_commits_steps codec spelled tracks opening past jobs seen e m number job laws comes)
  own_step opening past jobs seen e m number job (Merges (merging.ListsSchemas c)) comes = moved (merge_schemas_steps codec spelled tracks opening past jobs seen e m number job laws c comes)
  own_step opening past jobs seen e m number job (Merges (merging.GetsFrame c)) comes = moved (merge_frame_steps codec spelled tracks opening past jobs seen e m number job laws c comes)
  own_step opening past jobs seen e m number job (Merges (merging.GetsVacs s)) comes = moved (merge_vacs_steps codec spelled tracks opening past jobs seen e m number job laws s comes)
  own_step opening past jobs seen e m number job (Merges (merging.GetsHeads s opened)) comes = moved (merge_heads_steps codec spelled tracks opening past jobs seen e m number job laws s opened comes)
  own_step opening past jobs seen e m number job (Merges (merging.GetsSchemas s opened named schemas)) comes = moved (merge_learn_steps codec spelled tracks opening past jobs seen e m number job laws s opened named schemas comes)
  own_step opening past jobs seen e m number job (Merges (merging.Fetches s sources schema next frag got fetch c)) comes =
      moved (merge_fetch_steps codec spelled tracks opening past jobs seen e m number job s sources schema next frag got fetch c laws comes)
  own_step opening past jobs seen e m number job Lists comes = moved (list_steps codec spelled tracks opening past jobs seen e m number job laws comes)
  own_step opening past jobs seen e m number job (Sweeps sweeping.ListsCommits) comes = moved (sweep_commits_steps codec spelled tracks opening past jobs seen e m number job laws comes)
  own_step opening past jobs seen e m number job (Sweeps (sweeping.ListsSchemas s)) comes = moved (sweep_schemas_steps codec spelled tracks opening past jobs seen e m number job laws s comes)
  own_step opening past jobs seen e m number job (Sweeps (sweeping.GetsVacs s)) comes = moved (sweep_vacs_steps codec spelled tracks opening past jobs seen e m number job laws s comes)
  own_step opening past jobs seen e m number job (Sweeps (sweeping.ListsParts s set listed)) comes = moved (sweep_parts_steps codec spelled tracks opening past jobs seen e m number job laws s set listed comes)
  own_step opening past jobs seen e m number job (Removes names next end) comes = elim comes.claims [
    | inl unlocking ↦ moved (remove_steps codec spelled tracks opening past jobs seen e m number job laws names next end unlocking comes)
    | inr vacuuming ↦ clear_steps codec spelled tracks opening past jobs seen e m number job laws names next end vacuuming comes
  ]
  own_step opening past jobs seen e m number job (Over end) comes = absurd (none-some e.call comes.asked)

  -- where a call that may come leads its job
  pub leads_on : (opening : Held) (past : History) (jobs : List Job) (dead : List ℕ) (seen : List Told) (m : Held) (e : Told) → Kept codec spelled tracks opening past jobs dead seen m
      → (may : IsAllowed codec jobs dead seen e) → IsReplied m e → StageAdvances codec spelled tracks opening past jobs seen e m may.number may.job (stage_of codec may.job (trace_of may.number seen))
  leads_on opening past jobs dead seen m e kept may replied =
      stage_step codec spelled tracks opening past jobs seen e m may.number may.job (own_step opening past jobs seen e m may.number may.job) (stage_of codec may.job (trace_of may.number seen)) (record {
        stands = kept.stands;
        is_held = kept.is_held;
        spent = kept.spent;
        apart = kept.apart;
        fit = All-contains IsFit jobs may.job kept.fit (Contains-slice_get jobs may.number may.job may.is_job);
        own = may.own;
        is_job = may.is_job;
        replied = replied;
        short = may.short;
        asked = may.asked;
        claims = kept.claims may.number may.job may.is_job may.alive;
      })

  -- what is kept stays by a call that may come
  pub step_kept : (opening : Held) (past : History) (jobs : List Job) (dead : List ℕ) (seen : List Told) (m : Held) (e : Told) → Kept codec spelled tracks opening past jobs dead seen m
      → MayCome codec jobs dead seen e → IsReplied m e → Kept codec spelled tracks opening past jobs dead (seen ++ e ∷ []) (after_told m e)
  step_kept opening past jobs dead seen m e kept (inl may) replied = advance_kept codec spelled tracks laws opening past jobs dead seen m e kept may replied (leads_on opening past jobs dead seen m e kept may replied)
  step_kept opening past jobs dead seen m e kept (inr broken) replied = broken_kept codec spelled tracks opening past jobs dead seen m e kept broken replied

  -- what is held stays held by it, but for leases, where no vacuum makes it
  pub step_held : (opening : Held) (past : History) (jobs : List Job) (dead : List ℕ) (seen : List Told) (m : Held) (e : Told) → Kept codec spelled tracks opening past jobs dead seen m
      → MayCome codec jobs dead seen e → IsReplied m e → IsNoSweep jobs e → HeldSince m (after_told m e)
  step_held opening past jobs dead seen m e kept (inl may) replied other = elim (leads_on opening past jobs dead seen m e kept may replied).leads [
    | inl leads ↦ (leads.leaves).keeps
    | inr clears ↦ absurd (other may.number may.job may.own may.is_job (clears.clears).vacuums)
  ]
  step_held opening past jobs dead seen m e kept (inr broken) replied other = ((broken_leads codec spelled tracks opening past jobs dead seen m e kept broken 0).leaves).keeps

  -- what is held stays held by calls that may come and that no vacuum makes, but for leases
  pub held_on : (opening : Held) (past : History) (jobs : List Job) (dead last : List ℕ) (seen : List Told) (m : Held) (told : List Told)
      → Kept codec spelled tracks opening past jobs dead seen m → AreAllowed codec jobs dead last seen told → Replied m told → All (IsNoSweep jobs) told → HeldSince m (held_told m told)
  held_on opening past jobs dead last seen m [] kept may replied others n bytes no_lease held = held
  held_on opening past jobs dead last seen m (e ∷ told) kept (now, among, first, rest) replied others n bytes no_lease held =
      let then = drop_kept codec spelled tracks opening past jobs dead now seen m among kept in
      held_on opening past jobs now last (seen ++ e ∷ []) (after_told m e) told (step_kept opening past jobs now seen m e then first replied.0) rest replied.1 (All-tail (IsNoSweep jobs) e told others) n bytes no_lease
      (step_held opening past jobs now seen m e then first replied.0 (All-head (IsNoSweep jobs) e told others) n bytes no_lease held)

  -- what is kept stays by calls that may come
  pub all_kept : (opening : Held) (past : History) (jobs : List Job) (dead last : List ℕ) (seen : List Told) (m : Held) (told : List Told)
      → Kept codec spelled tracks opening past jobs dead seen m → AreAllowed codec jobs dead last seen told → Replied m told → Kept codec spelled tracks opening past jobs last (seen ++ told) (held_told m told)
  all_kept opening past jobs dead last seen m [] kept may replied = subst (λ t. Kept codec spelled tracks opening past jobs last t m) (sym (append-nil seen)) (drop_kept codec spelled tracks opening past jobs dead last seen m may kept)
  all_kept opening past jobs dead last seen m (e ∷ told) kept (now, among, first, rest) replied =
      let then = drop_kept codec spelled tracks opening past jobs dead now seen m among kept in
      subst (λ t. Kept codec spelled tracks opening past jobs last t (held_told (after_told m e) told)) (append_assoc seen (e ∷ []) told)
      (all_kept opening past jobs now last (seen ++ e ∷ []) (after_told m e) told (step_kept opening past jobs now seen m e then first replied.0) rest replied.1)

  -- what is kept after a first part of the calls, where some were dropped of those that are in the end
  pub record KeptThen (opening : Held) (past : History) (jobs : List Job) (last : List ℕ) (seen : List Told) (m : Held) : Type 0 where
    pub dead : List ℕ
    pub among : AreAmong dead last
    pub kept : Kept codec spelled tracks opening past jobs dead seen m

  -- what is kept is kept after each first part of the calls
  pub every_prefix : (opening : Held) (past : History) (jobs : List Job) (dead last : List ℕ) (seen : List Told) (m : Held) (told front back : List Told)
      → Kept codec spelled tracks opening past jobs dead seen m → AreAllowed codec jobs dead last seen told → Replied m told → told ≡ front ++ back
      → KeptThen opening past jobs last (seen ++ front) (held_told m front)
  every_prefix opening past jobs dead last seen m told front back kept may replied parts =
      let (now, first, rest) = AreAllowed-parts codec jobs dead last seen front back (subst (AreAllowed codec jobs dead last seen) parts may) in
      record {
        dead = now;
        among = dropped_stay codec jobs now last (seen ++ front) back rest;
        kept = all_kept opening past jobs dead now seen m front kept first (Replied-front m front back (subst (Replied m) parts replied));
      }

  -- what stood before one of the calls: what is kept, and that the call may come
  pub record Coming (opening : Held) (past : History) (jobs : List Job) (seen : List Told) (m : Held) (e : Told) : Type 0 where
    pub dead : List ℕ
    pub kept : Kept codec spelled tracks opening past jobs dead seen m
    pub may : MayCome codec jobs dead seen e

  -- of calls that may come each may come after those before it
  pub coming : (opening : Held) (past : History) (jobs : List Job) (dead last : List ℕ) (seen : List Told) (m : Held) (told front back : List Told) (e : Told)
      → Kept codec spelled tracks opening past jobs dead seen m → AreAllowed codec jobs dead last seen told → Replied m told → told ≡ front ++ e ∷ back → Coming opening past jobs (seen ++ front) (held_told m front) e
  coming opening past jobs dead last seen m told front back e kept may replied parts =
      let (then, first, (now, among, comes, rest)) = AreAllowed-parts codec jobs dead last seen front (e ∷ back) (subst (AreAllowed codec jobs dead last seen) parts may) in
      let before = all_kept opening past jobs dead then seen m front kept first (Replied-front m front (e ∷ back) (subst (Replied m) parts replied)) in
      record { dead = now; kept = drop_kept codec spelled tracks opening past jobs then now (seen ++ front) (held_told m front) among before; may = comes }

  -- the same of a call of a job
  pub record Calling (opening : Held) (past : History) (jobs : List Job) (seen : List Told) (m : Held) (e : Told) (number : ℕ) (job : Job) : Type 0 where
    pub claims : StageClaims codec spelled tracks opening past jobs seen m number job (stage_of codec job (trace_of number seen))
    pub asked : MayAsk codec job (stage_of codec job (trace_of number seen)) e.call

  pub calling : (opening : Held) (past : History) (jobs : List Job) (seen : List Told) (m : Held) (e : Told) (number : ℕ) (job : Job)
      → Coming opening past jobs seen m e → e.job ≡ Some number → slice_get jobs number ≡ Some job → Calling opening past jobs seen m e number job
  calling opening past jobs seen m e number job comes own is_job = by_maker comes.may
    where
      by_maker : MayCome codec jobs comes.dead seen e → Calling opening past jobs seen m e number job
      by_maker (inr broken) = absurd (none-some number (sym broken.nobodys ∙ own))
      by_maker (inl allowed) =
          let same : allowed.number ≡ number = same_Some allowed.number number (sym allowed.own ∙ own) in
          let it : allowed.job ≡ job = same_Some allowed.job job (sym allowed.is_job ∙ ap (slice_get jobs) same ∙ is_job) in
          subst (Calling opening past jobs seen m e number) it (subst (λ n. Calling opening past jobs seen m e n allowed.job) same
          (record { claims = (comes.kept).claims allowed.number allowed.job allowed.is_job allowed.alive; asked = allowed.asked }))

  -- what is held after the first of the calls is held after some more, but for leases, where no vacuum makes any of these
  pub held_from : (opening : Held) (past : History) (jobs : List Job) (dead last : List ℕ) (seen : List Told) (m : Held) (told front mid back : List Told)
      → Kept codec spelled tracks opening past jobs dead seen m → AreAllowed codec jobs dead last seen told → Replied m told → told ≡ front ++ (mid ++ back) → All (IsNoSweep jobs) mid
      → HeldSince (held_told m front) (held_told m (front ++ mid))
  held_from opening past jobs dead last seen m told front mid back kept may replied parts others =
      let (now, first, rest) = AreAllowed-parts codec jobs dead last seen front (mid ++ back) (subst (AreAllowed codec jobs dead last seen) parts may) in
      let (then, these, after) = AreAllowed-parts codec jobs now last (seen ++ front) mid back rest in
      let in_parts = subst (Replied m) parts replied in
      subst (HeldSince (held_told m front)) (sym (held_told-append m front mid))
      (held_on opening past jobs now then (seen ++ front) (held_told m front) mid (all_kept opening past jobs dead now seen m front kept first (Replied-front m front (mid ++ back) in_parts))
      these (Replied-front (held_told m front) mid back (Replied-back m front (mid ++ back) in_parts)) others)
