-- The history of told calls is that of their journal.
use Rattle.std.proofs.Common.{◌≡◌, ℕ, Bool, true, false, cond, ◌⊎◌, inl, inr, List, [], ◌∷◌, ◌++◌, Option, Some, None, refl, sym, ◌∙◌, ap, subst, append_assoc, slice_get, arith, ◌≤◌}
use Rattle.std.specs.Prelude.{IsTrue, All, ⊤, option_map, option_and_then, option_to_list, nat_eq}
use Rattle.std.specs.Result.{result_err, result_ok}
use Rattle.std.specs.List.{cons_option}
use Rattle.std.proofs.lemmas.Bool.{eq-eqb, ne_eqb, true≢false}
use Rattle.std.proofs.lemmas.Option.{same_Some, none-some}
use Rattle.std.proofs.lemmas.List.{append-nil}
use Rattle.std.proofs.lemmas.List.Elements.{All-nil, All-cons, All-head, All-tail, All-contains, Contains-append_right, filter_map-append}
use Rattle.ts_base.specs.declared.keys.Key.{Key}
use Rattle.ts_base.specs.declared.names.Name.{Name}
use Rattle.ts_base.specs.declared.names.CommitKind.TheVariants.{Wrt, Del}
use Rattle.ts_base.specs.declared.names.Prefix.TheVariants.{Commits, Fragment, Leases, Schemas}
use Rattle.ts_base.specs.declared.names.LeaseMode.{LeaseMode}
use Rattle.ts_base.specs.Held.{Held}
use Rattle.ts_schema.specs.FrameTexts.{frame_object, frame_of}
use Rattle.ts_schema.specs.Parts.{IsShort}
use Rattle.ts_schema.specs.declared.schemas.Schema.{Schema}
use Rattle.ts_store.specs.declared.call.Call.{Call}
use Rattle.ts_store.specs.declared.call.Reply.{Reply}
use Rattle.ts_store.specs.declared.fate.Fate.{Fate}
use Rattle.ts_store.specs.declared.journal.Entry.{Entry}
use Rattle.ts_store.specs.Calls.{after, answer, reply_of, part_reply, length_reply, is_no_memory}
use Rattle.ts_store.specs.Journals.{held_after}
use Rattle.ts_base.specs.declared.keys.FragKey.{FragKey}
use Rattle.ts_base.specs.declared.names.Part.{Part}
use Rattle.ts_base.specs.Names.{wrt_of}
use Rattle.ts_schema.specs.declared.evolution.Evolution.{Evolution}
use Rattle.ts_model.specs.declared.commands.Command.TheVariants.{Create, Evolve, Write, Delete, Consolidate}
use Rattle.ts_model.specs.declared.commands.FrameIn.{FrameIn}
use Rattle.ts_model.specs.declared.commands.WriteIn.{WriteIn}
use Rattle.ts_model.specs.declared.commands.Job.{Job}
use Rattle.ts_model.specs.declared.answers.Outcome.{Outcome}
use Rattle.ts_model.specs.declared.deeds.Deed.TheVariants.{Framed, Declared, Wrote, Erased}
use Rattle.ts_model.specs.declared.states.State.{State}
use Rattle.ts_model.specs.declared.states.NewObject.{NewObject}
use Rattle.ts_model.specs.declared.states.State.TheVariants.{Creates, Seeks, Puts, Collects, Merges, Lists, Sweeps, Removes, Over}
use Rattle.ts_model.specs.declared.states.Creating.TheVariants.{PutsFrame, ComparesFrame, ListsDeclared}
use Rattle.ts_model.specs.declared.states.Seeking.TheVariants.{ListsCommits, ListsSchemas, GetsSchema, GetsFrame}
use Rattle.ts_model.specs.declared.states.Collecting.TheVariants.{GetsVacs, GetsHeads, GetsSchemas, GetsDeletes, Fetches}
use Rattle.ts_model.specs.declared.states.Merging.TheVariants as merging
use Rattle.ts_model.specs.declared.states.Sweeping.TheVariants as sweeping
use Rattle.ts_commit.specs.declared.vacs.Limits.{Limits}
use Rattle.ts_model.specs.Commands.{frame_made, create_refusal, fits, piece_of}
use Rattle.ts_model.specs.Deeds.{History, frame_in}
use Rattle.ts_model.specs.Codecs.{Codec, CodecLaws, Spelled, Tracking}
use Rattle.ts_model.specs.Jobs.{IsFit, AreApart, frag_of_job, job_with, key_of, written_as}
use Rattle.ts_model.specs.States.{all_of, get_vac, list_parts, vac_of, asks, frame_put, get_delete, get_head, get_head_in, get_schema, made_by, put_of, want_of}
use Rattle.ts_model.specs.Stages.{put_lease, stage_of}
use Rattle.ts_model.specs.Driven.{MayAsk}
use Rattle.ts_model.specs.declared.states.Stage.{Stage}
use Rattle.ts_model.specs.declared.states.Stage.TheVariants.{ListsLeases, PutsLease, Releases}
use Rattle.ts_model.specs.declared.states.Stage.TheVariants as stages
use Rattle.ts_law.proofs.LeaseSteps.{lease_is, release_is}
use Rattle.ts_model.specs.Told.{Told, trace_of, IsShortCall, IsReplied, Replied, after_told, changes, held_told, entry_of, entries_of, found_in, found_after, schemas_found, declared_by, written_by, deleted_by, deed_of, deed_in, deed_told, grown, history_from, history_told}
use Rattle.ts_model.proofs.HistoryLaws.{job_of_id}
use Rattle.ts_model.proofs.ListLemmas.{Contains-here, Contains-slice_get}
use Rattle.ts_model.proofs.Traces.{exchange_of_own, exchange_of_other, deed_told_own}
use Rattle.ts_law.specs.Fresh.{id_in}
use Rattle.ts_law.specs.Histories.{found_by, deed_carried, deed_put, deed_entered, grown_by, history_by, history_of}
use Rattle.ts_law.specs.Lanes.{lane_by, IsOwned, IsBefore, InTurn}
use Rattle.ts_law.specs.Kept.{AreAllowed, Aims, Claims, IsAllowed, Kept, MayCome, StageClaims, Works}
use Rattle.ts_law.proofs.Declaring.{created_frame, frame_again}
use Rattle.ts_law.proofs.Frames.{aims-carry}
use Rattle.ts_law.proofs.Journals.{journal_held}
use Rattle.ts_law.proofs.UnlockSteps.{own_listing_no_put}
use Rattle.ts_law.proofs.KeptLaws.{one_name, no_listing, no_removal, no_get, asked_by, speaks_no_put, Coming, coming, Replied-front}
use Rattle.ts_law.proofs.Leasing.{by_job}
use Rattle.ts_law.proofs.Objects.{ACommit, APart, put_at}
use Rattle.ts_base.specs.declared.names.Name.TheVariants as name
use Rattle.ts_store.specs.declared.call.Call.TheVariants as call
use Rattle.ts_store.specs.declared.call.Reply.TheVariants as reply
use Rattle.ts_store.specs.declared.fate.Fate.TheVariants as fate
use Rattle.ts_model.specs.declared.answers.Outcome.TheVariants as outcome
use Rattle.ts_model.specs.declared.answers.Refusal.TheVariants as refusal
use Rattle.ts_law.specs.Ends.{FindsNoArray}
use Rattle.ts_law.specs.Refusals.{WorksInSchema, refusal_in}
use Rattle.ts_model.specs.declared.commands.Command.{Command}
use Rattle.ts_schema.specs.declared.frames.Frame.{Frame}

-- ---- replies

-- the reply to a get is none for want of memory
part_memory : (o : Option (List ℕ)) → is_no_memory (part_reply o) ≡ false
part_memory None = refl
part_memory (Some bytes) = refl

-- nor is that to a size
length_memory : (o : Option ℕ) → is_no_memory (length_reply o) ≡ false
length_memory None = refl
length_memory (Some size) = refl

-- nor is that to a put
put_memory : (b : Bool) → is_no_memory (cond b reply.Taken reply.Made) ≡ false
put_memory true = refl
put_memory false = refl

-- a store of one thread tells of no want of memory
answer_memory : (m : Held) (c : Call) → is_no_memory (answer m c) ≡ false
answer_memory m (call.Put n bytes) = put_memory _
answer_memory m (call.Remove n) = refl
answer_memory m (call.List p) = refl
answer_memory m (call.Get n from len) = part_memory _
answer_memory m (call.Size n) = length_memory _

reply_memory : (m : Held) (c : Call) (f : Fate) → is_no_memory (reply_of m c f) ≡ false
reply_memory m c fate.Done = answer_memory m c
reply_memory m c fate.FailedDone = refl
reply_memory m c fate.FailedSkipped = refl
reply_memory m c fate.Unknown = refl

-- a call that found memory was replied to as by a store of one thread
served : (m : Held) (e : Told) → IsReplied m e → is_no_memory e.reply ≡ false → (e.reply ≡ reply_of m e.call e.fate) × (e.changed ≡ changes m e.call e.fate)
served m e (inl none) memory = absurd (true≢false (sym none.0 ∙ memory))
served m e (inr told) memory = told

-- one that found none changed nothing
unserved : (m : Held) (e : Told) → IsReplied m e → is_no_memory e.reply ≡ true → e.changed ≡ false
unserved m e (inl none) memory = none.1
unserved m e (inr told) memory = absurd (true≢false (sym memory ∙ ap is_no_memory told.0 ∙ reply_memory m e.call e.fate))

-- ---- the schemas that were found

-- a reply tells of no schemas, or says which they are whatever was found before
found_kinds : (c : Call) (r : Reply) → ((x : Option (List Key)) → found_in x c r ≡ x) ⊎ ((x z : Option (List Key)) → found_in x c r ≡ found_in z c r)
found_kinds (call.List Schemas) (reply.Names names) = inr (λ x z. refl)
found_kinds c r = inl (λ x. refl)

-- want of memory tells of none
found_quiet : (c : Call) (r : Reply) (x : Option (List Key)) → is_no_memory r ≡ true → found_in x c r ≡ x
found_quiet (call.List Schemas) (reply.Names names) x none = cc
found_quiet c r x none = refl

module _ (lane : Option ℕ → ℕ) where
  -- the call is the job's own, where it is made in its lane
  abbrev pub IsOwn : ℕ → Told → Type 0
  IsOwn number e = lane e.job ≡ lane (Some number) → e.job ≡ Some number

  -- after its first call the job alone makes calls in its lane
  abbrev pub OwnsLane : ℕ → List Told → Type 0
  OwnsLane number [] = ⊤
  OwnsLane number (e ∷ es) = (e.job ≡ Some number → All (IsOwn number) es) × OwnsLane number es

  -- the jobs of a lane come one after the other: between two calls of a job no other job of its lane makes one
  abbrev pub AreInTurn : List Told → Type 0
  AreInTurn told = (seen back : List Told) (e : Told) (number : ℕ) → told ≡ seen ++ e ∷ back → e.job ≡ Some number → OwnsLane number seen

  -- what a lane found by one more of the calls
  abbrev found_next : Held → ℕ → Option (List Key) → Told → Option (List Key)
  found_next m own found e = cond (is_no_memory e.reply) found (cond (nat_eq (lane e.job) own) (found_in found e.call (reply_of m e.call e.fate)) found)

  -- and then by those after it
  found_more : (m : Held) (own : ℕ) (found : Option (List Key)) (e : Told) (es : List Told) → found_by m own found (entries_of lane (e ∷ es)) ≡ found_by (after_told m e) own (found_next m own found e) (entries_of lane es)
  found_more m own found e es = elim (is_no_memory e.reply) as (λ b. found_by m own found (cons_option (cond b None (Some (record { lane = lane e.job; call = e.call; fate = e.fate }))) (entries_of lane es))
      ≡ found_by (cond b m (after m e.call e.fate)) own (cond b found (cond (nat_eq (lane e.job) own) (found_in found e.call (reply_of m e.call e.fate)) found)) (entries_of lane es)) [
        | true ↦ refl
        | false ↦ refl
      ]

  -- a call in the lane tells it what it tells the job
  next_own : (m : Held) (own : ℕ) (found : Option (List Key)) (e : Told) → IsReplied m e → lane e.job ≡ own → found_next m own found e ≡ found_in found e.call e.reply
  next_own m own found e replied same = by_memory (is_no_memory e.reply) refl
    where
      by_memory : (b : Bool) → is_no_memory e.reply ≡ b → cond b found (cond (nat_eq (lane e.job) own) (found_in found e.call (reply_of m e.call e.fate)) found) ≡ found_in found e.call e.reply
      by_memory true memory = sym (found_quiet e.call e.reply found memory)
      by_memory false memory =
          ap (λ b. cond b (found_in found e.call (reply_of m e.call e.fate)) found) (eq-eqb (lane e.job) own same)
          ∙ ap (found_in found e.call) (sym (served m e replied memory).0)

  -- one in another lane tells it nothing
  next_other : (m : Held) (own : ℕ) (found : Option (List Key)) (e : Told) → (lane e.job ≡ own → ⊥) → found_next m own found e ≡ found
  next_other m own found e apart =
      ap (λ b. cond (is_no_memory e.reply) found (cond b (found_in found e.call (reply_of m e.call e.fate)) found)) (ne_eqb (lane e.job) own apart)
      ∙ both (is_no_memory e.reply)
    where
      both : (b : Bool) → cond b found found ≡ found
      both true = refl
      both false = refl

  -- what a job found its lane found, from the job's first listing on
  abbrev Found : ℕ → Option (List Key) → Option (List Key) → List Told → Type 0
  Found number ft fl es = (ft ≡ None) ⊎ ((ft ≡ fl) × All (IsOwn number) es)

  found_same : (number : ℕ) (m : Held) (ft fl : Option (List Key)) (es : List Told) → Replied m es → OwnsLane number es → Found number ft fl es
      → (found_after ft (trace_of number es) ≡ None) ⊎ (found_after ft (trace_of number es) ≡ found_by m (lane (Some number)) fl (entries_of lane es))
  found_same number m ft fl [] replied owns (inl none) = inl none
  found_same number m ft fl [] replied owns (inr same) = inr same.0
  found_same number m ft fl (e ∷ es) replied owns before =
      by_maker (λ next_t next_l next. found_same number (after_told m e) next_t next_l es replied.1 owns.1 next) (by_job number e.job)
    where
      So : Option (List Key) → Type 0
      So o = (o ≡ None) ⊎ (o ≡ found_by m (lane (Some number)) fl (entries_of lane (e ∷ es)))

      Later : Type 0
      Later = (next_t next_l : Option (List Key)) → Found number next_t next_l es
          → (found_after next_t (trace_of number es) ≡ None) ⊎ (found_after next_t (trace_of number es) ≡ found_by (after_told m e) (lane (Some number)) next_l (entries_of lane es))

      -- what follows from the next call on
      on_from : Later → (next_t next_l : Option (List Key)) → found_after ft (trace_of number (e ∷ es)) ≡ found_after next_t (trace_of number es) → found_next m (lane (Some number)) fl e ≡ next_l → Found number next_t next_l es
          → So (found_after ft (trace_of number (e ∷ es)))
      on_from later next_t next_l trace found next =
          subst So (sym trace)
          (elim (later next_t next_l next) [
            | inl none ↦ inl none
            | inr same ↦ inr (same ∙ ap (λ x. found_by (after_told m e) (lane (Some number)) x (entries_of lane es)) (sym found) ∙ sym (found_more m (lane (Some number)) fl e es))
          ])

      own_next : e.job ≡ Some number → Found number ft fl (e ∷ es) → Found number (found_in ft e.call e.reply) (found_in fl e.call e.reply) es
      own_next own (inr same) = inr (ap (λ x. found_in x e.call e.reply) same.0, All-tail (IsOwn number) e es same.1)
      own_next own (inl none) = elim (found_kinds e.call e.reply) [
        | inl silent ↦ inl (silent ft ∙ none)
        | inr says ↦ inr (says ft fl, owns.0 own)
      ]

      by_other : Later → (e.job ≡ Some number → ⊥) → Found number ft fl (e ∷ es) → So (found_after ft (trace_of number (e ∷ es)))
      by_other later other (inl none) =
          on_from later ft (found_next m (lane (Some number)) fl e) (ap (λ o. found_after ft (cons_option o (trace_of number es))) (exchange_of_other number e other)) refl (inl none)
      by_other later other (inr same) =
          on_from later ft fl (ap (λ o. found_after ft (cons_option o (trace_of number es))) (exchange_of_other number e other))
          (next_other m (lane (Some number)) fl e (λ here. other (All-head (IsOwn number) e es same.1 here))) (inr (same.0, All-tail (IsOwn number) e es same.1))

      by_maker : Later → (e.job ≡ Some number) ⊎ (e.job ≡ Some number → ⊥) → So (found_after ft (trace_of number (e ∷ es)))
      by_maker later (inl own) =
          on_from later (found_in ft e.call e.reply) (found_in fl e.call e.reply) (ap (λ o. found_after ft (cons_option o (trace_of number es))) (exchange_of_own number e own))
          (next_own m (lane (Some number)) fl e replied.0 (ap lane own)) (own_next own before)
      by_maker later (inr other) = by_other later other before

-- ---- the deed of a put

-- what a job found plays no part in what a create puts
create_deed : (h : History) (job : Job) (f : FrameIn) (x z : Option (List Key)) (n : Name) → job.command ≡ Create f → deed_of h job x n ≡ deed_of h job z n
create_deed h job f x z name.Domain is = refl
create_deed h job f x z (name.Schema k) is = ap (λ c. option_map Declared (declared_by h job x c)) is ∙ sym (ap (λ c. option_map Declared (declared_by h job z c)) is)
create_deed h job f x z (name.Commit frag Wrt) is = ap (λ c. option_map Wrote (written_by h job x c)) is ∙ sym (ap (λ c. option_map Wrote (written_by h job z c)) is)
create_deed h job f x z (name.Commit frag Del) is = ap (λ c. option_map Erased (deleted_by h job x c)) is ∙ sym (ap (λ c. option_map Erased (deleted_by h job z c)) is)
create_deed h job f x z n is = refl

-- nor in what a consolidation puts
merge_deed : (h : History) (job : Job) (from to : ℕ) (limits : Limits) (x z : Option (List Key)) (n : Name) → job.command ≡ Consolidate from to limits → deed_of h job x n ≡ deed_of h job z n
merge_deed h job from to limits x z name.Domain is = refl
merge_deed h job from to limits x z (name.Schema k) is = ap (λ c. option_map Declared (declared_by h job x c)) is ∙ sym (ap (λ c. option_map Declared (declared_by h job z c)) is)
merge_deed h job from to limits x z (name.Commit frag Wrt) is = ap (λ c. option_map Wrote (written_by h job x c)) is ∙ sym (ap (λ c. option_map Wrote (written_by h job z c)) is)
merge_deed h job from to limits x z (name.Commit frag Del) is = ap (λ c. option_map Erased (deleted_by h job x c)) is ∙ sym (ap (λ c. option_map Erased (deleted_by h job z c)) is)
merge_deed h job from to limits x z n is = refl

-- the deed of an object whose name carries an identifier
put_carried : (jobs : List Job) (h : History) (found : Option (List Key)) (n : Name) (bytes : List ℕ) (id : ℕ) → id_in n ≡ Some id → deed_put jobs h found n bytes ≡ deed_carried jobs h found n
put_carried jobs h found name.Domain bytes id carries = absurd (none-some id carries)
put_carried jobs h found n bytes id carries = refl

-- is that of the job with the identifier
carried_is : (jobs : List Job) (h : History) (found : Option (List Key)) (n : Name) (number : ℕ) (job : Job) → AreApart jobs → slice_get jobs number ≡ Some job → id_in n ≡ Some job.id → deed_carried jobs h found n ≡ deed_of h job found n
carried_is jobs h found n number job apart at carries =
    ap (option_and_then (λ id. option_and_then (λ j. deed_of h j found n) (job_with jobs id))) carries
    ∙ ap (option_and_then (λ j. deed_of h j found n)) (job_of_id jobs number job apart at)

-- the put of a frame: its bytes spell the frame of the create that puts it
pub record PutsAFrame (job : Job) (n : Name) (bytes : List ℕ) : Type 0 where
  pub made : FrameIn
  pub creates : job.command ≡ Create made
  pub sound : create_refusal made ≡ None
  pub named : n ≡ name.Domain
  spelled : bytes ≡ frame_object (frame_made made)

-- a command works in a schema, in the array with the frame, and is not refused there
abbrev pub FitsIn : History → Command → Schema → Type 0
FitsIn h command there = WorksInSchema command × (frame : Frame) × (frame_in h ≡ Some frame) × (refusal_in frame there.attrs command ≡ None)

-- a job that puts is a right create that found no array, it is a consolidation, or it works in a schema, in which it is not refused
pub data Finds (past : History) (jobs : List Job) (seen : List Told) (number : ℕ) (job : Job) : Type 0 where
  Made : (f : FrameIn) → job.command ≡ Create f → create_refusal f ≡ None → FindsNoArray jobs past seen number f → Finds past jobs seen number job
  Merged : (from to : ℕ) (limits : Limits) → job.command ≡ Consolidate from to limits → Finds past jobs seen number job
  Worked : (there : Schema) → Works past jobs seen number job there → FitsIn (history_told jobs past seen) job.command there → Finds past jobs seen number job

-- another put: its name carries the job's identifier, and the `.wrt` of a write is that of its own fragment
pub record PutsItsOwn (past : History) (jobs : List Job) (seen : List Told) (number : ℕ) (job : Job) (n : Name) : Type 0 where
  carries : id_in n ≡ Some job.id
  pub finds : Finds past jobs seen number job
  pub commits : (f : FragKey) (w : WriteIn) → n ≡ wrt_of f → job.command ≡ Write w → f ≡ frag_of_job job

-- where there is nothing behind any, there is nothing
none_then : {A B : Type 0} (o : Option A) → ◌≡◌ {A = Option B} None (option_and_then (λ a. None) o)
none_then None = refl
none_then (Some a) = refl

-- the name is one of a lease
abbrev pub IsALease : Name → Type 0
IsALease n = (k : Key) × (mode : LeaseMode) × (n ≡ name.Lease k mode)

module _ {F : Type 0} (codec : Codec F) (spelled : Spelled) (tracks : Tracking F) (laws : CodecLaws codec spelled tracks) (opening : Held) (past : History) (jobs : List Job) (seen : List Told) (m : Held) where
  -- what stands behind a put by its end
  aims_find : (number : ℕ) (job : Job) (objects : List NewObject) (end : Outcome) → Aims codec spelled opening past jobs seen m number job objects end → Finds past jobs seen number job
  aims_find number job objects outcome.Created (f, creates, is, none, framed, new) = Made f creates none new
  aims_find number job objects (outcome.Evolved k) (change, frame, there, evolves, same, is, framed, sound, works) =
      Worked there works (subst WorksInSchema (sym evolves) tt, frame, framed, ap (refusal_in frame there.attrs) evolves ∙ ap (option_map refusal.SchemaBad) sound)
  aims_find number job objects (outcome.Written f) (w, frame, there, cells, writes_them, same, is, no_vac, framed, lays, works) =
      Worked there works (subst WorksInSchema (sym writes_them) tt, frame, framed, ap (refusal_in frame there.attrs) writes_them ∙ ap result_err lays)
  aims_find number job objects (outcome.Deleted f) (text, frame, there, condition, deletes, same, is, framed, says, works) =
      Worked there works (subst WorksInSchema (sym deletes) tt, frame, framed, ap (refusal_in frame there.attrs) deletes ∙ ap result_err says)
  aims_find number job objects (outcome.Consolidated f count) aims = let survey = aims.survey in Merged survey.from survey.to survey.limits (((aims.merges).has).surveys).merges
  aims_find number job objects (outcome.Read answer) none = absurd none
  aims_find number job objects (outcome.Vacuumed count) none = absurd none
  aims_find number job objects (outcome.Unlocked count) none = absurd none
  aims_find number job objects (outcome.Listed names) none = absurd none
  aims_find number job objects (outcome.Refused r) none = absurd none
  aims_find number job objects outcome.OutOfMemory none = absurd none

  -- the `.wrt` of a write is that of its own fragment
  aims_commit : (number : ℕ) (job : Job) (objects : List NewObject) (end : Outcome) → Aims codec spelled opening past jobs seen m number job objects end → (next : ℕ) (o : NewObject) → slice_get objects next ≡ Some o
      → (f : FragKey) (w : WriteIn) → o.name ≡ wrt_of f → job.command ≡ Write w → f ≡ frag_of_job job
  aims_commit number job objects outcome.Created (made, creates, is, none, framed, new) next o at f w named writes_them = absurd (no_create made w (sym creates ∙ writes_them))
    where
      no_create : (x : FrameIn) (y : WriteIn) → Create x ≡ Write y → ⊥
      no_create x y same = cc
  aims_commit number job objects (outcome.Evolved k) (change, frame, there, evolves, same, is, framed, sound, works) next o at f w named writes_them = absurd (no_evolve change w (sym evolves ∙ writes_them))
    where
      no_evolve : (x : Evolution) (y : WriteIn) → Evolve x ≡ Write y → ⊥
      no_evolve x y same = cc
  aims_commit number job objects (outcome.Written g) (columns, frame, there, cells, also, same, is, no_vac, framed, lays, works) next o at f w named writes_them =
      elim (put_at (frag_of_job job) (codec.parts frame there (piece_of frame (written_as job there.key cells))) next o (subst (λ os. slice_get os next ≡ Some o) is at)) [
        | APart x there_is is_part ↦ absurd (no_part (frag_of_job job) x.part f (ap (λ y. y.name) (sym is_part) ∙ named))
        | ACommit last is_commit ↦ one_wrt f (frag_of_job job) (sym named ∙ ap (λ y. y.name) is_commit)
      ]
    where
      no_part : (g : FragKey) (part : Part) (k : FragKey) → name.Part g part ≡ wrt_of k → ⊥
      no_part g part k e = cc

      one_wrt : (g k : FragKey) → wrt_of g ≡ wrt_of k → g ≡ k
      one_wrt g k e = cc
  aims_commit number job objects (outcome.Deleted g) (text, frame, there, condition, deletes, same, is, framed, says, works) next o at f w named writes_them = absurd (no_delete text w (sym deletes ∙ writes_them))
    where
      no_delete : (x : List ℕ) (y : WriteIn) → Delete x ≡ Write y → ⊥
      no_delete x y same = cc
  aims_commit number job objects (outcome.Consolidated g count) aims next o at f w named writes_them =
      let survey = aims.survey in
      absurd (no_merge survey.from survey.to survey.limits w (sym (((aims.merges).has).surveys).merges ∙ writes_them))
    where
      no_merge : (from to : ℕ) (limits : Limits) (y : WriteIn) → Consolidate from to limits ≡ Write y → ⊥
      no_merge from to limits y same = cc
  aims_commit number job objects (outcome.Read answer) none next o at f w named writes_them = absurd none
  aims_commit number job objects (outcome.Vacuumed count) none next o at f w named writes_them = absurd none
  aims_commit number job objects (outcome.Unlocked count) none next o at f w named writes_them = absurd none
  aims_commit number job objects (outcome.Listed names) none next o at f w named writes_them = absurd none
  aims_commit number job objects (outcome.Refused r) none next o at f w named writes_them = absurd none
  aims_commit number job objects outcome.OutOfMemory none next o at f w named writes_them = absurd none

  -- a put of a job
  pub put_from : (number : ℕ) (job : Job) (s : State F) (n : Name) (bytes : List ℕ) → Claims codec spelled tracks opening past jobs seen m number job s → asks codec job s ≡ Some (call.Put n bytes)
      → PutsAFrame job n bytes ⊎ PutsItsOwn past jobs seen number job n
  put_from number job (Creates PutsFrame) n bytes claims asked =
      let (f, creates, sound) = claims.1 in
      let same : frame_put f ≡ call.Put n bytes = same_Some (frame_put f) (call.Put n bytes) (sym (ap (λ c. option_map frame_put (made_by c)) creates) ∙ asked) in
      inl (record { made = f; creates = creates; sound = sound; named = sym (one_name name.Domain n (frame_object (frame_made f)) bytes same); spelled = sym (one_bytes name.Domain n (frame_object (frame_made f)) bytes same) })
    where
      one_bytes : (a b : Name) (x y : List ℕ) → call.Put a x ≡ call.Put b y → x ≡ y
      one_bytes a b x y e = cc
  put_from number job (Puts objects next end) n bytes claims asked =
      let (o, at, is) = asked_by put_of (slice_get objects next) (call.Put n bytes) asked in
      inr (record {
        carries = ap id_in (sym (one_name o.name n o.bytes bytes is)) ∙ (aims-carry codec spelled opening past jobs seen m number job objects end claims.aims next o at).0;
        finds = aims_find number job objects end claims.aims;
        commits = λ f w same writes_them. aims_commit number job objects end claims.aims next o at f w (one_name o.name n o.bytes bytes is ∙ same) writes_them;
      })
  put_from number job (Creates ComparesFrame) n bytes claims asked = absurd (no_get name.Domain 0 _ n bytes (same_Some _ _ asked))
  put_from number job (Creates ListsDeclared) n bytes claims asked = absurd (no_listing Schemas n bytes (same_Some _ _ asked))
  put_from number job (Seeks ListsCommits) n bytes claims asked = absurd (no_listing Commits n bytes (same_Some _ _ asked))
  put_from number job (Seeks (ListsSchemas listing)) n bytes claims asked = absurd (no_listing Schemas n bytes (same_Some _ _ asked))
  put_from number job (Seeks (GetsSchema listing there)) n bytes claims asked = absurd (no_get (name.Schema there) 0 _ n bytes (same_Some _ _ asked))
  put_from number job (Seeks (GetsFrame listing there)) n bytes claims asked = absurd (no_get name.Domain 0 _ n bytes (same_Some _ _ asked))
  put_from number job (Collects (GetsVacs r)) n bytes claims asked =
      let f = asked_by get_vac (slice_get r.counting _) (call.Put n bytes) asked in
      absurd (no_get (vac_of f.0) 0 _ n bytes f.2)
  put_from number job (Collects (GetsHeads r opened)) n bytes claims asked =
      let f = asked_by (get_head codec r) (slice_get r.fragments _) (call.Put n bytes) asked in
      absurd (no_get (name.Part f.0 (codec.head_part r.frame)) 0 _ n bytes f.2)
  put_from number job (Collects (GetsSchemas r opened named schemas)) n bytes claims asked =
      let k = asked_by get_schema (slice_get named _) (call.Put n bytes) asked in
      absurd (no_get (name.Schema k.0) 0 _ n bytes k.2)
  put_from number job (Collects (GetsDeletes r opened schemas)) n bytes claims asked =
      let f = asked_by get_delete (slice_get r.delete_names _) (call.Put n bytes) asked in
      absurd (no_get (name.Commit f.0 Del) 0 _ n bytes f.2)
  put_from number job (Collects (Fetches r opened schemas next frag got fetch c)) n bytes claims asked =
      let way = claims.2.1 in
      let on = way.holds in
      let held = laws.asks r.frame on.schema way.piece (on.spells).look (want_of r (on.schema).attrs) fetch c way.way in
      absurd (speaks_no_put c (name.Part ((way.piece).head).frag held.part) n bytes held.named (same_Some c (call.Put n bytes) asked))
  put_from number job (Merges merging.ListsCommits) n bytes claims asked = absurd (no_listing Commits n bytes (same_Some _ _ asked))
  put_from number job (Merges (merging.ListsSchemas c)) n bytes claims asked = absurd (no_listing Schemas n bytes (same_Some _ _ asked))
  put_from number job (Merges (merging.GetsFrame c)) n bytes claims asked = absurd (no_get name.Domain 0 _ n bytes (same_Some _ _ asked))
  put_from number job (Merges (merging.GetsVacs s)) n bytes claims asked =
      let f = asked_by get_vac (slice_get s.counting _) (call.Put n bytes) asked in
      absurd (no_get (vac_of f.0) 0 _ n bytes f.2)
  put_from number job (Merges (merging.GetsHeads s opened)) n bytes claims asked =
      let f = asked_by (get_head_in codec s.frame) (slice_get s.fragments _) (call.Put n bytes) asked in
      absurd (no_get (name.Part f.0 (codec.head_part s.frame)) 0 _ n bytes f.2)
  put_from number job (Merges (merging.GetsSchemas s opened named schemas)) n bytes claims asked =
      let k = asked_by get_schema (slice_get named _) (call.Put n bytes) asked in
      absurd (no_get (name.Schema k.0) 0 _ n bytes k.2)
  put_from number job (Merges (merging.Fetches s sources schema next frag got fetch c)) n bytes claims asked =
      let way = claims.2.1 in
      let on = way.is.holds in
      let held = laws.asks s.frame schema way.piece (on.spells).look (all_of s.frame schema.attrs) fetch c way.way in
      absurd (speaks_no_put c (name.Part ((way.piece).head).frag held.part) n bytes held.named (same_Some c (call.Put n bytes) asked))
  put_from number job (Sweeps sweeping.ListsCommits) n bytes claims asked = absurd (no_listing Commits n bytes (same_Some _ _ asked))
  put_from number job (Sweeps (sweeping.ListsSchemas s)) n bytes claims asked = absurd (no_listing Schemas n bytes (same_Some _ _ asked))
  put_from number job (Sweeps (sweeping.GetsVacs s)) n bytes claims asked =
      let f = asked_by get_vac (slice_get s.counting _) (call.Put n bytes) asked in
      absurd (no_get (vac_of f.0) 0 _ n bytes f.2)
  put_from number job (Sweeps (sweeping.ListsParts s set listed)) n bytes claims asked =
      let f = asked_by list_parts (slice_get set _) (call.Put n bytes) asked in
      absurd (no_listing (Fragment f.0) n bytes f.2)
  put_from number job Lists n bytes claims asked = absurd (own_listing_no_put job.command n bytes claims.1 asked)
  put_from number job (Removes names next end) n bytes claims asked =
      let q = asked_by call.Remove (slice_get names next) (call.Put n bytes) asked in
      absurd (no_removal q.0 n bytes q.2)
  put_from number job (Over end) n bytes claims asked = absurd (none-some _ asked)

  -- a put of a job in whatever stage: of a frame, of its own object, or of its lease
  pub put_staged : (number : ℕ) (job : Job) (stage : Stage F) (n : Name) (bytes : List ℕ) → StageClaims codec spelled tracks opening past jobs seen m number job stage → MayAsk codec job stage (call.Put n bytes)
      → (PutsAFrame job n bytes ⊎ PutsItsOwn past jobs seen number job n) ⊎ IsALease n
  put_staged number job (PutsLease lease) n bytes claims (inl asked) =
      let (mode, named) = lease_is job lease claims.0.0 in
      inr (key_of job, mode, sym (one_name lease n [] bytes (same_Some (put_lease lease) (call.Put n bytes) asked)) ∙ named)
  put_staged number job (ListsLeases lease) n bytes claims (inl asked) = absurd (no_listing Leases n bytes (same_Some _ _ asked))
  put_staged number job (stages.Works s) n bytes claims (inl asked) = inl (put_from number job s n bytes claims asked)
  put_staged number job (Releases lease end) n bytes claims (inl asked) = absurd (no_removal lease n bytes (same_Some _ _ asked))
  put_staged number job stage n bytes claims (inr gives_up) = let (lease, some, removes) = release_is job (call.Put n bytes) gives_up.0 in absurd (no_removal lease n bytes (sym removes))

-- the deed of a put is the one that its bytes and its name tell
put_deed : (past : History) (jobs : List Job) (seen : List Told) (g : History) (found : Option (List Key)) (number : ℕ) (job : Job) (n : Name) (bytes : List ℕ) → AreApart jobs → slice_get jobs number ≡ Some job → IsFit job → IsShort bytes
    → (schemas_found (trace_of number seen) ≡ None) ⊎ (schemas_found (trace_of number seen) ≡ found) → PutsAFrame job n bytes ⊎ PutsItsOwn past jobs seen number job n
    → deed_of g job (schemas_found (trace_of number seen)) n ≡ deed_put jobs g found n bytes
put_deed past jobs seen g found number job n bytes apart at fit short same (inl puts) =
    let whole = frame_again (frame_made puts.made) (created_frame puts.made (subst (λ c. IsTrue (fits c)) puts.creates fit.command) puts.sound) (subst IsShort puts.spelled short) in
    ap (deed_of g job (schemas_found (trace_of number seen))) puts.named
    ∙ ap (λ c. option_map (λ f. Framed (frame_made f)) (made_by c)) puts.creates
    ∙ sym (ap (λ k. deed_put jobs g found k bytes) puts.named ∙ ap (λ b. option_map Framed (result_ok (frame_of b))) puts.spelled ∙ ap (λ r. option_map Framed (result_ok r)) whole)
put_deed past jobs seen g found number job n bytes apart at fit short same (inr puts) =
    by_found puts.finds ∙ sym (put_carried jobs g found n bytes job.id puts.carries ∙ carried_is jobs g found n number job apart at puts.carries)
  where
    by_found : Finds past jobs seen number job → deed_of g job (schemas_found (trace_of number seen)) n ≡ deed_of g job found n
    by_found (Made f creates sound new) = create_deed g job f (schemas_found (trace_of number seen)) found n creates
    by_found (Merged from to limits merges) = merge_deed g job from to limits (schemas_found (trace_of number seen)) found n merges
    by_found (Worked there works unrefused) = elim same [
      | inl none ↦ absurd (none-some works.found (sym none ∙ works.is_found))
      | inr is ↦ ap (λ k. deed_of g job k n) is
    ]

-- ---- the journal

-- a call in the midst of calls that are replied to
pub replied_at : (m : Held) (front back : List Told) (e : Told) → Replied m (front ++ e ∷ back) → IsReplied (held_told m front) e
replied_at m [] back e replied = replied.0
replied_at m (d ∷ front) back e replied = replied_at (after_told m d) front back e replied.1

module _ {F : Type 0} (codec : Codec F) (spelled : Spelled) (tracks : Tracking F) (laws : CodecLaws codec spelled tracks) (jobs : List Job) (past : History) (m : Held) (told : List Told) (lane : Option ℕ → ℕ)
    (last : List ℕ) (begins : Kept codec spelled tracks m past jobs [] [] m) (may : AreAllowed codec jobs [] last [] told) (replied : Replied m told) (turns : AreInTurn lane told) where
  module _ (seen back : List Told) (e : Told) (parts : told ≡ seen ++ e ∷ back) (g : History) where
    -- what stood before the call
    comes : Coming codec spelled tracks laws m past jobs seen (held_told m seen) e
    comes = coming codec spelled tracks laws m past jobs [] last [] m told seen back e begins may replied parts

    -- its reply
    answered : IsReplied (held_told m seen) e
    answered = replied_at m seen back e (subst (Replied m) parts replied)

    -- the deed of a call of a job
    own_deed : IsAllowed codec jobs comes.dead seen e → deed_told jobs g seen e ≡ deed_entered jobs g (found_by m (lane e.job) None (entries_of lane seen)) e.call
    own_deed allowed =
        deed_told_own jobs g seen e allowed.number allowed.job e.call allowed.own allowed.is_job refl
        ∙ by_call e.call refl
        ∙ ap (λ o. deed_entered jobs g (found_by m (lane o) None (entries_of lane seen)) e.call) (sym allowed.own)
      where
        found : Option (List Key)
        found = found_by m (lane (Some allowed.number)) None (entries_of lane seen)

        -- what the job found its lane found
        found_then : (schemas_found (trace_of allowed.number seen) ≡ None) ⊎ (schemas_found (trace_of allowed.number seen) ≡ found)
        found_then =
            found_same lane allowed.number m None None seen (Replied-front m seen (e ∷ back) (subst (Replied m) parts replied)) (turns seen back e allowed.number parts allowed.own) (inl refl)

        by_put : (n : Name) (bytes : List ℕ) → e.call ≡ call.Put n bytes → (PutsAFrame allowed.job n bytes ⊎ PutsItsOwn past jobs seen allowed.number allowed.job n) ⊎ IsALease n → deed_of g allowed.job (schemas_found (trace_of allowed.number seen)) n ≡ deed_put jobs g found n bytes
        by_put n bytes is (inl puts) =
            put_deed past jobs seen g found allowed.number allowed.job n bytes (comes.kept).apart allowed.is_job
            (All-contains IsFit jobs allowed.job (comes.kept).fit (Contains-slice_get jobs allowed.number allowed.job allowed.is_job)) (subst IsShortCall is allowed.short) found_then puts
        by_put n bytes is (inr lease) =
            let Same : Name → Type 0 = λ k. deed_of g allowed.job (schemas_found (trace_of allowed.number seen)) k ≡ deed_put jobs g found k bytes in
            subst Same (sym lease.2) (none_then (job_with jobs (lease.0).id))

        by_call : (c : Call) → e.call ≡ c → deed_in g allowed.job (schemas_found (trace_of allowed.number seen)) c ≡ deed_entered jobs g found c
        by_call (call.Put n bytes) is =
            by_put n bytes is (put_staged codec spelled tracks laws m past jobs seen (held_told m seen) allowed.number allowed.job (stage_of codec allowed.job (trace_of allowed.number seen)) n bytes
            ((comes.kept).claims allowed.number allowed.job allowed.is_job allowed.alive) (subst (MayAsk codec allowed.job (stage_of codec allowed.job (trace_of allowed.number seen))) is allowed.asked))
        by_call (call.Remove n) is = refl
        by_call (call.List p) is = refl
        by_call (call.Get n from len) is = refl
        by_call (call.Size n) is = refl

    -- the deed of any call
    deed_same : deed_told jobs g seen e ≡ deed_entered jobs g (found_by m (lane e.job) None (entries_of lane seen)) e.call
    deed_same = by_maker comes.may
      where
        by_maker : MayCome codec jobs comes.dead seen e → deed_told jobs g seen e ≡ deed_entered jobs g (found_by m (lane e.job) None (entries_of lane seen)) e.call
        by_maker (inl allowed) = own_deed allowed
        by_maker (inr broken) =
            ap (option_and_then (λ number. option_and_then (λ job. deed_in g job (schemas_found (trace_of number seen)) e.call) (slice_get jobs number))) broken.nobodys
            ∙ sym (ap (deed_entered jobs g (found_by m (lane e.job) None (entries_of lane seen))) broken.removes)

    -- what it appends
    grown_same : is_no_memory e.reply ≡ false → grown jobs g seen e ≡ grown_by jobs m g (entries_of lane seen) (record { lane = lane e.job; call = e.call; fate = e.fate })
    grown_same memory =
        ap (λ b. cond b (option_to_list (deed_told jobs g seen e)) []) ((served (held_told m seen) e answered memory).1 ∙ ap (λ n. changes n e.call e.fate) (journal_held lane m seen))
        ∙ ap (λ o. cond (changes (held_after m (entries_of lane seen)) e.call e.fate) (option_to_list o) []) deed_same

    -- for want of memory it appends nothing
    grown_none : is_no_memory e.reply ≡ true → grown jobs g seen e ≡ []
    grown_none memory = ap (λ b. cond b (option_to_list (deed_told jobs g seen e)) []) (unserved (held_told m seen) e answered memory)

    -- the history goes on by the entry of the call as by the call
    on_by_entry : (es : List Entry) → history_by jobs m (g ++ grown jobs g seen e) (entries_of lane (seen ++ e ∷ [])) es ≡ history_by jobs m g (entries_of lane seen) (cons_option (entry_of lane e) es)
    on_by_entry es = ap (λ b. history_by jobs m (g ++ grown jobs g seen e) b es) (filter_map-append (entry_of lane) seen (e ∷ [])) ∙ by_memory (is_no_memory e.reply) refl
      where
        by_memory : (b : Bool) → is_no_memory e.reply ≡ b → history_by jobs m (g ++ grown jobs g seen e) (entries_of lane seen ++ cons_option (cond b None (Some (record { lane = lane e.job; call = e.call; fate = e.fate }))) []) es
            ≡ history_by jobs m g (entries_of lane seen) (cons_option (cond b None (Some (record { lane = lane e.job; call = e.call; fate = e.fate }))) es)
        by_memory true memory =
            ap (λ d. history_by jobs m (g ++ d) (entries_of lane seen ++ []) es) (grown_none memory)
            ∙ ap (λ h. history_by jobs m h (entries_of lane seen ++ []) es) (append-nil g)
            ∙ ap (λ b. history_by jobs m g b es) (append-nil (entries_of lane seen))
        by_memory false memory = ap (λ d. history_by jobs m (g ++ d) (entries_of lane seen ++ record { lane = lane e.job; call = e.call; fate = e.fate } ∷ []) es) (grown_same memory)

  -- the history after calls is that after their entries, up to a place
  same_from : (seen rest back : List Told) (g : History) → told ≡ seen ++ (rest ++ back) → history_from jobs g seen rest ≡ history_by jobs m g (entries_of lane seen) (entries_of lane rest)
  same_from seen [] back g parts = refl
  same_from seen (e ∷ rest) back g parts =
      same_from (seen ++ e ∷ []) rest back (g ++ grown jobs g seen e) (parts ∙ sym (append_assoc seen (e ∷ []) (rest ++ back)))
      ∙ on_by_entry seen (rest ++ back) e parts g (entries_of lane rest)

  -- the history of a first part of the calls is that of its journal
  pub front_history : (front back : List Told) → told ≡ front ++ back → history_told jobs past front ≡ history_of past m jobs (entries_of lane front)
  front_history front back parts = same_from [] front back past parts

-- ---- first parts of a journal

-- a first part of a journal is that of a first part of the calls
pub front_told : (lane : Option ℕ → ℕ) (told : List Told) (front back : List Entry) → entries_of lane told ≡ front ++ back → (a : List Told) × (b : List Told) × (told ≡ a ++ b) × (entries_of lane a ≡ front)
front_told lane told [] back parts = ([], told, refl, refl)
front_told lane [] (x ∷ front) back parts = cc
front_told lane (e ∷ told) (x ∷ front) back parts =
    by_entry (λ rest. front_told lane told (x ∷ front) back rest) (λ rest. front_told lane told front back rest) (entry_of lane e) refl parts
  where
    Split : List Entry → List Told → Type 0
    Split es t = (a : List Told) × (b : List Told) × (t ≡ a ++ b) × (entries_of lane a ≡ es)

    by_entry : (entries_of lane told ≡ x ∷ front ++ back → Split (x ∷ front) told) → (entries_of lane told ≡ front ++ back → Split front told) → (o : Option Entry) → entry_of lane e ≡ o → cons_option o (entries_of lane told) ≡ x ∷ front ++ back
        → Split (x ∷ front) (e ∷ told)
    by_entry here later None is rest =
        let (a, b, whole, same) = here rest in
        (e ∷ a, b, ap (λ t. e ∷ t) whole, ap (λ o. cons_option o (entries_of lane a)) is ∙ same)
    by_entry here later (Some y) is rest =
        let first : y ≡ x = cc in
        let others : entries_of lane told ≡ front ++ back = cc in
        let (a, b, whole, same) = later others in
        (e ∷ a, b, ap (λ t. e ∷ t) whole, ap (λ o. cons_option o (entries_of lane a)) is ∙ ap (λ z. z ∷ entries_of lane a) first ∙ ap (λ es. x ∷ es) same)

-- ---- jobs in lanes

module _ (lanes : ℕ → ℕ) where
  -- between two calls of a job each call in its lane is its own
  between : (number : ℕ) (seen back : List Told) (d e : Told) → d.job ≡ Some number → e.job ≡ Some number → All IsOwned (seen ++ e ∷ back) → All (IsBefore lanes d) (seen ++ e ∷ back)
      → InTurn lanes (seen ++ e ∷ back) → All (IsOwn (lane_by lanes) number) seen
  between number [] back d e first last owned behind turns = All-nil (IsOwn (lane_by lanes) number)
  between number (x ∷ seen) back d e first last owned behind turns =
      let rest : List Told = seen ++ e ∷ back in
      let (k, by) = All-head IsOwned x rest owned in
      let above : lanes number ≡ lanes k → number ≤ k = All-head (IsBefore lanes d) x rest behind number k first by in
      let below : lanes k ≡ lanes number → k ≤ number = All-contains (IsBefore lanes x) rest e turns.0 (Contains-append_right seen (e ∷ back) e (Contains-here e back)) k number by last in
      let own : IsOwn (lane_by lanes) number x =
      λ here.
      let same : lanes k ≡ lanes number = sym (ap (lane_by lanes) by) ∙ here in
      let least = above (sym same) in
      let most = below same in
      let is : k ≡ number = omega (arith, least, most) in
      by ∙ ap Some is in
      All-cons (IsOwn (lane_by lanes) number) x seen own
      (between number seen back d e first last (All-tail IsOwned x rest owned) (All-tail (IsBefore lanes d) x rest behind) turns.1)

  -- so a job has its lane from its first call to its last
  owns : (number : ℕ) (seen back : List Told) (e : Told) → e.job ≡ Some number → All IsOwned (seen ++ e ∷ back) → InTurn lanes (seen ++ e ∷ back) → OwnsLane (lane_by lanes) number seen
  owns number [] back e last owned turns = tt
  owns number (d ∷ seen) back e last owned turns =
      let rest = All-tail IsOwned d (seen ++ e ∷ back) owned in
      (λ first. between number seen back d e first last rest turns.0 turns.1, owns number seen back e last rest turns.1)

  -- calls of lanes in turn come in turn
  pub lanes_turn : (told : List Told) → All IsOwned told → InTurn lanes told → AreInTurn (lane_by lanes) told
  lanes_turn told owned turns seen back e number parts last = owns number seen back e last (subst (All IsOwned) parts owned) (subst (InTurn lanes) parts turns)
