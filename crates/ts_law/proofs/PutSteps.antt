-- The puts of schemas, of deletes and of the objects of writes, and what an evolve, a write and a delete come to once they have the frame.
use Rattle.std.proofs.Common.{List, None, Ok, Option, Some, [], ap, arith, cond, false, inl, inr, length, nat_le, refl, subst, suc, sym, true, zero, ℕ, ℤ, ◌++◌, ◌<◌, ◌∙◌, ◌∷◌, ◌≡◌, ◌≤◌}
use Rattle.std.proofs.Math.Nat.{eq-or-lt_of_le}
use Rattle.std.proofs.lemmas.Bool.{le-ltb, lt-ltb}
use Rattle.std.proofs.lemmas.List.{append-nil}
use Rattle.std.proofs.lemmas.List.Elements.{Contains-append_right}
use Rattle.std.proofs.lemmas.Option.{none-some, same_Some, slice_get-get_or, slice_get_within}
use Rattle.std.specs.Prelude.{Err, IsTrue, Result, nat_lt, option_and_then, option_map, slice_get, slice_index_or}
use Rattle.ts_base.specs.Held.{Held}
use Rattle.ts_base.specs.Names.{del_of, wrt_of}
use Rattle.ts_base.specs.declared.heads.Cell.{Cell}
use Rattle.ts_base.specs.declared.heads.Piece.{Piece}
use Rattle.ts_base.specs.declared.keys.FragKey.{FragKey}
use Rattle.ts_base.specs.declared.names.Name.{Name}
use Rattle.ts_base.specs.declared.names.PartBytes.{PartBytes}
use Rattle.ts_base.specs.declared.names.Prefix.TheVariants.{Schemas}
use Rattle.ts_cond.specs.CondTexts.{cond_object}
use Rattle.ts_cond.specs.Tests.{Condition}
use Rattle.ts_schema.specs.Evolutions.{evolution_fault, evolved_attrs, schema_at}
use Rattle.ts_schema.specs.FrameTexts.{IsFrame}
use Rattle.ts_schema.specs.Parts.{IsShort, look_in}
use Rattle.ts_schema.specs.SchemaTexts.{AreAttrs, schema_object}
use Rattle.ts_schema.specs.declared.attrs.Attr.{Attr}
use Rattle.ts_schema.specs.declared.evolution.Evolution.{Evolution}
use Rattle.ts_schema.specs.declared.faults.SchemaFault.{SchemaFault}
use Rattle.ts_schema.specs.declared.frames.Frame.{Frame}
use Rattle.ts_schema.specs.declared.schemas.Schema.{Schema}
use Rattle.ts_store.specs.declared.call.Reply.{Reply}
use Rattle.ts_model.specs.Commands.{create_refusal, fits, frame_made, laid, piece_of}
use Rattle.ts_model.specs.Deeds.{DeletionFollows, History, IsHistory, IsKey, SchemaFollows, WriteFollows, deletions, frame_in, has_cell, current_schema, schema_with, writes}
use Rattle.ts_law.specs.Ends.{FindsNoArray, HasDeclared, IsDeleted, IsTrueEnd, IsTrueRefusal, IsUndone, IsWritten, kind_of}
use Rattle.ts_model.specs.Codecs.{Codec, CodecLaws, Spelled, Tracking}
use Rattle.ts_model.specs.Jobs.{AreApart, IsFit, deletion_as, frag_of_job, key_of, looked_at, looks_at, schema_of_job, written_as}
use Rattle.ts_law.specs.Kept.{Claims, Clean, Putting, Works}
use Rattle.ts_model.specs.Pieces.{HoldsWrite, IsOrdinary, IsClose}
use Rattle.ts_model.specs.Queries.{delete_condition}
use Rattle.ts_law.specs.Stands.{Spells, Stands}
use Rattle.ts_model.specs.States.{vac_of}
use Rattle.ts_law.specs.Origins.{box_in}
use Rattle.ts_domain.specs.Boxes.{is_in_box}
use Rattle.ts_law.proofs.Grows.{piece_box}
use Rattle.ts_model.specs.States.{works as comes_to, delete_object_of, goes, list_schemas, part_objects, put_of, puts_cells, puts_delete, puts_schema, putting, refuse, schema_name, schema_object_of, unless_refused, write_objects}
use Rattle.ts_law.specs.Steps.{Advances, Comes, Keeps, Leads}
use Rattle.ts_model.specs.Told.{IsShortCall, Told, after_told, cells_of, condition_of, declared_by, deed_of, deed_told, deleted_by, deleted_in, history_told, schema_used, schemas_found, trace_of, written_by, written_in}
use Rattle.ts_model.specs.declared.answers.Outcome.{Outcome}
use Rattle.ts_model.specs.declared.answers.Refusal.{Refusal}
use Rattle.ts_model.specs.declared.commands.Command.TheVariants.{Create, Delete, Evolve, Write}
use Rattle.ts_model.specs.declared.commands.FrameIn.{FrameIn}
use Rattle.ts_model.specs.declared.commands.Job.{Job}
use Rattle.ts_model.specs.declared.commands.WriteIn.{WriteIn}
use Rattle.ts_model.specs.declared.deeds.Deed.TheVariants.{Declared, Erased, Wrote}
use Rattle.ts_model.specs.declared.deeds.Deletion.{Deletion}
use Rattle.ts_model.specs.declared.deeds.Written.{Written}
use Rattle.ts_model.specs.declared.states.Listed.{Listed}
use Rattle.ts_model.specs.declared.states.NewObject.{NewObject}
use Rattle.ts_model.specs.declared.states.State.{State}
use Rattle.ts_model.specs.declared.states.State.TheVariants.{Puts, Over}
use Rattle.ts_law.proofs.Declaring.{created_attrs, created_sound, evolved_are_attrs, evolved_sound}
use Rattle.ts_law.proofs.Deletes.{delete_condition_sparse, delete_condition_spelled, schema_sound}
use Rattle.ts_law.proofs.Effects.{Added, Still, put_went, still_leads}
use Rattle.ts_law.proofs.HeldLemmas.{Holds, get_apart, get_put}
use Rattle.ts_model.proofs.HistoryLaws.{deletions-append, frame_facts, schema_facts, current_schema-is, writes-append}
use Rattle.ts_model.proofs.LaidLaws.{written_held, written_ordinary, written_close}
use Rattle.ts_law.proofs.LaidRefusals.{FailsByColumns, columns_true, laid_fails}
use Rattle.ts_model.proofs.Laying.{laid_follows}
use Rattle.ts_model.proofs.ListLemmas.{Contains-here, Contains-nil, Contains-only}
use Rattle.ts_law.proofs.Objects.{ACommit, APart, apart_from_lease, begins_putting, delete_carries, last_at, look_finds, object_count, objects_apart, objects_of, part_count, part_here, part_object, put_at, schema_carries, write_carries}
use Rattle.ts_law.proofs.QueryRefusals.{FailsByQuery, delete_condition_fails, query_true}
use Rattle.ts_law.proofs.StandsLaws.{declared_last, free_from_get, keeps_put, leads_at, marks_delete, marks_part, marks_schema, marks_wrt, stands_commit, stands_delete, stands_put, stands_schema}
use Rattle.ts_law.proofs.Spent.{put_commits, unspent_on}
use Rattle.ts_law.proofs.VacLaws.{IsBare, MarksNone}
use Rattle.ts_law.proofs.Stays.{frame_stays, listed_stays, no_array_stays, works_stays}
use Rattle.ts_model.proofs.Traces.{deed_told_own, later_deed, later_no_deed, later_unchanged}
use Rattle.ts_store.specs.declared.call.Call.TheVariants as call
use Rattle.std.specs.FinMap as map
use Rattle.ts_base.specs.declared.names.Name.TheVariants as name
use Rattle.ts_model.specs.declared.answers.Outcome.TheVariants as outcome
use Rattle.ts_base.specs.declared.names.Place.TheVariants as place
use Rattle.ts_model.specs.declared.answers.Refusal.TheVariants as refusal
use Rattle.ts_store.specs.declared.call.Reply.TheVariants as reply
pub use Rattle.ts_law.proofs.CreateSteps.{frame_steps, compare_steps, declared_steps}

-- a failed put of any object tells the truth, where the job has no deed
pub fault_is_true : (spelled : Spelled) (opening : Held) (jobs : List Job) (past : History) (told : List Told) (number : ℕ) (job : Job) (n : Name) → IsUndone (history_told jobs past told) job
    → IsTrueRefusal spelled opening jobs past told number job (refusal.StoreFault (place.Name n))
fault_is_true spelled opening jobs past told number job name.Domain undone = undone
fault_is_true spelled opening jobs past told number job (name.Schema k) undone = inr undone
fault_is_true spelled opening jobs past told number job (name.Commit f kind) undone = inr undone
fault_is_true spelled opening jobs past told number job (name.Part f part) undone = undone
fault_is_true spelled opening jobs past told number job (name.Lease k mode) undone = undone

-- ---- one call

module _ {F : Type 0} (codec : Codec F) (spelled : Spelled) (tracks : Tracking F) (opening : Held) (past : History) (jobs : List Job) (seen : List Told) (e : Told) (m : Held) (number : ℕ) (job : Job) where
  -- the history before the call
  abbrev h : History
  h = history_told jobs past seen

  -- the history after the call
  abbrev h' : History
  h' = history_told jobs past (seen ++ e ∷ [])

  -- what is held after the call
  abbrev m' : Held
  m' = after_told m e

  -- what a state of the job claims after the call
  abbrev ClaimsLater : State F → Type 0
  ClaimsLater s = Claims codec spelled tracks opening past jobs (seen ++ e ∷ []) m' number job s

  -- the call comes to the job in a state
  abbrev ComesHere : State F → Type 0
  ComesHere s = Comes codec spelled tracks opening past jobs seen e m number job s

  -- the call advances the job from a state
  abbrev AdvancesHere : State F → Type 0
  AdvancesHere s = Advances codec spelled tracks opening past jobs seen e m number job s

  -- where the call leads
  abbrev LeadsHere : Type 0
  LeadsHere = Leads spelled past jobs seen e m job.id

  -- ---- puts

  -- a put of the object comes to these
  abbrev pub Came : List NewObject → ℕ → Outcome → NewObject → Type 0
  Came objects next end o = LeadsHere × ClaimsLater (putting objects (suc next) end) × ClaimsLater (refuse (refusal.StoreFault (place.Name o.name)))

  -- where the reply to a put leads
  put_leads : (objects : List NewObject) (next : ℕ) (end : Outcome) (o : NewObject) → slice_get objects next ≡ Some o → (r : Reply) → (r ≡ reply.Made → ClaimsLater (putting objects (suc next) end))
      → (r ≡ reply.Taken → ⊥) → (r ≡ reply.Failed → ClaimsLater (refuse (refusal.StoreFault (place.Name o.name)))) → ClaimsLater (goes codec job (Puts objects next end) r)
  put_leads objects next end o at reply.Made made taken failed = rw at (made refl)
  put_leads objects next end o at reply.Taken made taken failed = absurd (taken refl)
  put_leads objects next end o at reply.Failed made taken failed = rw at (failed refl)
  put_leads objects next end o at _ made taken failed = rw at tt

  -- the call is the put of the object at the place
  pub put_asked : (objects : List NewObject) (next : ℕ) (end : Outcome) (o : NewObject) → slice_get objects next ≡ Some o → ComesHere (Puts objects next end) → e.call ≡ put_of o
  put_asked objects next end o at c = sym (same_Some (put_of o) e.call (ap (option_map put_of) (sym at) ∙ c.asked))

  -- a put goes on as one that adds its object does, or it changes nothing
  pub puts_on : (objects : List NewObject) (next : ℕ) (end : Outcome) (o : NewObject) → slice_get objects next ≡ Some o → (c : ComesHere (Puts objects next end))
      → ((Holds m o.name → ⊥) → m' ≡ map.insert m o.name o.bytes → e.changed ≡ true → Came objects next end o) → AdvancesHere (Puts objects next end)
  puts_on objects next end o at c added = elim (put_went m o.name o.bytes e (put_asked objects next end o at c) c.replied) [
    | Added free same_held changed said ↦
        let came = added free same_held changed in
        record {
          leads = came.0;
          own = put_leads objects next end o at e.reply (λ _. came.1) (λ taken. absurd (elim said [ inl made ↦ cc | inr failed ↦ cc ])) (λ _. came.2);
        }
    | Still same_held still not_made taken ↦
        let same_history = later_unchanged jobs past seen e still in
        record {
          leads = still_leads spelled past jobs seen e m job.id c.stands same_held same_history;
          own = put_leads objects next end o at e.reply (λ made. absurd (not_made made))
              (λ was. free_from_get m o.name ((c.claims).free next o (omega arith) at) (taken was))
              (λ _. fault_is_true spelled opening jobs past (seen ++ e ∷ []) number job o.name (subst (λ g. IsUndone g job) (sym same_history) (c.claims).undone));
        }
  ]

  -- ---- the put of a schema

  -- the key of a job, of which there can be one
  key_fits : IsFit job → IsKey (key_of job)
  key_fits fit = record { t = fit.stamp; id = fit.id }

  -- the schema of a job was put, and its end tells the truth
  schema_came : (attrs : List Attr) (end : Outcome) → ComesHere (Puts (schema_object_of job attrs ∷ []) 0 end) → SchemaFollows h (schema_of_job job attrs)
      → deed_told jobs h seen e ≡ Some (Declared (schema_of_job job attrs))
      → (Keeps m m' h h' job.id → HasDeclared h' job attrs → IsTrueEnd spelled opening jobs past (seen ++ e ∷ []) number job end) → AdvancesHere (Puts (schema_object_of job attrs ∷ []) 0 end)
  schema_came attrs end c follows deed ends = puts_on (schema_object_of job attrs ∷ []) 0 end (schema_object_of job attrs) refl c (λ free same_held changed.
      let same_history = later_deed jobs past seen e (Declared (schema_of_job job attrs)) deed changed in
      let leads = leads_at spelled past jobs seen e m job.id _ _ same_held same_history
      (stands_schema spelled m h (schema_of_job job attrs) free follows
      (subst IsShortCall (put_asked (schema_object_of job attrs ∷ []) 0 end (schema_object_of job attrs) refl c) c.short) c.stands)
      (keeps_put m h (schema_name job) (schema_object attrs) job.id (Declared (schema_of_job job attrs) ∷ []) free (marks_schema m (key_of job)) (inl refl) (λ k own. ap (λ l. l.id) (sym (Contains-only (key_of job) k own)))) in
      (leads, ends leads.leaves (ap (λ g. schema_with g (key_of job)) same_history ∙ declared_last spelled m h (schema_of_job job attrs) free c.stands), inl refl))

  -- of one object only the first is put
  first_only : (o : NewObject) (end : Outcome) → (ComesHere (Puts (o ∷ []) 0 end) → AdvancesHere (Puts (o ∷ []) 0 end))
      → (next : ℕ) → ComesHere (Puts (o ∷ []) next end) → AdvancesHere (Puts (o ∷ []) next end)
  first_only o end first zero c = first c
  first_only o end first (suc next) c = let past_end = (c.claims).some in absurd (omega arith)

  -- a create advances by the put of its schema
  create_puts : (f : FrameIn) → job.command ≡ Create f → create_refusal f ≡ None → frame_in h ≡ Some (frame_made f) → FindsNoArray jobs past seen number f
      → ComesHere (Puts (schema_object_of job f.attrs ∷ []) 0 outcome.Created) → AdvancesHere (Puts (schema_object_of job f.attrs ∷ []) 0 outcome.Created)
  create_puts f creates sound framed new c = schema_came f.attrs outcome.Created c
      (record { frame = frame_made f; framed = framed; new = (c.claims).undone; key = key_fits c.fit; attrs = created_attrs f fit sound; sound = created_sound f fit sound })
      (deed_told_own jobs h seen e number job (put_of (schema_object_of job f.attrs)) c.own c.is_job
      (put_asked (schema_object_of job f.attrs ∷ []) 0 outcome.Created (schema_object_of job f.attrs) refl c)
      ∙ ap (λ x. option_map Declared (declared_by h job (schemas_found (trace_of number seen)) x)) creates)
      (λ keeps declared. record {
        made = f;
        creates = creates;
        sound = sound;
        found_none = no_array_stays past jobs seen e number f new;
        framed = frame_stays m m' h h' job.id keeps (frame_made f) framed;
        declared = declared;
      })
    where
      fit : IsTrue (fits (Create f))
      fit = subst (λ x. IsTrue (fits x)) creates (c.fit).command

  -- the call is no listing
  no_listing : (o : NewObject) → e.call ≡ put_of o → e.job ≡ Some number → e.call ≡ list_schemas → ⊥
  no_listing o is own lists = cc

  -- the schema that a job uses is the one that it works in
  used_is : (there : Schema) → looked_at job ≡ job.at → Works past jobs seen number job there → schema_used h job (schemas_found (trace_of number seen)) ≡ Some there
  used_is there at works =
      ap (schema_used h job) works.is_found
      ∙ ap (option_and_then (schema_with h)) (ap (schema_at works.found) (sym at) ∙ works.at)
      ∙ works.declared

  -- an evolve advances by the put of its schema
  evolve_puts : (change : Evolution) (frame : Frame) (there : Schema) → job.command ≡ Evolve change → frame_in h ≡ Some frame → evolution_fault frame.domain there.attrs change ≡ None
      → Works past jobs seen number job there
      → ComesHere (Puts (schema_object_of job (evolved_attrs there.attrs change) ∷ []) 0 (outcome.Evolved (key_of job)))
      → AdvancesHere (Puts (schema_object_of job (evolved_attrs there.attrs change) ∷ []) 0 (outcome.Evolved (key_of job)))
  evolve_puts change frame there evolves framed sound works c = schema_came (evolved_attrs there.attrs change) (outcome.Evolved (key_of job)) c
      (record {
        frame = frame;
        framed = framed;
        new = (c.claims).undone;
        key = key_fits c.fit;
        attrs = evolved_are_attrs frame.domain there.attrs change facts fit sound;
        sound = evolved_sound frame.domain there.attrs change facts fit sound;
      })
      (deed_told_own jobs h seen e number job (put_of (schema_object_of job (evolved_attrs there.attrs change))) c.own c.is_job is
      ∙ ap (λ x. option_map Declared (declared_by h job (schemas_found (trace_of number seen)) x)) evolves
      ∙ ap (λ s. option_map Declared (option_map (λ t. schema_of_job job (evolved_attrs t.attrs change)) s)) (used_is there looks works))
      (λ keeps declared. (
        refl,
        record {
          change = change;
          evolves = evolves;
          schemas = listed_stays seen e number Schemas works.schemas;
          current = there;
          undone = works.undone;
          holds = ap (current_schema (history_told jobs past (works.schemas).before)) (sym looks) ∙ works.holds;
          frame = frame;
          framed = frame_stays m m' h h' job.id keeps frame framed;
          sound = sound;
          declared = declared;
        },
      ))
    where
      is : e.call ≡ put_of (schema_object_of job (evolved_attrs there.attrs change))
      is = put_asked (schema_object_of job (evolved_attrs there.attrs change) ∷ []) 0 (outcome.Evolved (key_of job)) (schema_object_of job (evolved_attrs there.attrs change)) refl c

      fit : IsTrue (fits (Evolve change))
      fit = subst (λ x. IsTrue (fits x)) evolves (c.fit).command

      facts : AreAttrs there.attrs
      facts = (schema_facts h there.key there (c.stands).history works.declared).0

      looks : looked_at job ≡ job.at
      looks = ap (looks_at job) evolves

  -- ---- the put of a delete

  module _ (text : List ℕ) (frame : Frame) (there : Schema) (condition : Condition)
      (deletes : job.command ≡ Delete text) (framed : frame_in h ≡ Some frame) (says : delete_condition frame there.attrs text ≡ Ok condition) (works : Works past jobs seen number job there) where
    -- what the job erases
    abbrev own_deletion : Deletion
    own_deletion = deletion_as job condition

    -- what it puts
    abbrev own_object : NewObject
    own_object = delete_object_of job condition

    -- how it ends
    abbrev deleted : Outcome
    deleted = outcome.Deleted (frag_of_job job)

    -- a delete looks at its own stamp
    delete_looks : looked_at job ≡ job.at
    delete_looks = ap (looks_at job) deletes

    -- the delete may follow
    deletion_follows : IsFit job → IsHistory h → IsUndone h job → DeletionFollows h own_deletion
    deletion_follows fit is undone =
        let sparse = delete_condition_sparse frame there.attrs text condition says in
        record {
          frame = frame;
          framed = framed;
          sparse = sparse;
          new = undone;
          key = key_fits fit;
          cond = delete_condition_spelled frame there.attrs text condition (frame_facts h frame is framed) (schema_facts h there.key there is works.declared).0
              (schema_sound h there.key there frame is works.declared framed) sparse (subst (λ x. IsTrue (fits x)) deletes fit.command) says;
        }

    -- the deed of the `.del`
    deletion_deed : e.job ≡ Some number → slice_get jobs number ≡ Some job → e.call ≡ put_of own_object → deed_told jobs h seen e ≡ Some (Erased own_deletion)
    deletion_deed own at is =
        deed_told_own jobs h seen e number job (put_of own_object) own at is
        ∙ ap (λ x. option_map Erased (deleted_by h job (schemas_found (trace_of number seen)) x)) deletes
        ∙ ap (λ s. option_map Erased (deleted_in job text s (frame_in h))) (used_is there delete_looks works)
        ∙ ap (λ f. option_map Erased (deleted_in job text (Some there) f)) framed
        ∙ ap (λ r. option_map Erased (option_map (deletion_as job) (condition_of r))) says

    -- the `.del` was put, and the job is over
    deletion_came : (c : ComesHere (Puts (own_object ∷ []) 0 deleted)) → (Holds m (del_of (key_of job)) → ⊥) → m' ≡ map.insert m (del_of (key_of job)) (cond_object condition) → h' ≡ h ++ Erased own_deletion ∷ []
        → Came (own_object ∷ []) 0 deleted own_object
    deletion_came c free same_held same_history = (leads, (refl, erased), inl (refl, sym (ap kind_of deletes)))
      where
        leads : LeadsHere
        leads = leads_at spelled past jobs seen e m job.id (map.insert m (del_of (key_of job)) (cond_object condition)) (h ++ Erased own_deletion ∷ []) same_held same_history
            (stands_delete spelled m h own_deletion free (deletion_follows c.fit (c.stands).history (c.claims).undone)
            (subst IsShortCall (put_asked (own_object ∷ []) 0 deleted own_object refl c) c.short) c.stands)
            (keeps_put m h (del_of (key_of job)) (cond_object condition) job.id (Erased own_deletion ∷ []) free (marks_delete m (key_of job)) (inl refl) (λ k own. ap (λ l. l.id) (sym (Contains-only (key_of job) k own))))

        erased : IsDeleted jobs past (seen ++ e ∷ []) number job
        erased = record {
          text = text;
          deletes = deletes;
          schemas = listed_stays seen e number Schemas works.schemas;
          current = there;
          undone = works.undone;
          holds = ap (current_schema (history_told jobs past (works.schemas).before)) (sym delete_looks) ∙ works.holds;
          frame = frame;
          framed = frame_stays m m' h h' job.id leads.leaves frame framed;
          condition = condition;
          says = says;
          erased = rw (same_history, deletions-append h (Erased own_deletion ∷ [])) (Contains-append_right (deletions h) (own_deletion ∷ []) own_deletion (Contains-here own_deletion []));
        }

    -- a delete advances by the put of its `.del`
    delete_puts : ComesHere (Puts (own_object ∷ []) 0 deleted) → AdvancesHere (Puts (own_object ∷ []) 0 deleted)
    delete_puts c = puts_on (own_object ∷ []) 0 deleted own_object refl c (λ free same_held changed.
        deletion_came c free same_held (later_deed jobs past seen e (Erased own_deletion)
        (deletion_deed c.own c.is_job (put_asked (own_object ∷ []) 0 deleted own_object refl c)) changed))

  -- ---- the puts of a write

  module _ (laws : CodecLaws codec spelled tracks) (w : WriteIn) (frame : Frame) (there : Schema) (cells : List Cell)
      (writes_them : job.command ≡ Write w) (framed : frame_in h ≡ Some frame) (lays : laid frame there.attrs w ≡ Ok cells) (none : map.get m (vac_of (frag_of_job job)) ≡ None) (works : Works past jobs seen number job there) where
    -- the fragment of the write
    abbrev frag : FragKey
    frag = frag_of_job job

    -- what the job writes
    abbrev own_write : Written
    own_write = written_as job there.key cells

    -- the piece of the write
    abbrev own_piece : Piece
    own_piece = piece_of frame own_write

    -- the parts of the piece
    abbrev own_parts : List PartBytes
    own_parts = codec.parts frame there own_piece

    -- what the job puts
    abbrev own_objects : List NewObject
    own_objects = objects_of frag own_parts

    -- how it ends
    abbrev own_end : Outcome
    own_end = outcome.Written frag

    -- no object is put twice
    own_apart : (i k : ℕ) (y z : NewObject) → slice_get own_objects i ≡ Some y → slice_get own_objects k ≡ Some z → y.name ≡ z.name → i ≡ k
    own_apart = objects_apart frag own_parts (laws.once frame there own_piece)

    -- a part was put, and the job goes on with the next object
    part_came : (next : ℕ) (o : NewObject) (x : PartBytes) → slice_get own_objects next ≡ Some o → slice_get own_parts next ≡ Some x → o ≡ part_object frag x
        → (c : ComesHere (Puts own_objects next own_end)) → (Holds m o.name → ⊥) → m' ≡ map.insert m o.name o.bytes → h' ≡ h → IsShort o.bytes → Came own_objects next own_end o
    part_came next o x at is same c free same_held same_history short = (leads, goes_on, fault_is_true spelled opening jobs past (seen ++ e ∷ []) number job o.name undone)
      where
        stands : Stands spelled (map.insert m o.name o.bytes) h
        stands = subst (λ y. (Holds m y.name → ⊥) → IsShort y.bytes → Stands spelled (map.insert m y.name y.bytes) h) (sym same)
            (λ free_part short_part. stands_put spelled m h frag x.part x.bytes free_part short_part c.stands) free short

        keeps : Keeps m (map.insert m o.name o.bytes) h h job.id
        keeps = subst (λ g. Keeps m (map.insert m o.name o.bytes) h g job.id) (append-nil h)
            (keeps_put m h o.name o.bytes job.id [] free (subst (λ (y : NewObject). MarksNone m y.name) (sym same) (marks_part m frag x.part)) (inl (write_carries frag own_parts next o at).0) (λ k at. absurd (Contains-nil k at)))

        leads : LeadsHere
        leads = leads_at spelled past jobs seen e m job.id (map.insert m o.name o.bytes) h same_held same_history stands keeps

        undone : IsUndone h' job
        undone = subst (λ g. IsUndone g job) (sym same_history) (c.claims).undone

        more : suc next < length own_objects
        more = let within = slice_get_within own_parts next x is in omega (arith, object_count frag own_parts)

        got_later : (n : Name) → (n ≡ o.name → ⊥) → map.get m n ≡ None → map.get m' n ≡ None
        got_later n other none = ap (λ y. map.get y n) same_held ∙ get_apart m o.name o.bytes n other ∙ none

        put_now : (y : NewObject) → o ≡ y → map.get m' y.name ≡ Some y.bytes
        put_now y own = subst (λ z. map.get m' z.name ≡ Some z.bytes) own (ap (λ z. map.get z o.name) same_held ∙ get_put m o.name o.bytes)

        same_object : (i : ℕ) (y : NewObject) → i ≡ next → slice_get own_objects i ≡ Some y → o ≡ y
        same_object i y here found = same_Some o y (sym at ∙ ap (slice_get own_objects) (sym here) ∙ found)

        no_part : vac_of frag ≡ name.Part frag x.part → ⊥
        no_part one = cc

        no_commit : (f : FragKey) → wrt_of f ≡ name.Part frag x.part → ⊥
        no_commit f one = cc

        putting_on : Putting codec spelled opening past jobs (seen ++ e ∷ []) m' number job own_objects (suc next) own_end
        putting_on = record {
          held = λ i y before found. let within : i ≤ next = omega arith in elim (eq-or-lt_of_le within) [
            | inl here ↦ put_now y (same_object i y here found)
            | inr earlier ↦ (leads.leaves).keeps y.name y.bytes (write_carries frag own_parts i y found).1 ((c.claims).held i y earlier found)
          ];
          short = λ i y before found. let within : i ≤ next = omega arith in elim (eq-or-lt_of_le within) [
            | inl here ↦ subst (λ z. IsShort z.bytes) (same_object i y here found) short
            | inr earlier ↦ (c.claims).short i y earlier found
          ];
          free = λ i y behind found. got_later y.name (λ one. let here = own_apart i next y o found at one in omega arith) ((c.claims).free i y (omega arith) found);
          some = more;
          undone = undone;
          unspent = unspent_on opening past seen e job.id (put_commits e job.id o.name o.bytes (put_asked own_objects next own_end o at c) (λ f one. no_commit f (one ∙ ap (λ (y : NewObject). y.name) same))) (c.claims).unspent;
          aims = (
            w,
            frame,
            there,
            cells,
            writes_them,
            refl,
            refl,
            got_later (vac_of frag) (λ one. no_part (one ∙ ap (λ (y : NewObject). y.name) same)) none,
            ap frame_in same_history ∙ framed,
            lays,
            works_stays spelled opening past jobs seen e m m' job.id leads.leaves number job there (no_listing o (put_asked own_objects next own_end o at c)) works,
          );
        }

        goes_on : ClaimsLater (putting own_objects (suc next) own_end)
        goes_on = subst (λ b. ClaimsLater (cond b (Puts own_objects (suc next) own_end) (Over own_end))) (sym (lt-ltb (suc next) (length own_objects) more)) putting_on

    -- the frame that the write is in is one that a history has
    own_frame_is : IsHistory h → IsFrame frame
    own_frame_is is = frame_facts h frame is framed

    -- the schema that the write is in is one that a history has
    own_schema_is : IsHistory h → AreAttrs there.attrs × IsKey there.key
    own_schema_is is = schema_facts h there.key there is works.declared

    -- the piece is one that a write makes
    own_ordinary : IsFit job → IsHistory h → IsOrdinary frame there.attrs own_piece
    own_ordinary fit is = written_ordinary frame there.attrs (key_of job) there.key w cells (own_frame_is is) (own_schema_is is).0 (key_fits fit) (own_schema_is is).1
        (subst (λ x. IsTrue (fits x)) writes_them fit.command) lays

    -- and no smaller box has its cells
    own_close : IsFit job → IsHistory h → IsClose own_piece
    own_close fit is = written_close frame there.attrs (key_of job) there.key w cells (own_frame_is is) (subst (λ x. IsTrue (fits x)) writes_them fit.command) lays

    -- the piece holds what the job writes
    own_holds : IsFit job → IsHistory h → HoldsWrite own_write own_piece
    own_holds fit is = written_held frame there.attrs (key_of job) there.key w cells (own_frame_is is) (own_schema_is is).0 (key_fits fit) (own_schema_is is).1
        (subst (λ x. IsTrue (fits x)) writes_them fit.command) lays

    -- into a dense array it has the cells between its corners
    own_box : IsFit job → IsHistory h → own_piece.head.dense ≡ true → (c : List ℤ) → has_cell c own_write ≡ is_in_box (box_in own_piece.head) c
    own_box fit is = piece_box frame own_write (laid_follows frame there.attrs w cells (subst (λ x. IsTrue (fits x)) writes_them fit.command) (own_frame_is is) lays).boxed

    -- a write looks at its own stamp
    looks : looked_at job ≡ job.at
    looks = ap (looks_at job) writes_them

    -- the write may follow
    own_follows : IsFit job → IsHistory h → IsUndone h job → WriteFollows h own_write
    own_follows fit is undone =
        let follows = laid_follows frame there.attrs w cells (subst (λ x. IsTrue (fits x)) writes_them fit.command) (own_frame_is is) lays in
        record {
          frame = frame;
          framed = framed;
          new = undone;
          key = key_fits fit;
          schema = there;
          declared = works.declared;
          in_time = ap (nat_le (there.key).t) (sym looks) ∙ (current_schema-is (history_told jobs past (works.schemas).before) (looked_at job) there works.holds).1;
          some_cell = follows.some_cell;
          few = let few = follows.few in omega (arith, few);
          apart = follows.apart;
          fit = follows.fit;
          boxed = λ dense. let box = follows.boxed dense in (box.sub, box.each);
        }

    -- the parts of the write spell its piece, once all are put
    own_spells : (c : ComesHere (Puts own_objects (length own_parts) own_end)) → Spells spelled m frame there frag own_piece
    own_spells c = record {
      look = look_in own_parts;
      spells = laws.parts frame there own_piece (laws.ordinary frame there.attrs own_piece tt (own_ordinary c.fit (c.stands).history) (own_close c.fit (c.stands).history)) (λ k d within. short_at k (slice_index_or own_parts k d) (slice_get-get_or own_parts k d within));
      held = λ p bytes found.
          let at = look_finds own_parts p bytes found in
          (c.claims).held at.0 (part_object frag (record { part = p; bytes = bytes }))
          (slice_get_within own_parts at.0 (record { part = p; bytes = bytes }) at.1) (part_here frag own_parts at.0 (record { part = p; bytes = bytes }) at.1);
      short = λ p bytes found. let at = look_finds own_parts p bytes found in short_at at.0 (record { part = p; bytes = bytes }) at.1;
      named = (own_holds c.fit (c.stands).history).named;
    }
      where
        short_at : (i : ℕ) (x : PartBytes) → slice_get own_parts i ≡ Some x → IsShort x.bytes
        short_at i x at = (c.claims).short i (part_object frag x) (slice_get_within own_parts i x at) (part_here frag own_parts i x at)

    -- the deed of the `.wrt`
    own_deed : e.job ≡ Some number → slice_get jobs number ≡ Some job → e.call ≡ call.Put (wrt_of frag) [] → deed_told jobs h seen e ≡ Some (Wrote own_write)
    own_deed own at is =
        deed_told_own jobs h seen e number job (call.Put (wrt_of frag) []) own at is
        ∙ ap (λ x. option_map Wrote (written_by h job (schemas_found (trace_of number seen)) x)) writes_them
        ∙ ap (λ s. option_map Wrote (written_in job w s (frame_in h))) (used_is there looks works)
        ∙ ap (λ f. option_map Wrote (written_in job w (Some there) f)) framed
        ∙ ap (λ r. option_map Wrote (option_map (written_as job there.key) (cells_of r))) lays

    -- its fragment has no `.vac`, and that of no committed fragment names it
    own_bare : ComesHere (Puts own_objects (length own_parts) own_end) → IsBare m frag
    own_bare c = record { none = none; unnamed = λ named. (c.claims).unspent ((c.spent).named frag named) }

    -- the `.wrt` was put, and the job is over
    commit_came : (c : ComesHere (Puts own_objects (length own_parts) own_end)) → (Holds m (wrt_of frag) → ⊥) → m' ≡ map.insert m (wrt_of frag) [] → h' ≡ h ++ Wrote own_write ∷ []
        → Came own_objects (length own_parts) own_end (record { name = wrt_of frag; bytes = [] })
    commit_came c free same_held same_history = (leads, subst (λ b. ClaimsLater (cond b (Puts own_objects (suc (length own_parts)) own_end) (Over own_end))) (sym no_more) (refl, written), inl (refl, sym (ap kind_of writes_them)))
      where
        leads : LeadsHere
        leads = leads_at spelled past jobs seen e m job.id (map.insert m (wrt_of frag) []) (h ++ Wrote own_write ∷ []) same_held same_history
            (stands_commit spelled m h own_write frame there own_piece free (own_bare c) (own_follows c.fit (c.stands).history (c.claims).undone) framed works.declared
            (own_ordinary c.fit (c.stands).history).dense (own_spells c) (own_holds c.fit (c.stands).history) (own_box c.fit (c.stands).history) c.stands)
            (keeps_put m h (wrt_of frag) [] job.id (Wrote own_write ∷ []) free (marks_wrt m frag (own_bare c)) (inl refl) (λ k own. ap (λ l. l.id) (sym (Contains-only (key_of job) k own))))

        no_more : nat_lt (suc (length own_parts)) (length own_objects) ≡ false
        no_more = ap (nat_lt (suc (length own_parts))) (object_count frag own_parts) ∙ le-ltb (suc (length own_parts)) (suc (length own_parts)) (omega arith)

        written : IsWritten jobs past (seen ++ e ∷ []) number job
        written = record {
          cells_in = w;
          writes_them = writes_them;
          schemas = listed_stays seen e number Schemas works.schemas;
          current = there;
          undone = works.undone;
          holds = ap (current_schema (history_told jobs past (works.schemas).before)) (sym looks) ∙ works.holds;
          frame = frame;
          framed = frame_stays m m' h h' job.id leads.leaves frame framed;
          cells = cells;
          lays = lays;
          written = rw (same_history, writes-append h (Wrote own_write ∷ [])) (Contains-append_right (writes h) (own_write ∷ []) own_write (Contains-here own_write []));
        }

    -- a write advances by the put of its `.wrt`
    commit_step : ComesHere (Puts own_objects (length own_parts) own_end) → AdvancesHere (Puts own_objects (length own_parts) own_end)
    commit_step c = puts_on own_objects (length own_parts) own_end (record { name = wrt_of frag; bytes = [] }) last c (λ free same_held changed.
        commit_came c free same_held (later_deed jobs past seen e (Wrote own_write)
        (own_deed c.own c.is_job (put_asked own_objects (length own_parts) own_end (record { name = wrt_of frag; bytes = [] }) last c)) changed))
      where
        last : slice_get own_objects (length own_parts) ≡ Some (record { name = wrt_of frag; bytes = [] })
        last = ap (slice_get own_objects) (sym (part_count frag own_parts)) ∙ last_at (part_objects frag own_parts) (record { name = wrt_of frag; bytes = [] })

    -- a write advances by the put of a part
    part_step : (next : ℕ) (o : NewObject) (x : PartBytes) → slice_get own_objects next ≡ Some o → slice_get own_parts next ≡ Some x → o ≡ part_object frag x
        → ComesHere (Puts own_objects next own_end) → AdvancesHere (Puts own_objects next own_end)
    part_step next o x at is same c = puts_on own_objects next own_end o at c (λ free same_held changed.
        part_came next o x at is same c free same_held
        (later_no_deed jobs past seen e (deed_told_own jobs h seen e number job (put_of o) c.own c.is_job (put_asked own_objects next own_end o at c)
        ∙ ap (λ y. deed_of h job (schemas_found (trace_of number seen)) y.name) same))
        (subst IsShortCall (put_asked own_objects next own_end o at c) c.short))

    -- a write advances by each of its puts
    write_puts : (next : ℕ) → ComesHere (Puts own_objects next own_end) → AdvancesHere (Puts own_objects next own_end)
    write_puts next c = from (slice_get own_objects next) refl
      where
        from : (o : Option NewObject) → slice_get own_objects next ≡ o → AdvancesHere (Puts own_objects next own_end)
        from None none = absurd (none-some e.call (ap (option_map put_of) (sym none) ∙ c.asked))
        from (Some o) at = elim (put_at frag own_parts next o at) [
          | APart x is same ↦ part_step next o x at is same c
          | ACommit is same ↦ subst (λ k. ComesHere (Puts own_objects k own_end) → AdvancesHere (Puts own_objects k own_end)) (sym is) commit_step c
        ]

  -- a job that is no consolidation advances by each of its puts
  pub deed_steps : ((objects : List NewObject) (next : ℕ) (f : FragKey) (count : ℕ) → ComesHere (Puts objects next (outcome.Consolidated f count)) → AdvancesHere (Puts objects next (outcome.Consolidated f count)))
      → (objects : List NewObject) (next : ℕ) (end : Outcome) → CodecLaws codec spelled tracks → ComesHere (Puts objects next end) → AdvancesHere (Puts objects next end)
  deed_steps merges objects next outcome.Created laws c =
      let aims = (c.claims).aims in
      subst (λ os. ComesHere (Puts os next outcome.Created) → AdvancesHere (Puts os next outcome.Created)) (sym aims.2)
      (first_only (schema_object_of job (aims.0).attrs) outcome.Created (create_puts aims.0 aims.1 aims.3 aims.4 aims.5) next) c
  deed_steps merges objects next (outcome.Evolved k) laws c =
      let aims = (c.claims).aims in
      subst (λ l. ComesHere (Puts objects next (outcome.Evolved l)) → AdvancesHere (Puts objects next (outcome.Evolved l))) (sym aims.4)
      (subst (λ os. ComesHere (Puts os next (outcome.Evolved (key_of job))) → AdvancesHere (Puts os next (outcome.Evolved (key_of job)))) (sym aims.5)
      (first_only (schema_object_of job (evolved_attrs (aims.2).attrs aims.0)) (outcome.Evolved (key_of job)) (evolve_puts aims.0 aims.1 aims.2 aims.3 aims.6 aims.7 aims.8) next)) c
  deed_steps merges objects next (outcome.Written f) laws c =
      let aims = (c.claims).aims in
      subst (λ g. ComesHere (Puts objects next (outcome.Written g)) → AdvancesHere (Puts objects next (outcome.Written g))) (sym aims.5)
      (subst (λ os. ComesHere (Puts os next (outcome.Written (frag_of_job job))) → AdvancesHere (Puts os next (outcome.Written (frag_of_job job)))) (sym aims.6)
      (write_puts laws aims.0 aims.1 aims.2 aims.3 aims.4 aims.8 aims.9 (subst (λ g. map.get m (vac_of g) ≡ None) aims.5 aims.7) aims.10 next)) c
  deed_steps merges objects next (outcome.Deleted f) laws c =
      let aims = (c.claims).aims in
      subst (λ g. ComesHere (Puts objects next (outcome.Deleted g)) → AdvancesHere (Puts objects next (outcome.Deleted g))) (sym aims.5)
      (subst (λ os. ComesHere (Puts os next (outcome.Deleted (frag_of_job job))) → AdvancesHere (Puts os next (outcome.Deleted (frag_of_job job)))) (sym aims.6)
      (first_only (delete_object_of job aims.3) (outcome.Deleted (frag_of_job job)) (delete_puts aims.0 aims.1 aims.2 aims.3 aims.4 aims.7 aims.8 aims.9) next)) c
  deed_steps merges objects next (outcome.Consolidated f count) laws c = merges objects next f count c
  deed_steps merges objects next _ laws c = absurd (c.claims).aims

-- ---- what an evolve, a write and a delete come to, once they have the frame

module _ {F : Type 0} (codec : Codec F) (spelled : Spelled) (tracks : Tracking F) (opening : Held) (past : History) (jobs : List Job) (seen : List Told) (m : Held) (number : ℕ) (job : Job) where
  -- an evolve puts its schema, or it is refused for it
  pub works_evolve : (change : Evolution) (listed : Listed) (frame : Frame) (there : Schema) → CodecLaws codec spelled tracks → IsFit job → AreApart jobs
      → Clean opening past jobs seen m job
      → Works past jobs seen number job there → frame_in (history_told jobs past seen) ≡ Some frame → IsHistory (history_told jobs past seen) → job.command ≡ Evolve change
      → Claims codec spelled tracks opening past jobs seen m number job (comes_to codec job job.command listed frame there)
  works_evolve change listed frame there laws fit apart clean at framed is evolves =
      subst (λ c. Claims codec spelled tracks opening past jobs seen m number job (comes_to codec job c listed frame there)) (sym evolves) (from (evolution_fault frame.domain there.attrs change) refl)
    where
      from : (o : Option SchemaFault) → evolution_fault frame.domain there.attrs change ≡ o
          → Claims codec spelled tracks opening past jobs seen m number job
          (unless_refused (puts_schema job (evolved_attrs there.attrs change) (outcome.Evolved (key_of job))) (option_map refusal.SchemaBad o))
      from None sound =
          begins_putting codec spelled opening past jobs seen m number job (schema_object_of job (evolved_attrs there.attrs change) ∷ []) (outcome.Evolved (key_of job)) clean
          (schema_carries job (evolved_attrs there.attrs change)) (omega arith)
          (change, frame, there, evolves, refl, refl, framed, sound, at)
      from (Some fault) sound = clean.undone

  -- a write puts its parts, or it is refused for its columns
  pub works_write : (w : WriteIn) (listed : Listed) (frame : Frame) (there : Schema) → CodecLaws codec spelled tracks → IsFit job → AreApart jobs → Clean opening past jobs seen m job
      → Works past jobs seen number job there → frame_in (history_told jobs past seen) ≡ Some frame → IsHistory (history_told jobs past seen) → job.command ≡ Write w
      → Claims codec spelled tracks opening past jobs seen m number job (comes_to codec job job.command listed frame there)
  works_write w listed frame there laws fit apart clean at framed is writes_them =
      subst (λ c. Claims codec spelled tracks opening past jobs seen m number job (comes_to codec job c listed frame there)) (sym writes_them)
      (from (laid frame there.attrs w) refl (laid_fails frame there.attrs w))
    where
      from : (laying : Result (List Cell) Refusal) → laid frame there.attrs w ≡ laying → FailsByColumns laying
          → Claims codec spelled tracks opening past jobs seen m number job (puts_cells codec job frame there laying)
      from (Ok cells) lays fails =
          let parts = codec.parts frame there (piece_of frame (written_as job there.key cells)) in
          let some : 0 < length (objects_of (frag_of_job job) parts) = omega (arith, object_count (frag_of_job job) parts) in
          subst (λ b. Claims codec spelled tracks opening past jobs seen m number job
          (cond b (Puts (write_objects codec frame there job cells) 0 (outcome.Written (frag_of_job job))) (Over (outcome.Written (frag_of_job job)))))
          (sym (lt-ltb 0 (length (objects_of (frag_of_job job) parts)) some))
          (begins_putting codec spelled opening past jobs seen m number job (write_objects codec frame there job cells) (outcome.Written (frag_of_job job)) clean (write_carries (frag_of_job job) parts) some
          (w, frame, there, cells, writes_them, refl, refl, clean.free (vac_of (frag_of_job job)) refl (apart_from_lease job (vac_of (frag_of_job job)) tt), framed, lays, at))
      from (Err r) lays fails = columns_true spelled opening jobs past seen number job r fails clean.undone

  -- a delete puts its condition, or it is refused
  pub works_delete : (text : List ℕ) (listed : Listed) (frame : Frame) (there : Schema) → CodecLaws codec spelled tracks → IsFit job → AreApart jobs → Clean opening past jobs seen m job
      → Works past jobs seen number job there → frame_in (history_told jobs past seen) ≡ Some frame → IsHistory (history_told jobs past seen) → job.command ≡ Delete text
      → Claims codec spelled tracks opening past jobs seen m number job (comes_to codec job job.command listed frame there)
  works_delete text listed frame there laws fit apart clean at framed is deletes =
      subst (λ c. Claims codec spelled tracks opening past jobs seen m number job (comes_to codec job c listed frame there)) (sym deletes)
      (from (delete_condition frame there.attrs text) refl (delete_condition_fails frame there.attrs text))
    where
      from : (found : Result Condition Refusal) → delete_condition frame there.attrs text ≡ found → FailsByQuery found → Claims codec spelled tracks opening past jobs seen m number job (puts_delete job found)
      from (Ok condition) says fails =
          begins_putting codec spelled opening past jobs seen m number job (delete_object_of job condition ∷ []) (outcome.Deleted (frag_of_job job)) clean (delete_carries job condition) (omega arith)
          (text, frame, there, condition, deletes, refl, refl, framed, says, at)
      from (Err r) says fails = query_true spelled opening jobs past seen number job r fails clean.undone
