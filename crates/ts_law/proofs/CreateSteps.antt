-- The calls of a create before it puts its schema.
use Rattle.std.proofs.Common.{Bool, List, None, Option, Some, [], ap, arith, cond, false, inl, inr, length, nat_eq, not, refl, subst, suc, sym, true, ℕ, ◌++◌, ◌-◌, ◌^◌, ◌∙◌, ◌∷◌, ◌≡◌}
use Rattle.std.proofs.lemmas.List.{append-nil, take_all}
use Rattle.std.proofs.lemmas.Option.{none-some, same_Some}
use Rattle.std.proofs.lemmas.Slice.Eq.{bytes_eq-Decides}
use Rattle.std.specs.List.{list_any}
use Rattle.std.specs.Prelude.{IsTrue, option_map, slice_get}
use Rattle.ts_base.specs.Held.{Held}
use Rattle.ts_base.specs.Keys.{key_eq}
use Rattle.ts_schema.specs.FrameTexts.{IsFrame, frame_object}
use Rattle.ts_schema.specs.Parts.{IsShort}
use Rattle.ts_schema.specs.declared.frames.Frame.{Frame}
use Rattle.ts_store.specs.Calls.{is_no_memory, part_of}
use Rattle.ts_store.specs.declared.call.Reply.{Reply}
use Rattle.ts_model.specs.Commands.{create_refusal, fits, frame_made}
use Rattle.ts_model.specs.Deeds.{History, frame_in, keys, schemas}
use Rattle.ts_law.specs.Ends.{FindsNoArray, IsUndone}
use Rattle.ts_base.specs.declared.names.Name.{Name}
use Rattle.ts_base.specs.declared.names.Prefix.TheVariants.{Schemas}
use Rattle.std.proofs.lemmas.Bool.{ne_eqb}
use Rattle.ts_model.specs.Codecs.{Codec, CodecLaws, Spelled, Tracking}
use Rattle.ts_law.specs.Fresh.{id_in}
use Rattle.ts_model.specs.Jobs.{key_of}
use Rattle.ts_law.specs.Kept.{Claims, Clean}
use Rattle.ts_model.specs.States.{ended, frame_put, get_frame, goes, is_own_frame, list_schemas, made_by, puts_first, refuse, schema_object_of, with_item}
use Rattle.ts_law.specs.Steps.{Advances, Comes}
use Rattle.ts_model.specs.Told.{IsShortCall, Told, after_told, deed_told, history_told}
use Rattle.ts_model.specs.declared.commands.Command.TheVariants.{Create}
use Rattle.ts_model.specs.declared.commands.FrameIn.{FrameIn}
use Rattle.ts_model.specs.declared.commands.Job.{Job}
use Rattle.ts_model.specs.declared.deeds.Deed.TheVariants.{Framed}
use Rattle.ts_model.specs.declared.states.State.{State}
use Rattle.ts_model.specs.declared.states.State.TheVariants.{Creates, Puts, Over}
use Rattle.ts_model.specs.declared.states.Creating.TheVariants.{PutsFrame, ComparesFrame, ListsDeclared}
use Rattle.ts_law.proofs.Declaring.{created_frame, frame_one}
use Rattle.ts_law.proofs.Effects.{Added, IsLook, Still, got, listed, look_stays, put_went, still_leads}
use Rattle.ts_law.proofs.HeldLemmas.{Holds, get_apart}
use Rattle.ts_model.proofs.HistoryLaws.{frame_facts, keys-append}
use Rattle.ts_model.proofs.ListLemmas.{Contains-nil}
use Rattle.ts_law.proofs.Objects.{begins_putting, schema_carries}
use Rattle.ts_law.proofs.StandsLaws.{first_deed, frame_held, keeps_put, leads_at, marks_domain, stands_frame}
use Rattle.ts_law.proofs.Spent.{put_commits, unspent_on}
use Rattle.ts_base.specs.declared.keys.FragKey.{FragKey}
use Rattle.ts_base.specs.Names.{wrt_of}
use Rattle.ts_law.proofs.ListSteps.{none_from_listed}
use Rattle.ts_law.proofs.Stays.{clean_look, listed_now, made_now}
use Rattle.ts_model.proofs.Traces.{deed_told_own, later_deed, later_unchanged}
use Rattle.std.specs.FinMap as map
use Rattle.ts_base.specs.declared.names.Name.TheVariants as name
use Rattle.ts_model.specs.declared.answers.Outcome.TheVariants as outcome
use Rattle.ts_model.specs.declared.answers.Refusal.TheVariants as refusal
use Rattle.ts_store.specs.declared.call.Call.TheVariants as call
use Rattle.ts_store.specs.declared.call.Reply.TheVariants as reply

-- ---- what stays clean

-- a deed without a key leaves a job undone
undone_more : (h g : History) (job : Job) → keys g ≡ [] → IsUndone h job → IsUndone (h ++ g) job
undone_more h g job none undone =
    subst (λ ks. IsTrue (not (list_any (key_eq (key_of job)) ks))) (sym (keys-append h g ∙ ap (λ ks. keys h ++ ks) none ∙ append-nil (keys h))) undone

-- a `.wrt` is no frame
no_frame : (f : FragKey) → wrt_of f ≡ name.Domain → ⊥
no_frame f e = cc

-- the frame carries no identifier
clean_after_frame : (opening : Held) (past : History) (jobs : List Job) (seen : List Told) (e : Told) (m m' : Held) (frame : Frame) (bytes : List ℕ) (job : Job) → e.call ≡ call.Put name.Domain bytes → m' ≡ map.insert m name.Domain bytes
    → history_told jobs past (seen ++ e ∷ []) ≡ history_told jobs past seen ++ Framed frame ∷ [] → Clean opening past jobs seen m job → Clean opening past jobs (seen ++ e ∷ []) m' job
clean_after_frame opening past jobs seen e m m' frame bytes job is same_held same_history clean = record {
  free = λ n carries apart. ap (λ x. map.get x n) same_held ∙ get_apart m name.Domain bytes n (λ same. none-some job.id (ap id_in (sym same) ∙ carries)) ∙ clean.free n carries apart;
  undone = subst (λ g. IsUndone g job) (sym same_history) (undone_more (history_told jobs past seen) (Framed frame ∷ []) job refl clean.undone);
  unspent = unspent_on opening past seen e job.id (put_commits e job.id name.Domain bytes is no_frame) clean.unspent;
}

-- all of a short object is got
got_whole : (whole : List ℕ) → IsShort whole → part_of 0 (2 ^ 64 - 1) whole ≡ whole
got_whole whole short = take_all (2 ^ 64 - 1) whole (omega arith)

-- ---- one call

module _ {F : Type 0} (codec : Codec F) (spelled : Spelled) (tracks : Tracking F) (opening : Held) (past : History) (jobs : List Job) (seen : List Told) (e : Told) (m : Held) (number : ℕ) (job : Job) where
  -- the history before the call
  abbrev h : History
  h = history_told jobs past seen

  -- the history after the call
  abbrev h' : History
  h' = history_told jobs past (seen ++ e ∷ [])

  -- what is held after the call
  abbrev m' : Held
  m' = after_told m e

  -- what a state of the job claims after the call
  abbrev ClaimsLater : State F → Type 0
  ClaimsLater s = Claims codec spelled tracks opening past jobs (seen ++ e ∷ []) m' number job s

  -- the call comes to the job in a state
  abbrev ComesHere : State F → Type 0
  ComesHere s = Comes codec spelled tracks opening past jobs seen e m number job s

  -- the call advances the job from a state
  abbrev AdvancesHere : State F → Type 0
  AdvancesHere s = Advances codec spelled tracks opening past jobs seen e m number job s

  -- ---- a create: the frame

  -- what holds of the frame that a create makes holds of what its command makes
  at_made : (f : FrameIn) → job.command ≡ Create f → (P : Option FrameIn → Type 0) → P (Some f) → P (made_by job.command)
  at_made f creates P p = subst P (sym (ap made_by creates)) p

  -- where the reply to the put of the frame leads
  frame_leads : (f : FrameIn) → job.command ≡ Create f → (r : Reply) → (r ≡ reply.Made → ClaimsLater (Puts (schema_object_of job f.attrs ∷ []) 0 outcome.Created))
      → (r ≡ reply.Taken → ClaimsLater (Creates ComparesFrame))
      → IsUndone h' job → ClaimsLater (goes codec job (Creates PutsFrame) r)
  frame_leads f creates reply.Made made taken undone = at_made f creates (λ o. ClaimsLater (with_item (λ g. puts_first job o) o)) (made refl)
  frame_leads f creates reply.Taken made taken undone = at_made f creates (λ o. ClaimsLater (with_item (λ g. (Creates ComparesFrame)) o)) (taken refl)
  frame_leads f creates reply.Failed made taken undone = at_made f creates (λ o. ClaimsLater (with_item (λ g. ended (frame_put g) reply.Failed) o)) undone
  frame_leads f creates _ made taken undone = at_made f creates (λ o. ClaimsLater (with_item (λ g. Over outcome.OutOfMemory) o)) tt

  -- the put that a create makes first
  frame_asked : (f : FrameIn) → job.command ≡ Create f → option_map frame_put (made_by job.command) ≡ Some e.call → e.call ≡ frame_put f
  frame_asked f creates asked = sym (same_Some (frame_put f) e.call (ap (λ c. option_map frame_put (made_by c)) (sym creates) ∙ asked))

  -- the deed of the frame
  frame_deed : (f : FrameIn) → job.command ≡ Create f → e.job ≡ Some number → slice_get jobs number ≡ Some job → e.call ≡ frame_put f → deed_told jobs h seen e ≡ Some (Framed (frame_made f))
  frame_deed f creates own at is =
      deed_told_own jobs h seen e number job (frame_put f) own at is ∙ ap (λ c. option_map (λ g. Framed (frame_made g)) (made_by c)) creates

  -- a create that is to put its first schema, once its frame is there
  puts_first_claims : (f : FrameIn) → job.command ≡ Create f → create_refusal f ≡ None → Clean opening past jobs (seen ++ e ∷ []) m' job → frame_in h' ≡ Some (frame_made f)
      → FindsNoArray jobs past (seen ++ e ∷ []) number f
      → ClaimsLater (Puts (schema_object_of job f.attrs ∷ []) 0 outcome.Created)
  puts_first_claims f creates sound clean framed new =
      begins_putting codec spelled opening past jobs (seen ++ e ∷ []) m' number job (schema_object_of job f.attrs ∷ []) outcome.Created clean
      (schema_carries job f.attrs) (omega arith) (f, creates, refl, sound, framed, new)

  -- the put of the frame advances a create
  frame_step : (f : FrameIn) → job.command ≡ Create f → create_refusal f ≡ None → Clean opening past jobs seen m job → ComesHere (Creates PutsFrame) → AdvancesHere (Creates PutsFrame)
  frame_step f creates sound clean c = elim (put_went m name.Domain (frame_object (frame_made f)) e is c.replied) [
    | Added free same_held changed said ↦
        let same_history = later_deed jobs past seen e (Framed (frame_made f)) (frame_deed f creates c.own c.is_job is) changed in
        let clean_later = clean_after_frame opening past jobs seen e m m' (frame_made f) (frame_object (frame_made f)) job is same_held same_history clean in
        record {
          leads = leads_at spelled past jobs seen e m job.id _ _ same_held same_history
              (stands_frame spelled m h (frame_made f) free (created_frame f fit sound) (subst IsShortCall is c.short) c.stands)
              (keeps_put m h name.Domain (frame_object (frame_made f)) job.id (Framed (frame_made f) ∷ []) free (marks_domain m) (inr refl) (λ k none. absurd (Contains-nil k none)));
          own = frame_leads f creates e.reply
              (λ is_made. puts_first_claims f creates sound clean_later (ap frame_in (same_history ∙ ap (λ g. g ++ Framed (frame_made f) ∷ []) (first_deed spelled m h free c.stands)))
              (inl (made_now seen e number (frame_put f) c.own is (ap is_no_memory is_made), is_made, first_deed spelled m h free c.stands)))
              (λ taken. absurd (elim said [ inl made ↦ cc | inr failed ↦ cc ]))
              clean_later.undone;
        }
    | Still same_held still not_made taken ↦
        let same_history = later_unchanged jobs past seen e still in
        let clean_later = clean_look opening past jobs seen e m m' job same_held still clean in
        record {
          leads = still_leads spelled past jobs seen e m job.id c.stands same_held same_history;
          own = frame_leads f creates e.reply (λ made. absurd (not_made made))
              (λ was. (clean_later, (f, creates, sound), framed_later same_history (taken was)))
              clean_later.undone;
        }
  ]
    where
      is : e.call ≡ frame_put f
      is = frame_asked f creates c.asked

      fit : IsTrue (fits (Create f))
      fit = subst (λ x. IsTrue (fits x)) creates (c.fit).command

      framed_later : h' ≡ h → Holds m name.Domain → (frame : Frame) × (frame_in h' ≡ Some frame)
      framed_later same_history held = let there = frame_held spelled m h c.stands held in (there.0, ap frame_in same_history ∙ there.1)

  -- a create advances by the put of its frame
  pub frame_steps : CodecLaws codec spelled tracks → ComesHere (Creates PutsFrame) → AdvancesHere (Creates PutsFrame)
  frame_steps laws c = frame_step (c.claims).1.0 (c.claims).1.1 (c.claims).1.2 (c.claims).0 c

  -- ---- a create: the frame that is there

  -- where the reply to the get of the frame leads
  compare_leads : (f : FrameIn) → job.command ≡ Create f → (r : Reply) → ((bytes : List ℕ) → r ≡ reply.Bytes bytes → is_own_frame (Some f) bytes ≡ true → ClaimsLater (Creates ListsDeclared))
      → (r ≡ reply.Absent → ⊥)
      → IsUndone h' job → ClaimsLater (goes codec job (Creates ComparesFrame) r)
  compare_leads f creates (reply.Bytes bytes) found absent undone =
      at_made f creates (λ o. ClaimsLater (cond (is_own_frame o bytes) (Creates ListsDeclared) (refuse refusal.ArrayExists))) (from (is_own_frame (Some f) bytes) refl)
    where
      from : (b : Bool) → is_own_frame (Some f) bytes ≡ b → ClaimsLater (cond b (Creates ListsDeclared) (refuse refusal.ArrayExists))
      from true own = found bytes refl own
      from false other = undone
  compare_leads f creates reply.Absent found absent undone = absurd (absent refl)
  compare_leads f creates reply.Failed found absent undone = undone
  compare_leads f creates _ found absent undone = tt

  -- the frame that a create finds is its own, where its object is
  own_frame : (f : FrameIn) (frame : Frame) (bytes : List ℕ) → IsTrue (fits (Create f)) → create_refusal f ≡ None → IsFrame frame → IsShort (frame_object frame)
      → bytes ≡ part_of 0 (2 ^ 64 - 1) (frame_object frame) → is_own_frame (Some f) bytes ≡ true → frame ≡ frame_made f
  own_frame f frame bytes fit sound is_frame short told own = frame_one frame (frame_made f) is_frame (created_frame f fit sound)
      (sym (got_whole (frame_object frame) short) ∙ sym told ∙ sym ((bytes_eq-Decides (frame_object (frame_made f)) bytes).0 own))

  -- the get of the frame that is there advances a create
  compare_step : (f : FrameIn) → job.command ≡ Create f → create_refusal f ≡ None → Clean opening past jobs seen m job → (frame : Frame) → frame_in h ≡ Some frame → ComesHere (Creates ComparesFrame) → AdvancesHere (Creates ComparesFrame)
  compare_step f creates sound clean frame framed c = record {
    leads = still_leads spelled past jobs seen e m job.id c.stands looked.0 same_history;
    own = compare_leads f creates e.reply
        (λ bytes said own. (clean_later, (f, creates, sound, ap frame_in same_history ∙ framed ∙ ap Some (same bytes said own))))
        (λ absent. none-some (frame_object frame) (sym ((got m e name.Domain 0 (2 ^ 64 - 1) is c.replied).absent absent) ∙ held))
        clean_later.undone;
  }
    where
      is : e.call ≡ get_frame
      is = sym (same_Some get_frame e.call c.asked)

      looked : (m' ≡ m) × (e.changed ≡ false)
      looked = look_stays m e (subst IsLook (sym is) tt) c.replied

      same_history : h' ≡ h
      same_history = later_unchanged jobs past seen e looked.1

      clean_later : Clean opening past jobs (seen ++ e ∷ []) m' job
      clean_later = clean_look opening past jobs seen e m m' job looked.0 looked.1 clean

      held : map.get m name.Domain ≡ Some (frame_object frame)
      held = (c.stands).frame ∙ ap (option_map frame_object) framed

      same : (bytes : List ℕ) → e.reply ≡ reply.Bytes bytes → is_own_frame (Some f) bytes ≡ true → frame ≡ frame_made f
      same bytes said own =
          let found = (got m e name.Domain 0 (2 ^ 64 - 1) is c.replied).bytes bytes said in
          own_frame f frame bytes (subst (λ x. IsTrue (fits x)) creates (c.fit).command) sound (frame_facts h frame (c.stands).history framed)
          ((c.stands).short_frame (frame_object frame) held)
          (found.2 ∙ ap (part_of 0 (2 ^ 64 - 1)) (same_Some found.0 (frame_object frame) (sym found.1 ∙ held))) own

  -- a create advances by the get of the frame that it found
  pub compare_steps : CodecLaws codec spelled tracks → ComesHere (Creates ComparesFrame) → AdvancesHere (Creates ComparesFrame)
  compare_steps laws c = compare_step (c.claims).1.0 (c.claims).1.1 (c.claims).1.2 (c.claims).0 (c.claims).2.0 (c.claims).2.1 c

  -- ---- a create: the schemas that are there

  -- where the listing of the schemas leads a create
  declared_leads : (f : FrameIn) → job.command ≡ Create f → (r : Reply) → (r ≡ reply.Names [] → ClaimsLater (Puts (schema_object_of job f.attrs ∷ []) 0 outcome.Created)) → IsUndone h' job
      → ClaimsLater (goes codec job (Creates ListsDeclared) r)
  declared_leads f creates (reply.Names names) puts undone =
      at_made f creates (λ o. ClaimsLater (cond (nat_eq (length names) 0) (puts_first job o) (refuse refusal.ArrayExists))) (from names refl)
    where
      from : (ns : List Name) → names ≡ ns → ClaimsLater (cond (nat_eq (length ns) 0) (Puts (schema_object_of job f.attrs ∷ []) 0 outcome.Created) (refuse refusal.ArrayExists))
      from [] none = puts (ap reply.Names none)
      from (n ∷ ns) some =
          subst (λ b. ClaimsLater (cond b (Puts (schema_object_of job f.attrs ∷ []) 0 outcome.Created) (refuse refusal.ArrayExists))) (sym (ne_eqb (suc (length ns)) 0 (λ same. absurd (omega arith)))) undone
  declared_leads f creates reply.Failed puts undone = undone
  declared_leads f creates _ puts undone = tt

  -- the listing of the schemas advances a create
  declared_step : (f : FrameIn) → job.command ≡ Create f → create_refusal f ≡ None → frame_in h ≡ Some (frame_made f) → Clean opening past jobs seen m job → ComesHere (Creates ListsDeclared) → AdvancesHere (Creates ListsDeclared)
  declared_step f creates sound framed clean c = record {
    leads = still_leads spelled past jobs seen e m job.id c.stands looked.0 same_history;
    own = declared_leads f creates e.reply (λ none. puts_first_claims f creates sound clean_later (ap frame_in same_history ∙ framed) (inr (listed_now seen e number Schemas c.own is (ap is_no_memory none), no_schema none))) clean_later.undone;
  }
    where
      is : e.call ≡ list_schemas
      is = sym (same_Some list_schemas e.call c.asked)

      -- nothing was listed, so there is no schema
      no_schema : e.reply ≡ reply.Names [] → schemas h ≡ []
      no_schema none = none_from_listed spelled m h c.stands (sym (listed m e Schemas [] is c.replied none))

      looked : (m' ≡ m) × (e.changed ≡ false)
      looked = look_stays m e (subst IsLook (same_Some list_schemas e.call c.asked) tt) c.replied

      same_history : h' ≡ h
      same_history = later_unchanged jobs past seen e looked.1

      clean_later : Clean opening past jobs (seen ++ e ∷ []) m' job
      clean_later = clean_look opening past jobs seen e m m' job looked.0 looked.1 clean

  -- a create advances by the listing of the schemas
  pub declared_steps : CodecLaws codec spelled tracks → ComesHere (Creates ListsDeclared) → AdvancesHere (Creates ListsDeclared)
  declared_steps laws c = declared_step (c.claims).1.0 (c.claims).1.1 (c.claims).1.2 (c.claims).1.3 (c.claims).0 c
