-- A job that is refused, but for no fault, changed no object but its lease.
use Rattle.std.proofs.Common.{◌≡◌, ℕ, suc, Bool, true, false, cond, ◌⊎◌, inl, inr, List, [], ◌∷◌, ◌++◌, Option, Some, None, length, refl, sym, ◌∙◌, ap, subst, append_assoc}
use Rattle.std.specs.Prelude.{nat_lt, slice_get}
use Rattle.std.specs.FinMap as map
use Rattle.std.proofs.lemmas.Bool.{true≢false}
use Rattle.std.proofs.lemmas.Option.{none-some, same_Some}
use Rattle.ts_base.specs.declared.names.Name.{Name}
use Rattle.ts_base.specs.declared.names.Name.TheVariants as name
use Rattle.ts_base.specs.Held.{Held}
use Rattle.ts_schema.specs.FrameTexts.{frame_object}
use Rattle.ts_store.specs.declared.call.Call.{Call}
use Rattle.ts_store.specs.declared.call.Call.TheVariants as call
use Rattle.ts_store.specs.declared.call.Reply.{Reply}
use Rattle.ts_store.specs.declared.call.Reply.TheVariants as reply
use Rattle.ts_model.specs.declared.answers.Outcome.{Outcome}
use Rattle.ts_model.specs.declared.answers.Outcome.TheVariants as outcome
use Rattle.ts_model.specs.declared.answers.Refusal.{Refusal}
use Rattle.ts_model.specs.declared.answers.Refusal.TheVariants as refusal
use Rattle.ts_model.specs.declared.commands.Command.{Command}
use Rattle.ts_model.specs.declared.commands.FrameIn.{FrameIn}
use Rattle.ts_model.specs.declared.commands.Job.{Job}
use Rattle.ts_model.specs.declared.states.Collecting.TheVariants.{GetsVacs, GetsHeads, GetsSchemas, GetsDeletes, Fetches}
use Rattle.ts_model.specs.declared.states.Creating.TheVariants.{PutsFrame, ComparesFrame, ListsDeclared}
use Rattle.ts_model.specs.declared.states.Merging.TheVariants as merging
use Rattle.ts_model.specs.declared.states.NewObject.{NewObject}
use Rattle.ts_model.specs.declared.states.Seeking.TheVariants.{ListsCommits, ListsSchemas, GetsSchema, GetsFrame}
use Rattle.ts_model.specs.declared.states.Stage.{Stage}
use Rattle.ts_model.specs.declared.states.Stage.TheVariants.{ListsLeases, PutsLease, Releases}
use Rattle.ts_model.specs.declared.states.Stage.TheVariants as stages
use Rattle.ts_model.specs.declared.states.State.{State}
use Rattle.ts_model.specs.declared.states.State.TheVariants.{Creates, Seeks, Puts, Collects, Merges, Lists, Sweeps, Removes, Over}
use Rattle.ts_model.specs.declared.states.Sweeping.TheVariants as sweeping
use Rattle.ts_model.specs.Codecs.{Codec, CodecLaws, Spelled, Tracking}
use Rattle.ts_model.specs.Commands.{frame_made}
use Rattle.ts_model.specs.Deeds.{History}
use Rattle.ts_model.specs.Driven.{EndsBy, MayAsk}
use Rattle.ts_model.specs.Stages.{end_at, goes_on, is_release, lease_of, put_lease, released, settled, stage_from, stage_of}
use Rattle.ts_model.specs.States.{Exchange, after_frame, all_of, asks, frame_put, get_delete, get_head, get_head_in, get_schema, get_vac, goes, list_leases, list_parts, listing_of, made_by, on_made, on_removed, put_of, puts_first, putting, removing, want_of, with_item}
use Rattle.ts_model.specs.Told.{IsReplied, Replied, Told, after_told, held_told, trace_of}
use Rattle.ts_model.proofs.Lacks.{other_goes, release_ends}
use Rattle.ts_model.proofs.Traces.{held_told-append, stage_from-append, stage_of-own, trace_of-append}
use Rattle.ts_law.specs.Kept.{Aims, AreAllowed, Claims, Kept, MakesListing, Removing, StageClaims}
use Rattle.ts_law.specs.Changes.{ChangedNothing}
use Rattle.ts_law.specs.Refusals.{IsNoFault}
use Rattle.ts_law.proofs.CallsLeave.{told_same}
use Rattle.ts_law.proofs.Effects.{Added, IsLook, PutWent, Still, look_stays, put_went}
use Rattle.ts_law.proofs.FetchSteps.{speaks_look}
use Rattle.ts_law.proofs.JournalHistories.{replied_at}
use Rattle.ts_law.proofs.KeptLaws.{asked_by, calling, coming, one_name}
use Rattle.ts_law.proofs.LeaseSteps.{release_is}

-- ---- jobs that may have put or removed objects

-- an end that a job may come to once it put or removed an object: each but a refusal for no fault
abbrev pub acted_end : Outcome → Bool
acted_end (outcome.Refused (refusal.StoreFault p)) = true
acted_end (outcome.Refused (refusal.Taken n)) = true
acted_end (outcome.Refused r) = false
acted_end end = true

-- the job is at its puts or removals, or past them
abbrev pub acted : {F : Type 0} → State F → Bool
acted (Puts objects next end) = acted_end end
acted (Removes names next end) = acted_end end
acted (Over end) = acted_end end
acted s = false

abbrev pub acted_stage : {F : Type 0} → Stage F → Bool
acted_stage (stages.Works s) = acted s
acted_stage (Releases lease end) = acted_end end
acted_stage stage = false

not_acted : (r : Refusal) → IsNoFault r → acted_end (outcome.Refused r) ≡ true → ⊥
not_acted (refusal.StoreFault p) none is = none
not_acted (refusal.Taken n) none is = none
not_acted _ none is = true≢false (sym is)

-- the removal of a lease leaves such an end so
released_acted : (lease : Name) (end : Outcome) (r : Reply) → acted_end end ≡ true → acted_end (released lease end r) ≡ true
released_acted lease (outcome.Refused q) r is = is
released_acted lease outcome.OutOfMemory r is = refl
released_acted lease _ reply.Removed is = refl
released_acted lease _ reply.Failed is = refl
released_acted lease _ _ is = refl

end_acted : {F : Type 0} (stage : Stage F) → acted_stage stage ≡ true → acted_end (end_at stage) ≡ true
end_acted (Releases lease end) is = is
end_acted (stages.Works s) is = refl
end_acted (PutsLease lease) is = refl
end_acted (ListsLeases lease) is = refl

settled_acted : {F : Type 0} (o : Option Name) (s : State F) → acted s ≡ true → acted_stage (settled o s) ≡ true
settled_acted (Some lease) (Over end) is = is
settled_acted (Some lease) _ is = is
settled_acted None (Over end) is = is
settled_acted None _ is = is

either_acted : {F : Type 0} (b : Bool) (x y : State F) → acted x ≡ true → acted y ≡ true → acted (cond b x y) ≡ true
either_acted true x y first second = first
either_acted false x y first second = second

module _ {F : Type 0} (codec : Codec F) (job : Job) where
  -- where a put leads from there is there
  put_acted : (c : NewObject) (on : State F) (r : Reply) → acted on ≡ true → acted (on_made (put_of c) on r) ≡ true
  put_acted c on reply.Made is = is
  put_acted c on reply.Taken is = refl
  put_acted c on reply.Failed is = refl
  put_acted c on _ is = refl

  removal_acted : (n : Name) (on : State F) (r : Reply) → acted on ≡ true → acted (on_removed (call.Remove n) on r) ≡ true
  removal_acted n on reply.Removed is = is
  removal_acted n on reply.Failed is = refl
  removal_acted n on _ is = refl

  item_acted : {A : Type 0} (on : A → State F) → ((x : A) → acted (on x) ≡ true) → (o : Option A) → acted (with_item on o) ≡ true
  item_acted on each None = refl
  item_acted on each (Some x) = each x

  -- a reply leaves the work there
  goes_acted : (s : State F) (r : Reply) → acted s ≡ true → acted (goes codec job s r) ≡ true
  goes_acted (Puts objects next end) r is =
      item_acted (λ o. on_made (put_of o) (putting objects (suc next) end) r)
      (λ o. put_acted o (putting objects (suc next) end) r (either_acted (nat_lt (suc next) (length objects)) (Puts objects (suc next) end) (Over end) is is)) (slice_get objects next)
  goes_acted (Removes names next end) r is =
      item_acted (λ n. on_removed (call.Remove n) (removing names (suc next) end) r)
      (λ n. removal_acted n (removing names (suc next) end) r (either_acted (nat_lt (suc next) (length names)) (Removes names (suc next) end) (Over end) is is)) (slice_get names next)
  goes_acted (Over end) r is = is
  goes_acted _ r is = absurd (true≢false (sym is))

  -- so does any call, whatever the job does with its lease
  work_acted : (s : State F) (x : Exchange) → acted (goes codec job s x.reply) ≡ true → acted_stage (goes_on codec job (stages.Works s) x) ≡ true
  work_acted s x is = by_kind (is_release job x.call) refl
    where
      by_kind : (b : Bool) → is_release job x.call ≡ b → acted_stage (goes_on codec job (stages.Works s) x) ≡ true
      by_kind true releases =
          let (lease, some, removes) = release_is job x.call releases in
          ap acted_stage (release_ends codec job (stages.Works s) x lease some releases) ∙ released_acted lease outcome.OutOfMemory x.reply refl
      by_kind false other = ap acted_stage (other_goes codec job (stages.Works s) x other) ∙ settled_acted (lease_of job) (goes codec job s x.reply) is

  stage_acted : (stage : Stage F) (x : Exchange) → acted_stage stage ≡ true → acted_stage (goes_on codec job stage x) ≡ true
  stage_acted (stages.Works s) x is = work_acted s x (goes_acted s x.reply is)
  stage_acted (PutsLease lease) x is = absurd (true≢false (sym is))
  stage_acted (ListsLeases lease) x is = absurd (true≢false (sym is))
  stage_acted (Releases lease end) x is = by_kind (is_release job x.call) refl
    where
      by_kind : (b : Bool) → is_release job x.call ≡ b → acted_stage (goes_on codec job (Releases lease end) x) ≡ true
      by_kind true releases =
          let (own, some, removes) = release_is job x.call releases in
          ap acted_stage (release_ends codec job (Releases lease end) x own some releases) ∙ released_acted own end x.reply is
      by_kind false other = ap acted_stage (other_goes codec job (Releases lease end) x other) ∙ released_acted lease end x.reply is

  pub acted_from : (stage : Stage F) (xs : List Exchange) → acted_stage stage ≡ true → acted_stage (stage_from codec job stage xs) ≡ true
  acted_from stage [] is = is
  acted_from stage (x ∷ xs) is = acted_from (goes_on codec job stage x) xs (stage_acted stage x is)

-- ---- one call

-- a state whose next call may put or remove an object
abbrev pub is_acting : {F : Type 0} → State F → Bool
is_acting (Creates PutsFrame) = true
is_acting (Puts objects next end) = true
is_acting (Removes names next end) = true
is_acting s = false

-- the one listing of such a job is a look
own_listing_looks : (command : Command) → MakesListing command → IsLook (listing_of command)
own_listing_looks command (inl (seed, lane, is)) = subst (λ c. IsLook (listing_of c)) (sym is) tt
own_listing_looks command (inr is) = subst (λ c. IsLook (listing_of c)) (sym is) tt

module _ {F : Type 0} (codec : Codec F) (spelled : Spelled) (tracks : Tracking F) (laws : CodecLaws codec spelled tracks) (opening : Held) (past : History) (jobs : List Job) (seen : List Told) (m : Held) (number : ℕ) (job : Job) where
  -- in another state the next call is a look
  pub looks_else : (s : State F) (c : Call) → Claims codec spelled tracks opening past jobs seen m number job s → asks codec job s ≡ Some c → is_acting s ≡ false → IsLook c
  looks_else (Creates PutsFrame) c claims asked other = absurd (true≢false other)
  looks_else (Creates ComparesFrame) c claims asked other = subst IsLook (same_Some _ c asked) tt
  looks_else (Creates ListsDeclared) c claims asked other = subst IsLook (same_Some _ c asked) tt
  looks_else (Puts objects next end) c claims asked other = absurd (true≢false other)
  looks_else (Seeks ListsCommits) c claims asked other = subst IsLook (same_Some _ c asked) tt
  looks_else (Seeks (ListsSchemas listing)) c claims asked other = subst IsLook (same_Some _ c asked) tt
  looks_else (Seeks (GetsSchema listing there)) c claims asked other = subst IsLook (same_Some _ c asked) tt
  looks_else (Seeks (GetsFrame listing there)) c claims asked other = subst IsLook (same_Some _ c asked) tt
  looks_else (Collects (GetsVacs r)) c claims asked other = let f = asked_by get_vac (slice_get r.counting (length r.vacs)) c asked in subst IsLook f.2 tt
  looks_else (Collects (GetsHeads r opened)) c claims asked other = let f = asked_by (get_head codec r) (slice_get r.fragments (length opened)) c asked in subst IsLook f.2 tt
  looks_else (Collects (GetsSchemas r opened named schemas)) c claims asked other = let k = asked_by get_schema (slice_get named (length schemas)) c asked in subst IsLook k.2 tt
  looks_else (Collects (GetsDeletes r opened schemas)) c claims asked other = let f = asked_by get_delete (slice_get r.delete_names (length r.deletions)) c asked in subst IsLook f.2 tt
  looks_else (Collects (Fetches r opened schemas next frag got fetch d)) c claims asked other =
      let way = claims.2.1 in
      let held = laws.asks r.frame (way.holds).schema way.piece ((way.holds).spells).look (want_of r ((way.holds).schema).attrs) fetch d way.way in
      subst IsLook (same_Some d c asked) (speaks_look d (name.Part ((way.piece).head).frag held.part) held.named)
  looks_else (Merges merging.ListsCommits) c claims asked other = subst IsLook (same_Some _ c asked) tt
  looks_else (Merges (merging.ListsSchemas candidates)) c claims asked other = subst IsLook (same_Some _ c asked) tt
  looks_else (Merges (merging.GetsFrame candidates)) c claims asked other = subst IsLook (same_Some _ c asked) tt
  looks_else (Merges (merging.GetsVacs s)) c claims asked other = let f = asked_by get_vac (slice_get s.counting (length s.vacs)) c asked in subst IsLook f.2 tt
  looks_else (Merges (merging.GetsHeads s opened)) c claims asked other = let f = asked_by (get_head_in codec s.frame) (slice_get s.fragments (length opened)) c asked in subst IsLook f.2 tt
  looks_else (Merges (merging.GetsSchemas s opened named schemas)) c claims asked other = let k = asked_by get_schema (slice_get named (length schemas)) c asked in subst IsLook k.2 tt
  looks_else (Merges (merging.Fetches s sources schema next frag got fetch d)) c claims asked other =
      let way = claims.2.1 in
      let held = laws.asks s.frame schema way.piece ((way.is.holds).spells).look (all_of s.frame schema.attrs) fetch d way.way in
      subst IsLook (same_Some d c asked) (speaks_look d (name.Part ((way.piece).head).frag held.part) held.named)
  looks_else (Sweeps sweeping.ListsCommits) c claims asked other = subst IsLook (same_Some _ c asked) tt
  looks_else (Sweeps (sweeping.ListsSchemas s)) c claims asked other = subst IsLook (same_Some _ c asked) tt
  looks_else (Sweeps (sweeping.GetsVacs s)) c claims asked other = let f = asked_by get_vac (slice_get s.counting (length s.vacs)) c asked in subst IsLook f.2 tt
  looks_else (Sweeps (sweeping.ListsParts s set listed)) c claims asked other = let f = asked_by list_parts (slice_get set (length listed)) c asked in subst IsLook f.2 tt
  looks_else Lists c claims asked other = subst IsLook (same_Some (listing_of job.command) c asked) (own_listing_looks job.command claims.1)
  looks_else (Removes names next end) c claims asked other = absurd (true≢false other)
  looks_else (Over end) c claims asked other = absurd (none-some c asked)

  -- the last put of a job makes no refusal of it
  aims_acted : (objects : List NewObject) (end : Outcome) → Aims codec spelled opening past jobs seen m number job objects end → acted_end end ≡ true
  aims_acted objects (outcome.Refused r) none = absurd none
  aims_acted objects _ aims = refl

  -- nor does its last removal
  removing_acted : (names : List Name) (next : ℕ) (end : Outcome) → Removing spelled opening past jobs seen m number job names next end → acted_end end ≡ true
  removing_acted names next end (inl unlocking) = ap acted_end unlocking.ends
  removing_acted names next end (inr vacuuming) = ap acted_end vacuuming.ends

  module _ (e : Told) (replied : IsReplied m e) (n : Name) (other : lease_of job ≡ Some n → ⊥) where
    -- what the call is to the job
    abbrev exchange : Exchange
    exchange = record { call = e.call; reply = e.reply }

    -- the object is as it was
    abbrev pub IsSame : Type 0
    IsSame = map.get (after_told m e) n ≡ map.get m n

    -- a call on the lease leaves the object
    pub lease_put : (lease : Name) → lease_of job ≡ Some lease → e.call ≡ put_lease lease → IsSame
    lease_put lease has is = told_same m e n (λ bytes puts. other (has ∙ ap Some (one_name lease n [] bytes (sym is ∙ puts)))) (λ removes. let same : put_lease lease ≡ call.Remove n = sym is ∙ removes in cc)

    pub lease_removed : (lease : Name) → lease_of job ≡ Some lease → e.call ≡ call.Remove lease → IsSame
    lease_removed lease has is =
        told_same m e n (λ bytes puts. let same : call.Remove lease ≡ call.Put n bytes = sym is ∙ puts in cc)
        (λ removes. other (has ∙ ap Some (let same : call.Remove lease ≡ call.Remove n = sym is ∙ removes in cc)))

    pub look_same : IsLook e.call → IsSame
    look_same look = ap (λ x. map.get x n) (look_stays m e look replied).0

    -- the put of a frame made it, or changed nothing
    frame_put_leaves : (f : FrameIn) → made_by job.command ≡ Some f → frame_put f ≡ e.call → IsSame ⊎ (acted_stage (goes_on codec job (stages.Works (Creates PutsFrame)) exchange) ≡ true)
    frame_put_leaves f made is = by_way (put_went m name.Domain (frame_object (frame_made f)) e (sym is) replied)
      where
        made_acted : (r : Reply) → (r ≡ reply.Made) ⊎ (r ≡ reply.Failed) → acted (goes codec job (Creates PutsFrame) r) ≡ true
        made_acted r (inl was) =
            ap (λ q. acted (goes codec job (Creates PutsFrame) q)) was
            ∙ ap (λ o. acted (with_item (λ g. after_frame {F = F} job (frame_put g) reply.Made) o)) made
            ∙ ap (λ o. acted (puts_first {F = F} job o)) made
        made_acted r (inr was) = ap (λ q. acted (goes codec job (Creates PutsFrame) q)) was ∙ ap (λ o. acted (with_item (λ g. after_frame {F = F} job (frame_put g) reply.Failed) o)) made

        by_way : PutWent m name.Domain (frame_object (frame_made f)) (after_told m e) e.changed e.reply → IsSame ⊎ (acted_stage (goes_on codec job (stages.Works (Creates PutsFrame)) exchange) ≡ true)
        by_way (Added free later changed said) = inr (work_acted codec job (Creates PutsFrame) exchange (made_acted e.reply said))
        by_way (Still later changed not_made taken) = inl (ap (λ x. map.get x n) later)

    -- a call at the work leaves the object, or the job is at its puts or removals then
    work_leaves : (s : State F) → Claims codec spelled tracks opening past jobs seen m number job s → asks codec job s ≡ Some e.call → IsSame ⊎ (acted_stage (goes_on codec job (stages.Works s) exchange) ≡ true)
    work_leaves (Creates PutsFrame) claims asked = let (f, made, is) = asked_by frame_put (made_by job.command) e.call asked in frame_put_leaves f made is
    work_leaves (Puts objects next end) claims asked = inr (work_acted codec job (Puts objects next end) exchange (goes_acted codec job (Puts objects next end) e.reply (aims_acted objects end claims.aims)))
    work_leaves (Removes names next end) claims asked = inr (work_acted codec job (Removes names next end) exchange (goes_acted codec job (Removes names next end) e.reply (removing_acted names next end claims)))
    work_leaves s claims asked = inl (look_same (looks_else s e.call claims asked refl))

    -- so does any call
    pub call_leaves : (stage : Stage F) → StageClaims codec spelled tracks opening past jobs seen m number job stage → MayAsk codec job stage e.call → IsSame ⊎ (acted_stage (goes_on codec job stage exchange) ≡ true)
    call_leaves (PutsLease lease) claims (inl asked) = inl (lease_put lease claims.0.0 (sym (same_Some (put_lease lease) e.call asked)))
    call_leaves (ListsLeases lease) claims (inl asked) = inl (look_same (subst IsLook (same_Some list_leases e.call asked) tt))
    call_leaves (stages.Works s) claims (inl asked) = work_leaves s claims asked
    call_leaves (Releases lease end) claims (inl asked) = inl (lease_removed lease claims.0 (sym (same_Some (call.Remove lease) e.call asked)))
    call_leaves stage claims (inr gives_up) = let (lease, some, removes) = release_is job e.call gives_up.0 in inl (lease_removed lease some removes)

-- ---- all calls

-- a job that is refused for no fault changed nothing
pub refused_idle : {F : Type 0} (codec : Codec F) (spelled : Spelled) (tracks : Tracking F) → CodecLaws codec spelled tracks → (opening : Held) (past : History) (jobs : List Job) (last : List ℕ) (told : List Told)
    → Kept codec spelled tracks opening past jobs [] [] opening → AreAllowed codec jobs [] last [] told → Replied opening told
    → (number : ℕ) (job : Job) (r : Refusal) → slice_get jobs number ≡ Some job → EndsBy codec job (trace_of number told) (outcome.Refused r) → IsNoFault r → ChangedNothing opening told number job
refused_idle codec spelled tracks laws opening past jobs last told begins may replied number job r is_job (inr short) none front back e parts own n other = let clash : outcome.Refused r ≡ outcome.OutOfMemory = short.0 in cc
refused_idle codec spelled tracks laws opening past jobs last told begins may replied number job r is_job (inl over) none front back e parts own n other =
    let comes = coming codec spelled tracks laws opening past jobs [] last [] opening told front back e begins may replied parts in
    let calls = calling codec spelled tracks laws opening past jobs front (held_told opening front) e number job comes own is_job in
    let here = replied_at opening front back e (subst (Replied opening) parts replied) in
    elim (call_leaves codec spelled tracks laws opening past jobs front (held_told opening front) number job e here n other (stage_of codec job (trace_of number front)) calls.claims calls.asked) [
      | inl same ↦ ap (λ x. map.get x n) (held_told-append opening front (e ∷ [])) ∙ same
      | inr acts ↦
          absurd (not_acted r none (sym (ap acted_stage over) ∙ ap acted_stage whole ∙ acted_from codec job (stage_of codec job (trace_of number (front ++ e ∷ []))) (trace_of number back) (ap acted_stage (stage_of-own codec job number front e own) ∙ acts)))
    ]
  where
    whole : stage_of codec job (trace_of number told) ≡ stage_from codec job (stage_of codec job (trace_of number (front ++ e ∷ []))) (trace_of number back)
    whole =
        ap (λ t. stage_of codec job (trace_of number t)) (parts ∙ sym (append_assoc front (e ∷ []) back)) ∙ ap (stage_of codec job) (trace_of-append number (front ++ e ∷ []) back)
        ∙ stage_from-append codec job (stage_of codec job []) (trace_of number (front ++ e ∷ [])) (trace_of number back)
