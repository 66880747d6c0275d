-- An unlock, however it comes out, changes no object but the leases that it is to remove; a read and a list of the commits change none but a lease of their own. A command that removes nothing changes no others than it may put.
use Rattle.std.proofs.Common.{◌≡◌, ℕ, Bool, true, false, ◌⊎◌, inl, inr, List, [], ◌∷◌, ◌++◌, Some, refl, sym, ◌∙◌, ap, subst, append_assoc}
use Rattle.std.specs.Prelude.{slice_get, option_map, Contains}
use Rattle.std.specs.FinMap as map
use Rattle.std.proofs.lemmas.Bool.{true≢false}
use Rattle.std.proofs.lemmas.Option.{none-some, same_Some}
use Rattle.ts_base.specs.declared.keys.Key.{Key}
use Rattle.ts_base.specs.declared.names.Name.{Name}
use Rattle.ts_base.specs.declared.names.Name.TheVariants as name
use Rattle.ts_base.specs.declared.names.Prefix.TheVariants.{Leases}
use Rattle.ts_base.specs.Exact.{name_decides}
use Rattle.ts_base.specs.Names.{name_eq}
use Rattle.ts_base.specs.Held.{Held}
use Rattle.ts_store.specs.declared.call.Call.TheVariants as call
use Rattle.ts_model.specs.declared.answers.Outcome.{Outcome}
use Rattle.ts_model.specs.declared.commands.Command.{Command}
use Rattle.ts_model.specs.declared.commands.Command.TheVariants.{Create, Evolve, Write, Read, Delete, Consolidate, Vacuum, Unlock, Fragments}
use Rattle.ts_model.specs.declared.commands.Job.{Job}
use Rattle.ts_model.specs.declared.states.Creating.TheVariants.{PutsFrame}
use Rattle.ts_model.specs.declared.states.Stage.{Stage}
use Rattle.ts_model.specs.declared.states.Stage.TheVariants.{ListsLeases, PutsLease, Releases}
use Rattle.ts_model.specs.declared.states.Stage.TheVariants as stages
use Rattle.ts_model.specs.declared.states.State.{State}
use Rattle.ts_model.specs.declared.states.State.TheVariants.{Creates, Puts, Removes}
use Rattle.ts_model.specs.Codecs.{Codec, CodecLaws, Spelled, Tracking}
use Rattle.ts_model.specs.Deeds.{History}
use Rattle.ts_model.specs.Driven.{MayAsk}
use Rattle.ts_model.specs.Jobs.{key_of}
use Rattle.ts_model.specs.Stages.{lease_of, mode_of, put_lease, stage_of}
use Rattle.ts_model.specs.States.{asks, frame_put, list_leases, made_by, put_of}
use Rattle.ts_model.specs.Commands.{frame_made}
use Rattle.ts_schema.specs.FrameTexts.{frame_object}
use Rattle.ts_model.specs.Told.{IsReplied, Replied, Told, after_told, held_told, trace_of}
use Rattle.ts_model.proofs.ListLemmas.{Contains-slice_get}
use Rattle.ts_model.proofs.Traces.{held_told-append}
use Rattle.ts_law.specs.Changes.{ChangedNothing, IsOwn, IsToUnlock, OnlyLooks, PutsAlone, RemovesNone, UnlocksAlone}
use Rattle.ts_law.specs.Ends.{ListedAt}
use Rattle.ts_law.specs.Kept.{AreAllowed, Claims, Kept, StageClaims, Unlocking}
use Rattle.ts_law.proofs.CallsLeave.{told_same}
use Rattle.ts_law.proofs.Effects.{IsLook}
use Rattle.ts_law.specs.Fresh.{id_in}
use Rattle.ts_law.proofs.Frames.{aims-carry}
use Rattle.ts_law.proofs.Idle.{lease_put, lease_removed, look_same, looks_else}
use Rattle.ts_law.proofs.JournalHistories.{replied_at}
use Rattle.ts_law.proofs.KeptLaws.{asked_by, calling, coming}
use Rattle.ts_law.proofs.LeaseSteps.{release_is}
use Rattle.ts_law.proofs.SweepsAlone.{PutsNone, listing_idle, puts_none}

one_removed : (n q : Name) → call.Remove n ≡ call.Remove q → n ≡ q
one_removed n q same = cc

one_name : (q n : Name) (x y : List ℕ) → call.Put q x ≡ call.Put n y → q ≡ n
one_name q n x y same = cc

-- a command that only looks puts no object
looks_silent : (c : Command) → OnlyLooks c → PutsNone c
looks_silent (Read from to query) looks = tt
looks_silent Fragments looks = tt
looks_silent _ looks = absurd looks

-- what carries the identifier of a key is its own
own_id : (k : Key) (c : Command) (n : Name) → id_in n ≡ Some k.id → IsOwn k c n
own_id k (Create made) n is = inl is
own_id k (Evolve change) n is = is
own_id k (Write w) n is = is
own_id k (Read from to query) n is = is
own_id k (Delete text) n is = is
own_id k (Consolidate from to limits) n is = is
own_id k Vacuum n is = is
own_id k (Unlock seed lane) n is = is
own_id k Fragments n is = is

module _ {F : Type 0} (codec : Codec F) (spelled : Spelled) (tracks : Tracking F) (laws : CodecLaws codec spelled tracks) (opening : Held) (past : History) (jobs : List Job) where
  module _ (seen : List Told) (m : Held) (number : ℕ) (job : Job) (e : Told) (replied : IsReplied m e) (n : Name) (other : lease_of job ≡ Some n → ⊥) where
    -- the object is as it was
    abbrev IsSame : Type 0
    IsSame = map.get (after_told m e) n ≡ map.get m n

    -- calls on the job's own lease
    own_put : (lease : Name) → lease_of job ≡ Some lease → put_lease lease ≡ e.call → IsSame
    own_put lease has is = lease_put codec spelled tracks laws opening past jobs seen m number job e replied n other lease has (sym is)

    own_removal : (lease : Name) → lease_of job ≡ Some lease → call.Remove lease ≡ e.call → IsSame
    own_removal lease has is = lease_removed codec spelled tracks laws opening past jobs seen m number job e replied n other lease has (sym is)

    look_leaves : IsLook e.call → IsSame
    look_leaves look = look_same codec spelled tracks laws opening past jobs seen m number job e replied n other look

    -- ---- a read, and a list of the commits

    module _ (looks : OnlyLooks job.command) where
      work_looks : (s : State F) → Claims codec spelled tracks opening past jobs seen m number job s → asks codec job s ≡ Some e.call → IsSame
      work_looks (Creates PutsFrame) claims asked = let (f, creates, sound) = claims.1 in absurd (subst OnlyLooks creates looks)
      work_looks (Puts objects next end) claims asked =
          absurd (puts_none codec spelled tracks laws opening past jobs seen m number job (looks_silent job.command looks) objects end claims.aims)
      work_looks (Removes names next end) (inl unlocking) asked = absurd (subst OnlyLooks unlocking.unlocks looks)
      work_looks (Removes names next end) (inr vacuuming) asked = absurd (subst OnlyLooks vacuuming.vacuums looks)
      work_looks s claims asked = look_leaves (looks_else codec spelled tracks laws opening past jobs seen m number job s e.call claims asked refl)

      call_looks : (stage : Stage F) → StageClaims codec spelled tracks opening past jobs seen m number job stage → MayAsk codec job stage e.call → IsSame
      call_looks (PutsLease lease) claims (inl asked) = own_put lease claims.0.0 (same_Some (put_lease lease) e.call asked)
      call_looks (ListsLeases lease) claims (inl asked) = look_leaves (subst IsLook (same_Some list_leases e.call asked) tt)
      call_looks (stages.Works s) claims (inl asked) = work_looks s claims asked
      call_looks (Releases lease end) claims (inl asked) = own_removal lease claims.0 (same_Some (call.Remove lease) e.call asked)
      call_looks stage claims (inr gives_up) = let (lease, some, removes) = release_is job e.call gives_up.0 in own_removal lease some (sym removes)

    -- ---- puts

    -- the object is as it was, or it is one that the job may put
    abbrev IsPut : Type 0
    IsPut = IsSame ⊎ IsOwn (key_of job) job.command n

    -- a put changes no other object
    put_leaves : (q : Name) (bytes : List ℕ) → call.Put q bytes ≡ e.call → IsOwn (key_of job) job.command q → IsPut
    put_leaves q bytes puts own = by_test (name_eq q n) refl
      where
        by_test : (b : Bool) → name_eq q n ≡ b → IsPut
        by_test true same = inr (subst (IsOwn (key_of job) job.command) ((name_decides q n).0 same) own)
        by_test false apart =
            inl (told_same m e n (λ other_bytes put. true≢false (sym ((name_decides q n).1 (one_name q n bytes other_bytes (puts ∙ put))) ∙ apart)) (λ removes. let same : call.Put q bytes ≡ call.Remove n = puts ∙ removes in cc))

    module _ (removes_none : RemovesNone job.command) where
      work_puts : (s : State F) → Claims codec spelled tracks opening past jobs seen m number job s → asks codec job s ≡ Some e.call → IsPut
      work_puts (Creates PutsFrame) claims asked =
          let (f, creates, sound) = claims.1 in
          let (g, made, is) = asked_by frame_put (made_by job.command) e.call asked in
          put_leaves name.Domain (frame_object (frame_made g)) is (subst (λ c. IsOwn (key_of job) c name.Domain) (sym creates) (inr refl))
      work_puts (Puts objects next end) claims asked =
          let (o, at, is) = asked_by put_of (slice_get objects next) e.call asked in
          put_leaves o.name o.bytes is (own_id (key_of job) job.command o.name (aims-carry codec spelled opening past jobs seen m number job objects end claims.aims next o at).0)
      work_puts (Removes names next end) (inl unlocking) asked = absurd (subst RemovesNone unlocking.unlocks removes_none)
      work_puts (Removes names next end) (inr vacuuming) asked = absurd (subst RemovesNone vacuuming.vacuums removes_none)
      work_puts s claims asked = inl (look_leaves (looks_else codec spelled tracks laws opening past jobs seen m number job s e.call claims asked refl))

      call_puts : (stage : Stage F) → StageClaims codec spelled tracks opening past jobs seen m number job stage → MayAsk codec job stage e.call → IsPut
      call_puts (PutsLease lease) claims (inl asked) = inl (own_put lease claims.0.0 (same_Some (put_lease lease) e.call asked))
      call_puts (ListsLeases lease) claims (inl asked) = inl (look_leaves (subst IsLook (same_Some list_leases e.call asked) tt))
      call_puts (stages.Works s) claims (inl asked) = work_puts s claims asked
      call_puts (Releases lease end) claims (inl asked) = inl (own_removal lease claims.0 (same_Some (call.Remove lease) e.call asked))
      call_puts stage claims (inr gives_up) = let (lease, some, removes) = release_is job e.call gives_up.0 in inl (own_removal lease some (sym removes))

    -- ---- an unlock

    module _ (seed lane : ℕ) (unlocks : job.command ≡ Unlock seed lane) (idle : (leases : ListedAt seen number Leases) → ChangedNothing opening leases.before number job) where
      -- the object is as it was, or it is a lease to remove
      abbrev IsLeft : Type 0
      IsLeft = IsSame ⊎ IsToUnlock opening seen number job n

      -- a removal of an unlock
      removal_leaves : (names : List Name) (next : ℕ) (end : Outcome) → Unlocking opening past jobs seen m number job names next end → (q : Name) → slice_get names next ≡ Some q → call.Remove q ≡ e.call → IsLeft
      removal_leaves names next end is q at removes = by_test (name_eq q n) refl
        where
          by_test : (b : Bool) → name_eq q n ≡ b → IsLeft
          by_test true same = inr (record {
            seed = is.seed;
            lane = is.lane;
            unlocks = is.unlocks;
            leases = is.leases;
            idle = idle is.leases;
            dead = subst (λ l. Contains l n) is.names_are (subst (Contains names) ((name_decides q n).0 same) (Contains-slice_get names next q at));
          })
          by_test false apart =
              inl (told_same m e n (λ bytes puts. let same : call.Remove q ≡ call.Put n bytes = removes ∙ puts in cc)
              (λ gone. let same : call.Remove q ≡ call.Remove n = removes ∙ gone in true≢false (sym ((name_decides q n).1 (one_removed q n same)) ∙ apart)))

      work_unlocks : (s : State F) → Claims codec spelled tracks opening past jobs seen m number job s → asks codec job s ≡ Some e.call → IsLeft
      work_unlocks (Creates PutsFrame) claims asked = let (f, creates, sound) = claims.1 in absurd (subst PutsNone (sym unlocks ∙ creates) tt)
      work_unlocks (Puts objects next end) claims asked =
          absurd (puts_none codec spelled tracks laws opening past jobs seen m number job (subst PutsNone (sym unlocks) tt) objects end claims.aims)
      work_unlocks (Removes names next end) (inl unlocking) asked = let (q, at, is) = asked_by call.Remove (slice_get names next) e.call asked in removal_leaves names next end unlocking q at is
      work_unlocks (Removes names next end) (inr vacuuming) asked = absurd (let same : Unlock seed lane ≡ Vacuum = sym unlocks ∙ vacuuming.vacuums in cc)
      work_unlocks s claims asked = inl (look_leaves (looks_else codec spelled tracks laws opening past jobs seen m number job s e.call claims asked refl))

      call_unlocks : (stage : Stage F) → StageClaims codec spelled tracks opening past jobs seen m number job stage → MayAsk codec job stage e.call → IsLeft
      call_unlocks (PutsLease lease) claims (inl asked) = inl (own_put lease claims.0.0 (same_Some (put_lease lease) e.call asked))
      call_unlocks (ListsLeases lease) claims (inl asked) = inl (look_leaves (subst IsLook (same_Some list_leases e.call asked) tt))
      call_unlocks (stages.Works s) claims (inl asked) = work_unlocks s claims asked
      call_unlocks (Releases lease end) claims (inl asked) = inl (own_removal lease claims.0 (same_Some (call.Remove lease) e.call asked))
      call_unlocks stage claims (inr gives_up) = let (lease, some, removes) = release_is job e.call gives_up.0 in inl (own_removal lease some (sym removes))

  -- ---- all calls

  module _ (last : List ℕ) (told : List Told) (begins : Kept codec spelled tracks opening past jobs [] [] opening) (may : AreAllowed codec jobs [] last [] told) (replied : Replied opening told)
      (number : ℕ) (job : Job) (is_job : slice_get jobs number ≡ Some job) where
    -- a job that only looks changes no object but a lease of its own
    pub looks_alone : OnlyLooks job.command → ChangedNothing opening told number job
    looks_alone looks front back e parts own n other =
        let comes = coming codec spelled tracks laws opening past jobs [] last [] opening told front back e begins may replied parts in
        let calls = calling codec spelled tracks laws opening past jobs front (held_told opening front) e number job comes own is_job in
        let here = replied_at opening front back e (subst (Replied opening) parts replied) in
        ap (λ x. map.get x n) (held_told-append opening front (e ∷ []))
        ∙ call_looks front (held_told opening front) number job e here n other looks (stage_of codec job (trace_of number front)) calls.claims calls.asked

    -- a job that removes nothing changes no other objects than it may put
    pub puts_alone : RemovesNone job.command → PutsAlone opening told number job
    puts_alone removes_none front back e parts own n other =
        let comes = coming codec spelled tracks laws opening past jobs [] last [] opening told front back e begins may replied parts in
        let calls = calling codec spelled tracks laws opening past jobs front (held_told opening front) e number job comes own is_job in
        let here = replied_at opening front back e (subst (Replied opening) parts replied) in
        elim (call_puts front (held_told opening front) number job e here n other removes_none (stage_of codec job (trace_of number front)) calls.claims calls.asked) [
          | inl same ↦ inl (ap (λ x. map.get x n) (held_told-append opening front (e ∷ [])) ∙ same)
          | inr put ↦ inr put
        ]

    -- an unlock changes no other objects than it is to remove
    pub unlocks_alone : (seed lane : ℕ) → job.command ≡ Unlock seed lane → UnlocksAlone opening told number job
    unlocks_alone seed lane unlocks front back e parts own n =
        let comes = coming codec spelled tracks laws opening past jobs [] last [] opening told front back e begins may replied parts in
        let calls = calling codec spelled tracks laws opening past jobs front (held_told opening front) e number job comes own is_job in
        let here = replied_at opening front back e (subst (Replied opening) parts replied) in
        let idle : (leases : ListedAt front number Leases) → ChangedNothing opening leases.before number job = λ leases.
        listing_idle codec spelled tracks laws opening past jobs last told begins may replied number job is_job Leases leases.before (leases.later ++ e ∷ back) leases.listing
        (parts ∙ ap (λ l. l ++ e ∷ back) leases.place ∙ append_assoc leases.before (leases.listing ∷ leases.later) (e ∷ back)) leases.own leases.lists in
        elim (call_unlocks front (held_told opening front) number job e here n unleased seed lane unlocks idle (stage_of codec job (trace_of number front)) calls.claims calls.asked) [
          | inl same ↦ inl (ap (λ x. map.get x n) (held_told-append opening front (e ∷ [])) ∙ same)
          | inr dead ↦ inr dead
        ]
      where
        -- an unlock has no lease
        unleased : lease_of job ≡ Some n → ⊥
        unleased has = none-some n (sym (ap (λ c. option_map (name.Lease (key_of job)) (mode_of c)) unlocks) ∙ has)
