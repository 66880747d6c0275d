-- What the refusal of a command tells: its cause.
use Rattle.std.proofs.Common.{◌≡◌, ◌⊎◌, inl, inr, ℕ, List, [], ◌∷◌, ◌++◌, Option, Some, None, cond, append_assoc, refl, sym, ◌∙◌, ap, subst, arith}
use Rattle.std.specs.Prelude.{Contains, option_map, ⊤}
use Rattle.std.proofs.lemmas.Option.{none-some, same_Some}
use Rattle.std.proofs.lemmas.List.{append-nil}
use Rattle.std.proofs.lemmas.List.Elements.{Contains-append_cases, Contains-append_left, Contains-append_right, filter_map-append}
use Rattle.ts_base.specs.Held.{Held}
use Rattle.ts_base.specs.Keys.{frag_of}
use Rattle.ts_base.specs.declared.keys.Key.{Key}
use Rattle.ts_base.specs.declared.names.LeaseMode.{LeaseMode}
use Rattle.ts_base.specs.declared.names.Name.{Name}
use Rattle.ts_base.specs.declared.names.Name.TheVariants as name
use Rattle.ts_base.specs.declared.names.Place.{Place}
use Rattle.ts_base.specs.declared.names.Place.TheVariants as place
use Rattle.ts_base.specs.declared.names.Prefix.TheVariants.{Leases, Schemas}
use Rattle.ts_commit.specs.declared.vacs.Planned.TheVariants.{Nothing}
use Rattle.ts_lease.specs.Leases.{verdict_in}
use Rattle.ts_lease.specs.declared.verdicts.Verdict.TheVariants.{Held as Opposed}
use Rattle.ts_schema.specs.declared.frames.Frame.{Frame}
use Rattle.ts_schema.specs.declared.schemas.Schema.{Schema}
use Rattle.ts_store.specs.Calls.{is_no_memory, names_under}
use Rattle.ts_store.specs.Journals.{held_after}
use Rattle.ts_store.specs.declared.journal.Entry.{Entry}
use Rattle.ts_model.specs.declared.commands.Command.{Command}
use Rattle.ts_model.specs.declared.commands.Command.TheVariants.{Create, Evolve, Write, Read, Delete, Consolidate, Vacuum, Unlock, Fragments}
use Rattle.ts_model.specs.declared.commands.FrameIn.{FrameIn}
use Rattle.ts_model.specs.declared.commands.Job.{Job}
use Rattle.ts_model.specs.declared.answers.Refusal.{Refusal}
use Rattle.ts_model.specs.declared.answers.Refusal.TheVariants as refusal
use Rattle.ts_model.specs.declared.deeds.Deed.{Deed}
use Rattle.ts_model.specs.declared.deeds.Deed.TheVariants.{Framed, Declared, Wrote, Erased}
use Rattle.ts_model.specs.Commands.{frame_made}
use Rattle.ts_model.specs.Deeds.{Follow, History, IsHistory, IsNewKey, MayFollow, frame_in, key_in, schema_in, current_schema, schemas}
use Rattle.ts_model.specs.Jobs.{key_of, looked_at, looks_at}
use Rattle.ts_model.specs.Stages.{mode_of}
use Rattle.ts_model.specs.States.{get_frame, made_by, place_of}
use Rattle.ts_model.specs.Told.{Told, entries_of, entry_of, held_told, history_told, trace_of}
use Rattle.ts_model.proofs.HistoryLaws.{absent_from_new, frame_in-append, schemas-append}
use Rattle.ts_model.proofs.ListLemmas.{Contains-filter_map, Contains-here, Contains-cons, Contains-nil, Contains-there, filter_map-Contains}
use Rattle.ts_law.specs.Ends.{IsTrueRefusal, kind_of}
use Rattle.ts_law.specs.Refusals.{FindsArray, FindsFault, FindsLease, FindsNoSchema, HasFailed, IsRefusedAs, IsRefusedFor, WorksInSchema, refusal_in}
use Rattle.ts_top.specs.Causes.{HasCause, IsOpposed, OneFailed, TellsRefusal, looks_for, own_faults}
use Rattle.ts_top.specs.Promise.{Extends, IsDeedOf}
use Rattle.ts_top.specs.Merges.{Calls}
use Rattle.ts_top.specs.Runners.{run_spelled}
use Rattle.ts_top.proofs.MergesTold.{calls_in, divided, held_entered, plans, schema_found}
use Rattle.ts_top.proofs.Places.{Early, goes_on, listed_now, made_now}

-- ---- commands that did nothing

-- each refusal but those of failed calls
abbrev pub IsQuiet : Refusal → Type 0
IsQuiet (refusal.StoreFault p) = ⊥
IsQuiet r = ⊤

-- each of these deeds follows those before it
follows_at : (before front : History) (d : Deed) (back : History) → Follow before (front ++ d ∷ back) → MayFollow (before ++ front) d
follows_at before [] d back follow = subst (λ h. MayFollow h d) (sym (append-nil before)) follow.0
follows_at before (x ∷ front) d back follow = subst (λ h. MayFollow h d) (append_assoc before (x ∷ []) front) (follows_at (before ++ x ∷ []) front d back follow.1)

-- the key of a deed of a history is not new
no_new : (now front back : History) (d : Deed) (k : Key) → now ≡ front ++ d ∷ back → key_in d ≡ Some k → IsNewKey now k → ⊥
no_new now front back d k parts keyed new =
    absent_from_new now k new (Contains-filter_map key_in now d k (subst (λ h. Contains h d) (sym parts) (Contains-append_right front (d ∷ back) d (Contains-here d back))) keyed)

-- a deed of a command that is no create has the command's key
keyed : (before h : History) (k : Key) (c : Command) (d : Deed) → made_by c ≡ None → IsDeedOf before h k c d → key_in d ≡ Some k
keyed before h k (Create made) d none is = absurd (none-some made (sym none))
keyed before h k (Evolve change) (Declared s) none (there, held, frame, framed, sound, same) = ap (λ (t : Schema). Some t.key) same
keyed before h k (Write columns) (Wrote w) none (there, held, frame, framed, cells, lays, same) = rw same refl
keyed before h k (Delete text) (Erased e) none (there, held, frame, framed, condition, says, same) = rw same refl
keyed before h k _ _ none is = absurd is

-- a deed of a create is its frame, or has the create's key
of_create : (before h : History) (k : Key) (made : FrameIn) (d : Deed) → IsDeedOf before h k (Create made) d → (d ≡ Framed (frame_made made)) ⊎ (key_in d ≡ Some k)
of_create before h k made (Framed frame) (sound, is) = inl (ap Framed is)
of_create before h k made (Declared s) (none, sound, is) = inr (ap (λ (t : Schema). Some t.key) is)
of_create before h k made (Wrote w) is = absurd is
of_create before h k made (Erased e) is = absurd is

-- deeds fall apart at one that they have
at_place : (deeds : List Deed) (d : Deed) → Contains deeds d → (front : List Deed) × (back : List Deed) × (deeds ≡ front ++ d ∷ back)
at_place [] d at = absurd (Contains-nil d at)
at_place (y ∷ ys) d at = elim (Contains-cons y ys d at) [
  | inl same ↦ ([], ys, ap (λ z. z ∷ ys) same)
  | inr later ↦ let (front, back, is) = at_place ys d later in (y ∷ front, back, ap (λ l. y ∷ l) is)
]

-- deeds of which none is the first are none
pub none_first : (deeds : List Deed) → ((back : List Deed) (d : Deed) → deeds ≡ d ∷ back → ⊥) → deeds ≡ []
none_first [] none = refl
none_first (d ∷ deeds) none = absurd (none deeds d refl)

module _ (before : History) (deeds : List Deed) (k : Key) (c : Command) (new : IsNewKey (before ++ deeds) k)
    (own : (front back : List Deed) (d : Deed) → deeds ≡ front ++ d ∷ back → IsDeedOf before (before ++ front) k c d) where
  -- no deed of the command has its key
  unkeyed : (front back : List Deed) (d : Deed) → deeds ≡ front ++ d ∷ back → key_in d ≡ Some k → ⊥
  unkeyed front back d split keyed = no_new (before ++ deeds) (before ++ front) back d k (ap (λ l. before ++ l) split ∙ sym (append_assoc before front (d ∷ back))) keyed new

  -- a command that is no create did nothing, where no deed has its key
  pub no_deeds_but_create : made_by c ≡ None → deeds ≡ []
  no_deeds_but_create none = none_first deeds (λ back d split. unkeyed [] back d split (keyed before (before ++ []) k c d none (own [] back d split)))

  module _ (made : FrameIn) (creates : c ≡ Create made) where
    is_own : (front back : List Deed) (d : Deed) → deeds ≡ front ++ d ∷ back → d ≡ Framed (frame_made made)
    is_own front back d split = elim (of_create before (before ++ front) k made d (subst (λ q. IsDeedOf before (before ++ front) k q d) creates (own front back d split))) [
      | inl frame ↦ frame
      | inr has ↦ absurd (unkeyed front back d split has)
    ]

    -- of its deeds none is a schema
    no_schemas : (s : Schema) → Contains (schemas deeds) s → ⊥
    no_schemas s at =
        let (d, among, is) = filter_map-Contains schema_in deeds s at in
        let (front, back, split) = at_place deeds d among in
        none-some s (ap schema_in (sym (is_own front back d split)) ∙ is)

    -- a create found an array that was not its own while it was done: it did nothing
    pub no_deeds_of_create : IsHistory (before ++ deeds) → (once : History) → Extends once (before ++ deeds)
        → ((frame : Frame) × (frame_in once ≡ Some frame) × (frame ≡ frame_made made → ⊥)) ⊎ ((s : Schema) × Contains (schemas once) s) → deeds ≡ []
    no_deeds_of_create is once (more, grows) found = none_first deeds (λ back d split. begins back d split found)
      where
        begins : (back : List Deed) (d : Deed) → deeds ≡ d ∷ back → ((frame : Frame) × (frame_in once ≡ Some frame) × (frame ≡ frame_made made → ⊥)) ⊎ ((s : Schema) × Contains (schemas once) s) → ⊥
        begins back d split found = by_found found
          where
            first_is : d ≡ Framed (frame_made made)
            first_is = is_own [] back d split

            nothing : before ≡ []
            nothing =
                let follow = subst (λ h. Follow [] h) (ap (λ l. before ++ l) split) is in
                (subst (MayFollow before) first_is (follows_at [] before d back follow)).first

            now_is : before ++ deeds ≡ deeds
            now_is = ap (λ l. l ++ deeds) nothing

            framed : frame_in (before ++ deeds) ≡ Some (frame_made made)
            framed = ap frame_in (now_is ∙ split ∙ ap (λ x. x ∷ back) first_is)

            by_found : ((frame : Frame) × (frame_in once ≡ Some frame) × (frame ≡ frame_made made → ⊥)) ⊎ ((s : Schema) × Contains (schemas once) s) → ⊥
            by_found (inl (frame, there, other)) = other (same_Some frame (frame_made made) (sym (ap frame_in grows ∙ frame_in-append once more frame there) ∙ framed))
            by_found (inr (s, at)) =
                no_schemas s
                (subst (λ h. Contains (schemas h) s) (sym grows ∙ now_is) (subst (λ ss. Contains ss s) (sym (schemas-append once more)) (Contains-append_left (schemas once) (schemas more) s at)))

-- ---- what a refusal tells

-- the commands that do no deed
abbrev pub DoesNone : Command → Type 0
DoesNone (Read from to query) = ⊤
DoesNone (Consolidate from to limits) = ⊤
DoesNone Vacuum = ⊤
DoesNone (Unlock seed lane) = ⊤
DoesNone Fragments = ⊤
DoesNone _ = ⊥

-- a command does no deed, or the faults of the puts of its commit and of its schema are its own
own_commit : (k : Key) (c : Command) → DoesNone c ⊎ Contains (own_faults k c) (refusal.StoreFault (place.Name (name.Commit (frag_of k) (kind_of c))))
own_commit k (Read from to query) = inl tt
own_commit k (Consolidate from to limits) = inl tt
own_commit k Vacuum = inl tt
own_commit k (Unlock seed lane) = inl tt
own_commit k Fragments = inl tt
own_commit k c = inr (Contains-here (refusal.StoreFault (place.Name (name.Commit (frag_of k) (kind_of c)))) (refusal.StoreFault (place.Name (name.Schema k)) ∷ []))

own_schema : (k : Key) (c : Command) → DoesNone c ⊎ Contains (own_faults k c) (refusal.StoreFault (place.Name (name.Schema k)))
own_schema k (Read from to query) = inl tt
own_schema k (Consolidate from to limits) = inl tt
own_schema k Vacuum = inl tt
own_schema k (Unlock seed lane) = inl tt
own_schema k Fragments = inl tt
own_schema k c =
    let mine = refusal.StoreFault (place.Name (name.Schema k)) in
    inr (Contains-there (refusal.StoreFault (place.Name (name.Commit (frag_of k) (kind_of c)))) (mine ∷ []) mine (Contains-here mine []))

-- a failed call that is true of a job tells whose deed may have come
module _ (opening : Held) (jobs : List Job) (past : History) (told : List Told) (number : ℕ) where
  pub fault_tells : (job : Job) (p : Place) → (DoesNone job.command → IsNewKey (history_told jobs past told) (key_of job)) → IsTrueRefusal run_spelled opening jobs past told number job (refusal.StoreFault p)
      → IsNewKey (history_told jobs past told) (key_of job) ⊎ Contains (own_faults (key_of job) job.command) (refusal.StoreFault p)
  fault_tells job (place.Name (name.Commit f kind)) none (inl own) = elim (own_commit (key_of job) job.command) [ inl quiet ↦ inl (none quiet) | inr among ↦ inr (rw (own.0, own.1) among) ]
  fault_tells job (place.Name (name.Commit f kind)) none (inr undone) = inl undone
  fault_tells job (place.Name (name.Schema k)) none (inl own) = elim (own_schema (key_of job) job.command) [ inl quiet ↦ inl (none quiet) | inr among ↦ inr (rw own among) ]
  fault_tells job (place.Name (name.Schema k)) none (inr undone) = inl undone
  fault_tells job _ none is = inl is

-- the lease of a job is that of its command
pub own_lease : (job : Job) (mode : Option LeaseMode) (own : Name) → option_map (name.Lease (key_of job)) mode ≡ Some own → (x : LeaseMode) × (mode ≡ Some x) × (name.Lease (key_of job) x ≡ own)
own_lease job None own is = absurd (none-some own is)
own_lease job (Some x) own is = (x, refl, same_Some (name.Lease (key_of job) x) own is)

-- where a command looks for its schema
pub looks_same : (job : Job) (c : Command) → looks_at job c ≡ looks_for (key_of job) c
looks_same job (Create made) = refl
looks_same job (Evolve change) = refl
looks_same job (Write columns) = refl
looks_same job (Read from to query) = refl
looks_same job (Delete text) = refl
looks_same job (Consolidate from to limits) = refl
looks_same job Vacuum = refl
looks_same job (Unlock seed lane) = refl
looks_same job Fragments = refl

module _ (m : Held) (jobs : List Job) (past : History) (lane : Option ℕ → ℕ) (a c told : List Told) (parts : told ≡ a ++ c) (number : ℕ) (early : Early number a) (job : Job) where
  -- the history before the command, and the one after it
  abbrev before : History
  before = history_told jobs past a

  abbrev now : History
  now = history_told jobs past told

  -- the calls of the command
  abbrev calls_of : Calls
  calls_of = calls_in m lane a c

  -- a call of the job that failed is one of them
  one_failed : (p : Place) → HasFailed told number p → OneFailed calls_of p
  one_failed p is =
      let at = is.at in
      let e = at.made in
      let entry : Entry = record { lane = lane e.job; call = e.call; fate = e.fate } in
      let among : Contains told e = subst (λ l. Contains l e) (sym at.place) (Contains-append_right at.before (e ∷ at.later) e (Contains-here e at.later)) in
      let here : Contains c e = elim (Contains-append_cases a c e (subst (λ l. Contains l e) parts among)) [
        | inl sooner ↦ absurd (let less = early e sooner number at.own in omega (arith, less))
        | inr own ↦ own
      ] in
      let entered : entry_of lane e ≡ Some entry = ap (λ r. cond (is_no_memory r) None (Some entry)) is.failed in
      (entry, Contains-filter_map (entry_of lane) c e entry here entered, is.speaks ∙ ap place_of (sym at.makes), is.undone)

  -- a lease that was in the way of the job was so of the command
  opposed : (other : Name) → FindsLease m told number job other → IsOpposed calls_of (key_of job) job.command other
  opposed other is =
      let at = is.leases in
      let rest : List Told = at.listing ∷ at.later in
      let (d, behind, split) = divided m jobs past lane a c told parts number early at.before at.listing at.later at.place at.own in
      let (mode, has, named) = own_lease job (mode_of job.command) is.own is.has in
      let held : held_told m at.before ≡ held_after (held_after m (entries_of lane a)) (entries_of lane d) = ap (held_told m) behind ∙ held_entered m lane a d in
      let first : verdict_in (names_under Leases (held_after (held_after m (entries_of lane a)) (entries_of lane d))) (name.Lease (key_of job) mode) ≡ Opposed other =
      subst (λ n. verdict_in (names_under Leases (held_after (held_after m (entries_of lane a)) (entries_of lane d))) n ≡ Opposed other) (sym named)
      (subst (λ h. verdict_in (names_under Leases h) is.own ≡ Opposed other) held is.first) in
      (entries_of lane d, entries_of lane rest, ap (entries_of lane) split ∙ filter_map-append (entry_of lane) d rest, mode, has, first)

  module _ (still : now ≡ before) where
    -- the command is refused in the frame and the schema there
    abbrev IsRefusedIn : Refusal → Command → Type 0
    IsRefusedIn r command = (there : Schema) × (current_schema now (looks_for (key_of job) command) ≡ Some there) × (frame : Frame) × (frame_in now ≡ Some frame) × (refusal_in frame there.attrs command ≡ Some r)

    fault_found : (r : Refusal) → FindsFault jobs past told number job r → IsRefusedIn r job.command
    fault_found r is =
        let over = listed_now jobs past a c told parts number early Schemas is.schemas still in (
          is.current,
          ap (current_schema now) (sym (looks_same job job.command)) ∙ ap (λ h. current_schema h (looked_at job)) (sym over) ∙ is.holds,
          is.frame,
          ap frame_in (sym over) ∙ is.framed,
          is.refused,
        )

    no_schema : (at : ℕ) (command : Command) → job.command ≡ command → FindsNoSchema jobs past told number job at → HasCause calls_of now (key_of job) (refusal.NoSchema at) command
    no_schema at (Create made) is found = absurd (subst WorksInSchema is found.works)
    no_schema at (Unlock seed lane) is found = absurd (subst WorksInSchema is found.works)
    no_schema at Fragments is found = absurd (subst WorksInSchema is found.works)
    no_schema at command is found = (
      found.looks ∙ looks_same job job.command ∙ ap (looks_for (key_of job)) is,
      ap (λ h. current_schema h at) (sym (listed_now jobs past a c told parts number early Schemas found.schemas still)) ∙ found.none,
    )

    -- a command without a lease finds none in its way
    no_lease_of : (command : Command) (other : Name) → job.command ≡ command → mode_of command ≡ None → FindsLease m told number job other → ⊥
    no_lease_of command other is none found = none-some found.own (ap (option_map (name.Lease (key_of job))) (sym (ap mode_of is ∙ none)) ∙ found.has)

    leased : (other : Name) (command : Command) → job.command ≡ command → FindsLease m told number job other → HasCause calls_of now (key_of job) (refusal.Leased other) command
    leased other (Create made) is found = absurd (no_lease_of (Create made) other is refl found)
    leased other (Unlock seed lane) is found = absurd (no_lease_of (Unlock seed lane) other is refl found)
    leased other Fragments is found = absurd (no_lease_of Fragments other is refl found)
    leased other command is found = subst (λ q. IsOpposed calls_of (key_of job) q other) is (opposed other found)

    array : (made : FrameIn) → FindsArray jobs past told number made → HasCause calls_of now (key_of job) refusal.ArrayExists (Create made)
    array made (inl (at, frame, framed, other)) = inl (frame, ap frame_in (sym (made_now jobs past a c told parts number early get_frame at still)) ∙ framed, other)
    array made (inr (at, s, among)) = inr (s, subst (λ h. Contains (schemas h) s) (listed_now jobs past a c told parts number early Schemas at still) among)

    -- a refusal of a command that did nothing has its cause in the history
    cause_tells : (r : Refusal) → IsQuiet r → IsRefusedFor run_spelled m jobs past told number job r → HasCause calls_of now (key_of job) r job.command
    cause_tells refusal.ArrayExists quiet (made, creates, found) = subst (HasCause calls_of now (key_of job) refusal.ArrayExists) (sym creates) (array made found)
    cause_tells (refusal.NoSchema at) quiet is = no_schema at job.command refl is
    cause_tells (refusal.Leased other) quiet is = leased other job.command refl is
    cause_tells (refusal.NothingToDo count) quiet is =
        let found = schema_found m jobs past lane a c told parts number early still job (ap (looks_at job) is.merges) is.found in
        subst (HasCause calls_of now (key_of job) (refusal.NothingToDo count)) (sym is.merges) (found.0, found.1, plans m jobs past lane a c told parts number early still is.from is.to is.limits (Nothing count) is.commits is.by_plan)
    cause_tells (refusal.StoreFault p) quiet is = absurd quiet
    cause_tells (refusal.Taken n) quiet is = absurd is
    cause_tells (refusal.Missing n) quiet is = absurd is
    cause_tells (refusal.Damaged n at) quiet is = absurd is
    cause_tells r quiet is = by_command job.command refl is
      where
        by_command : (command : Command) → job.command ≡ command → IsRefusedAs jobs past told number job r command → HasCause calls_of now (key_of job) r command
        by_command (Create made) same refused = refused.0
        by_command (Unlock seed lane) same refused = absurd (none-some r (subst (λ q. refusal_in refused.frame (refused.current).attrs q ≡ Some r) same refused.refused))
        by_command Fragments same refused = absurd (none-some r (subst (λ q. refusal_in refused.frame (refused.current).attrs q ≡ Some r) same refused.refused))
        by_command command same refused = subst (IsRefusedIn r) same (fault_found r refused)

  -- a refusal that is true of a job tells so of its command
  pub refusal_tells : (r : Refusal) → (DoesNone job.command → IsNewKey now (key_of job)) → IsTrueRefusal run_spelled m jobs past told number job r → IsRefusedFor run_spelled m jobs past told number job r → (IsQuiet r → now ≡ before)
      → TellsRefusal calls_of before now (key_of job) job.command r
  refusal_tells (refusal.Missing n) none is cause still = is
  refusal_tells (refusal.Damaged n at) none is cause still = is
  refusal_tells (refusal.Taken n) none is cause still = is
  refusal_tells (refusal.StoreFault p) none is cause still = (one_failed p cause, fault_tells m jobs past told number job p none is)
  refusal_tells (refusal.NothingToDo count) none is cause still = (still tt, is.0, cause_tells (still tt) (refusal.NothingToDo count) tt cause)
  refusal_tells r none is cause still = (still tt, is, cause_tells (still tt) r tt cause)

  -- ---- a refused command did nothing

  -- a command that was refused, and not for a failed call, has no deed of its key
  undone_of : (r : Refusal) → IsQuiet r → IsTrueRefusal run_spelled m jobs past told number job r → IsNewKey now (key_of job)
  undone_of (refusal.Missing n) quiet is = absurd is
  undone_of (refusal.Damaged n at) quiet is = absurd is
  undone_of (refusal.Taken n) quiet is = absurd is
  undone_of (refusal.StoreFault p) quiet is = absurd quiet
  undone_of (refusal.NothingToDo count) quiet is = is.0
  undone_of r quiet is = is

  -- and it did nothing
  pub nothing_done : (deeds : List Deed) → now ≡ before ++ deeds → IsHistory now → ((front back : List Deed) (d : Deed) → deeds ≡ front ++ d ∷ back → IsDeedOf before (before ++ front) (key_of job) job.command d)
      → (trace_of number told ≡ [] → deeds ≡ []) → (r : Refusal) → IsQuiet r → IsTrueRefusal run_spelled m jobs past told number job r → IsRefusedFor run_spelled m jobs past told number job r → deeds ≡ []
  nothing_done deeds grows history own silent r quiet is_true cause = by_command job.command refl
    where
      new : IsNewKey (before ++ deeds) (key_of job)
      new = subst (λ h. IsNewKey h (key_of job)) grows (undone_of r quiet is_true)

      by_create : (made : FrameIn) → job.command ≡ Create made → (r : Refusal) → IsQuiet r → IsRefusedFor run_spelled m jobs past told number job r → deeds ≡ []
      by_create made creates refusal.ArrayExists quiet (own_made, same, found) =
          let create_is : own_made ≡ made = one_create own_made made (sym same ∙ creates) in
          by_array (subst (FindsArray jobs past told number) create_is found)
        where
          one_create : (f g : FrameIn) → Create f ≡ Create g → f ≡ g
          one_create f g is = cc

          by_array : FindsArray jobs past told number made → deeds ≡ []
          by_array (inl (at, frame, framed, other)) =
              no_deeds_of_create before deeds (key_of job) job.command new own made creates (subst IsHistory grows history) (history_told jobs past at.before)
              (subst (Extends (history_told jobs past at.before)) grows (goes_on jobs past at.before (at.made ∷ at.later) told at.place)) (inl (frame, framed, other))
          by_array (inr (at, s, among)) =
              no_deeds_of_create before deeds (key_of job) job.command new own made creates (subst IsHistory grows history) (history_told jobs past at.before)
              (subst (Extends (history_told jobs past at.before)) grows (goes_on jobs past at.before (at.listing ∷ at.later) told at.place)) (inr (s, among))
      by_create made creates (refusal.NoSchema at) quiet is = absurd (subst WorksInSchema creates is.works)
      by_create made creates (refusal.Leased other) quiet is = absurd (none-some is.own (ap (λ q. option_map (name.Lease (key_of job)) (mode_of q)) (sym creates) ∙ is.has))
      by_create made creates (refusal.NothingToDo count) quiet is = let other : Create made ≡ Consolidate is.from is.to is.limits = sym creates ∙ is.merges in cc
      by_create made creates (refusal.StoreFault p) quiet is = absurd quiet
      by_create made creates (refusal.Taken n) quiet is = absurd is
      by_create made creates (refusal.Missing n) quiet is = absurd is
      by_create made creates (refusal.Damaged n at) quiet is = absurd is
      by_create made creates r quiet is = let of : IsRefusedAs jobs past told number job r (Create made) = subst (IsRefusedAs jobs past told number job r) creates is in silent of.1

      by_command : (command : Command) → job.command ≡ command → deeds ≡ []
      by_command (Create made) same = by_create made same r quiet cause
      by_command (Evolve change) same = no_deeds_but_create before deeds (key_of job) job.command new own (ap made_by same)
      by_command (Write columns) same = no_deeds_but_create before deeds (key_of job) job.command new own (ap made_by same)
      by_command (Read from to query) same = no_deeds_but_create before deeds (key_of job) job.command new own (ap made_by same)
      by_command (Delete text) same = no_deeds_but_create before deeds (key_of job) job.command new own (ap made_by same)
      by_command (Consolidate from to limits) same = no_deeds_but_create before deeds (key_of job) job.command new own (ap made_by same)
      by_command Vacuum same = no_deeds_but_create before deeds (key_of job) job.command new own (ap made_by same)
      by_command (Unlock seed lane) same = no_deeds_but_create before deeds (key_of job) job.command new own (ap made_by same)
      by_command Fragments same = no_deeds_but_create before deeds (key_of job) job.command new own (ap made_by same)
