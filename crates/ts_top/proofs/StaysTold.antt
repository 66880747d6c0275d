-- What a command leaves of the objects: all but a vacuum keep what is held, one that is refused for no fault or only looks changes nothing but its lease, and a vacuum and an unlock remove no others than they may.
use Rattle.std.proofs.Common.{◌≡◌, ◌⊎◌, inl, inr, ℕ, true, List, [], ◌∷◌, ◌++◌, Option, Some, refl, sym, ◌∙◌, ap, subst, append_assoc}
use Rattle.std.specs.Prelude.{All, Contains, option_map, slice_get}
use Rattle.std.specs.FinMap as map
use Rattle.std.proofs.lemmas.Bool.{true≢false}
use Rattle.std.proofs.lemmas.List.{append-nil}
use Rattle.std.proofs.lemmas.List.Elements.{All-contains_itself, All-weaker, Contains-append_left}
use Rattle.std.proofs.lemmas.Option.{none-some, same_Some}
use Rattle.ts_base.specs.Held.{Held}
use Rattle.ts_base.specs.declared.names.Name.{Name}
use Rattle.ts_base.specs.declared.names.Name.TheVariants as name
use Rattle.ts_base.specs.declared.names.Prefix.TheVariants.{Commits, Leases}
use Rattle.ts_base.specs.Names.{is_under}
use Rattle.ts_commit.specs.Selections.{removal_set}
use Rattle.ts_model.specs.declared.commands.Command.TheVariants.{Unlock, Vacuum}
use Rattle.ts_model.specs.declared.commands.Job.{Job}
use Rattle.ts_model.specs.Deeds.{History}
use Rattle.ts_model.specs.Jobs.{key_of}
use Rattle.ts_model.specs.Stages.{lease_of, mode_of}
use Rattle.ts_model.specs.States.{counting_in, leases_unlocked, vac_of}
use Rattle.ts_store.specs.Calls.{names_under}
use Rattle.ts_model.specs.Told.{Told, entries_of, held_told}
use Rattle.ts_model.proofs.ListLemmas.{Contains-here, Contains-there}
use Rattle.ts_law.specs.Changes.{ChangedNothing, IsOwn, IsToSweep, IsToUnlock, PutsAlone, SweepsAlone, UnlocksAlone}
use Rattle.ts_law.specs.Since.{HeldSince}
use Rattle.ts_law.specs.Sweeps.{IsNoSweep, IsSwept as IsToRemove, OfCommit, OfOther, OfPart, OfVac}
use Rattle.ts_law.proofs.Journals.{journal_held}
use Rattle.ts_law.proofs.LeaseSteps.{lease_is}
use Rattle.ts_top.specs.Merges.{held_by}
use Rattle.ts_top.specs.Promise.{LeavesAll, LeavesOthers}
use Rattle.ts_top.specs.Sweeps.{IsSwept, MaySweep, dead_leases}
use Rattle.ts_top.proofs.MergesTold.{calls_in, divided, held_entered}
use Rattle.ts_top.proofs.Places.{Early}
use Rattle.ts_top.proofs.Removed.{same_names}

module _ (m : Held) (jobs : List Job) (lane : Option ℕ → ℕ) (a c told : List Told) (parts : told ≡ a ++ c) (i : ℕ) (job : Job) (is_job : slice_get jobs i ≡ Some job) (mine : (e : Told) → Contains c e → e.job ≡ Some i) where
  -- what is held before the calls, and after them
  opening_is : held_told m a ≡ (calls_in m lane a c).opening
  opening_is = journal_held lane m a

  later_is : held_told m told ≡ held_by (calls_in m lane a c) (entries_of lane c)
  later_is = ap (held_told m) parts ∙ held_entered m lane a c

  -- none of the calls is a vacuum's
  no_sweep : (job.command ≡ Vacuum → ⊥) → (e : Told) → Contains c e → IsNoSweep jobs e
  no_sweep other e among number vacuum by at vacuums =
      let same : number ≡ i = same_Some number i (sym by ∙ mine e among) in
      other (ap (λ (j : Job). j.command) (same_Some job vacuum (sym is_job ∙ ap (slice_get jobs) (sym same) ∙ at)) ∙ vacuums)

  -- so what is held stays held
  pub keeps_held : ((front mid : List Told) → told ≡ front ++ mid → All (IsNoSweep jobs) mid → HeldSince (held_told m front) (held_told m told))
      → (job.command ≡ Vacuum → ⊥) → HeldSince (calls_in m lane a c).opening (held_by (calls_in m lane a c) (entries_of lane c))
  keeps_held stays other =
      subst (HeldSince (calls_in m lane a c).opening) later_is (subst (λ h. HeldSince h (held_told m told)) opening_is
      (stays a c parts (All-weaker (Contains c) (IsNoSweep jobs) (λ e among. no_sweep other e among) c (All-contains_itself c))))

  -- calls that change nothing but a lease leave all as it was
  left_by : (whole : List Told) → ChangedNothing m whole i job → (seen rest : List Told) → whole ≡ seen ++ rest → ((e : Told) → Contains rest e → e.job ≡ Some i) → (n : Name) → (lease_of job ≡ Some n → ⊥)
      → map.get (held_told m whole) n ≡ map.get (held_told m seen) n
  left_by whole idle seen [] place own n other = ap (λ t. map.get (held_told m t) n) (place ∙ append-nil seen)
  left_by whole idle seen (e ∷ rest) place own n other =
      left_by whole idle (seen ++ e ∷ []) rest (place ∙ sym (append_assoc seen (e ∷ []) rest)) (λ x at. own x (Contains-there e rest x at)) n other ∙ idle seen rest e place (own e (Contains-here e rest)) n other

  pub leaves_all : ChangedNothing m told i job → LeavesAll (calls_in m lane a c) (key_of job) job.command
  leaves_all idle n other = ap (λ h. map.get h n) (sym later_is) ∙ left_by told idle a c parts mine n other ∙ ap (λ h. map.get h n) opening_is

  -- ---- vacuums and unlocks

  -- as the command made a listing, before which it changed nothing, the objects were as before its calls
  as_before : (past : History) → Early i a → (before later : List Told) (listing : Told) → told ≡ before ++ listing ∷ later → listing.job ≡ Some i → ChangedNothing m before i job
      → (q : Name) → (lease_of job ≡ Some q → ⊥) → map.get (held_told m before) q ≡ map.get (calls_in m lane a c).opening q
  as_before past early before later listing whole own idle q other =
      let (d, behind, split) = divided m jobs past lane a c told parts i early before listing later whole own in
      left_by before idle a d behind (λ e among. mine e (subst (λ l. Contains l e) (sym split) (Contains-append_left d (listing ∷ later) e among))) q other
      ∙ ap (λ h. map.get h q) opening_is

  -- a lease is no commit
  commit_apart : (q : Name) → is_under Commits q ≡ true → lease_of job ≡ Some q → ⊥
  commit_apart q under has = let (mode, named) = lease_is job q has in true≢false (sym under ∙ ap (is_under Commits) named)

  -- what is to be removed is what the command may remove
  may_sweep : (past : History) → Early i a → (seen rest : List Told) → told ≡ seen ++ rest → (n : Name) → IsToSweep m seen i job n → MaySweep (calls_in m lane a c) n
  may_sweep past early seen rest place n is = (
    is.vacs,
    record {
      frags = (is.are_vacs).frags ∙ ap counting_in (same_names Commits (held_told m before) (calls_in m lane a c).opening (λ q under. same q (commit_apart q under)));
      each = λ v at.
          let names = (is.are_vacs).each v at in
          record { bytes = names.bytes; held = sym (same (vac_of v.frag) (commit_apart (vac_of v.frag) refl)) ∙ names.held; reads = names.reads };
    },
    of_kind is.swept,
  )
    where
      before : List Told
      before = (is.commits).before

      whole : told ≡ before ++ (is.commits).listing ∷ ((is.commits).later ++ rest)
      whole = place ∙ ap (λ l. l ++ rest) (is.commits).place ∙ append_assoc before ((is.commits).listing ∷ (is.commits).later) rest

      -- as it listed the commits the objects were as before its calls
      same : (q : Name) → (lease_of job ≡ Some q → ⊥) → map.get (held_told m before) q ≡ map.get (calls_in m lane a c).opening q
      same = as_before past early before ((is.commits).later ++ rest) (is.commits).listing whole (is.commits).own is.idle

      of_kind : IsToRemove (removal_set is.vacs) is.vacs n → IsSwept is.vacs n
      of_kind (OfCommit f at same) = inl (f, at, inl same)
      of_kind (OfPart f part at same) = inl (f, at, inr (inr (part, same)))
      of_kind (OfVac f at same) = inl (f, at, inr (inl same))
      of_kind (OfOther v at same) = inr (v, at, same)

  -- a lease that an unlock is to remove is one that it takes for dead
  may_unlock : (past : History) → Early i a → (seed by : ℕ) → job.command ≡ Unlock seed by → (seen rest : List Told) → told ≡ seen ++ rest → (n : Name) → IsToUnlock m seen i job n
      → Contains (dead_leases (calls_in m lane a c) seed by) n
  may_unlock past early seed by unlocks seen rest place n is =
      subst (λ l. Contains l n) (sym (one_unlock seed by is.seed is.lane (sym unlocks ∙ is.unlocks) (names_under Leases (held_told m before)))
      ∙ ap (leases_unlocked seed by) (same_names Leases (held_told m before) (calls_in m lane a c).opening (λ q under. same q unleased))) is.dead
    where
      before : List Told
      before = (is.leases).before

      whole : told ≡ before ++ (is.leases).listing ∷ ((is.leases).later ++ rest)
      whole = place ∙ ap (λ l. l ++ rest) (is.leases).place ∙ append_assoc before ((is.leases).listing ∷ (is.leases).later) rest

      -- an unlock has no lease
      unleased : {q : Name} → lease_of job ≡ Some q → ⊥
      unleased {q} has = none-some q (sym (ap (λ x. option_map (name.Lease (key_of job)) (mode_of x)) unlocks) ∙ has)

      same : (q : Name) → (lease_of job ≡ Some q → ⊥) → map.get (held_told m before) q ≡ map.get (calls_in m lane a c).opening q
      same = as_before past early before ((is.leases).later ++ rest) (is.leases).listing whole (is.leases).own is.idle

      one_unlock : (x y z w : ℕ) → Unlock x y ≡ Unlock z w → (names : List Name) → leases_unlocked x y names ≡ leases_unlocked z w names
      one_unlock x y z w same names =
          let seeds : x ≡ z = cc in
          let lanes : y ≡ w = cc in
          ap (λ s. leases_unlocked s y names) seeds ∙ ap (λ l. leases_unlocked z l names) lanes

  -- each call leaves an object as it was, or it is of a kind
  abbrev LeavesBut : (Name → Type 0) → Type 0
  LeavesBut kind =
      (front back : List Told) (e : Told) → told ≡ front ++ e ∷ back → e.job ≡ Some i → (n : Name) → (lease_of job ≡ Some n → ⊥) → (map.get (held_told m (front ++ e ∷ [])) n ≡ map.get (held_told m front) n) ⊎ kind n

  -- so do the calls of the command
  left_but : (kind : Name → Type 0) → LeavesBut kind → (seen rest : List Told) → told ≡ seen ++ rest → ((e : Told) → Contains rest e → e.job ≡ Some i) → (n : Name) → (lease_of job ≡ Some n → ⊥)
      → (map.get (held_told m told) n ≡ map.get (held_told m seen) n) ⊎ kind n
  left_but kind alone seen [] place own n other = inl (ap (λ t. map.get (held_told m t) n) (place ∙ append-nil seen))
  left_but kind alone seen (e ∷ rest) place own n other = elim (alone seen rest e place (own e (Contains-here e rest)) n other) [
    | inr is ↦ inr is
    | inl same ↦ elim (left_but kind alone (seen ++ e ∷ []) rest (place ∙ sym (append_assoc seen (e ∷ []) rest)) (λ x at. own x (Contains-there e rest x at)) n other) [
      | inl later ↦ inl (later ∙ same)
      | inr is ↦ inr is
    ]
  ]

  leaves_but : (kind : Name → Type 0) → LeavesBut kind → LeavesOthers (calls_in m lane a c) (key_of job) job.command kind
  leaves_but kind alone n other = elim (left_but kind alone a c parts mine n other) [
    | inl same ↦ inl (ap (λ h. map.get h n) (sym later_is) ∙ same ∙ ap (λ h. map.get h n) opening_is)
    | inr is ↦ inr is
  ]

  -- a vacuum leaves all but its lease and what it may remove
  pub leaves_others : (past : History) → Early i a → SweepsAlone m told i job → LeavesOthers (calls_in m lane a c) (key_of job) job.command (MaySweep (calls_in m lane a c))
  leaves_others past early alone = leaves_but (MaySweep (calls_in m lane a c)) (λ front back e place own n other. elim (alone front back e place own n other) [
    | inl same ↦ inl same
    | inr swept ↦ inr (may_sweep past early front (e ∷ back) place n swept)
  ])

  -- an unlock leaves all but the leases that it takes for dead
  pub leaves_living : (past : History) → Early i a → (seed by : ℕ) → job.command ≡ Unlock seed by → UnlocksAlone m told i job
      → LeavesOthers (calls_in m lane a c) (key_of job) job.command (Contains (dead_leases (calls_in m lane a c) seed by))
  leaves_living past early seed by unlocks alone = leaves_but (Contains (dead_leases (calls_in m lane a c) seed by)) (λ front back e place own n other. elim (alone front back e place own n) [
    | inl same ↦ inl same
    | inr dead ↦ inr (may_unlock past early seed by unlocks front (e ∷ back) place n dead)
  ])

  -- another command leaves all but its own
  pub leaves_but_own : PutsAlone m told i job → LeavesOthers (calls_in m lane a c) (key_of job) job.command (IsOwn (key_of job) job.command)
  leaves_but_own alone = leaves_but (IsOwn (key_of job) job.command) alone
