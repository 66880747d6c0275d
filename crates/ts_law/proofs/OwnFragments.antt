-- As long as no vacuum makes a call each write stays in its own fragment.
use Rattle.std.proofs.Common.{◌≡◌, ℕ, Bool, true, false, cond, ◌⊎◌, inl, inr, List, [], ◌∷◌, ◌++◌, Option, Some, None, refl, sym, ◌∙◌, ap, subst, append_assoc}
use Rattle.std.specs.Prelude.{All, Contains, option_map, option_and_then, option_to_list, slice_get}
use Rattle.std.proofs.lemmas.Bool.{true≢false}
use Rattle.std.proofs.lemmas.List.{append-nil}
use Rattle.std.proofs.lemmas.List.Elements.{All-head, All-tail, Contains-append_cases, Contains-append_right}
use Rattle.std.proofs.lemmas.Option.{none-some, same_Some}
use Rattle.std.specs.FinMap as map
use Rattle.ts_base.specs.declared.keys.Key.{Key}
use Rattle.ts_base.specs.declared.keys.FragKey.{FragKey}
use Rattle.ts_base.specs.declared.heads.Piece.{Piece}
use Rattle.ts_base.specs.declared.names.CommitKind.TheVariants.{Del, Vac, Wrt}
use Rattle.ts_base.specs.declared.names.LeaseMode.{LeaseMode}
use Rattle.ts_base.specs.declared.names.Name.{Name}
use Rattle.ts_base.specs.declared.names.Name.TheVariants as name
use Rattle.ts_base.specs.Keys.{frag_of}
use Rattle.ts_base.specs.Names.{wrt_of}
use Rattle.ts_base.specs.Held.{Held}
use Rattle.ts_store.specs.declared.call.Call.{Call}
use Rattle.ts_store.specs.declared.call.Call.TheVariants as call
use Rattle.ts_commit.specs.Selections.{has_origin}
use Rattle.ts_model.specs.declared.commands.Command.{Command}
use Rattle.ts_model.specs.declared.commands.Command.TheVariants.{Create, Evolve, Write, Read, Delete, Consolidate, Vacuum, Unlock, Fragments}
use Rattle.ts_model.specs.declared.commands.Job.{Job}
use Rattle.ts_model.specs.declared.commands.WriteIn.{WriteIn}
use Rattle.ts_model.specs.declared.deeds.Deed.{Deed}
use Rattle.ts_model.specs.declared.deeds.Deed.TheVariants.{Declared, Erased, Framed, Wrote}
use Rattle.ts_model.specs.declared.deeds.Written.{Written}
use Rattle.ts_model.specs.Codecs.{Codec, CodecLaws, Spelled, Tracking}
use Rattle.ts_model.specs.Commands.{frame_made}
use Rattle.ts_model.specs.Deeds.{History, IsNewKey, writes}
use Rattle.ts_model.specs.Driven.{MayAsk}
use Rattle.ts_model.specs.Jobs.{key_of}
use Rattle.ts_model.specs.Stages.{stage_of}
use Rattle.ts_model.specs.States.{made_by}
use Rattle.ts_model.specs.Told.{IsReplied, Replied, Told, after_told, declared_by, deed_in, deed_of, deed_told, deleted_by, grown, held_told, history_told, schemas_found, trace_of, written_by}
use Rattle.ts_model.proofs.HistoryLaws.{writes-append}
use Rattle.ts_model.proofs.ListLemmas.{Contains-nil, Contains-only}
use Rattle.ts_model.proofs.Traces.{deed_told_own, history_told-push}
use Rattle.ts_law.specs.Kept.{AreAllowed, HeldSince, Kept, MayCome}
use Rattle.ts_law.specs.Stands.{EachInItsOwn, HoldsIn, IsCommitted, IsReached, Stands, WentInto}
use Rattle.ts_law.specs.Sweeps.{IsNoSweep, StayInTheirOwn}
use Rattle.ts_law.proofs.Broken.{drop_kept}
use Rattle.ts_law.proofs.DeedKeys.{written_key_is}
use Rattle.ts_law.proofs.Effects.{Added, PutWent, Still, put_went}
use Rattle.ts_law.proofs.Fetches.{one_head}
use Rattle.ts_law.proofs.Grows.{holds_in_grows, holds_on_in, key_in_writes}
use Rattle.ts_law.proofs.HeldLemmas.{Holds-from_get, bytes_there, get_put, held_before}
use Rattle.ts_law.proofs.JournalHistories.{IsALease, PutsAFrame, PutsItsOwn, put_staged}
use Rattle.ts_law.proofs.KeptLaws.{AreAllowed-parts, Replied-front, step_held, step_kept}
use Rattle.ts_law.proofs.MergeSources.{new_later}
use Rattle.ts_law.proofs.OriginLaws.{key_there}

-- ---- the put that does a write

-- a write that is a deed is of a write command
written_command : (h : History) (job : Job) (found : Option (List Key)) (c : Command) (w : Written) → written_by h job found c ≡ Some w → (columns : WriteIn) × (c ≡ Write columns)
written_command h job found (Write columns) w is = (columns, refl)
written_command h job found (Create f) w is = absurd (none-some w is)
written_command h job found (Evolve change) w is = absurd (none-some w is)
written_command h job found (Read from to query) w is = absurd (none-some w is)
written_command h job found (Delete text) w is = absurd (none-some w is)
written_command h job found (Consolidate from to limits) w is = absurd (none-some w is)
written_command h job found Vacuum w is = absurd (none-some w is)
written_command h job found (Unlock seed lane) w is = absurd (none-some w is)
written_command h job found Fragments w is = absurd (none-some w is)

-- what is made of something is made of it alone
made_of : {A : Type 0} (make : A → Deed) (o : Option A) (d : Deed) → option_map make o ≡ Some d → (a : A) × (o ≡ Some a) × (make a ≡ d)
made_of make None d is = absurd (none-some d is)
made_of make (Some a) d is = (a, refl, same_Some (make a) d is)

-- the put by which a write is done: of a `.wrt`, by a job that writes
record IsWritePut (h : History) (job : Job) (found : Option (List Key)) (n : Name) (w : Written) : Type 0 where
  frag : FragKey
  named : n ≡ wrt_of frag
  columns : WriteIn
  writes_them : job.command ≡ Write columns
  key : w.key ≡ key_of job

write_put : (h : History) (job : Job) (found : Option (List Key)) (n : Name) (w : Written) → deed_of h job found n ≡ Some (Wrote w) → IsWritePut h job found n w
write_put h job found name.Domain w is = let (f, some, same) = made_of (λ f. Framed (frame_made f)) (made_by job.command) (Wrote w) is in cc
write_put h job found (name.Schema k) w is = let (s, some, same) = made_of Declared (declared_by h job found job.command) (Wrote w) is in cc
write_put h job found (name.Commit f Wrt) w is =
    let (v, some, same) = made_of Wrote (written_by h job found job.command) (Wrote w) is in
    let it : v ≡ w = one_write v w same in
    let (columns, writes_them) = written_command h job found job.command v some in
    record { frag = f; named = refl; columns = columns; writes_them = writes_them; key = ap (λ x. x.key) (sym it) ∙ written_key_is h job found job.command v some }
  where
    one_write : (x y : Written) → Wrote x ≡ Wrote y → x ≡ y
    one_write x y same = cc
write_put h job found (name.Commit f Del) w is = let (x, some, same) = made_of Erased (deleted_by h job found job.command) (Wrote w) is in cc
write_put h job found (name.Commit f Vac) w is = absurd (none-some (Wrote w) is)
write_put h job found (name.Part f part) w is = absurd (none-some (Wrote w) is)
write_put h job found (name.Lease k mode) w is = absurd (none-some (Wrote w) is)

-- ---- one call

module _ {F : Type 0} (codec : Codec F) (spelled : Spelled) (tracks : Tracking F) (laws : CodecLaws codec spelled tracks) (opening : Held) (past : History) (jobs : List Job) where
  module _ (dead : List ℕ) (seen : List Told) (m : Held) (e : Told) (kept : Kept codec spelled tracks opening past jobs dead seen m) (may : MayCome codec jobs dead seen e) (replied : IsReplied m e) (other : IsNoSweep jobs e) where
    -- the history before the call, and what the call appends
    abbrev h : History
    h = history_told jobs past seen

    abbrev more : History
    more = grown jobs h seen e

    -- what is held after it
    abbrev m' : Held
    m' = after_told m e

    same_history : history_told jobs past (seen ++ e ∷ []) ≡ h ++ more
    same_history = history_told-push jobs past seen e

    stands_now : Stands spelled m' (h ++ more)
    stands_now = subst (Stands spelled m') same_history (step_kept codec spelled tracks laws opening past jobs dead seen m e kept may replied).stands

    new : (w : Written) → Contains (writes more) w → IsNewKey h w.key
    new = new_later h more stands_now.history

    held : HeldSince m m'
    held = step_held codec spelled tracks laws opening past jobs dead seen m e kept may replied other

    -- a committed fragment stays committed, and holds what it held
    committed_on : (f : FragKey) → IsCommitted m f → IsCommitted m' f
    committed_on f committed = let found = bytes_there m (wrt_of f) committed in Holds-from_get m' (wrt_of f) found.0 (held (wrt_of f) found.0 tt found.1)

    holds_on : (f : FragKey) (p : Piece) → HoldsIn spelled h m f p → HoldsIn spelled (h ++ more) m' f p
    holds_on f p holds = holds_on_in spelled (h ++ more) m m' f p (λ part bytes there. held (name.Part f part) bytes tt there) (holds_in_grows h more new spelled m f p holds)

    -- a write is in its own fragment
    abbrev IsInItsOwn : Written → Type 0
    IsInItsOwn w = IsCommitted m' (frag_of w.key) × WentInto spelled (h ++ more) m' (frag_of w.key) w.key

    -- one of before is so still
    old_write : (w : Written) → IsCommitted m (frag_of w.key) × WentInto spelled h m (frag_of w.key) w.key → IsInItsOwn w
    old_write w own = (committed_on (frag_of w.key) own.0, record { piece = (own.1).piece; holds = holds_on (frag_of w.key) (own.1).piece (own.1).holds; origin = (own.1).origin })

    -- one that comes with its `.wrt` is so
    module _ (w : Written) (at : Contains (writes more) w) (bytes : List ℕ) (same_held : m' ≡ map.insert m (wrt_of (frag_of w.key)) bytes) where
      abbrev own : FragKey
      own = frag_of w.key

      own_committed : IsCommitted m' own
      own_committed = Holds-from_get m' (wrt_of own) bytes (ap (λ x. map.get x (wrt_of own)) same_held ∙ get_put m (wrt_of own) bytes)

      -- it went into no fragment that was committed before
      not_before : (f : FragKey) → IsCommitted m f → WentInto spelled (h ++ more) m' f w.key → ⊥
      not_before f committed went =
          let (q, holds) = (kept.stands).whole f committed in
          let same = one_head codec spelled tracks laws (h ++ more) m' f went.piece q went.holds (holds_on f q holds) in
          let it = (holds.holds).origins w.key (key_there w.key (q.head).origins (subst (λ x. has_origin w.key x ≡ true) same went.origin)) in
          key_in_writes h more new it.0 it.1 w.key it.2 (new w at)

      one_wrt : (f g : FragKey) → wrt_of f ≡ wrt_of g → f ≡ g
      one_wrt f g same = cc

      -- so it went into its own
      own_went : IsReached spelled (h ++ more) m' w.key → WentInto spelled (h ++ more) m' own w.key
      own_went is = elim (held_before m (wrt_of own) bytes (wrt_of is.frag) (subst (λ x. IsCommitted x is.frag) same_held is.committed)) [
        | inl before ↦ absurd (not_before is.frag before is.went)
        | inr same ↦ subst (λ f. WentInto spelled (h ++ more) m' f w.key) (one_wrt is.frag own same) is.went
      ]

      now_in_own : IsInItsOwn w
      now_in_own = (own_committed, own_went (stands_now.covered w (subst (λ ws. Contains ws w) (sym (writes-append h more)) (Contains-append_right (writes h) (writes more) w at))))

    -- a put of the `.wrt` that changed what is held added it
    added : (w : Written) → Contains (writes more) w → (bytes : List ℕ) → e.changed ≡ true → PutWent m (wrt_of (frag_of w.key)) bytes m' e.changed e.reply → IsInItsOwn w
    added w at bytes changed (Added free same_held is said) = now_in_own w at bytes same_held
    added w at bytes changed (Still same_held still not_made taken) = absurd (true≢false (sym changed ∙ still))

    -- a write that is the deed of the call
    by_deed : (w : Written) → Contains (writes more) w → e.changed ≡ true → deed_told jobs h seen e ≡ Some (Wrote w) → IsInItsOwn w
    by_deed w at changed is = by_maker may
      where
        by_maker : MayCome codec jobs dead seen e → IsInItsOwn w
        by_maker (inr broken) =
            absurd (none-some (Wrote w) (sym (ap (option_and_then (λ number. option_and_then (λ job. deed_in h job (schemas_found (trace_of number seen)) e.call) (slice_get jobs number))) broken.nobodys) ∙ is))
        by_maker (inl allowed) = by_call e.call refl (sym (deed_told_own jobs h seen e allowed.number allowed.job e.call allowed.own allowed.is_job refl) ∙ is)
          where
            found : Option (List Key)
            found = schemas_found (trace_of allowed.number seen)

            by_put : (n : Name) (bytes : List ℕ) → e.call ≡ call.Put n bytes → IsWritePut h allowed.job found n w → IsInItsOwn w
            by_put n bytes called puts = by_kind (put_staged codec spelled tracks laws opening past jobs seen m allowed.number allowed.job (stage_of codec allowed.job (trace_of allowed.number seen)) n bytes
                (kept.claims allowed.number allowed.job allowed.is_job allowed.alive) (subst (MayAsk codec allowed.job (stage_of codec allowed.job (trace_of allowed.number seen))) called allowed.asked))
              where
                no_frame : (f : FragKey) → name.Domain ≡ wrt_of f → ⊥
                no_frame f same = cc

                no_lease : (k : Key) (mode : LeaseMode) (f : FragKey) → name.Lease k mode ≡ wrt_of f → ⊥
                no_lease k mode f same = cc

                by_kind : (PutsAFrame allowed.job n bytes ⊎ PutsItsOwn past jobs seen allowed.number allowed.job n) ⊎ IsALease n → IsInItsOwn w
                by_kind (inr lease) = absurd (no_lease lease.0 lease.1 puts.frag (sym lease.2 ∙ puts.named))
                by_kind (inl (inl frame)) = absurd (no_frame puts.frag (sym frame.named ∙ puts.named))
                by_kind (inl (inr object)) =
                    let frag_is : puts.frag ≡ frag_of w.key = object.commits puts.frag puts.columns puts.named puts.writes_them ∙ ap frag_of (sym puts.key) in
                    let called_it : e.call ≡ call.Put (wrt_of (frag_of w.key)) bytes = called ∙ ap (λ x. call.Put x bytes) (puts.named ∙ ap wrt_of frag_is) in
                    added w at bytes changed (put_went m (wrt_of (frag_of w.key)) bytes e called_it replied)

            by_call : (c : Call) → e.call ≡ c → deed_in h allowed.job found c ≡ Some (Wrote w) → IsInItsOwn w
            by_call (call.Put n bytes) called deed = by_put n bytes called (write_put h allowed.job found n w deed)
            by_call (call.Remove n) called deed = absurd (none-some (Wrote w) deed)
            by_call (call.List p) called deed = absurd (none-some (Wrote w) deed)
            by_call (call.Get n from len) called deed = absurd (none-some (Wrote w) deed)
            by_call (call.Size n) called deed = absurd (none-some (Wrote w) deed)

    -- a write that the call appends
    new_write : (w : Written) → Contains (writes more) w → IsInItsOwn w
    new_write w at = by_changed e.changed (deed_told jobs h seen e) refl refl at
      where
        by_kind : (d : Deed) → e.changed ≡ true → deed_told jobs h seen e ≡ Some d → Contains (writes (d ∷ [])) w → IsInItsOwn w
        by_kind (Wrote v) changed is there = by_deed w at changed (is ∙ ap (λ x. Some (Wrote x)) (Contains-only v w there))
        by_kind (Framed x) changed is there = absurd (Contains-nil w there)
        by_kind (Declared x) changed is there = absurd (Contains-nil w there)
        by_kind (Erased x) changed is there = absurd (Contains-nil w there)

        by_changed : (changed : Bool) (o : Option Deed) → e.changed ≡ changed → deed_told jobs h seen e ≡ o → Contains (writes (cond changed (option_to_list o) [])) w → IsInItsOwn w
        by_changed false o changed is there = absurd (Contains-nil w there)
        by_changed true None changed is there = absurd (Contains-nil w there)
        by_changed true (Some d) changed is there = by_kind d changed is there

    -- so each write is in its own fragment after the call
    own_step : EachInItsOwn spelled m h → EachInItsOwn spelled m' (history_told jobs past (seen ++ e ∷ []))
    own_step before = subst (EachInItsOwn spelled m') (sym same_history) (λ w at. elim (Contains-append_cases (writes h) (writes more) w (subst (λ ws. Contains ws w) (writes-append h more) at)) [
      | inl old ↦ old_write w (before w old)
      | inr come ↦ new_write w come
    ])

  -- ---- all calls

  own_on : (dead last : List ℕ) (seen : List Told) (m : Held) (told : List Told) → Kept codec spelled tracks opening past jobs dead seen m → AreAllowed codec jobs dead last seen told → Replied m told
      → All (IsNoSweep jobs) told → EachInItsOwn spelled m (history_told jobs past seen) → EachInItsOwn spelled (held_told m told) (history_told jobs past (seen ++ told))
  own_on dead last seen m [] kept may replied others own = subst (λ t. EachInItsOwn spelled m (history_told jobs past t)) (sym (append-nil seen)) own
  own_on dead last seen m (e ∷ told) kept (now, among, comes, rest) replied others own =
      let then = drop_kept codec spelled tracks opening past jobs dead now seen m among kept in
      subst (λ t. EachInItsOwn spelled (held_told (after_told m e) told) (history_told jobs past t)) (append_assoc seen (e ∷ []) told)
      (own_on now last (seen ++ e ∷ []) (after_told m e) told (step_kept codec spelled tracks laws opening past jobs now seen m e then comes replied.0) rest replied.1 (All-tail (IsNoSweep jobs) e told others)
      (own_step now seen m e then comes replied.0 (All-head (IsNoSweep jobs) e told others) own))

  -- each write stays in its own fragment as long as no vacuum makes a call
  pub stays_own : (last : List ℕ) (told : List Told) → Kept codec spelled tracks opening past jobs [] [] opening → AreAllowed codec jobs [] last [] told → Replied opening told → StayInTheirOwn spelled jobs past opening told
  stays_own last told begins may replied own front back parts others =
      let (now, first, rest) = AreAllowed-parts codec jobs [] last [] front back (subst (AreAllowed codec jobs [] last []) parts may) in
      own_on [] now [] opening front begins first (Replied-front opening front back (subst (Replied opening) parts replied)) others own
