-- A job that works under a lease goes along its course, and ends by it.
use Rattle.std.proofs.Common.{length, ◌∙◌, ◌⊎◌, ◌≡◌, Bool, true, false, cond, ◌&&◌, ◌||◌, List, [], ◌∷◌, ◌++◌, Some, None, refl, sym, ap, inl, inr, subst}
use Rattle.std.specs.Prelude.{option_map}
use Rattle.std.specs.Option.{is_some, option_map_or}
use Rattle.std.proofs.lemmas.Bool.{true≢false}
use Rattle.std.proofs.lemmas.Option.{none-some, same_Some}
use Rattle.std.proofs.lemmas.List.Elements.{All-cons, All-nil, All-push}
use Rattle.ts_base.specs.Exact.{name_decides}
use Rattle.ts_base.specs.declared.names.LeaseMode.{LeaseMode}
use Rattle.ts_base.specs.declared.names.Name.{Name}
use Rattle.ts_lease.specs.Leases.{verdict_in}
use Rattle.ts_lease.specs.declared.verdicts.Verdict.{Verdict}
use Rattle.ts_lease.specs.declared.verdicts.Verdict.TheVariants as verdict
use Rattle.ts_store.specs.declared.call.Call.{Call}
use Rattle.ts_store.specs.declared.call.Reply.{Reply}
use Rattle.ts_model.specs.declared.answers.Outcome.{Outcome}
use Rattle.ts_model.specs.declared.commands.Job.{Job}
use Rattle.ts_model.specs.declared.states.Stage.{Stage}
use Rattle.ts_model.specs.declared.states.Stage.TheVariants.{ListsLeases, PutsLease, Releases, Works}
use Rattle.ts_model.specs.declared.states.State.TheVariants.{Over}
use Rattle.ts_model.specs.Codecs.{Codec}
use Rattle.ts_model.specs.Driven.{AskedFrom, EndsBy, MayAsk, lacks_after, lacks_from}
use Rattle.ts_model.specs.Jobs.{key_of, refused_before}
use Rattle.ts_model.specs.Stages.{after_lease, after_leases, begins_at, end_at, first_stage, goes_on, holds_lease, is_leased, is_release, is_removal, lease_of, mode_of, on_verdict, put_lease, released, releases, settled, stage_asks, stage_asks_memory, stage_from, stage_goes, stage_of, stage_takes_memory}
use Rattle.ts_model.specs.States.{Exchange, begun, end_by, list_leases, refuse}
use Rattle.ts_model.specs.Stops.{cuts}
use Rattle.ts_model.proofs.Lacks.{lacks-push, no_memory_ends, other_goes}
use Rattle.ts_model.proofs.Asked.{gives_up_held}
use Rattle.ts_law.specs.Courses.{Along, AreFound, EndsAlong, EndsUnder, FindsOpposed, Found, HasPut, HeedsLeases, IsCutOff, IsLookOf, LeaseEnds, MayEndAs, NotBegun, NotOwn, Removed, SaysFound, course_by, course_of, removal, under_lease}
use Rattle.ts_law.proofs.CourseCalls.{Ends, WorkAsks, WorkEnds, lacking, lacking_more, ends_along, ends_cons, follows_ended, follows_refused, work_from}
use Rattle.ts_law.proofs.CourseBacked.{AreBacked, IsIdle, backed_idle, backed_stays}
use Rattle.ts_law.proofs.CourseStages.{Closed, IsWas, Open, OpenAsks, Split, open-push, open_from, open_lacks, releasing_asks, settled_leased, split, work_open, work_was}
use Rattle.ts_law.proofs.CutOff.{as_if, found_before, last_same, backed_before, no_calls, Unmade, unmade_of}
use Rattle.ts_law.proofs.KeptLaws.{no_removal}
use Rattle.ts_law.proofs.LeaseSteps.{release_is}
use Rattle.ts_base.specs.declared.names.Name.TheVariants as name
use Rattle.ts_store.specs.declared.call.Call.TheVariants as call
use Rattle.ts_store.specs.declared.call.Reply.TheVariants as reply
use Rattle.ts_model.specs.declared.answers.Outcome.TheVariants as outcome
use Rattle.ts_model.specs.declared.answers.Refusal.TheVariants as refusal

-- a reply for want of memory does not say that a name was taken
not_taken : reply.NoMemory ≡ reply.Taken → ⊥
not_taken e = cc

-- a job that has a lease, says nothing of what it finds where it makes calls, and whose calls at its work go along its course
module _ {F : Type 0} (codec : Codec F) (job : Job) (mode : LeaseMode) (leased : mode_of job.command ≡ Some mode) (unrefused : refused_before job.command ≡ None) (silent : (found : Found) (c : Call) (r : Reply) → SaysFound found job.command c r) (none_found : Found) (none_idle : IsIdle none_found)
    (work_finds : (before xs : List Exchange) (end : Outcome) → WorkAsks codec job (begun job.command) xs → WorkEnds codec job (begun job.command) xs end → (found : Found) × (AreFound job found xs × Ends codec job before found (course_by codec job found job.command) xs end) × AreBacked codec job found (before ++ xs)) where
  -- its lease
  abbrev own_lease : Name
  own_lease = name.Lease (key_of job) mode

  some : lease_of job ≡ Some own_lease
  some = ap (option_map (name.Lease (key_of job))) leased

  -- the course of the job is that under its lease
  course_is : (found : Found) → course_of codec job found ≡ put_lease own_lease ∷ list_leases ∷ course_by codec job found job.command
  course_is found = ap (λ o. under_lease o (course_by codec job found job.command)) some

  -- neither the put of the lease nor the listing of the leases removes it
  put_other : is_release job (put_lease own_lease) ≡ false
  put_other = ap (λ o. option_map_or (is_removal (put_lease own_lease)) o false) some

  list_other : is_release job list_leases ≡ false
  list_other = ap (λ o. option_map_or (is_removal list_leases) o false) some

  -- the removal does
  removes : (r : Reply) → is_release job (removal own_lease r).call ≡ true
  removes r = ap (λ o. option_map_or (is_removal (call.Remove own_lease)) o false) some ∙ (name_decides own_lease own_lease).1 refl

  -- memory can be wanting after a call that does not remove the lease
  lacks_other : (before : Bool) (stage : Stage F) (x : Exchange) → is_release job x.call ≡ false → lacks_after codec job before stage x ≡ (stage_takes_memory stage || stage_asks_memory (stage_goes codec job stage x.reply))
  lacks_other before stage x other = ap (λ b. cond b before (stage_takes_memory stage || stage_asks_memory (cond b (releases stage (lease_of job) x.reply) (stage_goes codec job stage x.reply)))) other

  -- the put of it, with its reply
  abbrev lease_put : Reply → Exchange
  lease_put r = record { call = put_lease own_lease; reply = r }

  -- the listing of the leases, with its reply
  abbrev leases_listed : Reply → Exchange
  leases_listed r = record { call = list_leases; reply = r }

  -- after the listing of the leases memory can be wanting where the next call asks memory
  lacks_two : (y : Exchange) → is_release job y.call ≡ false → lacks_from codec job true (PutsLease own_lease) (lease_put reply.Made ∷ y ∷ []) ≡ stage_asks_memory {F = F} (after_leases own_lease (begun job.command) y.reply)
  lacks_two y other =
      let first : goes_on codec job (PutsLease own_lease) (lease_put reply.Made) ≡ ListsLeases own_lease = other_goes codec job (PutsLease own_lease) (lease_put reply.Made) put_other in
      let before = lacks_after codec job true (PutsLease own_lease) (lease_put reply.Made) in
      ap (λ g. lacks_after codec job before g y) first ∙ lacks_other before (ListsLeases own_lease) y other

  -- whether it can be after that listing
  abbrev lacks_at_list : Exchange → Bool
  lacks_at_list y = lacks_after codec job (lacks_after {F = F} codec job true (PutsLease own_lease) (lease_put reply.Made)) (ListsLeases own_lease) y

  -- and after the calls behind it
  lacks_behind : (y : Exchange) (ys : List Exchange) → is_release job y.call ≡ false
      → lacks_from codec job true (PutsLease own_lease) (lease_put reply.Made ∷ y ∷ ys) ≡ lacks_from codec job (lacks_at_list y) (after_leases own_lease (begun job.command) y.reply) ys
  lacks_behind y ys other =
      let first : goes_on codec job (PutsLease own_lease) (lease_put reply.Made) ≡ ListsLeases own_lease = other_goes codec job (PutsLease own_lease) (lease_put reply.Made) put_other in
      let before = lacks_after codec job true (PutsLease own_lease) (lease_put reply.Made) in
      ap (λ g. lacks_from codec job (lacks_after codec job before g y) (goes_on codec job g y) ys) first
      ∙ ap (λ g. lacks_from codec job (lacks_at_list y) g ys) (other_goes codec job (ListsLeases own_lease) y other)

  -- the course of the job at its work
  abbrev works_course : Found → List Call
  works_course found = course_by codec job found job.command

  -- its course up to the removal of the lease
  abbrev leased_course : Found → List Call
  leased_course found = put_lease own_lease ∷ list_leases ∷ works_course found

  -- something was found, and the calls up to the removal of the lease may come to this end
  abbrev ComesTo : List Exchange → Outcome → Type 0
  ComesTo front was = (found : Found) × AreFound job found front × EndsAlong codec job found (leased_course found) front was × AreBacked codec job found front

  -- an end along the course is one
  comes_to : (found : Found) (front : List Exchange) (was : Outcome) → AreFound job found front × Ends codec job [] found (leased_course found) front was → AreBacked codec job found front → ComesTo front was
  comes_to found front was h merged = (found, h.0, ends_along codec job found (leased_course found) front was h.1, merged)

  -- where a listing of the leases showed one that opposes its own, it was the last call, the lease is removed next, and no memory was wanting
  abbrev Heeds : List Exchange → Type 0
  Heeds front =
      (more : List Exchange) (other : Name) → FindsOpposed own_lease front more other
      → (more ≡ []) × (open_from codec job own_lease some (PutsLease own_lease) front ≡ Releases own_lease (outcome.Refused (refusal.Leased other))) × (lacks_from codec job true (PutsLease own_lease) front ≡ false)

  -- the calls before the removal of the lease: there is none, the name of the lease was taken, or the lease is held
  data Began (front : List Exchange) : Type 0 where
    NoCall : front ≡ [] → Began front
    WasTaken : front ≡ lease_put reply.Taken ∷ [] → Began front
    HeldLease : HasPut own_lease front → is_leased (open_from codec job own_lease some (PutsLease own_lease) front) ≡ true
        → ((was : Outcome) → IsWas codec job own_lease some (lacks_from codec job true (PutsLease own_lease) front) (open_from codec job own_lease some (PutsLease own_lease) front) was → ComesTo front was)
        → Heeds front → Began front

  -- so do calls of which the second one is no listing of the leases that told names
  none_listed : (front : List Exchange) → ((put : Exchange) (names : List Name) (more : List Exchange) → front ≡ put ∷ leases_listed (reply.Names names) ∷ more → ⊥) → Heeds front
  none_listed front none more other (put, names, is, opposes) = absurd (none put names more is)

  -- the end that such calls came to heeds the leases
  heeds_end : (front : List Exchange) → Heeds front → HeedsLeases own_lease front (end_at (open_from codec job own_lease some (PutsLease own_lease) front))
  heeds_end front heeds more other finds = let found = heeds more other finds in (found.0, ap end_at found.1)

  -- an end that the job may come to where it removes its lease is one that it came to, or want of memory
  of_was : (lacks : Bool) (e was : Outcome) → IsWas codec job own_lease some lacks (Releases own_lease e) was → WorkEnds codec job (Over e) [] was
  of_was lacks e was (inl (is, may)) = inl (ap Over (sym is))
  of_was lacks e was (inr (none, is)) = inr (none, inl refl)

  -- where the listing of the leases led
  after_list : (r : Reply) (ys : List Exchange) → OpenAsks codec job own_lease some (after_leases own_lease (begun job.command) r) ys → Began (lease_put reply.Made ∷ leases_listed r ∷ ys)
  after_list (reply.Names names) ys asked = by_verdict (verdict_in names own_lease) refl asked
    where
      y : Exchange
      y = leases_listed (reply.Names names)

      one_names : (x put : Exchange) (others : List Name) (more zs : List Exchange) → x ∷ y ∷ zs ≡ put ∷ leases_listed (reply.Names others) ∷ more → others ≡ names
      one_names x put others more zs same =
          let one : y ≡ leases_listed (reply.Names others) = cc in
          let replies : reply.Names names ≡ reply.Names others = ap (λ z. z.reply) one in
          cc

      not_held : {other : Name} → verdict.Granted ≡ verdict.Held other → ⊥
      not_held e = cc

      listed_same : (put : Exchange) (others : List Name) (more : List Exchange) → lease_put reply.Made ∷ y ∷ ys ≡ put ∷ leases_listed (reply.Names others) ∷ more → others ≡ names
      listed_same put others more same = one_names (lease_put reply.Made) put others more ys same

      by_verdict : (v : Verdict) → verdict_in names own_lease ≡ v → OpenAsks codec job own_lease some (on_verdict own_lease (begun job.command) v) ys → Began (lease_put reply.Made ∷ y ∷ ys)
      by_verdict verdict.Granted is a =
          let (work, same) = work_open codec job own_lease some (begun job.command) ys a in
          let leads : open_from codec job own_lease some (PutsLease own_lease) (lease_put reply.Made ∷ y ∷ ys) ≡ settled (Some own_lease) (work_from codec job (begun job.command) ys) =
          ap (λ v. open_from codec job own_lease some (on_verdict own_lease (begun job.command) v) ys) is ∙ same in
          HeldLease (refl, λ e. cc) (ap is_leased leads ∙ settled_leased codec job own_lease some (work_from codec job (begun job.command) ys))
          (λ was is_was.
          let short : Bool = lacks_from codec job true (PutsLease own_lease) (lease_put reply.Made ∷ y ∷ ys) in
          let wanting : short ≡ true → lacking codec job true (begun job.command) ys ≡ true =
          λ lacks.
          let before = lacks_at_list y in
          let at : lacks_from codec job before (on_verdict own_lease (begun job.command) (verdict_in names own_lease)) ys ≡ lacking codec job before (begun job.command) ys =
          ap (λ v. lacks_from codec job before (on_verdict own_lease (begun job.command) v) ys) is ∙ open_lacks codec job own_lease some before (begun job.command) ys a in
          lacking_more codec job before (begun job.command) ys (sym (lacks_behind y ys list_other ∙ at) ∙ lacks) in
          let ends = work_was codec job own_lease some short (begun job.command) ys was wanting (subst (λ g. IsWas codec job own_lease some short g was) leads is_was) in
          let (found, (said, ended), merged) = work_finds (lease_put reply.Made ∷ y ∷ []) ys was work ends in
          comes_to found (lease_put reply.Made ∷ y ∷ ys) was (
            All-cons (λ z. SaysFound found job.command z.call z.reply) (lease_put reply.Made) (y ∷ ys) (silent found (put_lease own_lease) reply.Made) (All-cons (λ z. SaysFound found job.command z.call z.reply) y ys (silent found list_leases (reply.Names names)) said),
            ends_cons codec job [] found (leased_course found) (list_leases ∷ works_course found) (lease_put reply.Made) (y ∷ ys) was refl (inr refl) (λ _ _ e. cc)
                (ends_cons codec job (lease_put reply.Made ∷ []) found (list_leases ∷ works_course found) (works_course found) y ys was refl (inr refl) (λ _ _. tt) ended),
          ) merged)
          (λ more other (put, others, same, opposes).
          let same_names : others ≡ names = listed_same put others more same in
          let granted : verdict.Granted ≡ verdict.Held other = sym is ∙ ap (λ ns. verdict_in ns own_lease) (sym same_names) ∙ opposes in
          absurd (not_held granted))
      by_verdict (verdict.Held other) is a =
          let none = releasing_asks codec job own_lease some (outcome.Refused (refusal.Leased other)) ys a in
          let at : on_verdict own_lease (begun job.command) (verdict_in names own_lease) ≡ Releases own_lease (outcome.Refused (refusal.Leased other)) = ap (on_verdict own_lease (begun job.command)) is in
          subst (λ t. Began (lease_put reply.Made ∷ y ∷ t)) (sym none)
          (HeldLease (refl, λ e. cc) (ap is_leased at)
          (λ was is_was.
          let found = none_found in
          let short : Bool = lacks_from codec job true (PutsLease own_lease) (lease_put reply.Made ∷ y ∷ []) in
          let ends : WorkEnds codec job (refuse (refusal.Leased other)) [] was = of_was short (outcome.Refused (refusal.Leased other)) was (subst (λ g. IsWas codec job own_lease some short g was) at is_was) in
          let told = follows_refused codec job (lease_put reply.Made ∷ []) found (list_leases ∷ works_course found) (works_course found) y [] was (refusal.Leased other) (silent found list_leases (reply.Names names)) (inr (refl, tt)) (own_lease, some, names, refl, is) tt ends in
          comes_to found (lease_put reply.Made ∷ y ∷ []) was (
            All-cons (λ z. SaysFound found job.command z.call z.reply) (lease_put reply.Made) (y ∷ []) (silent found (put_lease own_lease) reply.Made) told.0,
            ends_cons codec job [] found (leased_course found) (list_leases ∷ works_course found) (lease_put reply.Made) (y ∷ []) was refl (inr refl) (λ _ _ e. cc) told.1,
          ) (backed_idle codec job found (lease_put reply.Made ∷ y ∷ []) none_idle))
          (λ more another (put, others, same, opposes).
          let same_names : others ≡ names = one_names (lease_put reply.Made) put others more [] same in
          let held : verdict.Held other ≡ verdict.Held another = sym is ∙ ap (λ ns. verdict_in ns own_lease) (sym same_names) ∙ opposes in
          let one : other ≡ another = cc in
          let last : more ≡ [] = cc in
          (last, at ∙ ap (λ o. Releases own_lease (outcome.Refused (refusal.Leased o))) one, lacks_two y list_other ∙ ap stage_asks_memory at)))
  after_list r ys asked =
      let none = releasing_asks codec job own_lease some (end_by list_leases r) ys asked in
      subst (λ t. Began (lease_put reply.Made ∷ leases_listed r ∷ t)) (sym none)
      (HeldLease (refl, λ e. cc) refl
      (λ was is_was.
      let found = none_found in
      let told = follows_ended codec job (lease_put reply.Made ∷ []) found (list_leases ∷ works_course found) (works_course found) list_leases r [] was tt (silent found list_leases r) (inr (refl, tt)) tt (of_was (lacks_from codec job true (PutsLease own_lease) (lease_put reply.Made ∷ leases_listed r ∷ [])) (end_by list_leases r) was is_was) in
      comes_to found (lease_put reply.Made ∷ leases_listed r ∷ []) was (
        All-cons (λ z. SaysFound found job.command z.call z.reply) (lease_put reply.Made) (leases_listed r ∷ []) (silent found (put_lease own_lease) reply.Made) told.0,
        ends_cons codec job [] found (leased_course found) (list_leases ∷ works_course found) (lease_put reply.Made) (leases_listed r ∷ []) was refl (inr refl) (λ _ _ e. cc) told.1,
      ) (backed_idle codec job found (lease_put reply.Made ∷ leases_listed r ∷ []) none_idle))
      (none_listed (lease_put reply.Made ∷ leases_listed r ∷ [])
      (λ put names more same.
      let one : leases_listed r ≡ leases_listed (reply.Names names) = cc in
      let replies : r ≡ reply.Names names = ap (λ z. z.reply) one in
      cc)))

  -- where the put of the lease led
  after_put : (r : Reply) (xs : List Exchange) → OpenAsks codec job own_lease some (after_lease own_lease r) xs → Began (lease_put r ∷ xs)
  after_put reply.Made [] asked =
      HeldLease (refl, λ e. cc) refl
      (λ was is_was.
      let found = none_found in
      let none : was ≡ outcome.OutOfMemory = elim is_was [ inl is ↦ is.0 | inr is ↦ is.0 ] in
      comes_to found (lease_put reply.Made ∷ []) was (
        All-cons (λ z. SaysFound found job.command z.call z.reply) (lease_put reply.Made) [] (silent found (put_lease own_lease) reply.Made) (All-nil (λ z. SaysFound found job.command z.call z.reply)),
        subst (Ends codec job [] found (leased_course found) (lease_put reply.Made ∷ [])) (sym none) (inr (lease_put reply.Made, record { front = []; left = leased_course found; rest = list_leases ∷ works_course found; parts = refl; along = refl; next = inr refl }, λ e. cc)),
      ) (backed_idle codec job found (lease_put reply.Made ∷ []) none_idle))
      (none_listed (lease_put reply.Made ∷ []) (λ put names more same. cc))
  after_put reply.Made (y ∷ ys) (asked, other, rest) =
      subst (λ c. Began (lease_put reply.Made ∷ record { call = c; reply = y.reply } ∷ ys)) (same_Some list_leases y.call asked) (after_list y.reply ys rest)
  after_put reply.Taken [] asked = WasTaken refl
  after_put reply.Taken (y ∷ ys) asked = absurd (none-some y.call asked.0)
  after_put r xs asked =
      let none = releasing_asks codec job own_lease some (end_by (put_lease own_lease) r) xs asked in
      subst (λ t. Began (lease_put r ∷ t)) (sym none)
      (HeldLease (refl, λ e. cc) refl
      (λ was is_was.
      let found = none_found in
      comes_to found (lease_put r ∷ []) was
      (follows_ended codec job [] found (leased_course found) (list_leases ∷ works_course found) (put_lease own_lease) r [] was tt (silent found (put_lease own_lease) r) (inr (refl, λ e. cc)) tt (of_was (lacks_from codec job true (PutsLease own_lease) (lease_put r ∷ [])) (end_by (put_lease own_lease) r) was is_was)) (backed_idle codec job found (lease_put r ∷ []) none_idle))
      (none_listed (lease_put r ∷ []) (λ put names more same. cc)))

  -- the calls before the removal of the lease
  began : (front : List Exchange) → OpenAsks codec job own_lease some (PutsLease own_lease) front → Began front
  began [] asked = NoCall refl
  began (x ∷ xs) (asked, other, rest) = subst (λ c. Began (record { call = c; reply = x.reply } ∷ xs)) (same_Some (put_lease own_lease) x.call asked) (after_put x.reply xs rest)

  -- one more call leads on from where those before it have led
  open_from-push : (g : Stage F) (xs : List Exchange) (x : Exchange) → open_from codec job own_lease some g (xs ++ x ∷ []) ≡ stage_goes codec job (open_from codec job own_lease some g xs) x.reply
  open_from-push g [] x = refl
  open_from-push g (y ∷ xs) x = open_from-push (stage_goes codec job g y.reply) xs x

  -- a job under its lease for whose call there was no memory removes the lease
  short_releases : (g : Stage F) (c : Call) → stage_asks codec job g ≡ Some c → is_leased (stage_goes codec job g reply.NoMemory) ≡ true → (own : Name) × (stage_goes codec job g reply.NoMemory ≡ Releases own outcome.OutOfMemory)
  short_releases (PutsLease lease) c asked held = (lease, refl)
  short_releases (ListsLeases lease) c asked held = (lease, refl)
  short_releases (Works s) c asked held = (own_lease, ap (settled (lease_of job)) (no_memory_ends F codec job s c asked) ∙ ap (λ o. settled o (Over outcome.OutOfMemory)) some)
  short_releases (Releases lease end) c asked held = absurd (true≢false (sym held))

  -- a lease that is not put is not removed
  none_before : MayAsk codec job (PutsLease own_lease) (call.Remove own_lease) → ⊥
  none_before (inl asked) = no_removal own_lease own_lease [] (sym (same_Some (put_lease own_lease) (call.Remove own_lease) asked))
  none_before (inr gives_up) = true≢false (sym (gives_up_held {F = F} job (PutsLease own_lease) gives_up.1) ∙ ap (λ o. is_some o && false) some)

  -- nor does a job that is over make a call
  none_over : (end : Outcome) (c : Call) → MayAsk codec job (Works (Over end)) c → ⊥
  none_over end c (inl asked) = none-some c asked
  none_over end c (inr gives_up) = true≢false (sym (gives_up_held {F = F} job (Works (Over end)) gives_up.1) ∙ ap (λ o. is_some o && false) some)

  -- where its lease is removed at the end of its calls, the job may end so
  removed_ends : (front : List Exchange) (r : Reply) (was end : Outcome) → HasPut own_lease front → HeedsLeases own_lease front was → ComesTo front was → end ≡ released own_lease was r
      → (found : Found) × AreFound job found (front ++ removal own_lease r ∷ []) × AreBacked codec job found (front ++ removal own_lease r ∷ []) × LeaseEnds codec job found own_lease (front ++ removal own_lease r ∷ []) end
  removed_ends front r was end put heeds (found, told, ended, merged) is = (
    found,
    All-push (λ z. SaysFound found job.command z.call z.reply) front (removal own_lease r) told (silent found (call.Remove own_lease) r),
    backed_stays codec job found front (removal own_lease r ∷ []) merged,
    Removed front r was refl put heeds (subst (λ course. EndsAlong codec job found course front was) (sym (course_is found)) ended) is,
  )

  -- where calls lead the job
  abbrev led_to : List Exchange → Stage F
  led_to front = stage_from codec job (PutsLease own_lease) front

  -- the job ends where its calls have led it, or for want of memory
  abbrev EndsLed : List Exchange → Outcome → Type 0
  EndsLed front end = (led_to front ≡ Works (Over end)) ⊎ ((end ≡ outcome.OutOfMemory) × (is_leased (led_to front) ≡ false) × (lacks_from codec job true (PutsLease own_lease) front ≡ true))

  -- the first stage is the put of the lease
  first_is : first_stage {F = F} job ≡ PutsLease own_lease
  first_is = ap (λ o. begins_at o (begun job.command)) some

  ends_led : (front : List Exchange) (end : Outcome) → EndsBy codec job front end → EndsLed front end
  ends_led front end (inl over) = inl (subst (λ g. stage_from codec job g front ≡ Works (Over end)) first_is over)
  ends_led front end (inr (none, (free, lacks))) = inr (
    none,
    ap (λ o. is_some o && is_leased (led_to front)) (sym some) ∙ subst (λ g. holds_lease job (stage_from codec job g front) ≡ false) first_is free,
    subst (λ g. lacks_from codec job true g front ≡ true) first_is lacks,
  )

  -- the job ends as one may that has a lease
  pub leased_finds : (whole : List Exchange) (end : Outcome) → AskedFrom codec job (first_stage job) whole → EndsBy codec job whole end
      → (found : Found) × AreFound job found whole × AreBacked codec job found whole × MayEndAs codec job found whole end (refused_before job.command)
  leased_finds whole end asked ends =
      let (found, told, merged, ended) = by_split (split codec job own_lease some (PutsLease own_lease) whole (subst (λ g. AskedFrom codec job g whole) first_is asked)) in
      (found, told, merged, subst (MayEndAs codec job found whole end) (sym unrefused) (subst (λ o. EndsUnder codec job found o whole end) (sym some) ended))
    where
      g_of : List Exchange → Stage F
      g_of front = open_from codec job own_lease some (PutsLease own_lease) front

      quiet : (xs : List Exchange) → AreFound job none_found xs
      quiet [] = All-nil (λ z. SaysFound none_found job.command z.call z.reply)
      quiet (x ∷ xs) = All-cons (λ z. SaysFound none_found job.command z.call z.reply) x xs (silent none_found x.call x.reply) (quiet xs)

      one_end : (o e : Outcome) → ◌≡◌ {A = Stage F} (Works (Over o)) (Works (Over e)) → e ≡ o
      one_end o e same = cc

      not_held : (g : Stage F) → is_leased g ≡ true → g ≡ Works (Over end) → ⊥
      not_held g held over = true≢false (sym held ∙ ap is_leased over)

      Comes : List Exchange → Type 0
      Comes front = (found : Found) × AreFound job found front × AreBacked codec job found front × LeaseEnds codec job found own_lease front end

      taken_ends : (front : List Exchange) → front ≡ lease_put reply.Taken ∷ [] → led_to front ≡ g_of front → EndsLed front end → end ≡ outcome.Refused (refusal.Taken own_lease)
      taken_ends front is same (inl over) = one_end (outcome.Refused (refusal.Taken own_lease)) end (sym (ap g_of is) ∙ sym same ∙ over)
      taken_ends front is same (inr short) = absurd (true≢false (sym short.2 ∙ ap (lacks_from codec job true (PutsLease own_lease)) is ∙ lacks_other true (PutsLease own_lease) (lease_put reply.Taken) put_other))

      at_first : (front : List Exchange) → front ≡ [] → EndsLed front end → end ≡ outcome.OutOfMemory
      at_first front is (inl over) = absurd (not_work (sym (ap led_to is) ∙ over))
        where
          not_work : ◌≡◌ {A = Stage F} (PutsLease own_lease) (Works (Over end)) → ⊥
          not_work e = cc
      at_first front is (inr short) = short.0

      by_open : (front : List Exchange) → led_to front ≡ g_of front → EndsLed front end → Began front → Comes front
      by_open front same e (NoCall none) = (none_found, quiet front, backed_idle codec job none_found front none_idle, NotBegun none (at_first front none e))
      by_open front same e (WasTaken is) = (none_found, quiet front, backed_idle codec job none_found front none_idle, NotOwn is (taken_ends front is same e))
      by_open front same (inl over) (HeldLease put held comes heeds) = absurd (not_held (g_of front) held (sym same ∙ over))
      by_open front same (inr short) (HeldLease put held comes heeds) = absurd (true≢false (sym (ap is_leased same ∙ held) ∙ short.1))

      lacked : (front : List Exchange) (r : Reply) → lacks_from codec job true (PutsLease own_lease) (front ++ removal own_lease r ∷ []) ≡ true → lacks_from codec job true (PutsLease own_lease) front ≡ true
      lacked front r lacks =
          let before = lacks_from codec job true (PutsLease own_lease) front in
          let here = led_to front in
          let x = removal own_lease r in
          sym (lacks-push codec job true (PutsLease own_lease) front x ∙ ap (λ b. cond b before (stage_takes_memory here || stage_asks_memory (goes_on codec job here x))) (removes r)) ∙ lacks

      by_closed : (front : List Exchange) (r : Reply) → MayAsk codec job (g_of front) (call.Remove own_lease) → led_to (front ++ removal own_lease r ∷ []) ≡ Works (Over (released own_lease (end_at (g_of front)) r))
          → EndsLed (front ++ removal own_lease r ∷ []) end → Began front → Comes (front ++ removal own_lease r ∷ [])
      by_closed front r may same e (NoCall none) = absurd (none_before (subst (λ t. MayAsk codec job (g_of t) (call.Remove own_lease)) none may))
      by_closed front r may same e (WasTaken is) = absurd (none_over (outcome.Refused (refusal.Taken own_lease)) (call.Remove own_lease) (subst (λ t. MayAsk codec job (g_of t) (call.Remove own_lease)) is may))
      by_closed front r may same (inl over) (HeldLease put held comes heeds) =
          removed_ends front r (end_at (g_of front)) end put (heeds_end front heeds) (comes (end_at (g_of front)) (inl (refl, inr may))) (one_end (released own_lease (end_at (g_of front)) r) end (sym same ∙ over))
      by_closed front r may same (inr short) (HeldLease put held comes heeds) = removed_ends front r outcome.OutOfMemory end put (λ more other finds. absurd (true≢false (sym (lacked front r short.2) ∙ (heeds more other finds).2))) (comes outcome.OutOfMemory (inr (refl, lacked front r short.2))) short.0

      by_split : Split codec job own_lease some (PutsLease own_lease) whole → Comes whole
      by_split (Open opened same) = by_open whole same (ends_led whole end ends) (began whole opened)
      by_split (Closed front r parts opened may same) =
          subst Comes (sym parts)
          (by_closed front r may (subst (λ t. led_to t ≡ Works (Over (released own_lease (end_at (g_of front)) r))) parts same) (subst (λ t. EndsLed t end) parts (ends_led whole end ends)) (began front opened))

  -- the job is cut off by its stop
  pub leased_cut : (whole : List Exchange) (c : Call) → AskedFrom codec job (first_stage job) whole → MayAsk codec job (stage_of codec job whole) c → cuts job.stop (length whole) c ≡ true
      → (found : Found) × AreFound job found whole × AreBacked codec job found whole × IsCutOff codec job found whole
  leased_cut whole c asked asks_it cut = by_split (split codec job own_lease some (PutsLease own_lease) whole (subst (λ g. AskedFrom codec job g whole) first_is asked))
    where
      may : MayAsk codec job (led_to whole) c
      may = subst (λ g. MayAsk codec job (stage_from codec job g whole) c) first_is asks_it

      g_of : List Exchange → Stage F
      g_of front = open_from codec job own_lease some (PutsLease own_lease) front

      Cut : Type 0
      Cut = (found : Found) × AreFound job found whole × AreBacked codec job found whole × IsCutOff codec job found whole

      along_course : (found : Found) (course : List Call) → course_of codec job found ≡ course → (left : List Call) → Along (IsLookOf codec job found) [] course whole left → Along (IsLookOf codec job found) [] (course_of codec job found) whole left
      along_course found course is left h = subst (λ k. Along (IsLookOf codec job found) [] k whole left) (sym is) h

      at_removal : MayAsk codec job (g_of whole) (call.Remove own_lease) → cuts job.stop (length whole) (call.Remove own_lease) ≡ true → Began whole → Cut
      at_removal m k (NoCall none) = absurd (none_before (subst (λ t. MayAsk codec job (g_of t) (call.Remove own_lease)) none m))
      at_removal m k (WasTaken is) = absurd (none_over (outcome.Refused (refusal.Taken own_lease)) (call.Remove own_lease) (subst (λ t. MayAsk codec job (g_of t) (call.Remove own_lease)) is m))
      at_removal m k (HeldLease put held comes heeds) =
          let (found, told, ended, merged) = comes (end_at (g_of whole)) (inl (refl, inr m)) in (
            found,
            told,
            merged,
            inr (record {
              lease = own_lease;
              own = some;
              was = end_at (g_of whole);
              put = put;
              heeds = heeds_end whole heeds;
              ended = subst (λ course. EndsAlong codec job found course whole (end_at (g_of whole))) (sym (course_is found)) ended;
              cut = k;
            }),
          )

      cut_along : (x : Exchange) → x ≡ as_if c → (found : Found) → AreFound job found (whole ++ x ∷ []) → EndsAlong codec job found (leased_course found) (whole ++ x ∷ []) outcome.OutOfMemory → AreBacked codec job found (whole ++ x ∷ []) → Heeds (whole ++ x ∷ []) → Cut
      cut_along x is found told ended merged heeds =
          let u : Unmade (IsLookOf codec job found) (leased_course found) whole c = unmade_of (IsLookOf codec job found) (leased_course found) whole c (elim (subst (λ y. EndsAlong codec job found (leased_course found) (whole ++ y ∷ []) outcome.OutOfMemory) is ended) [ inl made ↦ inl made | inr at ↦ inr (at.0, at.1) ]) in (
            found,
            found_before job found whole x told,
            backed_before codec job found whole c (subst (λ y. AreBacked codec job found (whole ++ y ∷ [])) is merged),
            inl (record {
              begins = unrefused;
              left = u.0;
              along = along_course found (leased_course found) (course_is found) u.0 u.2;
              unmade = c;
              rest = u.1;
              next = u.3;
              cut = cut;
              free = λ lease has more other (put_it, names, same, opposes).
                  let own : own_lease ≡ lease = same_Some own_lease lease (sym some ∙ has) in
                  no_calls more x (heeds (more ++ x ∷ []) other (put_it, names, ap (λ t. t ++ x ∷ []) same, ap (verdict_in names) own ∙ opposes)).0;
            }),
          )

      -- the stage to which want of memory for the call leads
      short_of : List Exchange → Stage F
      short_of front = open_from codec job own_lease some (PutsLease own_lease) front

      along : stage_asks codec job (g_of whole) ≡ Some c → (x : Exchange) → x ≡ as_if c → Began (whole ++ x ∷ []) → Cut
      along asks_next x is (NoCall none) = absurd (no_calls whole x none)
      along asks_next x is (WasTaken taken) = let last = last_same whole [] x (lease_put reply.Taken) taken in absurd (not_taken (ap (λ y. y.reply) (sym is ∙ last.1)))
      along asks_next x is (HeldLease put held comes heeds) =
          let leads : short_of (whole ++ x ∷ []) ≡ stage_goes codec job (g_of whole) reply.NoMemory = open_from-push (PutsLease own_lease) whole x ∙ ap (λ (y : Exchange). stage_goes codec job (g_of whole) y.reply) is in
          let (own, at) = short_releases (g_of whole) c asks_next (ap is_leased (sym leads) ∙ held) in
          let (found, told, ended, merged) = comes outcome.OutOfMemory (inl (sym (ap end_at (leads ∙ at)), inl (own, outcome.OutOfMemory, leads ∙ at))) in cut_along x is found told ended merged heeds

      by_kind : (b : Bool) → is_release job c ≡ b → OpenAsks codec job own_lease some (PutsLease own_lease) whole → led_to whole ≡ g_of whole → Cut
      by_kind true is opened same =
          let (lease, has, removes_it) = release_is job c is in
          let own : c ≡ call.Remove own_lease = removes_it ∙ ap call.Remove (sym (same_Some own_lease lease (sym some ∙ has))) in
          at_removal (subst (MayAsk codec job (g_of whole)) own (subst (λ g. MayAsk codec job g c) same may)) (ap (cuts job.stop (length whole)) (sym own) ∙ cut) (began whole opened)
      by_kind false other opened same = elim may [
        | inl asks_next ↦ along (ap (stage_asks codec job) (sym same) ∙ asks_next) (as_if c) refl (began (whole ++ as_if c ∷ []) (open-push codec job own_lease some (PutsLease own_lease) whole (as_if c) opened (ap (stage_asks codec job) (sym same) ∙ asks_next) other))
        | inr gives_up ↦ absurd (true≢false (sym gives_up.0 ∙ other))
      ]

      by_split : Split codec job own_lease some (PutsLease own_lease) whole → Cut
      by_split (Open opened same) = by_kind (is_release job c) refl opened same
      by_split (Closed front r parts opened m same) = absurd (none_over (released own_lease (end_at (g_of front)) r) c (subst (λ g. MayAsk codec job g c) same may))
