-- What an unlock and a list of the commits tell: the leases that the one removed, and the commits that the other found.
use Rattle.std.proofs.Common.{◌≡◌, inl, inr, ℕ, List, [], ◌∷◌, Option, Some, None, length, sym, ◌∙◌, ap, subst}
use Rattle.std.specs.Prelude.{All, Contains, IsTrue, option_map, map as list_map}
use Rattle.std.specs.FinMap as map
use Rattle.std.proofs.lemmas.List.Elements.{All-contains, All-head}
use Rattle.ts_base.specs.Held.{Held}
use Rattle.ts_base.specs.declared.names.Name.{Name}
use Rattle.ts_base.specs.declared.names.Name.TheVariants as name
use Rattle.ts_base.specs.declared.names.Prefix.TheVariants.{Commits, Leases}
use Rattle.ts_store.specs.Calls.{names_under}
use Rattle.ts_store.specs.declared.call.Call.{Call}
use Rattle.ts_store.specs.declared.call.Call.TheVariants as call
use Rattle.ts_store.specs.declared.call.Reply.TheVariants as reply
use Rattle.ts_model.specs.declared.answers.Driven.TheVariants.{Done}
use Rattle.ts_model.specs.declared.answers.Outcome.{Outcome}
use Rattle.ts_model.specs.declared.answers.Outcome.TheVariants as outcome
use Rattle.ts_model.specs.declared.commands.Command.TheVariants.{Fragments, Unlock}
use Rattle.ts_model.specs.declared.commands.Job.{Job}
use Rattle.ts_model.specs.Jobs.{key_of, refused_before}
use Rattle.ts_model.specs.Stages.{lease_of, mode_of}
use Rattle.ts_model.specs.States.{Exchange, leases_unlocked, list_commits, list_leases}
use Rattle.ts_model.specs.Told.{IsReplied, Replied, Suits, Told, entries_of, held_told, trace_of}
use Rattle.ts_model.proofs.ListLemmas.{Contains-cons, Contains-here, Contains-nil, Contains-there}
use Rattle.ts_model.proofs.Traces.{held_told-append}
use Rattle.ts_law.specs.Courses.{Along, EndsAlong, EndsUnder, Found, IsLookBy, IsLookOf, IsSegment, MayEndAs, SaysFound, course_by, lets_on, under_lease}
use Rattle.ts_law.proofs.Effects.{listed}
use Rattle.ts_law.proofs.Fetches.{Contains-map, map-Contains}
use Rattle.ts_law.proofs.Journals.{journal_held}
use Rattle.ts_top.specs.Merges.{held_by}
use Rattle.ts_top.specs.Runners.{run_codec}
use Rattle.ts_top.specs.Sweeps.{Unlocked, dead_leases}
use Rattle.ts_top.proofs.MergesTold.{calls_in, held_entered}
use Rattle.ts_top.proofs.Removed.{Each, NextCall, PutsNot, RemovesNot, along_calls, along_made, call_among, did_it, exchange_among, held_same, next_call, removed_gone, told_names, told_removed_by, trace_first}

-- how a command without a lease ended: by calls along its course
unleased : (job : Job) (found : Found) (trace : List Exchange) (end : Outcome) → mode_of job.command ≡ None → refused_before job.command ≡ None → MayEndAs run_codec job found trace end (refused_before job.command)
    → EndsAlong run_codec job found (course_by run_codec job found job.command) trace end
unleased job found trace end none begins is =
    let no_lease : lease_of job ≡ None = ap (option_map (name.Lease (key_of job))) none in
    subst (λ o. EndsAlong run_codec job found (under_lease o (course_by run_codec job found job.command)) trace end) no_lease
    (subst (λ o. EndsUnder run_codec job found o trace end) no_lease (subst (MayEndAs run_codec job found trace end) begins is))

module _ (h : Held) (c : List Told) (i : ℕ) (job : Job) (own : (e : Told) → Contains c e → e.job ≡ Some i) (suit : All Suits c) (replied : Replied h c) where
  -- ---- an unlock

  -- the leases that an unlock takes for dead, of those that were held before its calls
  abbrev dead : ℕ → ℕ → List Name
  dead seed lane = leases_unlocked seed lane (names_under Leases h)

  -- what an unlock did: it found these leases, removed each, and left every other object as it was
  record Removes (leases : List Name) : Type 0 where
    gone : (n : Name) → Contains leases n → map.get (held_told h c) n ≡ None
    others : (n : Name) → (Contains leases n → ⊥) → map.get (held_told h c) n ≡ map.get h n

  module _ (seed lane : ℕ) (unlocks : job.command ≡ Unlock seed lane) (found : Found) (are_found : All (λ (x : Exchange). SaysFound found job.command x.call x.reply) (trace_of i c))
      (along : Along (IsLookOf run_codec job found) [] (list_leases ∷ list_map call.Remove found.leases) (trace_of i c) []) where
    -- an unlock looks at nothing
    no_look : (before : List Exchange) (x : Call) → IsLookOf run_codec job found before x → ⊥
    no_look before x look = subst (λ q. IsLookBy run_codec job found before q x) unlocks look

    -- its listing, and the calls after it
    abbrev at : NextCall i (IsLookOf run_codec job found) [] list_leases (list_map call.Remove found.leases) c
    at = next_call i (IsLookOf run_codec job found) [] list_leases (list_map call.Remove found.leases) c own (no_look []) along

    -- it found the dead ones of those that were held
    leases_are : found.leases ≡ dead seed lane
    leases_are =
        let (names, said) = told_names Leases (at.first).reply at.lets in
        let told : names ≡ names_under Leases h = listed h at.first Leases names at.calls (subst (Replied h) at.parts replied).0 said in
        let first = All-head (λ (x : Exchange). SaysFound found job.command x.call x.reply) (record { call = (at.first).call; reply = (at.first).reply }) (trace_of i at.later)
        (subst (All (λ (x : Exchange). SaysFound found job.command x.call x.reply)) (ap (trace_of i) at.parts ∙ trace_first i at.first at.later (own at.first (subst (λ l. Contains l at.first) (sym at.parts) (Contains-here at.first at.later)))) are_found) in
        let says : SaysFound found (Unlock seed lane) list_leases (reply.Names names) = subst (λ r. SaysFound found (Unlock seed lane) list_leases r) said (subst (λ q. SaysFound found (Unlock seed lane) q (at.first).reply) at.calls
        (subst (λ q. SaysFound found q (at.first).call (at.first).reply) unlocks first)) in
        says ∙ ap (leases_unlocked seed lane) told

    -- a call after the listing removes one of these leases
    abbrev RemovesOne : Call → Type 0
    RemovesOne x = (n : Name) × Contains found.leases n × (call.Remove n ≡ x)

    removes_one : Each RemovesOne at.later
    removes_one e among =
        along_calls (IsLookOf run_codec job found) RemovesOne (λ before x look. absurd (no_look before x look)) (record { call = (at.first).call; reply = (at.first).reply } ∷ []) (list_map call.Remove found.leases) (trace_of i at.later) [] at.rest
        (λ x of_course. map-Contains call.Remove found.leases x of_course) (record { call = e.call; reply = e.reply })
        (exchange_among i at.later e among (own e (subst (λ l. Contains l e) (sym at.parts) (Contains-there at.first at.later e among))))

    -- each call is the listing, or one of those
    each_call : (P : Call → Type 0) → P list_leases → ((n : Name) → Contains found.leases n → P (call.Remove n)) → Each P c
    each_call P of_listing of_removal e among = elim (Contains-cons at.first at.later e (subst (λ l. Contains l e) at.parts among)) [
      | inl same ↦ subst P (sym at.calls ∙ ap (λ (x : Told). x.call) same) of_listing
      | inr later ↦ let (n, has, is) = removes_one e later in subst P is (of_removal n has)
    ]

    puts_none : (n : Name) → Each (PutsNot n) c
    puts_none n = each_call (PutsNot n) (λ bytes is. cc) (λ q has bytes is. cc)

    removed : Removes found.leases
    removed = record {
      gone = λ n has.
          let (x, there, calls, lets) = along_made (IsLookOf run_codec job found) [] (list_leases ∷ list_map call.Remove found.leases) (trace_of i c) along (call.Remove n) (Contains-there list_leases (list_map call.Remove found.leases) (call.Remove n) (Contains-map call.Remove found.leases n has)) in
          let (e, among, call_is, reply_is) = call_among i c x own there in
          let replies : e.reply ≡ reply.Removed = reply_is ∙ told_removed_by n x.reply (subst (λ q. IsTrue (lets_on q x.reply)) calls lets) in
          removed_gone h c n (puts_none n) e among (call_is ∙ calls) replies (did_it e reply.Removed (All-contains Suits c e suit among) replies (λ is. cc));
      others = λ n none. held_same h c n (puts_none n) (each_call (RemovesNot n) (λ is. cc) (λ q has is. none (subst (Contains found.leases) (let same : q ≡ n = cc in same) has)));
    }

-- an unlock that ended well removed just the leases that it takes for dead
module _ (m : Held) (lane : Option ℕ → ℕ) (a c : List Told) (i : ℕ) (job : Job) (own : (e : Told) → Contains c e → e.job ≡ Some i) (suit : All Suits c) (replied : Replied (held_told m a) c) where
  -- what was held before the calls, and after them
  abbrev h : Held
  h = held_told m a

  pub opening_is : h ≡ (calls_in m lane a c).opening
  opening_is = journal_held lane m a

  pub later_is : held_told h c ≡ held_by (calls_in m lane a c) (entries_of lane c)
  later_is = sym (held_told-append m a c) ∙ held_entered m lane a c

  pub unlocked_tells : (seed by : ℕ) (count : ℕ) → job.command ≡ Unlock seed by → IsSegment run_codec job (trace_of i c) (Done (outcome.Unlocked count)) → Unlocked (calls_in m lane a c) seed by count
  unlocked_tells seed by count unlocks is =
      let found = is.found in
      let (along, unlocking, counted) = unleased job found (trace_of i c) (outcome.Unlocked count) (ap mode_of unlocks) (ap refused_before unlocks) is.ends in
      let goes : Along (IsLookOf run_codec job found) [] (list_leases ∷ list_map call.Remove found.leases) (trace_of i c) [] =
      subst (λ q. Along (IsLookOf run_codec job found) [] (course_by run_codec job found q) (trace_of i c) []) unlocks along in
      let leases : found.leases ≡ dead_leases (calls_in m lane a c) seed by = leases_are h c i job own suit replied seed by unlocks found is.are_found goes ∙ ap (λ x. leases_unlocked seed by (names_under Leases x)) opening_is in
      let did = removed h c i job own suit replied seed by unlocks found is.are_found goes in
      record {
        counted = counted ∙ ap length leases;
        removes = record {
          gone = λ n has. subst (λ x. map.get x n ≡ None) later_is (did.gone n (subst (λ l. Contains l n) (sym leases) has));
          others = λ n none. ap (λ x. map.get x n) (sym later_is) ∙ did.others n (λ has. none (subst (λ l. Contains l n) leases has)) ∙ ap (λ x. map.get x n) opening_is;
        };
      }

  -- ---- a list of the commits

  -- a list of the commits tells those that were held before its calls
  pub listed_tells : (names : List Name) → job.command ≡ Fragments → IsSegment run_codec job (trace_of i c) (Done (outcome.Listed names)) → names ≡ names_under Commits (calls_in m lane a c).opening
  listed_tells names lists is =
      let found = is.found in
      let (along, listing, told) = unleased job found (trace_of i c) (outcome.Listed names) (ap mode_of lists) (ap refused_before lists) is.ends in
      let looks : (before : List Exchange) (x : Call) → IsLookOf run_codec job found before x → ⊥ = λ before x look. subst (λ q. IsLookBy run_codec job found before q x) lists look in
      let at = next_call i (IsLookOf run_codec job found) [] list_commits [] c own (looks []) (subst (λ q. Along (IsLookOf run_codec job found) [] (course_by run_codec job found q) (trace_of i c) []) lists along) in
      let (e, among, call_is, reply_is) = call_among i c (record { call = list_commits; reply = reply.Names names }) own told in
      let first : at.first ≡ e = elim (Contains-cons at.first at.later e (subst (λ l. Contains l e) at.parts among)) [
        | inl same ↦ same
        | inr later ↦ absurd (along_calls (IsLookOf run_codec job found) (λ x. ⊥) looks (record { call = (at.first).call; reply = (at.first).reply } ∷ []) [] (trace_of i at.later) [] at.rest (λ x none. Contains-nil x none)
            (record { call = e.call; reply = e.reply }) (exchange_among i at.later e later (own e among)))
      ] in
      listed h e Commits names call_is (subst (λ x. IsReplied h x) first (subst (Replied h) at.parts replied).0) reply_is ∙ ap (names_under Commits) opening_is
