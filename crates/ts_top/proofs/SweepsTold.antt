-- What a vacuum tells: the objects that it removed.
use Rattle.std.proofs.Common.{◌≡◌, ◌⊎◌, inl, inr, ℕ, ◌-◌, ◌^◌, Bool, true, false, cond, not, List, [], ◌∷◌, ◌++◌, drop, get_or, Option, Some, None, Result, Ok, append_assoc, refl, sym, ◌∙◌, ap, subst, arith}
use Rattle.std.specs.Prelude.{All, Contains, IfSome, IsTrue, filter, option_map, map as list_map}
use Rattle.std.specs.FinMap as map
use Rattle.std.specs.Ordering.{eq_by_cmp}
use Rattle.std.proofs.lemmas.Bool.{true≢false}
use Rattle.std.proofs.lemmas.List.{same_from_push, take_all}
use Rattle.std.proofs.lemmas.List.Elements.{Contains-append_cases, Contains-append_left, Contains-append_right}
use Rattle.std.proofs.lemmas.Option.{same_Some}
use Rattle.ts_base.specs.Exact.{name_total, name_exact}
use Rattle.ts_base.specs.Held.{Held}
use Rattle.ts_base.specs.Names.{is_under, name_cmp, wrt_of}
use Rattle.ts_base.specs.declared.keys.FragKey.{FragKey}
use Rattle.ts_base.specs.declared.names.LeaseMode.TheVariants.{Exc}
use Rattle.ts_base.specs.declared.names.Name.{Name}
use Rattle.ts_base.specs.declared.names.Name.TheVariants as name
use Rattle.ts_base.specs.declared.names.Part.{Part}
use Rattle.ts_base.specs.declared.names.Prefix.{Prefix}
use Rattle.ts_base.specs.declared.names.Prefix.TheVariants.{Commits, Fragment, Leases, Schemas}
use Rattle.ts_commit.specs.Selections.{is_among, removal_set}
use Rattle.ts_commit.specs.Vacs.{names_of}
use Rattle.ts_commit.specs.declared.vacs.VacOf.{VacOf}
use Rattle.ts_schema.specs.Parts.{IsShort}
use Rattle.ts_store.specs.Calls.{names_under, part_of}
use Rattle.ts_store.specs.declared.call.Call.{Call}
use Rattle.ts_store.specs.declared.call.Call.TheVariants as call
use Rattle.ts_store.specs.declared.call.Reply.{Reply}
use Rattle.ts_store.specs.declared.call.Reply.TheVariants as reply
use Rattle.ts_model.specs.declared.answers.Driven.TheVariants.{Done}
use Rattle.ts_model.specs.declared.answers.Outcome.{Outcome}
use Rattle.ts_model.specs.declared.answers.Outcome.TheVariants as outcome
use Rattle.ts_model.specs.declared.answers.Refusal.TheVariants as refusal
use Rattle.ts_model.specs.declared.commands.Job.{Job}
use Rattle.ts_model.specs.declared.states.Sweep.{Sweep}
use Rattle.ts_model.specs.Deeds.{History}
use Rattle.ts_model.specs.Jobs.{key_of, refused_before}
use Rattle.ts_model.specs.Stages.{lease_of, mode_of, put_lease, released}
use Rattle.ts_model.specs.States.{Exchange, counting_in, get_vac, list_commits, list_leases, list_parts, list_schemas, names_of_all, names_of_one, vac_of, vacs_beside, where_among}
use Rattle.ts_model.specs.Told.{IsReplied, Replied, Suits, Told, after_told, entries_of, held_told, history_told, trace_of}
use Rattle.ts_model.proofs.KeyLemmas.{frag_itself, frag_same, same_from_tie, tie_itself}
use Rattle.ts_model.proofs.ListLemmas.{Contains-cons, Contains-here, Contains-nil, Contains-there, filter-Contains}
use Rattle.ts_model.proofs.Traces.{held_told-append, trace_of-own}
use Rattle.ts_law.specs.Courses.{Along, ChoosesBy, EachListed, EndsAlong, EndsUnder, Found, IsLookBy, IsLookOf, IsSegment, LeaseEnds, Looks, MayEndAs, NotBegun, NotOwn, Removed, RemovesBy, course_by, course_of, lets_on, removal, sweep_calls, under_lease}
use Rattle.ts_law.specs.Ends.{AreAllVacs, IsGone, IsVacuumed, up_to}
use Rattle.ts_law.specs.Stands.{Stands}
use Rattle.ts_law.specs.Swept.{sweep_over}
use Rattle.ts_law.proofs.Effects.{Added, PutWent, Still, got, listed, put_went}
use Rattle.ts_law.proofs.Fetches.{map-Contains}
use Rattle.ts_law.proofs.HeldLemmas.{Holds, Holds-from_get, Holds-from_listed, listed_from_Holds}
use Rattle.ts_law.proofs.Removals.{all_vacs_each}
use Rattle.ts_law.proofs.Short.{replied_at}
use Rattle.ts_top.specs.Merges.{held_by}
use Rattle.ts_top.specs.Promise.{HasNoLease}
use Rattle.ts_top.specs.Runners.{run_codec, run_spelled}
use Rattle.ts_top.specs.Sweeps.{IsObjectOf, IsSwept, Vacuumed}
use Rattle.ts_top.proofs.LeasesTold.{last_of, no_last, told_removed}
use Rattle.ts_top.proofs.MergesTold.{calls_in, divided, held_entered}
use Rattle.ts_top.proofs.Places.{Early}
use Rattle.ts_top.proofs.Removed.{Each, NextCall, PutsNot, RemovesNot, along_calls, call_among, exchange_among, gone_stays, held_before_them, held_same, next_call, same_names, told_names}
use Rattle.ts_law.proofs.Journals.{journal_held}

-- ---- lists

-- an item that only one of the places of a list can have stands at the third
third_place : {X : Type 0} (Q : X → Type 0) (d : List X) (x : X) (later : List X) (a b y : X) (rest : List X) → d ++ x ∷ later ≡ a ∷ b ∷ y ∷ rest → Q x → (Q a → ⊥) → (Q b → ⊥) → ((z : X) → Contains rest z → Q z → ⊥) → d ≡ a ∷ b ∷ []
third_place Q [] x later a b y rest is has not_a not_b not_rest = absurd (not_a (subst Q (ap (λ l. get_or l 0 x) is) has))
third_place Q (u ∷ []) x later a b y rest is has not_a not_b not_rest = absurd (not_b (subst Q (ap (λ l. get_or l 1 x) is) has))
third_place Q (u ∷ v ∷ []) x later a b y rest is has not_a not_b not_rest = ap (λ z. z ∷ v ∷ []) (ap (λ l. get_or l 0 x) is) ∙ ap (λ z. a ∷ z ∷ []) (ap (λ l. get_or l 1 x) is)
third_place Q (u ∷ v ∷ w ∷ d) x later a b y rest is has not_a not_b not_rest =
    absurd (not_rest x (subst (λ l. Contains l x) (ap (drop 3) is) (Contains-append_right d (x ∷ later) x (Contains-here x later))) has)

-- a list falls apart at an item of it
parted : {X : Type 0} (xs : List X) (x : X) → Contains xs x → (front : List X) × (back : List X) × (xs ≡ front ++ x ∷ back)
parted [] x at = absurd (Contains-nil x at)
parted (y ∷ xs) x at = elim (Contains-cons y xs x at) [
  | inl same ↦ ([], xs, ap (λ z. z ∷ xs) same)
  | inr later ↦ let (front, back, is) = parted xs x later in (y ∷ front, back, ap (λ l. y ∷ l) is)
]

-- one answer has one value
one_ok : {A : Type 0} (r : Result A ℕ) (x y : A) → r ≡ Ok x → r ≡ Ok y → x ≡ y
one_ok r x y is same = let both : ◌≡◌ {A = Result _ ℕ} (Ok x) (Ok y) = sym is ∙ same in cc

-- lists of what `.vac` objects name are one, where they are of the same fragments and name the same of each
same_vacs : (xs ys : List VacOf) → list_map (λ (v : VacOf). v.frag) xs ≡ list_map (λ (v : VacOf). v.frag) ys → ((x y : VacOf) → Contains xs x → Contains ys y → x.frag ≡ y.frag → x.names ≡ y.names) → xs ≡ ys
same_vacs [] [] is same = refl
same_vacs [] (y ∷ ys) is same = cc
same_vacs (x ∷ xs) [] is same = cc
same_vacs (x ∷ xs) (y ∷ ys) is same =
    let frag : x.frag ≡ y.frag = ap (λ l. get_or l 0 x.frag) is in
    let one : x ≡ y = as_one x y frag (same x y (Contains-here x xs) (Contains-here y ys) frag) in
    ap (λ z. z ∷ xs) one ∙ ap (λ l. y ∷ l) (same_vacs xs ys (ap (drop 1) is) (λ u v in_xs in_ys. same u v (Contains-there x xs u in_xs) (Contains-there y ys v in_ys)))
  where
    as_one : (u v : VacOf) → u.frag ≡ v.frag → u.names ≡ v.names → u ≡ v
    as_one u v frag names = ap (λ f. record { frag = f; names = u.names }) frag ∙ ap (λ ns. record { frag = v.frag; names = ns }) names

-- ---- the names that a vacuum removes

-- an object of a fragment is there where the fragment is one of these
where_is : (frags : List FragKey) (object : FragKey → Name) (f : FragKey) (n : Name) → Contains (where_among frags object f) n → n ≡ object f
where_is frags object f n at = by (is_among f frags) at
  where
    by : (b : Bool) → Contains (cond b (object f ∷ []) []) n → n ≡ object f
    by true here = elim (Contains-cons (object f) [] n here) [ inl same ↦ sym same | inr none ↦ absurd (Contains-nil n none) ]
    by false none = absurd (Contains-nil n none)

-- a name under a fragment is that of a part of it
part_under : (f : FragKey) (n : Name) → is_under (Fragment f) n ≡ true → (part : Part) × (n ≡ name.Part f part)
part_under f (name.Part g part) is = (part, ap (λ x. name.Part x part) (sym (frag_same f g is)))
part_under f _ is = absurd (true≢false (sym is))

-- the names of a vacuum that it removes for the fragments of a set are those of their objects
of_all : (s : Sweep) (trace : List Exchange) → ((f : FragKey) (names : List Name) → Contains trace (record { call = list_parts f; reply = reply.Names names }) → (n : Name) → Contains names n → is_under (Fragment f) n ≡ true)
    → (set : List FragKey) (listed : List (List Name)) → EachListed trace set listed → (n : Name) → Contains (names_of_all s set listed) n → (f : FragKey) × Contains set f × IsObjectOf f n
of_all s trace under [] [] each n at = absurd (Contains-nil n at)
of_all s trace under [] (names ∷ listed) each n at = absurd (Contains-nil n at)
of_all s trace under (f ∷ set) [] each n at = absurd each
of_all s trace under (f ∷ set) (names ∷ listed) (told, each) n at = elim (Contains-append_cases (names_of_one s f names) (names_of_all s set listed) n at) [
  | inl here ↦ (
    f,
    Contains-here f set,
    elim (Contains-append_cases (where_among s.committed wrt_of f) (names ++ where_among s.with_vac vac_of f) n here) [
      | inl commit ↦ inl (where_is s.committed wrt_of f n commit)
      | inr other ↦ elim (Contains-append_cases names (where_among s.with_vac vac_of f) n other) [
        | inl of_parts ↦ inr (inr (part_under f n (under f names told n of_parts)))
        | inr vac ↦ inr (inl (where_is s.with_vac vac_of f n vac))
      ]
    ],
  )
  | inr later ↦ let (g, among, is) = of_all s trace under set listed each n later in (g, Contains-there f set g among, is)
]

-- ---- how a vacuum ended

-- what ends so by the removal of its lease had come to that end
was_so : (lease : Name) (was : Outcome) (count : ℕ) → outcome.Vacuumed count ≡ released lease was reply.Removed → was ≡ outcome.Vacuumed count
was_so lease (outcome.Refused r) count is = absurd (let no : outcome.Vacuumed count ≡ outcome.Refused r = is in cc)
was_so lease outcome.OutOfMemory count is = absurd (let no : outcome.Vacuumed count ≡ outcome.OutOfMemory = is in cc)
was_so lease was count is = sym is

module _ (m : Held) (jobs : List Job) (past : History) (lane : Option ℕ → ℕ) (a c told : List Told) (parts : told ≡ a ++ c) (number : ℕ) (early : Early number a) (job : Job) (mine : (e : Told) → Contains c e → e.job ≡ Some number) (suits : All Suits c) (replied : Replied (held_told m a) c)
    (stood : (front back : List Told) → told ≡ front ++ back → Stands run_spelled (held_told m front) (history_told jobs past front)) (count : ℕ) (is : IsVacuumed m jobs past told number job count) (left : HasNoLease (calls_in m lane a c) (key_of job) job.command)
    (segment : IsSegment run_codec job (trace_of number c) (Done (outcome.Vacuumed count))) where
  -- what was held before the calls
  abbrev h : Held
  h = held_told m a

  -- the lease
  abbrev lease : Name
  lease = name.Lease (key_of job) Exc

  has_lease : lease_of job ≡ Some lease
  has_lease = ap (option_map (name.Lease (key_of job))) (ap mode_of is.vacuums)

  abbrev found : Found
  found = segment.found

  abbrev looks : Looks
  looks = IsLookOf run_codec job found

  -- the course of a vacuum from its listing of the commits on
  abbrev course : List Call
  course = list_commits ∷ list_schemas ∷ sweep_calls found

  -- the calls but the last one went along the whole course
  record Body : Type 0 where
    body : List Told
    last : Told
    split : c ≡ body ++ last ∷ []
    releases : last.call ≡ call.Remove lease
    along : Along looks [] (put_lease lease ∷ list_leases ∷ course) (trace_of number body) []
    removes : RemovesBy job (trace_of number body) found.swept found.removed

  ended : LeaseEnds run_codec job found lease (trace_of number c) (outcome.Vacuumed count)
  ended = subst (λ o. EndsUnder run_codec job found o (trace_of number c) (outcome.Vacuumed count)) has_lease
      (subst (MayEndAs run_codec job found (trace_of number c) (outcome.Vacuumed count)) (ap refused_before is.vacuums) segment.ends)

  body_of : LeaseEnds run_codec job found lease (trace_of number c) (outcome.Vacuumed count) → Body
  body_of (NotBegun none short) = let no : outcome.Vacuumed count ≡ outcome.OutOfMemory = short in cc
  body_of (NotOwn only taken) = let no : outcome.Vacuumed count ≡ outcome.Refused (refusal.Taken lease) = taken in cc
  body_of (Removed front r was at put heeds ends same) = by (last_of c)
    where
      told_so : r ≡ reply.Removed
      told_so = told_removed lease was (outcome.Vacuumed count) r tt same

      was_it : was ≡ outcome.Vacuumed count
      was_it = was_so lease was count (same ∙ ap (released lease was) told_so)

      by : (c ≡ []) ⊎ ((d : List Told) × (e : Told) × (c ≡ d ++ e ∷ [])) → Body
      by (inl none) = absurd (no_last front (removal lease r) (sym (ap (trace_of number) none) ∙ at))
      by (inr (d, e, split)) =
          let own : e.job ≡ Some number = mine e (subst (λ l. Contains l e) (sym split) (Contains-append_right d (e ∷ []) e (Contains-here e []))) in
          let (trace_is, last_is) = same_from_push (trace_of number d) front (record { call = e.call; reply = e.reply }) (removal lease r) (sym (trace_of-own number d e own) ∙ sym (ap (trace_of number) split) ∙ at) in
          let (along, vacuums, counted, removes) = subst (EndsAlong run_codec job found (course_of run_codec job found) front) was_it ends in
          record {
            body = d;
            last = e;
            split = split;
            releases = ap (λ (x : Exchange). x.call) last_is;
            along =
                subst (λ q. Along looks [] (under_lease (Some lease) (course_by run_codec job found q)) (trace_of number d) []) is.vacuums
                (subst (λ o. Along looks [] (under_lease o (course_by run_codec job found job.command)) (trace_of number d) []) has_lease
                (subst (λ t. Along looks [] (course_of run_codec job found) t []) (sym trace_is) along));
            removes = subst (λ t. RemovesBy job t found.swept found.removed) (sym trace_is) removes;
          }

  all : Body
  all = body_of ended

  body_own : (e : Told) → Contains all.body e → e.job ≡ Some number
  body_own e at = mine e (subst (λ l. Contains l e) (sym all.split) (Contains-append_left all.body (all.last ∷ []) e at))

  -- ---- its calls

  -- before its listing of the commits it looks at nothing
  no_look_yet : (before : List Exchange) → ((y : Exchange) → Contains before y → y.call ≡ list_commits → ⊥) → (x : Call) → looks before x → ⊥
  no_look_yet before none x look =
      let (k, there, f, counting, gets) = subst (λ q. IsLookBy run_codec job found before q x) is.vacuums look in
      let (names, told, counts) = counting in
      none (record { call = list_commits; reply = reply.Names names }) told refl

  -- the put of its lease, its listing of the leases, and that of the commits
  one : NextCall number looks [] (put_lease lease) (list_leases ∷ course) all.body
  one = next_call number looks [] (put_lease lease) (list_leases ∷ course) all.body body_own (no_look_yet [] (λ y at lists. Contains-nil y at)) all.along

  -- an exchange of a call
  abbrev exchange : Told → Exchange
  exchange e = record { call = e.call; reply = e.reply }

  one_own : (e : Told) → Contains one.later e → e.job ≡ Some number
  one_own e at = body_own e (subst (λ l. Contains l e) (sym one.parts) (Contains-there one.first one.later e at))

  not_one : (one.first).call ≡ list_commits → ⊥
  not_one lists = let no : put_lease lease ≡ list_commits = sym one.calls ∙ lists in cc

  not_first : (y : Exchange) → Contains (exchange one.first ∷ []) y → y.call ≡ list_commits → ⊥
  not_first y at lists = elim (Contains-cons (exchange one.first) [] y at) [ inl same ↦ not_one (ap (λ (x : Exchange). x.call) same ∙ lists) | inr none ↦ Contains-nil y none ]

  two : NextCall number looks (exchange one.first ∷ []) list_leases course one.later
  two = next_call number looks (exchange one.first ∷ []) list_leases course one.later one_own (no_look_yet (exchange one.first ∷ []) not_first) one.rest

  two_own : (e : Told) → Contains two.later e → e.job ≡ Some number
  two_own e at = one_own e (subst (λ l. Contains l e) (sym two.parts) (Contains-there two.first two.later e at))

  not_two : (two.first).call ≡ list_commits → ⊥
  not_two lists = let no : list_leases ≡ list_commits = sym two.calls ∙ lists in cc

  not_second : (y : Exchange) → Contains (exchange one.first ∷ exchange two.first ∷ []) y → y.call ≡ list_commits → ⊥
  not_second y at lists = elim (Contains-cons (exchange one.first) (exchange two.first ∷ []) y at) [
    | inl same ↦ not_one (ap (λ (x : Exchange). x.call) same ∙ lists)
    | inr later ↦ elim (Contains-cons (exchange two.first) [] y later) [ inl same ↦ not_two (ap (λ (x : Exchange). x.call) same ∙ lists) | inr none ↦ Contains-nil y none ]
  ]

  three : NextCall number looks (exchange one.first ∷ exchange two.first ∷ []) list_commits (list_schemas ∷ sweep_calls found) two.later
  three = next_call number looks (exchange one.first ∷ exchange two.first ∷ []) list_commits (list_schemas ∷ sweep_calls found) two.later two_own (no_look_yet (exchange one.first ∷ exchange two.first ∷ []) not_second) two.rest

  three_own : (e : Told) → Contains three.later e → e.job ≡ Some number
  three_own e at = two_own e (subst (λ l. Contains l e) (sym three.parts) (Contains-there three.first three.later e at))

  -- the calls after them
  abbrev rest : List Told
  rest = three.later ++ all.last ∷ []

  whole : c ≡ one.first ∷ two.first ∷ three.first ∷ rest
  whole = all.split ∙ ap (λ l. l ++ all.last ∷ []) (one.parts ∙ ap (λ l. one.first ∷ l) (two.parts ∙ ap (λ l. two.first ∷ l) three.parts))

  -- a call of them lists other names than the commits, gets an object, or removes one that the vacuum is said to remove, or its lease
  data IsSweepCall (q : Call) : Type 0 where
    Lists : (prefix : Prefix) → q ≡ call.List prefix → (prefix ≡ Commits → ⊥) → IsSweepCall q
    Gets : (n : Name) (from len : ℕ) → q ≡ call.Get n from len → IsSweepCall q
    Drops : (n : Name) → Contains found.removed n ⊎ (n ≡ lease) → q ≡ call.Remove n → IsSweepCall q

  of_look : (before : List Exchange) (q : Call) → looks before q → IsSweepCall q
  of_look before q look = let (k, there, f, counting, gets) = subst (λ x. IsLookBy run_codec job found before x q) is.vacuums look in Gets (vac_of f) 0 (2 ^ 64 - 1) gets

  of_course : (q : Call) → Contains (list_schemas ∷ sweep_calls found) q → IsSweepCall q
  of_course q at = elim (Contains-cons list_schemas (sweep_calls found) q at) [
    | inl same ↦ Lists Schemas (sym same) (λ no. cc)
    | inr later ↦ elim (Contains-append_cases (list_map list_parts found.swept) (list_map call.Remove found.removed) q later) [
      | inl listing ↦ let (f, among, same) = map-Contains list_parts found.swept q listing in Lists (Fragment f) (sym same) (λ no. cc)
      | inr removing ↦ let (n, among, same) = map-Contains call.Remove found.removed q removing in Drops n (inl among) (sym same)
    ]
  ]

  rest_call : (e : Told) → Contains rest e → IsSweepCall e.call
  rest_call e at = elim (Contains-append_cases three.later (all.last ∷ []) e at) [
    | inl within ↦
        along_calls looks IsSweepCall of_look (exchange one.first ∷ exchange two.first ∷ exchange three.first ∷ []) (list_schemas ∷ sweep_calls found) (trace_of number three.later) [] three.rest of_course (exchange e)
        (exchange_among number three.later e within (three_own e within))
    | inr end ↦ elim (Contains-cons all.last [] e end) [ inl same ↦ Drops lease (inr refl) (ap (λ (x : Told). x.call) (sym same) ∙ all.releases) | inr none ↦ absurd (Contains-nil e none) ]
  ]

  -- what each of the calls has
  each_of : (P : Call → Type 0) → P (put_lease lease) → ((prefix : Prefix) → P (call.List prefix)) → ((n : Name) (from len : ℕ) → P (call.Get n from len)) → ((n : Name) → Contains found.removed n ⊎ (n ≡ lease) → P (call.Remove n)) → Each P c
  each_of P of_put of_list of_get of_removal e at = elim (Contains-cons one.first (two.first ∷ three.first ∷ rest) e (subst (λ l. Contains l e) whole at)) [
    | inl same ↦ subst P (sym one.calls ∙ ap (λ (x : Told). x.call) same) of_put
    | inr after_one ↦ elim (Contains-cons two.first (three.first ∷ rest) e after_one) [
      | inl same ↦ subst P (sym two.calls ∙ ap (λ (x : Told). x.call) same) (of_list Leases)
      | inr after_two ↦ elim (Contains-cons three.first rest e after_two) [
        | inl same ↦ subst P (sym three.calls ∙ ap (λ (x : Told). x.call) same) (of_list Commits)
        | inr later ↦ by (rest_call e later)
      ]
    ]
  ]
    where
      by : IsSweepCall e.call → P e.call
      by (Lists prefix same other) = subst P (sym same) (of_list prefix)
      by (Gets n from len same) = subst P (sym same) (of_get n from len)
      by (Drops n why same) = subst P (sym same) (of_removal n why)

  -- it puts its lease alone
  puts_not : (n : Name) → (n ≡ lease → ⊥) → Each (PutsNot n) c
  puts_not n apart = each_of (PutsNot n) (λ bytes same. apart (let own : n ≡ lease = cc in own)) (λ prefix bytes same. cc) (λ q from len bytes same. cc) (λ q why bytes same. cc)

  -- it removes its lease, and what it is said to remove, alone
  removes_not : (n : Name) → (n ≡ lease → ⊥) → (Contains found.removed n → ⊥) → Each (RemovesNot n) c
  removes_not n apart kept = each_of (RemovesNot n) (λ same. cc) (λ prefix same. cc) (λ q from len same. cc) (λ q why same. by q why (let one : q ≡ n = cc in one))
    where
      by : (q : Name) → Contains found.removed q ⊎ (q ≡ lease) → q ≡ n → ⊥
      by q (inl among) same = kept (subst (Contains found.removed) same among)
      by q (inr own) same = apart (sym same ∙ own)

  -- ---- what is gone

  module _ (n : Name) (apart : n ≡ lease → ⊥) where
    -- what is not held at a call of the vacuum is not held in the end
    gone_at : (before : List Told) (e : Told) (later : List Told) → told ≡ before ++ e ∷ later → e.job ≡ Some number → map.get (held_told m before) n ≡ None → map.get (held_told m told) n ≡ None
    gone_at before e later place own none =
        let (d, behind, split) = divided m jobs past lane a c told parts number early before e later place own in
        ap (λ l. map.get (held_told m l) n) place ∙ ap (λ x. map.get x n) (held_told-append m before (e ∷ later))
        ∙ gone_stays (held_told m before) (e ∷ later) n (λ x at. puts_not n apart x (subst (λ l. Contains l x) (sym split) (Contains-append_right d (e ∷ later) x at))) none

    -- nor is what it removed
    gone_in_the_end : IsGone m told number n → map.get (held_told m told) n ≡ None
    gone_in_the_end gone =
        let at = gone.removed in
        let (d, behind, split) = divided m jobs past lane a c told parts number early at.before at.made at.later at.place at.own in
        ap (λ l. map.get (held_told m l) n) (at.place ∙ sym (append_assoc at.before (at.made ∷ []) at.later)) ∙ ap (λ x. map.get x n) (held_told-append m (up_to at.before at.made) at.later)
        ∙ gone_stays (held_told m (up_to at.before at.made)) at.later n (λ x among. puts_not n apart x (subst (λ l. Contains l x) (sym split) (Contains-append_right d (at.made ∷ at.later) x (Contains-there at.made at.later x among)))) gone.gone

    -- so neither is an object that it removed where it was held
    gone_if_held : (before : List Told) (e : Told) (later : List Told) → told ≡ before ++ e ∷ later → e.job ≡ Some number → (Holds (held_told m before) n → IsGone m told number n) → map.get (held_told m told) n ≡ None
    gone_if_held before e later place own removes = by (map.get (held_told m before) n) refl
      where
        by : (o : Option (List ℕ)) → map.get (held_told m before) n ≡ o → map.get (held_told m told) n ≡ None
        by None none = gone_at before e later place own none
        by (Some bytes) some = gone_in_the_end (removes (Holds-from_get (held_told m before) n bytes some))

  -- what the vacuum sweeps is not held in the end
  swept_gone : (n : Name) → IsSwept is.vacs n → map.get (held_told m told) n ≡ None
  swept_gone n (inl (f, among, inl same)) =
      let at = is.commits in
      subst (λ q. map.get (held_told m told) q ≡ None) (sym same) (gone_if_held (wrt_of f) (λ no. cc) at.before at.listing at.later at.place at.own (is.swept f among).commit)
  swept_gone n (inl (f, among, inr (inl same))) =
      let at = is.commits in
      subst (λ q. map.get (held_told m told) q ≡ None) (sym same) (gone_if_held (vac_of f) (λ no. cc) at.before at.listing at.later at.place at.own (is.swept f among).own_vac)
  swept_gone n (inl (f, among, inr (inr (part, same)))) =
      let swept = is.swept f among in
      let at = (swept.lists).parts in
      subst (λ q. map.get (held_told m told) q ≡ None) (sym same)
      (gone_if_held (name.Part f part) (λ no. cc) at.before at.listing at.later at.place at.own (λ held. swept.each_part (name.Part f part) (listed_from_Holds (Fragment f) (held_told m at.before) (name.Part f part) held (frag_itself f))))
  swept_gone n (inr (v, among, same)) = subst (λ q. map.get (held_told m told) q ≡ None) (sym same) (gone_in_the_end (vac_of v.frag) (λ no. cc) (is.vacs_gone v among))

  -- ---- what it found

  -- of all calls its listing of the commits alone lists them
  not_rest : (e : Told) → Contains rest e → e.call ≡ list_commits → ⊥
  not_rest e at lists = by (rest_call e at)
    where
      by : IsSweepCall e.call → ⊥
      by (Lists prefix same other) = let one : call.List prefix ≡ call.List Commits = sym same ∙ lists in other (let it : prefix ≡ Commits = cc in it)
      by (Gets n from len same) = let one : call.Get n from len ≡ call.List Commits = sym same ∙ lists in cc
      by (Drops n why same) = let one : call.Remove n ≡ call.List Commits = sym same ∙ lists in cc

  is_third : (e : Told) → Contains c e → e.call ≡ list_commits → three.first ≡ e
  is_third e at lists = elim (Contains-cons one.first (two.first ∷ three.first ∷ rest) e (subst (λ l. Contains l e) whole at)) [
    | inl same ↦ absurd (not_one (ap (λ (x : Told). x.call) same ∙ lists))
    | inr after_one ↦ elim (Contains-cons two.first (three.first ∷ rest) e after_one) [
      | inl same ↦ absurd (not_two (ap (λ (x : Told). x.call) same ∙ lists))
      | inr after_two ↦ elim (Contains-cons three.first rest e after_two) [ inl same ↦ same | inr later ↦ absurd (not_rest e later lists) ]
    ]
  ]

  -- the calls before it
  abbrev opening_calls : List Told
  opening_calls = one.first ∷ two.first ∷ []

  listing_at : (d : List Told) × ((is.commits).before ≡ a ++ d) × (c ≡ d ++ (is.commits).listing ∷ (is.commits).later)
  listing_at = let at = is.commits in divided m jobs past lane a c told parts number early at.before at.listing at.later at.place at.own

  -- what was held as it listed them
  held_then : held_told m (is.commits).before ≡ held_told h opening_calls
  held_then =
      let (d, behind, split) = listing_at in
      ap (held_told m) behind ∙ held_told-append m a d
      ∙ ap (held_told h) (third_place (λ e. e.call ≡ list_commits) d (is.commits).listing (is.commits).later one.first two.first three.first rest (sym split ∙ whole) (is.commits).lists not_one not_two not_rest)

  -- a call of the vacuum, and the calls before and after it
  body_in : (e : Told) → Contains all.body e → Contains c e
  body_in e at = subst (λ l. Contains l e) (sym all.split) (Contains-append_left all.body (all.last ∷ []) e at)

  said_at : (e : Told) → Contains c e → (front : List Told) × (back : List Told) × (c ≡ front ++ e ∷ back) × IsReplied (held_told h front) e
  said_at e at = let (front, back, split) = parted c e at in (front, back, split, replied_at h front e back (subst (Replied h) split replied))

  abbrev removes : RemovesBy job (trace_of number all.body) found.swept found.removed
  removes = all.removes

  abbrev chooses : ChoosesBy job (trace_of number all.body) found.swept
  chooses = removes.chooses

  names_are : chooses.names ≡ names_under Commits (held_told m (is.commits).before)
  names_are =
      let (e, among, calls, replies) = call_among number all.body (record { call = list_commits; reply = reply.Names chooses.names }) body_own chooses.listed in
      let third = is_third e (body_in e among) calls in
      listed (held_told h opening_calls) three.first Commits chooses.names three.calls (replied_at h opening_calls three.first rest (subst (Replied h) whole replied)) (ap (λ (x : Told). x.reply) third ∙ replies)
      ∙ ap (names_under Commits) (sym held_then)

  -- the names that a `.vac` told are those that it tells
  names_same : (x y : VacOf) → Contains chooses.vacs x → Contains is.vacs y → x.frag ≡ y.frag → x.names ≡ y.names
  names_same x y in_xs in_ys same =
      let n : Name = vac_of x.frag in
      let (bytes, there, reads) = chooses.each_vac x in_xs in
      let (e, among, calls, replies) = call_among number all.body (record { call = get_vac x.frag; reply = reply.Bytes bytes }) body_own there in
      let (front, back, split, said) = said_at e (body_in e among) in
      let (object, held, part) = (got (held_told h front) e n 0 (2 ^ 64 - 1) calls said).bytes bytes replies in
      let first : map.get h n ≡ Some object = held_before_them h front n object (λ z at. puts_not n (λ no. cc) z (subst (λ l. Contains l z) (sym split) (Contains-append_left front (e ∷ back) z at))) held in
      let (committed, told_names) = all_vacs_each (held_told m (is.commits).before) is.vacs is.are_vacs y in_ys in
      let then_held : map.get (held_told h (listing_at.0)) n ≡ Some told_names.bytes =
      ap (λ f. map.get (held_told h (listing_at.0)) (vac_of f)) same ∙ ap (λ z. map.get z (vac_of y.frag)) (sym (ap (held_told m) listing_at.1 ∙ held_told-append m a (listing_at.0))) ∙ told_names.held in
      let second : map.get h n ≡ Some told_names.bytes = held_before_them h (listing_at.0) n told_names.bytes
      (λ z at. puts_not n (λ no. cc) z (subst (λ l. Contains l z) (sym listing_at.2) (Contains-append_left (listing_at.0) ((is.commits).listing ∷ (is.commits).later) z at))) then_held in
      let one : object ≡ told_names.bytes = same_Some object told_names.bytes (sym first ∙ second) in
      let short : IsShort told_names.bytes = ((((stood (is.commits).before ((is.commits).listing ∷ (is.commits).later) (is.commits).place).merged).reads y.frag told_names.bytes committed told_names.held)).0 in
      let got_all : bytes ≡ told_names.bytes = part ∙ ap (part_of 0 (2 ^ 64 - 1)) one ∙ take_all (2 ^ 64 - 1) told_names.bytes (omega (arith, short)) in
      one_ok (names_of told_names.bytes) x.names y.names (ap names_of (sym got_all) ∙ reads) told_names.reads

  vacs_same : chooses.vacs ≡ is.vacs
  vacs_same = same_vacs chooses.vacs is.vacs (chooses.all_vacs ∙ ap counting_in names_are ∙ sym (is.are_vacs).frags) names_same

  -- what it is said to remove it sweeps
  parts_under : (f : FragKey) (names : List Name) → Contains (trace_of number all.body) (record { call = list_parts f; reply = reply.Names names }) → (n : Name) → Contains names n → is_under (Fragment f) n ≡ true
  parts_under f names there n at =
      let (e, among, calls, replies) = call_among number all.body (record { call = list_parts f; reply = reply.Names names }) body_own there in
      let (front, back, split, said) = said_at e (body_in e among) in
      (Holds-from_listed (Fragment f) (held_told h front) n (subst (λ l. Contains l n) (listed (held_told h front) e (Fragment f) names calls said replies) at)).1

  removed_swept : (n : Name) → Contains found.removed n → IsSwept is.vacs n
  removed_swept n at =
      let s : Sweep = sweep_over chooses.names chooses.vacs in
      elim (Contains-append_cases (names_of_all s found.swept removes.listed) (vacs_beside chooses.vacs found.swept) n (subst (λ l. Contains l n) removes.is at)) [
        | inl of_set ↦
            let (f, among, object) = of_all s (trace_of number all.body) parts_under found.swept removes.listed removes.each_listed n of_set in
            inl (f, subst (λ l. Contains l f) (chooses.is ∙ ap removal_set vacs_same) among, object)
        | inr beside ↦
            let (v, among, same) = map-Contains (λ (x : VacOf). vac_of x.frag) (filter (λ (x : VacOf). not (is_among x.frag found.swept)) chooses.vacs) n beside in
            let (there, apart) = filter-Contains (λ (x : VacOf). not (is_among x.frag found.swept)) chooses.vacs v among in
            inr (v, subst (λ l. Contains l v) vacs_same there, sym same)
      ]

  -- ---- what is left

  -- its lease was not held before its calls
  lease_new : map.get h lease ≡ None
  lease_new = by (map.get h lease) refl
    where
      made : (one.first).reply ≡ reply.Made
      made = was_made (one.first).reply one.lets
        where
          was_made : (r : Reply) → IsTrue (lets_on (put_lease lease) r) → r ≡ reply.Made
          was_made reply.Made on = refl
          was_made _ on = absurd (true≢false (sym on))

      free : Holds h lease → ⊥
      free held = went (put_went h lease [] one.first one.calls (subst (Replied h) whole replied).0)
        where
          went : PutWent h lease [] (after_told h one.first) (one.first).changed (one.first).reply → ⊥
          went (Added none is_there changed replies) = none held
          went (Still same changed not_made taken) = not_made made

      by : (o : Option (List ℕ)) → map.get h lease ≡ o → map.get h lease ≡ None
      by None none = none
      by (Some bytes) some = absurd (free (Holds-from_get h lease bytes some))

  -- an object that it does not sweep is as it was
  others_same : (n : Name) → (IsSwept is.vacs n → ⊥) → map.get (held_told h c) n ≡ map.get h n
  others_same n kept = by (eq_by_cmp name_cmp n lease) refl
    where
      lease_left : map.get (held_told h c) lease ≡ None
      lease_left =
          ap (λ x. map.get x lease) (sym (held_told-append m a c) ∙ held_entered m lane a c)
          ∙ subst (λ o. IfSome o (λ mode. map.get (held_by (calls_in m lane a c) (entries_of lane c)) (name.Lease (key_of job) mode) ≡ None)) (ap mode_of is.vacuums) left

      by : (b : Bool) → eq_by_cmp name_cmp n lease ≡ b → map.get (held_told h c) n ≡ map.get h n
      by true tie = let own = same_from_tie name_total name_exact n lease tie in ap (map.get (held_told h c)) own ∙ lease_left ∙ sym (ap (map.get h) own ∙ lease_new)
      by false none =
          let apart : n ≡ lease → ⊥ = λ own. true≢false (sym (tie_itself name_total name_exact lease) ∙ ap (λ x. eq_by_cmp name_cmp x lease) (sym own) ∙ none) in
          held_same h c n (puts_not n apart) (removes_not n apart (λ at. kept (removed_swept n at)))

  -- what was committed as it listed the commits was so before its calls
  then_before : (n : Name) → (n ≡ lease → ⊥) → map.get (held_told m (is.commits).before) n ≡ map.get h n
  then_before n apart = ap (λ x. map.get x n) held_then ∙ held_same h opening_calls n (λ e at. puts_not n apart e (among_all e at)) removes_none
    where
      among_all : (e : Told) → Contains opening_calls e → Contains c e
      among_all e at = subst (λ l. Contains l e) (sym whole) (Contains-append_left opening_calls (three.first ∷ rest) e at)

      removes_none : Each (RemovesNot n) opening_calls
      removes_none e at same = elim (Contains-cons one.first (two.first ∷ []) e at) [
        | inl first ↦ let no : put_lease lease ≡ call.Remove n = sym one.calls ∙ ap (λ (x : Told). x.call) first ∙ same in cc
        | inr later ↦ elim (Contains-cons two.first [] e later) [
          | inl second ↦ let no : list_leases ≡ call.Remove n = sym two.calls ∙ ap (λ (x : Told). x.call) second ∙ same in cc
          | inr none ↦ Contains-nil e none
        ]
      ]

  are_vacs_before : AreAllVacs h is.vacs
  are_vacs_before = record {
    frags = (is.are_vacs).frags ∙ ap counting_in (same_names Commits (held_told m (is.commits).before) h (λ q under. then_before q (commit_apart q under)));
    each = λ v at. let told_names = (is.are_vacs).each v at in record { bytes = told_names.bytes; held = sym (then_before (vac_of v.frag) (λ no. cc)) ∙ told_names.held; reads = told_names.reads };
  }
    where
      commit_apart : (q : Name) → is_under Commits q ≡ true → q ≡ lease → ⊥
      commit_apart q under same = true≢false (sym under ∙ ap (is_under Commits) same)

  -- a vacuum tells what it removed
  pub vacuumed_tells : Vacuumed (calls_in m lane a c) count
  vacuumed_tells =
      let now : held_told m told ≡ held_by (calls_in m lane a c) (entries_of lane c) = ap (held_told m) parts ∙ held_entered m lane a c in
      record {
        vacs = is.vacs;
        are_vacs = subst (λ x. AreAllVacs x is.vacs) (journal_held lane m a) are_vacs_before;
        counted = is.counted;
        removes = record {
          gone = λ n swept. ap (λ x. map.get x n) (sym now) ∙ swept_gone n swept;
          others = λ n kept. ap (λ x. map.get x n) (sym (held_entered m lane a c) ∙ held_told-append m a c) ∙ others_same n kept ∙ ap (λ x. map.get x n) (journal_held lane m a);
        };
      }
