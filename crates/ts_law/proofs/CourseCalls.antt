-- Calls of a job along its course, and what follows where a state leads.
use Rattle.std.proofs.Common.{length, ◌≡◌, ◌≢◌, ◌<◌, ◌||◌, arith, ℕ, suc, zero, Bool, true, false, cond, ◌⊎◌, List, [], ◌∷◌, ◌++◌, drop, Option, Some, None, IsTrue, refl, sym, ◌∙◌, ap, inl, inr, subst, slice_get, append_assoc}
use Rattle.std.specs.Prelude.{Contains, ⊤, option_map, nat_lt, map as list_map}
use Rattle.std.proofs.lemmas.Bool.{ltb-false, ltb-true, true≢false}
use Rattle.std.proofs.Math.ListN.{drop_of_length-le}
use Rattle.std.proofs.lemmas.Option.{same_Some, none-some}
use Rattle.std.proofs.lemmas.List.{append-nil}
use Rattle.std.proofs.lemmas.List.Elements.{All-nil, All-cons}
use Rattle.ts_base.specs.declared.keys.FragKey.{FragKey}
use Rattle.ts_base.specs.declared.names.Name.{Name}
use Rattle.ts_base.specs.declared.names.PartBytes.{PartBytes}
use Rattle.ts_schema.specs.declared.evolution.Evolution.{Evolution}
use Rattle.ts_store.specs.declared.call.Call.{Call}
use Rattle.ts_store.specs.declared.call.Reply.{Reply}
use Rattle.ts_model.specs.declared.commands.Command.{Command}
use Rattle.ts_model.specs.declared.commands.FrameIn.{FrameIn}
use Rattle.ts_model.specs.declared.commands.WriteIn.{WriteIn}
use Rattle.ts_model.specs.declared.commands.Job.{Job}
use Rattle.ts_model.specs.declared.answers.Outcome.{Outcome}
use Rattle.ts_model.specs.declared.answers.Refusal.{Refusal}
use Rattle.ts_model.specs.declared.states.State.{State}
use Rattle.ts_model.specs.declared.states.NewObject.{NewObject}
use Rattle.ts_model.specs.declared.states.State.TheVariants.{Puts, Over}
use Rattle.ts_model.specs.declared.commands.Command.TheVariants.{Create, Evolve, Write, Read, Delete, Consolidate, Vacuum, Unlock, Fragments}
use Rattle.ts_model.specs.Codecs.{Codec, is_look}
use Rattle.ts_model.specs.Jobs.{key_of, frag_of_job}
use Rattle.ts_model.specs.Stages.{lease_of}
use Rattle.ts_model.specs.States.{Exchange, asks, asks_memory, end_by, goes, ended, takes_memory, list_commits, refuse, part_objects, place_of, put_of, putting, on_made}
use Rattle.ts_law.specs.Courses.{Found, Merge, SaysFound, IsGot, IsMergeBy, AreFound, IsLookBy, IsLookOf, LooksForSchema, LooksInside, LooksForSources, AtVac, AtHead, AtSchema, AtDelete, InFetch, AtFrame, AtNames, AtOpened, AtNamed, InSource, RunsShort, Looks, IsNext, lets_on, Along, EndsAlong, EndsAt, refused_in, IsCause, RemovesBy}
use Rattle.ts_law.proofs.CourseBacked.{removed_stays, told_among}
use Rattle.ts_law.proofs.CourseGrows.{among_more, got_stays, merge_stays}
use Rattle.ts_model.proofs.ListLemmas.{Contains-cons, Contains-here, Contains-there}
use Rattle.ts_cond.specs.declared.query.Query.{Query}
use Rattle.ts_base.specs.declared.names.Name.TheVariants as name
use Rattle.ts_store.specs.declared.call.Call.TheVariants as call
use Rattle.ts_store.specs.declared.call.Reply.TheVariants as reply
use Rattle.ts_model.specs.declared.answers.Outcome.TheVariants as outcome
use Rattle.ts_model.specs.declared.answers.Refusal.TheVariants as refusal

-- ---- courses

-- the last call comes where it may
abbrev at_last : (looks : Looks) (seen : List Exchange) (course rest : List Call) (x : Exchange) → IsNext looks seen course x.call rest → EndsAt looks seen course (x ∷ []) x
at_last looks seen course rest x next = record {
  front = [];
  left = course;
  rest = rest;
  parts = refl;
  along = refl;
  next = subst (λ t. IsNext looks t course x.call rest) (sym (append-nil seen)) next;
}

-- a call more before calls that went along the rest of a course up to the last one
abbrev at_cons : (looks : Looks) (seen : List Exchange) (course rest : List Call) (x : Exchange) (xs : List Exchange) (last : Exchange) → IsTrue (lets_on x.call x.reply) → IsNext looks seen course x.call rest → EndsAt looks (seen ++ x ∷ []) rest xs last
    → EndsAt looks seen course (x ∷ xs) last
at_cons looks seen course rest x xs last on next h = record {
  front = x ∷ h.front;
  left = h.left;
  rest = h.rest;
  parts = ap (λ ys. x ∷ ys) h.parts;
  along = (on, (rest, next, h.along));
  next = subst (λ t. IsNext looks t h.left last.call h.rest) (append_assoc seen (x ∷ []) h.front) h.next;
}

-- a put of a new object lets a job go on
lets_put : (n : Name) (bytes : List ℕ) → IsTrue (lets_on (call.Put n bytes) reply.Made)
lets_put name.Domain bytes = refl
lets_put _ bytes = refl

-- bytes that a get is told let a job go on
pub lets_bytes : (c : Call) (bytes : List ℕ) → IsTrue (is_look c) → IsTrue (lets_on c (reply.Bytes bytes))
lets_bytes (call.Get n from len) bytes look = refl
lets_bytes (call.Size n) bytes look = refl
lets_bytes (call.Put n b) bytes look = cc
lets_bytes (call.Remove n) bytes look = cc
lets_bytes (call.List p) bytes look = cc

-- so does a length that a size is told
pub lets_length : (c : Call) (size : ℕ) → IsTrue (is_look c) → IsTrue (lets_on c (reply.Length size))
lets_length (call.Get n from len) size look = refl
lets_length (call.Size n) size look = refl
lets_length (call.Put n b) size look = cc
lets_length (call.Remove n) size look = cc
lets_length (call.List p) size look = cc

-- a reply that lets a job go on is not want of memory
pub lets_memory : (c : Call) (r : Reply) → IsTrue (lets_on c r) → r ≢ reply.NoMemory
lets_memory c r on none = no_memory c (subst (λ q. IsTrue (lets_on c q)) none on)
  where
    no_memory : (d : Call) → IsTrue (lets_on d reply.NoMemory) → ⊥
    no_memory (call.Put name.Domain bytes) is = cc
    no_memory (call.Put n bytes) is = cc
    no_memory (call.Remove n) is = cc
    no_memory (call.List p) is = cc
    no_memory (call.Get n from len) is = cc
    no_memory (call.Size n) is = cc

-- the call that is asked is this one
call_is : (c d : Call) → Some c ≡ Some d → d ≡ c
call_is c d e = sym (same_Some c d e)

-- the reply does not say that the frame was there already
abbrev pub LeavesFrame : Call → Reply → Type 0
LeavesFrame (call.Put name.Domain bytes) reply.Taken = ⊥
LeavesFrame c r = ⊤

-- a put of another object leaves it so
leaves_frame : (n : Name) (bytes : List ℕ) (r : Reply) → (n ≡ name.Domain → ⊥) → LeavesFrame (call.Put n bytes) r
leaves_frame name.Domain bytes reply.Taken other = absurd (other refl)
leaves_frame name.Domain bytes r other = tt
leaves_frame n bytes r other = tt

-- a get or a size leaves it so
pub look_leaves : (c : Call) (r : Reply) → IsTrue (is_look c) → LeavesFrame c r
look_leaves (call.Get n from len) r look = tt
look_leaves (call.Size n) r look = tt
look_leaves (call.Put n b) r look = cc
look_leaves (call.Remove n) r look = cc
look_leaves (call.List p) r look = cc

-- an object that was there already is then not the frame
taken_elsewhere : (n : Name) (bytes : List ℕ) → LeavesFrame (call.Put n bytes) reply.Taken → n ≡ name.Domain → ⊥
taken_elsewhere n bytes leaves same = subst (λ m. LeavesFrame (call.Put m bytes) reply.Taken) same leaves

-- ---- lists

-- an item behind a place is one of the list
pub dropped : {X : Type 0} (xs : List X) (i : ℕ) (x : X) → Contains (drop i xs) x → Contains xs x
dropped xs zero x at = at
dropped [] (suc i) x at = at
dropped (y ∷ xs) (suc i) x at = Contains-there y xs x (dropped xs i x at)

-- the items from the place of one on
pub drop_item : {X : Type 0} (xs : List X) (i : ℕ) (x : X) → slice_get xs i ≡ Some x → drop i xs ≡ x ∷ drop (suc i) xs
drop_item [] i x is = absurd (none-some x is)
drop_item (y ∷ xs) zero x is = ap (λ z. z ∷ xs) (same_Some y x is)
drop_item (y ∷ xs) (suc i) x is = drop_item xs i x is

-- nothing is left past the end
pub drop_past : {X : Type 0} (xs : List X) (i : ℕ) → nat_lt i (length xs) ≡ false → drop i xs ≡ []
drop_past xs i is = drop_of_length-le xs (ltb-false i (length xs) is)

-- an item at a place is one of the list
pub item_in : {X : Type 0} (xs : List X) (i : ℕ) (x : X) → slice_get xs i ≡ Some x → Contains xs x
item_in [] i x is = absurd (none-some x is)
item_in (y ∷ xs) zero x is = subst (Contains (y ∷ xs)) (same_Some y x is) (Contains-here y xs)
item_in (y ∷ xs) (suc i) x is = Contains-there y xs x (item_in xs i x is)

-- ---- objects

-- no part of a fragment is the frame, nor is one of more objects that are not
pub parts_apart : (frag : FragKey) (parts : List PartBytes) (more : List NewObject) → ((ob : NewObject) → Contains more ob → ob.name ≡ name.Domain → ⊥) → (ob : NewObject) → Contains (part_objects frag parts ++ more) ob → ob.name ≡ name.Domain → ⊥
parts_apart frag [] more apart ob at same = apart ob at same
parts_apart frag (x ∷ parts) more apart ob at same =
    let first : NewObject = record { name = name.Part frag x.part; bytes = x.bytes } in
    elim (Contains-cons first (part_objects frag parts ++ more) ob at) [
      | inl is ↦ cc
      | inr there ↦ parts_apart frag parts more apart ob there same
    ]

-- ---- the calls of a job at its work

module _ {F : Type 0} (codec : Codec F) (job : Job) where
  -- each call is the one that is asked where those before it have led
  abbrev pub WorkAsks : State F → List Exchange → Type 0
  WorkAsks s [] = ⊤
  WorkAsks s (x ∷ xs) = (asks codec job s ≡ Some x.call) × WorkAsks (goes codec job s x.reply) xs

  -- how far the work has come by these calls
  abbrev pub work_from : State F → List Exchange → State F
  work_from s [] = s
  work_from s (x ∷ xs) = work_from (goes codec job s x.reply) xs

  -- memory can be wanting after these calls of the work, from a state on where it can be wanting or not
  abbrev pub lacking : Bool → State F → List Exchange → Bool
  lacking before s [] = before
  lacking before s (x ∷ xs) = lacking (takes_memory s || asks_memory (goes codec job s x.reply)) (goes codec job s x.reply) xs

  -- the next call of a state removes the lease of the job
  abbrev pub AsksRelease : State F → Type 0
  AsksRelease s = (lease : Name) × (lease_of job ≡ Some lease) × (asks codec job s ≡ Some (call.Remove lease))

  -- the work ends where its calls have led it, or for want of memory where that can be wanting
  abbrev pub WorkEndsIf : Bool → State F → List Exchange → Outcome → Type 0
  WorkEndsIf before s xs end = (work_from s xs ≡ Over end) ⊎ ((end ≡ outcome.OutOfMemory) × ((lacking before s xs ≡ true) ⊎ AsksRelease (work_from s xs)))

  -- so it ends where memory can be wanting before its first call
  abbrev pub WorkEnds : State F → List Exchange → Outcome → Type 0
  WorkEnds s xs end = WorkEndsIf true s xs end

  -- what can be wanting can be so where it could be wanting before
  pub lacking_more : (before : Bool) (s : State F) (xs : List Exchange) → lacking before s xs ≡ true → lacking true s xs ≡ true
  lacking_more before s [] is = refl
  lacking_more before s (x ∷ xs) is = is

  pub ends_more : (before : Bool) (s : State F) (xs : List Exchange) (end : Outcome) → WorkEndsIf before s xs end → WorkEnds s xs end
  ends_more before s xs end (inl over) = inl over
  ends_more before s xs end (inr (none, inl lacks)) = inr (none, inl (lacking_more before s xs lacks))
  ends_more before s xs end (inr (none, inr gives)) = inr (none, inr gives)

-- ---- ends

module _ {F : Type 0} (codec : Codec F) (job : Job) where
  -- how calls after those before may end along a course, where these are all calls of the job
  abbrev EndsIn : List Exchange → List Exchange → Found → List Call → List Exchange → Outcome → Type 0
  EndsIn whole seen found course xs (outcome.Refused r) = (last : Exchange) × EndsAt (IsLookOf codec job found) seen course xs last × IsCause codec job found whole last r
  EndsIn whole seen found course xs outcome.OutOfMemory = (xs ≡ []) ⊎ ((last : Exchange) × (at : EndsAt (IsLookOf codec job found) seen course xs last) × RunsShort job last.call last.reply at.rest)
  EndsIn whole seen found course xs outcome.Created = Along (IsLookOf codec job found) seen course xs [] × ((f : FrameIn) × (job.command ≡ Create f))
  EndsIn whole seen found course xs (outcome.Evolved k) =
      Along (IsLookOf codec job found) seen course xs [] × ((change : Evolution) × (job.command ≡ Evolve change)) × (k ≡ key_of job) × IsGot job found whole × (refused_in found job.command ≡ None)
  EndsIn whole seen found course xs (outcome.Written f) =
      Along (IsLookOf codec job found) seen course xs [] × ((w : WriteIn) × (job.command ≡ Write w)) × (f ≡ frag_of_job job) × IsGot job found whole × (refused_in found job.command ≡ None)
  EndsIn whole seen found course xs (outcome.Deleted f) =
      Along (IsLookOf codec job found) seen course xs [] × ((text : List ℕ) × (job.command ≡ Delete text)) × (f ≡ frag_of_job job) × IsGot job found whole × (refused_in found job.command ≡ None)
  EndsIn whole seen found course xs (outcome.Read answer) =
      Along (IsLookOf codec job found) seen course xs [] × ((from : ℕ) × (to : ℕ) × (query : Query) × (job.command ≡ Read from to query)) × IsGot job found whole × (refused_in found job.command ≡ None)
  EndsIn whole seen found course xs (outcome.Consolidated f count) =
      Along (IsLookOf codec job found) seen course xs [] × ((merge : Merge) × (found.merged ≡ Some merge) × (f ≡ merge.piece.head.frag) × IsMergeBy codec job found whole merge count)
  EndsIn whole seen found course xs (outcome.Vacuumed count) = Along (IsLookOf codec job found) seen course xs [] × (job.command ≡ Vacuum) × (count ≡ length found.swept) × RemovesBy job whole found.swept found.removed
  EndsIn whole seen found course xs (outcome.Unlocked count) = Along (IsLookOf codec job found) seen course xs [] × ((seed : ℕ) × (lane : ℕ) × (job.command ≡ Unlock seed lane)) × (count ≡ length found.leases)
  EndsIn whole seen found course xs (outcome.Listed names) = Along (IsLookOf codec job found) seen course xs [] × (job.command ≡ Fragments) × Contains whole (record { call = list_commits; reply = reply.Names names })

  -- how the last calls may end along a course
  abbrev pub Ends : List Exchange → Found → List Call → List Exchange → Outcome → Type 0
  Ends seen found course xs end = EndsIn (seen ++ xs) seen found course xs end

  -- the ends of a whole trace along the course of a job
  pub ends_along : (found : Found) (course : List Call) (whole : List Exchange) (end : Outcome) → Ends [] found course whole end → EndsAlong codec job found course whole end
  ends_along found course whole outcome.Created h = h
  ends_along found course whole (outcome.Evolved k) h = h
  ends_along found course whole (outcome.Written f) h = h
  ends_along found course whole (outcome.Deleted f) h = h
  ends_along found course whole (outcome.Read answer) h = h
  ends_along found course whole (outcome.Consolidated f count) h = h
  ends_along found course whole (outcome.Vacuumed count) h = h
  ends_along found course whole (outcome.Unlocked count) h = h
  ends_along found course whole (outcome.Listed names) h = h
  ends_along found course whole (outcome.Refused r) h = h
  ends_along found course whole outcome.OutOfMemory h = h

  -- what a job that ends well must be
  abbrev pub Well : List Exchange → Found → Outcome → Type 0
  Well whole found outcome.Created = (f : FrameIn) × (job.command ≡ Create f)
  Well whole found (outcome.Evolved k) = ((change : Evolution) × (job.command ≡ Evolve change)) × (k ≡ key_of job) × IsGot job found whole × (refused_in found job.command ≡ None)
  Well whole found (outcome.Written f) = ((w : WriteIn) × (job.command ≡ Write w)) × (f ≡ frag_of_job job) × IsGot job found whole × (refused_in found job.command ≡ None)
  Well whole found (outcome.Deleted f) = ((text : List ℕ) × (job.command ≡ Delete text)) × (f ≡ frag_of_job job) × IsGot job found whole × (refused_in found job.command ≡ None)
  Well whole found (outcome.Read answer) = ((from : ℕ) × (to : ℕ) × (query : Query) × (job.command ≡ Read from to query)) × IsGot job found whole × (refused_in found job.command ≡ None)
  Well whole found (outcome.Consolidated f count) = (merge : Merge) × (found.merged ≡ Some merge) × (f ≡ merge.piece.head.frag) × IsMergeBy codec job found whole merge count
  Well whole found (outcome.Vacuumed count) = (job.command ≡ Vacuum) × (count ≡ length found.swept) × RemovesBy job whole found.swept found.removed
  Well whole found (outcome.Unlocked count) = ((seed : ℕ) × (lane : ℕ) × (job.command ≡ Unlock seed lane)) × (count ≡ length found.leases)
  Well whole found (outcome.Listed names) = (job.command ≡ Fragments) × Contains whole (record { call = list_commits; reply = reply.Names names })
  Well whole found _ = ⊥

  -- a job that can end well can after a call more
  pub well_stays : (seen : List Exchange) (found : Found) (x : Exchange) (o : Outcome) → Well seen found o → Well (seen ++ x ∷ []) found o
  well_stays seen found x outcome.Created is = is
  well_stays seen found x (outcome.Evolved k) is = (is.0, is.1, got_stays job found seen (seen ++ x ∷ []) (among_more seen x) is.2, is.3)
  well_stays seen found x (outcome.Written f) is = (is.0, is.1, got_stays job found seen (seen ++ x ∷ []) (among_more seen x) is.2, is.3)
  well_stays seen found x (outcome.Deleted f) is = (is.0, is.1, got_stays job found seen (seen ++ x ∷ []) (among_more seen x) is.2, is.3)
  well_stays seen found x (outcome.Read answer) is = (is.0, got_stays job found seen (seen ++ x ∷ []) (among_more seen x) is.1, is.2)
  well_stays seen found x (outcome.Consolidated f count) (merge, some, named, is) = (merge, some, named, merge_stays codec job found seen (seen ++ x ∷ []) merge count (among_more seen x) is)
  well_stays seen found x (outcome.Vacuumed count) is = (is.0, is.1, removed_stays job seen (seen ++ x ∷ []) found.swept found.removed (told_among seen (seen ++ x ∷ []) (among_more seen x)) is.2)
  well_stays seen found x (outcome.Unlocked count) is = is
  well_stays seen found x (outcome.Listed names) is = (is.0, among_more seen x _ is.1)
  well_stays seen found x _ is = absurd is

  -- a job that ends well at the end of its course ends along it
  pub well_ended : (seen : List Exchange) (found : Found) (course : List Call) (xs : List Exchange) (o : Outcome) → Well (seen ++ xs) found o → Along (IsLookOf codec job found) seen course xs [] → Ends seen found course xs o
  well_ended seen found course xs outcome.Created is along = (along, is)
  well_ended seen found course xs (outcome.Evolved k) is along = (along, is.0, is.1, is.2, is.3)
  well_ended seen found course xs (outcome.Written f) is along = (along, is.0, is.1, is.2, is.3)
  well_ended seen found course xs (outcome.Deleted f) is along = (along, is.0, is.1, is.2, is.3)
  well_ended seen found course xs (outcome.Read answer) is along = (along, is.0, is.1, is.2)
  well_ended seen found course xs (outcome.Consolidated f count) is along = (along, is)
  well_ended seen found course xs (outcome.Vacuumed count) is along = (along, is.0, is.1, is.2)
  well_ended seen found course xs (outcome.Unlocked count) is along = (along, is.0, is.1)
  well_ended seen found course xs (outcome.Listed names) is along = (along, is.0, is.1)
  well_ended seen found course xs _ is along = absurd is

  -- a call that lets the job go on, before calls along the rest of the course
  ends_before : (whole seen : List Exchange) (found : Found) (course rest : List Call) (x : Exchange) (xs : List Exchange) (end : Outcome) → IsTrue (lets_on x.call x.reply) → IsNext (IsLookOf codec job found) seen course x.call rest
      → (xs ≡ [] → end ≡ outcome.OutOfMemory → RunsShort job x.call x.reply rest) → EndsIn whole (seen ++ x ∷ []) found rest xs end → EndsIn whole seen found course (x ∷ xs) end
  ends_before whole seen found course rest x xs outcome.Created on next short h = ((on, (rest, next, h.0)), h.1)
  ends_before whole seen found course rest x xs (outcome.Evolved k) on next short h = ((on, (rest, next, h.0)), h.1, h.2, h.3, h.4)
  ends_before whole seen found course rest x xs (outcome.Written f) on next short h = ((on, (rest, next, h.0)), h.1, h.2, h.3, h.4)
  ends_before whole seen found course rest x xs (outcome.Deleted f) on next short h = ((on, (rest, next, h.0)), h.1, h.2, h.3, h.4)
  ends_before whole seen found course rest x xs (outcome.Read answer) on next short h = ((on, (rest, next, h.0)), h.1, h.2, h.3)
  ends_before whole seen found course rest x xs (outcome.Consolidated f count) on next short h = ((on, (rest, next, h.0)), h.1)
  ends_before whole seen found course rest x xs (outcome.Vacuumed count) on next short h = ((on, (rest, next, h.0)), h.1, h.2, h.3)
  ends_before whole seen found course rest x xs (outcome.Unlocked count) on next short h = ((on, (rest, next, h.0)), h.1, h.2)
  ends_before whole seen found course rest x xs (outcome.Listed names) on next short h = ((on, (rest, next, h.0)), h.1, h.2)
  ends_before whole seen found course rest x xs (outcome.Refused r) on next short h = (h.0, at_cons (IsLookOf codec job found) seen course rest x xs h.0 on next h.1, h.2)
  ends_before whole seen found course rest x xs outcome.OutOfMemory on next short (inl none) =
      subst (λ ys. EndsIn whole seen found course (x ∷ ys) outcome.OutOfMemory) (sym none) (inr (x, at_last (IsLookOf codec job found) seen course rest x next, short none refl))
  ends_before whole seen found course rest x xs outcome.OutOfMemory on next short (inr h) = inr (h.0, at_cons (IsLookOf codec job found) seen course rest x xs h.0 on next h.1, h.2)

  pub ends_cons : (seen : List Exchange) (found : Found) (course rest : List Call) (x : Exchange) (xs : List Exchange) (end : Outcome) → IsTrue (lets_on x.call x.reply) → IsNext (IsLookOf codec job found) seen course x.call rest
      → (xs ≡ [] → end ≡ outcome.OutOfMemory → RunsShort job x.call x.reply rest) → Ends (seen ++ x ∷ []) found rest xs end → Ends seen found course (x ∷ xs) end
  ends_cons seen found course rest x xs end on next short h =
      ends_before (seen ++ x ∷ xs) seen found course rest x xs end on next short (subst (λ whole. EndsIn whole (seen ++ x ∷ []) found rest xs end) (append_assoc seen (x ∷ []) xs) h)

  -- ---- a job that is over

  -- a job that is over has one end
  over_is : (o end : Outcome) → ◌≡◌ {A = State F} (Over o) (Over end) → end ≡ o
  over_is o end e = cc

  -- a job that is over asks nothing, and has ended so, or for want of memory where that can be wanting
  over_ends_if : (before : Bool) (o : Outcome) (xs : List Exchange) (end : Outcome) → WorkAsks codec job (Over o) xs → WorkEndsIf codec job before (Over o) xs end → (xs ≡ []) × ((end ≡ o) ⊎ ((end ≡ outcome.OutOfMemory) × (before ≡ true)))
  over_ends_if before o [] end a (inl e) = (refl, inl (over_is o end e))
  over_ends_if before o [] end a (inr (none, inl lacks)) = (refl, inr (none, lacks))
  over_ends_if before o [] end a (inr (none, inr gives)) = absurd (none-some (call.Remove gives.0) gives.2)
  over_ends_if before o (x ∷ xs) end a e = absurd (none-some x.call (a.0))

  pub over_ends : (o : Outcome) (xs : List Exchange) (end : Outcome) → WorkAsks codec job (Over o) xs → WorkEnds codec job (Over o) xs end → (xs ≡ []) × ((end ≡ o) ⊎ (end ≡ outcome.OutOfMemory))
  over_ends o xs end a e = let over = over_ends_if true o xs end a e in (over.0, elim over.1 [ inl is ↦ inl is | inr none ↦ inr none.0 ])

  -- ---- where memory can be wanting after a call

  -- a look is a get or a size
  schema_look : (seen : List Exchange) (c : Call) → LooksForSchema job seen c → IsTrue (is_look c)
  schema_look seen c (inl (k, current, is)) = subst (λ d. IsTrue (is_look d)) (sym is) refl
  schema_look seen c (inr (s, current, got, is)) = subst (λ d. IsTrue (is_look d)) (sym is) refl

  inside_look : (found : Found) (seen : List Exchange) (from to : ℕ) (c : Call) → LooksInside codec job found seen from to c → IsTrue (is_look c)
  inside_look found seen from to c (AtVac f counting is) = subst (λ d. IsTrue (is_look d)) (sym is) refl
  inside_look found seen from to c (AtHead f near is) = subst (λ d. IsTrue (is_look d)) (sym is) refl
  inside_look found seen from to c (AtSchema f head got other is) = subst (λ d. IsTrue (is_look d)) (sym is) refl
  inside_look found seen from to c (AtDelete f listed is) = subst (λ d. IsTrue (is_look d)) (sym is) refl
  inside_look found seen from to c (InFetch f fetch near way look) = look

  source_look : (found : Found) (seen : List Exchange) (from to : ℕ) (c : Call) → LooksForSources codec job found seen from to c → IsTrue (is_look c)
  source_look found seen from to c (AtFrame k current is) = subst (λ d. IsTrue (is_look d)) (sym is) refl
  source_look found seen from to c (AtNames f framed counting is) = subst (λ d. IsTrue (is_look d)) (sym is) refl
  source_look found seen from to c (AtOpened f framed listed is) = subst (λ d. IsTrue (is_look d)) (sym is) refl
  source_look found seen from to c (AtNamed f head framed got is) = subst (λ d. IsTrue (is_look d)) (sym is) refl
  source_look found seen from to c (InSource chosen f fetch plans among way look) = look

  look_by : (found : Found) (seen : List Exchange) (command : Command) (c : Call) → IsLookBy codec job found seen command c → IsTrue (is_look c)
  look_by found seen (Create f) c look = subst (λ d. IsTrue (is_look d)) (sym look.1) refl
  look_by found seen (Evolve change) c look = schema_look seen c look
  look_by found seen (Write w) c look = schema_look seen c look
  look_by found seen (Read from to query) c (inl look) = schema_look seen c look
  look_by found seen (Read from to query) c (inr look) = inside_look found seen from to c look.1
  look_by found seen (Delete text) c look = schema_look seen c look
  look_by found seen (Consolidate from to limits) c look = source_look found seen from to c look
  look_by found seen Vacuum c (k, current, f, counting, is) = subst (λ d. IsTrue (is_look d)) (sym is) refl
  look_by found seen (Unlock seed lane) c look = absurd look
  look_by found seen Fragments c look = absurd look

  -- memory can be wanting after a look
  short_look : (c : Call) (r : Reply) (rest : List Call) → IsTrue (is_look c) → RunsShort job c r rest
  short_look (call.Get n from len) r rest look = tt
  short_look (call.Size n) r rest look = tt
  short_look (call.Put n bytes) r rest look = absurd (true≢false (sym look))
  short_look (call.Remove n) r rest look = absurd (true≢false (sym look))
  short_look (call.List p) r rest look = absurd (true≢false (sym look))

  -- the call is no removal, and no put that is the last of the course
  abbrev pub IsNotLast : Call → List Call → Type 0
  IsNotLast (call.Put n bytes) rest = rest ≢ []
  IsNotLast (call.Remove n) rest = ⊥
  IsNotLast c rest = ⊤

  -- memory can be wanting after such a call
  short_before : (c : Call) (r : Reply) (rest : List Call) → IsNotLast c rest → RunsShort job c r rest
  short_before (call.Put n bytes) reply.Made rest more = more
  short_before (call.Put n bytes) reply.Taken rest more = more
  short_before (call.Put n bytes) reply.Failed rest more = more
  short_before (call.Put n bytes) r rest more = tt
  short_before (call.Remove n) r rest more = absurd more
  short_before (call.List p) r rest more = tt
  short_before (call.Get n from len) r rest more = tt
  short_before (call.Size n) r rest more = tt

  -- it can be so after a put that ended a job out of memory, but not by its answer
  pub short_put : (n : Name) (bytes : List ℕ) (r : Reply) (rest : List Call) → (r ≡ reply.Made → ⊥) → end_by (call.Put n bytes) r ≡ outcome.OutOfMemory → RunsShort job (call.Put n bytes) r rest
  short_put n bytes reply.Made rest other is = absurd (other refl)
  short_put n bytes reply.Taken rest other is = absurd (let no : outcome.Refused (refusal.Taken n) ≡ outcome.OutOfMemory = is in cc)
  short_put n bytes reply.Failed rest other is = absurd (let no : outcome.Refused (refusal.StoreFault (place_of (call.Put n bytes))) ≡ outcome.OutOfMemory = is in cc)
  short_put n bytes r rest other is = tt

  -- nor after such a removal
  pub short_removal : (n : Name) (r : Reply) (rest : List Call) → (r ≡ reply.Removed → ⊥) → end_by (call.Remove n) r ≡ outcome.OutOfMemory → RunsShort job (call.Remove n) r rest
  short_removal n reply.Removed rest other is = absurd (other refl)
  short_removal n reply.Failed rest other is = absurd (let no : outcome.Refused (refusal.StoreFault (place_of (call.Remove n))) ≡ outcome.OutOfMemory = is in cc)
  short_removal n r rest other is = tt

  -- ---- where states lead

  -- the call may come along a course after those before, and memory can be wanting after it
  abbrev pub Next : List Exchange → Found → List Call → Call → List Call → Type 0
  Next seen found course c rest = (IsLookOf codec job found seen c × (course ≡ rest)) ⊎ ((course ≡ c ∷ rest) × IsNotLast c rest)

  pub next_is : (seen : List Exchange) (found : Found) (course : List Call) (c : Call) (rest : List Call) → Next seen found course c rest → IsNext (IsLookOf codec job found) seen course c rest
  next_is seen found course c rest (inl look) = inl look
  next_is seen found course c rest (inr next) = inr next.0

  pub next_short : (seen : List Exchange) (found : Found) (course : List Call) (c : Call) (r : Reply) (rest : List Call) → Next seen found course c rest → RunsShort job c r rest
  next_short seen found course c r rest (inl look) = short_look c r rest (look_by found seen job.command c look.0)
  next_short seen found course c r rest (inr next) = short_before c r rest next.1

  -- the calls from a state on say what was found, and end along the course
  abbrev pub Goes : List Exchange → Found → List Call → List Exchange → Outcome → State F → Type 0
  Goes seen found course xs end s = WorkAsks codec job s xs → WorkEnds codec job s xs end → AreFound job found xs × Ends seen found course xs end

  -- so do the calls after one more, which leads to a state; memory can be wanting for what its reply leads to, or not
  abbrev pub FollowsIf : Bool → List Exchange → Found → List Call → Exchange → List Exchange → Outcome → State F → Type 0
  FollowsIf takes seen found course x xs end s = WorkAsks codec job s xs → WorkEndsIf codec job (takes || asks_memory s) s xs end → AreFound job found (x ∷ xs) × Ends seen found course (x ∷ xs) end

  -- so they do where it can be
  abbrev pub Follows : List Exchange → Found → List Call → Exchange → List Exchange → Outcome → State F → Type 0
  Follows seen found course x xs end s = FollowsIf true seen found course x xs end s

  -- an end for want of memory by the last call
  none_by : (seen : List Exchange) (found : Found) (course rest : List Call) (x : Exchange) → IsNext (IsLookOf codec job found) seen course x.call rest → RunsShort job x.call x.reply rest → Ends seen found course (x ∷ []) outcome.OutOfMemory
  none_by seen found course rest x next runs = inr (x, at_last (IsLookOf codec job found) seen course rest x next, runs)

  -- a refusal by the last call
  refused_by : (seen : List Exchange) (found : Found) (course rest : List Call) (x : Exchange) (r : Refusal) → IsNext (IsLookOf codec job found) seen course x.call rest → IsCause codec job found (seen ++ x ∷ []) x r → Ends seen found course (x ∷ []) (outcome.Refused r)
  refused_by seen found course rest x r next cause = (x, at_last (IsLookOf codec job found) seen course rest x next, cause)

  -- what holds where memory can be wanting holds where it may not be
  pub follows_anyhow : (takes : Bool) (seen : List Exchange) (found : Found) (course : List Call) (x : Exchange) (xs : List Exchange) (end : Outcome) (s : State F) → Follows seen found course x xs end s → FollowsIf takes seen found course x xs end s
  follows_anyhow takes seen found course x xs end s follows a e = follows a (ends_more codec job (takes || asks_memory s) s xs end e)

  -- one that leads on
  pub follows_on_if : (takes : Bool) (seen : List Exchange) (found : Found) (course rest : List Call) (x : Exchange) (xs : List Exchange) (end : Outcome) (s : State F) → SaysFound found job.command x.call x.reply → IsTrue (lets_on x.call x.reply) → IsNext (IsLookOf codec job found) seen course x.call rest
      → (WorkEndsIf codec job (takes || asks_memory s) s [] outcome.OutOfMemory → RunsShort job x.call x.reply rest) → Goes (seen ++ x ∷ []) found rest xs end s → FollowsIf takes seen found course x xs end s
  follows_on_if takes seen found course rest x xs end s says on next short goes_on a e =
      let before : Bool = takes || asks_memory s in
      let h = goes_on a (ends_more codec job before s xs end e) in
      let now : xs ≡ [] → end ≡ outcome.OutOfMemory → WorkEndsIf codec job before s [] outcome.OutOfMemory =
      λ none is. subst (λ o. WorkEndsIf codec job before s [] o) is (subst (λ ys. WorkEndsIf codec job before s ys end) none e) in
      (All-cons (λ y. SaysFound found job.command y.call y.reply) x xs says h.0, ends_cons seen found course rest x xs end on next (λ none is. short (now none is)) h.1)

  pub follows_on : (seen : List Exchange) (found : Found) (course rest : List Call) (x : Exchange) (xs : List Exchange) (end : Outcome) (s : State F) → SaysFound found job.command x.call x.reply → IsTrue (lets_on x.call x.reply) → Next seen found course x.call rest → Goes (seen ++ x ∷ []) found rest xs end s → Follows seen found course x xs end s
  follows_on seen found course rest x xs end s says on next goes_on =
      follows_on_if true seen found course rest x xs end s says on (next_is seen found course x.call rest next) (λ _. next_short seen found course x.call x.reply rest next) goes_on

  -- one by which the job ends
  pub follows_over_if : (takes : Bool) (seen : List Exchange) (found : Found) (course rest : List Call) (x : Exchange) (xs : List Exchange) (end o : Outcome) → SaysFound found job.command x.call x.reply → IsNext (IsLookOf codec job found) seen course x.call rest
      → (takes ≡ true → RunsShort job x.call x.reply rest) → Ends seen found course (x ∷ []) o → FollowsIf takes seen found course x xs end (Over o)
  follows_over_if takes seen found course rest x xs end o says next short h a e =
      let over = over_ends_if (takes || false) o xs end a e in
      subst (λ ys. AreFound job found (x ∷ ys) × Ends seen found course (x ∷ ys) end) (sym over.0)
      (All-cons (λ y. SaysFound found job.command y.call y.reply) x [] says (All-nil (λ y. SaysFound found job.command y.call y.reply)), by_end over.1)
    where
      takes_it : (b : Bool) → (b || false) ≡ true → b ≡ true
      takes_it true is = refl
      takes_it false is = is

      by_end : (end ≡ o) ⊎ ((end ≡ outcome.OutOfMemory) × ((takes || false) ≡ true)) → Ends seen found course (x ∷ []) end
      by_end (inl q) = subst (Ends seen found course (x ∷ [])) (sym q) h
      by_end (inr (q, lacks)) = subst (Ends seen found course (x ∷ [])) (sym q) (none_by seen found course rest x next (short (takes_it takes lacks)))

  pub follows_over : (seen : List Exchange) (found : Found) (course rest : List Call) (x : Exchange) (xs : List Exchange) (end o : Outcome) → SaysFound found job.command x.call x.reply → Next seen found course x.call rest → Ends seen found course (x ∷ []) o → Follows seen found course x xs end (Over o)
  follows_over seen found course rest x xs end o says next h = follows_over_if true seen found course rest x xs end o says (next_is seen found course x.call rest next) (λ _. next_short seen found course x.call x.reply rest next) h

  -- one by which it ends for want of memory
  pub follows_none : (seen : List Exchange) (found : Found) (course rest : List Call) (x : Exchange) (xs : List Exchange) (end : Outcome) → SaysFound found job.command x.call x.reply → Next seen found course x.call rest → Follows seen found course x xs end (Over outcome.OutOfMemory)
  follows_none seen found course rest x xs end says next =
      follows_over seen found course rest x xs end outcome.OutOfMemory says next
      (none_by seen found course rest x (next_is seen found course x.call rest next) (next_short seen found course x.call x.reply rest next))

  -- one whose refusal has its cause
  pub follows_refused : (seen : List Exchange) (found : Found) (course rest : List Call) (x : Exchange) (xs : List Exchange) (end : Outcome) (r : Refusal) → SaysFound found job.command x.call x.reply → Next seen found course x.call rest → IsCause codec job found (seen ++ x ∷ []) x r → Follows seen found course x xs end (refuse r)
  follows_refused seen found course rest x xs end r says next cause =
      follows_over seen found course rest x xs end (outcome.Refused r) says next (refused_by seen found course rest x r (next_is seen found course x.call rest next) cause)

  -- the end to which a reply leads that does not let the job go on
  ends_by : (seen : List Exchange) (found : Found) (course rest : List Call) (c : Call) (r : Reply) → LeavesFrame c r → IsNext (IsLookOf codec job found) seen course c rest → (end_by c r ≡ outcome.OutOfMemory → RunsShort job c r rest) → Ends seen found course (record { call = c; reply = r } ∷ []) (end_by c r)
  ends_by seen found course rest c reply.Failed leaves next short = refused_by seen found course rest (record { call = c; reply = reply.Failed }) (refusal.StoreFault (place_of c)) next (refl, refl)
  ends_by seen found course rest (call.Put n bytes) reply.Taken leaves next short = refused_by seen found course rest (record { call = call.Put n bytes; reply = reply.Taken }) (refusal.Taken n) next (taken_elsewhere n bytes leaves, bytes, refl)
  ends_by seen found course rest (call.Get n from len) reply.Absent leaves next short = refused_by seen found course rest (record { call = call.Get n from len; reply = reply.Absent }) (refusal.Missing n) next (refl, refl)
  ends_by seen found course rest (call.Size n) reply.Absent leaves next short = refused_by seen found course rest (record { call = call.Size n; reply = reply.Absent }) (refusal.Missing n) next (refl, refl)
  ends_by seen found course rest (call.Put n bytes) r leaves next short = none_by seen found course rest (record { call = call.Put n bytes; reply = r }) next (short refl)
  ends_by seen found course rest (call.Get n from len) r leaves next short = none_by seen found course rest (record { call = call.Get n from len; reply = r }) next (short refl)
  ends_by seen found course rest (call.Size n) r leaves next short = none_by seen found course rest (record { call = call.Size n; reply = r }) next (short refl)
  ends_by seen found course rest (call.Remove n) r leaves next short = none_by seen found course rest (record { call = call.Remove n; reply = r }) next (short refl)
  ends_by seen found course rest (call.List p) r leaves next short = none_by seen found course rest (record { call = call.List p; reply = r }) next (short refl)

  -- one whose reply does not let the job go on
  pub follows_ended_if : (takes : Bool) (seen : List Exchange) (found : Found) (course rest : List Call) (c : Call) (r : Reply) (xs : List Exchange) (end : Outcome) → LeavesFrame c r → SaysFound found job.command c r → IsNext (IsLookOf codec job found) seen course c rest
      → ((takes ≡ true) ⊎ (end_by c r ≡ outcome.OutOfMemory) → RunsShort job c r rest) → FollowsIf takes seen found course (record { call = c; reply = r }) xs end (ended c r)
  follows_ended_if takes seen found course rest c r xs end leaves says next short =
      follows_over_if takes seen found course rest (record { call = c; reply = r }) xs end (end_by c r) says next (λ can. short (inl can)) (ends_by seen found course rest c r leaves next (λ none. short (inr none)))

  pub follows_ended : (seen : List Exchange) (found : Found) (course rest : List Call) (c : Call) (r : Reply) (xs : List Exchange) (end : Outcome) → LeavesFrame c r → SaysFound found job.command c r → Next seen found course c rest → Follows seen found course (record { call = c; reply = r }) xs end (ended c r)
  follows_ended seen found course rest c r xs end leaves says next =
      follows_ended_if true seen found course rest c r xs end leaves says (next_is seen found course c rest next) (λ _. next_short seen found course c r rest next)

  -- a job that makes no call, and is not over, ends for want of memory
  pub goes_none : (seen : List Exchange) (found : Found) (course : List Call) (end : Outcome) (s : State F) → ((o : Outcome) → s ≡ Over o → ⊥) → Goes seen found course [] end s
  goes_none seen found course end s not_over a (inl e) = absurd (not_over end e)
  goes_none seen found course end s not_over a (inr e) = (All-nil (λ y. SaysFound found job.command y.call y.reply), subst (Ends seen found course []) (sym e.0) (inl refl))

  -- a call that a state asks, and what follows from where it leads
  pub goes_by : (seen : List Exchange) (found : Found) (course : List Call) (x : Exchange) (xs : List Exchange) (end : Outcome) (s : State F) (c : Call) → asks codec job s ≡ Some c → (x.call ≡ c → FollowsIf (takes_memory s) seen found course (record { call = c; reply = x.reply }) xs end (goes codec job s x.reply)) → Goes seen found course (x ∷ xs) end s
  goes_by seen found course x xs end s c is follows a e =
      subst (λ d. AreFound job found (record { call = d; reply = x.reply } ∷ xs) × Ends seen found course (record { call = d; reply = x.reply } ∷ xs) end) (sym (call_is c x.call (sym is ∙ a.0))) (follows (call_is c x.call (sym is ∙ a.0)) a.1 e)

  -- ---- puts

  -- some objects are left before the end of them
  some_put : (objects : List NewObject) (next : ℕ) → next < length objects → list_map put_of (drop next objects) ≡ [] → ⊥
  some_put [] next less none = omega (arith, less)
  some_put (ob ∷ objects) zero less none = cc
  some_put (ob ∷ objects) (suc next) less none = some_put objects next (omega (arith, less)) none

  -- after a call, objects are put from a place on
  follows_putting_if : (takes : Bool) (seen : List Exchange) (found : Found) (course : List Call) (x : Exchange) (xs : List Exchange) (end : Outcome) (objects : List NewObject) (next : ℕ) (o : Outcome) → Well (seen ++ x ∷ []) found o → SaysFound found job.command x.call x.reply → IsTrue (lets_on x.call x.reply)
      → IsNext (IsLookOf codec job found) seen course x.call (list_map put_of (drop next objects)) → ((takes ≡ true) ⊎ (next < length objects) → RunsShort job x.call x.reply (list_map put_of (drop next objects)))
      → Goes (seen ++ x ∷ []) found (list_map put_of (drop next objects)) xs end (Puts objects next o) → FollowsIf takes seen found course x xs end (putting objects next o)
  follows_putting_if takes seen found course x xs end objects next o well says on following short goes_on = by_count (nat_lt next (length objects)) refl
    where
      by_count : (b : Bool) → nat_lt next (length objects) ≡ b → FollowsIf takes seen found course x xs end (cond b (Puts objects next o) (Over o))
      by_count true is = follows_on_if takes seen found course (list_map put_of (drop next objects)) x xs end (Puts objects next o) says on following (λ _. short (inr (ltb-true next (length objects) is))) goes_on
      by_count false is =
          let none : IsNext (IsLookOf codec job found) seen course x.call [] = subst (λ os. IsNext (IsLookOf codec job found) seen course x.call (list_map put_of os)) (drop_past objects next is) following in
          let R : List NewObject → Type 0 = λ os. RunsShort job x.call x.reply (list_map put_of os) in
          follows_over_if takes seen found course [] x xs end o says none (λ can. subst R (drop_past objects next is) (short (inl can))) (well_ended seen found course (x ∷ []) o well (on, ([], none, refl)))

  pub follows_putting : (seen : List Exchange) (found : Found) (course : List Call) (x : Exchange) (xs : List Exchange) (end : Outcome) (objects : List NewObject) (next : ℕ) (o : Outcome) → Well (seen ++ x ∷ []) found o → SaysFound found job.command x.call x.reply → IsTrue (lets_on x.call x.reply)
      → Next seen found course x.call (list_map put_of (drop next objects)) → Goes (seen ++ x ∷ []) found (list_map put_of (drop next objects)) xs end (Puts objects next o) → Follows seen found course x xs end (putting objects next o)
  follows_putting seen found course x xs end objects next o well says on following goes_on =
      let left : List Call = list_map put_of (drop next objects) in
      follows_putting_if true seen found course x xs end objects next o well says on (next_is seen found course x.call left following) (λ _. next_short seen found course x.call x.reply left following) goes_on

  -- a job that puts objects goes along their puts
  pub puts_go : (seen : List Exchange) (found : Found) (objects : List NewObject) (o : Outcome) → Well seen found o → ((ob : NewObject) → Contains objects ob → ob.name ≡ name.Domain → ⊥) → ((ob : NewObject) → Contains objects ob → (r : Reply) → SaysFound found job.command (put_of ob) r)
      → (xs : List Exchange) (end : Outcome) (next : ℕ) → Goes seen found (list_map put_of (drop next objects)) xs end (Puts objects next o)
  puts_go seen found objects o well elsewhere silent [] end next = goes_none seen found (list_map put_of (drop next objects)) end (Puts objects next o) (λ e q. cc)
  puts_go seen found objects o well elsewhere silent (x ∷ xs) end next = by_item (slice_get objects next) refl (λ y. puts_go (seen ++ y ∷ []) found objects o (well_stays seen found y o well) elsewhere silent xs end (suc next))
    where
      by_item : (i : Option NewObject) → slice_get objects next ≡ i → ((y : Exchange) → Goes (seen ++ y ∷ []) found (list_map put_of (drop (suc next) objects)) xs end (Puts objects (suc next) o)) → Goes seen found (list_map put_of (drop next objects)) (x ∷ xs) end (Puts objects next o)
      by_item None is goes_on = λ a e. absurd (none-some x.call (sym (ap (option_map put_of) is) ∙ a.0))
      by_item (Some ob) is goes_on =
          let left : drop next objects ≡ ob ∷ drop (suc next) objects = drop_item objects next ob is in
          goes_by seen found (list_map put_of (drop next objects)) x xs end (Puts objects next o) (put_of ob) (ap (option_map put_of) is)
          (λ same. subst (λ os. FollowsIf false seen found (list_map put_of os) (record { call = put_of ob; reply = x.reply }) xs end (goes codec job (Puts objects next o) x.reply)) (sym left) (rw is (by_reply x.reply)))
        where
          by_reply : (r : Reply) → FollowsIf false seen found (put_of ob ∷ list_map put_of (drop (suc next) objects)) (record { call = put_of ob; reply = r }) xs end (on_made (put_of ob) (putting objects (suc next) o) r)
          by_reply reply.Made =
              follows_putting_if false seen found (put_of ob ∷ list_map put_of (drop (suc next) objects)) (record { call = put_of ob; reply = reply.Made }) xs end objects (suc next) o (well_stays seen found (record { call = put_of ob; reply = reply.Made }) o well) (silent ob (item_in objects next ob is) reply.Made) (lets_put ob.name ob.bytes) (inr refl) (λ more. elim more [ inl can ↦ absurd (true≢false (sym can)) | inr less ↦ some_put objects (suc next) less ]) (goes_on (record { call = put_of ob; reply = reply.Made }))
          by_reply r =
              follows_ended_if false seen found (put_of ob ∷ list_map put_of (drop (suc next) objects)) (list_map put_of (drop (suc next) objects)) (put_of ob) r xs end (leaves_frame ob.name ob.bytes r (elsewhere ob (item_in objects next ob is))) (silent ob (item_in objects next ob is) r) (inr refl)
              (λ short. elim short [ inl can ↦ absurd (true≢false (sym can)) | inr none ↦ short_put ob.name ob.bytes r (list_map put_of (drop (suc next) objects)) (λ made. cc) none ])
