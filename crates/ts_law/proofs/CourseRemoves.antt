-- The removals of a job along its course.
use Rattle.std.proofs.Common.{length, ◌≡◌, ◌<◌, ◌||◌, ◌⊎◌, ℕ, zero, suc, Bool, true, false, cond, List, [], ◌∷◌, ◌++◌, drop, Option, Some, None, IsTrue, arith, refl, sym, ◌∙◌, ap, inl, inr, subst}
use Rattle.std.specs.Prelude.{nat_lt, option_map, slice_get, map as list_map}
use Rattle.std.specs.Option.{is_none}
use Rattle.std.proofs.lemmas.Bool.{ltb-true, true≢false}
use Rattle.std.proofs.lemmas.Option.{none-some, same_Some}
use Rattle.ts_base.specs.declared.names.Name.{Name}
use Rattle.ts_store.specs.declared.call.Call.{Call}
use Rattle.ts_store.specs.declared.call.Reply.{Reply}
use Rattle.ts_model.specs.declared.answers.Outcome.{Outcome}
use Rattle.ts_model.specs.declared.commands.Job.{Job}
use Rattle.ts_model.specs.declared.states.State.{State}
use Rattle.ts_model.specs.declared.states.State.TheVariants.{Removes, Over}
use Rattle.ts_model.specs.Codecs.{Codec}
use Rattle.ts_model.specs.States.{Exchange, goes, on_removed, removing}
use Rattle.ts_law.specs.Courses.{Found, IsLookOf, IsNext, ReleasesNext, RunsShort, SaysFound, lets_on}
use Rattle.ts_law.proofs.CourseCalls.{Follows, FollowsIf, Goes, Next, Well, WorkEndsIf, drop_item, drop_past, follows_ended_if, follows_on_if, follows_over_if, goes_by, goes_none, next_is, next_short, short_removal, well_ended, well_stays}
use Rattle.ts_store.specs.declared.call.Call.TheVariants as call
use Rattle.ts_store.specs.declared.call.Reply.TheVariants as reply
use Rattle.ts_model.specs.declared.answers.Outcome.TheVariants as outcome

-- some names are left before the end of them
some_name : (names : List Name) (next : ℕ) → next < length names → is_none (slice_get names next) ≡ true → ⊥
some_name [] next less none = omega (arith, less)
some_name (n ∷ names) zero less none = true≢false (sym none)
some_name (n ∷ names) (suc next) less none = some_name names next (omega (arith, less)) none

-- the removals of the names from a place on begin with that of the name there
removal_first : (names : List Name) (next : ℕ) (c : Call) → option_map call.Remove (slice_get names next) ≡ Some c → list_map call.Remove (drop next names) ≡ c ∷ list_map call.Remove (drop (suc next) names)
removal_first names next c is = by_item (slice_get names next) refl
  where
    by_item : (i : Option Name) → slice_get names next ≡ i → list_map call.Remove (drop next names) ≡ c ∷ list_map call.Remove (drop (suc next) names)
    by_item None none = absurd (none-some c (sym (ap (option_map call.Remove) none) ∙ is))
    by_item (Some n) at =
        ap (list_map call.Remove) (drop_item names next n at)
        ∙ ap (λ d. d ∷ list_map call.Remove (drop (suc next) names)) (same_Some (call.Remove n) c (sym (ap (option_map call.Remove) at) ∙ is))

module _ {F : Type 0} (codec : Codec F) (job : Job) where
  -- after a call, objects are removed from a place on
  follows_removing_if : (takes : Bool) (seen : List Exchange) (found : Found) (course : List Call) (x : Exchange) (xs : List Exchange) (end : Outcome) (names : List Name) (next : ℕ) (o : Outcome) → Well codec job (seen ++ x ∷ []) found o → SaysFound found job.command x.call x.reply → IsTrue (lets_on x.call x.reply)
      → IsNext (IsLookOf codec job found) seen course x.call (list_map call.Remove (drop next names)) → ((takes ≡ true) ⊎ ReleasesNext job (list_map call.Remove (drop next names)) → RunsShort job x.call x.reply (list_map call.Remove (drop next names)))
      → Goes codec job (seen ++ x ∷ []) found (list_map call.Remove (drop next names)) xs end (Removes names next o) → FollowsIf codec job takes seen found course x xs end (removing names next o)
  follows_removing_if takes seen found course x xs end names next o well says on following short goes_on = by_count (nat_lt next (length names)) refl
    where
      left : List Call
      left = list_map call.Remove (drop next names)

      takes_it : (b : Bool) → next < length names → (b || is_none (slice_get names next)) ≡ true → b ≡ true
      takes_it true less is = refl
      takes_it false less is = absurd (some_name names next less is)

      going : ◌≡◌ {A = State F} (Removes names next o) (Over outcome.OutOfMemory) → ⊥
      going e = cc

      runs : next < length names → WorkEndsIf codec job (takes || is_none (slice_get names next)) (Removes names next o) [] outcome.OutOfMemory → RunsShort job x.call x.reply left
      runs less (inl over) = absurd (going over)
      runs less (inr (none, inl lacks)) = short (inl (takes_it takes less lacks))
      runs less (inr (none, inr (lease, own, asked))) = short (inr (lease, own, list_map call.Remove (drop (suc next) names), removal_first names next (call.Remove lease) asked))

      by_count : (b : Bool) → nat_lt next (length names) ≡ b → FollowsIf codec job takes seen found course x xs end (cond b (Removes names next o) (Over o))
      by_count true is = follows_on_if codec job takes seen found course left x xs end (Removes names next o) says on following (runs (ltb-true next (length names) is)) goes_on
      by_count false is =
          let none : IsNext (IsLookOf codec job found) seen course x.call [] = subst (λ ns. IsNext (IsLookOf codec job found) seen course x.call (list_map call.Remove ns)) (drop_past names next is) following in
          let R : List Name → Type 0 = λ ns. RunsShort job x.call x.reply (list_map call.Remove ns) in
          follows_over_if codec job takes seen found course [] x xs end o says none (λ can. subst R (drop_past names next is) (short (inl can))) (well_ended codec job seen found course (x ∷ []) o well (on, ([], none, refl)))

  pub follows_removing : (seen : List Exchange) (found : Found) (course : List Call) (x : Exchange) (xs : List Exchange) (end : Outcome) (names : List Name) (next : ℕ) (o : Outcome) → Well codec job (seen ++ x ∷ []) found o → SaysFound found job.command x.call x.reply → IsTrue (lets_on x.call x.reply)
      → Next codec job seen found course x.call (list_map call.Remove (drop next names)) → Goes codec job (seen ++ x ∷ []) found (list_map call.Remove (drop next names)) xs end (Removes names next o)
      → Follows codec job seen found course x xs end (removing names next o)
  follows_removing seen found course x xs end names next o well says on following goes_on =
      let left : List Call = list_map call.Remove (drop next names) in
      follows_removing_if true seen found course x xs end names next o well says on (next_is codec job seen found course x.call left following) (λ _. next_short codec job seen found course x.call x.reply left following) goes_on

  -- a job that removes objects goes along their removals
  pub removes_go : (seen : List Exchange) (found : Found) (names : List Name) (o : Outcome) → Well codec job seen found o → ((n : Name) (r : Reply) → SaysFound found job.command (call.Remove n) r)
      → (xs : List Exchange) (end : Outcome) (next : ℕ) → Goes codec job seen found (list_map call.Remove (drop next names)) xs end (Removes names next o)
  removes_go seen found names o well silent [] end next = goes_none codec job seen found (list_map call.Remove (drop next names)) end (Removes names next o) (λ e q. cc)
  removes_go seen found names o well silent (x ∷ xs) end next = by_item (slice_get names next) refl (λ y. removes_go (seen ++ y ∷ []) found names o (well_stays codec job seen found y o well) silent xs end (suc next))
    where
      by_item : (i : Option Name) → slice_get names next ≡ i → ((y : Exchange) → Goes codec job (seen ++ y ∷ []) found (list_map call.Remove (drop (suc next) names)) xs end (Removes names (suc next) o))
          → Goes codec job seen found (list_map call.Remove (drop next names)) (x ∷ xs) end (Removes names next o)
      by_item None is goes_on = λ a e. absurd (none-some x.call (sym (ap (option_map call.Remove) is) ∙ a.0))
      by_item (Some n) is goes_on =
          let left : drop next names ≡ n ∷ drop (suc next) names = drop_item names next n is in
          goes_by codec job seen found (list_map call.Remove (drop next names)) x xs end (Removes names next o) (call.Remove n) (ap (option_map call.Remove) is)
          (λ same. subst (λ ns. FollowsIf codec job false seen found (list_map call.Remove ns) (record { call = call.Remove n; reply = x.reply }) xs end (goes codec job (Removes names next o) x.reply)) (sym left) (rw is (by_reply x.reply)))
        where
          by_reply : (r : Reply) → FollowsIf codec job false seen found (call.Remove n ∷ list_map call.Remove (drop (suc next) names)) (record { call = call.Remove n; reply = r }) xs end (on_removed (call.Remove n) (removing names (suc next) o) r)
          by_reply reply.Removed =
              let y : Exchange = record { call = call.Remove n; reply = reply.Removed } in
              follows_removing_if false seen found (call.Remove n ∷ list_map call.Remove (drop (suc next) names)) y xs end names (suc next) o (well_stays codec job seen found y o well) (silent n reply.Removed) refl (inr refl)
              (λ more. elim more [ inl can ↦ absurd (true≢false (sym can)) | inr gives ↦ gives ]) (goes_on y)
          by_reply r =
              follows_ended_if codec job false seen found (call.Remove n ∷ list_map call.Remove (drop (suc next) names)) (list_map call.Remove (drop (suc next) names)) (call.Remove n) r xs end tt (silent n r) (inr refl)
              (λ short. elim short [ inl can ↦ absurd (true≢false (sym can)) | inr none ↦ short_removal codec job n r (list_map call.Remove (drop (suc next) names)) (λ gone. cc) none ])
