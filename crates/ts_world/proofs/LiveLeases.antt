-- Leases of running actors, by the test and by their definition.
use Rattle.std.proofs.Common.{◌≡◌, ◌≤◌, ℕ, zero, suc, ◌+◌, add-one, Bool, true, false, not, ◌&&◌, ◌||◌, List, [], ◌∷◌, drop, length, Option, Some, None, refl, sym, ◌∙◌, ap, subst, arith}
use Rattle.std.specs.Prelude.{slice_get, nat_eq}
use Rattle.std.specs.Option.{option_map_or}
use Rattle.std.proofs.lemmas.Bool.{true≢false, eqb-true, eq-eqb, and_from, and_parts}
use Rattle.std.proofs.lemmas.Option.{same_Some, none-some}
use Rattle.ts_base.specs.declared.keys.Key.{Key}
use Rattle.ts_base.specs.declared.names.LeaseMode.{LeaseMode}
use Rattle.ts_base.specs.declared.names.Name.{Name}
use Rattle.ts_base.specs.declared.names.Name.TheVariants as name
use Rattle.ts_store.specs.declared.call.Call.{Call}
use Rattle.ts_store.specs.declared.call.Call.TheVariants as call
use Rattle.ts_model.specs.declared.commands.Job.{Job}
use Rattle.ts_law.specs.Fresh.{id_in}
use Rattle.ts_world.specs.declared.slots.Running.{Running}
use Rattle.ts_world.specs.declared.slots.Slot.{Slot}
use Rattle.ts_world.specs.declared.slots.Slot.TheVariants as slot
use Rattle.ts_world.specs.Breaks.{IsLive, lease_removed}
use Rattle.ts_world.specs.Slots.{carries, is_live_at, is_live_from, is_other, is_up, standings}
use Rattle.ts_world.proofs.Ids.{carried, or_right}
use Rattle.ts_world.proofs.Views.{seen_at, up_at}

-- the call that removes a lease removes that one
pub removed_is : (c : Call) (lease : Name) (key : Key) (mode : LeaseMode) → c ≡ call.Remove lease → lease ≡ name.Lease key mode → lease_removed c ≡ Some lease
removed_is c lease key mode removes named =
    let Q : Name → Type 0 = λ n. lease_removed (call.Remove n) ≡ Some n in
    ap lease_removed removes ∙ subst Q (sym named) refl

-- an actor other than the one that makes a call
other_from : (by : Option ℕ) (number : ℕ) → is_other by number ≡ true → by ≡ Some number → ⊥
other_from None number is same = none-some number same
other_from (Some own) number is same = true≢false (sym is ∙ ap not (eq-eqb own number (same_Some own number same)))

other_to : (by : Option ℕ) (number : ℕ) → (by ≡ Some number → ⊥) → is_other by number ≡ true
other_to None number apart = refl
other_to (Some own) number apart = elim (nat_eq own number) as (λ b. nat_eq own number ≡ b → not b ≡ true) [
  | true ↦ λ same. absurd (apart (ap Some (eqb-true own number same)))
  | false ↦ λ _. refl
] refl

module _ {P F : Type 0} where
  -- a slot that passes the test has an actor that runs
  running_from : (o : Option (Slot P F)) → is_up o ≡ true → (r : Running P F) × (o ≡ Some (slot.Runs r))
  running_from None is = absurd (true≢false (sym is))
  running_from (Some (slot.Runs r)) is = (r, refl)
  running_from (Some (slot.Ended end)) is = absurd (true≢false (sym is))
  running_from (Some slot.Dropped) is = absurd (true≢false (sym is))

  -- what the test finds of the jobs, the first of which has this number
  found_from : (first : ℕ) (jobs : List Job) (slots : List (Slot P F)) (by : Option ℕ) (lease : Name) → is_live_from first jobs slots by lease ≡ true
      → (k : ℕ) × (job : Job) × (slice_get jobs k ≡ Some job) × (carries job.id lease ≡ true) × (is_up (slice_get slots (first + k)) ≡ true) × (is_other by (first + k) ≡ true)
  found_from first [] slots by lease is = absurd (true≢false (sym is))
  found_from first (job ∷ jobs) slots by lease is =
      elim (carries job.id lease && (is_up (slice_get slots first) && is_other by first))
      as (λ b. (carries job.id lease && (is_up (slice_get slots first) && is_other by first)) ≡ b → (b || is_live_from (suc first) jobs slots by lease) ≡ true
      → (k : ℕ) × (j : Job) × (slice_get (job ∷ jobs) k ≡ Some j) × (carries j.id lease ≡ true) × (is_up (slice_get slots (first + k)) ≡ true) × (is_other by (first + k) ≡ true)) [
        | true ↦ λ here _.
            let has = and_parts (carries job.id lease) (is_up (slice_get slots first) && is_other by first) here in
            let runs = and_parts (is_up (slice_get slots first)) (is_other by first) has.1 in
            let same : first ≡ first + 0 = omega arith in
            (0, job, refl, has.0, subst (λ n. is_up (slice_get slots n) ≡ true) same runs.0, subst (λ n. is_other by n ≡ true) same runs.1)
        | false ↦ λ _ later.
            let (k, j, at, has, up, other) = found_from (suc first) jobs slots by lease later in
            let same : suc first + k ≡ first + suc k = omega arith in
            (suc k, j, at, has, subst (λ n. is_up (slice_get slots n) ≡ true) same up, subst (λ n. is_other by n ≡ true) same other)
      ] refl is

  -- what the test finds is live
  pub live_from : (jobs : List Job) (slots : List (Slot P F)) (by : Option ℕ) (lease : Name) → is_live_from 0 jobs slots by lease ≡ true → IsLive jobs (standings slots) by lease
  live_from jobs slots by lease is =
      let (k, job, at, has, up, other) = found_from 0 jobs slots by lease is in
      let same : 0 + k ≡ k = omega arith in
      let (r, runs) = running_from (slice_get slots k) (subst (λ n. is_up (slice_get slots n) ≡ true) same up) in
      record {
        number = k;
        job = job;
        is_job = at;
        runs = seen_at slots k (slot.Runs r) runs;
        other = other_from by k (subst (λ n. is_other by n ≡ true) same other);
        carries = carried job.id (id_in lease) has;
      }

  finds : (first : ℕ) (jobs : List Job) (slots : List (Slot P F)) (by : Option ℕ) (lease : Name) (k : ℕ) (job : Job) → slice_get jobs k ≡ Some job → carries job.id lease ≡ true
      → is_up (slice_get slots (first + k)) ≡ true → is_other by (first + k) ≡ true → is_live_from first jobs slots by lease ≡ true
  finds first [] slots by lease k job at has up other = absurd (none-some job at)
  finds first (j ∷ jobs) slots by lease zero job at has up other =
      let same : first + 0 ≡ first = omega arith in
      let here : (carries j.id lease && (is_up (slice_get slots first) && is_other by first)) ≡ true =
      and_from (carries j.id lease) (is_up (slice_get slots first) && is_other by first) (ap (λ (i : Job). carries i.id lease) (same_Some j job at) ∙ has)
      (and_from (is_up (slice_get slots first)) (is_other by first) (subst (λ n. is_up (slice_get slots n) ≡ true) same up) (subst (λ n. is_other by n ≡ true) same other)) in
      ap (λ b. b || is_live_from (suc first) jobs slots by lease) here
  finds first (j ∷ jobs) slots by lease (suc k) job at has up other =
      let same : first + suc k ≡ suc first + k = omega arith in
      or_right (carries j.id lease && (is_up (slice_get slots first) && is_other by first)) (is_live_from (suc first) jobs slots by lease)
      (finds (suc first) jobs slots by lease k job at has (subst (λ n. is_up (slice_get slots n) ≡ true) same up) (subst (λ n. is_other by n ≡ true) same other))

  -- what is live the test finds
  pub live_to : (jobs : List Job) (slots : List (Slot P F)) (by : Option ℕ) (lease : Name) → IsLive jobs (standings slots) by lease → is_live_from 0 jobs slots by lease ≡ true
  live_to jobs slots by lease live =
      let (r, runs) = up_at slots live.number live.runs in
      let same : live.number ≡ 0 + live.number = omega arith in
      finds 0 jobs slots by lease live.number live.job live.is_job
      (ap (λ o. option_map_or (λ own. nat_eq own live.job.id) o false) live.carries ∙ eq-eqb live.job.id live.job.id refl)
      (subst (λ n. is_up (slice_get slots n) ≡ true) same (ap (λ (o : Option (Slot P F)). is_up o) runs))
      (subst (λ n. is_other by n ≡ true) same (other_to by live.number live.other))

-- ---- a loop over the jobs

drop_at : {X : Type 0} (xs : List X) (i : ℕ) (x : X) → slice_get xs i ≡ Some x → drop i xs ≡ x ∷ drop (suc i) xs
drop_at [] i x at = absurd (none-some x at)
drop_at (y ∷ xs) zero x at = ap (λ z. z ∷ xs) (same_Some y x at)
drop_at (y ∷ xs) (suc i) x at = drop_at xs i x at

drop_past : {X : Type 0} (xs : List X) (i : ℕ) → length xs ≤ i → drop i xs ≡ []
drop_past [] zero past = refl
drop_past [] (suc i) past = refl
drop_past (x ∷ xs) zero past = absurd (omega (arith, past))
drop_past (x ∷ xs) (suc i) past = drop_past xs i (omega (arith, past))

module _ {P F : Type 0} (jobs : List Job) (slots : List (Slot P F)) (by : Option ℕ) (lease : Name) where
  -- the job at a place is found
  pub found_here : (i : ℕ) (job : Job) → slice_get jobs i ≡ Some job → is_live_at slots by lease i job ≡ true → is_live_from i (drop i jobs) slots by lease ≡ true
  found_here i job at is = ap (λ js. is_live_from i js slots by lease) (drop_at jobs i job at) ∙ ap (λ b. b || is_live_from (suc i) (drop (suc i) jobs) slots by lease) is

  -- it is not, and the test goes on behind it
  pub found_later : (i : ℕ) (job : Job) → slice_get jobs i ≡ Some job → is_live_at slots by lease i job ≡ false → is_live_from (i + 1) (drop (i + 1) jobs) slots by lease ≡ is_live_from i (drop i jobs) slots by lease
  found_later i job at is =
      ap (λ n. is_live_from n (drop n jobs) slots by lease) (add-one i)
      ∙ sym (ap (λ js. is_live_from i js slots by lease) (drop_at jobs i job at) ∙ ap (λ b. b || is_live_from (suc i) (drop (suc i) jobs) slots by lease) is)

  -- no job is left
  pub found_nowhere : (i : ℕ) → length jobs ≤ i → is_live_from i (drop i jobs) slots by lease ≡ false
  found_nowhere i past = ap (λ js. is_live_from i js slots by lease) (drop_past jobs i past)
