-- Identifiers that are taken, by the test and by their definition.
use Rattle.std.proofs.Common.{◌≡◌, ℕ, zero, suc, Bool, true, false, ◌||◌, inl, inr, List, [], ◌∷◌, Option, Some, None, refl, sym, ◌∙◌, ap}
use Rattle.std.specs.Prelude.{Contains, slice_get, nat_eq}
use Rattle.std.specs.List.{list_any}
use Rattle.std.specs.Option.{option_map_or}
use Rattle.std.specs.FinMap as finite
use Rattle.std.specs.Ordering.{eq_by_cmp}
use Rattle.std.proofs.lemmas.Bool.{true≢false, eqb-true, eq-eqb}
use Rattle.std.proofs.lemmas.Cmp.{eq_by_cmp_equiv}
use Rattle.std.proofs.lemmas.Option.{same_Some, none-some}
use Rattle.std.proofs.lemmas.List.Folds.{Any-from_list_any}
use Rattle.std.proofs.lemmas.Map.Views.{list_any-from_Contains}
use Rattle.ts_base.specs.Names.{name_cmp}
use Rattle.ts_base.specs.Exact.{name_total, name_exact}
use Rattle.ts_law.specs.Fresh.{id_in, IsCarried, IsNewId}
use Rattle.ts_model.proofs.ListLemmas.{slice_get-Contains}
use Rattle.ts_model.proofs.KeyLemmas.{same_from_tie}
use Rattle.ts_world.specs.Views.{WorldView}
use Rattle.ts_world.specs.Slots.{is_job_id, carries, is_taken}
use Rattle.ts_world.specs.Clauses.{IsTaken}

any_at : {X : Type 0} (p : X → Bool) (xs : List X) (i : ℕ) (x : X) → slice_get xs i ≡ Some x → p x ≡ true → list_any p xs ≡ true
any_at p [] i x at holds = absurd (none-some x at)
any_at p (y ∷ xs) zero x at holds = rw (ap p (same_Some y x at) ∙ holds) refl
any_at p (y ∷ xs) (suc i) x at holds = elim (p y) as (λ b. (b || list_any p xs) ≡ true) [
  | true ↦ refl
  | false ↦ any_at p xs i x at holds
]

some_at : {X : Type 0} (p : X → Bool) (xs : List X) → list_any p xs ≡ true → (x : X) × Contains xs x × (p x ≡ true)
some_at p xs is = let some = Any-from_list_any p xs is in (some.1, (some.0, some.2, some.3), some.4)

-- the identifier that is found is the one that is carried
pub carried : (id : ℕ) (o : Option ℕ) → option_map_or (λ own. nat_eq own id) o false ≡ true → o ≡ Some id
carried id None is = absurd (true≢false (sym is))
carried id (Some own) is = ap Some (eqb-true own id is)

-- what the test finds is taken
pub taken_from : (w : WorldView) (id : ℕ) → is_taken w.jobs w.held id ≡ true → IsTaken w id
taken_from w id is = elim (list_any (is_job_id id) w.jobs) as (λ b. list_any (is_job_id id) w.jobs ≡ b → (b || list_any (carries id) (finite.keys w.held)) ≡ true → IsTaken w id) [
  | true ↦ λ found _.
      let some = some_at (is_job_id id) w.jobs found in
      let place = slice_get-Contains w.jobs some.0 some.1 in
      inl (place.0, some.0, place.1, eqb-true some.0.id id some.2)
  | false ↦ λ _ found.
      let some = some_at (carries id) (finite.keys w.held) found in
      inr (some.0, finite.contains_key-keys w.held some.0 ∙ list_any-from_Contains (eq_by_cmp_equiv name_total) some.0 (finite.keys w.held) some.1, carried id (id_in some.0) some.2)
] refl is

-- one of two tests passes if the second does
pub or_right : (a b : Bool) → b ≡ true → (a || b) ≡ true
or_right true b is = refl
or_right false b is = is

-- what is taken the test finds
pub taken_to : (w : WorldView) (id : ℕ) → IsTaken w id → is_taken w.jobs w.held id ≡ true
taken_to w id (inl (number, job, at, same)) = rw (any_at (is_job_id id) w.jobs number job at (eq-eqb job.id id same)) refl
taken_to w id (inr (n, held, carries_it)) =
    let some = Any-from_list_any (eq_by_cmp name_cmp n) (finite.keys w.held) (sym (finite.contains_key-keys w.held n) ∙ held) in
    let same : n ≡ some.1 = same_from_tie name_total name_exact n some.1 some.4 in
    let place = slice_get-Contains (finite.keys w.held) some.1 (some.0, some.2, some.3) in
    or_right (list_any (is_job_id id) w.jobs) (list_any (carries id) (finite.keys w.held))
    (any_at (carries id) (finite.keys w.held) place.0 some.1 place.1 (ap (λ o. option_map_or (λ own. nat_eq own id) o false) (ap id_in (sym same) ∙ carries_it) ∙ eq-eqb id id refl))

-- an identifier that is not taken, and that nothing carried at the beginning, is new
pub new_id : (w : WorldView) (id : ℕ) → (IsTaken w id → ⊥) → (IsCarried w.opening w.past id → ⊥) → IsNewId w.opening w.past w.held w.jobs id
new_id w id free new = record { uncarried = new; free = λ held. free (inr held); other = λ number job at same. free (inl (number, job, at, same)) }
