-- Which actors were dropped, as numbers and as they stand.
use Rattle.std.proofs.Common.{◌≡◌, ℕ, zero, suc, ◌+◌, inl, inr, List, [], ◌∷◌, Some, refl, sym, ◌∙◌, ap, subst, arith}
use Rattle.std.specs.Prelude.{Contains, slice_get}
use Rattle.std.proofs.lemmas.Option.{none-some, same_Some}
use Rattle.ts_model.proofs.ListLemmas.{Contains-cons, Contains-here, Contains-nil, Contains-there}
use Rattle.ts_law.specs.Kept.{AreAmong}
use Rattle.ts_world.specs.Views.{Standing, Runs, Ended, Dropped}
use Rattle.ts_world.specs.Breaks.{dropped_from, dropped_in}

-- an actor that stands dropped is one of them
dropped_there : (first : ℕ) (actors : List Standing) (k : ℕ) → slice_get actors k ≡ Some Dropped → Contains (dropped_from first actors) (first + k)
dropped_there first [] k at = absurd (none-some Dropped at)
dropped_there first (Dropped ∷ actors) zero at = let same : first ≡ first + 0 = omega arith in subst (λ n. Contains (first ∷ dropped_from (suc first) actors) n) same (Contains-here first (dropped_from (suc first) actors))
dropped_there first (Dropped ∷ actors) (suc k) at =
    let same : suc first + k ≡ first + suc k = omega arith in
    Contains-there first (dropped_from (suc first) actors) (first + suc k) (subst (λ n. Contains (dropped_from (suc first) actors) n) same (dropped_there (suc first) actors k at))
dropped_there first (Runs ∷ actors) zero at = let same : Runs ≡ Dropped = same_Some Runs Dropped at in cc
dropped_there first (Runs ∷ actors) (suc k) at = let same : suc first + k ≡ first + suc k = omega arith in subst (λ n. Contains (dropped_from (suc first) actors) n) same (dropped_there (suc first) actors k at)
dropped_there first (Ended end ∷ actors) zero at = let same : Ended end ≡ Dropped = same_Some (Ended end) Dropped at in cc
dropped_there first (Ended end ∷ actors) (suc k) at = let same : suc first + k ≡ first + suc k = omega arith in subst (λ n. Contains (dropped_from (suc first) actors) n) same (dropped_there (suc first) actors k at)

-- and each of them stands so
dropped_at : (first : ℕ) (actors : List Standing) (n : ℕ) → Contains (dropped_from first actors) n → (k : ℕ) × (n ≡ first + k) × (slice_get actors k ≡ Some Dropped)
dropped_at first [] n at = absurd (Contains-nil n at)
dropped_at first (Dropped ∷ actors) n at = elim (Contains-cons first (dropped_from (suc first) actors) n at) [
  | inl same ↦ (0, omega (arith, same), refl)
  | inr later ↦ let (k, is, there) = dropped_at (suc first) actors n later in (suc k, omega (arith, is), there)
]
dropped_at first (Runs ∷ actors) n at = let (k, is, there) = dropped_at (suc first) actors n at in (suc k, omega (arith, is), there)
dropped_at first (Ended end ∷ actors) n at = let (k, is, there) = dropped_at (suc first) actors n at in (suc k, omega (arith, is), there)

-- an actor that stands dropped is one of the dropped ones
pub dropped_from_seen : (actors : List Standing) (n : ℕ) → slice_get actors n ≡ Some Dropped → Contains (dropped_in actors) n
dropped_from_seen actors n at = let same : 0 + n ≡ n = omega arith in subst (λ k. Contains (dropped_in actors) k) same (dropped_there 0 actors n at)

-- a dropped one stands so
pub seen_from_dropped : (actors : List Standing) (n : ℕ) → Contains (dropped_in actors) n → slice_get actors n ≡ Some Dropped
seen_from_dropped actors n at = let (k, is, there) = dropped_at 0 actors n at in let same : k ≡ n = omega (arith, is) in subst (λ i. slice_get actors i ≡ Some Dropped) same there

-- where those that stand dropped still do, the dropped ones are among those then
pub dropped_on : (few many : List Standing) → ((n : ℕ) → slice_get few n ≡ Some Dropped → slice_get many n ≡ Some Dropped) → AreAmong (dropped_in few) (dropped_in many)
dropped_on few many on n at = dropped_from_seen many n (on n (seen_from_dropped few n at))

-- an actor that stands otherwise is none of them
pub not_dropped : (actors : List Standing) (n : ℕ) (s : Standing) → slice_get actors n ≡ Some s → (s ≡ Dropped → ⊥) → Contains (dropped_in actors) n → ⊥
not_dropped actors n s at up there = up (same_Some s Dropped (sym at ∙ seen_from_dropped actors n there))
