-- Lists of one length.
use Rattle.std.proofs.Common.{◌≡◌, ℕ, ◌<◌, inl, inr, List, Some, length, arith}
use Rattle.std.specs.Prelude.{slice_get}
use Rattle.std.proofs.lemmas.Option.{slice_get_cases}

-- an item of one list has one at its place in a list as long
pub item_at : {X Y : Type 0} (xs : List X) (ys : List Y) (i : ℕ) → length xs ≡ length ys → i < length xs → (y : Y) × (slice_get ys i ≡ Some y)
item_at xs ys i same within = elim (slice_get_cases ys i).1 [
  | inl there ↦ (there.0, there.2)
  | inr past ↦ absurd (omega (arith, past.0, same, within))
]
