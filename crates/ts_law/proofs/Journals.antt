-- The journal of calls leaves the objects that the calls leave.
use Rattle.std.proofs.Common.{◌≡◌, ℕ, true, false, cond, List, [], ◌∷◌, Option, Some, None, refl}
use Rattle.std.specs.List.{cons_option}
use Rattle.ts_base.specs.Held.{Held}
use Rattle.ts_store.specs.Calls.{after, is_no_memory}
use Rattle.ts_store.specs.Journals.{held_after}
use Rattle.ts_model.specs.Told.{Told, held_told, entries_of}

-- the calls leave what their entries leave, in whatever lanes they were made
pub journal_held : (lane : Option ℕ → ℕ) (m : Held) (told : List Told) → held_told m told ≡ held_after m (entries_of lane told)
journal_held lane m [] = refl
journal_held lane m (e ∷ told) = elim (is_no_memory e.reply) as (λ b. held_told (cond b m (after m e.call e.fate)) told ≡ held_after m (cons_option (cond b None (Some (record { lane = lane e.job; call = e.call; fate = e.fate }))) (entries_of lane told))) [
  | true ↦ journal_held lane m told
  | false ↦ journal_held lane (after m e.call e.fate) told
]
