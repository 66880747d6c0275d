-- Where there is no coordinate 0 stands for it.
use Rattle.std.proofs.Common.{◌≡◌, ℕ, zero, suc, ℤ, pos, List, [], ◌∷◌, ◌++◌, get_or, None, refl, sym, ap, ◌∙◌}
use Rattle.std.specs.Prelude.{slice_get}
use Rattle.std.proofs.lemmas.Result.{on_ok_weaker}
use Rattle.ts_reader.proofs.sides.push_coord.Goals as goal

no_number : (xs : List ℤ) (i : ℕ) → slice_get xs i ≡ None → get_or xs i (pos 0) ≡ pos 0
no_number [] i none = refl
no_number (x ∷ xs) zero none = absurd (cc)
no_number (x ∷ xs) (suc i) none = no_number xs i none

pub returns-in-None : goal.returns-in-None
returns-in-None c =
    on_ok_weaker c.push-in-None.result (λ is. is ∙ ap (λ (x : ℤ). c.args.column.now ++ x ∷ []) (sym (no_number c.args.version.now.coords c.args.dim (sym c.in-None.ensures)))) c.push-in-None.ensures.ok
