-- Lists whose integers do not all fit 64 bits.
use Rattle.std.proofs.Common.{◌≡◌, ℕ, ◌+◌, ◌<◌, ◌≤◌, ℤ, List, [], ◌∷◌, ◌++◌, length, take, drop, get_or, refl, ap, ◌∙◌, arith, w64}
use Rattle.std.specs.Prelude.{pos, FitsSigned, slice_get}
use Rattle.std.proofs.lemmas.List.{get_or-drop, length-drop, take_more}
use Rattle.std.proofs.lemmas.List.Elements.{All-head, All-tail}
use Rattle.ts_table.specs.Longs.{AreLong, IsWideFirst}

pub not_long : (narrow wide : List ℤ) → IsWideFirst wide → (wide ≡ [] → ⊥) → AreLong (narrow ++ wide) → ⊥
not_long [] [] first some all = some refl
not_long [] (n ∷ rest) first some all = first n refl (All-head (FitsSigned w64) n rest all)
not_long (x ∷ narrow) wide first some all = not_long narrow wide first some (All-tail (FitsSigned w64) x (narrow ++ wide) all)

-- the first of more integers is the first as before
pub first_kept : (wide more : List ℤ) → (wide ≡ [] → ⊥) → slice_get (wide ++ more) 0 ≡ slice_get wide 0
first_kept [] more some = absurd (some refl)
first_kept (n ∷ wide) more some = refl

pub ruleset firsts = (first_kept)

-- one integer more of a part
pub part_step : (ns : List ℤ) (from step count : ℕ) → from + count ≤ length ns → step < count → take (step + 1) (drop from ns) ≡ take step (drop from ns) ++ get_or ns (from + step) (pos 0) ∷ []
part_step ns from step count many within =
    let long = length-drop from ns in
    take_more (drop from ns) step (pos 0) (omega (arith, many, within, long)) ∙ ap (λ n. take step (drop from ns) ++ n ∷ []) (get_or-drop from ns step (pos 0))

pub ruleset steps = (part_step)
