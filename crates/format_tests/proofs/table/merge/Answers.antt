-- What holds of both tables holds of each.
use Rattle.std.proofs.Common.{◌≡◌, ℕ, zero, suc, ◌<◌, List, [], ◌∷◌, length, get_or, rules, arith, subst}
use Rattle.std.specs.Prelude.{All}
use Rattle.ts_table.specs.Orders.{LiesInside}
use Rattle.format_tests.proofs.table.merge.Goals as goal

both : {X : Type 0} (P : X → Type 0) (xs : List X) (x y : X) → length xs ≡ 2 → x ≡ get_or xs 0 x → y ≡ get_or xs 1 y → P x → P y → (k : ℕ) (d : X) → k < length xs → P (get_or xs k d)
both P (v ∷ w ∷ []) x y two is_x is_y first second zero d within = subst P is_x first
both P (v ∷ w ∷ []) x y two is_x is_y first second (suc zero) d within = subst P is_y second
both P (v ∷ w ∷ []) x y two is_x is_y first second (suc (suc k)) d within = absurd (omega (arith, within))
both P [] x y two is_x is_y first second k d within = absurd (omega (arith, two))
both P (v ∷ []) x y two is_x is_y first second k d within = absurd (omega (arith, two))
both P (u ∷ v ∷ w ∷ xs) x y two is_x is_y first second k d within = absurd (omega (arith, two))

pub merge_tables-requires-clause-inside : goal.merge_tables-requires-clause-inside
merge_tables-requires-clause-inside g c =
    let first : All (LiesInside c.args.domain.now) c.index-tables-0.result = search rules in
    let second : All (LiesInside c.args.domain.now) c.index-tables-1.result = search rules in
    both (All (LiesInside c.args.domain.now)) c.args.tables.now c.index-tables-0.result c.index-tables-1.result c.type_inv.tables c.index-tables-0.is c.index-tables-1.is first second
