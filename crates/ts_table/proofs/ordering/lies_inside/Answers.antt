-- Coordinates of a domain are as many as its dimensions.
use Rattle.std.proofs.Common.{◌≡◌, ◌∙◌, ℕ, List, length, refl, sym, arith}
use Rattle.std.specs.Prelude.{ℤ, Bool, true, false, nat_eq}
use Rattle.std.proofs.lemmas.Bool.Decides.{nat_tests}
use Rattle.ts_domain.specs.declared.dims.Dim.{Dim}
use Rattle.ts_domain.specs.Domains.{is_in_domain}
use Rattle.ts_order.proofs.OrderLemmas.{length-is_in_domain}
use Rattle.ts_table.proofs.ordering.lies_inside.Goals as goal

apart_test : (n m : ℕ) → (n ≡ m → ⊥) → nat_eq n m ≡ false
apart_test n m apart = grind (arith, nat_tests)

outside : (dims : List Dim) (at : List ℤ) → (length at ≡ length dims → ⊥) → false ≡ is_in_domain dims at
outside dims at apart = by (is_in_domain dims at) refl
  where
    by : (b : Bool) → is_in_domain dims at ≡ b → false ≡ b
    by false e = refl
    by true e = absurd (apart (length-is_in_domain dims at e))

pub returns-else-len-count : goal.returns-else-len-count
returns-else-len-count c =
    apart_test c.len.result c.count.result c.if-len-count.false
    ∙ outside c.args.domain.now c.args.at.now (λ same. c.if-len-count.false (c.len.ensures.count ∙ same ∙ sym c.count.ensures.count))
