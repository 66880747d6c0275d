use Rattle.std.proofs.Common.{◌≡◌, ◌∙◌, sym}
use Rattle.std.specs.Result.{result_err}
use Rattle.ts_domain.specs.Domains.{first_outside_from}
use Rattle.ts_domain.proofs.DomainLemmas.{is_in_domain-first_outside, first_outside-is_in_domain, IsOk-result_err, result_err-IsOk}
use Rattle.ts_domain.proofs.domain.Domain.check.Goals as goal

pub returns-clause-inside : goal.returns-clause-inside
returns-clause-inside c =
    let dims = c.args.self.now in
    let at = c.args.at.now in
    let first : result_err c.first_outside.result ≡ first_outside_from 0 dims at = rw (← c.as_slice.ensures.value, ← c.as_slice-2.ensures) c.first_outside.ensures in (
      λ ok. is_in_domain-first_outside 0 dims at c.requires (sym first ∙ result_err-IsOk _ ok),
      λ inside. IsOk-result_err _ (first ∙ first_outside-is_in_domain 0 dims at inside),
    )
