use Rattle.std.proofs.Common.{◌≡◌, ◌∙◌, sym}
use Rattle.std.specs.Result.{result_err}
use Rattle.ts_domain.specs.Domains.{first_bound_outside_from}
use Rattle.ts_domain.proofs.DomainLemmas.{is_in_domain-first_outside, first_outside-is_in_domain, none-first_bound_outside, first_bound_outside-none, IsOk-result_err, result_err-IsOk}
use Rattle.ts_domain.proofs.domain.Domain.check_box.Goals as goal

pub returns-clause-inside : goal.returns-clause-inside
returns-clause-inside c =
    let dims = c.args.self.now in
    let low = c.args.sub.now.low in
    let high = c.args.sub.now.high in
    let first : result_err c.first_bound_outside.result ≡ first_bound_outside_from 0 dims low high =
    rw (← c.as_slice.ensures.value, ← c.as_slice-2.ensures, ← c.as_slice-3.ensures) c.first_bound_outside.ensures in (
      λ ok.
          let none = first_bound_outside-none 0 dims low high (c.requires.high ∙ sym c.requires.low) (sym first ∙ result_err-IsOk _ ok) in
          (is_in_domain-first_outside 0 dims low c.requires.low none.0, is_in_domain-first_outside 0 dims high c.requires.high none.1),
      λ inside. IsOk-result_err _ (first ∙ none-first_bound_outside 0 dims low high (first_outside-is_in_domain 0 dims low inside.0) (first_outside-is_in_domain 0 dims high inside.1)),
    )
