use Rattle.ts_domain.proofs.DomainLemmas.{All-IsDomain}
use Rattle.ts_domain.proofs.domain.Domain.as_slice.Goals as goal

pub returns-clause-sound : goal.returns-clause-sound
returns-clause-sound c = All-IsDomain _ (rw c.self.view_is at c.self.invariant.domain)
