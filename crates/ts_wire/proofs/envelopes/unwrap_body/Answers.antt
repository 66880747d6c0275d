use Rattle.std.proofs.Common.{arith}
use Rattle.ts_wire.proofs.Objects.{body_found, body_only, body_cut}
use Rattle.ts_wire.proofs.envelopes.unwrap_body.Goals as goal

pub returns-clause-found : goal.returns-clause-found
returns-clause-found c = body_found (λ body. body.now) _ _ _ (λ i. omega (arith, c.type_inv.object i)) c.body_of.ensures

pub returns-clause-only : goal.returns-clause-only
returns-clause-only c = body_only (λ body. body.now) _ _ _ c.body_of.ensures

pub returns-clause-cut : goal.returns-clause-cut
returns-clause-cut c = body_cut (λ body. body.now) _ _ _ c.body_of.ensures
