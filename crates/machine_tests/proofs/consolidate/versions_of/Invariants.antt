-- The versions so far lie in the domain.
use Rattle.std.specs.Prelude.{IsTrue, All}
use Rattle.ts_base.specs.declared.heads.Version.{Version}
use Rattle.ts_domain.specs.Domains.{is_in_domain}
use Rattle.machine_tests.proofs.consolidate.versions_of.Given as goal

abbrev pub invariant-loop-laid : goal.invariant-loop-laid
invariant-loop-laid l = All (λ (version : Version). IsTrue (is_in_domain l.frame.domain version.coords)) l.versions
