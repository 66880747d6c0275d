-- The pass is still of the turnstile, and its lanes are the same.
use Rattle.std.proofs.Common.{◌≡◌}
use Rattle.ts_turnstile.specs.Belonging.{Belongs}
use Rattle.ts_turnstile.specs.Passes.{pass_view}
use Rattle.ts_turnstile.specs.Rule.{claim_of}
use Rattle.machine_tests.proofs.turnstile.puts.Given as goal

abbrev pub invariant-loop-t : goal.invariant-loop-t
invariant-loop-t g l = Belongs l.turnstile l.pass × (claim_of (pass_view l.pass) ≡ claim_of (pass_view l.fn.pass))
