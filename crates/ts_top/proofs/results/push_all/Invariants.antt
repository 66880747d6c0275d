use Rattle.std.proofs.Common.{◌≡◌, ◌++◌, vec_capacity}
use Rattle.ts_top.proofs.results.push_all.Given as goal

-- those so far are there
abbrev pub invariant-loop-end : goal.invariant-loop-end
invariant-loop-end l = (l.all.items ≡ l.fn.all.items ++ l.yielded) × (vec_capacity l.all ≡ vec_capacity l.fn.all)
