use Rattle.std.proofs.Common.{◌≡◌, vec_capacity}
use Rattle.ts_top.specs.Crews.{all_ends}
use Rattle.ts_top.proofs.results.in_one.Given as goal

-- those of the lanes so far are there
abbrev pub invariant-loop-own : goal.invariant-loop-own
invariant-loop-own l = (l.all.items ≡ all_ends l.yielded) × (vec_capacity l.all ≡ vec_capacity l.fn.room)
