use Rattle.std.proofs.Common.{◌≡◌, map, take}
use Rattle.ts_cond.specs.Picks.{picks_of}
use Rattle.ts_reader.proofs.bindings.picks_of.Given as goal

-- those of the deletes so far
abbrev pub invariant-loop-deletion : goal.invariant-loop-deletion
invariant-loop-deletion l = l.picks ≡ map (λ e. picks_of l.fields (e.cond).fields) (take l.deletion-index l.erased)
