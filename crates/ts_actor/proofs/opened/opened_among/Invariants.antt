use Rattle.std.proofs.Common.{◌≡◌}
use Rattle.std.specs.Prelude.{filter}
use Rattle.std.specs.BTreeSet.{contains}
use Rattle.ts_base.specs.Keys.{frag_cmp}
use Rattle.ts_actor.proofs.opened.opened_among.Given as goal

-- those of the fragments so far
abbrev pub invariant-loop-one : goal.invariant-loop-one
invariant-loop-one l = l.chosen ≡ filter (λ o. contains frag_cmp l.set o.frag) l.yielded
