use Rattle.std.proofs.Common.{◌≡◌}
use Rattle.std.specs.Prelude.{filter}
use Rattle.std.specs.BTreeSet.{contains}
use Rattle.ts_base.specs.Keys.{frag_cmp}
use Rattle.ts_actor.proofs.listing.among.Given as goal

-- those of the fragments so far
abbrev pub invariant-loop-frag : goal.invariant-loop-frag
invariant-loop-frag l = l.chosen ≡ filter (contains frag_cmp l.set) l.yielded
