-- What is loaded of the fragments so far.
use Rattle.std.proofs.Common.{◌≡◌, ◌&&◌, not, take, map}
use Rattle.std.specs.Prelude.{filter}
use Rattle.std.specs.BTreeSet.{contains}
use Rattle.ts_base.specs.Keys.{frag_cmp}
use Rattle.ts_commit.specs.Selections.{is_usable}
use Rattle.ts_commit.proofs.selection.loaded_of.Given as goal

abbrev pub invariant-loop-head : goal.invariant-loop-head
invariant-loop-head l = l.frags ≡ map (λ head. head.frag) (filter (λ head. is_usable l.a l.b head && not (contains frag_cmp l.named head.frag)) (take l.head-index l.heads))
