-- What is clipped of the fragments so far.
use Rattle.std.proofs.Common.{◌≡◌, ◌&&◌, not, take, map}
use Rattle.std.specs.Prelude.{filter}
use Rattle.std.specs.BTreeSet.{contains}
use Rattle.std.specs.List.{list_any}
use Rattle.ts_base.specs.Keys.{key_cmp, is_within}
use Rattle.ts_commit.specs.Selections.{is_usable}
use Rattle.ts_commit.proofs.selection.clipped_of.Given as goal

abbrev pub invariant-loop-head : goal.invariant-loop-head
invariant-loop-head l = l.frags ≡ map (λ head. head.frag) (filter (λ head. not (is_usable l.a l.b head) && list_any (λ k. is_within l.a l.b k && not (contains key_cmp l.kept k)) head.origins) (take l.head-index l.heads))
