-- The usable ones of the fragments so far.
use Rattle.std.proofs.Common.{◌≡◌, take}
use Rattle.std.specs.BTreeSet.{contains}
use Rattle.std.specs.List.{list_any}
use Rattle.ts_base.specs.Keys.{frag_cmp}
use Rattle.ts_base.specs.declared.keys.FragKey.{FragKey}
use Rattle.ts_commit.specs.Selections.{is_head_of, usable}
use Rattle.ts_commit.proofs.selection.usable_frags.Given as goal

abbrev pub invariant-loop-head : goal.invariant-loop-head
invariant-loop-head l = (f : FragKey) → contains frag_cmp l.frags f ≡ list_any (is_head_of f) (usable l.a l.b (take l.head-index l.heads))
