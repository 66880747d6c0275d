-- The origins of the usable ones of the fragments so far.
use Rattle.std.proofs.Common.{◌≡◌, take}
use Rattle.std.specs.BTreeSet.{contains}
use Rattle.std.specs.List.{list_any}
use Rattle.ts_base.specs.Keys.{key_cmp}
use Rattle.ts_base.specs.declared.keys.Key.{Key}
use Rattle.ts_commit.specs.Selections.{has_origin, usable}
use Rattle.ts_commit.proofs.selection.origins_of_usable.Given as goal

abbrev pub invariant-loop-head : goal.invariant-loop-head
invariant-loop-head l = (k : Key) → contains key_cmp l.origins k ≡ list_any (has_origin k) (usable l.a l.b (take l.head-index l.heads))
