-- The keys so far.
use Rattle.std.proofs.Common.{◌≡◌, ◌||◌, take}
use Rattle.std.specs.BTreeSet.{contains}
use Rattle.std.specs.List.{list_any}
use Rattle.ts_base.specs.Keys.{key_cmp, key_eq}
use Rattle.ts_base.specs.declared.keys.Key.{Key}
use Rattle.ts_commit.proofs.selection.add_keys.Given as goal

abbrev pub invariant-loop-key : goal.invariant-loop-key
invariant-loop-key l = (k : Key) → contains key_cmp l.set k ≡ (contains key_cmp l.fn.set k || list_any (key_eq k) (take l.key-index l.keys))
