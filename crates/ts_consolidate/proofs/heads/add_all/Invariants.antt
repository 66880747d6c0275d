-- The keys so far.
use Rattle.std.proofs.Common.{◌≡◌, take}
use Rattle.std.specs.BTreeSet.{insert_key}
use Rattle.std.specs.List.{fold}
use Rattle.ts_base.specs.Keys.{key_cmp}
use Rattle.ts_consolidate.proofs.heads.add_all.Given as goal

abbrev pub invariant-loop-key : goal.invariant-loop-key
invariant-loop-key l = l.set.keys ≡ fold (insert_key key_cmp) l.fn.set.keys (take l.key-index l.keys)
