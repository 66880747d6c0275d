-- None of the keys so far is one.
use Rattle.std.proofs.Common.{◌≡◌, ◌&&◌, not, false, take}
use Rattle.std.specs.BTreeSet.{contains}
use Rattle.std.specs.List.{list_any}
use Rattle.ts_base.specs.Keys.{key_cmp, is_within}
use Rattle.ts_commit.proofs.selection.has_other.Given as goal

abbrev pub invariant-loop-key : goal.invariant-loop-key
invariant-loop-key l = list_any (λ k. is_within l.a l.b k && not (contains key_cmp l.others k)) (take l.key-index l.keys) ≡ false
