use Rattle.std.proofs.Common.{arith, sym, ◌∙◌, ◌&&◌, not}
use Rattle.std.specs.BTreeSet.{contains}
use Rattle.ts_base.specs.Keys.{is_within, key_cmp}
use Rattle.ts_commit.proofs.Sets.{any_at}
use Rattle.ts_commit.proofs.selection.has_other.Goals as goal

pub returns-then-is_other : goal.returns-then-is_other
returns-then-is_other c = any_at (λ k. is_within c.args.a c.args.b k && not (contains key_cmp c.args.others.now k)) c.args.keys.now c.loop-key.key-index _ (omega arith) (sym c.is_other.ensures ∙ c.if-is_other.true)
