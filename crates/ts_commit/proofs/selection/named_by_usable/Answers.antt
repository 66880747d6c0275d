use Rattle.std.specs.BTreeSet.{contains}
use Rattle.ts_base.specs.Keys.{frag_cmp}
use Rattle.ts_commit.proofs.Sets.{named_from}
use Rattle.ts_commit.proofs.selection.named_by_usable.Goals as goal

pub returns : goal.returns
returns c = named_from (contains frag_cmp c.in_ok-usable.usable) _ _ _ _ c.new-named.ensures.empty c.in_ok-add_named_by.ensures c.in_ok-usable.ensures
