-- The keys of the tree, in order.
use Rattle.std.proofs.Common.{◌∙◌, sym, subst}
use Rattle.std.specs.List.Sorted.{IsStrictlySortedBy}
use Rattle.ts_base.specs.Keys.{key_cmp}
use Rattle.ts_consolidate.proofs.Keys.{keys_in_order}
use Rattle.ts_consolidate.proofs.named.schemas_named.Goals as goal

pub returns-clause-is : goal.returns-clause-is
returns-clause-is c =
    let found = c.in_ok-all_keys.ensures in
    c.from_vec.ensures ∙ found.found ∙ keys_in_order c.in_ok-named.named _ found.ordered c.in_ok-named.ensures

pub returns-clause-rise : goal.returns-clause-rise
returns-clause-rise c =
    let found = c.in_ok-all_keys.ensures in
    subst (IsStrictlySortedBy key_cmp) (sym (c.from_vec.ensures ∙ found.found)) found.ordered
