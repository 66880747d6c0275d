use Rattle.std.proofs.Common.{◌∙◌}
use Rattle.ts_store.proofs.RangeLemmas.{keys-entries_between}
use Rattle.ts_store.proofs.objects.keys_under.Goals as goal

pub returns-clause-found : goal.returns-clause-found
returns-clause-found c =
    let bounds = c.bounds_of-bounds.ensures in
    c.in_ok-names.ensures.found ∙ keys-entries_between c.args.prefix _ _ c.args.objects.now.entries bounds.0 bounds.1
