use Rattle.std.proofs.Common.{sym, ap, ◌∙◌, map}
use Rattle.std.specs.FinMap as finite
use Rattle.ts_base.specs.Exact.{name_total}
use Rattle.ts_store.proofs.Trees.{entries-tree}
use Rattle.ts_store.proofs.objects.Objects.names.Goals as goal

pub returns : goal.returns
returns c =
    let found = c.in_ok-all_keys.ensures in
    c.from_vec.ensures
    ∙ found.found
    ∙ ap (λ es. map (λ e. e.0) es) (sym (entries-tree name_total c.self.inside.by_name.entries found.ordered))
    ∙ ap finite.keys c.self.view_is
