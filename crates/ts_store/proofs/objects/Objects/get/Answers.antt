use Rattle.std.proofs.Common.{sym, ap, ◌∙◌}
use Rattle.std.specs.FinMap as map
use Rattle.ts_base.specs.Exact.{name_total}
use Rattle.ts_store.proofs.Trees.{get-tree}
use Rattle.ts_store.proofs.objects.Objects.get.Goals as goal

pub returns : goal.returns
returns c =
    c.get.ensures.value
    ∙ sym (get-tree name_total c.self.inside.by_name c.args.name)
    ∙ ap (λ m. map.get m c.args.name) c.self.view_is
