use Rattle.std.proofs.Common.{ap, ◌∙◌}
use Rattle.std.proofs.lemmas.Map.Views.{All-map-remove_entry}
use Rattle.std.specs.FinMap as map
use Rattle.ts_base.specs.Exact.{name_total, name_exact}
use Rattle.ts_base.specs.Names.{IsSpelled}
use Rattle.ts_store.proofs.Trees.{remove-tree}
use Rattle.ts_store.proofs.objects.Objects.remove.Goals as goal

pub invariant_of-self : goal.invariant_of-self
invariant_of-self c =
    rw c.remove.ensures.entries (All-map-remove_entry _ (λ e. e.0) IsSpelled c.self.inside.by_name.entries c.self.invariant)

pub returns : goal.returns
returns c =
    remove-tree name_total name_exact c.self.inside.by_name c.remove.new.self c.args.name c.remove.ensures.updates
    ∙ ap (λ m. map.remove m c.args.name) c.self.view_is
