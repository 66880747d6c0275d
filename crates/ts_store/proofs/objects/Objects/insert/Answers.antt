use Rattle.std.proofs.Common.{ap, ◌∙◌}
use Rattle.std.proofs.lemmas.Map.Views.{All-keys-insert_entry}
use Rattle.std.specs.FinMap as map
use Rattle.ts_base.specs.Exact.{name_total, name_exact}
use Rattle.ts_base.specs.Names.{IsSpelled, name_cmp}
use Rattle.ts_store.proofs.Trees.{insert-tree}
use Rattle.ts_store.proofs.objects.Objects.insert.Goals as goal

pub invariant_of-self-2 : goal.invariant_of-self-2
invariant_of-self-2 c =
    rw c.in_ok-insert.ensures.entries (All-keys-insert_entry name_cmp c.args.name c.args.bytes IsSpelled c.self.inside.by_name.entries c.self.invariant c.requires)

pub returns-clause-ok : goal.returns-clause-ok
returns-clause-ok c =
    insert-tree name_total name_exact c.self.inside.by_name c.insert.new.self c.args.name c.args.bytes c.in_ok-insert.ensures.updates
    ∙ ap (λ m. map.insert m c.args.name c.args.bytes) c.self.view_is
