use Rattle.std.proofs.Common.{sym, ap, ◌∙◌, map, filter}
use Rattle.std.proofs.lemmas.List.Elements.{All-filter}
use Rattle.ts_base.specs.Exact.{name_total}
use Rattle.ts_base.specs.Names.{is_under, IsSpelled}
use Rattle.ts_store.specs.Calls.{names_under}
use Rattle.ts_store.proofs.Trees.{entries-tree}
use Rattle.ts_store.proofs.objects.Objects.under.Goals as goal

pub returns-clause-names : goal.returns-clause-names
returns-clause-names c =
    let found = c.in_ok-keys_under.ensures in
    c.from_vec.ensures
    ∙ found.found
    ∙ ap (λ es. filter (is_under c.args.prefix) (map (λ e. e.0) es)) (sym (entries-tree name_total c.self.inside.by_name.entries found.ordered))
    ∙ ap (names_under c.args.prefix) c.self.view_is

pub returns-clause-spelled : goal.returns-clause-spelled
returns-clause-spelled c =
    rw (c.from_vec.ensures, c.in_ok-keys_under.ensures.found) (All-filter _ IsSpelled _ c.self.invariant)
