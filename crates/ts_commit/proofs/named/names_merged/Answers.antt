-- The names are just the sources and what the `.vac` objects of these name.
use Rattle.std.proofs.Common.{List, [], ap, ◌∙◌}
use Rattle.std.specs.Prelude.{filter}
use Rattle.std.specs.BTreeSet.{contains}
use Rattle.std.specs.List.{flat_map}
use Rattle.ts_base.specs.Keys.{frag_cmp}
use Rattle.ts_commit.specs.declared.vacs.VacOf.{VacOf}
use Rattle.ts_commit.specs.Selections.{is_among, with_names}
use Rattle.ts_commit.proofs.Sets.{merged_from}
use Rattle.ts_commit.proofs.named.names_merged.Goals as goal

pub returns-clause-named : goal.returns-clause-named
returns-clause-named c =
    let own = contains frag_cmp c.in_ok-own.own in
    let added = c.in_ok-add_named_by.ensures ∙ ap (λ (l : List VacOf). with_names c.in_ok-merged.merged.keys (flat_map (λ v. v.names) (filter (λ v. own v.frag) l))) c.as_slice-3.ensures in
    merged_from _ own c.args.vacs.now c.args.sources.now _ _ c.in_list.ensures.list (c.in_ok-merged.ensures.set ∙ ap (with_names []) c.as_slice-2.ensures) added (λ f. c.in_ok-own.ensures.same f ∙ ap (is_among f) c.as_slice.ensures)
