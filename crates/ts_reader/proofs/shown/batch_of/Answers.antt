-- The versions of the table are the cells of its columns.
use Rattle.std.proofs.Common.{◌≡◌, [], ◌∷◌, map, replicate, ap, ◌∙◌, rules}
use Rattle.ts_table.specs.declared.origins.Origin.{Origin}
use Rattle.ts_table.specs.Tables.{versions_from}
use Rattle.ts_reader.specs.Shown.{pair_of}
use Rattle.ts_reader.proofs.Across.{table_cells}
use Rattle.ts_reader.proofs.shown.batch_of.Goals as goal

pub returns : goal.returns
returns c =
    let dims = c.args.dims.items in
    let vals = c.args.vals.items in
    let origin : Origin = record { key = c.args.key; schema = c.args.key } in
    let origins : c.in_ok-origins.origins.items ≡ origin ∷ [] = search rules in
    let cells : c.in_ok-cells.cells.items ≡ replicate c.args.count 0 = search rules in
    let made = c.of_table.ensures ∙ c.of.ensures ∙ (λ i. versions_from (origins i) dims vals 0 (cells i)) in
    ap (map pair_of) made ∙ table_cells origin dims vals c.args.count c.requires
