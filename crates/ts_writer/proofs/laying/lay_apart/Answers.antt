use Rattle.std.proofs.Common.{◌≡◌, ◌≤◌, [], None, length, sym, ap, ◌∙◌, arith, subst}
use Rattle.std.specs.Option.{option_or}
use Rattle.std.proofs.lemmas.List.{length-map}
use Rattle.ts_domain.proofs.DomainLemmas.{length-IsDomain}
use Rattle.ts_model.specs.Commands.{again_in, cells_from, outside_in, unless, version_in}
use Rattle.ts_model.specs.Queries.{over_most}
use Rattle.ts_model.proofs.Laying.{length-cells_from}
use Rattle.ts_writer.specs.Laying.{pieced, LaysOr}
use Rattle.ts_writer.specs.Tables.{cells_in, AreOf}
use Rattle.ts_writer.proofs.LaidTables.{all_inside, versions_own}
use Rattle.ts_writer.proofs.Lengths.{attr_columns_long, dim_columns_long, some_count}
use Rattle.ts_writer.proofs.Pieced.{apart_laid_by, refused_first, table_wide}
use Rattle.ts_writer.proofs.laying.lay_apart.Goals as goal

pub table_of-requires-clause-some : goal.table_of-requires-clause-some
table_of-requires-clause-some c =
    let are = dim_columns_long c.args.cols.now c.count_of-count.result c.as_slice-dims.result.now c.in_ok-coords.coords c.in_ok-coords.ensures in
    let same : length c.in_ok-coords.coords ≡ length c.args.frame.now.domain = are.many ∙ ap length c.as_slice-dims.ensures.value in
    omega (arith, same, (c.requires.frame.domain).some)

pub table_of-requires-clause-room : goal.table_of-requires-clause-room
table_of-requires-clause-room c =
    let are = dim_columns_long c.args.cols.now c.count_of-count.result c.as_slice-dims.result.now c.in_ok-coords.coords c.in_ok-coords.ensures in
    let same : length c.in_ok-coords.coords ≡ length c.args.frame.now.domain = are.many ∙ ap length c.as_slice-dims.ensures.value in
    let few = length-IsDomain c.args.frame.now.domain c.requires.frame.domain in
    omega (arith, same, few)

pub table_of-requires-clause-coords_long : goal.table_of-requires-clause-coords_long
table_of-requires-clause-coords_long c = (dim_columns_long c.args.cols.now c.count_of-count.result c.as_slice-dims.result.now c.in_ok-coords.coords c.in_ok-coords.ensures).long

pub table_of-requires-clause-rows_long : goal.table_of-requires-clause-rows_long
table_of-requires-clause-rows_long c = attr_columns_long c.args.cols.now c.count_of-count.result c.args.attrs.now c.in_ok-rows.rows c.in_ok-rows.ensures

pub outside_in-requires : goal.outside_in-requires
outside_in-requires c = table_wide c.as_slice-dims.result.now c.args.frame.now.domain c.args.cols.now c.count_of-count.result c.in_ok-coords.coords c.in_ok-rows.rows c.args.origin c.in_ok-table.table c.as_slice-dims.ensures.value c.in_ok-coords.ensures c.in_ok-table.ensures

pub tested-requires-clause-own : goal.tested-requires-clause-own
tested-requires-clause-own c = subst (AreOf c.args.origin.key c.args.origin.schema) (sym c.in_ok-table.ensures) (versions_own c.args.origin.key c.args.origin.schema (cells_from c.in_ok-coords.coords c.in_ok-rows.rows 0 c.count_of-count.result))

pub tested-requires-clause-some : goal.tested-requires-clause-some
tested-requires-clause-some c =
    let count = c.count_of-count.result in
    let coords = c.in_ok-coords.coords in
    let dims = c.as_slice-dims.result.now in
    let many : 1 ≤ length dims = omega (arith, ap length c.as_slice-dims.ensures.value, (c.requires.frame.domain).some) in
    let some = some_count c.args.cols.now dims count coords c.requires.spelled many c.in_ok-coords.ensures in
    let long : length c.in_ok-table.table ≡ count = ap length c.in_ok-table.ensures ∙ length-map (cells_from coords c.in_ok-rows.rows 0 count) (version_in c.args.origin.key c.args.origin.schema) ∙ length-cells_from coords c.in_ok-rows.rows 0 count in
    omega (arith, some, long)

pub tested-requires-clause-inside : goal.tested-requires-clause-inside
tested-requires-clause-inside c =
    let wide = table_wide c.as_slice-dims.result.now c.args.frame.now.domain c.args.cols.now c.count_of-count.result c.in_ok-coords.coords c.in_ok-rows.rows c.args.origin c.in_ok-table.table c.as_slice-dims.ensures.value c.in_ok-coords.ensures c.in_ok-table.ensures in
    all_inside c.args.frame.now.domain c.in_ok-table.table wide (sym c.outside_in.ensures ∙ c.in_default-outside_in.is)

pub returns-in-Some-outside_in : goal.returns-in-Some-outside_in
returns-in-Some-outside_in c =
    let dims = c.as_slice-dims.result.now in
    let cells = cells_in c.in_ok-table.table in
    let lays = apart_laid_by dims c.args.frame.now.domain c.args.attrs.now c.args.cols.now c.count_of-count.result c.in_ok-coords.coords c.in_ok-rows.rows c.args.origin c.in_ok-table.table c.as_slice-dims.ensures.value c.count_of-count.ensures c.in_ok-coords.ensures c.in_ok-rows.ensures c.in_ok-table.ensures (sym c.stray.ensures ∙ c.in_default.is) in
    ap (pieced c.args.frame.now c.args.origin) lays
    ∙ refused_first c.args.frame.now c.args.origin cells (outside_in c.args.frame.now.domain cells) _ c.in-Some-outside_in.refusal (sym c.outside_in.ensures ∙ c.in-Some-outside_in.is)

pub returns : goal.returns
returns c =
    let dims = c.as_slice-dims.result.now in
    let vs = c.in_ok-table.table in
    let lays = apart_laid_by dims c.args.frame.now.domain c.args.attrs.now c.args.cols.now c.count_of-count.result c.in_ok-coords.coords c.in_ok-rows.rows c.args.origin vs c.as_slice-dims.ensures.value c.count_of-count.ensures c.in_ok-coords.ensures c.in_ok-rows.ensures c.in_ok-table.ensures (sym c.stray.ensures ∙ c.in_default.is) in
    let none : outside_in c.args.frame.now.domain (cells_in vs) ≡ None = sym c.outside_in.ensures ∙ c.in_default-outside_in.is in
    subst (λ r. LaysOr (pieced c.args.frame.now c.args.origin r) c.tested.result) (sym (lays ∙ ap (λ o. unless (cells_in vs) (option_or o (option_or (again_in [] 0 (cells_in vs)) (over_most (length vs))))) none)) c.tested.ensures
