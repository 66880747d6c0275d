-- What is laid of columns, by the table of its versions.
use Rattle.std.proofs.Common.{◌≡◌, ℕ, ◌≤◌, ◌^◌, ℤ, List, [], length, map, Option, Some, None, Result, Ok, Err, sym, ap, ◌∙◌, subst, arith}
use Rattle.std.specs.Prelude.{nat_lt, option_map}
use Rattle.std.specs.List.{All}
use Rattle.std.specs.Option.{option_or}
use Rattle.std.proofs.lemmas.Bool.{ltb-false}
use Rattle.ts_base.specs.declared.heads.Cell.{Cell}
use Rattle.ts_base.specs.declared.heads.Piece.{Piece}
use Rattle.ts_base.specs.declared.heads.Version.{Version}
use Rattle.ts_base.specs.declared.keys.Key.{Key}
use Rattle.ts_base.specs.declared.values.Val.{Val}
use Rattle.ts_domain.specs.declared.boxes.SubBox.{SubBox}
use Rattle.ts_domain.specs.declared.dims.Dim.{Dim}
use Rattle.ts_domain.specs.Boxes.{IsBox, cells_of}
use Rattle.ts_domain.specs.Domains.{first_bound_outside, LiesInDomain}
use Rattle.ts_domain.proofs.Between.{is_between-low, is_between-high}
use Rattle.ts_order.specs.Orders.{coords_in_order}
use Rattle.ts_schema.specs.declared.attrs.Attr.{Attr}
use Rattle.ts_schema.specs.declared.frames.Frame.{Frame}
use Rattle.ts_table.specs.declared.origins.Origin.{Origin}
use Rattle.ts_cond.specs.declared.query.NamedBox.{NamedBox}
use Rattle.ts_model.specs.declared.answers.Refusal.{Refusal}
use Rattle.ts_model.specs.declared.answers.Refusal.TheVariants as refusal
use Rattle.ts_model.specs.declared.commands.ColIn.{ColIn}
use Rattle.ts_model.specs.declared.commands.WriteIn.{WriteIn}
use Rattle.ts_model.specs.Commands.{◌or_else◌, again_in, attr_column, box_refusal, cells_at, cells_from, columns, count_of, dim_column, laid_apart, laid_dense, laid_over, outside_in, piece_of, stray, unless, version_in}
use Rattle.ts_model.specs.Queries.{bound_outside, box_of, counted_cells, most_cells, over_most, stray_bound}
use Rattle.ts_model.proofs.BoxCells.{box_inside}
use Rattle.ts_model.proofs.Laying.{length-cells_from}
use Rattle.ts_model.proofs.Spelled.{neither, no_fault, none_before}
use Rattle.ts_writer.specs.Laying.{pieced}
use Rattle.ts_writer.specs.Tables.{cells_in}
use Rattle.ts_writer.proofs.LaidTables.{cells_back, length-cells_in, versions_wide}
use Rattle.ts_writer.proofs.Lengths.{cells_long, dim_columns_long}

module _ (frame : Frame) (origin : Origin) (cells : List Cell) (o p : Option Refusal) where
  -- a refusal stands against the cells
  pub refused_first : (r : Refusal) → o ≡ Some r → pieced frame origin (unless cells (option_or o p)) ≡ Err r
  refused_first r e = ap (λ x. pieced frame origin (unless cells (option_or x p))) e

  -- a second refusal does
  pub refused_second : (r : Refusal) → o ≡ None → p ≡ Some r → pieced frame origin (unless cells (option_or o p)) ≡ Err r
  refused_second r e f = (λ i. pieced frame origin (unless cells (option_or (e i) (f i))))

  -- none does
  pub pieced_none : (piece : Piece) → o ≡ None → p ≡ None → piece ≡ piece_of frame (record { key = origin.key; schema = origin.schema; cells = cells }) → pieced frame origin (unless cells (option_or o p)) ≡ Ok piece
  pieced_none piece e f is = (λ i. pieced frame origin (unless cells (option_or (e i) (f i)))) ∙ ap Ok (sym is)

-- the versions of a sparse write are those of its columns
pub apart_laid : (dims : List Dim) (attrs : List Attr) (cols : List ColIn) (count : ℕ) (coords : List (List ℤ)) (rows : List (List Val)) (key schema : Key) (vs : List Version) → count ≡ count_of dims cols
    → columns (dim_column cols count) dims ≡ Ok coords → columns (attr_column cols count) attrs ≡ Ok rows → vs ≡ map (version_in key schema) (cells_from coords rows 0 count)
    → laid_apart dims attrs cols ≡ unless (cells_in vs) (option_or (option_map refusal.SchemaClash (stray dims attrs cols)) (option_or (outside_in dims (cells_in vs)) (option_or (again_in [] 0 (cells_in vs)) (over_most (length vs)))))
apart_laid dims attrs cols count coords rows key schema vs counted of_dims of_attrs is =
    let cells = cells_from coords rows 0 count in
    let same : cells_in vs ≡ cells = ap cells_in is ∙ cells_back key schema cells in
    let long : length vs ≡ count = sym (length-cells_in vs) ∙ ap length same ∙ length-cells_from coords rows 0 count in
    by (count_of dims cols) counted
    ∙ ap (λ r. r or_else λ cs. columns (attr_column cols count) attrs or_else λ rs. unless (cells_from cs rs 0 count) (option_or (option_map refusal.SchemaClash (stray dims attrs cols)) (option_or (outside_in dims (cells_from cs rs 0 count)) (option_or (again_in [] 0 (cells_from cs rs 0 count)) (over_most count))))) of_dims
    ∙ ap (λ r. r or_else λ rs. unless (cells_from coords rs 0 count) (option_or (option_map refusal.SchemaClash (stray dims attrs cols)) (option_or (outside_in dims (cells_from coords rs 0 count)) (option_or (again_in [] 0 (cells_from coords rs 0 count)) (over_most count))))) of_attrs
    ∙ (λ i. unless (sym same i) (option_or (option_map refusal.SchemaClash (stray dims attrs cols)) (option_or (outside_in dims (sym same i)) (option_or (again_in [] 0 (sym same i)) (over_most (sym long i))))))
  where
    laid_by : ℕ → Result (List Cell) Refusal
    laid_by n =
        columns (dim_column cols n) dims or_else λ cs. columns (attr_column cols n) attrs or_else λ rs.
        unless (cells_from cs rs 0 n) (option_or (option_map refusal.SchemaClash (stray dims attrs cols)) (option_or (outside_in dims (cells_from cs rs 0 n)) (option_or (again_in [] 0 (cells_from cs rs 0 n)) (over_most n))))

    by : (n : ℕ) → count ≡ n → laid_by n ≡ laid_by count
    by n e = ap laid_by (sym e)

-- the same where no column is of another name
pub apart_laid_by : (dims dom : List Dim) (attrs : List Attr) (cols : List ColIn) (count : ℕ) (coords : List (List ℤ)) (rows : List (List Val)) (origin : Origin) (vs : List Version) → dims ≡ dom → count ≡ count_of dims cols
    → columns (dim_column cols count) dims ≡ Ok coords → columns (attr_column cols count) attrs ≡ Ok rows → vs ≡ map (version_in origin.key origin.schema) (cells_from coords rows 0 count) → stray dims attrs cols ≡ None
    → laid_apart dom attrs cols ≡ unless (cells_in vs) (option_or (outside_in dom (cells_in vs)) (option_or (again_in [] 0 (cells_in vs)) (over_most (length vs))))
apart_laid_by dims dom attrs cols count coords rows origin vs same counted of_dims of_attrs is none =
    apart_laid dom attrs cols count coords rows origin.key origin.schema vs (counted ∙ ap (λ ds. count_of ds cols) same) (subst (λ ds. columns (dim_column cols count) ds ≡ Ok coords) same of_dims) of_attrs is
    ∙ ap (λ o. unless (cells_in vs) (option_or (option_map refusal.SchemaClash o) (option_or (outside_in dom (cells_in vs)) (option_or (again_in [] 0 (cells_in vs)) (over_most (length vs)))))) (ap (λ ds. stray ds attrs cols) (sym same) ∙ none)

-- each version has a coordinate for each dimension
pub table_wide : (dims dom : List Dim) (cols : List ColIn) (count : ℕ) (coords : List (List ℤ)) (rows : List (List Val)) (origin : Origin) (vs : List Version) → dims ≡ dom
    → columns (dim_column cols count) dims ≡ Ok coords → vs ≡ map (version_in origin.key origin.schema) (cells_from coords rows 0 count) → All (λ (v : Version). length v.coords ≡ length dom) vs
table_wide dims dom cols count coords rows origin vs same of_dims is =
    let are = dim_columns_long cols count dims coords of_dims in
    let wide : length coords ≡ length dom = are.many ∙ ap length same in
    let long = versions_wide origin.key origin.schema (cells_from coords rows 0 count) (length coords) (cells_long count 0 count coords rows (omega arith) are.long) in
    subst (All (λ (v : Version). length v.coords ≡ length dom)) (sym is) (subst (λ n. All (λ (v : Version). length v.coords ≡ n) (map (version_in origin.key origin.schema) (cells_from coords rows 0 count))) wide long)

-- ---- over a box

-- what a write lays over a box, by its columns
pub over_laid : (dims : List Dim) (attrs : List Attr) (w : WriteIn) (named : List NamedBox) (sub : SubBox) (cols : List ColIn) (count : ℕ) → named ≡ w.sub → sub ≡ box_of named dims → cols ≡ w.cols → count ≡ counted_cells sub
    → laid_dense dims attrs w ≡ (columns (attr_column cols count) attrs or_else λ rows. unless (cells_at (coords_in_order w.layout sub) rows 0) (box_refusal dims attrs w sub))
over_laid dims attrs w named sub cols count same is whole counted =
    ap (laid_over dims attrs w) (sym (is ∙ ap (λ bs. box_of bs dims) same))
    ∙ ap (λ n. columns (attr_column w.cols n) attrs or_else λ rows. unless (cells_at (coords_in_order w.layout sub) rows 0) (box_refusal dims attrs w sub)) (sym counted)
    ∙ ap (λ cs. columns (attr_column cs count) attrs or_else λ rows. unless (cells_at (coords_in_order w.layout sub) rows 0) (box_refusal dims attrs w sub)) (sym whole)

-- where no refusal stands against a box its cells are few
pub few_cells : (dims : List Dim) (attrs : List Attr) (w : WriteIn) (sub : SubBox) → box_refusal dims attrs w sub ≡ None → cells_of sub ≤ 2 ^ 20
few_cells dims attrs w sub none =
    let one = neither (option_map refusal.SchemaClash (stray_bound dims w.sub)) _ none in
    let two = neither (option_map refusal.SchemaClash (stray [] attrs w.cols)) _ one.1 in
    let three = neither (bound_outside dims sub) (over_most (counted_cells sub)) two.1 in
    let most = ltb-false most_cells (counted_cells sub) (no_fault (nat_lt most_cells (counted_cells sub)) (refusal.TooMany (counted_cells sub)) None three.1).0 in
    omega (arith, most)

-- and the box lies in the domain
pub box_within : (dims : List Dim) (attrs : List Attr) (w : WriteIn) (sub : SubBox) → IsBox sub → length sub.low ≡ length dims → box_refusal dims attrs w sub ≡ None → LiesInDomain dims sub
box_within dims attrs w sub valid wide none =
    let one = neither (option_map refusal.SchemaClash (stray_bound dims w.sub)) _ none in
    let two = neither (option_map refusal.SchemaClash (stray [] attrs w.cols)) _ one.1 in
    let three = neither (bound_outside dims sub) (over_most (counted_cells sub)) two.1 in
    let clear = none_before (λ o. refusal.Domain o.dim o.value) (first_bound_outside dims sub) three.0 in
    (box_inside dims sub valid clear wide sub.low (is_between-low sub.low sub.high valid), box_inside dims sub valid clear wide sub.high (is_between-high sub.low sub.high valid))
