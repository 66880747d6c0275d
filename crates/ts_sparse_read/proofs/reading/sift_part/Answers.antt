-- What is broken among the columns comes first, and then what is taken of the cells is told.
use Rattle.std.proofs.Common.{rules, ◌≡◌, Err}
use Rattle.ts_sparse_read.specs.declared.columns.Columns.{Columns}
use Rattle.ts_sparse_read.proofs.SiftLaws.{part_stops, part_goes}
use Rattle.ts_sparse_read.proofs.reading.sift_part.Goals as goal

pub returns-in_err-columns : goal.returns-in_err-columns
returns-in_err-columns c =
    let is : c.from_residual.result ≡ Err c.in_err-columns.field-0.0 = search rules in
    rw is (part_stops c.args.opened.now {A = Columns} {B = Unit {0}} (λ columns. columns) (λ _. c.args.sifted.now) c.args.sifted.now c.args.leaf.now c.args.count c.args.ranges.now c.in_err-columns.field-0.0 c.in_err-columns.ensures.decodes)

pub returns : goal.returns
returns c = part_goes c.args.opened.now _ c.args.sifted.now c.args.leaf.now c.args.count c.args.ranges.now c.in_ok-columns.columns c.sift_cells.result c.in_ok-columns.ensures.decodes c.sift_cells.ensures
