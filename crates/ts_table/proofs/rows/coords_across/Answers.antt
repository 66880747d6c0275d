-- One coordinate more is written.
use Rattle.std.proofs.Common.{rules, arith, ◌≡◌, ◌∙◌, sym, ap, take, length, length-set, FitsSigned, to_z-of_z}
use Rattle.std.specs.Int.{w128}
use Rattle.std.specs.Prelude.{pos}
use Rattle.std.proofs.lemmas.List.{take_all}
use Rattle.ts_order.proofs.TileSteps.{written_more}
use Rattle.ts_table.specs.Tables.{across}
use Rattle.ts_table.proofs.Tables.{across-length, across_item}
use Rattle.ts_table.proofs.rows.coords_across.Goals as goal

pub loop-dim-preserved : goal.loop-dim-preserved
loop-dim-preserved c =
    let dims = c.args.dims.now in
    let whole : length (across c.args.place dims) ≡ length dims = across-length c.args.place dims c.requires.long in
    let fits : FitsSigned w128 c.at.result = search rules in
    let item = across_item c.args.place dims c.loop-dim.dim c.index-dims-dim.result c.at.result (pos 0) c.requires.long c.loop-dim-test.true c.index-dims-dim.is c.at.ensures in (
      length-set c.loop-dim.numbers c.loop-dim.dim _ ∙ c.loop-dim.invariant.0,
      written_more c.loop-dim.numbers (across c.args.place dims) c.loop-dim.dim _ (omega (arith, c.loop-dim.invariant.0, c.requires.room, c.loop-dim-test.true)) (omega (arith, whole, c.loop-dim-test.true)) (to_z-of_z fits ∙ sym item) c.loop-dim.invariant.1,
    )

pub returns : goal.returns
returns c =
    let dims = c.args.dims.now in
    let whole : length (across c.args.place dims) ≡ length dims = across-length c.args.place dims c.requires.long in
    let done : c.loop-dim.dim ≡ length dims = omega arith in
    c.new.ensures ∙ ap (λ n. take n c.loop-dim.numbers) (sym done) ∙ c.loop-dim.invariant.1 ∙ take_all c.loop-dim.dim (across c.args.place dims) (omega (arith, whole))
