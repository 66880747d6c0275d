-- Where neighbours ascend all do, since a layout is a total order.
use Rattle.ts_base.specs.declared.heads.Version.{Version}
use Rattle.ts_model.specs.Queries.{layout_cmp}
use Rattle.ts_model.proofs.Ascending.{sorted_of_neighbours}
use Rattle.ts_select.proofs.Ascending.{versions_total, neighbours_of_sorted}
use Rattle.ts_select.proofs.layout.is_in_layout.Goals as goal

pub returns-then-is_box_in : goal.returns-then-is_box_in
returns-then-is_box_in c =
    let frame = c.args.frame.now in (
      λ yes. sorted_of_neighbours (versions_total frame c.args.layout) c.args.cells.now (c.is_box_in.ensures yes frame),
      λ sorted. c.if-is_box_in.true,
    )

pub returns-else-is_box_in : goal.returns-else-is_box_in
returns-else-is_box_in c =
    let frame = c.args.frame.now in
    let cells = c.args.cells.now in (
      λ yes. sorted_of_neighbours (versions_total frame c.args.layout) cells (c.do_neighbours_ascend.ensures.0 yes),
      λ sorted. c.do_neighbours_ascend.ensures.1 (neighbours_of_sorted (λ (a b : Version). layout_cmp frame c.args.layout a.coords b.coords) cells sorted),
    )
