-- Each version and the next ascend to the end, or two do not.
use Rattle.std.proofs.Common.{arith, ap, not, ◌∙◌}
use Rattle.std.specs.Bool.{◌==◌}
use Rattle.std.specs.Ordering.{ordering_index}
use Rattle.ts_base.specs.declared.heads.Version.{Version}
use Rattle.std.proofs.Common.{int_cmp}
use Rattle.std.specs.Cmp.Lexicographic.{slice_cmp}
use Rattle.std.proofs.lemmas.Cmp.{on_total}
use Rattle.ts_model.proofs.Ascending.{sorted_of_neighbours, before_next}
use Rattle.ts_model.proofs.Newest.{coords_total}
use Rattle.ts_reader.proofs.row_order.ascend.Goals as goal

pub returns-then-ne : goal.returns-then-ne
returns-then-ne c =
    let cmp = λ (a b : Version). slice_cmp int_cmp a.coords b.coords in (
      λ no. cc,
      λ sorted.
          let up = before_next cmp c.args.versions.now sorted c.loop-place.place c.index-versions-place.result c.index-versions-place-in-loop-place.result (omega arith) c.loop-place-test.true c.index-versions-place.is
          c.index-versions-place-in-loop-place.is in
          let ne = ap (λ o. not (ordering_index o == 0)) (c.compare.ensures ∙ up) in
          cc,
    )

pub returns : goal.returns
returns c = (λ yes. sorted_of_neighbours (on_total (λ (v : Version). v.coords) coords_total) c.args.versions.now (λ k d below. c.loop-place.invariant k d (omega arith)), λ sorted. cc)
