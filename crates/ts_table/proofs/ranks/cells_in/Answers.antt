-- One dimension more.
use Rattle.std.proofs.Common.{arith, ◌≡◌, ◌∙◌, ◌^◌, ◌-◌, min, get_or, sym, ap, pos}
use Rattle.std.proofs.lemmas.List.{get_or-map, length-map}
use Rattle.ts_domain.specs.declared.dims.Dim.{Dim}
use Rattle.ts_domain.specs.Bounds.{count_between}
use Rattle.ts_domain.specs.Domains.{whole_domain}
use Rattle.ts_domain.proofs.Steps.{cells_more, cells_all}
use Rattle.ts_table.proofs.ranks.cells_in.Goals as goal

pub loop-dim-preserved : goal.loop-dim-preserved
loop-dim-preserved c =
    let dims = c.args.dims.now in
    let i = c.loop-dim.dim in
    let low = (whole_domain dims).low in
    let high = (whole_domain dims).high in
    let at_low : get_or low i (pos 0) ≡ c.index-dims-dim.result.low =
    get_or-map (λ (d : Dim). d.low) dims i c.index-dims-dim.result (pos 0) c.loop-dim-test.true ∙ ap (λ (d : Dim). d.low) (sym c.index-dims-dim.is) in
    let at_high : get_or high i (pos 0) ≡ c.index-dims-dim.result.high =
    get_or-map (λ (d : Dim). d.high) dims i c.index-dims-dim.result (pos 0) c.loop-dim-test.true ∙ ap (λ (d : Dim). d.high) (sym c.index-dims-dim.is) in
    let side : c.side_of.result ≡ min (count_between (get_or low i (pos 0)) (get_or high i (pos 0))) (2 ^ 64 - 1) = rw (at_low, at_high) c.side_of.ensures in
    rw c.saturating_mul-cells.ensures
    (omega arith, cells_more low high i c.loop-dim.cells c.side_of.result (2 ^ 64 - 1) _ (rw length-map c.loop-dim-test.true) (rw length-map c.loop-dim-test.true) side c.loop-dim.invariant.1)

pub returns : goal.returns
returns c =
    let dims = c.args.dims.now in
    cells_all (whole_domain dims).low (whole_domain dims).high c.loop-dim.dim c.loop-dim.cells (2 ^ 64 - 1) _ (rw length-map c.loop-dim-test.false) c.loop-dim.invariant.0 c.loop-dim.invariant.1
