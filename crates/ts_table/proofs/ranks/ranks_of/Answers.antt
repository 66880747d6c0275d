-- One rank more.
use Rattle.std.proofs.Common.{arith, ◌≡◌, ◌∙◌, ◌<◌, ◌++◌, ◌∷◌, [], map, length, sym, ap}
use Rattle.std.specs.List.{range_with_len}
use Rattle.std.proofs.lemmas.List.{get_or_default}
use Rattle.ts_table.specs.Ranks.{tile_place, cell_place, rank_at}
use Rattle.ts_table.specs.Tables.{version_or}
use Rattle.ts_table.proofs.RankOrders.{ranks_more}
use Rattle.ts_table.proofs.ranks.ranks_of.Goals as goal

pub loop-place-preserved : goal.loop-place-preserved
loop-place-preserved c =
    let dims = c.args.domain.now in
    let vs = c.args.table.now in
    let i = c.loop-place.place in
    let below : i < length vs = omega (arith, c.in_ok-cells.ensures.long) in
    let tile : c.index.result.now ≡ tile_place dims c.args.order (version_or vs i).coords = c.index.ensures ∙ get_or_default c.in_ok-tiles.tiles.items i _ 0 (omega (arith, c.in_ok-tiles.ensures.long, below)) ∙ c.in_ok-tiles.ensures.each i below in
    let cell : c.index-in-loop-place.result.now ≡ cell_place dims c.args.order (version_or vs i).coords = c.index-in-loop-place.ensures ∙ get_or_default c.in_ok-cells.cells.items i _ 0 (omega (arith, c.in_ok-cells.ensures.long, below)) ∙ c.in_ok-cells.ensures.each i below in
    let rank : record { tile = c.index.result.now; cell = c.index-in-loop-place.result.now; place = i } ≡ rank_at dims c.args.order vs i = λ n. record { tile = tile n; cell = cell n; place = i } in
    c.in_ok-push.ensures.ok ∙ ap (λ ranks. ranks ++ record { tile = c.index.result.now; cell = c.index-in-loop-place.result.now; place = i } ∷ []) c.loop-place.invariant
    ∙ ap (λ r. map (rank_at dims c.args.order vs) (range_with_len 0 i) ++ r ∷ []) rank ∙ sym (ranks_more dims c.args.order vs i)
