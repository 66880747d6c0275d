-- The ranks in their order have the places in the order of the cells.
use Rattle.std.proofs.Common.{map}
use Rattle.ts_table.specs.Orders.{cells_cmp}
use Rattle.ts_table.proofs.PlaceOrders.{answered}
use Rattle.ts_table.proofs.RankOrders.{place_of, ordered_from}
use Rattle.ts_table.proofs.ranks.places_by_rank.Goals as goal

pub returns : goal.returns
returns c =
    let law = ordered_from c.args.domain.now c.args.table.now c.requires.sound c.requires.inside c.args.order c.sorted-ranks.result (rw c.in_ok-ranks.ensures at c.sorted-ranks.ensures.each) c.sorted-ranks.ensures.sorted in
    answered (cells_cmp c.args.domain.now c.args.order) c.args.table.now (map place_of c.sorted-ranks.result) c.places_of.result law (rw c.as_slice.ensures at c.places_of.ensures)
