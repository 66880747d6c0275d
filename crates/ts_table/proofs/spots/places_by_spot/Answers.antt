-- The spots in their order have the places in the order of the cells.
use Rattle.std.proofs.Common.{map}
use Rattle.ts_table.specs.Orders.{cells_cmp}
use Rattle.ts_table.proofs.PlaceOrders.{answered}
use Rattle.ts_table.proofs.SpotOrders.{place_of, ordered_from}
use Rattle.ts_table.proofs.spots.places_by_spot.Goals as goal

pub returns : goal.returns
returns c =
    let law = ordered_from c.args.domain.now c.args.order c.args.table.now c.in_ok-spots-2.spots (rw c.in_ok-spots.ensures at c.in_ok-spots-2.ensures.each) c.in_ok-spots-2.ensures.sorted in
    answered (cells_cmp c.args.domain.now c.args.order) c.args.table.now (map place_of c.in_ok-spots-2.spots) c.places_of.result law (rw c.as_slice.ensures at c.places_of.ensures)
