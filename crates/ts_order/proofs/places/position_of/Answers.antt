use Rattle.ts_order.proofs.OrderedCoords.{slice_get-place_of, place_of-only, place_of-cells}
use Rattle.ts_order.proofs.places.position_of.Goals as goal

pub returns-clause-place : goal.returns-clause-place
returns-clause-place c =
    rw (c.place_in.ensures, c.as_slice.ensures, c.as_slice-2.ensures, c.as_slice-3.ensures) (slice_get-place_of c.args.order c.args.sub.now c.args.at.now c.requires.inside)

pub returns-clause-only : goal.returns-clause-only
returns-clause-only c =
    rw (c.place_in.ensures, c.as_slice.ensures, c.as_slice-2.ensures, c.as_slice-3.ensures) (place_of-only c.args.order c.args.sub.now c.args.at.now c.requires.inside)

pub returns-clause-below : goal.returns-clause-below
returns-clause-below c =
    rw (c.place_in.ensures, c.as_slice.ensures, c.as_slice-2.ensures, c.as_slice-3.ensures) (place_of-cells c.args.order c.args.sub.now c.args.at.now c.requires.inside)
