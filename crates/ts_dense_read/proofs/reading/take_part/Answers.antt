-- What is broken in what was read is told, and else what is wanted of the slots is taken.
use Rattle.std.proofs.Common.{rules, ◌≡◌}
use Rattle.std.specs.Prelude.{Err}
use Rattle.ts_dense_read.specs.declared.slots.TileSlots.{TileSlots}
use Rattle.ts_dense_read.proofs.TileTakes.{part_stops, part_goes}
use Rattle.ts_dense_read.proofs.reading.take_part.Goals as goal

pub returns-in_err-slots : goal.returns-in_err-slots
returns-in_err-slots c =
    let is : c.from_residual.result ≡ Err c.in_err-slots.field-0.0 = search rules in
    rw is (part_stops c.args.opened.now {A = TileSlots} {B = Unit {0}} (λ slots. slots) (λ _. c.args.found.now) c.args.found.now c.args.leaf.now c.args.count c.args.ranges.now c.in_err-slots.field-0.0 c.in_err-slots.ensures.decodes)

pub returns : goal.returns
returns c = part_goes c.args.opened.now c.args.found.now c.take_slots.new.found c.args.leaf.now c.args.count c.args.ranges.now c.in_ok-slots.slots c.in_ok-slots.ensures.decodes c.in_ok-take_slots.ensures
