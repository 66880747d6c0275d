use Rattle.std.proofs.Common.{pos}
use Rattle.ts_base.specs.Buffers.{padded_is}
use Rattle.ts_base.proofs.coords.Coords.new.Goals as goal

pub invariant_of-result : goal.invariant_of-result
invariant_of-result c = record {
  some = c.requires.some;
  buffer = padded_is 8 (pos 0) c.args.numbers.now _ c.copy_from_slice.ensures.after c.requires.room;
}
