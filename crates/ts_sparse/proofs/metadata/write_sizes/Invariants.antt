-- The sizes so far.
use Rattle.std.proofs.Common.{◌≡◌, ◌++◌, take}
use Rattle.std.specs.List.{flat_map}
use Rattle.ts_wire.specs.Numbers.{number_bytes}
use Rattle.ts_sparse.proofs.metadata.write_sizes.Given as goal

abbrev pub invariant-loop-size : goal.invariant-loop-size
invariant-loop-size l = l.scribe ≡ l.fn.scribe ++ flat_map (number_bytes 8) (take l.size-index l.sizes)
