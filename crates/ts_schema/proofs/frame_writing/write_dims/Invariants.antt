-- The count, and the dimensions so far.
use Rattle.std.proofs.Common.{◌≡◌, ◌++◌, length, take}
use Rattle.std.specs.List.{flat_map}
use Rattle.ts_wire.specs.Numbers.{number_bytes}
use Rattle.ts_schema.specs.FrameTexts.{dim_bytes}
use Rattle.ts_schema.proofs.frame_writing.write_dims.Given as goal

abbrev pub invariant-loop-dim : goal.invariant-loop-dim
invariant-loop-dim l = l.scribe ≡ l.fn.scribe ++ (number_bytes 1 (length l.domain) ++ flat_map dim_bytes (take l.dim-index l.domain))
