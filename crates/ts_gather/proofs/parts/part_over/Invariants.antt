-- The values of the runs so far.
use Rattle.std.proofs.Common.{◌≡◌, take, drop}
use Rattle.std.specs.List.{flat_map}
use Rattle.ts_gather.proofs.parts.part_over.Given as goal

abbrev pub invariant-loop-from : goal.invariant-loop-from
invariant-loop-from l = l.part ≡ flat_map (λ from. take l.run (drop from l.column)) (take l.from-index l.from-items)
