use Rattle.std.proofs.Common.{◌≡◌, map}
use Rattle.std.specs.Map.Iter.{deref_pair}
use Rattle.ts_model.specs.Scans.{shown_of}
use Rattle.ts_model.proofs.scan.listed.Given as goal

-- the cells so far
abbrev pub invariant-loop-coords : goal.invariant-loop-coords
invariant-loop-coords l = l.list ≡ map shown_of (map deref_pair l.yielded)
