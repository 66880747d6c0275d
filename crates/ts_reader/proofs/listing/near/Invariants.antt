use Rattle.std.proofs.Common.{◌≡◌}
use Rattle.std.specs.Prelude.{filter}
use Rattle.ts_model.specs.States.{meets}
use Rattle.ts_reader.proofs.listing.near.Given as goal

-- those of the fragments so far
abbrev pub invariant-loop-frag : goal.invariant-loop-frag
invariant-loop-frag l = l.chosen ≡ filter (meets l.from l.to) l.yielded
