-- The objects of the parts so far.
use Rattle.std.proofs.Common.{◌≡◌}
use Rattle.ts_model.specs.States.{part_objects}
use Rattle.ts_consolidate.proofs.putting.part_objects.Given as goal

abbrev pub invariant-loop-part : goal.invariant-loop-part
invariant-loop-part l = l.objects.items ≡ part_objects l.frag l.yielded
