use Rattle.std.proofs.Common.{◌≡◌, take}
use Rattle.ts_model.specs.States.{schemas_in}
use Rattle.ts_actor.proofs.seeking.schemas_in.Given as goal

-- the keys of the names so far
abbrev pub invariant-loop-name : goal.invariant-loop-name
invariant-loop-name l = l.keys ≡ schemas_in (take l.name-index l.names)
