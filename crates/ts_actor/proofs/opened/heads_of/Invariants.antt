use Rattle.std.proofs.Common.{◌≡◌, take}
use Rattle.ts_model.specs.States.{heads_of}
use Rattle.ts_actor.proofs.opened.heads_of.Given as goal

-- the heads of the fragments so far
abbrev pub invariant-loop-one : goal.invariant-loop-one
invariant-loop-one l = l.heads ≡ heads_of (take l.one-index l.opened)
