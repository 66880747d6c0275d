use Rattle.std.proofs.Common.{◌≡◌, map, take}
use Rattle.ts_cond.specs.Picks.{pick_of}
use Rattle.ts_cond.proofs.cond.Cond.bind.Given as goal

abbrev pub invariant-loop-field : goal.invariant-loop-field
invariant-loop-field l = l.picks ≡ map (pick_of l.attrs) (take l.field-index l.field-items)
