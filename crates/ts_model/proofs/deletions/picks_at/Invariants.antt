use Rattle.std.proofs.Common.{◌≡◌, map, take}
use Rattle.ts_model.specs.Scans.{pick_at}
use Rattle.ts_model.proofs.deletions.picks_at.Given as goal

-- the values of the fields so far
abbrev pub invariant-loop-field : goal.invariant-loop-field
invariant-loop-field l = l.picks ≡ map (pick_at l.attrs l.row) (take l.field-index l.fields)
