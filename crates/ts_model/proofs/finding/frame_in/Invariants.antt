use Rattle.std.proofs.Common.{◌≡◌, drop}
use Rattle.ts_model.specs.Deeds.{frame_in}
use Rattle.ts_model.proofs.finding.frame_in.Given as goal

-- the frame is among the deeds from here on
abbrev pub invariant-loop-deed : goal.invariant-loop-deed
invariant-loop-deed l = frame_in (drop l.deed-index l.deeds) ≡ frame_in l.deeds
