use Rattle.std.proofs.Common.{◌≡◌, take}
use Rattle.ts_piece.proofs.pieces.PieceCells.to_rows.Given as goal

-- the versions so far
abbrev pub invariant-loop-version : goal.invariant-loop-version
invariant-loop-version l = l.versions ≡ take l.version-index l.self.versions
