use Rattle.std.proofs.Common.{◌≡◌, drop}
use Rattle.ts_model.specs.Scans.{erased_under}
use Rattle.ts_model.proofs.deletions.is_last_erased.Given as goal

-- none of the deeds so far erases the cell
abbrev pub invariant-loop-deed : goal.invariant-loop-deed
invariant-loop-deed l =
    erased_under l.last.attrs.now l.from l.to l.last.at.now l.last.write.now l.last.row.now (drop l.deed-index l.deeds) ≡ erased_under l.last.attrs.now l.from l.to l.last.at.now l.last.write.now l.last.row.now l.deeds
