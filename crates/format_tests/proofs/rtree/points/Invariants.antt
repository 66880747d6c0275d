use Rattle.std.proofs.Common.{◌≡◌, length}
use Rattle.std.specs.List.{All}
use Rattle.ts_domain.specs.Rects.{IsLike}
use Rattle.format_tests.proofs.rtree.points.Given as goal

abbrev pub invariant-loop-at : goal.invariant-loop-at
invariant-loop-at l = All (IsLike l.like) l.boxes × (length l.boxes ≡ l.at)
