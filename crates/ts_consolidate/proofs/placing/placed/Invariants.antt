-- The versions that are left and those that have taken their places are all versions.
use Rattle.std.proofs.Common.{◌≡◌, [], length}
use Rattle.std.specs.Prelude.{IsTrue, All}
use Rattle.ts_base.specs.declared.heads.Version.{Version}
use Rattle.ts_domain.specs.Domains.{is_in_domain}
use Rattle.ts_piece.specs.Spots.{IsSpot, spotted}
use Rattle.ts_consolidate.specs.Placing.{placed_behind}
use Rattle.ts_consolidate.proofs.placing.placed.Given as goal

abbrev pub invariant-loop-spot : goal.invariant-loop-spot
invariant-loop-spot l = record {
  there : All (IsSpot l.batches) l.spots.items;
  inside : All (λ (version : Version). IsTrue (is_in_domain l.frame.domain version.coords)) (spotted l.batches l.spots.items);
  placed : placed_behind l.frame l.batches l.spots.items l.placed.entries ≡ placed_behind l.frame l.batches l.fn.spots.items [];
}

abbrev pub decreases-loop-spot : goal.decreases-loop-spot
decreases-loop-spot l = length l.spots.items
