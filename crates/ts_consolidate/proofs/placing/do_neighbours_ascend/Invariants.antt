-- The versions so far ascend, and the last of them is known.
use Rattle.std.proofs.Common.{◌≡◌, ◌-◌, get_or}
use Rattle.std.specs.List.{AllAdjacentBelow}
use Rattle.std.specs.declared.cmp.Ordering.TheVariants.{Less}
use Rattle.ts_base.specs.declared.heads.Version.{Version}
use Rattle.ts_piece.specs.Spots.{spotted}
use Rattle.ts_consolidate.specs.Placing.{by_version, place_of}
use Rattle.ts_consolidate.proofs.placing.do_neighbours_ascend.Given as goal

abbrev pub invariant-loop-next : goal.invariant-loop-next
invariant-loop-next l = record {
  last : (d : Version) → l.last ≡ place_of l.frame (get_or (spotted l.batches l.spots) (l.next - 1) d);
  up : AllAdjacentBelow (λ (v w : Version). by_version l.frame v w ≡ Less) (spotted l.batches l.spots) l.next;
}
