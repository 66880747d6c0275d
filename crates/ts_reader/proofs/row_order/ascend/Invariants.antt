-- Each version so far comes before the next.
use Rattle.std.proofs.Common.{◌≡◌}
use Rattle.std.specs.declared.cmp.Ordering.TheVariants.{Less}
use Rattle.std.specs.List.{AllAdjacentBelow}
use Rattle.ts_base.specs.declared.heads.Version.{Version}
use Rattle.std.proofs.Common.{int_cmp}
use Rattle.std.specs.Cmp.Lexicographic.{slice_cmp}
use Rattle.ts_reader.proofs.row_order.ascend.Given as goal

abbrev pub invariant-loop-place : goal.invariant-loop-place
invariant-loop-place l = AllAdjacentBelow (λ (a b : Version). slice_cmp int_cmp a.coords b.coords ≡ Less) l.versions l.place
