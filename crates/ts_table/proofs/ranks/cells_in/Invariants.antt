-- The cells of the dimensions so far, times those of the others, are all cells.
use Rattle.std.proofs.Common.{◌≡◌, ◌*◌, ◌-◌, ◌^◌, ◌≤◌, min, drop}
use Rattle.ts_domain.specs.Bounds.{cells_between}
use Rattle.ts_domain.specs.Boxes.{cells_of}
use Rattle.ts_domain.specs.Domains.{whole_domain}
use Rattle.ts_table.proofs.ranks.cells_in.Given as goal

abbrev pub invariant-loop-dim : goal.invariant-loop-dim
invariant-loop-dim l =
    (l.cells ≤ 2 ^ 64 - 1)
    × (min (l.cells * cells_between (drop l.dim (whole_domain l.dims).low) (drop l.dim (whole_domain l.dims).high)) (2 ^ 64 - 1) ≡ min (cells_of (whole_domain l.dims)) (2 ^ 64 - 1))
