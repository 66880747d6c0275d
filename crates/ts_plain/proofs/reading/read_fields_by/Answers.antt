use Rattle.std.proofs.Common.{subst, sym}
use Rattle.std.specs.List.{All}
use Rattle.ts_plain.specs.Insides.{IsSide}
use Rattle.ts_plain.proofs.Insides.{hull_sides}
use Rattle.ts_plain.proofs.reading.read_fields_by.Goals as goal

pub read_cell_count-requires : goal.read_cell_count-requires
read_cell_count-requires c = subst (All IsSide) (sym c.as_slice-2.ensures) (hull_sides c.as_slice.result.now c.in_ok-hull.hull c.in_ok-hull.ensures.inside)
