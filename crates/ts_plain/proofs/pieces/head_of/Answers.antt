-- Each side of a hull is one.
use Rattle.std.proofs.Common.{subst, sym}
use Rattle.std.specs.List.{All}
use Rattle.ts_plain.specs.Insides.{IsSide}
use Rattle.ts_plain.proofs.Insides.{hull_sides}
use Rattle.ts_plain.proofs.pieces.head_of.Goals as goal

pub counted-requires : goal.counted-requires
counted-requires c = subst (All IsSide) (sym c.as_slice-3.ensures) (hull_sides c.args.frame.now.domain c.args.head.hull c.requires)
