-- The numbers of the space tiles make a box.
use Rattle.ts_footer.proofs.FooterReads.{numbers_valid}
use Rattle.ts_footer.proofs.tilings.space_tiles.Goals as goal

pub cells-requires : goal.cells-requires
cells-requires c =
    rw (c.tile_numbers.ensures, c.tile_numbers-2.ensures, c.as_slice-dims.ensures.value)
    (numbers_valid c.args.domain.now c.args.hull.now c.as_slice-dims.ensures.sound c.requires.valid c.requires.inside)
