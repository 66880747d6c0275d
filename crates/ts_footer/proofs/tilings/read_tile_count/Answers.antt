-- A fragment has a tile.
use Rattle.ts_footer.proofs.FooterReads.{total_some, kept_some}
use Rattle.ts_footer.proofs.tilings.read_tile_count.Goals as goal

pub returns-clause-some : goal.returns-clause-some
returns-clause-some c =
    let more = total_some c.args.tiling c.args.frame.now c.args.head.now c.as_slice-dims.ensures.sound c.requires.hull c.requires.some in
    kept_some _ _ _ _ _ more c.is_total.ensures c.kept.ensures
