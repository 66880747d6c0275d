-- The corners lie in one space tile, so all that lies between them does.
use Rattle.std.proofs.Common.{◌≡◌, true, sym, ◌∙◌}
use Rattle.ts_base.specs.Coords.{coords_eq}
use Rattle.ts_order.specs.Orders.{tile_numbers}
use Rattle.ts_sparse_read.proofs.NearLaws.{coords_same, one_tile}
use Rattle.ts_sparse_read.proofs.near.is_one_tile.Goals as goal

pub returns : goal.returns
returns c t =
    let frame = c.args.frame.now in
    let leaf = c.args.leaf.now in
    let tested : coords_eq c.tile_numbers.result c.tile_numbers-2.result ≡ true = sym c.eq.ensures ∙ t in
    let same = coords_same c.tile_numbers.result c.tile_numbers-2.result tested in
    let corners : tile_numbers frame.domain leaf.low ≡ tile_numbers frame.domain leaf.high = cc in
    one_tile frame leaf c.as_slice-dims.ensures.sound c.requires corners
