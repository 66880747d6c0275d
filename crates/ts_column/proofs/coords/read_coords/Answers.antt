-- The offset of a coordinate is one in the bytes.
use Rattle.std.proofs.Common.{sym}
use Rattle.ts_column.proofs.CoordLaws.{place_room}
use Rattle.ts_column.proofs.coords.read_coords.Goals as goal

pub offset_of-at-requires : goal.offset_of-at-requires
offset_of-at-requires c =
    place_room c.args.ty c.args.low.now c.args.high.now c.args.count c.args.bytes.now c.in-Ok.coords c.in-Some.place c.requires c.are_bytes.ensures c.in-Ok.ensures (sym c.in-Some.ensures)
