-- What the metadata of a dense fragment tells of its objects and its tiles.
use Rattle.std.specs.Prelude.{List, length, map, None}
use Rattle.ts_schema.specs.declared.attrs.Attr.{Attr}
use Rattle.ts_schema.specs.declared.frames.Frame.{Frame}
use Rattle.ts_plain.specs.declared.stored.StoredPiece.{StoredPiece}
use Rattle.ts_plain.specs.Writes.{box_of}
use Rattle.ts_footer.specs.declared.footers.Footer.{Footer}
use Rattle.ts_sparse.specs.Told.{size_of}
use Rattle.ts_dense.specs.Slots.{tiles_over}
use Rattle.ts_dense.specs.Dense.{objects_of}

-- what the metadata of a stored piece stores
abbrev pub footer_of : Frame → List Attr → StoredPiece → Footer
footer_of frame attrs stored = record {
  head = stored.head;
  tiles = length (tiles_over frame (box_of stored.head.hull));
  sizes = map size_of (objects_of frame attrs stored);
  tree = None;
}
