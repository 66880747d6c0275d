-- What the metadata of a sparse fragment tells of its objects and its tiles.
use Rattle.std.specs.Prelude.{◌+◌, List, length, map, Some}
use Rattle.ts_base.specs.declared.keys.FragKey.{FragKey}
use Rattle.ts_schema.specs.declared.attrs.Attr.{Attr}
use Rattle.ts_schema.specs.declared.frames.Frame.{Frame}
use Rattle.ts_plain.specs.declared.stored.StoredPiece.{StoredPiece}
use Rattle.ts_plain.specs.Pieces.{head_of}
use Rattle.ts_footer.specs.declared.columns.ColumnSize.{ColumnSize}
use Rattle.ts_footer.specs.declared.footers.Footer.{Footer}
use Rattle.ts_footer.specs.declared.metas.Meta.{Meta}
use Rattle.ts_footer.specs.Metas.{starts_of}
use Rattle.ts_footer.specs.TreeTexts.{rooted}
use Rattle.ts_sparse.specs.Tilings.{tiles_of}
use Rattle.ts_sparse.specs.Sparse.{Object, objects_of, leaves_of}

-- what is told of an object: its length with its envelope, and where its tiles start
abbrev pub size_of : Object → ColumnSize
size_of o = record { length = 14 + length o.body; starts = o.starts }

-- what the metadata of a stored piece stores
abbrev pub footer_of : Frame → List Attr → StoredPiece → Footer
footer_of frame attrs stored = record {
  head = stored.head;
  tiles = length (tiles_of frame.capacity stored.cells);
  sizes = map size_of (objects_of frame attrs stored);
  tree = Some (rooted (leaves_of frame.capacity stored.cells));
}

-- the metadata of a stored piece under the name of its fragment: its head, the length of each object and where the tiles start in those of byte lists, the number of tiles, and the tree over the hulls of the tiles
unfoldable pub meta_for : Frame → List Attr → FragKey → StoredPiece → Meta
meta_for frame attrs frag stored = record {
  head = head_of frag stored.head;
  lengths = map (λ o. 14 + length o.body) (objects_of frame attrs stored);
  var_starts = starts_of (map size_of (objects_of frame attrs stored));
  tiles = length (tiles_of frame.capacity stored.cells);
  tree = Some (rooted (leaves_of frame.capacity stored.cells));
}
