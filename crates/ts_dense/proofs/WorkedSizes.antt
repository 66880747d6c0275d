-- A worked fragment: six cells in two space tiles, written at once, and the same hull with two cells alone.
use Rattle.std.proofs.Common.{◌≡◌, ℕ, pos, true, false, List, [], ◌∷◌, length, map, refl}
use Rattle.std.specs.List.{flat_map}
use Rattle.ts_base.specs.declared.names.Part.TheVariants as part
use Rattle.ts_base.specs.declared.values.Val.TheVariants.{Int}
use Rattle.ts_base.specs.declared.values.ValType.TheVariants.{I32, U8}
use Rattle.ts_domain.specs.declared.dims.Dim.{Dim}
use Rattle.ts_domain.specs.declared.orders.Order.TheVariants.{Row, Col}
use Rattle.ts_wire.specs.declared.kinds.Kind.TheVariants as kind
use Rattle.ts_wire.specs.Numbers.{number_bytes, int_bytes}
use Rattle.ts_wire.specs.Fields.{bool_bytes, key_bytes}
use Rattle.ts_wire.specs.Envelope.{envelope_bytes, wrapped}
use Rattle.ts_schema.specs.declared.attrs.Attr.{Attr}
use Rattle.ts_schema.specs.declared.frames.Frame.{Frame}
use Rattle.ts_plain.specs.declared.stored.StoredCell.{StoredCell}
use Rattle.ts_plain.specs.declared.stored.StoredPiece.{StoredPiece}
use Rattle.ts_plain.specs.Plain.{head_bytes, hull_bytes, side_bytes, origins_bytes}
use Rattle.ts_dense.specs.Slots.{slots_of, coords_over}
use Rattle.ts_dense.specs.Dense.{objects_of, meta_bytes}

abbrev pub rows : Dim
rows = record { name = 114 ∷ []; ty = U8; low = pos 1; high = pos 3; extent = pos 2 }

abbrev pub columns : Dim
columns = record { name = 99 ∷ []; ty = U8; low = pos 1; high = pos 2; extent = pos 2 }

-- rows 1 to 3 and columns 1 to 2, in space tiles of two by two, and in each tile column by column
unfoldable pub frame : Frame
frame = record {
  dense = true;
  domain = rows ∷ (columns ∷ []);
  cell = Col;
  tile = Row;
  capacity = 10000;
}

unfoldable pub attrs : List Attr
attrs = record { name = 97 ∷ []; ty = I32; nullable = false; fill = Int (pos 0) } ∷ []

unfoldable pub cell : ℕ → ℕ → ℕ → ℕ → StoredCell
cell r c origin v = record { coords = pos r ∷ (pos c ∷ []); origin = origin; row = Int (pos v) ∷ [] }

-- the whole domain, in global order
pub whole : StoredPiece
unfolding cell
whole = record {
  head = record {
    schema = record { t = 0; id = 1 };
    dense = true;
    consolidated = false;
    hull = record { low = pos 1; high = pos 3 } ∷ (record { low = pos 1; high = pos 2 } ∷ []);
    cells = 6;
    origins = record { t = 1; id = 2 } ∷ [];
  };
  cells = cell 1 1 0 11 ∷ (cell 2 1 0 21 ∷ (cell 1 2 0 12 ∷ (cell 2 2 0 22 ∷ (cell 3 1 0 31 ∷ (cell 3 2 0 32 ∷ [])))));
}

-- the first cell and the last one, of two writes
unfoldable pub corners : StoredPiece
unfolding cell
corners = record {
  head = record {
    schema = record { t = 0; id = 1 };
    dense = true;
    consolidated = true;
    hull = record { low = pos 1; high = pos 3 } ∷ (record { low = pos 1; high = pos 2 } ∷ []);
    cells = 6;
    origins = record { t = 1; id = 2 } ∷ (record { t = 3; id = 4 } ∷ []);
  };
  cells = cell 1 1 0 11 ∷ (cell 3 2 1 32 ∷ []);
}

-- the values tile by tile, in the first one column by column, and no other object
pub objects_of_whole : objects_of frame attrs whole ≡ record { part = part.Attr 0; body = flat_map (int_bytes 4) (map pos (11 ∷ (21 ∷ (12 ∷ (22 ∷ (31 ∷ (32 ∷ []))))))); starts = [] } ∷ []
unfolding frame attrs cell whole objects_of slots_of coords_over
objects_of_whole = refl

pub meta_of_whole : length (wrapped kind.Meta (meta_bytes frame attrs whole)) ≡ 152
unfolding frame attrs cell whole meta_bytes head_bytes key_bytes number_bytes bool_bytes hull_bytes side_bytes origins_bytes int_bytes objects_of slots_of coords_over wrapped envelope_bytes
meta_of_whole = refl

-- a hole has zeros for its values, and the greatest number of four bytes for its origin
pub objects_of_corners : objects_of frame attrs corners
    ≡ record { part = part.Attr 0; body = flat_map (int_bytes 4) (map pos (11 ∷ (0 ∷ (0 ∷ (0 ∷ (0 ∷ (32 ∷ []))))))); starts = [] }
    ∷ (record { part = part.Origin; body = flat_map (number_bytes 4) (0 ∷ (4294967295 ∷ (4294967295 ∷ (4294967295 ∷ (4294967295 ∷ (1 ∷ [])))))); starts = [] } ∷ [])
unfolding frame attrs cell corners objects_of slots_of coords_over
objects_of_corners = refl
