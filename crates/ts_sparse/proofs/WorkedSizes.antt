-- Sizes and bytes of worked fragments: one cell, four cells in tiles of three, and three texts in tiles of two.
use Rattle.std.proofs.Common.{◌≡◌, ℕ, ℤ, pos, true, false, List, [], ◌∷◌, length, refl}
use Rattle.std.specs.List.{flat_map}
use Rattle.ts_base.specs.declared.names.Part.TheVariants as part
use Rattle.ts_base.specs.declared.values.Val.{Val}
use Rattle.ts_base.specs.declared.values.Val.TheVariants.{Null, Int, Bytes}
use Rattle.ts_base.specs.declared.values.ValType.TheVariants.{I64}
use Rattle.ts_domain.specs.declared.orders.Order.TheVariants.{Row}
use Rattle.ts_wire.specs.declared.kinds.Kind.TheVariants as kind
use Rattle.ts_wire.specs.Numbers.{number_bytes, int_bytes}
use Rattle.ts_wire.specs.Fields.{bool_bytes, key_bytes}
use Rattle.ts_wire.specs.Envelope.{envelope_bytes, wrapped}
use Rattle.ts_schema.specs.declared.attrs.Attr.{Attr}
use Rattle.ts_schema.specs.declared.frames.Frame.{Frame}
use Rattle.ts_plain.specs.declared.stored.StoredCell.{StoredCell}
use Rattle.ts_plain.specs.declared.stored.StoredPiece.{StoredPiece}
use Rattle.ts_plain.specs.Plain.{head_bytes, hull_bytes, side_bytes, origins_bytes}
use Rattle.ts_domain.specs.Rects.{rect_bytes}
use Rattle.ts_rtree.specs.Trees.{upper_of}
use Rattle.ts_sparse.specs.Sparse.{Object, starts_object, bytes_object, validity_objects, objects_of, meta_bytes}

pub frame_of : ℕ → Frame
frame_of capacity = record { dense = false; domain = record { name = 120 ∷ []; ty = I64; low = pos 0; high = pos 9; extent = pos 10 } ∷ []; cell = Row; tile = Row; capacity = capacity }

pub attrs : List Attr
attrs = record { name = 118 ∷ []; ty = I64; nullable = false; fill = Int (pos 0) } ∷ []

pub cell : ℕ → ℕ → StoredCell
cell x v = record { coords = pos x ∷ []; origin = 0; row = Int (pos v) ∷ [] }

pub piece : ℤ → ℤ → ℕ → List StoredCell → StoredPiece
piece low high count cells = record {
  head = record { schema = record { t = 0; id = 1 }; dense = false; consolidated = false; hull = record { low = low; high = high } ∷ []; cells = count; origins = record { t = 1; id = 2 } ∷ [] };
  cells = cells;
}

-- one cell: x 5, v 10
pub one : StoredPiece
unfolding piece cell
one = piece (pos 5) (pos 5) 1 (cell 5 10 ∷ [])

pub four : StoredPiece
unfolding piece cell
four = piece (pos 0) (pos 3) 4 (cell 0 10 ∷ (cell 1 11 ∷ (cell 2 12 ∷ (cell 3 13 ∷ []))))

pub body_of_one : length (meta_bytes (frame_of 10000) attrs one) ≡ 146
unfolding frame_of attrs cell piece one meta_bytes head_bytes key_bytes number_bytes bool_bytes hull_bytes side_bytes origins_bytes int_bytes rect_bytes objects_of upper_of
body_of_one = refl

pub meta_of_one : length (wrapped kind.Meta (meta_bytes (frame_of 10000) attrs one)) ≡ 160
unfolding frame_of attrs cell piece one meta_bytes head_bytes key_bytes number_bytes bool_bytes hull_bytes side_bytes origins_bytes int_bytes rect_bytes objects_of upper_of wrapped envelope_bytes
meta_of_one = refl

pub meta_of_four : length (wrapped kind.Meta (meta_bytes (frame_of 3) attrs four)) ≡ 224
unfolding frame_of attrs cell piece four meta_bytes head_bytes key_bytes number_bytes bool_bytes hull_bytes side_bytes origins_bytes int_bytes rect_bytes objects_of upper_of wrapped envelope_bytes
meta_of_four = refl

-- the first object is d0.tdb, the second a0.tdb
pub first : List Object → List ℕ
first [] = []
first (o ∷ os) = wrapped kind.Column o.body

pub second : List Object → List ℕ
second [] = []
second (o ∷ []) = []
second (o ∷ p ∷ os) = wrapped kind.Column p.body

pub coords_of_one : length (first (objects_of (frame_of 10000) attrs one)) ≡ 22
unfolding first frame_of attrs cell piece one number_bytes int_bytes objects_of wrapped envelope_bytes
coords_of_one = refl

pub values_of_one : second (objects_of (frame_of 10000) attrs one)
    ≡ 0x54 ∷ (0x44 ∷ (0x42 ∷ (0x55 ∷ (6 ∷ (1 ∷ (8 ∷ (0 ∷ (0 ∷ (0 ∷ (0 ∷ (0 ∷ (0 ∷ (0 ∷ (10 ∷ (0 ∷ (0 ∷ (0 ∷ (0 ∷ (0 ∷ (0 ∷ (0 ∷ [])))))))))))))))))))))
unfolding second frame_of attrs cell piece one number_bytes int_bytes objects_of wrapped envelope_bytes
values_of_one = refl

-- three texts, the second one a null, in tiles of two: where each starts in its tile, all bytes and where the tiles start, and which are there
pub values : List Val
values = Bytes (97 ∷ (98 ∷ [])) ∷ (Null ∷ (Bytes (99 ∷ []) ∷ []))

pub starts_of_texts : starts_object 2 0 values ≡ record { part = part.Attr 0; body = flat_map (number_bytes 8) (0 ∷ (2 ∷ (0 ∷ []))); starts = [] }
unfolding values
starts_of_texts = refl

pub bytes_of_texts : bytes_object 2 0 values ≡ record { part = part.Var 0; body = 97 ∷ (98 ∷ (99 ∷ [])); starts = 14 ∷ (16 ∷ []) }
unfolding values
bytes_of_texts = refl

pub marks_of_texts : validity_objects true 0 values ≡ record { part = part.Validity 0; body = 1 ∷ (0 ∷ (1 ∷ [])); starts = [] } ∷ []
unfolding values number_bytes bool_bytes
marks_of_texts = refl
