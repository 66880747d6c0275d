-- Where each object is short enough, so is each number that the metadata says of it.
use Rattle.std.proofs.Common.{ℕ, suc, ◌+◌, ◌<◌, ◌≤◌, ◌^◌, Bool, true, false, List, [], ◌∷◌, length, map, arith}
use Rattle.std.specs.List.{All}
use Rattle.std.proofs.lemmas.List.Elements.{All-nil, All-cons, All-append}
use Rattle.ts_base.specs.declared.names.PartBytes.{PartBytes}
use Rattle.ts_base.specs.declared.values.Val.{Val}
use Rattle.ts_base.specs.Values.{is_integer}
use Rattle.ts_schema.specs.declared.attrs.Attr.{Attr}
use Rattle.ts_schema.specs.declared.frames.Frame.{Frame}
use Rattle.ts_plain.specs.declared.stored.StoredCell.{StoredCell}
use Rattle.ts_plain.specs.declared.stored.StoredPiece.{StoredPiece}
use Rattle.ts_plain.specs.Writes.{box_of}
use Rattle.ts_table.specs.Texts.{joined}
use Rattle.ts_column.specs.Spelled.{text_of}
use Rattle.ts_sparse.specs.Sparse.{value_column, validity_objects, origin_objects, sizes_of, column_part}
use Rattle.ts_sparse.proofs.Shapes.{all_parts}
use Rattle.ts_sparse.proofs.RoomLaws.{Inside, starts_inside, validity_inside, origins_inside, sizes_small}
use Rattle.ts_dense.specs.Slots.{tiles_by, counts_over, slots_of}
use Rattle.ts_dense.specs.Dense.{starts_object, bytes_object, fixed_objects, attr_objects, objects_of, meta_part, parts_of}
use Rattle.ts_dense.proofs.TileTexts.{tiles_within}

fixed_inside : (b : Bool) (counts : List ℕ) (k : ℕ) (a : Attr) (vals : List Val) → All Inside (fixed_objects b counts k a.ty vals)
fixed_inside true counts k a vals = All-cons Inside _ [] (All-nil (λ i. i ≤ _)) (All-nil Inside)
fixed_inside false counts k a vals =
    let xs = map text_of vals in
    let within = tiles_within counts xs in
    All-cons Inside (starts_object counts k vals) (bytes_object counts k vals ∷ []) (All-nil (λ i. i ≤ _))
    (All-cons Inside (bytes_object counts k vals) [] (starts_inside (14 + length (joined xs)) 14 (tiles_by counts xs) (omega (arith, within))) (All-nil Inside))

attrs_inside : (counts : List ℕ) (k : ℕ) (attrs : List Attr) (slots : List StoredCell) → All Inside (attr_objects counts k attrs slots)
attrs_inside counts k [] slots = All-nil Inside
attrs_inside counts k (a ∷ attrs) slots =
    All-append Inside (fixed_objects (is_integer a.ty) counts k a.ty (value_column k slots)) _ (fixed_inside (is_integer a.ty) counts k a (value_column k slots))
    (All-append Inside (validity_objects a.nullable k (value_column k slots)) (attr_objects counts (suc k) attrs slots) (validity_inside a.nullable k (value_column k slots)) (attrs_inside counts (suc k) attrs slots))

-- short parts have short sizes
pub room_of_short : (frame : Frame) (attrs : List Attr) (s : StoredPiece) → All (λ (p : PartBytes). length p.bytes < 2 ^ 64) (parts_of frame attrs s) → All (λ size. size < 2 ^ 64) (sizes_of (objects_of frame attrs s))
unfolding parts_of objects_of
room_of_short frame attrs s short =
    let counts = counts_over frame (box_of s.head.hull) in
    let slots = slots_of frame s in
    let objects = all_parts (λ (p : PartBytes). length p.bytes < 2 ^ 64) (map column_part (objects_of frame attrs s)) (meta_part frame attrs s ∷ []) short in
    sizes_small (objects_of frame attrs s)
    (All-append Inside (attr_objects counts 0 attrs slots) (origin_objects s.head.consolidated slots) (attrs_inside counts 0 attrs slots) (origins_inside s.head.consolidated slots))
    objects.0
