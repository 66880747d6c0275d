-- Where each object is short enough, so is each number that the metadata says of it.
use Rattle.std.proofs.Common.{◌≡◌, ℕ, suc, ◌+◌, ◌<◌, ◌≤◌, ◌^◌, Bool, true, false, List, [], ◌∷◌, ◌++◌, length, map, refl, sym, ap, ◌∙◌, arith, length-append, append_assoc}
use Rattle.std.specs.List.{flat_map, All}
use Rattle.std.proofs.lemmas.List.Elements.{All-head, All-tail, All-nil, All-cons, All-append, All-weaker}
use Rattle.ts_base.specs.declared.values.Val.{Val}
use Rattle.ts_base.specs.Values.{is_integer}
use Rattle.ts_domain.specs.declared.dims.Dim.{Dim}
use Rattle.ts_wire.specs.declared.kinds.Kind.TheVariants as kind
use Rattle.ts_wire.proofs.Objects.{length-wrapped}
use Rattle.ts_base.specs.declared.names.PartBytes.{PartBytes}
use Rattle.ts_schema.specs.declared.attrs.Attr.{Attr}
use Rattle.ts_schema.specs.declared.frames.Frame.{Frame}
use Rattle.ts_plain.specs.declared.stored.StoredCell.{StoredCell}
use Rattle.ts_plain.specs.declared.stored.StoredPiece.{StoredPiece}
use Rattle.ts_table.specs.Texts.{joined}
use Rattle.ts_sparse.specs.Tilings.{tiles_of, tile_starts}
use Rattle.ts_column.specs.Spelled.{text_of}
use Rattle.ts_sparse.specs.Sparse.{value_column, Object, dim_objects, starts_object, bytes_object, fixed_objects, validity_objects, attr_objects, origin_objects, objects_of, sizes_of, column_part, meta_part, parts_of}
use Rattle.ts_sparse.proofs.Shapes.{all_parts, all_tiles}

-- no start lies behind the end of its object
abbrev pub Inside : Object → Type 0
Inside o = All (λ i. i ≤ 14 + length o.body) o.starts

pub starts_inside : (end at : ℕ) (tiles : List (List (List ℕ))) → at + length (joined (flat_map (λ t. t) tiles)) ≤ end → All (λ i. i ≤ end) (tile_starts at tiles)
starts_inside end at [] room = All-nil (λ i. i ≤ end)
starts_inside end at (t ∷ tiles) room =
    let long = ap length (more t (flat_map (λ t. t) tiles)) ∙ length-append (joined t) (joined (flat_map (λ t. t) tiles)) in
    All-cons (λ i. i ≤ end) at (tile_starts (at + length (joined t)) tiles) (omega arith) (starts_inside end (at + length (joined t)) tiles (omega arith))
  where
    more : (xs ys : List (List ℕ)) → joined (xs ++ ys) ≡ joined xs ++ joined ys
    more [] ys = refl
    more (x ∷ xs) ys = ap (λ m. x ++ m) (more xs ys) ∙ sym (append_assoc x (joined xs) (joined ys))

dims_inside : (k : ℕ) (ds : List Dim) (cells : List StoredCell) → All Inside (dim_objects k ds cells)
dims_inside k [] cells = All-nil Inside
dims_inside k (d ∷ ds) cells = All-cons Inside _ (dim_objects (suc k) ds cells) (All-nil (λ i. i ≤ _)) (dims_inside (suc k) ds cells)

fixed_inside : (b : Bool) (n k : ℕ) (a : Attr) (vals : List Val) → All Inside (fixed_objects b n k a.ty vals)
fixed_inside true n k a vals = All-cons Inside _ [] (All-nil (λ i. i ≤ _)) (All-nil Inside)
fixed_inside false n k a vals =
    let xs = map text_of vals in
    let room : 14 + length (joined (flat_map (λ t. t) (tiles_of n xs))) ≤ 14 + length (joined xs) = let same = ap (λ ts. length (joined ts)) (all_tiles n xs) in omega (arith, same) in
    All-cons Inside (starts_object n k vals) (bytes_object n k vals ∷ []) (All-nil (λ i. i ≤ _)) (All-cons Inside (bytes_object n k vals) [] (starts_inside (14 + length (joined xs)) 14 (tiles_of n xs) room) (All-nil Inside))

pub validity_inside : (b : Bool) (k : ℕ) (vals : List Val) → All Inside (validity_objects b k vals)
validity_inside true k vals = All-cons Inside _ [] (All-nil (λ i. i ≤ _)) (All-nil Inside)
validity_inside false k vals = All-nil Inside

attrs_inside : (n k : ℕ) (attrs : List Attr) (cells : List StoredCell) → All Inside (attr_objects n k attrs cells)
attrs_inside n k [] cells = All-nil Inside
attrs_inside n k (a ∷ attrs) cells =
    All-append Inside (fixed_objects (is_integer a.ty) n k a.ty (value_column k cells)) _ (fixed_inside (is_integer a.ty) n k a (value_column k cells))
    (All-append Inside (validity_objects a.nullable k (value_column k cells)) (attr_objects n (suc k) attrs cells) (validity_inside a.nullable k (value_column k cells)) (attrs_inside n (suc k) attrs cells))

pub origins_inside : (b : Bool) (cells : List StoredCell) → All Inside (origin_objects b cells)
origins_inside true cells = All-cons Inside _ [] (All-nil (λ i. i ≤ _)) (All-nil Inside)
origins_inside false cells = All-nil Inside

pub sizes_small : (os : List Object) → All Inside os → All (λ (p : PartBytes). length p.bytes < 2 ^ 64) (map column_part os) → All (λ size. size < 2 ^ 64) (sizes_of os)
sizes_small [] inside short = All-nil (λ size. size < 2 ^ 64)
sizes_small (o ∷ os) inside short =
    let few = All-head (λ (p : PartBytes). length p.bytes < 2 ^ 64) (column_part o) (map column_part os) short in
    let long = length-wrapped kind.Column o.body in
    let here : 14 + length o.body < 2 ^ 64 = omega (arith, few, long) in
    All-cons (λ size. size < 2 ^ 64) (14 + length o.body) (o.starts ++ sizes_of os) here
    (All-append (λ size. size < 2 ^ 64) o.starts (sizes_of os) (All-weaker (λ i. i ≤ 14 + length o.body) (λ i. i < 2 ^ 64) (λ i h. omega arith) o.starts (All-head Inside o os inside))
    (sizes_small os (All-tail Inside o os inside) (All-tail (λ (p : PartBytes). length p.bytes < 2 ^ 64) (column_part o) (map column_part os) short)))

-- short parts have short sizes
pub room_of_short : (frame : Frame) (attrs : List Attr) (s : StoredPiece) → All (λ (p : PartBytes). length p.bytes < 2 ^ 64) (parts_of frame attrs s) → All (λ size. size < 2 ^ 64) (sizes_of (objects_of frame attrs s))
unfolding parts_of objects_of
room_of_short frame attrs s short =
    let objects = all_parts (λ (p : PartBytes). length p.bytes < 2 ^ 64) (map column_part (objects_of frame attrs s)) (meta_part frame attrs s ∷ []) short in
    sizes_small (objects_of frame attrs s)
    (All-append Inside (dim_objects 0 frame.domain s.cells) _ (dims_inside 0 frame.domain s.cells)
    (All-append Inside (attr_objects frame.capacity 0 attrs s.cells) (origin_objects s.head.consolidated s.cells) (attrs_inside frame.capacity 0 attrs s.cells) (origins_inside s.head.consolidated s.cells)))
    objects.0
