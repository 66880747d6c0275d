-- The object of the metadata is read back as what it tells.
use Rattle.std.proofs.Common.{◌≡◌, ℕ, zero, suc, ◌+◌, ◌*◌, ◌/◌, ◌%◌, ◌^◌, ◌<◌, ◌≤◌, ℤ, Bool, true, false, nat_le, List, [], ◌∷◌, ◌++◌, length, map, Option, Some, Ok, refl, sym, ap, ◌∙◌, subst, arith, append_assoc, length-append}
use Rattle.std.specs.Prelude.{min, max, if◌then◌else◌}
use Rattle.std.specs.List.{flat_map, All}
use Rattle.std.specs.Option.{IsSomeAnd}
use Rattle.std.proofs.Math.Nat.{div-add-mod, mod-lt, lt_of_mul-lt-mul_right}
use Rattle.std.proofs.lemmas.Bool.{le-leb, and_from}
use Rattle.std.proofs.lemmas.List.{length-map}
use Rattle.std.proofs.lemmas.List.Elements.{All-head, All-tail, All-nil, All-cons, All-map, All-weaker}
use Rattle.std.proofs.lemmas.Simd.{map-map}
use Rattle.ts_base.specs.declared.keys.FragKey.{FragKey}
use Rattle.ts_base.specs.declared.heads.Piece.{Piece}
use Rattle.ts_base.specs.declared.names.Part.{Part}
use Rattle.ts_base.specs.declared.names.Part.TheVariants as part
use Rattle.ts_base.specs.declared.names.PartBytes.{PartBytes}
use Rattle.ts_base.specs.declared.values.Val.{Val}
use Rattle.ts_base.specs.declared.values.ValType.{ValType}
use Rattle.ts_base.specs.Values.{is_integer, width_of}
use Rattle.ts_domain.specs.declared.dims.Dim.{Dim}
use Rattle.ts_domain.specs.Rects.{rect_bytes}
use Rattle.ts_rtree.specs.Trees.{nodes_of}
use Rattle.ts_wire.specs.declared.kinds.Kind.TheVariants as kind
use Rattle.ts_wire.specs.Envelope.{wrapped}
use Rattle.ts_wire.specs.Exact.{InTurn, EachFits}
use Rattle.ts_wire.specs.Fields.{bool_bytes}
use Rattle.ts_wire.specs.Numbers.{number_bytes, int_bytes, FitsInt}
use Rattle.ts_wire.proofs.Laws.{EachFits-length}
use Rattle.ts_wire.proofs.Numbers.{length-number_bytes}
use Rattle.ts_wire.proofs.Objects.{length-wrapped}
use Rattle.ts_schema.specs.declared.attrs.Attr.{Attr}
use Rattle.ts_schema.specs.declared.frames.Frame.{Frame}
use Rattle.ts_plain.specs.declared.stored.Side.{Side}
use Rattle.ts_plain.specs.declared.stored.StoredCell.{StoredCell}
use Rattle.ts_plain.specs.declared.stored.StoredPiece.{StoredPiece}
use Rattle.ts_plain.specs.Pieces.{head_of, piece_of}
use Rattle.ts_plain.specs.Plain.{head_bytes, FitsCoord, FitsCell}
use Rattle.ts_plain.specs.Rules.{last_of}
use Rattle.ts_plain.specs.Writes.{box_of, stored_for}
use Rattle.ts_plain.proofs.WrittenPieces.{last_pushed}
use Rattle.ts_table.specs.Texts.{joined, starts_from}
use Rattle.ts_column.specs.Spelled.{number_of, text_of}
use Rattle.ts_column.specs.Tiles.{is_there}
use Rattle.ts_column.proofs.Ranges.{length-cells}
use Rattle.ts_footer.specs.declared.columns.ColumnForm.{ColumnForm}
use Rattle.ts_footer.specs.declared.columns.ColumnForm.TheVariants.{Fixed, Var}
use Rattle.ts_footer.specs.declared.columns.ColumnSize.{ColumnSize}
use Rattle.ts_footer.specs.Columns.{rounded_up, tiles_for, dim_form, value_forms, validity_forms, attr_forms, origin_forms, column_forms, may_start, sizes_of as told_sizes, FitsStart, FitsForm, FitsSize}
use Rattle.ts_footer.specs.Footers.{footer_stored, layout_bytes, footer_bytes, FitsRect, FitsFooter}
use Rattle.ts_footer.specs.Metas.{meta_of, meta_in, starts_of, IsMetaObject}
use Rattle.ts_footer.proofs.MetaObjects.{stored_again, meta_again}
use Rattle.ts_footer.proofs.Rects.{hulls_fit}
use Rattle.ts_sparse.specs.Tilings.{tiles_of, tile_starts, starts_in}
use Rattle.ts_sparse.specs.Sparse.{coord_column, value_column, origin_column, Object, dim_objects, fixed_objects, validity_objects, attr_objects, origin_objects, objects_of, sizes_of, cell_box, leaf_of, leaves_of, meta_bytes, column_part, meta_part, parts_of, FitsSparse, IsThere, IsStored}
use Rattle.ts_sparse.specs.Told.{size_of, footer_of, meta_for}
use Rattle.ts_sparse.proofs.Shapes.{shaped, shaped_many, all_tiles, all_parts, length-starts_from, length-tile_starts}
use Rattle.ts_sparse.proofs.CountLaws.{tiles_counted, last_is_hull}
use Rattle.ts_sparse.proofs.CutLaws.{box_like}
use Rattle.ts_sparse.proofs.FormLaws.{form_of}
use Rattle.ts_sparse.proofs.HullLaws.{leaves_are_hulls}
use Rattle.ts_sparse.proofs.OnePiece.{in_turn_all}
use Rattle.ts_sparse.proofs.RoomLaws.{starts_inside}

-- ---- the number of tiles

-- so many tiles of n items hold n q + r items, and one tile less doesn't
rounded : (n t a q r : ℕ) → n * q + r ≡ a → r < n → a ≤ t * n → t * n < a + n → t ≡ q + min 1 r
rounded n t a q zero whole left low high =
    let least : q < suc t = lt_of_mul-lt-mul_right n (omega arith) in
    let most : t < suc q = lt_of_mul-lt-mul_right n (omega arith) in
    omega (arith, least, most)
rounded n t a q (suc r) whole left low high =
    let least : q < t = lt_of_mul-lt-mul_right n (omega arith) in
    let most : t < suc (suc q) = lt_of_mul-lt-mul_right n (omega arith) in
    omega (arith, least, most)

-- there are as many tiles as the reader asks for
tiles_told : {X : Type 0} (n : ℕ) (xs : List X) → 1 ≤ n → length (tiles_of n xs) ≡ tiles_for n (length xs)
tiles_told n xs some =
    let bounds = tiles_counted n xs some in
    let same : n ≡ max n 1 = omega (arith, some) in
    rounded n (length (tiles_of n xs)) (length xs) (length xs / n) (length xs % n) (div-add-mod (length xs) n) (mod-lt (length xs) some) bounds.0 bounds.1
    ∙ ap (rounded_up (length xs)) same

-- ---- how long objects are

int_wide : (w : ℕ) (z : ℤ) → length (int_bytes w z) ≡ w
unfolding int_bytes
int_wide w z = length-number_bytes w _

bool_wide : (b : Bool) → length (bool_bytes b) ≡ 1
unfolding bool_bytes
bool_wide b = length-number_bytes 1 (if b then 1 else 0)

-- an object with so many bytes for each cell
fixed_long : {X : Type 0} (spell : X → List ℕ) (w count : ℕ) (xs : List X) → ((x : X) → length (spell x) ≡ w) → length xs ≡ count → 14 + length (flat_map spell xs) ≡ 14 + w * count
fixed_long spell w count xs wide many =
    let long : length (flat_map spell xs) ≡ count * w = length-cells spell w wide xs ∙ ap (λ n. n * w) many in
    omega (arith, long)

-- each byte list has a start
length-starts_in : (tiles : List (List (List ℕ))) → length (starts_in tiles) ≡ length (flat_map (λ t. t) tiles)
length-starts_in [] = refl
length-starts_in (t ∷ tiles) =
    omega (arith, length-append (starts_from 0 t) (starts_in tiles), length-starts_from 0 t, length-starts_in tiles, length-append t (flat_map (λ t. t) tiles))

-- ---- where tiles start

starts_turn : (end at : ℕ) (front : List ℕ) (tiles : List (List (List ℕ))) → may_start (last_of front) at ≡ true → All (λ i. i ≤ end) (tile_starts at tiles) → InTurn (FitsStart end) front (tile_starts at tiles)
starts_turn end at front [] begins inside = tt
starts_turn end at front (t ∷ tiles) begins inside =
    let next = at + length (joined t) in
    let within = le-leb at end (All-head (λ i. i ≤ end) at (tile_starts next tiles) inside) in
    let rises = le-leb at next (omega arith) in
    let others = starts_turn end next (front ++ at ∷ []) tiles (ap (λ before. may_start before next) (last_pushed front at) ∙ rises) (All-tail (λ i. i ≤ end) at (tile_starts next tiles) inside) in
    (and_from (may_start (last_of front) at) (nat_le at end) begins within, others)

-- ---- each object is as its form asks

module _ (count tiles : ℕ) where
  -- so many cells in so many tiles
  abbrev AreKept : List ColumnForm → List Object → Type 0
  AreKept forms objects = EachFits (FitsForm count tiles) forms (map size_of objects)

  kept_append : (fs gs : List ColumnForm) (os ps : List Object) → AreKept fs os → AreKept gs ps → AreKept (fs ++ gs) (os ++ ps)
  kept_append [] gs [] ps first second = second
  kept_append [] gs (o ∷ os) ps first second = absurd first
  kept_append (f ∷ fs) gs [] ps first second = absurd first
  kept_append (f ∷ fs) gs (o ∷ os) ps first second = (first.0, kept_append fs gs os ps first.1 second)

  dims_kept : (k : ℕ) (dims : List Dim) (cells : List StoredCell) → length cells ≡ count → AreKept (map dim_form dims) (dim_objects k dims cells)
  dims_kept k [] cells many = tt
  dims_kept k (d ∷ dims) cells many = (
    (fixed_long (int_bytes (width_of d.ty)) (width_of d.ty) count (coord_column k cells) (int_wide (width_of d.ty)) (length-map cells _ ∙ many), refl),
    dims_kept (suc k) dims cells many,
  )

  fixed_kept : (b : Bool) (n k : ℕ) (ty : ValType) (vals : List Val) → length vals ≡ count → length (tiles_of n vals) ≡ tiles
      → AreKept (if b then Fixed (width_of ty) ∷ [] else Fixed 8 ∷ (Var ∷ [])) (fixed_objects b n k ty vals)
  fixed_kept true n k ty vals many tiled =
      ((fixed_long (int_bytes (width_of ty)) (width_of ty) count (map number_of vals) (int_wide (width_of ty)) (length-map vals number_of ∙ many), refl), tt)
  fixed_kept false n k ty vals many tiled =
      let texts = map text_of vals in
      let end = 14 + length (joined texts) in
      let as_many = length-starts_in (tiles_of n texts) ∙ ap length (all_tiles n texts) ∙ length-map vals text_of ∙ many in
      let same = ap (λ ts. length (joined ts)) (all_tiles n texts) in
      let inside = starts_inside end 14 (tiles_of n texts) (omega (arith, same)) in (
        (fixed_long (number_bytes 8) 8 count (starts_in (tiles_of n texts)) (length-number_bytes 8) as_many, refl),
        (
          record {
            many = length-tile_starts 14 (tiles_of n texts) ∙ shaped_many (tiles_of n texts) (tiles_of n vals) (shaped n texts vals (length-map vals text_of)) ∙ tiled;
            each = starts_turn end 14 [] (tiles_of n texts) refl inside;
          },
          tt,
        ),
      )

  validity_kept : (b : Bool) (k : ℕ) (vals : List Val) → length vals ≡ count → AreKept (validity_forms b) (validity_objects b k vals)
  validity_kept true k vals many = ((fixed_long bool_bytes 1 count (map is_there vals) bool_wide (length-map vals is_there ∙ many), refl), tt)
  validity_kept false k vals many = tt

  attrs_kept : (n k : ℕ) (attrs : List Attr) (cells : List StoredCell) → length cells ≡ count → length (tiles_of n cells) ≡ tiles → AreKept (flat_map attr_forms attrs) (attr_objects n k attrs cells)
  attrs_kept n k [] cells many tiled = tt
  attrs_kept n k (a ∷ attrs) cells many tiled =
      let vals = value_column k cells in
      let long : length vals ≡ length cells = length-map cells _ in
      let others = attrs_kept n (suc k) attrs cells many tiled in
      let fixed = fixed_kept (is_integer a.ty) n k a.ty vals (long ∙ many) (shaped_many (tiles_of n vals) (tiles_of n cells) (shaped n vals cells long) ∙ tiled) in
      let behind = kept_append (validity_forms a.nullable) (flat_map attr_forms attrs) (validity_objects a.nullable k vals) (attr_objects n (suc k) attrs cells) (validity_kept a.nullable k vals (long ∙ many)) others in
      subst (λ forms. AreKept forms (attr_objects n k (a ∷ attrs) cells)) (sym (append_assoc (value_forms a.ty) (validity_forms a.nullable) (flat_map attr_forms attrs)))
      (kept_append (value_forms a.ty) (validity_forms a.nullable ++ flat_map attr_forms attrs) (fixed_objects (is_integer a.ty) n k a.ty vals) _ fixed behind)

  origins_kept : (b : Bool) (cells : List StoredCell) → length cells ≡ count → AreKept (origin_forms b) (origin_objects b cells)
  origins_kept true cells many = ((fixed_long (number_bytes 4) 4 count (origin_column cells) (length-number_bytes 4) (length-map cells _ ∙ many), refl), tt)
  origins_kept false cells many = tt

  objects_kept : (frame : Frame) (attrs : List Attr) (s : StoredPiece) → length s.cells ≡ count → length (tiles_of frame.capacity s.cells) ≡ tiles → AreKept (column_forms frame.domain attrs s.head.consolidated) (objects_of frame attrs s)
  unfolding column_forms objects_of
  objects_kept frame attrs s many tiled =
      kept_append (map dim_form frame.domain) (flat_map attr_forms attrs ++ origin_forms s.head.consolidated) (dim_objects 0 frame.domain s.cells) _ (dims_kept 0 frame.domain s.cells many)
      (kept_append (flat_map attr_forms attrs) (origin_forms s.head.consolidated) (attr_objects frame.capacity 0 attrs s.cells) (origin_objects s.head.consolidated s.cells)
      (attrs_kept frame.capacity 0 attrs s.cells many tiled) (origins_kept s.head.consolidated s.cells many))

  -- short parts have lengths with room
  sizes_fit : (forms : List ColumnForm) (os : List Object) → AreKept forms os → All (λ (p : PartBytes). length p.bytes < 2 ^ 64) (map column_part os) → EachFits (FitsSize count tiles) forms (map size_of os)
  sizes_fit [] [] kept short = tt
  sizes_fit [] (o ∷ os) kept short = absurd kept
  sizes_fit (f ∷ forms) [] kept short = absurd kept
  sizes_fit (f ∷ forms) (o ∷ os) kept short =
      let here = All-head (λ (p : PartBytes). length p.bytes < 2 ^ 64) (column_part o) (map column_part os) short in
      let room : 14 + length o.body < 2 ^ 64 = omega (arith, here, length-wrapped kind.Column o.body) in
      (record { room = room; keeps = kept.0 }, sizes_fit forms os kept.1 (All-tail (λ (p : PartBytes). length p.bytes < 2 ^ 64) (column_part o) (map column_part os) short))

-- ---- the boxes of tiles

coords_fit : (hull : List Side) (coords : List ℤ) → EachFits FitsCoord hull coords → All (FitsInt 16 true) coords
coords_fit [] [] fits = All-nil (FitsInt 16 true)
coords_fit [] (x ∷ coords) fits = absurd fits
coords_fit (side ∷ hull) [] fits = absurd fits
coords_fit (side ∷ hull) (x ∷ coords) fits = All-cons (FitsInt 16 true) x coords fits.0.0 (coords_fit hull coords fits.1)

cell_fits : (hull : List Side) (c : StoredCell) → EachFits FitsCoord hull c.coords → FitsRect (box_of hull) (cell_box c)
cell_fits hull c fits =
    let all = coords_fit hull c.coords fits in
    record { like = box_like (box_of hull) c (EachFits-length FitsCoord hull c.coords fits ∙ sym (length-map hull (λ (side : Side). side.low))); low = all; high = all }

leaves_fit : (frame : Frame) (attrs : List Attr) (frag : FragKey) (s : StoredPiece) → FitsSparse frame attrs frag s → All (FitsRect (box_of s.head.hull)) (leaves_of frame.capacity s.cells)
leaves_fit frame attrs frag s fits =
    let hull = box_of s.head.hull in
    let cells = in_turn_all (FitsCell frame attrs s.head) (λ c. FitsRect hull (cell_box c)) (λ front c f. cell_fits s.head.hull c f.coords) [] s.cells (fits.plain).cells in
    subst (All (FitsRect hull)) (sym (leaves_are_hulls frame.capacity s.cells)) (hulls_fit hull frame.capacity (map cell_box s.cells) (All-map (FitsRect hull) cell_box s.cells cells))

-- ---- the spelling is the same

sizes_same : (os : List Object) → told_sizes (map size_of os) ≡ sizes_of os
sizes_same [] = refl
sizes_same (o ∷ os) = ap (λ more. (14 + length o.body) ∷ (o.starts ++ more)) (sizes_same os)

bytes_same : (frame : Frame) (attrs : List Attr) (s : StoredPiece) → meta_bytes frame attrs s ≡ footer_bytes (footer_of frame attrs s)
unfolding meta_bytes layout_bytes
bytes_same frame attrs s =
    let tiles = number_bytes 4 (length (tiles_of frame.capacity s.cells)) in
    let tree = flat_map rect_bytes (nodes_of (leaves_of frame.capacity s.cells)) in
    ap (λ sizes. head_bytes s.head ++ (tiles ++ (flat_map (number_bytes 8) sizes ++ tree))) (sym (sizes_same (objects_of frame attrs s)))

-- ---- the whole

meta_same : (frame : Frame) (attrs : List Attr) (frag : FragKey) (s : StoredPiece) → meta_for frame attrs frag s ≡ meta_of frag (footer_of frame attrs s)
unfolding meta_for meta_of
meta_same frame attrs frag s =
    let lengths = sym (map-map (λ (size : ColumnSize). size.length) size_of (objects_of frame attrs s)) in
    λ i. record {
      head = head_of frag s.head;
      lengths = lengths i;
      var_starts = starts_of (map size_of (objects_of frame attrs s));
      tiles = length (tiles_of frame.capacity s.cells);
      tree = (footer_of frame attrs s).tree;
    }

named : (frame : Frame) (attrs : List Attr) (frag : FragKey) (s : StoredPiece) → (meta_for frame attrs frag s).head.frag ≡ frag
unfolding meta_for head_of
named frame attrs frag s = refl

module _ (frame : Frame) (attrs : List Attr) where
  -- what the metadata stores keeps each rule of the reader
  pub footer_fits : (frag : FragKey) (s : StoredPiece) → FitsSparse frame attrs frag s → All (λ (p : PartBytes). length p.bytes < 2 ^ 64) (parts_of frame attrs s) → FitsFooter frame attrs frag (footer_of frame attrs s)
  unfolding parts_of
  footer_fits frag s fits short =
      let count = (fits.plain).count in
      let objects = all_parts (λ (p : PartBytes). length p.bytes < 2 ^ 64) (map column_part (objects_of frame attrs s)) (meta_part frame attrs s ∷ []) short in
      let tiles = length (tiles_of frame.capacity s.cells) in
      record {
        head = (fits.plain).head;
        tiles = tiles_told frame.capacity s.cells fits.capacity ∙ ap (tiles_for frame.capacity) count;
        few = fits.few;
        sizes = sizes_fit s.head.cells tiles (column_forms frame.domain attrs s.head.consolidated) (objects_of frame attrs s) (objects_kept s.head.cells tiles frame attrs s count refl) objects.0;
        tree = record {
          fresh = refl;
          many = length-map (tiles_of frame.capacity s.cells) leaf_of;
          leaves = leaves_fit frame attrs frag s fits;
          top = last_is_hull frame attrs frag s fits;
        };
      }

  -- its spelling is as short as its part
  short_footer : (s : StoredPiece) → All (λ (p : PartBytes). length p.bytes < 2 ^ 64) (parts_of frame attrs s) → length (footer_bytes (footer_of frame attrs s)) < 2 ^ 64
  unfolding parts_of
  short_footer s short =
      let last = all_parts (λ (p : PartBytes). length p.bytes < 2 ^ 64) (map column_part (objects_of frame attrs s)) (meta_part frame attrs s ∷ []) short in
      let here = All-head (λ (p : PartBytes). length p.bytes < 2 ^ 64) (meta_part frame attrs s) [] last.1 in
      let body : length (meta_bytes frame attrs s) < 2 ^ 64 = omega (arith, here, length-wrapped kind.Meta (meta_bytes frame attrs s)) in
      subst (λ bytes. length bytes < 2 ^ 64) (bytes_same frame attrs s) body

  -- so its object is one that the reader knows
  is_object : (frag : FragKey) (s : StoredPiece) → FitsSparse frame attrs frag s → All (λ (p : PartBytes). length p.bytes < 2 ^ 64) (parts_of frame attrs s) → IsMetaObject frame attrs (meta_for frame attrs frag s) (meta_part frame attrs s).bytes
  is_object frag s fits short =
      let name = sym (named frame attrs frag s) in
      record {
        stored = footer_of frame attrs s;
        fits = subst (λ f. FitsFooter frame attrs f (footer_of frame attrs s)) name (footer_fits frag s fits short);
        few = short_footer s short;
        spelled = ap (wrapped kind.Meta) (bytes_same frame attrs s);
        same = meta_same frame attrs frag s ∙ ap (λ f. meta_of f (footer_of frame attrs s)) name;
      }

  -- and it is read as what it tells
  pub read_back : (frag : FragKey) (s : StoredPiece) → FitsSparse frame attrs frag s → All (λ (p : PartBytes). length p.bytes < 2 ^ 64) (parts_of frame attrs s)
      → meta_in frame attrs frag (meta_part frame attrs s).bytes ≡ Ok (meta_for frame attrs frag s)
  read_back frag s fits short =
      ap (λ f. meta_in frame attrs f (meta_part frame attrs s).bytes) (sym (named frame attrs frag s))
      ∙ meta_again frame attrs (meta_for frame attrs frag s) (meta_part frame attrs s).bytes (is_object frag s fits short)

  -- the object stores what is told
  pub footer_back : (frag : FragKey) (s : StoredPiece) → FitsSparse frame attrs frag s → All (λ (p : PartBytes). length p.bytes < 2 ^ 64) (parts_of frame attrs s)
      → footer_stored frame attrs frag (meta_part frame attrs s).bytes ≡ Ok (footer_of frame attrs s)
  footer_back frag s fits short =
      ap (λ body. footer_stored frame attrs frag (wrapped kind.Meta body)) (bytes_same frame attrs s)
      ∙ stored_again frame attrs frag (footer_of frame attrs s) (footer_fits frag s fits short) (short_footer s short)

  -- ---- of a piece whose parts are there

  short_parts : (look : Part → Option (List ℕ)) (s : StoredPiece) → All (IsThere look) (parts_of frame attrs s) → All (λ (p : PartBytes). length p.bytes < 2 ^ 64) (parts_of frame attrs s)
  short_parts look s there = All-weaker (IsThere look) (λ (p : PartBytes). length p.bytes < 2 ^ 64) (λ p is. is.few) (parts_of frame attrs s) there

  there_last : (look : Part → Option (List ℕ)) (s : StoredPiece) → All (IsThere look) (parts_of frame attrs s) → look part.Meta ≡ Some (meta_part frame attrs s).bytes
  unfolding parts_of
  there_last look s there =
      let last = all_parts (IsThere look) (map column_part (objects_of frame attrs s)) (meta_part frame attrs s ∷ []) there in
      (All-head (IsThere look) (meta_part frame attrs s) [] last.1).there

  pub piece_told : (piece : Piece) (look : Part → Option (List ℕ)) → IsStored frame attrs piece look
      → IsSomeAnd (look part.Meta) (λ object. meta_in frame attrs piece.head.frag object ≡ Ok (meta_for frame attrs piece.head.frag (stored_for piece)))
  piece_told piece look is =
      let frag = piece.head.frag in
      let P : List ℕ → Type 0 = λ object. meta_in frame attrs frag object ≡ Ok (meta_for frame attrs frag (stored_for piece)) in
      let read = read_back frag is.stored is.fits (short_parts look is.stored is.parts) in
      subst (λ object. IsSomeAnd object P) (sym (there_last look is.stored is.parts)) (read ∙ ap (λ s. Ok (meta_for frame attrs frag s)) (form_of frame attrs piece look is))

  -- the object that is there stores what is told of the piece
  pub footer_told : (piece : Piece) (look : Part → Option (List ℕ)) → IsStored frame attrs piece look
      → IsSomeAnd (look part.Meta) (λ object. footer_stored frame attrs piece.head.frag object ≡ Ok (footer_of frame attrs (stored_for piece)))
  footer_told piece look is =
      let frag = piece.head.frag in
      let P : List ℕ → Type 0 = λ object. footer_stored frame attrs frag object ≡ Ok (footer_of frame attrs (stored_for piece)) in
      let read = footer_back frag is.stored is.fits (short_parts look is.stored is.parts) in
      subst (λ object. IsSomeAnd object P) (sym (there_last look is.stored is.parts)) (read ∙ ap (λ s. Ok (footer_of frame attrs s)) (form_of frame attrs piece look is))

  pub head_told : (piece : Piece) (look : Part → Option (List ℕ)) → IsStored frame attrs piece look → (meta_for frame attrs piece.head.frag (stored_for piece)).head ≡ piece.head
  unfolding meta_for piece_of
  head_told piece look is = ap (λ s. head_of piece.head.frag s.head) (sym (form_of frame attrs piece look is)) ∙ sym (ap (λ p. p.head) is.same)
