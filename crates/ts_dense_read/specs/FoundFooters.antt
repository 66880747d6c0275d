-- The object of the metadata of a dense fragment is read back as what it tells, and has its head.
use Rattle.std.proofs.Common.{◌≡◌, ℕ, suc, ◌+◌, ◌*◌, ◌^◌, ◌<◌, ◌≤◌, ℤ, Bool, true, false, nat_le, List, [], ◌∷◌, ◌++◌, length, map, Some, Result, Ok, Err, refl, sym, ap, ◌∙◌, subst, arith, append_assoc, length-append}
use Rattle.std.specs.Prelude.{if◌then◌else◌}
use Rattle.std.specs.List.{flat_map, sum, All}
use Rattle.std.proofs.lemmas.Bool.{le-leb, eq-eqb, and_from, cond-true}
use Rattle.std.proofs.lemmas.Option.{same_Some}
use Rattle.std.proofs.lemmas.List.{length-map, append-nil}
use Rattle.std.proofs.lemmas.List.Elements.{All-head, All-tail, All-weaker}
use Rattle.ts_base.specs.declared.keys.FragKey.{FragKey}
use Rattle.ts_base.specs.declared.heads.Head.{Head}
use Rattle.ts_base.specs.declared.heads.Piece.{Piece}
use Rattle.ts_base.specs.declared.names.Part.TheVariants as part
use Rattle.ts_base.specs.declared.names.PartBytes.{PartBytes}
use Rattle.ts_base.specs.declared.values.Val.{Val}
use Rattle.ts_base.specs.declared.values.ValType.{ValType}
use Rattle.ts_base.specs.Values.{is_integer, width_of}
use Rattle.ts_domain.specs.Boxes.{cells_of}
use Rattle.ts_domain.specs.Dims.{IsSoundDim}
use Rattle.ts_domain.proofs.DomainLemmas.{All-IsDomain}
use Rattle.ts_order.specs.Orders.{coords_in_order}
use Rattle.ts_order.specs.Tiles.{cut_box, tile_box}
use Rattle.ts_order.proofs.OrderedCoords.{length-coords_in_order}
use Rattle.ts_wire.specs.declared.faults.ReadFault.TheVariants as fault
use Rattle.ts_wire.specs.declared.kinds.Kind.TheVariants as kind
use Rattle.ts_wire.specs.Envelope.{wrapped}
use Rattle.ts_wire.specs.Exact.{InTurn, EachFits}
use Rattle.ts_wire.specs.Fields.{bool_bytes}
use Rattle.ts_wire.specs.Numbers.{number_bytes, int_bytes}
use Rattle.ts_wire.proofs.Numbers.{length-number_bytes}
use Rattle.ts_wire.proofs.Objects.{length-wrapped}
use Rattle.ts_schema.specs.declared.attrs.Attr.{Attr}
use Rattle.ts_schema.specs.declared.frames.Frame.{Frame}
use Rattle.ts_schema.specs.declared.schemas.Schema.{Schema}
use Rattle.ts_schema.specs.Parts.{Look}
use Rattle.ts_plain.specs.declared.stored.StoredCell.{StoredCell}
use Rattle.ts_plain.specs.declared.stored.StoredHead.{StoredHead}
use Rattle.ts_plain.specs.declared.stored.StoredPiece.{StoredPiece}
use Rattle.ts_plain.specs.Pieces.{head_of, piece_of}
use Rattle.ts_plain.specs.Plain.{head_bytes, FitsSide, FitsHeadBy}
use Rattle.ts_plain.specs.Rules.{last_of, volume}
use Rattle.ts_plain.specs.Writes.{box_of}
use Rattle.ts_plain.proofs.WrittenPieces.{last_pushed}
use Rattle.ts_table.specs.Texts.{joined, starts_from}
use Rattle.ts_column.specs.Spelled.{number_of, text_of}
use Rattle.ts_column.specs.Tiles.{is_there}
use Rattle.ts_column.proofs.Ranges.{length-cells}
use Rattle.ts_rtree.specs.Trees.{upper_of}
use Rattle.ts_footer.specs.declared.columns.ColumnForm.{ColumnForm}
use Rattle.ts_footer.specs.declared.columns.ColumnForm.TheVariants.{Fixed, Var}
use Rattle.ts_footer.specs.declared.tilings.Tiling.TheVariants.{Dense}
use Rattle.ts_footer.specs.Columns.{value_forms, validity_forms, attr_forms, origin_forms, column_forms, may_start, sizes_of as told_sizes, FitsStart, FitsForm, FitsSize}
use Rattle.ts_footer.specs.Tilings.{full_in, tile_total}
use Rattle.ts_footer.specs.Footers.{dense_footer_stored, layout_bytes, footer_bytes, FitsDenseFooter}
use Rattle.ts_footer.specs.Metas.{meta_of, dense_head_in, IsDenseMetaObject}
use Rattle.ts_footer.proofs.FooterReads.{numbers_valid}
use Rattle.ts_footer.proofs.MetaObjects.{laid_again, laid_only_head}
use Rattle.ts_sparse.specs.Tilings.{tile_starts, starts_in}
use Rattle.ts_sparse.specs.Sparse.{value_column, origin_column, Object, validity_objects, origin_objects, sizes_of, column_part, IsThere}
use Rattle.ts_sparse.specs.Told.{size_of}
use Rattle.ts_sparse.proofs.Shapes.{all_parts, length-starts_from, length-tile_starts}
use Rattle.ts_sparse.proofs.RoomLaws.{starts_inside}
use Rattle.ts_dense.specs.Slots.{tiles_over, counts_over, tiles_by, slots_of}
use Rattle.ts_dense.specs.Dense.{fixed_objects, attr_objects, objects_of, meta_bytes, meta_part, parts_of, FitsDense, IsStored, IsDense}
use Rattle.ts_dense.proofs.HullOrder.{hull_box, coords_many, counts_many}
use Rattle.ts_dense.proofs.SlotLaws.{slots_of_many}
use Rattle.ts_dense.proofs.TileLists.{length_tiles, all_tiles}
use Rattle.ts_dense_read.specs.Told.{footer_of}
use Rattle.ts_dense_read.specs.SpaceCodecs.{space_head}

-- ---- the number of tiles

-- there are as many space tiles as the reader asks for
pub tiles_told : (frame : Frame) (head : StoredHead) → All IsSoundDim frame.domain → EachFits FitsSide frame.domain head.hull → length (tiles_over frame (box_of head.hull)) ≡ tile_total Dense frame head
tiles_told frame head sound fits =
    let hull = box_of head.hull in
    let is = hull_box frame.domain head.hull fits in
    let numbers = tile_box frame.domain hull in
    length-map (coords_in_order frame.tile numbers) (cut_box frame.domain hull) ∙ length-coords_in_order frame.tile numbers (numbers_valid frame.domain hull sound is.0 is.1)

-- ---- how long objects are; these lemmas stand in ts_sparse's ToldLaws too, where they are private

-- an integer has as many bytes as its type
int_wide : (w : ℕ) (z : ℤ) → length (int_bytes w z) ≡ w
unfolding int_bytes
int_wide w z = length-number_bytes w _

-- a truth value has one byte
bool_wide : (b : Bool) → length (bool_bytes b) ≡ 1
unfolding bool_bytes
bool_wide b = length-number_bytes 1 (if b then 1 else 0)

-- an object with so many bytes for each slot
fixed_long : {X : Type 0} (spell : X → List ℕ) (w count : ℕ) (xs : List X) → ((x : X) → length (spell x) ≡ w) → length xs ≡ count → 14 + length (flat_map spell xs) ≡ 14 + w * count
fixed_long spell w count xs wide many =
    let long : length (flat_map spell xs) ≡ count * w = length-cells spell w wide xs ∙ ap (λ n. n * w) many in
    omega (arith, long)

-- each byte list has a start
length-starts_in : (tiles : List (List (List ℕ))) → length (starts_in tiles) ≡ length (flat_map (λ t. t) tiles)
length-starts_in [] = refl
length-starts_in (t ∷ tiles) =
    omega (arith, length-append (starts_from 0 t) (starts_in tiles), length-starts_from 0 t, length-starts_in tiles, length-append t (flat_map (λ t. t) tiles))

-- each tile starts behind those before it, and within its object
starts_turn : (end at : ℕ) (front : List ℕ) (tiles : List (List (List ℕ))) → may_start (last_of front) at ≡ true → All (λ i. i ≤ end) (tile_starts at tiles) → InTurn (FitsStart end) front (tile_starts at tiles)
starts_turn end at front [] begins inside = tt
starts_turn end at front (t ∷ tiles) begins inside =
    let next = at + length (joined t) in
    let within = le-leb at end (All-head (λ i. i ≤ end) at (tile_starts next tiles) inside) in
    let rises = le-leb at next (omega arith) in
    let others = starts_turn end next (front ++ at ∷ []) tiles (ap (λ before. may_start before next) (last_pushed front at) ∙ rises) (All-tail (λ i. i ≤ end) at (tile_starts next tiles) inside) in
    (and_from (may_start (last_of front) at) (nat_le at end) begins within, others)

-- ---- each object is as its form asks

module _ (count tiles : ℕ) where
  -- so many slots in so many tiles
  abbrev AreKept : List ColumnForm → List Object → Type 0
  AreKept forms objects = EachFits (FitsForm count tiles) forms (map size_of objects)

  -- objects of two lists of forms
  kept_append : (fs gs : List ColumnForm) (os ps : List Object) → AreKept fs os → AreKept gs ps → AreKept (fs ++ gs) (os ++ ps)
  kept_append [] gs [] ps first second = second
  kept_append [] gs (o ∷ os) ps first second = absurd first
  kept_append (f ∷ fs) gs [] ps first second = absurd first
  kept_append (f ∷ fs) gs (o ∷ os) ps first second = (first.0, kept_append fs gs os ps first.1 second)

  -- the marks of values that may be null
  validity_kept : (b : Bool) (k : ℕ) (vals : List Val) → length vals ≡ count → AreKept (validity_forms b) (validity_objects b k vals)
  validity_kept true k vals many = ((fixed_long bool_bytes 1 count (map is_there vals) bool_wide (length-map vals is_there ∙ many), refl), tt)
  validity_kept false k vals many = tt

  -- the origins of slots
  origins_kept : (b : Bool) (slots : List StoredCell) → length slots ≡ count → AreKept (origin_forms b) (origin_objects b slots)
  origins_kept true slots many = ((fixed_long (number_bytes 4) 4 count (origin_column slots) (length-number_bytes 4) (length-map slots _ ∙ many), refl), tt)
  origins_kept false slots many = tt

  -- short parts have lengths with room
  sizes_fit : (forms : List ColumnForm) (os : List Object) → AreKept forms os → All (λ (p : PartBytes). length p.bytes < 2 ^ 64) (map column_part os) → EachFits (FitsSize count tiles) forms (map size_of os)
  sizes_fit [] [] kept short = tt
  sizes_fit [] (o ∷ os) kept short = absurd kept
  sizes_fit (f ∷ forms) [] kept short = absurd kept
  sizes_fit (f ∷ forms) (o ∷ os) kept short =
      let here = All-head (λ (p : PartBytes). length p.bytes < 2 ^ 64) (column_part o) (map column_part os) short in
      let room : 14 + length o.body < 2 ^ 64 = omega (arith, here, length-wrapped kind.Column o.body) in
      (record { room = room; keeps = kept.0 }, sizes_fit forms os kept.1 (All-tail (λ (p : PartBytes). length p.bytes < 2 ^ 64) (column_part o) (map column_part os) short))

  module _ (counts : List ℕ) (tiled : length counts ≡ tiles) (whole : count ≡ sum counts) where
    -- the values of an attribute: integers, or starts and then bytes
    fixed_kept : (b : Bool) (k : ℕ) (ty : ValType) (vals : List Val) → length vals ≡ count → AreKept (if b then Fixed (width_of ty) ∷ [] else Fixed 8 ∷ (Var ∷ [])) (fixed_objects b counts k ty vals)
    fixed_kept true k ty vals many =
        ((fixed_long (int_bytes (width_of ty)) (width_of ty) count (map number_of vals) (int_wide (width_of ty)) (length-map vals number_of ∙ many), refl), tt)
    fixed_kept false k ty vals many =
        let texts = map text_of vals in
        let cut = tiles_by counts texts in
        let end = 14 + length (joined texts) in
        let all : length texts ≡ count = length-map vals text_of ∙ many in
        let back : flat_map (λ t. t) cut ≡ texts = all_tiles counts texts (all ∙ whole) in
        let as_many = length-starts_in cut ∙ ap length back ∙ all in
        let same = ap (λ ts. length (joined ts)) back in
        let inside = starts_inside end 14 cut (omega (arith, same)) in (
          (fixed_long (number_bytes 8) 8 count (starts_in cut) (length-number_bytes 8) as_many, refl),
          (
            record {
              many = length-tile_starts 14 cut ∙ length_tiles counts texts ∙ tiled;
              each = starts_turn end 14 [] cut refl inside;
            },
            tt,
          ),
        )

    -- all attributes from the k-th on
    attrs_kept : (k : ℕ) (attrs : List Attr) (slots : List StoredCell) → length slots ≡ count → AreKept (flat_map attr_forms attrs) (attr_objects counts k attrs slots)
    attrs_kept k [] slots many = tt
    attrs_kept k (a ∷ attrs) slots many =
        let vals = value_column k slots in
        let long : length vals ≡ count = length-map slots _ ∙ many in
        let others = attrs_kept (suc k) attrs slots many in
        let fixed = fixed_kept (is_integer a.ty) k a.ty vals long in
        let behind = kept_append (validity_forms a.nullable) (flat_map attr_forms attrs) (validity_objects a.nullable k vals) (attr_objects counts (suc k) attrs slots) (validity_kept a.nullable k vals long) others in
        subst (λ forms. AreKept forms (attr_objects counts k (a ∷ attrs) slots)) (sym (append_assoc (value_forms a.ty) (validity_forms a.nullable) (flat_map attr_forms attrs)))
        (kept_append (value_forms a.ty) (validity_forms a.nullable ++ flat_map attr_forms attrs) (fixed_objects (is_integer a.ty) counts k a.ty vals) _ fixed behind)

-- all objects of what is stored
objects_kept : (frame : Frame) (attrs : List Attr) (frag : FragKey) (s : StoredPiece) → FitsDense frame attrs frag s
    → AreKept s.head.cells (length (tiles_over frame (box_of s.head.hull))) (column_forms [] attrs s.head.consolidated) (objects_of frame attrs s)
unfolding column_forms objects_of
objects_kept frame attrs frag s fits =
    let hull = box_of s.head.hull in
    let tiles = length (tiles_over frame hull) in
    let counts = counts_over frame hull in
    let slots = slots_of frame s in
    let sound = All-IsDomain frame.domain (fits.sound).domain in
    let many : length slots ≡ s.head.cells = slots_of_many frame attrs frag s fits ∙ sym fits.counts_hull in
    let whole : s.head.cells ≡ sum counts = fits.counts_hull ∙ sym (counts_many frame s.head.hull sound (fits.head).hull ∙ coords_many frame s.head.hull sound (fits.head).hull) in
    kept_append s.head.cells tiles (flat_map attr_forms attrs) (origin_forms s.head.consolidated) (attr_objects counts 0 attrs slots) (origin_objects s.head.consolidated slots)
    (attrs_kept s.head.cells tiles counts (length-map (tiles_over frame hull) cells_of) whole 0 attrs slots many) (origins_kept s.head.cells tiles s.head.consolidated slots many)

-- ---- the spelling is the same

-- the numbers that stand for objects
sizes_same : (os : List Object) → told_sizes (map size_of os) ≡ sizes_of os
sizes_same [] = refl
sizes_same (o ∷ os) = ap (λ more. (14 + length o.body) ∷ (o.starts ++ more)) (sizes_same os)

-- the body of the metadata is the spelling of what it tells
bytes_same : (frame : Frame) (attrs : List Attr) (s : StoredPiece) → meta_bytes frame attrs s ≡ footer_bytes (footer_of frame attrs s)
unfolding meta_bytes layout_bytes upper_of
bytes_same frame attrs s =
    let tiles = number_bytes 4 (length (tiles_over frame (box_of s.head.hull))) in
    let told = told_sizes (map size_of (objects_of frame attrs s)) in
    ap (λ sizes. head_bytes s.head ++ (tiles ++ flat_map (number_bytes 8) sizes)) (sym (sizes_same (objects_of frame attrs s)))
    ∙ ap (λ sizes. head_bytes s.head ++ (tiles ++ sizes)) (sym (append-nil (flat_map (number_bytes 8) told)))

-- ---- the whole

-- the head counts the cells of its hull, as a head in space tiles does
pub full_head : (frame : Frame) (attrs : List Attr) (frag : FragKey) (s : StoredPiece) → FitsDense frame attrs frag s → FitsHeadBy (full_in Dense frame.dense) frame frag s.head
full_head frame attrs frag s fits =
    let head = fits.head in
    record {
      schema = head.schema;
      kind = head.kind;
      span = head.span;
      hull = head.hull;
      cells = head.cells;
      as_many = eq-eqb s.head.cells (volume s.head.hull) fits.counts_hull;
      few_origins = head.few_origins;
      some_origin = head.some_origin;
      origins = head.origins;
    }

-- what the metadata stores keeps each rule of the reader
pub footer_fits : (frame : Frame) (attrs : List Attr) (frag : FragKey) (s : StoredPiece) → FitsDense frame attrs frag s → All (λ (p : PartBytes). length p.bytes < 2 ^ 64) (parts_of frame attrs s)
    → FitsDenseFooter frame attrs frag (footer_of frame attrs s)
unfolding parts_of
footer_fits frame attrs frag s fits short =
    let objects = all_parts (λ (p : PartBytes). length p.bytes < 2 ^ 64) (map column_part (objects_of frame attrs s)) (meta_part frame attrs s ∷ []) short in
    let tiles = length (tiles_over frame (box_of s.head.hull)) in
    record {
      head = full_head frame attrs frag s fits;
      tiles = tiles_told frame s.head (All-IsDomain frame.domain (fits.sound).domain) (fits.head).hull;
      few = fits.few;
      sizes = sizes_fit s.head.cells tiles (column_forms [] attrs s.head.consolidated) (objects_of frame attrs s) (objects_kept frame attrs frag s fits) objects.0;
      tree = refl;
    }

-- its spelling is as short as its part
short_footer : (frame : Frame) (attrs : List Attr) (s : StoredPiece) → All (λ (p : PartBytes). length p.bytes < 2 ^ 64) (parts_of frame attrs s) → length (footer_bytes (footer_of frame attrs s)) < 2 ^ 64
unfolding parts_of
short_footer frame attrs s short =
    let last = all_parts (λ (p : PartBytes). length p.bytes < 2 ^ 64) (map column_part (objects_of frame attrs s)) (meta_part frame attrs s ∷ []) short in
    let here = All-head (λ (p : PartBytes). length p.bytes < 2 ^ 64) (meta_part frame attrs s) [] last.1 in
    let body : length (meta_bytes frame attrs s) < 2 ^ 64 = omega (arith, here, length-wrapped kind.Meta (meta_bytes frame attrs s)) in
    subst (λ bytes. length bytes < 2 ^ 64) (bytes_same frame attrs s) body

-- its object is one that the reader knows
pub is_object : (frame : Frame) (attrs : List Attr) (frag : FragKey) (s : StoredPiece) → FitsDense frame attrs frag s → All (λ (p : PartBytes). length p.bytes < 2 ^ 64) (parts_of frame attrs s)
    → IsDenseMetaObject frame attrs (meta_of frag (footer_of frame attrs s)) (meta_part frame attrs s).bytes
unfolding meta_of head_of
is_object frame attrs frag s fits short = record {
  stored = footer_of frame attrs s;
  fits = footer_fits frame attrs frag s fits short;
  few = short_footer frame attrs s short;
  spelled = ap (wrapped kind.Meta) (bytes_same frame attrs s);
  same = refl;
}

-- and stores what is told
pub footer_back : (frame : Frame) (attrs : List Attr) (frag : FragKey) (s : StoredPiece) → FitsDense frame attrs frag s → All (λ (p : PartBytes). length p.bytes < 2 ^ 64) (parts_of frame attrs s)
    → dense_footer_stored frame attrs frag (meta_part frame attrs s).bytes ≡ Ok (footer_of frame attrs s)
footer_back frame attrs frag s fits short =
    ap (λ body. dense_footer_stored frame attrs frag (wrapped kind.Meta body)) (bytes_same frame attrs s)
    ∙ laid_again Dense frame attrs frag (footer_of frame attrs s) (footer_fits frame attrs frag s fits short) (short_footer frame attrs s short)

-- its head is read as that of what is stored
head_back : (frame : Frame) (attrs : List Attr) (frag : FragKey) (s : StoredPiece) → FitsDense frame attrs frag s → All (λ (p : PartBytes). length p.bytes < 2 ^ 64) (parts_of frame attrs s)
    → dense_head_in frame frag (meta_part frame attrs s).bytes ≡ Ok (head_of frag s.head)
unfolding meta_of head_of
head_back frame attrs frag s fits short = by (dense_head_in frame frag (meta_part frame attrs s).bytes) refl
  where
    by : (r : Result Head ℕ) → dense_head_in frame frag (meta_part frame attrs s).bytes ≡ r → r ≡ Ok (head_of frag s.head)
    by (Ok found) e = ap Ok (laid_only_head Dense frame attrs (meta_of frag (footer_of frame attrs s)) frag (meta_part frame attrs s).bytes (Ok found) refl (is_object frame attrs frag s fits short) e)
    by (Err at) e =
        absurd (laid_only_head Dense frame attrs (meta_of frag (footer_of frame attrs s)) frag (meta_part frame attrs s).bytes (Err (fault.Damaged (record { at = at }))) refl (is_object frame attrs frag s fits short) e)

-- ---- of parts that are there

module _ (frame : Frame) (attrs : List Attr) (s : StoredPiece) (look : Look) (there : All (IsThere look) (parts_of frame attrs s)) where
  -- they are short
  pub parts_short : All (λ (p : PartBytes). length p.bytes < 2 ^ 64) (parts_of frame attrs s)
  parts_short = All-weaker (IsThere look) (λ (p : PartBytes). length p.bytes < 2 ^ 64) (λ p is. is.few) (parts_of frame attrs s) there

  -- the part of the metadata is among them
  pub meta_there : look part.Meta ≡ Some (meta_part frame attrs s).bytes
  unfolding parts_of
  meta_there =
      let last = all_parts (IsThere look) (map column_part (objects_of frame attrs s)) (meta_part frame attrs s ∷ []) there in
      (All-head (IsThere look) (meta_part frame attrs s) [] last.1).there

  -- the object that is there is its object
  pub meta_is : (object : List ℕ) → look part.Meta ≡ Some object → object ≡ (meta_part frame attrs s).bytes
  meta_is object held = same_Some object (meta_part frame attrs s).bytes (sym held ∙ meta_there)

  -- so what is told is read of it
  pub meta_told : (frag : FragKey) (object : List ℕ) → FitsDense frame attrs frag s → look part.Meta ≡ Some object → dense_footer_stored frame attrs frag object ≡ Ok (footer_of frame attrs s)
  meta_told frag object fits held = ap (dense_footer_stored frame attrs frag) (meta_is object held) ∙ footer_back frame attrs frag s fits parts_short

-- the object that is there stores what is told of the piece
pub footer_told : (frame : Frame) (attrs : List Attr) (p : Piece) (look : Look) (is : IsStored frame attrs p look) (object : List ℕ) → look part.Meta ≡ Some object
    → dense_footer_stored frame attrs p.head.frag object ≡ Ok (footer_of frame attrs is.stored)
footer_told frame attrs p look is object held = meta_told frame attrs is.stored look is.parts p.head.frag object is.fits held

-- the part of the metadata is there, and its object is read as the head of the piece
pub space_head_there : (frame : Frame) (s : Schema) (p : Piece) (look : Look) → IsDense frame s p look → (object : List ℕ) × (look part.Meta ≡ Some object) × (space_head frame p.head.frag object ≡ Ok p.head)
unfolding piece_of
space_head_there frame s p look is =
    let frag = p.head.frag in
    let object = (meta_part frame s.attrs is.stored).bytes in
    let read = head_back frame s.attrs frag is.stored is.fits (parts_short frame s.attrs is.stored look is.parts) in
    let dense : space_head frame frag object ≡ dense_head_in frame frag object = cond-true frame.dense (dense_head_in frame frag object) (Err 0) is.fits.dense in
    (object, meta_there frame s.attrs is.stored look is.parts, dense ∙ read ∙ ap Ok (sym (ap (λ (q : Piece). q.head) is.same)))
