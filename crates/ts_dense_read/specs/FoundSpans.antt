-- What is found at the spans of a space tile.
use Rattle.std.specs.Prelude.{if◌then◌else◌}
use Rattle.std.proofs.Common.{◌≡◌, ℕ, zero, suc, ◌+◌, ◌-◌, ◌*◌, ◌^◌, ◌<◌, ◌≤◌, ℤ, Bool, true, false, cond, List, [], ◌∷◌, ◌++◌, length, map, get_or, take, drop, refl, sym, ap, ◌∙◌, subst, arith, append_assoc, length-append, length-take, length-drop}
use Rattle.std.specs.List.{flat_map, sum, All}
use Rattle.std.proofs.lemmas.List.{take_at, drop_at, drop-drop, length-map, length-take-le}
use Rattle.std.proofs.lemmas.List.Sums.{sum_by-cons}
use Rattle.std.proofs.lemmas.List.Elements.{All-head, All-tail}
use Rattle.ts_base.specs.declared.keys.FragKey.{FragKey}
use Rattle.ts_base.specs.declared.names.Part.{Part}
use Rattle.ts_base.specs.declared.names.PartBytes.{PartBytes}
use Rattle.ts_base.specs.contracts.names.PartPartialEq.TheImpl as same
use Rattle.ts_base.specs.declared.values.Val.{Val}
use Rattle.ts_base.specs.declared.values.Val.TheVariants.{Null}
use Rattle.ts_base.specs.declared.values.ValType.{ValType}
use Rattle.ts_base.specs.Values.{is_integer, width_of}
use Rattle.ts_domain.proofs.DomainLemmas.{All-IsDomain}
use Rattle.ts_wire.specs.declared.kinds.Kind.TheVariants as kind
use Rattle.ts_wire.specs.Envelope.{wrapped, envelope_bytes}
use Rattle.ts_wire.specs.Numbers.{number_bytes, int_bytes}
use Rattle.ts_wire.specs.Fields.{bool_bytes}
use Rattle.ts_wire.proofs.Numbers.{length-number_bytes}
use Rattle.ts_wire.proofs.Objects.{length-envelope_bytes}
use Rattle.ts_store.specs.Calls.{part_of}
use Rattle.ts_schema.specs.Parts.{Look}
use Rattle.ts_schema.specs.declared.attrs.Attr.{Attr}
use Rattle.ts_schema.specs.declared.frames.Frame.{Frame}
use Rattle.ts_plain.specs.declared.stored.StoredCell.{StoredCell}
use Rattle.ts_plain.specs.declared.stored.StoredPiece.{StoredPiece}
use Rattle.ts_plain.specs.Writes.{box_of}
use Rattle.ts_table.specs.Texts.{joined, starts_from}
use Rattle.ts_column.specs.Tiles.{is_there}
use Rattle.ts_column.specs.Spelled.{number_of, text_of}
use Rattle.ts_column.proofs.Ranges.{cells_range}
use Rattle.ts_footer.specs.declared.columns.ColumnForm.{ColumnForm}
use Rattle.ts_footer.specs.declared.columns.ColumnForm.TheVariants.{Fixed, Var}
use Rattle.ts_footer.specs.Columns.{value_forms, validity_forms, attr_forms, origin_forms, column_forms, fixed_length}
use Rattle.ts_fetch.specs.Plans.{bytes_in, ranges_of}
use Rattle.ts_sparse.specs.Tilings.{tile_starts, starts_in}
use Rattle.ts_sparse.specs.Sparse.{Object, value_column, validity_objects, origin_objects, column_part, IsThere}
use Rattle.ts_sparse.specs.Told.{size_of}
use Rattle.ts_sparse.proofs.Shapes.{length-starts_from}
use Rattle.ts_dense.specs.Slots.{counts_over, tiles_by, slots_of, slot_tiles}
use Rattle.ts_dense.specs.Dense.{fixed_objects, attr_objects, objects_of, FitsDense}
use Rattle.ts_dense.proofs.TileLists.{length_tiles, all_tiles, tile_at, map_tiles}
use Rattle.ts_dense.proofs.HullOrder.{coords_many, counts_many}
use Rattle.ts_dense.proofs.SlotLaws.{slots_of_many}
use Rattle.ts_sparse_read.specs.declared.opened.Span.{Span}
use Rattle.ts_sparse_read.specs.declared.opened.UsedColumn.{UsedColumn}
use Rattle.ts_sparse_read.specs.Faults.{Ranged, bytes_of}
use Rattle.ts_sparse_read.specs.Used.{value_parts, validity_parts, attr_parts, origin_parts, column_parts, columns_told, is_used, used_among}
use Rattle.ts_sparse_read.specs.Opens.{span_call}
use Rattle.ts_sparse_read.specs.Judges.{ranged}
use Rattle.ts_sparse_read.specs.FoundParts.{value_found, validity_found, attr_found, origin_found, bytes_at, same_part}
use Rattle.ts_dense_read.specs.SpaceOpens.{span_from}

-- ---- tiles of given sizes

-- the sum of one size more
sum_more : (n : ℕ) (counts : List ℕ) → sum (n ∷ counts) ≡ n + sum counts
sum_more n counts = sum_by-cons (λ x. x) n counts

-- the tiles up to one have no more items than all
pub room_for : (counts : List ℕ) (i : ℕ) → sum (take i counts) + get_or counts i 0 ≤ sum counts
room_for [] zero = omega arith
room_for [] (suc i) = omega arith
room_for (n ∷ counts) zero = omega (arith, sum_more n counts)
room_for (n ∷ counts) (suc i) = omega (arith, sum_more n (take i counts), sum_more n counts, room_for counts i)

-- the tile of what f makes is what f makes of the tile
pub tile_of_map : {X Y : Type 0} (f : X → Y) (counts : List ℕ) (i : ℕ) (xs : List X) → get_or (tiles_by counts (map f xs)) i [] ≡ map f (get_or (tiles_by counts xs) i [])
tile_of_map {X = X} f counts i xs = ap (λ ts. get_or ts i []) (map_tiles f counts xs) ∙ at i (tiles_by counts xs)
  where
    at : (i : ℕ) (ts : List (List X)) → get_or (map (map f) ts) i [] ≡ map f (get_or ts i [])
    at zero [] = refl
    at (suc i) [] = refl
    at zero (t ∷ ts) = refl
    at (suc i) (t ∷ ts) = at i ts

-- it has as many items as its size says
pub tile_many : {X : Type 0} (counts : List ℕ) (i : ℕ) (xs : List X) → length xs ≡ sum counts → length (get_or (tiles_by counts xs) i []) ≡ get_or counts i 0
tile_many counts i xs long =
    ap length (tile_at counts i xs) ∙ length-take-le (get_or counts i 0) (drop (sum (take i counts)) xs) (omega (arith, room_for counts i, long, length-drop (sum (take i counts)) xs))

-- ---- columns of one width

module _ {X Y : Type 0} (spell : Y → List ℕ) (w : ℕ) (wide : (y : Y) → length (spell y) ≡ w) (f : X → Y) where
  -- the span of a tile has what its items spell
  pub column_found : (counts : List ℕ) (i : ℕ) (xs : List X) → length xs ≡ sum counts
      → part_of (fixed_length w (sum (take i counts))) (w * get_or counts i 0) (wrapped kind.Column (flat_map spell (map f xs))) ≡ flat_map spell (map f (get_or (tiles_by counts xs) i []))
  column_found counts i xs long = by (sum (take i counts)) (get_or counts i 0) (room_for counts i) (tile_at counts i (map f xs))
    where
      by : (first count : ℕ) → first + count ≤ sum counts → get_or (tiles_by counts (map f xs)) i [] ≡ take count (drop first (map f xs))
          → part_of (fixed_length w first) (w * count) (wrapped kind.Column (flat_map spell (map f xs))) ≡ flat_map spell (map f (get_or (tiles_by counts xs) i []))
      by first count room tile =
          let from : 14 + w * first ≡ 14 + first * w = omega arith in
          let size : w * count ≡ count * w = omega arith in
          ap (λ k. take (w * count) (drop k (wrapped kind.Column (flat_map spell (map f xs))))) from
          ∙ ap (λ k. take k (drop (14 + first * w) (wrapped kind.Column (flat_map spell (map f xs))))) size
          ∙ cells_range spell w wide (map f xs) first count (omega (arith, room, long, length-map xs f))
          ∙ ap (flat_map spell) (sym tile ∙ tile_of_map f counts i xs)

-- ---- starts of byte lists

-- the starts in a tile are a range of all starts
starts_range : (counts : List ℕ) (i : ℕ) (texts : List (List ℕ)) → length texts ≡ sum counts
    → take (get_or counts i 0) (drop (sum (take i counts)) (starts_in (tiles_by counts texts))) ≡ starts_from 0 (get_or (tiles_by counts texts) i [])
starts_range [] zero texts long = refl
starts_range [] (suc i) texts long = refl
starts_range (n ∷ counts) zero texts long =
    let first = take n texts in
    take_at (starts_from 0 first) (starts_in (tiles_by counts (drop n texts))) n (length-starts_from 0 first ∙ length-take-le n texts (omega (arith, long, sum_more n counts)))
starts_range (n ∷ counts) (suc i) texts long =
    let first = take n texts in
    let others = starts_in (tiles_by counts (drop n texts)) in
    let before = sum (take i counts) in
    let full : length (starts_from 0 first) ≡ n = length-starts_from 0 first ∙ length-take-le n texts (omega (arith, long, sum_more n counts)) in
    ap (take (get_or counts i 0)) (ap (λ k. drop k (starts_from 0 first ++ others)) (sum_more n (take i counts)) ∙ sym (drop-drop before n (starts_from 0 first ++ others))
    ∙ ap (drop before) (drop_at (starts_from 0 first) others n full))
    ∙ starts_range counts i (drop n texts) (omega (arith, length-drop n texts, long, sum_more n counts))

-- there are as many starts as byte lists
length-starts_in : (tiles : List (List (List ℕ))) → length (starts_in tiles) ≡ length (flat_map (λ t. t) tiles)
length-starts_in [] = refl
length-starts_in (t ∷ tiles) =
    length-append (starts_from 0 t) (starts_in tiles) ∙ omega (arith, length-starts_from 0 t, length-starts_in tiles, length-append t (flat_map (λ t. t) tiles))

-- the span of a tile in the first object of byte lists has where each starts in the tile
pub starts_found : (counts : List ℕ) (i : ℕ) (texts : List (List ℕ)) → length texts ≡ sum counts
    → part_of (fixed_length 8 (sum (take i counts))) (8 * get_or counts i 0) (wrapped kind.Column (flat_map (number_bytes 8) (starts_in (tiles_by counts texts))))
    ≡ flat_map (number_bytes 8) (starts_from 0 (get_or (tiles_by counts texts) i []))
starts_found counts i texts long =
    let starts = starts_in (tiles_by counts texts) in
    let first = sum (take i counts) in
    let count = get_or counts i 0 in
    let object = wrapped kind.Column (flat_map (number_bytes 8) starts) in
    let as_many : length starts ≡ length texts = length-starts_in (tiles_by counts texts) ∙ ap length (all_tiles counts texts long) in
    let from : 14 + 8 * first ≡ 14 + first * 8 = omega arith in
    let size : 8 * count ≡ count * 8 = omega arith in
    let room : first + count ≤ length starts = omega (arith, as_many, long, room_for counts i) in
    ap (λ k. take (8 * count) (drop k object)) from
    ∙ ap (λ k. take k (drop (14 + first * 8) object)) size
    ∙ cells_range (number_bytes 8) 8 (length-number_bytes 8) starts first count room
    ∙ ap (flat_map (number_bytes 8)) (starts_range counts i texts long)

-- ---- bytes of byte lists

-- all bytes of tiles
all_bytes : List (List (List ℕ)) → List ℕ
all_bytes [] = []
all_bytes (t ∷ tiles) = joined t ++ all_bytes tiles

-- the bytes of two lists are those of one and then those of the other
joined-append : (xs ys : List (List ℕ)) → joined (xs ++ ys) ≡ joined xs ++ joined ys
joined-append [] ys = refl
joined-append (x ∷ xs) ys = ap (λ more. x ++ more) (joined-append xs ys) ∙ sym (append_assoc x (joined xs) (joined ys))

-- all bytes of tiles are those of the byte lists
bytes_of_all : (tiles : List (List (List ℕ))) → all_bytes tiles ≡ joined (flat_map (λ t. t) tiles)
unfolding all_bytes
bytes_of_all [] = refl
bytes_of_all (t ∷ tiles) = ap (λ more. joined t ++ more) (bytes_of_all tiles) ∙ sym (joined-append t (flat_map (λ t. t) tiles))

-- the first tile starts at the start, and so does the end where there is none
first_start : (tiles : List (List (List ℕ))) (at : ℕ) → get_or (tile_starts at tiles) 0 (at + length (all_bytes tiles)) ≡ at
unfolding all_bytes
first_start [] at = omega arith
first_start (t ∷ tiles) at = refl

-- the bytes of a tile stand between its start and the next one
bytes_range : (front : List ℕ) (tiles : List (List (List ℕ))) (i end : ℕ) → i < length tiles → end ≡ length front + length (all_bytes tiles)
    → take (get_or (tile_starts (length front) tiles) (suc i) end - get_or (tile_starts (length front) tiles) i end) (drop (get_or (tile_starts (length front) tiles) i end) (front ++ all_bytes tiles)) ≡ joined (get_or tiles i [])
unfolding all_bytes
bytes_range front [] i end within is = absurd (omega arith)
bytes_range front (t ∷ tiles) zero end within is =
    let long = length-append (joined t) (all_bytes tiles) in
    let ends : end ≡ length front + length (joined t) + length (all_bytes tiles) = omega (arith, is, long) in
    let next : get_or (tile_starts (length front + length (joined t)) tiles) 0 end ≡ length front + length (joined t) = ap (get_or (tile_starts (length front + length (joined t)) tiles) 0) ends ∙ first_start tiles (length front + length (joined t)) in
    let count : get_or (tile_starts (length front + length (joined t)) tiles) 0 end - length front ≡ length (joined t) = omega (arith, next) in
    ap (λ k. take k (drop (length front) (front ++ (joined t ++ all_bytes tiles)))) count
    ∙ ap (take (length (joined t))) (drop_at front (joined t ++ all_bytes tiles) (length front) refl)
    ∙ take_at (joined t) (all_bytes tiles) (length (joined t)) refl
bytes_range front (t ∷ tiles) (suc i) end within is =
    let more : length (front ++ joined t) ≡ length front + length (joined t) = length-append front (joined t) in
    let long = length-append (joined t) (all_bytes tiles) in
    let ends : end ≡ length (front ++ joined t) + length (all_bytes tiles) = omega (arith, is, long, more) in
    let there = bytes_range (front ++ joined t) tiles i end (omega arith) ends in
    let P : ℕ → List ℕ → Type 0 = λ at text. take (get_or (tile_starts at tiles) (suc i) end - get_or (tile_starts at tiles) i end) (drop (get_or (tile_starts at tiles) i end) text) ≡ joined (get_or tiles i []) in
    subst (λ text. P (length front + length (joined t)) text) (append_assoc front (joined t) (all_bytes tiles)) (subst (λ at. P at ((front ++ joined t) ++ all_bytes tiles)) more there)

-- the span of a tile in the second object of byte lists has the bytes of the tile
pub bytes_found : (counts : List ℕ) (i : ℕ) (texts : List (List ℕ)) → i < length counts → length texts ≡ sum counts
    → part_of (get_or (tile_starts 14 (tiles_by counts texts)) i (14 + length (joined texts)))
    (get_or (tile_starts 14 (tiles_by counts texts)) (suc i) (14 + length (joined texts)) - get_or (tile_starts 14 (tiles_by counts texts)) i (14 + length (joined texts)))
    (wrapped kind.Column (joined texts))
    ≡ joined (get_or (tiles_by counts texts) i [])
unfolding wrapped
bytes_found counts i texts within whole =
    let tiles = tiles_by counts texts in
    let end = 14 + length (joined texts) in
    let body : all_bytes tiles ≡ joined texts = bytes_of_all tiles ∙ ap joined (all_tiles counts texts whole) in
    let envelope = envelope_bytes kind.Column (length (joined texts)) in
    let long : length envelope ≡ 14 = length-envelope_bytes kind.Column (length (joined texts)) in
    let ends : end ≡ length envelope + length (all_bytes tiles) = omega (arith, long, ap length body) in
    let there = bytes_range envelope tiles i end (omega (arith, within, length_tiles counts texts)) ends in
    let P : ℕ → List ℕ → Type 0 = λ at text. take (get_or (tile_starts at tiles) (suc i) end - get_or (tile_starts at tiles) i end) (drop (get_or (tile_starts at tiles) i end) (envelope ++ text)) ≡ joined (get_or tiles i []) in
    subst (λ text. P 14 text) body (subst (λ at. P at (all_bytes tiles)) long there)

-- ---- the parts of all objects

-- the parts of two lists of objects
parts_join : (os ps : List Object) → map (λ o. o.part) (os ++ ps) ≡ map (λ o. o.part) os ++ map (λ o. o.part) ps
parts_join [] ps = refl
parts_join (o ∷ os) ps = ap (λ more. o.part ∷ more) (parts_join os ps)

-- the parts of the objects of values
fixed_match : (b : Bool) (counts : List ℕ) (k : ℕ) (ty : ValType) (vals : List Val) → map (λ o. o.part) (fixed_objects b counts k ty vals) ≡ value_parts b k
fixed_match true counts k ty vals = refl
fixed_match false counts k ty vals = refl

-- the part of the object that says which values are there
validity_match : (b : Bool) (k : ℕ) (vals : List Val) → map (λ o. o.part) (validity_objects b k vals) ≡ validity_parts b k
validity_match true k vals = refl
validity_match false k vals = refl

-- the parts of the objects of attributes
attrs_match : (counts : List ℕ) (k : ℕ) (attrs : List Attr) (slots : List StoredCell) → map (λ o. o.part) (attr_objects counts k attrs slots) ≡ attr_parts k attrs
attrs_match counts k [] slots = refl
attrs_match counts k (a ∷ attrs) slots =
    let fixed = fixed_objects (is_integer a.ty) counts k a.ty (value_column k slots) in
    let validity = validity_objects a.nullable k (value_column k slots) in
    let others = attr_objects counts (suc k) attrs slots in
    parts_join fixed (validity ++ others)
    ∙ ap (λ ps. map (λ (o : Object). o.part) fixed ++ ps) (parts_join validity others ∙ ap (λ ps. map (λ (o : Object). o.part) validity ++ ps) (attrs_match counts (suc k) attrs slots)
    ∙ ap (λ ps. ps ++ attr_parts (suc k) attrs) (validity_match a.nullable k (value_column k slots)))
    ∙ ap (λ ps. ps ++ (validity_parts a.nullable k ++ attr_parts (suc k) attrs)) (fixed_match (is_integer a.ty) counts k a.ty (value_column k slots))

-- the part of the object of origins
origins_match : (b : Bool) (slots : List StoredCell) → map (λ o. o.part) (origin_objects b slots) ≡ origin_parts b
origins_match true slots = refl
origins_match false slots = refl

-- the objects of a piece are those of the parts of its columns, in their order
pub parts_match : (frame : Frame) (attrs : List Attr) (s : StoredPiece) → map (λ o. o.part) (objects_of frame attrs s) ≡ column_parts [] attrs s.head.consolidated
unfolding objects_of column_parts
parts_match frame attrs s =
    let counts = counts_over frame (box_of s.head.hull) in
    let slots = slots_of frame s in
    parts_join (attr_objects counts 0 attrs slots) (origin_objects s.head.consolidated slots)
    ∙ ap (λ ps. map (λ (o : Object). o.part) (attr_objects counts 0 attrs slots) ++ ps) (origins_match s.head.consolidated slots)
    ∙ ap (λ ps. ps ++ origin_parts s.head.consolidated) (attrs_match counts 0 attrs slots)

-- ---- what is found at the spans of the objects

-- what the metadata tells of an object
abbrev pub column_for : Object → ColumnForm → UsedColumn
column_for o form = record { part = o.part; form = form; size = size_of o }

-- what it tells of some objects
abbrev pub told_of : List Object → List ColumnForm → List UsedColumn
told_of os fs = columns_told (map (λ o. o.part) os) fs (map size_of os)

-- at a span of an object, of a form, these bytes are found
pub record FoundAt (span : UsedColumn → Span) (o : Object) (form : ColumnForm) (p : PartBytes) : Type 0 where
  pub same_part : o.part ≡ p.part
  pub found : part_of (span (column_for o form)).from (span (column_for o form)).count (wrapped kind.Column o.body) ≡ p.bytes

-- so it is for each object
abbrev pub FoundAll : (UsedColumn → Span) → List Object → List ColumnForm → List PartBytes → Type 0
FoundAll span [] [] [] = Unit {0}
FoundAll span (o ∷ os) (f ∷ fs) (p ∷ ps) = FoundAt span o f p × FoundAll span os fs ps
FoundAll span _ _ _ = ⊥

module _ (span : UsedColumn → Span) where
  -- what is found of two lists of objects
  found_join : (os : List Object) (fs : List ColumnForm) (ps : List PartBytes) (more : List Object) (forms : List ColumnForm) (others : List PartBytes)
      → FoundAll span os fs ps → FoundAll span more forms others → FoundAll span (os ++ more) (fs ++ forms) (ps ++ others)
  found_join [] [] [] more forms others first second = second
  found_join [] [] (p ∷ ps) more forms others first second = absurd first
  found_join [] (f ∷ fs) ps more forms others first second = absurd first
  found_join (o ∷ os) [] ps more forms others first second = absurd first
  found_join (o ∷ os) (f ∷ fs) [] more forms others first second = absurd first
  found_join (o ∷ os) (f ∷ fs) (p ∷ ps) more forms others first second = (first.0, found_join os fs ps more forms others first.1 second)

-- an integer has as many bytes as its width says
int_wide : (w : ℕ) (z : ℤ) → length (int_bytes w z) ≡ w
unfolding int_bytes
int_wide w z = length-number_bytes w _

-- a bool has one byte
bool_wide : (b : Bool) → length (bool_bytes b) ≡ 1
unfolding bool_bytes
bool_wide b = length-number_bytes 1 _

-- where the tile at a place stands in a column, in tiles of these sizes
abbrev pub span_in : List ℕ → ℕ → UsedColumn → Span
span_in counts i column = span_from column.form (sum (take i counts)) (get_or counts i 0) i column.part column.size

-- it stands in the object of the column
pub span_kept : (counts : List ℕ) (i : ℕ) (column : UsedColumn) → (span_in counts i column).part ≡ column.part
span_kept counts i column = by column.form
  where
    by : (form : ColumnForm) → (span_from form (sum (take i counts)) (get_or counts i 0) i column.part column.size).part ≡ column.part
    by (Fixed width) = refl
    by Var = refl

module _ (counts : List ℕ) (i : ℕ) (within : i < length counts) where
  -- the objects of a column of values
  values_at : (b : Bool) (k : ℕ) (ty : ValType) (vals : List Val) → length vals ≡ sum counts
      → FoundAll (span_in counts i) (fixed_objects b counts k ty vals) (if b then Fixed (width_of ty) ∷ [] else Fixed 8 ∷ (Var ∷ [])) (value_found b k ty (get_or (tiles_by counts vals) i []))
  values_at true k ty vals long = (record { same_part = refl; found = column_found (int_bytes (width_of ty)) (width_of ty) (int_wide (width_of ty)) number_of counts i vals long }, tt)
  values_at false k ty vals long =
      let texts = map text_of vals in
      let whole : length texts ≡ sum counts = length-map vals text_of ∙ long in
      let tile = tile_of_map text_of counts i vals in (
        record { same_part = refl; found = starts_found counts i texts whole ∙ ap (λ ts. flat_map (number_bytes 8) (starts_from 0 ts)) tile },
        (record { same_part = refl; found = bytes_found counts i texts within whole ∙ ap joined tile }, tt),
      )

  -- the object that says which values are there
  marks_at : (b : Bool) (k : ℕ) (vals : List Val) → length vals ≡ sum counts
      → FoundAll (span_in counts i) (validity_objects b k vals) (validity_forms b) (validity_found b k (get_or (tiles_by counts vals) i []))
  marks_at true k vals long = (record { same_part = refl; found = column_found bool_bytes 1 bool_wide is_there counts i vals long }, tt)
  marks_at false k vals long = tt

  module _ (slots : List StoredCell) (long : length slots ≡ sum counts) where
    -- the object of origins
    origins_at : (b : Bool) → FoundAll (span_in counts i) (origin_objects b slots) (origin_forms b) (origin_found b (get_or (tiles_by counts slots) i []))
    origins_at true = (record { same_part = refl; found = column_found (number_bytes 4) 4 (length-number_bytes 4) (λ (c : StoredCell). c.origin) counts i slots long }, tt)
    origins_at false = tt

    -- the objects of the attributes
    attrs_at : (k : ℕ) (attrs : List Attr) → FoundAll (span_in counts i) (attr_objects counts k attrs slots) (flat_map attr_forms attrs) (attr_found k attrs (get_or (tiles_by counts slots) i []))
    attrs_at k [] = tt
    attrs_at k (a ∷ attrs) =
        let span = span_in counts i in
        let tile = get_or (tiles_by counts slots) i [] in
        let get : StoredCell → Val = λ c. get_or c.row k Null in
        let vals = value_column k slots in
        let whole : length vals ≡ sum counts = length-map slots get ∙ long in
        let there : get_or (tiles_by counts vals) i [] ≡ value_column k tile = tile_of_map get counts i slots in
        let first : FoundAll span (fixed_objects (is_integer a.ty) counts k a.ty vals) (value_forms a.ty) (value_found (is_integer a.ty) k a.ty (value_column k tile)) =
        subst (λ vs. FoundAll span (fixed_objects (is_integer a.ty) counts k a.ty vals) (value_forms a.ty) (value_found (is_integer a.ty) k a.ty vs)) there (values_at (is_integer a.ty) k a.ty vals whole) in
        let second : FoundAll span (validity_objects a.nullable k vals) (validity_forms a.nullable) (validity_found a.nullable k (value_column k tile)) =
        subst (λ vs. FoundAll span (validity_objects a.nullable k vals) (validity_forms a.nullable) (validity_found a.nullable k vs)) there (marks_at a.nullable k vals whole) in
        let others = found_join span (validity_objects a.nullable k vals) (validity_forms a.nullable) (validity_found a.nullable k (value_column k tile))
        (attr_objects counts (suc k) attrs slots) (flat_map attr_forms attrs) (attr_found (suc k) attrs tile) second (attrs_at (suc k) attrs) in
        subst (λ fs. FoundAll span (attr_objects counts k (a ∷ attrs) slots) fs (attr_found k (a ∷ attrs) tile))
        (sym (append_assoc (value_forms a.ty) (validity_forms a.nullable) (flat_map attr_forms attrs)))
        (found_join span (fixed_objects (is_integer a.ty) counts k a.ty vals) (value_forms a.ty) (value_found (is_integer a.ty) k a.ty (value_column k tile))
        (validity_objects a.nullable k vals ++ attr_objects counts (suc k) attrs slots) (validity_forms a.nullable ++ flat_map attr_forms attrs) (validity_found a.nullable k (value_column k tile) ++ attr_found (suc k) attrs tile) first others)

    -- all objects
    all_at : (attrs : List Attr) (consolidated : Bool)
        → FoundAll (span_in counts i) (attr_objects counts 0 attrs slots ++ origin_objects consolidated slots) (column_forms [] attrs consolidated)
        (attr_found 0 attrs (get_or (tiles_by counts slots) i []) ++ origin_found consolidated (get_or (tiles_by counts slots) i []))
    unfolding column_forms
    all_at attrs consolidated =
        let tile = get_or (tiles_by counts slots) i [] in
        found_join (span_in counts i) (attr_objects counts 0 attrs slots) (flat_map attr_forms attrs) (attr_found 0 attrs tile)
        (origin_objects consolidated slots) (origin_forms consolidated) (origin_found consolidated tile) (attrs_at 0 attrs) (origins_at consolidated)

-- the sizes of the tiles have room for the slots
pub slots_long : (frame : Frame) (attrs : List Attr) (frag : FragKey) (s : StoredPiece) → FitsDense frame attrs frag s → length (slots_of frame s) ≡ sum (counts_over frame (box_of s.head.hull))
slots_long frame attrs frag s fits =
    let sound = All-IsDomain frame.domain (fits.sound).domain in
    slots_of_many frame attrs frag s fits ∙ sym (coords_many frame s.head.hull sound (fits.head).hull) ∙ sym (counts_many frame s.head.hull sound (fits.head).hull)

-- at the span of a tile in each object of a piece, what the tile has of its part is found
pub piece_found : (frame : Frame) (attrs : List Attr) (frag : FragKey) (s : StoredPiece) (i : ℕ) → FitsDense frame attrs frag s → i < length (counts_over frame (box_of s.head.hull))
    → FoundAll (span_in (counts_over frame (box_of s.head.hull)) i) (objects_of frame attrs s) (column_forms [] attrs s.head.consolidated)
    (attr_found 0 attrs (get_or (slot_tiles frame s) i []) ++ origin_found s.head.consolidated (get_or (slot_tiles frame s) i []))
unfolding objects_of
piece_found frame attrs frag s i fits within = all_at (counts_over frame (box_of s.head.hull)) i within (slots_of frame s) (slots_long frame attrs frag s fits) attrs s.head.consolidated

-- ---- what the ranges of the parts that are read have

module _ (look : Look) (places : List ℕ) (span : UsedColumn → Span) (kept : (c : UsedColumn) → (span c).part ≡ c.part) (rest : List (List ℕ)) where
  -- what was got of the parts that are read of some objects
  abbrev pub ranges_for : List UsedColumn → List Ranged
  ranges_for used = ranged (map span used) (ranges_of look (map span_call (map span used)) ++ rest)

  -- what was got of one object more
  one_more : (o : Object) (f : ColumnForm) (x : PartBytes) (used : List UsedColumn) (p : Part) → FoundAt span o f x → IsThere look (column_part o)
      → bytes_of (ranges_for (column_for o f ∷ used)) p ≡ cond ((same.ghosts).eq x.part p) x.bytes (bytes_of (ranges_for used) p)
  one_more o f x used p is there =
      let c = column_for o f in
      ap (λ q. cond ((same.ghosts).eq q p) (part_of (span c).from (span c).count (bytes_in (look q))) (bytes_of (ranges_for used) p)) (kept c)
      ∙ ap (λ b. cond ((same.ghosts).eq o.part p) (part_of (span c).from (span c).count (bytes_in b)) (bytes_of (ranges_for used) p)) there.there
      ∙ ap (λ b. cond ((same.ghosts).eq o.part p) b (bytes_of (ranges_for used) p)) is.found ∙ ap (λ q. cond ((same.ghosts).eq q p) x.bytes (bytes_of (ranges_for used) p)) is.same_part

  -- each part that is read has what the tile has of it
  pub read_found : (os : List Object) (fs : List ColumnForm) (ps : List PartBytes) → FoundAll span os fs ps → All (IsThere look) (map column_part os) → (p : Part) → is_used places p ≡ true
      → bytes_of (ranges_for (used_among places (told_of os fs))) p ≡ bytes_at ps p
  read_found [] [] [] found there p used = refl
  read_found [] [] (x ∷ ps) found there p used = absurd found
  read_found [] (f ∷ fs) ps found there p used = absurd found
  read_found (o ∷ os) [] ps found there p used = absurd found
  read_found (o ∷ os) (f ∷ fs) [] found there p used = absurd found
  read_found (o ∷ os) (f ∷ fs) (x ∷ ps) found there p used =
      let here = All-head (IsThere look) (column_part o) (map column_part os) there in
      let others = read_found os fs ps found.1 (All-tail (IsThere look) (column_part o) (map column_part os) there) p used in
      by (is_used places o.part) refl here others
    where
      -- the other objects that are read
      more : List UsedColumn
      more = used_among places (told_of os fs)

      by : (b : Bool) → is_used places o.part ≡ b → IsThere look (column_part o) → bytes_of (ranges_for more) p ≡ bytes_at ps p
          → bytes_of (ranges_for (cond b (column_for o f ∷ more) more)) p ≡ cond ((same.ghosts).eq x.part p) x.bytes (bytes_at ps p)
      by true is here others = one_more o f x more p found.0 here ∙ ap (λ b. cond ((same.ghosts).eq x.part p) x.bytes b) others
      by false is here others = others ∙ skip ((same.ghosts).eq x.part p) refl
        where
          -- an object that is not read is another part
          skip : (b : Bool) → (same.ghosts).eq x.part p ≡ b → bytes_at ps p ≡ cond b x.bytes (bytes_at ps p)
          skip false e = refl
          skip true e =
              let they : o.part ≡ p = found.0.same_part ∙ same_part x.part p e in
              let clash : true ≡ false = sym used ∙ ap (is_used places) (sym they) ∙ is in
              absurd (cc)

  -- and it is no longer than an object
  pub short_found : (os : List Object) (fs : List ColumnForm) (ps : List PartBytes) → FoundAll span os fs ps → All (IsThere look) (map column_part os) → (p : Part) → length (bytes_at ps p) < 2 ^ 64
  short_found [] [] [] found there p = omega arith
  short_found [] [] (x ∷ ps) found there p = absurd found
  short_found [] (f ∷ fs) ps found there p = absurd found
  short_found (o ∷ os) [] ps found there p = absurd found
  short_found (o ∷ os) (f ∷ fs) [] found there p = absurd found
  short_found (o ∷ os) (f ∷ fs) (x ∷ ps) found there p =
      let here = All-head (IsThere look) (column_part o) (map column_part os) there in
      let at = span (column_for o f) in
      let object = wrapped kind.Column o.body in
      let long : length x.bytes < 2 ^ 64 = omega (arith, here.few, ap length (found.0.found), length-take at.count (drop at.from object), length-drop at.from object) in
      by ((same.ghosts).eq x.part p) long (short_found os fs ps found.1 (All-tail (IsThere look) (column_part o) (map column_part os) there) p)
    where
      by : (b : Bool) → length x.bytes < 2 ^ 64 → length (bytes_at ps p) < 2 ^ 64 → length (cond b x.bytes (bytes_at ps p)) < 2 ^ 64
      by true one other = one
      by false one other = other
