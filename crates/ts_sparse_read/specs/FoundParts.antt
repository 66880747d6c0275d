-- What is found of the parts that are read of a tile.
use Rattle.std.specs.Prelude.{if◌then◌else◌}
use Rattle.std.proofs.Common.{◌≡◌, ℕ, zero, suc, ◌*◌, ◌^◌, ◌<◌, ◌≤◌, ℤ, pos, Bool, true, false, cond, List, [], ◌∷◌, ◌++◌, length, map, get_or, drop, refl, sym, ap, ◌∙◌, subst, arith, append_assoc, length-take, length-drop}
use Rattle.std.specs.List.{flat_map, All}
use Rattle.std.proofs.lemmas.Bool.{eqb-true}
use Rattle.std.proofs.lemmas.List.{length-map}
use Rattle.std.proofs.lemmas.List.Elements.{All-head, All-tail}
use Rattle.ts_base.specs.declared.names.Part.{Part}
use Rattle.ts_base.specs.declared.names.Part.TheVariants as part
use Rattle.ts_base.specs.declared.names.PartBytes.{PartBytes}
use Rattle.ts_base.specs.contracts.names.PartPartialEq.TheImpl as same
use Rattle.ts_base.specs.declared.values.Val.{Val}
use Rattle.ts_base.specs.declared.values.Val.TheVariants.{Null}
use Rattle.ts_base.specs.declared.values.ValType.{ValType}
use Rattle.ts_base.specs.Values.{is_integer, width_of}
use Rattle.ts_domain.specs.declared.dims.Dim.{Dim}
use Rattle.ts_schema.specs.Parts.{Look}
use Rattle.ts_schema.specs.declared.attrs.Attr.{Attr}
use Rattle.ts_schema.specs.declared.frames.Frame.{Frame}
use Rattle.ts_wire.specs.declared.kinds.Kind.TheVariants as kind
use Rattle.ts_wire.specs.Envelope.{wrapped}
use Rattle.ts_wire.specs.Numbers.{number_bytes, int_bytes}
use Rattle.ts_wire.specs.Fields.{bool_bytes}
use Rattle.ts_wire.proofs.Numbers.{length-number_bytes}
use Rattle.ts_plain.specs.declared.stored.StoredCell.{StoredCell}
use Rattle.ts_plain.specs.declared.stored.StoredPiece.{StoredPiece}
use Rattle.ts_store.specs.Calls.{part_of}
use Rattle.ts_table.specs.Texts.{joined, starts_from}
use Rattle.ts_column.specs.Tiles.{is_there}
use Rattle.ts_column.specs.Spelled.{number_of, text_of, fixed_bytes}
use Rattle.ts_footer.specs.declared.columns.ColumnForm.{ColumnForm}
use Rattle.ts_footer.specs.declared.columns.ColumnForm.TheVariants.{Fixed, Var}
use Rattle.ts_footer.specs.Columns.{dim_form, value_forms, validity_forms, attr_forms, origin_forms, column_forms, fixed_length}
use Rattle.ts_fetch.specs.Plans.{bytes_in, ranges_of}
use Rattle.ts_sparse.specs.Tilings.{tiles_of, starts_in}
use Rattle.ts_sparse.specs.Sparse.{Object, coord_column, value_column, origin_column, dim_objects, fixed_objects, validity_objects, attr_objects, origin_objects, objects_of, column_part, IsThere}
use Rattle.ts_sparse.specs.Told.{size_of}
use Rattle.ts_sparse.proofs.Shapes.{map_tiles}
use Rattle.ts_sparse_read.specs.declared.opened.UsedColumn.{UsedColumn}
use Rattle.ts_sparse_read.specs.Faults.{Ranged, bytes_of}
use Rattle.ts_sparse_read.specs.Used.{dim_parts, value_parts, validity_parts, attr_parts, origin_parts, column_parts, columns_told, is_used, used_among, cells_at, span_by, span_of}
use Rattle.ts_sparse_read.specs.Opens.{span_call}
use Rattle.ts_sparse_read.specs.Judges.{ranged}
use Rattle.ts_sparse_read.specs.FoundBytes.{tile_of_map, fixed_found, starts_found, bytes_found}

-- ---- the parts of all objects

dims_match : (k : ℕ) (dims : List Dim) (cells : List StoredCell) → map (λ o. o.part) (dim_objects k dims cells) ≡ dim_parts k dims
dims_match k [] cells = refl
dims_match k (d ∷ dims) cells = ap (λ ps. part.Dim k ∷ ps) (dims_match (suc k) dims cells)

parts_join : (os ps : List Object) → map (λ o. o.part) (os ++ ps) ≡ map (λ o. o.part) os ++ map (λ o. o.part) ps
parts_join [] ps = refl
parts_join (o ∷ os) ps = ap (λ more. o.part ∷ more) (parts_join os ps)

fixed_match : (b : Bool) (n k : ℕ) (ty : ValType) (vals : List Val) → map (λ o. o.part) (fixed_objects b n k ty vals) ≡ value_parts b k
fixed_match true n k ty vals = refl
fixed_match false n k ty vals = refl

validity_match : (b : Bool) (k : ℕ) (vals : List Val) → map (λ o. o.part) (validity_objects b k vals) ≡ validity_parts b k
validity_match true k vals = refl
validity_match false k vals = refl

attrs_match : (n k : ℕ) (attrs : List Attr) (cells : List StoredCell) → map (λ o. o.part) (attr_objects n k attrs cells) ≡ attr_parts k attrs
attrs_match n k [] cells = refl
attrs_match n k (a ∷ attrs) cells =
    let fixed = fixed_objects (is_integer a.ty) n k a.ty (value_column k cells) in
    let validity = validity_objects a.nullable k (value_column k cells) in
    let others = attr_objects n (suc k) attrs cells in
    parts_join fixed (validity ++ others)
    ∙ ap (λ ps. map (λ (o : Object). o.part) fixed ++ ps) (parts_join validity others ∙ ap (λ ps. map (λ (o : Object). o.part) validity ++ ps) (attrs_match n (suc k) attrs cells)
    ∙ ap (λ ps. ps ++ attr_parts (suc k) attrs) (validity_match a.nullable k (value_column k cells)))
    ∙ ap (λ ps. ps ++ (validity_parts a.nullable k ++ attr_parts (suc k) attrs)) (fixed_match (is_integer a.ty) n k a.ty (value_column k cells))

origins_match : (b : Bool) (cells : List StoredCell) → map (λ o. o.part) (origin_objects b cells) ≡ origin_parts b
origins_match true cells = refl
origins_match false cells = refl

-- the objects of a piece are those of the parts of its columns, in their order
pub parts_match : (frame : Frame) (attrs : List Attr) (s : StoredPiece) → map (λ o. o.part) (objects_of frame attrs s) ≡ column_parts frame.domain attrs s.head.consolidated
unfolding objects_of column_parts
parts_match frame attrs s =
    let dims = dim_objects 0 frame.domain s.cells in
    let vals = attr_objects frame.capacity 0 attrs s.cells in
    let origins = origin_objects s.head.consolidated s.cells in
    parts_join dims (vals ++ origins)
    ∙ ap (λ ps. map (λ (o : Object). o.part) dims ++ ps) (parts_join vals origins ∙ ap (λ ps. map (λ (o : Object). o.part) vals ++ ps) (origins_match s.head.consolidated s.cells)
    ∙ ap (λ ps. ps ++ origin_parts s.head.consolidated) (attrs_match frame.capacity 0 attrs s.cells))
    ∙ ap (λ ps. ps ++ (attr_parts 0 attrs ++ origin_parts s.head.consolidated)) (dims_match 0 frame.domain s.cells)

-- ---- what a tile has of each part

-- the coordinates along the dimensions from the k-th on
abbrev pub dim_found : ℕ → List Dim → List StoredCell → List PartBytes
dim_found k [] tile = []
dim_found k (d ∷ dims) tile = record { part = part.Dim k; bytes = flat_map (int_bytes (width_of d.ty)) (coord_column k tile) } ∷ dim_found (suc k) dims tile

-- integers, or starts and then bytes
abbrev pub value_found : Bool → ℕ → ValType → List Val → List PartBytes
value_found true k ty vals = record { part = part.Attr k; bytes = fixed_bytes true ty vals } ∷ []
value_found false k ty vals = record { part = part.Attr k; bytes = fixed_bytes false ty vals } ∷ (record { part = part.Var k; bytes = joined (map text_of vals) } ∷ [])

-- which values are there
abbrev pub validity_found : Bool → ℕ → List Val → List PartBytes
validity_found true k vals = record { part = part.Validity k; bytes = flat_map bool_bytes (map is_there vals) } ∷ []
validity_found false k vals = []

-- the values of the attributes from the k-th on
abbrev pub attr_found : ℕ → List Attr → List StoredCell → List PartBytes
attr_found k [] tile = []
attr_found k (a ∷ attrs) tile = value_found (is_integer a.ty) k a.ty (value_column k tile) ++ (validity_found a.nullable k (value_column k tile) ++ attr_found (suc k) attrs tile)

-- which writes the cells are of
abbrev pub origin_found : Bool → List StoredCell → List PartBytes
origin_found true tile = record { part = part.Origin; bytes = flat_map (number_bytes 4) (origin_column tile) } ∷ []
origin_found false tile = []

-- all parts of a tile
abbrev pub tile_found_of : List Dim → List Attr → Bool → List StoredCell → List PartBytes
tile_found_of dims attrs consolidated tile = dim_found 0 dims tile ++ (attr_found 0 attrs tile ++ origin_found consolidated tile)

-- ---- what is found at the spans of the objects

-- at the span of a tile in an object, of a form, these bytes are found
pub record FoundAt (n cells i : ℕ) (o : Object) (form : ColumnForm) (p : PartBytes) : Type 0 where
  pub same_part : o.part ≡ p.part
  pub found : part_of (span_by form n cells i o.part (size_of o)).from (span_by form n cells i o.part (size_of o)).count (wrapped kind.Column o.body) ≡ p.bytes

-- so it is for each object
abbrev pub FoundAll : ℕ → ℕ → ℕ → List Object → List ColumnForm → List PartBytes → Type 0
FoundAll n cells i [] [] [] = Unit {0}
FoundAll n cells i (o ∷ os) (f ∷ fs) (p ∷ ps) = FoundAt n cells i o f p × FoundAll n cells i os fs ps
FoundAll n cells i _ _ _ = ⊥

module _ (n cells i : ℕ) where
  found_join : (os : List Object) (fs : List ColumnForm) (ps : List PartBytes) (more : List Object) (forms : List ColumnForm) (others : List PartBytes)
      → FoundAll n cells i os fs ps → FoundAll n cells i more forms others → FoundAll n cells i (os ++ more) (fs ++ forms) (ps ++ others)
  found_join [] [] [] more forms others first second = second
  found_join [] [] (p ∷ ps) more forms others first second = absurd first
  found_join [] (f ∷ fs) ps more forms others first second = absurd first
  found_join (o ∷ os) [] ps more forms others first second = absurd first
  found_join (o ∷ os) (f ∷ fs) [] more forms others first second = absurd first
  found_join (o ∷ os) (f ∷ fs) (p ∷ ps) more forms others first second = (first.0, found_join os fs ps more forms others first.1 second)

int_wide : (w : ℕ) (z : ℤ) → length (int_bytes w z) ≡ w
unfolding int_bytes
int_wide w z = length-number_bytes w _

bool_wide : (b : Bool) → length (bool_bytes b) ≡ 1
unfolding bool_bytes
bool_wide b = length-number_bytes 1 _

module _ (rest i : ℕ) where
  within_map : {X Y : Type 0} (f : X → Y) (xs : List X) → i < length (tiles_of (suc rest) xs) → i < length (tiles_of (suc rest) (map f xs))
  within_map f xs within = omega (arith, within, ap length (map_tiles f (suc rest) xs), length-map (tiles_of (suc rest) xs) (map f))

  -- a column of one width
  column_at : {X Y : Type 0} (spell : Y → List ℕ) (w : ℕ) (wide : (y : Y) → length (spell y) ≡ w) (f : X → Y) (xs : List X) → i < length (tiles_of (suc rest) xs)
      → part_of (fixed_length w (i * suc rest)) (w * cells_at (suc rest) (length xs) i) (wrapped kind.Column (flat_map spell (map f xs))) ≡ flat_map spell (map f (get_or (tiles_of (suc rest) xs) i []))
  column_at spell w wide f xs within =
      ap (λ k. part_of (fixed_length w (i * suc rest)) (w * cells_at (suc rest) k i) (wrapped kind.Column (flat_map spell (map f xs)))) (sym (length-map xs f))
      ∙ fixed_found spell w wide rest i (map f xs) (within_map f xs within) ∙ ap (flat_map spell) (tile_of_map f (suc rest) i xs)

  -- the objects of a column of values
  values_at : (b : Bool) (k : ℕ) (ty : ValType) (vals : List Val) → i < length (tiles_of (suc rest) vals)
      → FoundAll (suc rest) (length vals) i (fixed_objects b (suc rest) k ty vals) (if b then Fixed (width_of ty) ∷ [] else Fixed 8 ∷ (Var ∷ [])) (value_found b k ty (get_or (tiles_of (suc rest) vals) i []))
  values_at true k ty vals within = (record { same_part = refl; found = column_at (int_bytes (width_of ty)) (width_of ty) (int_wide (width_of ty)) number_of vals within }, tt)
  values_at false k ty vals within =
      let texts = map text_of vals in
      let inside = within_map text_of vals within in
      let tile = tile_of_map text_of (suc rest) i vals in
      let starts = ap (λ m. part_of (fixed_length 8 (i * suc rest)) (8 * cells_at (suc rest) m i) (wrapped kind.Column (flat_map (number_bytes 8) (starts_in (tiles_of (suc rest) texts))))) (sym (length-map vals text_of))
      ∙ starts_found rest i texts inside ∙ ap (λ ts. flat_map (number_bytes 8) (starts_from 0 ts)) tile in
      (record { same_part = refl; found = starts }, (record { same_part = refl; found = bytes_found (suc rest) i texts inside ∙ ap joined tile }, tt))

  marks_at : (b : Bool) (k : ℕ) (vals : List Val) → i < length (tiles_of (suc rest) vals)
      → FoundAll (suc rest) (length vals) i (validity_objects b k vals) (validity_forms b) (validity_found b k (get_or (tiles_of (suc rest) vals) i []))
  marks_at true k vals within = (record { same_part = refl; found = column_at bool_bytes 1 bool_wide is_there vals within }, tt)
  marks_at false k vals within = tt

  module _ (cells : List StoredCell) (within : i < length (tiles_of (suc rest) cells)) where
    dims_at : (k : ℕ) (dims : List Dim) → FoundAll (suc rest) (length cells) i (dim_objects k dims cells) (map dim_form dims) (dim_found k dims (get_or (tiles_of (suc rest) cells) i []))
    dims_at k [] = tt
    dims_at k (d ∷ dims) = (record { same_part = refl; found = column_at (int_bytes (width_of d.ty)) (width_of d.ty) (int_wide (width_of d.ty)) (λ c. get_or c.coords k (pos 0)) cells within }, dims_at (suc k) dims)

    origins_at : (b : Bool) → FoundAll (suc rest) (length cells) i (origin_objects b cells) (origin_forms b) (origin_found b (get_or (tiles_of (suc rest) cells) i []))
    origins_at true = (record { same_part = refl; found = column_at (number_bytes 4) 4 (length-number_bytes 4) (λ c. c.origin) cells within }, tt)
    origins_at false = tt

    attrs_at : (k : ℕ) (attrs : List Attr) → FoundAll (suc rest) (length cells) i (attr_objects (suc rest) k attrs cells) (flat_map attr_forms attrs) (attr_found k attrs (get_or (tiles_of (suc rest) cells) i []))
    attrs_at k [] = tt
    attrs_at k (a ∷ attrs) =
        let tile = get_or (tiles_of (suc rest) cells) i [] in
        let get : StoredCell → Val = λ c. get_or c.row k Null in
        let vals = value_column k cells in
        let many : length vals ≡ length cells = length-map cells get in
        let there : get_or (tiles_of (suc rest) vals) i [] ≡ value_column k tile = tile_of_map get (suc rest) i cells in
        let inside = within_map get cells within in
        let V : List Val → ℕ → Type 0 = λ vs m. FoundAll (suc rest) m i (fixed_objects (is_integer a.ty) (suc rest) k a.ty vals) (value_forms a.ty) (value_found (is_integer a.ty) k a.ty vs) in
        let M : List Val → ℕ → Type 0 = λ vs m. FoundAll (suc rest) m i (validity_objects a.nullable k vals) (validity_forms a.nullable) (validity_found a.nullable k vs) in
        let first : V (value_column k tile) (length cells) = subst (λ vs. V vs (length cells)) there (subst (V (get_or (tiles_of (suc rest) vals) i [])) many (values_at (is_integer a.ty) k a.ty vals inside)) in
        let second : M (value_column k tile) (length cells) = subst (λ vs. M vs (length cells)) there (subst (M (get_or (tiles_of (suc rest) vals) i [])) many (marks_at a.nullable k vals inside)) in
        let others = found_join (suc rest) (length cells) i (validity_objects a.nullable k vals) (validity_forms a.nullable) (validity_found a.nullable k (value_column k tile))
        (attr_objects (suc rest) (suc k) attrs cells) (flat_map attr_forms attrs) (attr_found (suc k) attrs tile) second (attrs_at (suc k) attrs) in
        subst (λ fs. FoundAll (suc rest) (length cells) i (attr_objects (suc rest) k (a ∷ attrs) cells) fs (attr_found k (a ∷ attrs) tile))
        (sym (append_assoc (value_forms a.ty) (validity_forms a.nullable) (flat_map attr_forms attrs)))
        (found_join (suc rest) (length cells) i (fixed_objects (is_integer a.ty) (suc rest) k a.ty vals) (value_forms a.ty) (value_found (is_integer a.ty) k a.ty (value_column k tile))
        (validity_objects a.nullable k vals ++ attr_objects (suc rest) (suc k) attrs cells) (validity_forms a.nullable ++ flat_map attr_forms attrs) (validity_found a.nullable k (value_column k tile) ++ attr_found (suc k) attrs tile) first others)

    all_at : (dims : List Dim) (attrs : List Attr) (consolidated : Bool)
        → FoundAll (suc rest) (length cells) i (dim_objects 0 dims cells ++ (attr_objects (suc rest) 0 attrs cells ++ origin_objects consolidated cells)) (column_forms dims attrs consolidated)
        (tile_found_of dims attrs consolidated (get_or (tiles_of (suc rest) cells) i []))
    unfolding column_forms
    all_at dims attrs consolidated =
        let tile = get_or (tiles_of (suc rest) cells) i [] in
        found_join (suc rest) (length cells) i (dim_objects 0 dims cells) (map dim_form dims) (dim_found 0 dims tile)
        (attr_objects (suc rest) 0 attrs cells ++ origin_objects consolidated cells) (flat_map attr_forms attrs ++ origin_forms consolidated) (attr_found 0 attrs tile ++ origin_found consolidated tile)
        (dims_at 0 dims)
        (found_join (suc rest) (length cells) i (attr_objects (suc rest) 0 attrs cells) (flat_map attr_forms attrs) (attr_found 0 attrs tile)
        (origin_objects consolidated cells) (origin_forms consolidated) (origin_found consolidated tile) (attrs_at 0 attrs) (origins_at consolidated))

-- at the span of a tile in each object of a piece, what the tile has of its part is found
pub piece_found : (frame : Frame) (attrs : List Attr) (s : StoredPiece) (i : ℕ) → 1 ≤ frame.capacity → i < length (tiles_of frame.capacity s.cells)
    → FoundAll frame.capacity (length s.cells) i (objects_of frame attrs s) (column_forms frame.domain attrs s.head.consolidated)
    (tile_found_of frame.domain attrs s.head.consolidated (get_or (tiles_of frame.capacity s.cells) i []))
unfolding objects_of
piece_found frame attrs s i some within = by frame.capacity some within
  where
    by : (n : ℕ) → 1 ≤ n → i < length (tiles_of n s.cells)
        → FoundAll n (length s.cells) i (dim_objects 0 frame.domain s.cells ++ (attr_objects n 0 attrs s.cells ++ origin_objects s.head.consolidated s.cells)) (column_forms frame.domain attrs s.head.consolidated)
        (tile_found_of frame.domain attrs s.head.consolidated (get_or (tiles_of n s.cells) i []))
    by zero some within = absurd (omega arith)
    by (suc rest) some within = all_at rest i s.cells within frame.domain attrs s.head.consolidated

-- ---- what the ranges of the parts that are read have

-- the bytes of a part, none where it is not among these
abbrev pub bytes_at : List PartBytes → Part → List ℕ
bytes_at [] p = []
bytes_at (x ∷ xs) p = cond ((same.ghosts).eq x.part p) x.bytes (bytes_at xs p)

-- parts that are equal are the same
pub same_part : (p q : Part) → (same.ghosts).eq p q ≡ true → p ≡ q
same_part part.Meta part.Meta e = refl
same_part (part.Attr n) (part.Attr k) e = ap part.Attr (eqb-true n k e)
same_part (part.Var n) (part.Var k) e = ap part.Var (eqb-true n k e)
same_part (part.Validity n) (part.Validity k) e = ap part.Validity (eqb-true n k e)
same_part (part.Dim n) (part.Dim k) e = ap part.Dim (eqb-true n k e)
same_part part.Origin part.Origin e = refl
same_part part.Plain part.Plain e = refl
same_part _ _ e = cc

module _ (look : Look) (places : List ℕ) (n cells i : ℕ) (rest : List (List ℕ)) where
  -- what was got of the parts that are read of some objects
  abbrev pub ranges_for : List UsedColumn → List Ranged
  ranges_for used = ranged (map (span_of n cells i) used) (ranges_of look (map span_call (map (span_of n cells i) used)) ++ rest)

  -- what the metadata tells of some objects
  abbrev pub told_of : List Object → List ColumnForm → List UsedColumn
  told_of os fs = columns_told (map (λ o. o.part) os) fs (map size_of os)

  one_more : (o : Object) (f : ColumnForm) (x : PartBytes) (used : List UsedColumn) (p : Part) → FoundAt n cells i o f x → IsThere look (column_part o)
      → bytes_of (ranges_for (record { part = o.part; form = f; size = size_of o } ∷ used)) p ≡ cond ((same.ghosts).eq x.part p) x.bytes (bytes_of (ranges_for used) p)
  one_more o (Fixed w) x used p is there =
      ap (λ b. cond ((same.ghosts).eq o.part p) (part_of (span_by (Fixed w) n cells i o.part (size_of o)).from (span_by (Fixed w) n cells i o.part (size_of o)).count (bytes_in b)) (bytes_of (ranges_for used) p)) there.there
      ∙ ap (λ b. cond ((same.ghosts).eq o.part p) b (bytes_of (ranges_for used) p)) is.found ∙ ap (λ q. cond ((same.ghosts).eq q p) x.bytes (bytes_of (ranges_for used) p)) is.same_part
  one_more o Var x used p is there =
      ap (λ b. cond ((same.ghosts).eq o.part p) (part_of (span_by Var n cells i o.part (size_of o)).from (span_by Var n cells i o.part (size_of o)).count (bytes_in b)) (bytes_of (ranges_for used) p)) there.there
      ∙ ap (λ b. cond ((same.ghosts).eq o.part p) b (bytes_of (ranges_for used) p)) is.found ∙ ap (λ q. cond ((same.ghosts).eq q p) x.bytes (bytes_of (ranges_for used) p)) is.same_part

  -- each part that is read has what the tile has of it
  pub read_found : (os : List Object) (fs : List ColumnForm) (ps : List PartBytes) → FoundAll n cells i os fs ps → All (IsThere look) (map column_part os) → (p : Part) → is_used places p ≡ true
      → bytes_of (ranges_for (used_among places (told_of os fs))) p ≡ bytes_at ps p
  read_found [] [] [] found there p used = refl
  read_found [] [] (x ∷ ps) found there p used = absurd found
  read_found [] (f ∷ fs) ps found there p used = absurd found
  read_found (o ∷ os) [] ps found there p used = absurd found
  read_found (o ∷ os) (f ∷ fs) [] found there p used = absurd found
  read_found (o ∷ os) (f ∷ fs) (x ∷ ps) found there p used =
      let here = All-head (IsThere look) (column_part o) (map column_part os) there in
      let others = read_found os fs ps found.1 (All-tail (IsThere look) (column_part o) (map column_part os) there) p used in
      by (is_used places o.part) refl here others
    where
      column : UsedColumn
      column = record { part = o.part; form = f; size = size_of o }

      more : List UsedColumn
      more = used_among places (told_of os fs)

      by : (b : Bool) → is_used places o.part ≡ b → IsThere look (column_part o) → bytes_of (ranges_for more) p ≡ bytes_at ps p
          → bytes_of (ranges_for (cond b (column ∷ more) more)) p ≡ cond ((same.ghosts).eq x.part p) x.bytes (bytes_at ps p)
      by true is here others = one_more o f x more p found.0 here ∙ ap (λ b. cond ((same.ghosts).eq x.part p) x.bytes b) others
      by false is here others = others ∙ skip ((same.ghosts).eq x.part p) refl
        where
          skip : (b : Bool) → (same.ghosts).eq x.part p ≡ b → bytes_at ps p ≡ cond b x.bytes (bytes_at ps p)
          skip false e = refl
          skip true e =
              let they : o.part ≡ p = found.0.same_part ∙ same_part x.part p e in
              let clash : true ≡ false = sym used ∙ ap (is_used places) (sym they) ∙ is in
              absurd (cc)

  -- and it is no longer than an object
  pub short_found : (os : List Object) (fs : List ColumnForm) (ps : List PartBytes) → FoundAll n cells i os fs ps → All (IsThere look) (map column_part os) → (p : Part) → length (bytes_at ps p) < 2 ^ 64
  short_found [] [] [] found there p = omega arith
  short_found [] [] (x ∷ ps) found there p = absurd found
  short_found [] (f ∷ fs) ps found there p = absurd found
  short_found (o ∷ os) [] ps found there p = absurd found
  short_found (o ∷ os) (f ∷ fs) [] found there p = absurd found
  short_found (o ∷ os) (f ∷ fs) (x ∷ ps) found there p =
      let here = All-head (IsThere look) (column_part o) (map column_part os) there in
      let span = span_by f n cells i o.part (size_of o) in
      let object = wrapped kind.Column o.body in
      let long : length x.bytes < 2 ^ 64 = omega (arith, here.few, ap length (found.0.found), length-take span.count (drop span.from object), length-drop span.from object) in
      by ((same.ghosts).eq x.part p) long (short_found os fs ps found.1 (All-tail (IsThere look) (column_part o) (map column_part os) there) p)
    where
      by : (b : Bool) → length x.bytes < 2 ^ 64 → length (bytes_at ps p) < 2 ^ 64 → length (cond b x.bytes (bytes_at ps p)) < 2 ^ 64
      by true one other = one
      by false one other = other
