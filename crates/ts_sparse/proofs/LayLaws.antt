-- The steps of the loops that lay objects.
use Rattle.std.proofs.Common.{◌≡◌, ℕ, suc, ◌+◌, ◌<◌, ◌≤◌, ℤ, pos, true, List, [], ◌∷◌, ◌++◌, length, get_or, map, drop, refl, sym, ap, ◌∙◌, arith, append_assoc}
use Rattle.std.specs.List.{flat_map}
use Rattle.std.proofs.lemmas.List.{drop_more, drop_all, append-nil}
use Rattle.std.proofs.lemmas.Simd.{map-map}
use Rattle.ts_base.specs.declared.heads.Piece.{Piece}
use Rattle.ts_base.specs.declared.heads.Version.{Version}
use Rattle.ts_base.specs.declared.names.Part.TheVariants as part
use Rattle.ts_base.specs.declared.names.PartBytes.{PartBytes}
use Rattle.ts_base.specs.declared.values.Val.TheVariants.{Null}
use Rattle.ts_base.specs.Values.{width_of, is_integer}
use Rattle.ts_domain.specs.declared.dims.Dim.{Dim}
use Rattle.ts_table.specs.Texts.{joined}
use Rattle.ts_wire.specs.declared.kinds.Kind.TheVariants as kind
use Rattle.ts_wire.specs.Envelope.{wrapped}
use Rattle.ts_wire.specs.Numbers.{number_bytes, int_bytes}
use Rattle.ts_wire.specs.Fields.{bool_bytes}
use Rattle.ts_wire.proofs.Objects.{length-wrapped}
use Rattle.ts_schema.specs.declared.attrs.Attr.{Attr}
use Rattle.ts_plain.specs.declared.stored.StoredCell.{StoredCell}
use Rattle.ts_plain.specs.Writes.{place_of, stored_cell}
use Rattle.ts_column.specs.Spelled.{number_of, text_of}
use Rattle.ts_column.specs.Tiles.{is_there}
use Rattle.ts_sparse.specs.declared.laying.Laid.{Laid}
use Rattle.ts_sparse.specs.Tilings.{tiles_of, tile_starts, starts_in}
use Rattle.ts_sparse.specs.Sparse.{coord_column, value_column, Object, dim_objects, numbers_object, starts_object, bytes_object, fixed_objects, validity_objects, attr_objects, origin_objects, sizes_of, column_part}
use Rattle.ts_sparse.specs.Laying.{with_part, with_objects, none_laid, cells_of, coords_along, values_along}

-- ---- objects one after another

pub with_both : (laid : Laid) (os ps : List Object) → with_objects laid (os ++ ps) ≡ with_objects (with_objects laid os) ps
with_both laid [] ps = refl
with_both laid (o ∷ os) ps = with_both (with_part laid (column_part o) o.starts) os ps

-- what is laid are the parts and the sizes of the objects
laid_behind : (laid : Laid) (os : List Object) → with_objects laid os ≡ record { parts = laid.parts ++ map column_part os; sizes = laid.sizes ++ sizes_of os }
laid_behind laid [] =
    let parts = append-nil laid.parts in
    let sizes = append-nil laid.sizes in
    sym (λ i. record { parts = parts i; sizes = sizes i })
laid_behind laid (o ∷ os) =
    let p = column_part o in
    let size : length p.bytes ≡ 14 + length o.body = length-wrapped kind.Column o.body in
    let parts = append_assoc laid.parts (p ∷ []) (map column_part os) in
    let sizes = append_assoc laid.sizes (length p.bytes ∷ o.starts) (sizes_of os) ∙ ap (λ n. laid.sizes ++ (n ∷ (o.starts ++ sizes_of os))) size in
    laid_behind (with_part laid p o.starts) os ∙ (λ i. record { parts = parts i; sizes = sizes i })

pub laid_all : (os : List Object) → with_objects none_laid os ≡ record { parts = map column_part os; sizes = sizes_of os }
laid_all os = laid_behind none_laid os

-- ---- columns of cells are those of versions

coords_same : (k : ℕ) (piece : Piece) → coord_column k (cells_of piece) ≡ coords_along k piece.versions
coords_same k piece = map-map (λ (c : StoredCell). get_or c.coords k (pos 0)) (stored_cell piece.head.origins) piece.versions

values_same : (k : ℕ) (piece : Piece) → value_column k (cells_of piece) ≡ values_along k piece.versions
values_same k piece = map-map (λ (c : StoredCell). get_or c.row k Null) (stored_cell piece.head.origins) piece.versions

-- ---- dimensions

abbrev pub LayingDims : Laid → List Dim → Piece → Laid → ℕ → Type 0
LayingDims old dims piece new k = with_objects new (dim_objects k (drop k dims) (cells_of piece)) ≡ with_objects old (dim_objects 0 dims (cells_of piece))

abbrev dim_part : ℕ → Dim → List ℤ → PartBytes
dim_part k d xs = record { part = part.Dim k; bytes = wrapped kind.Column (flat_map (int_bytes (width_of d.ty)) xs) }

pub dims_more : (old : Laid) (dims : List Dim) (piece : Piece) (new other : Laid) (k : ℕ) (d : Dim) (bytes : List ℕ) → LayingDims old dims piece new k → k < length dims → d ≡ get_or dims k d
    → bytes ≡ wrapped kind.Column (flat_map (int_bytes (width_of d.ty)) (coords_along k piece.versions)) → other ≡ with_part new (record { part = part.Dim k; bytes = bytes }) [] → LayingDims old dims piece other (k + 1)
dims_more old dims piece new other k d bytes laid within is spelled push =
    let cells = cells_of piece in
    let others = drop (k + 1) dims in
    let next : suc k ≡ k + 1 = omega arith in
    let rest : drop k dims ≡ d ∷ others = drop_more dims k d within ∙ ap (λ x. x ∷ others) (sym is) in
    ap (λ l. with_objects l (dim_objects (k + 1) others cells)) push
    ∙ ap (λ b. with_objects (with_part new (record { part = part.Dim k; bytes = b }) []) (dim_objects (k + 1) others cells)) spelled
    ∙ ap (λ xs. with_objects (with_part new (dim_part k d xs) []) (dim_objects (k + 1) others cells)) (sym (coords_same k piece))
    ∙ ap (λ i. with_objects (with_part new (dim_part k d (coord_column k cells)) []) (dim_objects i others cells)) (sym next)
    ∙ ap (λ ds. with_objects new (dim_objects k ds cells)) (sym rest) ∙ laid

pub dims_all : (old : Laid) (dims : List Dim) (piece : Piece) (new : Laid) (k : ℕ) → LayingDims old dims piece new k → length dims ≤ k → new ≡ with_objects old (dim_objects 0 dims (cells_of piece))
dims_all old dims piece new k laid over = ap (λ ds. with_objects new (dim_objects k ds (cells_of piece))) (sym (drop_all k dims over)) ∙ laid

-- ---- attributes

abbrev pub LayingAttrs : ℕ → Laid → List Attr → Piece → Laid → ℕ → Type 0
LayingAttrs n old attrs piece new k = with_objects new (attr_objects n k (drop k attrs) (cells_of piece)) ≡ with_objects old (attr_objects n 0 attrs (cells_of piece))

pub attrs_more : (n : ℕ) (old : Laid) (attrs : List Attr) (piece : Piece) (new other : Laid) (k : ℕ) (a : Attr) → LayingAttrs n old attrs piece new k → k < length attrs → a ≡ get_or attrs k a
    → other ≡ with_objects (with_objects new (fixed_objects (is_integer a.ty) n k a.ty (value_column k (cells_of piece)))) (validity_objects a.nullable k (value_column k (cells_of piece))) → LayingAttrs n old attrs piece other (k + 1)
attrs_more n old attrs piece new other k a laid within is push =
    let cells = cells_of piece in
    let others = drop (k + 1) attrs in
    let fixed = fixed_objects (is_integer a.ty) n k a.ty (value_column k cells) in
    let validity = validity_objects a.nullable k (value_column k cells) in
    let next : suc k ≡ k + 1 = omega arith in
    let rest : drop k attrs ≡ a ∷ others = drop_more attrs k a within ∙ ap (λ x. x ∷ others) (sym is) in
    ap (λ l. with_objects l (attr_objects n (k + 1) others cells)) push
    ∙ sym (with_both (with_objects new fixed) validity (attr_objects n (k + 1) others cells))
    ∙ sym (with_both new fixed (validity ++ attr_objects n (k + 1) others cells))
    ∙ ap (λ i. with_objects new (fixed ++ (validity ++ attr_objects n i others cells))) (sym next)
    ∙ ap (λ rows. with_objects new (attr_objects n k rows cells)) (sym rest) ∙ laid

pub attrs_all : (n : ℕ) (old : Laid) (attrs : List Attr) (piece : Piece) (new : Laid) (k : ℕ) → LayingAttrs n old attrs piece new k → length attrs ≤ k → new ≡ with_objects old (attr_objects n 0 attrs (cells_of piece))
attrs_all n old attrs piece new k laid over = ap (λ l. with_objects new (attr_objects n k l (cells_of piece))) (sym (drop_all k attrs over)) ∙ laid

-- ---- the objects of an attribute

pub numbers_laid : (old new : Laid) (k : ℕ) (a : Attr) (piece : Piece) (bytes : List ℕ) → bytes ≡ wrapped kind.Column (flat_map (int_bytes (width_of a.ty)) (map number_of (values_along k piece.versions)))
    → new ≡ with_part old (record { part = part.Attr k; bytes = bytes }) [] → new ≡ with_objects old (numbers_object k a.ty (value_column k (cells_of piece)) ∷ [])
numbers_laid old new k a piece bytes spelled push =
    push ∙ ap (λ b. with_part old (record { part = part.Attr k; bytes = b }) []) spelled
    ∙ ap (λ vals. with_objects old (numbers_object k a.ty vals ∷ [])) (sym (values_same k piece))

pub texts_laid : (n : ℕ) (old mid new : Laid) (k : ℕ) (piece : Piece) (inner outer starts : List ℕ) → inner ≡ wrapped kind.Column (flat_map (number_bytes 8) (starts_in (tiles_of n (map text_of (values_along k piece.versions)))))
    → outer ≡ wrapped kind.Column (joined (map text_of (values_along k piece.versions))) → starts ≡ tile_starts 14 (tiles_of n (map text_of (values_along k piece.versions)))
    → mid ≡ with_part old (record { part = part.Attr k; bytes = inner }) [] → new ≡ with_part mid (record { part = part.Var k; bytes = outer }) starts
    → new ≡ with_objects old (starts_object n k (value_column k (cells_of piece)) ∷ bytes_object n k (value_column k (cells_of piece)) ∷ [])
texts_laid n old mid new k piece inner outer starts first all begun push more =
    let texts = map text_of (values_along k piece.versions) in
    more
    ∙ ap (λ b. with_part mid (record { part = part.Var k; bytes = b }) starts) all
    ∙ ap (λ s. with_part mid (record { part = part.Var k; bytes = wrapped kind.Column (joined texts) }) s) begun
    ∙ ap (λ l. with_part l (record { part = part.Var k; bytes = wrapped kind.Column (joined texts) }) (tile_starts 14 (tiles_of n texts))) (push ∙ ap (λ b. with_part old (record { part = part.Attr k; bytes = b }) []) first)
    ∙ ap (λ vals. with_objects old (starts_object n k vals ∷ bytes_object n k vals ∷ [])) (sym (values_same k piece))

pub validity_laid : (old new : Laid) (k : ℕ) (piece : Piece) (bytes : List ℕ) → bytes ≡ wrapped kind.Column (flat_map bool_bytes (map is_there (values_along k piece.versions)))
    → new ≡ with_part old (record { part = part.Validity k; bytes = bytes }) [] → new ≡ with_objects old (validity_objects true k (value_column k (cells_of piece)))
validity_laid old new k piece bytes spelled push =
    push ∙ ap (λ b. with_part old (record { part = part.Validity k; bytes = b }) []) spelled
    ∙ ap (λ vals. with_objects old (validity_objects true k vals)) (sym (values_same k piece))

-- ---- origins

pub origins_laid : (old new : Laid) (piece : Piece) (bytes : List ℕ) → bytes ≡ wrapped kind.Column (flat_map (number_bytes 4) (map (λ (v : Version). place_of piece.head.origins v.key) piece.versions))
    → new ≡ with_part old (record { part = part.Origin; bytes = bytes }) [] → new ≡ with_objects old (origin_objects true (cells_of piece))
origins_laid old new piece bytes spelled push =
    push ∙ ap (λ b. with_part old (record { part = part.Origin; bytes = b }) []) spelled
    ∙ ap (λ is. with_part old (record { part = part.Origin; bytes = wrapped kind.Column (flat_map (number_bytes 4) is) }) []) (sym (map-map (λ (c : StoredCell). c.origin) (stored_cell piece.head.origins) piece.versions))
