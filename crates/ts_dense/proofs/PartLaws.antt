-- The objects of slots are those of what is stored of the piece, and with the metadata they are all parts.
use Rattle.std.proofs.Common.{◌≡◌, ℕ, suc, ℤ, Bool, true, false, List, [], ◌∷◌, ◌++◌, length, get_or, map, refl, sym, ap, ◌∙◌, subst, ◌<◌, ◌^◌}
use Rattle.std.specs.Prelude.{Some, None, if◌then◌else◌}
use Rattle.std.specs.List.{flat_map, All}
use Rattle.std.proofs.lemmas.List.{length-map}
use Rattle.std.proofs.lemmas.List.Elements.{All-nil, All-cons, All-append}
use Rattle.ts_base.specs.declared.heads.Piece.{Piece}
use Rattle.ts_base.specs.declared.heads.Version.{Version}
use Rattle.ts_base.specs.declared.keys.Key.{Key}
use Rattle.ts_base.specs.declared.names.Part.TheVariants as part
use Rattle.ts_base.specs.declared.names.PartBytes.{PartBytes}
use Rattle.ts_base.specs.declared.values.Val.TheVariants.{Null}
use Rattle.ts_base.specs.Values.{is_integer}
use Rattle.ts_base.specs.Coords.{coords_eq}
use Rattle.ts_domain.specs.Boxes.{cells_of}
use Rattle.ts_wire.specs.declared.kinds.Kind.TheVariants as kind
use Rattle.ts_wire.specs.Envelope.{wrapped}
use Rattle.ts_wire.specs.Numbers.{number_bytes}
use Rattle.ts_schema.specs.declared.attrs.Attr.{Attr}
use Rattle.ts_schema.specs.declared.frames.Frame.{Frame}
use Rattle.ts_schema.specs.declared.schemas.Schema.{Schema}
use Rattle.ts_schema.specs.Parts.{look_in}
use Rattle.ts_plain.specs.declared.stored.StoredCell.{StoredCell}
use Rattle.ts_plain.specs.Plain.{head_bytes}
use Rattle.ts_plain.specs.Writes.{stored_head, stored_cell, hulled_for, NamesWrites}
use Rattle.ts_sparse.specs.declared.laying.Laid.{Laid}
use Rattle.ts_sparse.specs.Sparse.{value_column, validity_objects, origin_column, origin_objects, sizes_of, column_part}
use Rattle.ts_sparse.specs.Laying.{with_objects, none_laid}
use Rattle.ts_sparse.proofs.LayLaws.{with_both, laid_all}
use Rattle.ts_sparse.proofs.FormLaws.{counted_back}
use Rattle.ts_sparse.proofs.BuildLaws.{short_objects}
use Rattle.ts_dense.specs.declared.slots.Slots.{Slots}
use Rattle.ts_dense.specs.Slots.{tiles_over, counts_over, coords_over, hole, slots_from, slots_of}
use Rattle.ts_dense.specs.Dense.{fixed_objects, attr_objects, objects_of, meta_bytes, meta_part, parts_of, FitsDense, IsDense}
use Rattle.ts_dense.proofs.FormLaws.{dense_counts}
use Rattle.ts_dense.proofs.OnceLaws.{parts_spell}
use Rattle.ts_dense.specs.Laying.{versions_at, hull_of_head, cell_in, slot_cells, slot_objects, meta_with, IsSlots}

-- ---- columns do not tell where holes stand

module _ {X : Type 0} (f : StoredCell → X) (blank : (at : List ℤ) → f (hole at) ≡ f (hole [])) (origins : List Key) where
  column_same : (coords : List (List ℤ)) (versions : List Version) → map f (slots_from coords (map (stored_cell origins) versions)) ≡ map f (map (cell_in origins) (versions_at coords versions))
  column_same [] versions = refl
  column_same (at ∷ coords) [] = λ i. blank at i ∷ column_same coords [] i
  column_same (at ∷ coords) (v ∷ versions) = step (coords_eq v.coords at) (column_same coords versions) (column_same coords (v ∷ versions))
    where
      step : (b : Bool) → map f (slots_from coords (map (stored_cell origins) versions)) ≡ map f (map (cell_in origins) (versions_at coords versions))
          → map f (slots_from coords (map (stored_cell origins) (v ∷ versions))) ≡ map f (map (cell_in origins) (versions_at coords (v ∷ versions)))
          → map f (if b then stored_cell origins v ∷ slots_from coords (map (stored_cell origins) versions) else hole at ∷ slots_from coords (map (stored_cell origins) (v ∷ versions)))
          ≡ map f (map (cell_in origins) (if b then Some v ∷ versions_at coords versions else None ∷ versions_at coords (v ∷ versions)))
      step true found others = ap (λ xs. f (stored_cell origins v) ∷ xs) found
      step false found others = λ i. blank at i ∷ others i

attrs_same : (counts : List ℕ) (k : ℕ) (attrs : List Attr) (cs ds : List StoredCell) → ((i : ℕ) → value_column i cs ≡ value_column i ds) → attr_objects counts k attrs cs ≡ attr_objects counts k attrs ds
attrs_same counts k [] cs ds same = refl
attrs_same counts k (a ∷ attrs) cs ds same =
    ap (λ vals. fixed_objects (is_integer a.ty) counts k a.ty vals ++ (validity_objects a.nullable k vals ++ attr_objects counts (suc k) attrs cs)) (same k)
    ∙ ap (λ os. fixed_objects (is_integer a.ty) counts k a.ty (value_column k ds) ++ (validity_objects a.nullable k (value_column k ds) ++ os)) (attrs_same counts (suc k) attrs cs ds same)

origins_same : (b : Bool) (cs ds : List StoredCell) → origin_column cs ≡ origin_column ds → origin_objects b cs ≡ origin_objects b ds
origins_same false cs ds same = refl
origins_same true cs ds same = ap (λ is. record { part = part.Origin; body = flat_map (number_bytes 4) is; starts = [] } ∷ []) same

module _ (frame : Frame) (attrs : List Attr) (piece : Piece) (slots : Slots) (are : IsSlots frame piece slots) where
  abbrev coords : List (List ℤ)
  coords = coords_over frame (hull_of_head piece.head)

  -- the cells of slots, from the versions at the coordinates
  cells_are : slot_cells slots ≡ map (cell_in piece.head.origins) (versions_at coords piece.versions)
  cells_are = λ i. map (cell_in (are.origins i)) (are.versions i)

  any_column : {X : Type 0} (f : StoredCell → X) → ((at : List ℤ) → f (hole at) ≡ f (hole [])) → map f (slot_cells slots) ≡ map f (slots_of frame (hulled_for piece))
  unfolding slots_of
  any_column f blank = ap (map f) cells_are ∙ sym (column_same f blank piece.head.origins coords piece.versions)

  objects_are : slot_objects attrs piece.head.consolidated slots ≡ objects_of frame attrs (hulled_for piece)
  unfolding objects_of
  objects_are =
      let cells = slot_cells slots in
      let all = slots_of frame (hulled_for piece) in
      let origins = origin_objects piece.head.consolidated cells in
      ap (λ counts. attr_objects counts 0 attrs cells ++ origins) are.counts
      ∙ ap (λ os. os ++ origins) (attrs_same (counts_over frame (hull_of_head piece.head)) 0 attrs cells all (λ i. any_column (λ (c : StoredCell). get_or c.row i Null) (λ at. refl)))
      ∙ ap (λ os. attr_objects (counts_over frame (hull_of_head piece.head)) 0 attrs all ++ os) (origins_same piece.head.consolidated cells all (any_column (λ (c : StoredCell). c.origin) (λ at. refl)))

  tiles_many : length slots.counts ≡ length (tiles_over frame (hull_of_head piece.head))
  tiles_many = ap length are.counts ∙ length-map (tiles_over frame (hull_of_head piece.head)) cells_of

  meta_same : meta_with piece.head (length slots.counts) (sizes_of (slot_objects attrs piece.head.consolidated slots)) ≡ meta_bytes frame attrs (hulled_for piece)
  unfolding meta_with meta_bytes
  meta_same =
      ap (λ n. head_bytes (stored_head piece.head) ++ (number_bytes 4 n ++ flat_map (number_bytes 8) (sizes_of (slot_objects attrs piece.head.consolidated slots)))) tiles_many
      ∙ ap (λ os. head_bytes (stored_head piece.head) ++ (number_bytes 4 (length (tiles_over frame (hull_of_head piece.head))) ++ flat_map (number_bytes 8) (sizes_of os))) objects_are

  -- the columns and the metadata are all parts
  pub all_parts_built : (tiles : ℕ) (laid : Laid) (bytes : List ℕ) (parts : List PartBytes) → tiles ≡ length slots.counts → laid ≡ with_objects none_laid (slot_objects attrs piece.head.consolidated slots)
      → bytes ≡ wrapped kind.Meta (meta_with piece.head tiles laid.sizes) → parts ≡ laid.parts ++ record { part = part.Meta; bytes = bytes } ∷ [] → parts ≡ parts_of frame attrs (hulled_for piece)
  unfolding parts_of
  all_parts_built tiles laid bytes parts count columns spelled push =
      let objects = slot_objects attrs piece.head.consolidated slots in
      let all : laid ≡ record { parts = map column_part objects; sizes = sizes_of objects } = columns ∙ laid_all objects in
      push ∙ ap (λ b. laid.parts ++ record { part = part.Meta; bytes = b } ∷ []) spelled
      ∙ ap (λ n. laid.parts ++ record { part = part.Meta; bytes = wrapped kind.Meta (meta_with piece.head n laid.sizes) } ∷ []) count
      ∙ ap (λ (l : Laid). l.parts ++ record { part = part.Meta; bytes = wrapped kind.Meta (meta_with piece.head (length slots.counts) l.sizes) } ∷ []) all
      ∙ ap (λ body. map column_part objects ++ record { part = part.Meta; bytes = wrapped kind.Meta body } ∷ []) meta_same
      ∙ ap (λ os. map column_part os ++ record { part = part.Meta; bytes = wrapped kind.Meta (meta_bytes frame attrs (hulled_for piece)) } ∷ []) objects_are

  -- so what is built is short
  short_built : (laid : Laid) (bytes : List ℕ) → laid ≡ with_objects none_laid (slot_objects attrs piece.head.consolidated slots) → bytes ≡ wrapped kind.Meta (meta_bytes frame attrs (hulled_for piece)) → length bytes < 2 ^ 64
      → All (λ size. size < 2 ^ 64) laid.sizes → All (λ (p : PartBytes). length p.bytes < 2 ^ 64) (parts_of frame attrs (hulled_for piece))
  unfolding parts_of
  short_built laid bytes columns text few room =
      let short = λ (p : PartBytes). length p.bytes < 2 ^ 64 in
      let objects = objects_of frame attrs (hulled_for piece) in
      let sizes : laid.sizes ≡ sizes_of objects = ap (λ (l : Laid). l.sizes) (columns ∙ laid_all (slot_objects attrs piece.head.consolidated slots)) ∙ ap sizes_of objects_are in
      All-append short (map column_part objects) (meta_part frame attrs (hulled_for piece) ∷ []) (short_objects frame attrs piece objects (subst (All (λ size. size < 2 ^ 64)) sizes room))
      (All-cons short (meta_part frame attrs (hulled_for piece)) [] (subst (λ (body : List ℕ). length body < 2 ^ 64) text few) (All-nil short))

-- so what is built spells the piece
pub built_spells : (frame : Frame) (schema : Schema) (piece : Piece) (slots : Slots) (tiles : ℕ) (laid : Laid) (bytes : List ℕ) (parts : List PartBytes) → IsSlots frame piece slots → NamesWrites piece
    → FitsDense frame schema.attrs piece.head.frag (hulled_for piece) → tiles ≡ length slots.counts → laid ≡ with_objects none_laid (slot_objects schema.attrs piece.head.consolidated slots) → bytes ≡ wrapped kind.Meta (meta_with piece.head tiles laid.sizes)
    → length bytes < 2 ^ 64 → All (λ size. size < 2 ^ 64) laid.sizes → parts ≡ laid.parts ++ record { part = part.Meta; bytes = bytes } ∷ [] → All (λ (v : Version). v.schema ≡ piece.head.schema) piece.versions → IsDense frame schema piece (look_in parts)
built_spells frame schema piece slots tiles laid bytes parts are names fits count columns spelled few room push schemas =
    let objects = slot_objects schema.attrs piece.head.consolidated slots in
    let sizes : laid.sizes ≡ sizes_of objects = ap (λ (l : Laid). l.sizes) (columns ∙ laid_all objects) in
    let text : bytes ≡ wrapped kind.Meta (meta_bytes frame schema.attrs (hulled_for piece)) =
    spelled ∙ ap (λ n. wrapped kind.Meta (meta_with piece.head n laid.sizes)) count ∙ ap (λ ns. wrapped kind.Meta (meta_with piece.head (length slots.counts) ns)) sizes ∙ ap (wrapped kind.Meta) (meta_same frame schema.attrs piece slots are) in
    let short = short_built frame schema.attrs piece slots are laid bytes columns text few room in
    subst (λ all. IsDense frame schema piece (look_in all)) (sym (all_parts_built frame schema.attrs piece slots are tiles laid bytes parts count columns spelled push)) (parts_spell frame schema piece fits (counted_back piece piece.head.cells names (sym (dense_counts frame schema.attrs piece.head.frag (hulled_for piece) fits)) schemas) short)

-- attributes and origins are all columns
pub columns_laid : (attrs fields : List Attr) (consolidated : Bool) (slots : Slots) (parts : List PartBytes) (sizes : List ℕ) (one two : Laid) → parts ≡ [] → sizes ≡ [] → fields ≡ attrs
    → one ≡ with_objects (record { parts = parts; sizes = sizes }) (attr_objects slots.counts 0 fields (slot_cells slots)) → two ≡ with_objects one (origin_objects consolidated (slot_cells slots))
    → two ≡ with_objects none_laid (slot_objects attrs consolidated slots)
columns_laid attrs fields consolidated slots parts sizes one two no_parts no_sizes all first second =
    let start : with_objects (record { parts = parts; sizes = sizes }) (attr_objects slots.counts 0 fields (slot_cells slots)) ≡ with_objects none_laid (attr_objects slots.counts 0 attrs (slot_cells slots)) =
    (λ i. with_objects (record { parts = no_parts i; sizes = no_sizes i }) (attr_objects slots.counts 0 (all i) (slot_cells slots))) in
    second ∙ ap (λ laid. with_objects laid (origin_objects consolidated (slot_cells slots))) (first ∙ start)
    ∙ sym (with_both none_laid (attr_objects slots.counts 0 attrs (slot_cells slots)) (origin_objects consolidated (slot_cells slots)))
