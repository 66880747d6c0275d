-- What is laid in the end, and the parts of a piece.
use Rattle.std.proofs.Common.{◌≡◌, ℕ, ◌+◌, ◌^◌, ◌<◌, List, [], ◌∷◌, ◌++◌, length, map, sym, ap, ◌∙◌, subst, arith}
use Rattle.std.specs.List.{All}
use Rattle.std.proofs.lemmas.List.Elements.{All-head, All-tail, All-nil, All-cons, All-append}
use Rattle.ts_base.specs.declared.heads.Piece.{Piece}
use Rattle.ts_base.specs.declared.heads.Version.{Version}
use Rattle.ts_base.specs.declared.names.Part.TheVariants as part
use Rattle.ts_base.specs.declared.names.PartBytes.{PartBytes}
use Rattle.ts_domain.specs.declared.dims.Dim.{Dim}
use Rattle.ts_wire.specs.declared.kinds.Kind.TheVariants as kind
use Rattle.ts_wire.specs.Envelope.{wrapped}
use Rattle.ts_schema.specs.declared.attrs.Attr.{Attr}
use Rattle.ts_wire.proofs.Objects.{length-wrapped}
use Rattle.ts_schema.specs.declared.frames.Frame.{Frame}
use Rattle.ts_schema.specs.declared.schemas.Schema.{Schema}
use Rattle.ts_schema.specs.Parts.{look_in}
use Rattle.ts_plain.specs.Writes.{stored_for, CountsCells, NamesWrites}
use Rattle.ts_sparse.specs.declared.laying.Laid.{Laid}
use Rattle.ts_sparse.specs.Sparse.{Object, dim_objects, attr_objects, origin_objects, objects_of, sizes_of, column_part, meta_part, meta_bytes, parts_of, FitsSparse, IsSparse}
use Rattle.ts_sparse.specs.Laying.{with_objects, none_laid, cells_of, meta_with}
use Rattle.ts_sparse.proofs.LayLaws.{with_both, laid_all}
use Rattle.ts_sparse.proofs.MetaLaws.{meta_same}
use Rattle.ts_sparse.proofs.FormLaws.{piece_back}
use Rattle.ts_sparse.proofs.Shapes.{all_parts}
use Rattle.ts_sparse.proofs.OnceLaws.{parts_spell}

module _ (frame : Frame) (attrs : List Attr) (piece : Piece) where
  -- dimensions, attributes and origins are all columns
  pub columns_laid : (parts : List PartBytes) (sizes : List ℕ) (one two three : Laid) (dims : List Dim) (fields : List Attr) → parts ≡ [] → sizes ≡ [] → dims ≡ frame.domain → fields ≡ attrs
      → one ≡ with_objects (record { parts = parts; sizes = sizes }) (dim_objects 0 dims (cells_of piece)) → two ≡ with_objects one (attr_objects frame.capacity 0 fields (cells_of piece))
      → three ≡ with_objects two (origin_objects piece.head.consolidated (cells_of piece)) → three ≡ with_objects none_laid (objects_of frame attrs (stored_for piece))
  unfolding objects_of
  columns_laid parts sizes one two three dims fields no_parts no_sizes domain all first second third =
      let cells = cells_of piece in
      let coords = dim_objects 0 frame.domain cells in
      let values = attr_objects frame.capacity 0 attrs cells in
      let origins = origin_objects piece.head.consolidated cells in
      let start : with_objects (record { parts = parts; sizes = sizes }) (dim_objects 0 dims cells) ≡ with_objects none_laid coords =
      (λ i. with_objects (record { parts = no_parts i; sizes = no_sizes i }) (dim_objects 0 (domain i) cells)) in
      third ∙ ap (λ laid. with_objects laid origins) (second ∙ ap (λ as_of. with_objects one (attr_objects frame.capacity 0 as_of cells)) all ∙ ap (λ laid. with_objects laid values) (first ∙ start))
      ∙ sym (with_both (with_objects none_laid coords) values origins) ∙ sym (with_both none_laid coords (values ++ origins))

  -- the columns and the metadata are all parts
  pub all_parts_built : (laid : Laid) (bytes : List ℕ) (parts : List PartBytes) → laid ≡ with_objects none_laid (objects_of frame attrs (stored_for piece)) → bytes ≡ wrapped kind.Meta (meta_with frame piece laid.sizes)
      → parts ≡ laid.parts ++ record { part = part.Meta; bytes = bytes } ∷ [] → parts ≡ parts_of frame attrs (stored_for piece)
  unfolding parts_of
  all_parts_built laid bytes parts columns spelled push =
      let objects = objects_of frame attrs (stored_for piece) in
      let are : laid ≡ record { parts = map column_part objects; sizes = sizes_of objects } = columns ∙ laid_all objects in
      push ∙ ap (λ b. laid.parts ++ record { part = part.Meta; bytes = b } ∷ []) spelled
      ∙ ap (λ (l : Laid). l.parts ++ record { part = part.Meta; bytes = wrapped kind.Meta (meta_with frame piece l.sizes) } ∷ []) are
      ∙ ap (λ body. map column_part objects ++ record { part = part.Meta; bytes = wrapped kind.Meta body } ∷ []) (meta_same frame attrs piece)

  -- an object whose sizes are small is short
  pub short_objects : (objects : List Object) → All (λ size. size < 2 ^ 64) (sizes_of objects) → All (λ (p : PartBytes). length p.bytes < 2 ^ 64) (map column_part objects)
  short_objects [] small = All-nil (λ (p : PartBytes). length p.bytes < 2 ^ 64)
  short_objects (o ∷ objects) small =
      let long = length-wrapped kind.Column o.body in
      let first : 14 + length o.body < 2 ^ 64 = All-head (λ size. size < 2 ^ 64) (14 + length o.body) (o.starts ++ sizes_of objects) small in
      let others = all_parts (λ size. size < 2 ^ 64) o.starts (sizes_of objects) (All-tail (λ size. size < 2 ^ 64) (14 + length o.body) (o.starts ++ sizes_of objects) small) in
      All-cons (λ (p : PartBytes). length p.bytes < 2 ^ 64) (column_part o) (map column_part objects) (omega (arith, long, first)) (short_objects objects others.1)

  short_built : All (λ size. size < 2 ^ 64) (sizes_of (objects_of frame attrs (stored_for piece))) → length (wrapped kind.Meta (meta_bytes frame attrs (stored_for piece))) < 2 ^ 64
      → All (λ (p : PartBytes). length p.bytes < 2 ^ 64) (parts_of frame attrs (stored_for piece))
  unfolding parts_of
  short_built room few =
      let short = λ (p : PartBytes). length p.bytes < 2 ^ 64 in
      All-append short (map column_part (objects_of frame attrs (stored_for piece))) (meta_part frame attrs (stored_for piece) ∷ []) (short_objects (objects_of frame attrs (stored_for piece)) room)
      (All-cons short (meta_part frame attrs (stored_for piece)) [] few (All-nil short))

-- so what is built spells the piece
pub built_spells : (frame : Frame) (schema : Schema) (piece : Piece) (laid : Laid) (bytes : List ℕ) (parts : List PartBytes) → NamesWrites piece → FitsSparse frame schema.attrs piece.head.frag (stored_for piece)
    → laid ≡ with_objects none_laid (objects_of frame schema.attrs (stored_for piece)) → bytes ≡ wrapped kind.Meta (meta_with frame piece laid.sizes) → length bytes < 2 ^ 64 → All (λ size. size < 2 ^ 64) laid.sizes
    → parts ≡ laid.parts ++ record { part = part.Meta; bytes = bytes } ∷ [] → CountsCells piece → All (λ (v : Version). v.schema ≡ piece.head.schema) piece.versions → IsSparse frame schema piece (look_in parts)
built_spells frame schema piece laid bytes parts names fits columns spelled few room push counts schemas =
    let stored = stored_for piece in
    let sizes : laid.sizes ≡ sizes_of (objects_of frame schema.attrs stored) = ap (λ (l : Laid). l.sizes) (columns ∙ laid_all (objects_of frame schema.attrs stored)) in
    let text : bytes ≡ wrapped kind.Meta (meta_bytes frame schema.attrs stored) = spelled ∙ ap (λ sizes. wrapped kind.Meta (meta_with frame piece sizes)) sizes ∙ ap (wrapped kind.Meta) (meta_same frame schema.attrs piece) in
    let short = short_built frame schema.attrs piece (subst (All (λ size. size < 2 ^ 64)) sizes room) (subst (λ body. length body < 2 ^ 64) text few) in
    subst (λ all. IsSparse frame schema piece (look_in all)) (sym (all_parts_built frame schema.attrs piece laid bytes parts columns spelled push)) (parts_spell frame schema piece fits (piece_back piece names counts schemas) short)
