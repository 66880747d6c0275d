-- The metadata of a fragment in tiles, as callers see it.
use Rattle.std.specs.Prelude.{◌≡◌, ℕ, ◌^◌, ◌<◌, List, [], ◌∷◌, length, map, Result, Ok}
use Rattle.ts_base.specs.declared.keys.FragKey.{FragKey}
use Rattle.ts_base.specs.declared.heads.Head.{Head}
use Rattle.ts_wire.specs.declared.kinds.Kind.TheVariants as kind
use Rattle.ts_wire.specs.Place.{◌>>=◌}
use Rattle.ts_wire.specs.Envelope.{wrapped}
use Rattle.ts_schema.specs.declared.attrs.Attr.{Attr}
use Rattle.ts_schema.specs.declared.frames.Frame.{Frame}
use Rattle.ts_plain.specs.Pieces.{head_of}
use Rattle.ts_plain.specs.Writes.{stored_head}
use Rattle.ts_footer.specs.declared.columns.ColumnForm.{ColumnForm}
use Rattle.ts_footer.specs.declared.columns.ColumnForm.TheVariants.{Fixed, Var}
use Rattle.ts_footer.specs.declared.columns.ColumnSize.{ColumnSize}
use Rattle.ts_footer.specs.declared.footers.Footer.{Footer}
use Rattle.ts_footer.specs.declared.metas.Meta.{Meta}
use Rattle.ts_footer.specs.declared.tilings.Tiling.{Tiling}
use Rattle.ts_footer.specs.declared.tilings.Tiling.TheVariants.{Sparse, Dense}
use Rattle.ts_footer.specs.Tilings.{tiling_of, forms_in}
use Rattle.ts_footer.specs.Footers.{laid_footer_stored, laid_head_stored, footer_bytes, FitsLaidFooter}

-- ---- from what is stored

-- the lists of starts, with this one in front if it has any
abbrev pub some_before : List ℕ → List (List ℕ) → List (List ℕ)
some_before [] others = others
some_before (start ∷ starts) others = (start ∷ starts) ∷ others

-- where the tiles start, in each object that says it
abbrev pub starts_of : List ColumnSize → List (List ℕ)
starts_of [] = []
starts_of (size ∷ sizes) = some_before size.starts (starts_of sizes)

-- the metadata of the fragment of this name
unfoldable pub meta_of : FragKey → Footer → Meta
meta_of frag footer = record {
  head = head_of frag footer.head;
  lengths = map (λ size. size.length) footer.sizes;
  var_starts = starts_of footer.sizes;
  tiles = footer.tiles;
  tree = footer.tree;
}

-- the metadata that the object under this name holds, or the offset of the first broken field
unfoldable pub laid_meta_in : Tiling → Frame → List Attr → FragKey → List ℕ → Result Meta ℕ
laid_meta_in tiling frame attrs frag object = laid_footer_stored tiling frame attrs frag object >>= λ footer. Ok (meta_of frag footer)

-- the head that the object under this name holds, or the offset of the first broken field up to its end
unfoldable pub laid_head_in : Tiling → Frame → FragKey → List ℕ → Result Head ℕ
laid_head_in tiling frame frag object = laid_head_stored tiling frame frag object >>= λ head. Ok (head_of frag head)

-- the bytes are those of an object that holds the metadata
pub record IsLaidMetaObject (tiling : Tiling) (frame : Frame) (attrs : List Attr) (meta : Meta) (bytes : List ℕ) : Type 0 where
  pub stored : Footer
  pub fits : FitsLaidFooter tiling frame attrs meta.head.frag stored
  pub few : length (footer_bytes stored) < 2 ^ 64
  pub spelled : bytes ≡ wrapped kind.Meta (footer_bytes stored)
  pub same : meta ≡ meta_of meta.head.frag stored

-- ---- where coordinates are stored, as in sparse arrays

-- the metadata that the object under this name holds, where coordinates are stored, or the offset of the first broken field
abbrev pub meta_in : Frame → List Attr → FragKey → List ℕ → Result Meta ℕ
meta_in frame attrs frag object = laid_meta_in Sparse frame attrs frag object

-- the head that the object under this name holds, where coordinates are stored, or the offset of the first broken field up to its end
abbrev pub head_in : Frame → FragKey → List ℕ → Result Head ℕ
head_in frame frag object = laid_head_in Sparse frame frag object

-- the bytes are those of an object that holds the metadata, where coordinates are stored
abbrev pub IsMetaObject : Frame → List Attr → Meta → List ℕ → Type 0
IsMetaObject frame attrs meta bytes = IsLaidMetaObject Sparse frame attrs meta bytes

-- ---- in space tiles, as in dense arrays

-- the metadata of a fragment in space tiles that the object under this name holds, or the offset of the first broken field
abbrev pub dense_meta_in : Frame → List Attr → FragKey → List ℕ → Result Meta ℕ
dense_meta_in frame attrs frag object = laid_meta_in Dense frame attrs frag object

-- the head of a fragment in space tiles that the object under this name holds, or the offset of the first broken field up to its end
abbrev pub dense_head_in : Frame → FragKey → List ℕ → Result Head ℕ
dense_head_in frame frag object = laid_head_in Dense frame frag object

-- the bytes are those of an object that holds the metadata of a fragment in space tiles
abbrev pub IsDenseMetaObject : Frame → List Attr → Meta → List ℕ → Type 0
IsDenseMetaObject frame attrs meta bytes = IsLaidMetaObject Dense frame attrs meta bytes

-- ---- by the kind of the array

-- the metadata that the object under this name holds in an array of this frame, or the offset of the first broken field
abbrev pub meta_by : Frame → List Attr → FragKey → List ℕ → Result Meta ℕ
meta_by frame attrs frag object = laid_meta_in (tiling_of frame) frame attrs frag object

-- the bytes are those of an object that holds the metadata in an array of this frame
abbrev pub IsMetaObjectBy : Frame → List Attr → Meta → List ℕ → Type 0
IsMetaObjectBy frame attrs meta bytes = IsLaidMetaObject (tiling_of frame) frame attrs meta bytes

-- ---- to what is stored

-- there is a length for each object, and starts for each object of texts or blobs
abbrev pub HasEach : List ColumnForm → List ℕ → List (List ℕ) → Type 0
HasEach [] [] [] = Unit {0}
HasEach (Fixed width ∷ forms) (n ∷ lengths) starts = HasEach forms lengths starts
HasEach (Var ∷ forms) (n ∷ lengths) (s ∷ starts) = HasEach forms lengths starts
HasEach _ _ _ = ⊥

-- what is said of each object: its length, and of texts or blobs the next starts
abbrev pub sizes_for : List ColumnForm → List ℕ → List (List ℕ) → List ColumnSize
sizes_for (Fixed width ∷ forms) (n ∷ lengths) starts = record { length = n; starts = [] } ∷ sizes_for forms lengths starts
sizes_for (Var ∷ forms) (n ∷ lengths) (s ∷ starts) = record { length = n; starts = s } ∷ sizes_for forms lengths starts
sizes_for _ _ _ = []

-- the forms of the objects of a fragment, by the kind of the array
abbrev pub forms_by : Frame → List Attr → Meta → List ColumnForm
forms_by frame attrs meta = forms_in (tiling_of frame) frame attrs meta.head.consolidated

-- what is stored of the metadata, with objects of these forms
abbrev pub footer_for : List ColumnForm → Meta → Footer
footer_for forms meta = record {
  head = stored_head meta.head;
  tiles = meta.tiles;
  sizes = sizes_for forms meta.lengths meta.var_starts;
  tree = meta.tree;
}

-- what is stored of the metadata, by the kind of the array
abbrev pub footer_by : Frame → List Attr → Meta → Footer
footer_by frame attrs meta = footer_for (forms_by frame attrs meta) meta

-- the metadata is that of some object, by the kind of the array
pub record HasMetaObjectBy (frame : Frame) (attrs : List Attr) (meta : Meta) : Type 0 where
  pub bytes : List ℕ
  pub spelled : IsMetaObjectBy frame attrs meta bytes

-- the head's corners and origins can be written, and something is said of each object of these forms
pub record IsWritable (forms : List ColumnForm) (meta : Meta) : Type 0 where
  pub corners : length meta.head.high ≡ length meta.head.low
  pub few : length meta.head.origins < 2 ^ 32
  pub objects : HasEach forms meta.lengths meta.var_starts

-- the metadata can be written, by the kind of the array
abbrev pub IsWritableBy : Frame → List Attr → Meta → Type 0
IsWritableBy frame attrs meta = IsWritable (forms_by frame attrs meta) meta
