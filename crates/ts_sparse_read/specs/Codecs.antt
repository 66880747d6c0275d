-- Sparse fragments in tiles as a way to write fragments and to read them.
use Rattle.std.specs.Prelude.{◌≡◌, ◌≢◌, ℕ, ◌*◌, ◌≤◌, min, true, List, length, filter, Contains, Ok, Err, None, IsTrue}
use Rattle.ts_base.specs.declared.keys.FragKey.{FragKey}
use Rattle.ts_base.specs.declared.names.Part.{Part}
use Rattle.ts_base.specs.declared.names.Part.TheVariants as part
use Rattle.ts_base.specs.declared.names.PartBytes.{PartBytes}
use Rattle.ts_base.specs.declared.heads.Piece.{Piece}
use Rattle.ts_store.specs.declared.call.Call.{Call}
use Rattle.ts_schema.specs.declared.attrs.Attr.{Attr}
use Rattle.ts_schema.specs.declared.frames.Frame.{Frame}
use Rattle.ts_schema.specs.declared.schemas.Schema.{Schema}
use Rattle.ts_schema.specs.declared.wants.Want.{Want}
use Rattle.ts_schema.specs.Parts.{Look, Got, Sized}
use Rattle.ts_schema.specs.Wants.{taken}
use Rattle.ts_plain.specs.Pieces.{piece_of}
use Rattle.ts_plain.specs.Writes.{stored_for}
use Rattle.ts_rtree.specs.Trees.{count_meeting}
use Rattle.ts_footer.specs.declared.footers.Footer.{Footer}
use Rattle.ts_footer.specs.Footers.{footer_stored}
use Rattle.ts_footer.specs.Columns.{column_forms}
use Rattle.ts_footer.specs.Metas.{head_in}
use Rattle.ts_sparse.specs.Sparse.{parts_of, leaves_of, FitsSparse, IsSparse}
use Rattle.ts_model.specs.Codecs.{Codec}
use Rattle.ts_actor.specs.PieceLaws.{whole_got}
use Rattle.ts_fetch.specs.Plans.{Going, plan_steps, OnPlan, HeardAll}
use Rattle.ts_sparse_read.specs.declared.opened.Opened.{Opened}
use Rattle.ts_sparse_read.specs.declared.opened.UsedColumn.{UsedColumn}
use Rattle.ts_sparse_read.specs.Used.{column_parts, columns_told, is_used}
use Rattle.ts_sparse_read.specs.Opens.{used_in, tiles_at, are_readable, calls_for, sparse_opens}
use Rattle.ts_sparse_read.specs.Judges.{cells_of_tiles, sparse_judge}

-- ---- writing

-- the array has a dimension, what is stored of the piece keeps all rules, and holds the piece
pub record IsSparseStorable (frame : Frame) (attrs : List Attr) (p : Piece) : Type 0 where
  pub some_dim : 1 ≤ length frame.domain
  pub fits : FitsSparse frame attrs p.head.frag (stored_for p)
  pub same : p ≡ piece_of p.head.frag (stored_for p)

-- the parts of a piece, that of the metadata last
abbrev pub sparse_parts : Frame → Schema → Piece → List PartBytes
sparse_parts frame s p = parts_of frame s.attrs (stored_for p)

-- the array has a dimension, and the parts store the piece
pub record IsSparseIn (frame : Frame) (s : Schema) (p : Piece) (look : Look) : Type 0 where
  pub some_dim : 1 ≤ length frame.domain
  pub stored : IsSparse frame s p look

-- sparse fragments in tiles: a fetch gets the metadata, asks the sizes of the objects that it reads, and gets the tiles whose boxes meet the box that is wanted
abbrev pub sparse_codec : Codec (Going Opened)
sparse_codec = record { writable = IsSparseStorable; parts = sparse_parts; head_part = λ _. part.Meta; head = head_in; opens = sparse_opens; steps = plan_steps sparse_judge }

-- a fetch waits for the reply to a call of its plan, which is right about what is held
abbrev pub SparseTracks : Frame → Schema → Piece → Look → Want → Going Opened → Call → Type 0
SparseTracks frame s p look want f c = OnPlan sparse_judge look p.head.frag (taken want p.versions) f c

-- ---- how many gets

-- how many objects a fetch reads
abbrev pub objects_used : Frame → List Attr → Piece → List ℕ → ℕ
objects_used frame attrs p places = length (filter (is_used places) (column_parts frame.domain attrs p.head.consolidated))

-- a fetch of a piece gets a span for each tile whose box meets the box that is wanted, of each object that it reads
abbrev pub sparse_gets : Frame → Schema → Piece → Want → ℕ
sparse_gets frame s p want = count_meeting want.sub (leaves_of frame.capacity (stored_for p).cells) * objects_used frame s.attrs p want.attrs

-- ---- what is broken

-- the metadata was got whole, and is broken at this offset
pub record IsMetaBroken (frame : Frame) (s : Schema) (frag : FragKey) (gots : List Got) (named : Part) (at : ℕ) : Type 0 where
  pub got : Got
  pub was_got : Contains gots got
  pub meta : got.part ≡ part.Meta
  pub from_start : got.at ≡ 0
  pub to_end : got.ends ≡ true
  pub is_named : named ≡ part.Meta
  pub broken : footer_stored frame s.attrs frag got.bytes ≡ Err at

-- the metadata was got whole, and says this
pub record IsMetaGot (frame : Frame) (s : Schema) (frag : FragKey) (gots : List Got) (footer : Footer) : Type 0 where
  pub got : Got
  pub was_got : Contains gots got
  pub meta : got.part ≡ part.Meta
  pub from_start : got.at ≡ 0
  pub to_end : got.ends ≡ true
  pub read : footer_stored frame s.attrs frag got.bytes ≡ Ok footer

-- the size that was told of a part is another than the metadata states, and this is the lesser of the two
pub record IsSizeBroken (frame : Frame) (s : Schema) (frag : FragKey) (gots : List Got) (sizes : List Sized) (named : Part) (at : ℕ) : Type 0 where
  pub footer : Footer
  pub meta : IsMetaGot frame s frag gots footer
  pub column : UsedColumn
  pub is_column : Contains (columns_told (column_parts frame.domain s.attrs footer.head.consolidated) (column_forms frame.domain s.attrs footer.head.consolidated) footer.sizes) column
  pub is_named : column.part ≡ named
  pub count : ℕ
  pub was_told : Contains sizes (record { part = named; size = count })
  pub other : count ≢ (column.size).length
  pub lesser : at ≡ min count (column.size).length

-- some tiles were got, of the coordinates, the origins and some attributes; their cells are broken first in this part at this offset
pub record IsTileBroken (frame : Frame) (s : Schema) (frag : FragKey) (gots : List Got) (sizes : List Sized) (named : Part) (at : ℕ) : Type 0 where
  pub object : List ℕ
  pub footer : Footer
  pub read : footer_stored frame s.attrs frag object ≡ Ok footer
  -- which attributes were read
  pub places : List ℕ
  -- which tiles were got
  pub tiles : List ℕ
  pub got : List (List ℕ)
  pub dims : IsTrue (are_readable frame.domain)
  pub heard : HeardAll (whole_got part.Meta object) (calls_for (used_in frame s.attrs footer places) (tiles_at frame footer (used_in frame s.attrs footer places) tiles)) got gots sizes
  pub broken : cells_of_tiles frame s.attrs places footer.head None (tiles_at frame footer (used_in frame s.attrs footer places) tiles) got ≡ Err (record { part = named; at = at })

-- what was got, and the sizes that were told, break the grammar first in a part at an offset
pub data IsSparseBroken (frame : Frame) (s : Schema) (frag : FragKey) (gots : List Got) (sizes : List Sized) (named : Part) (at : ℕ) : Type 0 where
  InMeta : IsMetaBroken frame s frag gots named at → IsSparseBroken frame s frag gots sizes named at
  InSize : IsSizeBroken frame s frag gots sizes named at → IsSparseBroken frame s frag gots sizes named at
  InTile : IsTileBroken frame s frag gots sizes named at → IsSparseBroken frame s frag gots sizes named at
