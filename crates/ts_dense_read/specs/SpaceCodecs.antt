-- Dense fragments in space tiles as a way to write fragments and to read them.
use Rattle.std.specs.Prelude.{◌≡◌, ◌≢◌, ℕ, ◌*◌, min, true, false, if◌then◌else◌, List, [], length, filter, Contains, Result, Ok, Err, IsTrue}
use Rattle.ts_base.specs.declared.keys.FragKey.{FragKey}
use Rattle.ts_base.specs.declared.names.Part.{Part}
use Rattle.ts_base.specs.declared.names.Part.TheVariants as part
use Rattle.ts_base.specs.declared.names.PartBytes.{PartBytes}
use Rattle.ts_base.specs.declared.heads.Head.{Head}
use Rattle.ts_base.specs.declared.heads.Piece.{Piece}
use Rattle.ts_store.specs.declared.call.Call.{Call}
use Rattle.ts_schema.specs.declared.attrs.Attr.{Attr}
use Rattle.ts_schema.specs.declared.frames.Frame.{Frame}
use Rattle.ts_schema.specs.declared.schemas.Schema.{Schema}
use Rattle.ts_schema.specs.declared.wants.Want.{Want}
use Rattle.ts_schema.specs.Parts.{Look, Got, Sized}
use Rattle.ts_schema.specs.Wants.{taken}
use Rattle.ts_plain.specs.Pieces.{piece_of}
use Rattle.ts_plain.specs.Writes.{hulled_for}
use Rattle.ts_rtree.specs.Trees.{count_meeting}
use Rattle.ts_footer.specs.declared.footers.Footer.{Footer}
use Rattle.ts_footer.specs.Footers.{dense_footer_stored}
use Rattle.ts_footer.specs.Columns.{column_forms}
use Rattle.ts_footer.specs.Metas.{dense_head_in}
use Rattle.ts_dense.specs.Slots.{tiles_over}
use Rattle.ts_dense.specs.Dense.{parts_of, FitsDense}
use Rattle.ts_model.specs.Codecs.{Codec}
use Rattle.ts_model.specs.Consolidated.{box_in}
use Rattle.ts_actor.specs.PieceLaws.{whole_got}
use Rattle.ts_fetch.specs.Plans.{Going, plan_steps, OnPlan, HeardAll}
use Rattle.ts_sparse_read.specs.declared.opened.UsedColumn.{UsedColumn}
use Rattle.ts_sparse_read.specs.Used.{column_parts, columns_told, is_used}
use Rattle.ts_sparse_read.specs.Opens.{are_readable, calls_for}
use Rattle.ts_dense_read.specs.declared.opened.Opened.{Opened}
use Rattle.ts_dense_read.specs.SpaceOpens.{space_used, space_tiles, space_opens}
use Rattle.ts_dense_read.specs.SpaceJudges.{slots_of_tiles, space_judge}

-- ---- writing

-- what is stored of the piece keeps all rules, and holds the piece
pub record IsSpaceStorable (frame : Frame) (attrs : List Attr) (p : Piece) : Type 0 where
  pub fits : FitsDense frame attrs p.head.frag (hulled_for p)
  pub same : p ≡ piece_of p.head.frag (hulled_for p)

-- the parts of a piece, that of the metadata last
abbrev pub space_parts : Frame → Schema → Piece → List PartBytes
space_parts frame s p = parts_of frame s.attrs (hulled_for p)

-- the head in the metadata, or the offset of the first broken field up to its end; in a sparse array there is none
abbrev pub space_head : Frame → FragKey → List ℕ → Result Head ℕ
space_head frame frag object = if frame.dense then dense_head_in frame frag object else Err 0

-- dense fragments in space tiles: a fetch gets the metadata, asks the sizes of the objects that it reads, and gets the tiles that meet the box that is wanted
abbrev pub space_codec : Codec (Going Opened)
space_codec = record { writable = IsSpaceStorable; parts = space_parts; head_part = λ _. part.Meta; head = space_head; opens = space_opens; steps = plan_steps space_judge }

-- a fetch waits for the reply to a call of its plan, which is right about what is held
abbrev pub SpaceTracks : Frame → Schema → Piece → Look → Want → Going Opened → Call → Type 0
SpaceTracks frame s p look want f c = OnPlan space_judge look p.head.frag (taken want p.versions) f c

-- ---- how many gets

-- how many objects a fetch reads
abbrev pub objects_used : List Attr → Piece → List ℕ → ℕ
objects_used attrs p places = length (filter (is_used places) (column_parts [] attrs p.head.consolidated))

-- a fetch of a piece gets a span for each tile that meets the box that is wanted, of each object that it reads
abbrev pub space_gets : Frame → Schema → Piece → Want → ℕ
space_gets frame s p want = count_meeting want.sub (tiles_over frame (box_in p.head)) * objects_used s.attrs p want.attrs

-- ---- what is broken

-- the metadata was got whole, and is broken at this offset
pub record IsMetaBroken (frame : Frame) (s : Schema) (frag : FragKey) (gots : List Got) (named : Part) (at : ℕ) : Type 0 where
  pub got : Got
  pub was_got : Contains gots got
  pub meta : got.part ≡ part.Meta
  pub from_start : got.at ≡ 0
  pub to_end : got.ends ≡ true
  pub is_named : named ≡ part.Meta
  pub broken : dense_footer_stored frame s.attrs frag got.bytes ≡ Err at

-- the metadata was got whole, and says this
pub record IsMetaGot (frame : Frame) (s : Schema) (frag : FragKey) (gots : List Got) (footer : Footer) : Type 0 where
  pub got : Got
  pub was_got : Contains gots got
  pub meta : got.part ≡ part.Meta
  pub from_start : got.at ≡ 0
  pub to_end : got.ends ≡ true
  pub read : dense_footer_stored frame s.attrs frag got.bytes ≡ Ok footer

-- the size that was told of a part is another than the metadata states, and this is the lesser of the two
pub record IsSizeBroken (frame : Frame) (s : Schema) (frag : FragKey) (gots : List Got) (sizes : List Sized) (named : Part) (at : ℕ) : Type 0 where
  pub footer : Footer
  pub meta : IsMetaGot frame s frag gots footer
  pub column : UsedColumn
  pub is_column : Contains (columns_told (column_parts [] s.attrs footer.head.consolidated) (column_forms [] s.attrs footer.head.consolidated) footer.sizes) column
  pub is_named : column.part ≡ named
  pub count : ℕ
  pub was_told : Contains sizes (record { part = named; size = count })
  pub other : count ≢ (column.size).length
  pub lesser : at ≡ min count (column.size).length

-- some tiles were got, of the origins and some attributes; their slots are broken first in this part at this offset
pub record IsTileBroken (frame : Frame) (s : Schema) (frag : FragKey) (gots : List Got) (sizes : List Sized) (named : Part) (at : ℕ) : Type 0 where
  pub object : List ℕ
  pub footer : Footer
  pub read : dense_footer_stored frame s.attrs frag object ≡ Ok footer
  -- which attributes were read
  pub places : List ℕ
  -- which tiles were got
  pub tiles : List ℕ
  pub got : List (List ℕ)
  -- as in each frame that can be read
  pub dims : IsTrue (are_readable frame.domain)
  pub heard : HeardAll (whole_got part.Meta object) (calls_for (space_used s.attrs footer places) (space_tiles frame footer (space_used s.attrs footer places) tiles)) got gots sizes
  pub broken : slots_of_tiles frame s.attrs places footer.head (space_tiles frame footer (space_used s.attrs footer places) tiles) got ≡ Err (record { part = named; at = at })

-- what was got, and the sizes that were told, break the grammar first in a part at an offset; a sparse array has no such fragments, so there any object counts as broken at its first byte, which `DensePieces` never looks at
pub data IsSpaceBroken (frame : Frame) (s : Schema) (frag : FragKey) (gots : List Got) (sizes : List Sized) (named : Part) (at : ℕ) : Type 0 where
  InSparse : frame.dense ≡ false → named ≡ part.Meta → at ≡ 0 → IsSpaceBroken frame s frag gots sizes named at
  InMeta : IsMetaBroken frame s frag gots named at → IsSpaceBroken frame s frag gots sizes named at
  InSize : IsSizeBroken frame s frag gots sizes named at → IsSpaceBroken frame s frag gots sizes named at
  InTile : IsTileBroken frame s frag gots sizes named at → IsSpaceBroken frame s frag gots sizes named at
