-- Which pieces of a consolidation can be written, and which pieces can be written at all.
use Rattle.std.specs.Prelude.{◌≡◌, ◌-◌, ◌^◌, ◌<◌, ◌≤◌, true, false, List, [], ◌∷◌, length, min, IsTrue, All, ⊤, ◌⊎◌, Contains}
use Rattle.std.specs.List.Sorted.{IsStrictlySortedBy}
use Rattle.std.specs.declared.cmp.Ordering.TheVariants.{Less}
use Rattle.ts_base.specs.declared.keys.Key.{Key}
use Rattle.ts_base.specs.declared.keys.FragKey.{FragKey}
use Rattle.ts_base.specs.declared.heads.Head.{Head}
use Rattle.ts_base.specs.declared.heads.Piece.{Piece}
use Rattle.ts_base.specs.declared.heads.Version.{Version}
use Rattle.ts_base.specs.Keys.{key_cmp, key_lt, frag_of}
use Rattle.ts_domain.specs.declared.boxes.SubBox.{SubBox}
use Rattle.ts_domain.specs.Bounds.{is_between, are_bounds, cells_between}
use Rattle.ts_domain.specs.Domains.{is_in_domain}
use Rattle.ts_schema.specs.declared.attrs.Attr.{Attr}
use Rattle.ts_schema.specs.declared.frames.Frame.{Frame}
use Rattle.ts_schema.specs.FrameTexts.{IsFrame}
use Rattle.ts_schema.specs.SchemaTexts.{AreAttrs}
use Rattle.ts_commit.specs.Selections.{has_origin}
use Rattle.ts_model.specs.Commands.{global_order}
use Rattle.ts_model.specs.Deeds.{RowFits, IsKey}
use Rattle.ts_model.specs.Pieces.{IsOrdinary}

-- the span of a fragment reaches from the least timestamp of its origins to the greatest
pub record IsSpan (f : FragKey) (origins : List Key) : Type 0 where
  pub from_on : (k : Key) → Contains origins k → f.t1 ≤ k.t
  pub up_to : (k : Key) → Contains origins k → k.t ≤ f.t2
  pub least : (k : Key) × Contains origins k × (k.t ≡ f.t1)
  pub greatest_is : (k : Key) × Contains origins k × (k.t ≡ f.t2)

-- the box between the corners of a head
abbrev pub box_in : Head → SubBox
box_in head = record { low = head.low; high = head.high }

-- a fragment that no consolidation made has one origin, which names it
abbrev pub NamesOwn : Head → Type 0
NamesOwn head = head.consolidated ≡ false → (k : Key) × (head.origins ≡ k ∷ []) × (head.frag ≡ frag_of k)

-- a version of one of the origins: its cell lies between the corners of the head, and its row is one of these attributes
pub record IsMergedVersion (frame : Frame) (attrs : List Attr) (head : Head) (v : Version) : Type 0 where
  pub by_origin : has_origin v.key head ≡ true
  pub in_schema : v.schema ≡ head.schema
  pub inside : IsTrue (is_in_domain frame.domain v.coords)
  pub hull : IsTrue (is_between head.low head.high v.coords)
  pub row : RowFits attrs v.row

-- a version comes before another: by its place, and in a sparse array at one place by its key
abbrev pub ComesBefore : Frame → Version → Version → Type 0
ComesBefore frame v w = (global_order frame v.coords w.coords ≡ Less) ⊎ ((frame.dense ≡ false) × (v.coords ≡ w.coords) × (key_lt v.key w.key ≡ true))

-- each version comes before all behind it
abbrev pub Rise : Frame → List Version → Type 0
Rise frame [] = ⊤
Rise frame (v ∷ vs) = All (ComesBefore frame v) vs × Rise frame vs

-- the piece is one that a consolidation makes in an array of this frame, in a schema with these attributes
pub record IsConsolidated (frame : Frame) (attrs : List Attr) (p : Piece) : Type 0 where
  pub is_frame : IsFrame frame
  pub are_attrs : AreAttrs attrs
  pub schema : IsKey p.head.schema
  pub consolidated : p.head.consolidated ≡ true
  pub dense : p.head.dense ≡ frame.dense
  -- the head of a sparse one counts its versions
  pub cells : frame.dense ≡ false → p.head.cells ≡ length p.versions
  -- that of a dense one counts the cells of its box, 2^64 - 1 at most; it need not have each of them
  pub whole : frame.dense ≡ true → p.head.cells ≡ min (cells_between p.head.low p.head.high) (2 ^ 64 - 1)
  pub some : 1 ≤ p.head.cells
  pub few : length p.versions < 2 ^ 64
  -- its box lies in the domain
  pub low : IsTrue (is_in_domain frame.domain p.head.low)
  pub high : IsTrue (is_in_domain frame.domain p.head.high)
  pub corners : IsTrue (are_bounds p.head.low p.head.high)
  -- its origins ascend, each once
  pub are_keys : All IsKey p.head.origins
  pub few_origins : length p.head.origins < 2 ^ 32
  pub ascend : IsStrictlySortedBy key_cmp p.head.origins
  pub span : IsSpan p.head.frag p.head.origins
  pub versions : All (IsMergedVersion frame attrs p.head) p.versions
  pub rise : Rise frame p.versions

-- the piece is one that can be written: one write made it, or a consolidation
abbrev pub IsStorable : Frame → List Attr → Piece → Type 0
IsStorable frame attrs p = IsOrdinary frame attrs p ⊎ IsConsolidated frame attrs p
