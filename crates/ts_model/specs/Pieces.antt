-- What pieces hold of the writes of a history.
use Rattle.std.specs.Prelude.{◌≡◌, ℤ, ◌^◌, ◌<◌, ◌≤◌, true, false, cond, ◌&&◌, List, [], ◌∷◌, Option, None, option_map, length, IsTrue, All, ⊤, find}
use Rattle.ts_base.specs.declared.keys.Key.{Key}
use Rattle.ts_base.specs.declared.heads.Version.{Version}
use Rattle.ts_base.specs.declared.heads.Piece.{Piece}
use Rattle.ts_base.specs.declared.heads.Head.{Head}
use Rattle.ts_model.specs.declared.deeds.Written.{Written}
use Rattle.ts_schema.specs.declared.frames.Frame.{Frame}
use Rattle.ts_schema.specs.declared.attrs.Attr.{Attr}
use Rattle.std.specs.Option.{option_map_or}
use Rattle.std.specs.Ordering.{int_cmp}
use Rattle.std.specs.Cmp.Lexicographic.{slice_cmp}
use Rattle.ts_base.specs.Keys.{key_eq, key_lt, frag_of}
use Rattle.ts_base.specs.Coords.{coords_eq}
use Rattle.ts_domain.specs.Domains.{is_in_domain}
use Rattle.ts_domain.specs.Bounds.{is_between, are_bounds, cells_between}
use Rattle.ts_domain.specs.declared.boxes.SubBox.{SubBox}
use Rattle.ts_domain.specs.Boxes.{is_in_box}
use Rattle.ts_schema.specs.FrameTexts.{IsFrame}
use Rattle.ts_schema.specs.SchemaTexts.{AreAttrs}
use Rattle.std.specs.declared.cmp.Ordering.TheVariants.{Less}
use Rattle.ts_model.specs.Deeds.{row_at, RowFits, IsKey}
use Rattle.ts_model.specs.Commands.{global_order}
use Rattle.std.specs.FinMap as map

-- the version of a key and a coordinate in a list
abbrev pub version_at : List Version → Key → List ℤ → Option Version
version_at vs k c = find (λ v. key_eq v.key k && coords_eq v.coords c) vs

-- the version that a write makes of a coordinate
abbrev pub version_of : Written → List ℤ → Option Version
version_of w c = option_map (λ row. record { key = w.key; schema = w.schema; coords = c; row = row }) (row_at c w.cells)

-- the piece holds what the write wrote, and nothing else
pub record HoldsWrite (w : Written) (p : Piece) : Type 0 where
  pub named : p.head.frag ≡ frag_of w.key
  pub schema : p.head.schema ≡ w.schema
  pub ordinary : p.head.consolidated ≡ false
  pub origins : p.head.origins ≡ w.key ∷ []
  pub versions : (k : Key) (c : List ℤ) → version_at p.versions k c ≡ cond (key_eq k w.key) (version_of w c) None

-- ---- the newest versions

-- the newest version of each cell, by its coordinates in row order
abbrev pub Newest : Type 0
Newest = map.FinMap (slice_cmp int_cmp) Version

-- one version more: it takes the place of an older one
abbrev pub with_version : Newest → Version → Newest
with_version m v = cond (option_map_or (λ w. key_lt w.key v.key) (map.get m v.coords) true) (map.insert m v.coords v) m

-- the newest of these versions, after those before
abbrev pub newest_after : Newest → List Version → Newest
newest_after m [] = m
newest_after m (v ∷ vs) = newest_after (with_version m v) vs

-- of versions the newest at each place
unfoldable pub newest_of : List Version → Newest
newest_of vs = newest_after map.empty vs

-- ---- which pieces can be written

-- a version of the write with this key: its cell lies between the corners of the head, and its row is one of these attributes
pub record IsVersion (frame : Frame) (attrs : List Attr) (head : Head) (own : Key) (v : Version) : Type 0 where
  pub by_own : v.key ≡ own
  pub in_schema : v.schema ≡ head.schema
  pub inside : IsTrue (is_in_domain frame.domain v.coords)
  pub hull : IsTrue (is_between head.low head.high v.coords)
  pub row : RowFits attrs v.row

-- no smaller box has the cells of these versions: each box that has them all has both corners too
abbrev pub IsTight : List ℤ → List ℤ → List Version → Type 0
IsTight low high vs = (sub : SubBox) → All (λ (v : Version). IsTrue (is_in_box sub v.coords)) vs → IsTrue (is_in_box sub low) × IsTrue (is_in_box sub high)

-- the box of the piece is the least one that has its cells, and its versions can be counted in 32 bits
pub record IsClose (p : Piece) : Type 0 where
  pub tight : IsTight p.head.low p.head.high p.versions
  pub few : length p.versions < 2 ^ 32

-- each version comes before all behind it in global order
abbrev pub Climb : Frame → List Version → Type 0
Climb frame [] = ⊤
Climb frame (v ∷ vs) = All (λ w. global_order frame v.coords w.coords ≡ Less) vs × Climb frame vs

-- the piece is one that one write makes in an array of this frame, in a schema with these attributes
pub record IsOrdinary (frame : Frame) (attrs : List Attr) (p : Piece) : Type 0 where
  pub is_frame : IsFrame frame
  pub are_attrs : AreAttrs attrs
  pub key : Key
  pub is_key : IsKey key
  pub schema : IsKey p.head.schema
  pub frag : p.head.frag ≡ frag_of key
  pub origins : p.head.origins ≡ key ∷ []
  pub consolidated : p.head.consolidated ≡ false
  pub dense : p.head.dense ≡ frame.dense
  pub cells : p.head.cells ≡ length p.versions
  pub some : 1 ≤ length p.versions
  pub few : length p.versions < 2 ^ 64
  pub low : IsTrue (is_in_domain frame.domain p.head.low)
  pub high : IsTrue (is_in_domain frame.domain p.head.high)
  pub corners : IsTrue (are_bounds p.head.low p.head.high)
  -- in a dense array it has each cell between its corners
  pub whole : frame.dense ≡ true → p.head.cells ≡ cells_between p.head.low p.head.high
  pub versions : All (IsVersion frame attrs p.head key) p.versions
  pub climb : Climb frame p.versions
