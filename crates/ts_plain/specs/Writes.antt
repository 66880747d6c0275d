-- How a piece is stored in a plain object.
use Rattle.std.specs.Prelude.{◌≡◌, ℕ, suc, ◌^◌, ◌<◌, ℤ, cond, List, [], ◌∷◌, length, map, All}
use Rattle.std.specs.List.Sorted.{IsStrictlySortedBy}
use Rattle.ts_base.specs.declared.keys.Key.{Key}
use Rattle.ts_base.specs.declared.heads.Head.{Head}
use Rattle.ts_base.specs.declared.heads.Version.{Version}
use Rattle.ts_base.specs.declared.heads.Piece.{Piece}
use Rattle.ts_base.specs.Keys.{key_cmp, key_eq}
use Rattle.ts_domain.specs.declared.boxes.SubBox.{SubBox}
use Rattle.ts_schema.specs.declared.attrs.Attr.{Attr}
use Rattle.ts_schema.specs.declared.frames.Frame.{Frame}
use Rattle.ts_plain.specs.declared.stored.Side.{Side}
use Rattle.ts_plain.specs.declared.stored.StoredHead.{StoredHead}
use Rattle.ts_plain.specs.declared.stored.StoredCell.{StoredCell}
use Rattle.ts_plain.specs.declared.stored.StoredPiece.{StoredPiece}
use Rattle.ts_plain.specs.Rules.{counted}
use Rattle.ts_plain.specs.Pieces.{IsPlainObject}

-- the piece is that of some plain object
pub record HasPlain (frame : Frame) (attrs : List Attr) (piece : Piece) : Type 0 where
  pub bytes : List ℕ
  pub spelled : IsPlainObject frame attrs piece bytes

-- the place of a key in a list, or the length of the list where the key is not there
unfoldable pub place_of : List Key → Key → ℕ
place_of [] key = 0
place_of (k ∷ ks) key = cond (key_eq k key) 0 (suc (place_of ks key))

-- the key is in the list
abbrev pub HasPlace : List Key → Key → Type 0
HasPlace keys key = place_of keys key < length keys

-- the sides between two corners
abbrev pub sides_of : List ℤ → List ℤ → List Side
sides_of (l ∷ ls) (h ∷ hs) = record { low = l; high = h } ∷ sides_of ls hs
sides_of _ _ = []

-- the box between sides
abbrev pub box_of : List Side → SubBox
box_of sides = record { low = map (λ side. side.low) sides; high = map (λ side. side.high) sides }

-- what stands before the cells, where so many are told of
abbrev pub counting_head : Head → ℕ → StoredHead
counting_head head many = record {
  schema = head.schema;
  dense = head.dense;
  consolidated = head.consolidated;
  hull = sides_of head.low head.high;
  cells = many;
  origins = head.origins;
}

-- what stands before the cells, where as many are told of as the head tells
abbrev pub stored_head : Head → StoredHead
stored_head head = counting_head head head.cells

-- what stands before the cells of a piece: it counts the cells that are stored
abbrev pub plain_head_for : Piece → StoredHead
plain_head_for piece = counting_head piece.head (length piece.versions)

-- the cell of a version, which names its write by a place among these origins
abbrev pub stored_cell : List Key → Version → StoredCell
stored_cell origins version = record { coords = version.coords; origin = place_of origins version.key; row = version.row }

-- what is stored of a piece
abbrev pub stored_for : Piece → StoredPiece
stored_for piece = record { head = plain_head_for piece; cells = map (stored_cell piece.head.origins) piece.versions }

-- what is stored of a piece in space tiles: its head tells of the cells of its hull
abbrev pub hulled_for : Piece → StoredPiece
hulled_for piece = record { head = stored_head piece.head; cells = map (stored_cell piece.head.origins) piece.versions }

-- the head of the piece tells of as many cells as it has to: a dense one of those of its hull, another of the versions
abbrev pub CountsCells : Piece → Type 0
CountsCells piece = piece.head.cells ≡ counted piece.head.dense (sides_of piece.head.low piece.head.high) (length piece.versions)

-- each version of the piece can name its write: there are few origins, they ascend, and the write of each version is among them
pub record NamesWrites (piece : Piece) : Type 0 where
  pub corners : length piece.head.high ≡ length piece.head.low
  pub few : length piece.head.origins < 2 ^ 32
  pub ascend : IsStrictlySortedBy key_cmp piece.head.origins
  pub known : All (λ (version : Version). HasPlace piece.head.origins version.key) piece.versions
