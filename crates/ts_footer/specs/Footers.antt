-- The metadata of a fragment in tiles: what its object stores, and how that is spelled and read.
use Rattle.std.specs.Prelude.{◌≡◌, ℕ, ◌^◌, ◌<◌, true, List, [], ◌++◌, length, Option, Some, None, Result, Ok}
use Rattle.std.specs.List.{All, flat_map}
use Rattle.std.specs.Option.{IsSomeAnd}
use Rattle.ts_base.specs.declared.keys.FragKey.{FragKey}
use Rattle.ts_domain.specs.declared.boxes.SubBox.{SubBox}
use Rattle.ts_domain.specs.Rects.{IsLike, rect_bytes}
use Rattle.ts_wire.specs.declared.kinds.Kind.TheVariants as kind
use Rattle.ts_wire.specs.Place.{Place, Read, place, ◌>>=◌, mapped, both}
use Rattle.ts_wire.specs.Exact.{EachFits}
use Rattle.ts_wire.specs.Numbers.{number_bytes, FitsInt}
use Rattle.ts_wire.specs.Envelope.{unwrapped, object_at}
use Rattle.ts_schema.specs.declared.attrs.Attr.{Attr}
use Rattle.ts_schema.specs.declared.frames.Frame.{Frame}
use Rattle.ts_rtree.specs.Trees.{Rooted, nodes_of}
use Rattle.ts_plain.specs.declared.stored.StoredHead.{StoredHead}
use Rattle.ts_plain.specs.Rules.{last_of}
use Rattle.ts_plain.specs.Plain.{head_by, head_bytes, FitsHeadBy}
use Rattle.ts_footer.specs.declared.columns.ColumnSize.{ColumnSize}
use Rattle.ts_footer.specs.declared.footers.Footer.{Footer}
use Rattle.ts_footer.specs.Columns.{tile_count_at, sizes_at, sizes_of, FitsSize}
use Rattle.ts_footer.specs.declared.tilings.Tiling.{Tiling}
use Rattle.ts_footer.specs.declared.tilings.Tiling.TheVariants.{Sparse, Dense}
use Rattle.ts_footer.specs.TreeTexts.{rooted}
use Rattle.ts_footer.specs.Tilings.{full_in, forms_in, tile_total, tree_in}
use Rattle.ts_plain.specs.Writes.{box_of}

-- ---- reading, by how the cells lie in tiles

-- behind a head stand the number of tiles, what is said of the objects, and the tree over the tiles, where there is one
unfoldable pub laid_tiles_at : Tiling → Frame → List Attr → StoredHead → Place → Read (ℕ × (List ColumnSize × Option Rooted))
laid_tiles_at tiling frame attrs head =
    both (tile_count_at (tile_total tiling frame head)) (λ tiles.
    both (sizes_at head.cells tiles (forms_in tiling frame attrs head.consolidated)) (λ _. tree_in tiling (box_of head.hull) tiles))

-- all that the metadata stores, under the name of its fragment
unfoldable pub laid_footer_at : Tiling → Frame → List Attr → FragKey → Place → Read Footer
laid_footer_at tiling frame attrs frag =
    mapped (λ x. record { head = x.0; tiles = x.1.0; sizes = x.1.1.0; tree = x.1.1.1 })
    (both (head_by (full_in tiling frame.dense) frame frag) (laid_tiles_at tiling frame attrs))

-- what the whole object stores, or the offset of its first broken field
unfoldable pub laid_footer_stored : Tiling → Frame → List Attr → FragKey → List ℕ → Result Footer ℕ
laid_footer_stored tiling frame attrs frag object = object_at kind.Meta (laid_footer_at tiling frame attrs frag) object

-- what the object stores before the number of tiles, or the offset of its first broken field up to there
unfoldable pub laid_head_stored : Tiling → Frame → FragKey → List ℕ → Result StoredHead ℕ
laid_head_stored tiling frame frag object = unwrapped kind.Meta object >>= λ body. head_by (full_in tiling frame.dense) frame frag (place body 14) >>= λ x. Ok x.0

-- ---- reading, where coordinates are stored as in sparse arrays

-- what stands behind a head, where coordinates are stored
abbrev pub tiles_at : Frame → List Attr → StoredHead → Place → Read (ℕ × (List ColumnSize × Option Rooted))
tiles_at frame attrs head = laid_tiles_at Sparse frame attrs head

-- all that the metadata stores, where coordinates are stored
abbrev pub footer_at : Frame → List Attr → FragKey → Place → Read Footer
footer_at frame attrs frag = laid_footer_at Sparse frame attrs frag

-- what the whole object stores, where coordinates are stored, or the offset of its first broken field
abbrev pub footer_stored : Frame → List Attr → FragKey → List ℕ → Result Footer ℕ
footer_stored frame attrs frag object = laid_footer_stored Sparse frame attrs frag object

-- what the object stores before the number of tiles, where coordinates are stored, or the offset of its first broken field up to there
abbrev pub head_stored : Frame → FragKey → List ℕ → Result StoredHead ℕ
head_stored frame frag object = laid_head_stored Sparse frame frag object

-- ---- reading, in space tiles as in dense arrays

-- what the whole object stores of a fragment in space tiles, or the offset of its first broken field
abbrev pub dense_footer_stored : Frame → List Attr → FragKey → List ℕ → Result Footer ℕ
dense_footer_stored frame attrs frag object = laid_footer_stored Dense frame attrs frag object

-- what the object stores before the number of tiles of a fragment in space tiles, or the offset of its first broken field up to there
abbrev pub dense_head_stored : Frame → FragKey → List ℕ → Result StoredHead ℕ
dense_head_stored frame frag object = laid_head_stored Dense frame frag object

-- ---- spelling

-- the boxes of the tiles, where there is a tree over them
abbrev pub leaves_in : Option Rooted → List SubBox
leaves_in None = []
leaves_in (Some tree) = tree.leaves

-- the head, the number of tiles, the numbers that stand for the objects, and the boxes of the tree
unfoldable pub layout_bytes : StoredHead → ℕ → List ℕ → List SubBox → List ℕ
layout_bytes head tiles numbers leaves = head_bytes head ++ (number_bytes 4 tiles ++ (flat_map (number_bytes 8) numbers ++ flat_map rect_bytes (nodes_of leaves)))

-- all that the metadata stores
abbrev pub footer_bytes : Footer → List ℕ
footer_bytes footer = layout_bytes footer.head footer.tiles (sizes_of footer.sizes) (leaves_in footer.tree)

-- ---- what can be spelled

-- the box has as many dimensions as the hull, and its bounds have room in 16 bytes
pub record FitsRect (hull box : SubBox) : Type 0 where
  pub like : IsLike hull box
  pub low : All (FitsInt 16 true) box.low
  pub high : All (FitsInt 16 true) box.high

-- a tree over so many tiles, into which no one looked yet, and whose last box is the hull
pub record FitsTree (hull : SubBox) (tiles : ℕ) (tree : Rooted) : Type 0 where
  pub fresh : tree ≡ rooted tree.leaves
  pub many : length tree.leaves ≡ tiles
  pub leaves : All (FitsRect hull) tree.leaves
  pub top : last_of (nodes_of tree.leaves) ≡ Some hull

-- there is a tree over the tiles where coordinates are stored, and else none
abbrev pub FitsTreeIn : Tiling → SubBox → ℕ → Option Rooted → Type 0
FitsTreeIn Sparse hull tiles tree = IsSomeAnd tree (FitsTree hull tiles)
FitsTreeIn Dense hull tiles tree = tree ≡ None

-- each field keeps its rule: the tiles are as many as the tiling asks, and so are the objects, each as its form asks
pub record FitsLaidFooter (tiling : Tiling) (frame : Frame) (attrs : List Attr) (frag : FragKey) (footer : Footer) : Type 0 where
  pub head : FitsHeadBy (full_in tiling frame.dense) frame frag footer.head
  pub tiles : footer.tiles ≡ tile_total tiling frame footer.head
  pub few : footer.tiles < 256 ^ 4
  pub sizes : EachFits (FitsSize footer.head.cells footer.tiles) (forms_in tiling frame attrs footer.head.consolidated) footer.sizes
  pub tree : FitsTreeIn tiling (box_of footer.head.hull) footer.tiles footer.tree

-- each field keeps its rule, where coordinates are stored
abbrev pub FitsFooter : Frame → List Attr → FragKey → Footer → Type 0
FitsFooter frame attrs frag footer = FitsLaidFooter Sparse frame attrs frag footer

-- each field keeps its rule, in space tiles
abbrev pub FitsDenseFooter : Frame → List Attr → FragKey → Footer → Type 0
FitsDenseFooter frame attrs frag footer = FitsLaidFooter Dense frame attrs frag footer
