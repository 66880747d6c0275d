-- What the pieces of several fragments are merged into: one piece that has the origins of all of them.
use Rattle.std.specs.Prelude.{◌≡◌, ℕ, ℤ, ◌-◌, ◌^◌, ◌≤◌, Bool, true, false, cond, List, [], ◌∷◌, length, min, max, ⊤, Contains, Option, Some, None, option_and_then, filter, map as list_map}
use Rattle.std.specs.BTreeSet.{insert_key}
use Rattle.std.specs.List.{list_any, flat_map, fold}
use Rattle.std.specs.List.Sorted.{IsStrictlySortedBy}
use Rattle.std.specs.declared.cmp.Ordering.{Ordering}
use Rattle.ts_base.specs.declared.keys.Key.{Key}
use Rattle.ts_base.specs.declared.heads.Head.{Head}
use Rattle.ts_base.specs.declared.heads.Piece.{Piece}
use Rattle.ts_base.specs.declared.heads.Version.{Version}
use Rattle.ts_base.specs.Keys.{key_cmp, key_eq, greatest}
use Rattle.ts_base.specs.Coords.{coords_eq}
use Rattle.ts_domain.specs.declared.boxes.SubBox.{SubBox}
use Rattle.ts_domain.specs.Bounds.{cells_between}
use Rattle.ts_domain.specs.Boxes.{IsBox, Covers, hull_of}
use Rattle.ts_schema.specs.declared.attrs.Attr.{Attr}
use Rattle.ts_schema.specs.declared.frames.Frame.{Frame}
use Rattle.ts_schema.specs.FrameTexts.{IsFrame}
use Rattle.ts_schema.specs.SchemaTexts.{AreAttrs}
use Rattle.ts_commit.specs.Selections.{has_origin, keeps_last}
use Rattle.ts_model.specs.Consolidated.{box_in, IsStorable}
use Rattle.ts_model.specs.Pieces.{version_at, newest_of}
use Rattle.ts_model.specs.Places.{place_of}
use Rattle.ts_model.specs.declared.merging.VersionPlace.{VersionPlace}
use Rattle.ts_model.specs.contracts.merging.VersionPlaceOrd.TheImpl as derived
use Rattle.std.specs.FinMap as map

-- all versions of some pieces
abbrev pub all_versions : List Piece → List Version
all_versions ps = flat_map (λ p. p.versions) ps

-- the newest version of a coordinate in a list
abbrev pub newest_at : List Version → List ℤ → Option Version
newest_at vs c = greatest (λ v. v.key) (filter (λ v. coords_eq v.coords c) vs)

-- a version, if it has the key
abbrev pub with_key : Key → Option Version → Option Version
with_key k o = option_and_then (λ v. cond (key_eq v.key k) (Some v) None) o

-- what is left of versions at a key and a coordinate: all of them, or the newest ones alone
abbrev pub left_of : Bool → List Version → Key → List ℤ → Option Version
left_of true vs k c = with_key k (newest_at vs c)
left_of false vs k c = version_at vs k c

-- the box is the least one that has the boxes of these pieces
pub record IsCommonHull (sub : SubBox) (ps : List Piece) : Type 0 where
  pub boxes : (p : Piece) → Contains ps p → Covers sub (box_in p.head)
  pub least : (outer : SubBox) → ((p : Piece) → Contains ps p → Covers outer (box_in p.head)) → Covers outer sub

-- pieces of one schema are merged into one: it has the origins of all, and of all versions each, or the newest ones alone
pub record MergesTo (ps : List Piece) (p : Piece) : Type 0 where
  pub consolidated : p.head.consolidated ≡ true
  pub schema : (q : Piece) → Contains ps q → q.head.schema ≡ p.head.schema
  pub dense : (q : Piece) → Contains ps q → q.head.dense ≡ p.head.dense
  pub origins : (k : Key) → has_origin k p.head ≡ list_any (λ q. has_origin k q.head) ps
  pub ascend : IsStrictlySortedBy key_cmp p.head.origins
  pub from_on : (q : Piece) → Contains ps q → p.head.frag.t1 ≤ q.head.frag.t1
  pub up_to : (q : Piece) → Contains ps q → q.head.frag.t2 ≤ p.head.frag.t2
  pub first : (q : Piece) × Contains ps q × (q.head.frag.t1 ≡ p.head.frag.t1)
  pub last : (q : Piece) × Contains ps q × (q.head.frag.t2 ≡ p.head.frag.t2)
  pub versions : (k : Key) (c : List ℤ) → version_at p.versions k c ≡ left_of (keeps_last p.head) (all_versions ps) k c
  pub hull : p.head.dense ≡ true → IsCommonHull (box_in p.head) ps

-- ---- the versions

-- the place of a version of a key at coordinates
abbrev pub version_place : Frame → List ℤ → Key → VersionPlace
version_place frame c k = record { place = place_of frame c; key = k }

-- versions are compared by the places of their cells in global order, and then by their keys
abbrev pub version_place_cmp : VersionPlace → VersionPlace → Ordering
version_place_cmp = (derived.ghosts).cmp

-- versions by their places, of each place the first one
abbrev pub Placed : Type 0
Placed = map.FinMap version_place_cmp Version

unfoldable pub placed_of : Frame → List Version → Placed
placed_of frame vs = map.from_entries (list_map (λ v. (version_place frame v.coords v.key, v)) vs)

-- the versions in order, each key and cell once
abbrev pub in_version_order : Frame → List Version → List Version
in_version_order frame vs = map.values (placed_of frame vs)

-- the newest version of each cell, in order
abbrev pub newest_in_order : Frame → List Version → List Version
newest_in_order frame vs = in_version_order frame (map.values (newest_of vs))

-- the versions that a consolidation keeps of those of its sources: all of them, or the newest ones alone
abbrev pub merged_versions : Frame → Bool → List Version → List Version
merged_versions frame last vs = cond last (newest_in_order frame vs) (in_version_order frame vs)

-- ---- the head

-- the origins of heads, ascending and each once
abbrev pub origins_of_all : List Head → List Key
origins_of_all heads = fold (insert_key key_cmp) [] (flat_map (λ head. head.origins) heads)

-- the least timestamp of heads and one more, and the greatest one
abbrev pub first_from : ℕ → List Head → ℕ
first_from t heads = fold (λ s head. min s head.frag.t1) t heads

abbrev pub last_from : ℕ → List Head → ℕ
last_from t heads = fold (λ s head. max s head.frag.t2) t heads

-- the least box that has a box and those of heads
abbrev pub hull_from : SubBox → List Head → SubBox
hull_from sub heads = fold (λ hull head. hull_of hull (box_in head)) sub heads

-- the number that a head has for its cells: of a dense fragment that of the cells of its box, 2^64 - 1 at most; of a sparse one that of its versions
abbrev pub cells_told : Bool → SubBox → ℕ → ℕ
cells_told dense sub many = cond dense (min (cells_between sub.low sub.high) (2 ^ 64 - 1)) many

-- the head of a first one and others, with so many versions
abbrev pub merged_head : ℕ → Head → List Head → ℕ → Head
merged_head id first heads many =
    let corners = hull_from (box_in first) heads in
    record {
      frag = record { t1 = first_from first.frag.t1 heads; t2 = last_from first.frag.t2 heads; id = id; v = 1 };
      schema = first.schema;
      dense = first.dense;
      consolidated = true;
      low = corners.low;
      high = corners.high;
      cells = cells_told first.dense corners many;
      origins = origins_of_all (first ∷ heads);
    }

-- ---- the piece

-- the piece of a first head and others, with these versions
abbrev pub made_with : ℕ → Head → List Head → List Version → Piece
made_with id first heads versions = record { head = merged_head id first heads (length versions); versions = versions }

-- the piece of what is kept of all that was got of their versions
abbrev pub merged_with : Frame → ℕ → Head → List Head → List Version → Piece
merged_with frame id first heads got = made_with id first heads (merged_versions frame (keeps_last first) got)

abbrev pub heads_of : List Piece → List Head
heads_of ps = list_map (λ p. p.head) ps

-- what a piece and others are merged into
abbrev pub merged_piece : Frame → ℕ → Piece → List Piece → Piece
merged_piece frame id p ps = merged_with frame id p.head (heads_of ps) (all_versions (p ∷ ps))

-- ---- what was got of pieces

-- in both lists the same is found at each key and coordinate
abbrev pub AreAlike : List Version → List Version → Type 0
AreAlike vs us = (k : Key) (c : List ℤ) → version_at vs k c ≡ version_at us k c

-- of each piece in turn a list was got in which the same is found
abbrev pub EachAlike : List Piece → List (List Version) → Type 0
EachAlike [] [] = ⊤
EachAlike (p ∷ ps) (vs ∷ got) = AreAlike p.versions vs × EachAlike ps got
EachAlike _ _ = ⊥

-- all lists that were got
abbrev pub all_got : List (List Version) → List Version
all_got lists = flat_map (λ vs. vs) lists

-- ---- the sources

-- the corners of the head are those of a box of the array's dimensions
abbrev pub HasBox : Frame → Head → Type 0
HasBox frame head = IsBox (box_in head) × (length head.low ≡ length frame.domain)

-- these pieces can be merged into one: each can be written, all in one schema, which has these attributes
pub record AreSources (frame : Frame) (attrs : List Attr) (ps : List Piece) : Type 0 where
  pub is_frame : IsFrame frame
  pub are_attrs : AreAttrs attrs
  pub one_schema : (p q : Piece) → Contains ps p → Contains ps q → p.head.schema ≡ q.head.schema
  pub storable : (p : Piece) → Contains ps p → IsStorable frame attrs p
