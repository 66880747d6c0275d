-- Lists of boxes: tables that count how often they are looked into, which boxes meet another, and how boxes are spelled.
use Rattle.std.specs.Prelude.{◌≡◌, ℕ, ◌+◌, ◌-◌, ◌^◌, min, if◌then◌else◌, List, [], ◌∷◌, ◌++◌, length, ℤ}
use Rattle.std.specs.List.{All}
use Rattle.std.specs.Int.{w128}
use Rattle.byteorder.specs.Endian.{little_bytes, low_bytes}
use Rattle.ts_domain.specs.declared.boxes.SubBox.{SubBox}
use Rattle.ts_domain.specs.Boxes.{IsBox, do_boxes_meet}

-- the boxes of a table, and how often one of them was looked at
pub record Rects : Type 0 where
  pub boxes : List SubBox
  pub looks : ℕ

-- one look more; at 2^64 - 1 the count stays
abbrev pub looked : ℕ → ℕ
looked looks = min (looks + 1) (2 ^ 64 - 1)

-- it is a box, with as many dimensions as the other one
pub record IsLike (other box : SubBox) : Type 0 where
  pub valid : IsBox box
  pub dims : length box.low ≡ length other.low

-- they are boxes, all with as many dimensions
abbrev pub AllLike : List SubBox → Type 0
AllLike boxes = (sub : SubBox) × All (IsLike sub) boxes

-- the places of the boxes that meet a box, ascending; the place of the first box is `at`
abbrev pub places_from : SubBox → ℕ → List SubBox → List ℕ
places_from sub at [] = []
places_from sub at (b ∷ bs) = if do_boxes_meet b sub then at ∷ places_from sub (at + 1) bs else places_from sub (at + 1) bs

-- the places of the boxes that meet a box, ascending, counted from 0
abbrev pub places_meeting : SubBox → List SubBox → List ℕ
places_meeting sub boxes = places_from sub 0 boxes

-- a number in 16 bytes, the lowest first, a negative one by two's complement
abbrev pub wide_bytes : ℤ → List ℕ
wide_bytes x = little_bytes 16 (low_bytes w128 16 x)

-- the spelling of bounds: dimension by dimension the low one and the high one
abbrev pub sides_bytes : List ℤ → List ℤ → List ℕ
sides_bytes (l ∷ ls) (h ∷ hs) = wide_bytes l ++ (wide_bytes h ++ sides_bytes ls hs)
sides_bytes _ _ = []

-- the spelling of a box: dimension by dimension the low bound and the high bound, each in 16 bytes
unfoldable pub rect_bytes : SubBox → List ℕ
rect_bytes box = sides_bytes box.low box.high
