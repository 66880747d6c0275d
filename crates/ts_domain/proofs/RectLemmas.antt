-- What holds of the box at a place of a table, and how the bounds of a box are spelled one after the other.
use Rattle.std.proofs.Common.{◌≡◌, ℕ, ◌+◌, ◌<◌, ◌≤◌, List, [], ◌++◌, length, get_or, drop, arith, refl, append_assoc, ℤ, pos}
use Rattle.std.specs.List.{All}
use Rattle.std.proofs.lemmas.List.{drop_more, drop_all}
use Rattle.ts_domain.specs.declared.boxes.SubBox.{SubBox}
use Rattle.ts_domain.specs.Boxes.{IsBox}
use Rattle.ts_domain.proofs.Between.{length-are_bounds}
use Rattle.ts_domain.specs.Rects.{IsLike, wide_bytes, sides_bytes}

pub like_at : (sub : SubBox) (boxes : List SubBox) (at : ℕ) → All (IsLike sub) boxes → at < length boxes → IsLike sub (get_or boxes at sub)
like_at sub boxes at all within = all at sub within

-- there are as many high bounds as low ones
pub as_many : (box : SubBox) → IsBox box → length box.high ≡ length box.low
as_many box valid = length-are_bounds box.low box.high valid

-- one dimension more
pub sides_more : (ls hs : List ℤ) (i : ℕ) (text whole side : List ℕ) → i < length ls → length hs ≡ length ls → text ++ sides_bytes (drop i ls) (drop i hs) ≡ whole
    → side ≡ wide_bytes (get_or ls i (pos 0)) ++ wide_bytes (get_or hs i (pos 0))
    → (text ++ side) ++ sides_bytes (drop (i + 1) ls) (drop (i + 1) hs) ≡ whole
sides_more ls hs i text whole side within same so is =
    let lows = drop_more ls i (pos 0) within in
    let there : i < length hs = omega arith in
    let highs = drop_more hs i (pos 0) there in
    let opened : text ++ (wide_bytes (get_or ls i (pos 0)) ++ (wide_bytes (get_or hs i (pos 0)) ++ sides_bytes (drop (i + 1) ls) (drop (i + 1) hs))) ≡ whole = rw (lows, highs) at so in
    rw is (simp append_assoc opened)

-- after all dimensions nothing is left
pub sides_all : (ls hs : List ℤ) (i : ℕ) → length ls ≤ i → sides_bytes (drop i ls) (drop i hs) ≡ []
sides_all ls hs i past = rw (drop_all i ls past) refl
