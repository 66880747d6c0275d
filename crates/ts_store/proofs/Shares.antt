-- Parts of bytes that several owners have.
use Rattle.std.proofs.Common.{◌≡◌, ℕ, ◌+◌, ◌-◌, ◌≤◌, List, length, take, drop, sym, ap, ◌∙◌, arith}
use Rattle.std.specs.Prelude.{min}
use Rattle.std.proofs.lemmas.List.{take_all, take-take, take_min, drop_min, drop-drop, drop-take, length-take-le, length-drop}

-- all of a list is a part of it
pub all_of_it : (items : List ℕ) → take (length items) (drop 0 items) ≡ items
all_of_it items = take_all (length items) items (omega arith)

-- the part between two places has as many bytes as lie between them
pub sliced : (items : List ℕ) (from count : ℕ) → take (from + count - from) (drop from items) ≡ take count (drop from items)
sliced items from count = ap (λ n. take n (drop from items)) (omega arith)

-- a part of a part is a part of the whole
pub part_of_part : (items : List ℕ) (from count start len : ℕ) → from + count ≤ length items
    → take (min len (count - min start count)) (drop (from + min start count) items) ≡ take len (drop start (take count (drop from items)))
part_of_part items from count start len within =
    let rest = drop from items in
    let part = take count rest in
    let s = min start count in
    let left = count - s in
    let at_most : s ≤ count = omega arith in
    let long : length rest ≡ length items - from = length-drop from items in
    let many : length part ≡ count = length-take-le count rest (omega (arith, within, long)) in
    let starts : drop s part ≡ drop start part = ap (λ n. drop (min start n) part) (sym many) ∙ drop_min start part in
    let split : s + left ≡ count = omega (arith, at_most) in
    let behind : drop s part ≡ take left (drop s rest) = ap (λ n. drop s (take n rest)) (sym split) ∙ drop-take s left rest in
    let there : length (drop s rest) ≡ length rest - s = length-drop s rest in
    let room : length (take left (drop s rest)) ≡ left = length-take-le left (drop s rest) (omega (arith, within, long, there, at_most)) in
    let fewer : take (min len left) (take left (drop s rest)) ≡ take len (take left (drop s rest)) =
    ap (λ n. take (min len n) (take left (drop s rest))) (sym room) ∙ take_min len (take left (drop s rest)) in
    let once : take (min len left) (take left (drop s rest)) ≡ take (min len left) (drop s rest) = take-take (min len left) left (drop s rest) (omega arith) in
    let whole : drop s rest ≡ drop (from + s) items = drop-drop s from items in
    ap (take (min len left)) (sym whole) ∙ sym once ∙ fewer ∙ ap (take len) (sym behind ∙ starts)
