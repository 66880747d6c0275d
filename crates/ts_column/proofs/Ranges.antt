-- Where a tile lies in the object of its column.
use Rattle.std.proofs.Common.{◌≡◌, ℕ, ◌+◌, ◌*◌, List, [], ◌∷◌, ◌++◌, zero, suc, ◌≤◌, length, length-append, length-drop, take, drop, refl, sym, ap, ◌∙◌, arith, append_assoc}
use Rattle.std.specs.List.{flat_map, All}
use Rattle.std.proofs.lemmas.List.{take_at, drop_at, drop-drop, take-append-drop, length-take-le}
use Rattle.std.proofs.lemmas.List.Concat.{flat_map-append}
use Rattle.std.proofs.lemmas.List.Elements.{All-head, All-tail}
use Rattle.ts_wire.specs.declared.kinds.Kind.TheVariants as kind
use Rattle.ts_wire.specs.Broken.{joined}
use Rattle.ts_wire.specs.Envelope.{wrapped, envelope_bytes}
use Rattle.ts_wire.proofs.Objects.{length-envelope_bytes}

-- the bytes of a tile begin behind the envelope and the tiles before it
pub tile_range : (front : List (List ℕ)) (tile : List ℕ) (rest : List (List ℕ)) → take (length tile) (drop (14 + length (joined front)) (wrapped kind.Column (joined (front ++ tile ∷ rest)))) ≡ tile
unfolding wrapped
tile_range front tile rest =
    let body = joined (front ++ tile ∷ rest) in
    let envelope = envelope_bytes kind.Column (length body) in
    let split : envelope ++ body ≡ (envelope ++ joined front) ++ (tile ++ joined rest) = ap (λ text. envelope ++ text) (flat_map-append (λ bytes. bytes) front (tile ∷ rest)) ∙ sym (append_assoc envelope (joined front) (tile ++ joined rest)) in
    let before : length (envelope ++ joined front) ≡ 14 + length (joined front) = omega (arith, length-append envelope (joined front), length-envelope_bytes kind.Column (length body)) in
    ap (λ text. take (length tile) (drop (14 + length (joined front)) text)) split
    ∙ ap (take (length tile)) (drop_at (envelope ++ joined front) (tile ++ joined rest) (14 + length (joined front)) before)
    ∙ take_at tile (joined rest) (length tile) refl

-- tiles before it that are all as long take so many bytes
pub length-joined : (n : ℕ) (front : List (List ℕ)) → All (λ t. length t ≡ n) front → length (joined front) ≡ length front * n
length-joined n [] all = omega arith
length-joined n (t ∷ front) all =
    let here = All-head (λ t. length t ≡ n) t front all in
    length-append t (joined front) ∙ omega (arith, here, length-joined n front (All-tail (λ t. length t ≡ n) t front all))

-- ---- columns of one width: a range of whole cells holds a part of the values, wherever tiles begin

module _ {X : Type 0} (spell : X → List ℕ) (w : ℕ) (wide : (x : X) → length (spell x) ≡ w) where
  -- the cells before a place are left away
  pub drop_cells : (xs : List X) (n : ℕ) → n ≤ length xs → drop (n * w) (flat_map spell xs) ≡ flat_map spell (drop n xs)
  drop_cells xs zero h = let none : zero * w ≡ 0 = omega arith in ap (λ i. drop i (flat_map spell xs)) none
  drop_cells [] (suc n) h = absurd (omega arith)
  drop_cells (x ∷ xs) (suc n) h =
      let split : suc n * w ≡ w + n * w = omega arith in
      ap (λ i. drop i (spell x ++ flat_map spell xs)) split
      ∙ sym (drop-drop (n * w) w (spell x ++ flat_map spell xs))
      ∙ ap (drop (n * w)) (drop_at (spell x) (flat_map spell xs) w (wide x))
      ∙ drop_cells xs n (omega arith)

  pub length-cells : (xs : List X) → length (flat_map spell xs) ≡ length xs * w
  length-cells [] = omega arith
  length-cells (x ∷ xs) = length-append (spell x) (flat_map spell xs) ∙ omega (arith, wide x, length-cells xs)

  -- and those behind another
  pub take_cells : (xs : List X) (n : ℕ) → n ≤ length xs → take (n * w) (flat_map spell xs) ≡ flat_map spell (take n xs)
  take_cells xs n h =
      let long : length (flat_map spell (take n xs)) ≡ n * w = length-cells (take n xs) ∙ ap (λ i. i * w) (length-take-le n xs h) in
      ap (λ text. take (n * w) text) (ap (flat_map spell) (sym (take-append-drop n xs)) ∙ flat_map-append spell (take n xs) (drop n xs))
      ∙ take_at (flat_map spell (take n xs)) (flat_map spell (drop n xs)) (n * w) long

  -- what a get of so many cells from a place on gives
  pub cells_range : (xs : List X) (from count : ℕ) → from + count ≤ length xs → take (count * w) (drop (14 + from * w) (wrapped kind.Column (flat_map spell xs))) ≡ flat_map spell (take count (drop from xs))
  unfolding wrapped
  cells_range xs from count within =
      let body = flat_map spell xs in
      let envelope = envelope_bytes kind.Column (length body) in
      let past : drop 14 (envelope ++ body) ≡ body = drop_at envelope body 14 (length-envelope_bytes kind.Column (length body)) in
      ap (take (count * w)) (sym (drop-drop (from * w) 14 (envelope ++ body)) ∙ ap (drop (from * w)) past ∙ drop_cells xs from (omega arith))
      ∙ take_cells (drop from xs) count (omega (arith, length-drop from xs))
