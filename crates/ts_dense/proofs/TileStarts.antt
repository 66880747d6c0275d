-- Where byte lists start in tiles of these sizes, and the steps of the loops that write it.
use Rattle.std.proofs.Common.{◌≡◌, ℕ, zero, suc, ◌+◌, ◌-◌, ◌<◌, ◌≤◌, ◌^◌, min, List, [], ◌∷◌, ◌++◌, length, take, drop, Some, sym, ap, ◌∙◌, arith, append_assoc, length-append, get_or}
use Rattle.std.specs.List.{flat_map, slice_get}
use Rattle.std.proofs.lemmas.List.{drop-drop, take_min, length-drop, drop_more, take-append-drop}
use Rattle.ts_wire.specs.declared.kinds.Kind.TheVariants as kind
use Rattle.ts_wire.specs.Envelope.{wrapped}
use Rattle.ts_wire.specs.Numbers.{number_bytes}
use Rattle.ts_wire.proofs.Objects.{length-wrapped}
use Rattle.ts_table.specs.Texts.{joined, starts_from}
use Rattle.ts_sparse.specs.Tilings.{tile_starts, starts_in}
use Rattle.ts_sparse.proofs.StartLaws.{its_rest}
use Rattle.ts_dense.specs.Slots.{tiles_by}

-- an object of all texts leaves room for where its tiles start
pub texts_room : (size : ℕ) (bytes : List ℕ) (texts : List (List ℕ)) → size < 2 ^ 64 → size ≡ length bytes → bytes ≡ wrapped kind.Column (joined texts) → 14 + length (joined texts) < 2 ^ 64
texts_room size bytes texts small sized spelled =
    let long : length bytes ≡ 14 + length (joined texts) = ap length spelled ∙ length-wrapped kind.Column (joined texts) in
    omega arith

-- ---- one tile

-- the byte lists from one place up to another
abbrev pub part : List (List ℕ) → ℕ → ℕ → List (List ℕ)
part texts first end = take (end - first) (drop first texts)

part_more : (texts : List (List ℕ)) (place end : ℕ) (x : List ℕ) → place < end → end ≤ length texts → slice_get texts place ≡ Some x → part texts place end ≡ x ∷ part texts (place + 1) end
part_more texts place end x before within is =
    let rest = its_rest texts place x (omega arith) is in
    let step : end - place ≡ suc (end - (place + 1)) = omega arith in
    ap (λ n. take n (drop place texts)) step ∙ ap (take (suc (end - (place + 1)))) rest

part_none : (texts : List (List ℕ)) (place end : ℕ) → end ≤ place → part texts place end ≡ []
part_none texts place end over =
    let none : end - place ≡ 0 = omega arith in
    ap (λ n. take n (drop place texts)) none

joined-append : (xs ys : List (List ℕ)) → length (joined (xs ++ ys)) ≡ length (joined xs) + length (joined ys)
joined-append [] ys = omega arith
joined-append (x ∷ xs) ys = omega (arith, length-append x (joined (xs ++ ys)), length-append x (joined xs), joined-append xs ys)

-- a part has no more bytes than all
joined-drop : (n : ℕ) (texts : List (List ℕ)) → length (joined (drop n texts)) ≤ length (joined texts)
joined-drop zero texts = omega arith
joined-drop (suc n) [] = omega arith
joined-drop (suc n) (t ∷ texts) = omega (arith, joined-drop n texts, length-append t (joined texts))

joined-take : (n : ℕ) (texts : List (List ℕ)) → length (joined (take n texts)) ≤ length (joined texts)
joined-take zero texts = omega arith
joined-take (suc n) [] = omega arith
joined-take (suc n) (t ∷ texts) = omega (arith, joined-take n texts, length-append t (joined texts), length-append t (joined (take n texts)))

pub part_small : (texts : List (List ℕ)) (first end : ℕ) → length (joined (part texts first end)) ≤ length (joined texts)
part_small texts first end = omega (arith, joined-take (end - first) (drop first texts), joined-drop first texts)

-- what is written of a tile, and what is left to write
abbrev pub InTile : List ℕ → List (List ℕ) → ℕ → ℕ → List ℕ → ℕ → ℕ → Type 0
InTile old texts first end new at place =
    (new ++ flat_map (number_bytes 8) (starts_from at (part texts place end)) ≡ old ++ flat_map (number_bytes 8) (starts_from 0 (part texts first end))) × (at + length (joined (part texts place end)) < 2 ^ 64)

pub tile_begun : (old new : List ℕ) (texts : List (List ℕ)) (first end : ℕ) → length (joined texts) < 2 ^ 64 → new ≡ old → InTile old texts first end new 0 first
tile_begun old new texts first end few same =
    (ap (λ text. text ++ flat_map (number_bytes 8) (starts_from 0 (part texts first end))) same, omega (arith, few, part_small texts first end))

pub tile_room : (old new : List ℕ) (texts : List (List ℕ)) (first end at place size : ℕ) (x : List ℕ) → InTile old texts first end new at place → place < end → end ≤ length texts → slice_get texts place ≡ Some x → size ≡ length x → at + size < 2 ^ 64
tile_room old new texts first end at place size x (whole, room) before within is sized =
    let long : length (joined (part texts place end)) ≡ length x + length (joined (part texts (place + 1) end)) =
    ap (λ ts. length (joined ts)) (part_more texts place end x before within is) ∙ length-append x (joined (part texts (place + 1) end)) in
    omega arith

pub tile_more : (old new pushed : List ℕ) (texts : List (List ℕ)) (first end at more place : ℕ) (x : List ℕ) → InTile old texts first end new at place → place < end → end ≤ length texts → slice_get texts place ≡ Some x
    → pushed ≡ new ++ number_bytes 8 at → more ≡ at + length x → InTile old texts first end pushed more (place + 1)
tile_more old new pushed texts first end at more place x (whole, room) before within is push grown =
    let rest = part_more texts place end x before within is in
    let tail = part texts (place + 1) end in
    let long : length (joined (part texts place end)) ≡ length x + length (joined tail) = ap (λ ts. length (joined ts)) rest ∙ length-append x (joined tail) in (
      ap (λ text. text ++ flat_map (number_bytes 8) (starts_from more tail)) push ∙ append_assoc new (number_bytes 8 at) (flat_map (number_bytes 8) (starts_from more tail))
          ∙ ap (λ i. new ++ (number_bytes 8 at ++ flat_map (number_bytes 8) (starts_from i tail))) grown
          ∙ ap (λ ts. new ++ flat_map (number_bytes 8) (starts_from at ts)) (sym rest) ∙ whole,
      omega arith,
    )

-- how many bytes of a tile are counted, and how many are left
abbrev pub Counting : List (List ℕ) → ℕ → ℕ → ℕ → ℕ → Type 0
Counting texts first end size place = size + length (joined (part texts place end)) ≡ length (joined (part texts first end))

pub count_more : (texts : List (List ℕ)) (first end size more place : ℕ) (x : List ℕ) → Counting texts first end size place → place < end → end ≤ length texts → slice_get texts place ≡ Some x
    → more ≡ size + length x → Counting texts first end more (place + 1)
count_more texts first end size more place x whole before within is grown =
    let tail = part texts (place + 1) end in
    let long : length (joined (part texts place end)) ≡ length x + length (joined tail) = ap (λ ts. length (joined ts)) (part_more texts place end x before within is) ∙ length-append x (joined tail) in
    omega arith

pub count_room : (texts : List (List ℕ)) (first end size place grown : ℕ) (x : List ℕ) → Counting texts first end size place → place < end → end ≤ length texts → slice_get texts place ≡ Some x → length (joined texts) < 2 ^ 64 → grown ≡ length x → size + grown < 2 ^ 64
count_room texts first end size place grown x whole before within is few sized =
    let tail = part texts (place + 1) end in
    let long : length (joined (part texts place end)) ≡ length x + length (joined tail) = ap (λ ts. length (joined ts)) (part_more texts place end x before within is) ∙ length-append x (joined tail) in
    omega (arith, part_small texts first end)

-- ---- tile by tile

-- a tile of so many byte lists ends there, or with the last
abbrev pub EndsAt : List (List ℕ) → ℕ → ℕ → ℕ → Type 0
EndsAt texts first count end = end ≡ first + min count (length texts - first)

tile_is : (texts : List (List ℕ)) (first count end : ℕ) → EndsAt texts first count end → part texts first end ≡ take count (drop first texts)
tile_is texts first count end is =
    let size : end - first ≡ min count (length (drop first texts)) = omega (arith, length-drop first texts) in
    ap (λ n. take n (drop first texts)) size ∙ take_min count (drop first texts)

rest_is : (texts : List (List ℕ)) (first count end : ℕ) → first ≤ length texts → EndsAt texts first count end → drop end texts ≡ drop count (drop first texts)
rest_is texts first count end within is = drop-drop_min
  where
    drop_min : {X : Type 0} (n : ℕ) (xs : List X) → drop (min n (length xs)) xs ≡ drop n xs
    drop_min zero xs = let none : min 0 (length xs) ≡ 0 = omega arith in ap (λ k. drop k xs) none
    drop_min (suc n) [] = let none : min (suc n) 0 ≡ 0 = omega arith in ap (λ k. drop k []) none
    drop_min (suc n) (x ∷ xs) = let one : min (suc n) (suc (length xs)) ≡ suc (min n (length xs)) = omega arith in ap (λ k. drop k (x ∷ xs)) one ∙ drop_min n xs

    drop-drop_min : drop end texts ≡ drop count (drop first texts)
    drop-drop_min =
        let size : end ≡ first + min count (length (drop first texts)) = omega (arith, length-drop first texts) in
        ap (λ n. drop n texts) size ∙ sym (drop-drop (min count (length (drop first texts))) first texts) ∙ drop_min count (drop first texts)

-- what is written, and what is left to write
abbrev pub Writing : List ℕ → List ℕ → List (List ℕ) → List ℕ → ℕ → ℕ → Type 0
Writing old counts texts new first i =
    (new ++ flat_map (number_bytes 8) (starts_in (tiles_by (drop i counts) (drop first texts))) ≡ old ++ flat_map (number_bytes 8) (starts_in (tiles_by counts texts))) × (first ≤ length texts)

-- what is found, and what is left to find
abbrev pub Finding : List ℕ → List (List ℕ) → List ℕ → ℕ → ℕ → ℕ → Type 0
Finding counts texts found first at i =
    (found ++ tile_starts at (tiles_by (drop i counts) (drop first texts)) ≡ tile_starts 14 (tiles_by counts texts)) × (at + length (joined (drop first texts)) < 2 ^ 64) × (first ≤ length texts)

-- the bytes of a tile and those behind it
parts_long : (texts : List (List ℕ)) (first count end : ℕ) → first ≤ length texts → EndsAt texts first count end
    → length (joined (drop first texts)) ≡ length (joined (part texts first end)) + length (joined (drop end texts))
parts_long texts first count end within ends =
    let tile = take count (drop first texts) in
    let behind = drop count (drop first texts) in
    ap (λ ts. length (joined ts)) (sym (take-append-drop count (drop first texts))) ∙ joined-append tile behind
    ∙ ap (λ ts. length (joined ts) + length (joined behind)) (sym (tile_is texts first count end ends)) ∙ ap (λ ts. length (joined (part texts first end)) + length (joined ts)) (sym (rest_is texts first count end within ends))

pub finding_more : (counts : List ℕ) (texts : List (List ℕ)) (found pushed : List ℕ) (first end at more i : ℕ) → Finding counts texts found first at i → i < length counts → EndsAt texts first (get_or counts i 0) end
    → pushed ≡ found ++ at ∷ [] → more ≡ at + length (joined (part texts first end)) → Finding counts texts pushed end more (i + 1)
finding_more counts texts found pushed first end at more i (whole, room, within) before ends push grown =
    let count = get_or counts i 0 in
    let others = drop (i + 1) counts in
    let rest : drop i counts ≡ count ∷ others = drop_more counts i 0 before in
    let behind = drop count (drop first texts) in (
      ap (λ text. text ++ tile_starts more (tiles_by others (drop end texts))) push ∙ append_assoc found (at ∷ []) (tile_starts more (tiles_by others (drop end texts)))
          ∙ ap (λ ts. found ++ (at ∷ tile_starts more (tiles_by others ts))) (rest_is texts first count end within ends)
          ∙ ap (λ n. found ++ (at ∷ tile_starts n (tiles_by others behind))) (grown ∙ ap (λ ts. at + length (joined ts)) (tile_is texts first count end ends))
          ∙ ap (λ ns. found ++ tile_starts at (tiles_by ns (drop first texts))) (sym rest) ∙ whole,
      omega (arith, parts_long texts first count end within ends),
      omega arith,
    )

pub finding_room : (counts : List ℕ) (texts : List (List ℕ)) (found : List ℕ) (first end at i count size : ℕ) → Finding counts texts found first at i → EndsAt texts first count end → size ≡ length (joined (part texts first end)) → at + size < 2 ^ 64
finding_room counts texts found first end at i count size (whole, room, within) ends sized = omega (arith, parts_long texts first count end within ends)
