-- Fields that have to be known bytes.
use Rattle.std.proofs.Common.{◌≡◌, ℕ, zero, suc, ◌+◌, ◌*◌, ◌<◌, ◌≤◌, true, ◌&&◌, nat_eq, List, [], ◌∷◌, ◌++◌, length, get_or, take, drop, Ok, Err, refl, sym, ap, ◌∙◌, arith}
use Rattle.std.specs.Prelude.{zip}
use Rattle.std.specs.Simd.{first_chunks}
use Rattle.std.proofs.lemmas.Bool.{and_parts, and_from, eqb-true}
use Rattle.std.proofs.lemmas.List.{drop-drop, take_more, take_all}
use Rattle.ts_wire.specs.Place.{Place, Read, each_at, bytes_at}
use Rattle.ts_wire.proofs.Loop.{with_front, each_place_on, each_place_stop, each_done}
use Rattle.ts_footer.specs.TreeTexts.{are_same, same_at}

pub is_same_true : (xs ys : List ℕ) → are_same xs ys ≡ true → xs ≡ ys
is_same_true [] [] t = refl
is_same_true [] (y ∷ ys) t = cc
is_same_true (x ∷ xs) [] t = cc
is_same_true (x ∷ xs) (y ∷ ys) t =
    let parts = and_parts (nat_eq x y) (are_same xs ys) t in
    let first : x ≡ y = eqb-true x y parts.0 in
    let others = is_same_true xs ys parts.1 in
    cc

-- a field that is both of these
pub both_same : (one other bytes : List ℕ) (p q : Place) → bytes_at 16 p ≡ Ok (bytes, q) → are_same bytes one ≡ true → are_same bytes other ≡ true → same_at (one, other) p ≡ Ok (one, q)
unfolding same_at
both_same one other bytes p q read first second =
    let rule : are_same bytes one && are_same bytes other ≡ true = and_from (are_same bytes one) (are_same bytes other) first second in
    rw (read, rule) (ap (λ b. Ok (b, q)) (is_same_true bytes one first))

-- the chunk at a place
chunk_at : (n count place : ℕ) (xs d : List ℕ) → place < count → get_or (first_chunks n count xs) place d ≡ take n (drop (n * place) xs)
chunk_at n (suc count) zero xs d h = let none : 0 ≡ n * 0 = omega arith in ap (λ i. take n (drop i xs)) none
chunk_at n (suc count) (suc place) xs d h =
    let next : n + n * place ≡ n * suc place = omega arith in
    chunk_at n count place (drop n xs) d (omega arith) ∙ ap (take n) (drop-drop (n * place) n xs ∙ ap (λ i. drop i xs) next)
chunk_at n zero place xs d h = absurd (omega arith)

length-first_chunks : (n count : ℕ) (xs : List ℕ) → length (first_chunks n count xs) ≡ count
length-first_chunks n zero xs = refl
length-first_chunks n (suc count) xs = ap suc (length-first_chunks n count (drop n xs))

-- the pair at a place
zip_at : (xs ys : List (List ℕ)) (i : ℕ) (d : List ℕ) → i < length xs → i < length ys → get_or (zip xs ys) i (d, d) ≡ (get_or xs i d, get_or ys i d)
zip_at [] ys i d a b = absurd (omega arith)
zip_at (x ∷ xs) [] i d a b = absurd (omega arith)
zip_at (x ∷ xs) (y ∷ ys) zero d a b = refl
zip_at (x ∷ xs) (y ∷ ys) (suc i) d a b = zip_at xs ys i d (omega arith) (omega arith)

length-zip : (xs ys : List (List ℕ)) → length xs ≡ length ys → length (zip xs ys) ≡ length xs
length-zip [] ys e = refl
length-zip (x ∷ xs) [] e = absurd (omega arith)
length-zip (x ∷ xs) (y ∷ ys) e = ap suc (length-zip xs ys (omega arith))

-- the pairs of so many fields
abbrev pub pairs : ℕ → List ℕ → List ℕ → List (List ℕ × List ℕ)
pairs count first second = zip (first_chunks 16 count first) (first_chunks 16 count second)

pub length-pairs : (count : ℕ) (first second : List ℕ) → length (pairs count first second) ≡ count
length-pairs count first second =
    length-zip (first_chunks 16 count first) (first_chunks 16 count second) (length-first_chunks 16 count first ∙ sym (length-first_chunks 16 count second))
    ∙ length-first_chunks 16 count first

pair_at : (count place : ℕ) (first second : List ℕ) → place < count → get_or (pairs count first second) place ([], []) ≡ (take 16 (drop (16 * place) first), take 16 (drop (16 * place) second))
pair_at count place first second h =
    let one = length-first_chunks 16 count first in
    let two = length-first_chunks 16 count second in
    zip_at (first_chunks 16 count first) (first_chunks 16 count second) place [] (omega arith) (omega arith)
    ∙ ap (λ x. (x, get_or (first_chunks 16 count second) place [])) (chunk_at 16 count place first [] h)
    ∙ ap (λ y. (take 16 (drop (16 * place) first), y)) (chunk_at 16 count place second [] h)

-- what was read, and what is left
abbrev pub Same : ℕ → List ℕ → List ℕ → ℕ → Place → Read (List (List ℕ)) → Type 0
Same count first second place cursor all = with_front (take place (first_chunks 16 count first)) (each_at same_at (drop place (pairs count first second)) cursor) ≡ all

-- one field more
pub same_on : (count place : ℕ) (first second one other : List ℕ) (p q : Place) (all : Read (List (List ℕ))) → place < count → one ≡ take 16 (drop (16 * place) first) → other ≡ take 16 (drop (16 * place) second)
    → Same count first second place p all → same_at (one, other) p ≡ Ok (one, q) → Same count first second (place + 1) q all
same_on count place first second one other p q all more is_one is_other so was =
    let here : get_or (pairs count first second) place ([], []) ≡ (one, other) = pair_at count place first second more ∙ ap (λ x. (x, take 16 (drop (16 * place) second))) (sym is_one) ∙ ap (λ y. (one, y)) (sym is_other) in
    let read : same_at (get_or (pairs count first second) place ([], [])) p ≡ Ok (one, q) = ap (λ e. same_at e p) here ∙ was in
    let long = length-first_chunks 16 count first in
    let front : take (place + 1) (first_chunks 16 count first) ≡ take place (first_chunks 16 count first) ++ one ∷ [] =
    take_more (first_chunks 16 count first) place [] (omega arith) ∙ ap (λ x. take place (first_chunks 16 count first) ++ x ∷ []) (chunk_at 16 count place first [] more ∙ sym is_one) in
    let step = each_place_on same_at (pairs count first second) place ([], []) (take place (first_chunks 16 count first)) p q one all (omega (arith, length-pairs count first second)) read so in
    ap (λ f. with_front f (each_at same_at (drop (place + 1) (pairs count first second)) q)) front ∙ step

-- a field that is not the same
pub same_stop : (count place : ℕ) (first second one other : List ℕ) (p : Place) (all : Read (List (List ℕ))) (at : ℕ) → place < count → one ≡ take 16 (drop (16 * place) first) → other ≡ take 16 (drop (16 * place) second)
    → Same count first second place p all → same_at (one, other) p ≡ Err at → all ≡ Err at
same_stop count place first second one other p all at more is_one is_other so was =
    let here : get_or (pairs count first second) place ([], []) ≡ (one, other) = pair_at count place first second more ∙ ap (λ x. (x, take 16 (drop (16 * place) second))) (sym is_one) ∙ ap (λ y. (one, y)) (sym is_other) in
    each_place_stop same_at (pairs count first second) place ([], []) (take place (first_chunks 16 count first)) p all (omega (arith, length-pairs count first second)) so at (ap (λ e. same_at e p) here ∙ was)

-- no field is left
pub same_done : (count place : ℕ) (first second : List ℕ) (p : Place) (all : Read (List (List ℕ))) → count ≤ place → Same count first second place p all → all ≡ Ok (first_chunks 16 count first, p)
same_done count place first second p all over so =
    let done = each_done same_at (pairs count first second) place (take place (first_chunks 16 count first)) p all (omega (arith, length-pairs count first second)) so in
    let long = length-first_chunks 16 count first in
    done ∙ ap (λ f. Ok (f, p)) (take_all place (first_chunks 16 count first) (omega arith))

pub ruleset same_loop = (same_on, same_stop, same_done)
