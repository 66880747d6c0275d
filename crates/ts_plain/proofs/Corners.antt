-- The sides between two corners, so far as they were written.
use Rattle.std.proofs.Common.{◌≡◌, ℕ, zero, suc, ◌+◌, ◌<◌, ◌≤◌, ℤ, List, [], ◌∷◌, ◌++◌, length, take, get_or, refl, sym, ap, ◌∙◌, arith, append_assoc}
use Rattle.std.proofs.lemmas.List.{append-nil, take_all}
use Rattle.std.proofs.lemmas.Grind.{flat_map-append}
use Rattle.std.specs.List.{flat_map}
use Rattle.ts_wire.specs.Numbers.{int_bytes}
use Rattle.ts_plain.specs.declared.stored.Side.{Side}
use Rattle.ts_plain.specs.Plain.{side_bytes, hull_bytes}
use Rattle.ts_plain.specs.Writes.{sides_of}

sides_more : (ls hs : List ℤ) (i : ℕ) (l h : ℤ) → i < length ls → i < length hs
    → take (i + 1) (sides_of ls hs) ≡ take i (sides_of ls hs) ++ record { low = get_or ls i l; high = get_or hs i h } ∷ []
sides_more [] hs i l h a b = absurd (omega arith)
sides_more (x ∷ ls) [] i l h a b = absurd (omega arith)
sides_more (x ∷ ls) (y ∷ hs) zero l h a b = refl
sides_more (x ∷ ls) (y ∷ hs) (suc i) l h a b =
    let next : suc i + 1 ≡ suc (i + 1) = omega arith in
    ap (λ n. take n (sides_of (x ∷ ls) (y ∷ hs))) next ∙ ap (λ sides. record { low = x; high = y } ∷ sides) (sides_more ls hs i l h (omega arith) (omega arith))

sides_length : (ls hs : List ℤ) → length hs ≡ length ls → length (sides_of ls hs) ≡ length ls
sides_length [] hs same = refl
sides_length (x ∷ ls) [] same = absurd (omega (arith, same))
sides_length (x ∷ ls) (y ∷ hs) same = ap suc (sides_length ls hs (omega (arith, same)))

pub hull_more : (ls hs : List ℤ) (i : ℕ) (l h : ℤ) → i < length ls → length hs ≡ length ls
    → flat_map side_bytes (take (i + 1) (sides_of ls hs)) ≡ flat_map side_bytes (take i (sides_of ls hs)) ++ (int_bytes 16 (get_or ls i l) ++ int_bytes 16 (get_or hs i h))
unfolding side_bytes
hull_more ls hs i l h a same =
    let side : Side = record { low = get_or ls i l; high = get_or hs i h } in
    ap (flat_map side_bytes) (sides_more ls hs i l h a (omega (arith, same))) ∙ flat_map-append side_bytes (take i (sides_of ls hs)) (side ∷ [])
    ∙ ap (λ text. flat_map side_bytes (take i (sides_of ls hs)) ++ text) (append-nil (side_bytes side))

pub hull_whole : (ls hs : List ℤ) (i : ℕ) → length ls ≤ i → length hs ≡ length ls → flat_map side_bytes (take i (sides_of ls hs)) ≡ hull_bytes (sides_of ls hs)
unfolding hull_bytes
hull_whole ls hs i all same = ap (flat_map side_bytes) (take_all i (sides_of ls hs) (omega (arith, sides_length ls hs same)))

pub hull_on : (before text : List ℕ) (ls hs : List ℤ) (i : ℕ) (l h : ℤ) → i < length ls → length hs ≡ length ls → text ≡ before ++ flat_map side_bytes (take i (sides_of ls hs))
    → text ++ (int_bytes 16 (get_or ls i l) ++ int_bytes 16 (get_or hs i h)) ≡ before ++ flat_map side_bytes (take (i + 1) (sides_of ls hs))
hull_on before text ls hs i l h a same was =
    ap (λ t. t ++ (int_bytes 16 (get_or ls i l) ++ int_bytes 16 (get_or hs i h))) was ∙ append_assoc before _ _ ∙ ap (λ t. before ++ t) (sym (hull_more ls hs i l h a same))

-- what closes a loop that writes the sides
pub ruleset hull_loop = (hull_on, hull_whole)
