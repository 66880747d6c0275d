-- Starts that are read all at once are those that are read one by one.
use Rattle.std.proofs.Common.{◌≡◌, ℕ, zero, suc, ◌+◌, ◌*◌, ◌/◌, ◌%◌, ◌<◌, ◌≤◌, Bool, true, false, ◌&&◌, nat_le, nat_lt, nat_eq, List, [], ◌∷◌, ◌++◌, length, map, take, drop, get_or, Some, Ok, refl, sym, ap, subst, ◌∙◌, arith, length-drop, length-append}
use Rattle.std.specs.Prelude.{IsTrue}
use Rattle.std.specs.Simd.{first_chunks}
use Rattle.std.proofs.lemmas.Bool.{le-ltb}
use Rattle.std.proofs.lemmas.Bool.Decides.{nat_tests}
use Rattle.std.proofs.lemmas.List.{take_more, take_all, nil_from_length}
use Rattle.byteorder.specs.Endian.{little_number}
use Rattle.ts_wire.specs.Place.{Read, place, ◌>>=◌, items_at}
use Rattle.ts_wire.specs.Numbers.{number_at}
use Rattle.ts_table.specs.Texts.{first_or, RisesTo}
use Rattle.ts_table.proofs.Spans.{first_below}
use Rattle.ts_column.specs.Tiles.{last_of, may_follow, start_at, starts_in}
use Rattle.ts_column.specs.Starts.{AreStarts}
use Rattle.ts_column.proofs.BulkLaws.{items_one}
use Rattle.ts_column.proofs.TextLaws.{true_both, last_pushed}

-- ---- starts that rise

rises_higher : (starts : List ℕ) (a end : ℕ) → RisesTo starts a → a ≤ end → RisesTo starts end
rises_higher [] a end rises up = tt
rises_higher (s ∷ []) a end rises up = (omega (arith, rises.0, up), tt)
rises_higher (s ∷ t ∷ starts) a end rises up = (rises.0, rises_higher (t ∷ starts) a end rises.1 up)

rises_pushed : (starts : List ℕ) (a s : ℕ) → RisesTo starts a → a ≤ s → RisesTo (starts ++ s ∷ []) s
rises_pushed [] a s rises up = (omega arith, tt)
rises_pushed (t ∷ []) a s rises up = (omega (arith, rises.0, up), rises_pushed [] a s tt up)
rises_pushed (t ∷ u ∷ starts) a s rises up = (rises.0, rises_pushed (u ∷ starts) a s rises.1 up)

-- one start more, while the answer stays yes
pub rises_on : (starts : List ℕ) (i a : ℕ) (all : Bool) → i < length starts → (IsTrue all → RisesTo (take i starts) a) → IsTrue (all && nat_le a (get_or starts i 0)) → RisesTo (take (i + 1) starts) (get_or starts i 0)
rises_on starts i a true more before h =
    let up : a ≤ get_or starts i 0 = grind (arith, nat_tests, h) in
    rw (take_more starts i 0 more) (rises_pushed (take i starts) a (get_or starts i 0) (before refl) up)
rises_on starts i a false more before h = cc

-- the starts that were tried are all of them
pub rises_to_end : (starts : List ℕ) (i a end : ℕ) → length starts ≤ i → RisesTo (take i starts) a → a ≤ end → RisesTo starts end
rises_to_end starts i a end over rises up = rises_higher starts a end (subst (λ (s : List ℕ). RisesTo s a) (take_all i starts over) rises) up

-- ---- reading them

-- the starts that the bytes hold
abbrev numbers : ℕ → List ℕ → List ℕ
numbers count bytes = map (little_number 8) (first_chunks 8 count bytes)

-- a start that may stand behind these
one_start : (end : ℕ) (front bytes : List ℕ) (at : ℕ) → 8 ≤ length bytes → (may_follow (last_of front) (little_number 8 (take 8 bytes)) && nat_le (little_number 8 (take 8 bytes)) end) ≡ true
    → start_at end front (place bytes at) ≡ Ok (little_number 8 (take 8 bytes), place (drop 8 bytes) (at + 8))
unfolding number_at
one_start end front bytes at room may = let is : nat_lt (length bytes) 8 ≡ false = le-ltb (length bytes) 8 room in rw (is, may) refl

-- the starts behind one
starts_behind : (end count a : ℕ) (front bytes : List ℕ) (at : ℕ) → last_of front ≡ Some a → length bytes ≡ count * 8 → RisesTo (a ∷ numbers count bytes) end
    → items_at (start_at end) count front (place bytes at) ≡ Ok (numbers count bytes, place [] (at + count * 8))
unfolding items_at
starts_behind end zero a front bytes at last long rises =
    let none : bytes ≡ [] = nil_from_length bytes (omega arith) in
    rw none (ap (λ i. Ok ([], place [] i)) (omega arith))
starts_behind end (suc count) a front bytes at last long rises =
    let s = little_number 8 (take 8 bytes) in
    let top : s ≤ end = first_below (s ∷ numbers count (drop 8 bytes)) end rises.1 in
    let follows : may_follow (last_of front) s ≡ true = rw last (grind (arith, nat_tests, rises.0)) in
    let high : nat_le s end ≡ true = grind (arith, nat_tests, top) in
    items_one (start_at end) count front (place bytes at) s _ _ (one_start end front bytes at (omega (arith, long)) (true_both _ _ follows high))
    (starts_behind end count s (front ++ s ∷ []) (drop 8 bytes) (at + 8) (last_pushed front s) (omega (arith, long, length-drop 8 bytes)) rises.1)
    ∙ ap (λ i. Ok (s ∷ numbers count (drop 8 bytes), place [] i)) (omega arith)

-- all starts from the first on
starts_first : (end count : ℕ) (bytes : List ℕ) → length bytes ≡ count * 8 → first_or (numbers count bytes) 0 ≡ 0 → RisesTo (numbers count bytes) end
    → items_at (start_at end) count [] (place bytes 0) ≡ Ok (numbers count bytes, place [] (count * 8))
unfolding items_at
starts_first end zero bytes long first rises =
    let none : bytes ≡ [] = nil_from_length bytes (omega arith) in
    rw none refl
starts_first end (suc count) bytes long first rises =
    let s = little_number 8 (take 8 bytes) in
    let follows : may_follow (last_of []) s ≡ true = grind (arith, nat_tests, first) in
    let high : nat_le s end ≡ true = grind (arith, nat_tests, first) in
    items_one (start_at end) count [] (place bytes 0) s _ _ (one_start end [] bytes 0 (omega (arith, long)) (true_both _ _ follows high))
    (starts_behind end count s (s ∷ []) (drop 8 bytes) 8 refl (omega (arith, long, length-drop 8 bytes)) rises)
    ∙ ap (λ i. Ok (s ∷ numbers count (drop 8 bytes), place [] i)) (omega arith)

starts_whole : (end count : ℕ) (bytes starts : List ℕ) → length bytes ≡ count * 8 → starts ≡ numbers count bytes → first_or starts 0 ≡ 0 → RisesTo starts end → starts_in end count bytes ≡ Ok starts
unfolding starts_in
starts_whole end count bytes starts long are first rises =
    let from : first_or (numbers count bytes) 0 ≡ 0 = ap (λ l. first_or l 0) (sym are) ∙ first in
    let up = subst (λ (l : List ℕ). RisesTo l end) are rises in
    rw (starts_first end count bytes long from up) (ap Ok (sym are))

starts_many : (count : ℕ) (bytes : List ℕ) → length (numbers count bytes) ≡ count
starts_many zero bytes = refl
starts_many (suc count) bytes = ap suc (starts_many count (drop 8 bytes))

-- starts that take the bytes, of which the first is 0 and the others rise
pub bulk_read : (end count : ℕ) (bytes starts : List ℕ) → length bytes % 8 ≡ 0 → length bytes / 8 ≡ count → starts ≡ numbers (length bytes / 8) bytes → first_or starts 0 ≡ 0 → RisesTo starts end
    → starts_in end count bytes ≡ Ok starts
bulk_read end count bytes starts no_more many are first rises =
    starts_whole end count bytes starts (omega (arith, no_more, many)) (are ∙ ap (λ n. numbers n bytes) many) first rises

pub bulk_are : (end count : ℕ) (bytes starts : List ℕ) → length bytes / 8 ≡ count → starts ≡ numbers (length bytes / 8) bytes → first_or starts 0 ≡ 0 → RisesTo starts end → AreStarts starts end count
bulk_are end count bytes starts many are first rises = record { from_zero = first; rises = rises; many = ap length are ∙ starts_many (length bytes / 8) bytes ∙ many }

pub ruleset rising = (rises_on, rises_to_end)

pub ruleset bulk_starts = (bulk_read, bulk_are)
