-- Starts that are read one after another.
use Rattle.std.proofs.Common.{◌≡◌, ℕ, zero, suc, ◌+◌, ◌≤◌, List, [], ◌∷◌, ◌++◌, length, get_or, refl, arith, length-append}
use Rattle.std.specs.Prelude.{◌&&◌, nat_le, nat_eq, IsTrue, Bool, true, false}
use Rattle.std.proofs.lemmas.Bool.Decides.{nat_tests}
use Rattle.ts_table.specs.Texts.{first_or, RisesTo, IsTexts}
use Rattle.ts_column.specs.Tiles.{last_of, may_follow}
use Rattle.ts_column.specs.Starts.{AreStarts}

pub no_starts : (end : ℕ) → AreStarts [] end 0
no_starts end = record { from_zero = refl; rises = tt; many = refl }

first_any : (s : ℕ) (starts : List ℕ) (end : ℕ) → first_or (s ∷ starts) end ≡ first_or (s ∷ starts) 0
first_any s starts end = refl

pub starts_are_texts : (starts bytes : List ℕ) (count : ℕ) → 1 ≤ count → AreStarts starts (length bytes) count → IsTexts starts bytes
starts_are_texts [] bytes count some are = absurd (omega (arith, some, are.many))
starts_are_texts (s ∷ starts) bytes count some are = record { from_zero = are.from_zero; rises = are.rises }

pub ruleset starts_texts = (starts_are_texts)

-- the last of a list that is not empty
pub last_none : (starts : List ℕ) (s : ℕ) → length starts ≡ 0 → may_follow (last_of starts) s ≡ nat_eq s 0
last_none [] s none = refl
last_none (t ∷ starts) s none = absurd (omega (arith, none))

pub last_some : (starts : List ℕ) (i s d : ℕ) → i + 1 ≡ length starts → may_follow (last_of starts) s ≡ nat_le (get_or starts i d) s
last_some [] i s d count = absurd (omega (arith, count))
last_some (t ∷ []) zero s d count = refl
last_some (t ∷ []) (suc i) s d count = absurd (omega (arith, count))
last_some (t ∷ u ∷ starts) zero s d count = absurd (omega (arith, count))
last_some (t ∷ u ∷ starts) (suc i) s d count = last_some (u ∷ starts) i s d (omega (arith, count))

pub ruleset lasts = (last_none, last_some)

-- one start more
rises_more : (starts : List ℕ) (s end : ℕ) → RisesTo starts end → IsTrue (may_follow (last_of starts) s) → s ≤ end → RisesTo (starts ++ s ∷ []) end
rises_more [] s end rises follows high = (high, tt)
rises_more (t ∷ []) s end rises follows high = (grind (arith, nat_tests), (high, tt))
rises_more (t ∷ u ∷ starts) s end rises follows high = (rises.0, rises_more (u ∷ starts) s end rises.1 follows high)

first_more : (starts : List ℕ) (s : ℕ) → first_or starts 0 ≡ 0 → IsTrue (may_follow (last_of starts) s) → first_or (starts ++ s ∷ []) 0 ≡ 0
first_more [] s from follows = grind (arith, nat_tests)
first_more (t ∷ starts) s from follows = from

both_true : (a b : Bool) → IsTrue (a && b) → IsTrue a × IsTrue b
both_true true true h = (h, h)
both_true true false h = cc
both_true false b h = cc

pub start_more : (starts : List ℕ) (s end count : ℕ) → AreStarts starts end count → IsTrue (may_follow (last_of starts) s && nat_le s end) → AreStarts (starts ++ s ∷ []) end (count + 1)
start_more starts s end count are follows =
    let both = both_true (may_follow (last_of starts) s) (nat_le s end) follows in
    let high : s ≤ end = grind (arith, nat_tests, both.1) in
    record { from_zero = first_more starts s are.from_zero both.0; rises = rises_more starts s end are.rises both.0 high; many = omega (arith, length-append starts (s ∷ []), are.many) }
