-- No schema holds at a timestamp exactly where each is stamped later.
use Rattle.std.proofs.Common.{◌≡◌, ℕ, ◌<◌, Bool, true, false, cond, List, [], ◌∷◌, Option, Some, None, refl, sym, ap, ◌∙◌, arith}
use Rattle.std.specs.Prelude.{filter, nat_le, IsNone, ◌↔◌}
use Rattle.std.specs.List.{All}
use Rattle.std.proofs.lemmas.Bool.Decides.{nat_tests}
use Rattle.std.proofs.lemmas.List.Elements.{All-nil, All-cons, All-head, All-tail}
use Rattle.ts_base.specs.declared.keys.Key.{Key}
use Rattle.ts_base.specs.Keys.{greater, greatest}
use Rattle.ts_schema.specs.Evolutions.{schema_at}

-- the key is stamped after the timestamp
abbrev IsAfter : ℕ → Key → Type 0
IsAfter b key = b < key.t

some_greater : (key : Key) (found : Option Key) → greater (λ key. key) (Some key) found ≡ None → ⊥
some_greater key None e = cc
some_greater key (Some other) e = cc

none_there : (keys : List Key) (b : ℕ) → schema_at keys b ≡ None → All (IsAfter b) keys
none_there [] b none = All-nil (IsAfter b)
none_there (key ∷ keys) b none = by_test (nat_le key.t b) refl (none_there keys b) none
  where
    by_test : (test : Bool) → nat_le key.t b ≡ test → (schema_at keys b ≡ None → All (IsAfter b) keys) → greatest (λ key. key) (cond test (key ∷ filter (λ key. nat_le key.t b) keys) (filter (λ key. nat_le key.t b) keys)) ≡ None → All (IsAfter b) (key ∷ keys)
    by_test true is rest none = absurd (some_greater key _ none)
    by_test false is rest none = All-cons (IsAfter b) key keys (grind (arith, is)) (rest none)

there_none : (keys : List Key) (b : ℕ) → All (IsAfter b) keys → schema_at keys b ≡ None
there_none [] b after = refl
there_none (key ∷ keys) b after =
    let head : b < key.t = All-head (IsAfter b) key keys after in
    let late : nat_le key.t b ≡ false = grind (arith, nat_tests, head) in
    ap (λ test. greatest (λ key. key) (cond test (key ∷ filter (λ key. nat_le key.t b) keys) (filter (λ key. nat_le key.t b) keys))) late ∙ there_none keys b (All-tail (IsAfter b) key keys after)

pub none_exactly : (keys : List Key) (b : ℕ) (found : Option Key) → found ≡ schema_at keys b → IsNone found ↔ All (λ (key : Key). b < key.t) keys
none_exactly keys b None same = (λ is. none_there keys b (sym same), λ after. refl)
none_exactly keys b (Some key) same = (λ is. cc, λ after. absurd (some_none key (same ∙ there_none keys b after)))
  where
    some_none : (key : Key) → Some key ≡ None → ⊥
    some_none key e = cc
