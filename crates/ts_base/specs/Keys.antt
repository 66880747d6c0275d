-- Keys: what is earlier, and what is greatest.
use Rattle.std.specs.Prelude.{ℕ, List, [], ◌∷◌, Bool, Option, Some, None, ◌&&◌, if◌then◌else◌, nat_le}
use Rattle.std.specs.declared.cmp.Ordering.{Ordering}
use Rattle.std.specs.Ordering.{is_lt, is_eq}
use Rattle.ts_base.specs.declared.keys.Key.{Key}
use Rattle.ts_base.specs.declared.keys.FragKey.{FragKey}
use Rattle.ts_base.specs.contracts.keys.KeyOrd.TheImpl as key_order
use Rattle.ts_base.specs.contracts.keys.FragKeyOrd.TheImpl as frag_order

-- keys are compared by timestamp, then by identifier
abbrev pub key_cmp : Key → Key → Ordering
key_cmp = (key_order.ghosts).cmp

-- k is below l
abbrev pub key_lt : Key → Key → Bool
key_lt k l = is_lt (key_cmp k l)

-- k and l are one key
abbrev pub key_eq : Key → Key → Bool
key_eq k l = is_eq (key_cmp k l)

-- the key is stamped in [a, b], both ends included
abbrev pub is_within : ℕ → ℕ → Key → Bool
is_within a b k = nat_le a k.t && nat_le k.t b

-- of two items the one with the greater key, the first where they tie
abbrev pub greater : {X : Type 0} → (X → Key) → Option X → Option X → Option X
greater key None y = y
greater key (Some x) None = Some x
greater key (Some x) (Some y) = Some (if key_lt (key x) (key y) then y else x)

-- the item with the greatest key
abbrev pub greatest : {X : Type 0} → (X → Key) → List X → Option X
greatest key [] = None
greatest key (x ∷ xs) = greater key (Some x) (greatest key xs)

-- keys of fragments are compared by their fields in turn
abbrev pub frag_cmp : FragKey → FragKey → Ordering
frag_cmp = (frag_order.ghosts).cmp

-- f is below g
abbrev pub frag_lt : FragKey → FragKey → Bool
frag_lt f g = is_lt (frag_cmp f g)

-- f and g are one fragment's key
abbrev pub frag_eq : FragKey → FragKey → Bool
frag_eq f g = is_eq (frag_cmp f g)

-- the ordinary fragment of a key: one write, in the version that is written
abbrev pub frag_of : Key → FragKey
frag_of k = record { t1 = k.t; t2 = k.t; id = k.id; v = 1 }
