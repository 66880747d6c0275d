-- Hexadecimal digits behind one that waits for its second.
use Rattle.std.proofs.Common.{ℕ, List, ◌∷◌, Option, Some, None}
use Rattle.ts_cond.specs.Tokens.{unhexed}

abbrev pub unhexed_behind : Option ℕ → List ℕ → List ℕ
unhexed_behind None digits = unhexed digits
unhexed_behind (Some high) digits = unhexed (high ∷ digits)
