-- Spans have room in 64 bits.
use Rattle.std.proofs.Common.{◌≡◌, ℕ, ◌+◌, ◌*◌, ◌≤◌, arith}
use Rattle.std.proofs.lemmas.Nat.{mul-le}
use Rattle.ts_footer.specs.Columns.{fixed_length}

-- no cell of an object lies behind its end
pub from_room : (width cells before length : ℕ) → before ≤ cells → length ≡ fixed_length width cells → 14 + width * before ≤ length
from_room width cells before length within is = omega (arith, is, mul-le width before width cells (omega arith) within)

pub ruleset room = (from_room)
