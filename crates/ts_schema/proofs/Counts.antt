-- A number in one byte is its lowest byte.
use Rattle.std.proofs.Common.{◌≡◌, ℕ, ◌%◌, [], ◌∷◌, ap, arith}
use Rattle.ts_wire.specs.Numbers.{number_bytes}

pub lowest_byte : (n : ℕ) → number_bytes 1 (n % 256) ≡ number_bytes 1 n
unfolding number_bytes
lowest_byte n = ap (λ b. b ∷ []) (omega arith)
