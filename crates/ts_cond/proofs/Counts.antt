-- A number in two bytes is its lowest two.
use Rattle.std.proofs.Common.{◌≡◌, ℕ, ◌%◌, ◌/◌, [], ◌∷◌, ap, ◌∙◌, arith}
use Rattle.ts_wire.specs.Numbers.{number_bytes}

pub lowest_bytes : (n : ℕ) → number_bytes 2 (n % 65536) ≡ number_bytes 2 n
unfolding number_bytes
lowest_bytes n = ap (λ a. a ∷ n % 65536 / 256 % 256 ∷ []) (omega arith) ∙ ap (λ b. n % 256 ∷ b ∷ []) (omega arith)
