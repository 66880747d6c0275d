-- A letter goes on in a word.
use Rattle.std.proofs.Common.{◌≡◌, refl, ◌||◌, ℕ, Bool, true, false, nat_eq, nat_le, ◌&&◌}
use Rattle.std.specs.Char.{is_ascii_alphabetic}
use Rattle.ts_base.specs.Labels.{is_word_byte}

by_test : (digit upper lower line : Bool) → (upper || lower) ≡ true → (((digit || upper) || lower) || line) ≡ true
by_test true upper lower line e = refl
by_test false true lower line e = refl
by_test false false true line e = refl
by_test false false false line e = cc

pub letter_in_word : (b : ℕ) → is_ascii_alphabetic b ≡ true → is_word_byte b ≡ true
letter_in_word b e = by_test (nat_le 48 b && nat_le b 57) (nat_le 65 b && nat_le b 90) (nat_le 97 b && nat_le b 122) (nat_eq b 95) e
