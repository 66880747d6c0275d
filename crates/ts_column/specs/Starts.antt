-- Starts of byte lists that were read.
use Rattle.std.specs.Prelude.{◌≡◌, ℕ, List, length}
use Rattle.ts_table.specs.Texts.{first_or, RisesTo}

-- so many starts: the first is 0, if there is one, and they rise to the end
pub record AreStarts (starts : List ℕ) (end count : ℕ) : Type 0 where
  pub from_zero : first_or starts 0 ≡ 0
  pub rises : RisesTo starts end
  pub many : length starts ≡ count
