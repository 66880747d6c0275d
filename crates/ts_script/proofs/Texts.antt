-- The test for UTF-8 and the fact.
use Rattle.std.proofs.Common.{◌≡◌, ℕ, List, Bool, true, false, refl}
use Rattle.std.specs.Str.{IsUtf8, is_utf8}
use Rattle.std.proofs.lemmas.Str.{IsUtf8-from_is_utf8, is_utf8-from_IsUtf8}

no_text_by : (bytes : List ℕ) (b : Bool) → is_utf8 bytes ≡ b → ¬ IsUtf8 bytes → b ≡ false
no_text_by bytes true e none = absurd (none (IsUtf8-from_is_utf8 bytes e))
no_text_by bytes false e none = refl

pub is_utf8-no_text : (bytes : List ℕ) → ¬ IsUtf8 bytes → is_utf8 bytes ≡ false
is_utf8-no_text bytes none = no_text_by bytes _ refl none

-- what `from_utf8` found, as the test
pub ruleset text_tests = (is_utf8-from_IsUtf8, is_utf8-no_text)
