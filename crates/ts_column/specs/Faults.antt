-- The first text that its type does not allow.
use Rattle.std.specs.Prelude.{ℕ, ◌-◌, false, List, [], ◌∷◌, length, take, drop, Option, Some, None, if◌then◌else◌}
use Rattle.ts_base.specs.declared.values.Val.TheVariants.{Bytes}
use Rattle.ts_base.specs.declared.values.ValType.{ValType}
use Rattle.ts_value.specs.Fits.{fits_of}
use Rattle.ts_table.specs.Texts.{first_or}

-- where the first of the byte lists with these starts begins that may not stand under the type
abbrev pub text_fault : ValType → List ℕ → List ℕ → Option ℕ
text_fault ty [] bytes = None
text_fault ty (s ∷ starts) bytes = if fits_of ty false (Bytes (take (first_or starts (length bytes) - s) (drop s bytes))) then text_fault ty starts bytes else Some s
