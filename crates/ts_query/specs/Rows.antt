-- The printed text of rows.
use Rattle.std.specs.Prelude.{ℕ, ◌==◌, List, [], ◌∷◌, ◌++◌, codes, Bool, true, false, if◌then◌else◌, nat_lt}
use Rattle.std.specs.List.{flat_map}
use Rattle.std.specs.Fmt.{signed_decimal}
use Rattle.hex.specs.Hex.{encode_lower}
use Rattle.ts_base.specs.declared.values.Val.{Val}
use Rattle.ts_base.specs.declared.values.Val.TheVariants.{Null, Int, Bytes}
use Rattle.ts_base.specs.declared.values.ValType.{ValType}
use Rattle.ts_base.specs.declared.values.ValType.TheVariants.{Text}

-- a byte of a text: quotes, backslashes and control characters are escaped
abbrev pub escaped : ℕ → List ℕ
escaped b =
    if b == 34 then 92 ∷ 34 ∷ []
    else (if b == 92 then 92 ∷ 92 ∷ []
    else (if b == 8 then codes "\\b"
    else (if b == 12 then codes "\\f"
    else (if b == 10 then codes "\\n"
    else (if b == 13 then codes "\\r"
    else (if b == 9 then codes "\\t"
    else (if nat_lt b 32 then codes "\\u00" ++ encode_lower (b ∷ []) else b ∷ [])))))))

-- a value of a field of this type
abbrev pub val_text : ValType → Val → List ℕ
val_text ty Null = codes "null"
val_text ty (Int z) = signed_decimal z
val_text Text (Bytes bytes) = 34 ∷ flat_map escaped bytes ++ 34 ∷ []
val_text ty (Bytes bytes) = 35 ∷ encode_lower bytes

-- the values of a row with these types, from one on, each behind a tab but the first
abbrev pub vals_text : Bool → List ValType → List Val → List ℕ
vals_text first (ty ∷ types) (v ∷ row) = (if first then [] else codes "\t") ++ val_text ty v ++ vals_text false types row
vals_text first _ _ = []

-- a row
unfoldable pub row_text : List ValType → List Val → List ℕ
row_text types row = vals_text true types row ++ codes "\n"

-- the rows, a line for each
abbrev pub rows_text : List ValType → List (List Val) → List ℕ
rows_text types [] = []
rows_text types (row ∷ rows) = row_text types row ++ rows_text types rows
