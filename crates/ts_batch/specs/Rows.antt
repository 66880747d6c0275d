-- Rows of values, as rows or as columns.
use Rattle.std.specs.Prelude.{◌≡◌, ℕ, Bool, true, false, List, map, length, All, Option, Some, None}
use Rattle.std.specs.Cmp.{IsPartialEquivalence, IsEquivalence}
use Rattle.std.specs.List.{range_with_len}
use Rattle.ts_base.specs.declared.values.Val.{Val}
use Rattle.ts_base.specs.contracts.values.ValPartialEq.TheImpl as vals
use Rattle.ts_base.specs.contracts.values.ValPartialEq.TheImpl.Laws as val_laws
use Rattle.ts_base.specs.contracts.values.ValEq.TheImpl.Laws as val_eq_laws
use Rattle.ts_table.specs.Tables.{across}
use Rattle.ts_batch.specs.declared.row_batch.RowsHeld.{RowsHeld}
use Rattle.ts_batch.specs.declared.row_batch.RowsHeld.TheVariants.{Rows, Columns}

-- so many rows of columns: the values at each place
abbrev pub rows_across : List (List Val) → ℕ → List (List Val)
rows_across columns count = map (λ place. across place columns) (range_with_len 0 count)

-- the rows that are held
abbrev pub rows_held : RowsHeld → List (List Val)
rows_held (Rows rows) = rows
rows_held (Columns columns count) = rows_across columns.items count

-- each column has a value for each row
abbrev pub AreRows : RowsHeld → Type 0
AreRows (Rows rows) = Unit {0}
AreRows (Columns columns count) = All (λ (column : List Val). length column ≡ count) columns.items

-- two values are the same
abbrev pub val_eq : Val → Val → Bool
val_eq = (vals.ghosts).eq

pub val_per : IsPartialEquivalence val_eq
val_per = val_laws.laws-law

pub val_equiv : IsEquivalence val_eq
val_equiv = val_eq_laws.laws-law

-- two values are the same, or there are none
abbrev pub option_eq : Option Val → Option Val → Bool
option_eq (Some a) (Some b) = val_eq a b
option_eq None None = true
option_eq _ _ = false
