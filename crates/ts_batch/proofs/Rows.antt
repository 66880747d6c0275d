-- Rows in columns: how many there are, and each of them.
use Rattle.std.proofs.Common.{◌≡◌, ℕ, ◌<◌, List, [], length, get_or, ap, ◌∙◌, arith, All}
use Rattle.std.specs.Prelude.{slice_get}
use Rattle.std.proofs.lemmas.List.FromFn.{get_or-map-range_with_len, length-map-range_with_len}
use Rattle.ts_base.specs.declared.values.Val.{Val}
use Rattle.ts_table.specs.Tables.{across}
use Rattle.ts_table.proofs.Tables.{across-length}
use Rattle.ts_batch.specs.Rows.{rows_across}

pub rows-length : (columns : List (List Val)) (count : ℕ) → length (rows_across columns count) ≡ count
rows-length columns count = length-map-range_with_len (λ place. across place columns) 0 count

-- the row at a place
pub row_is : (columns : List (List Val)) (count row : ℕ) → row < length (rows_across columns count) → get_or (rows_across columns count) row [] ≡ across row columns
row_is columns count row within = get_or-map-range_with_len (λ place. across place columns) 0 count row row [] (omega (arith, within, rows-length columns count)) (omega arith)

-- the value of a row in a column
pub value_is : (columns : List (List Val)) (count row column : ℕ) → row < length (rows_across columns count) → slice_get (get_or (rows_across columns count) row []) column ≡ slice_get (across row columns) column
value_is columns count row column within = ap (λ vals. slice_get vals column) (row_is columns count row within)

-- there is a value for a row that is there
pub long_enough : (columns : List (List Val)) (count row : ℕ) → row < length (rows_across columns count) → All (λ (column : List Val). length column ≡ count) columns → All (λ (column : List Val). row < length column) columns
long_enough columns count row within long = λ i column below. omega (arith, within, rows-length columns count, long i column below)

pub ruleset lengths = (rows-length)

pub ruleset gets = (value_is, long_enough)

-- the values of a row
pub row-width : (columns : List (List Val)) (count row : ℕ) → row < length (rows_across columns count) → All (λ (column : List Val). length column ≡ count) columns → length (get_or (rows_across columns count) row []) ≡ length columns
row-width columns count row within long = ap length (row_is columns count row within) ∙ across-length row columns (long_enough columns count row within long)

pub ruleset widths = (row-width)
