-- The texts of options: numbers, lists of fields, and boxes.
use Rattle.std.specs.Prelude.{ℕ, ◌+◌, ◌*◌, ◌-◌, ◌^◌, ℤ, List, [], ◌∷◌, ◌++◌, length, Bool, false, ◌||◌, ◌&&◌, nat_lt, nat_le, ◌==◌, if◌then◌else◌, Option, Some, None}
use Rattle.std.specs.List.{list_all, list_any, position, insert}
use Rattle.std.specs.Option.{unwrap_or}
use Rattle.std.specs.Str.{bytes_eq}
use Rattle.std.specs.Char.{is_ascii_digit}
use Rattle.std.specs.Cmp.Lexicographic.{slice_cmp}
use Rattle.std.specs.Ordering.{is_lt, nat_cmp}
use Rattle.ts_base.specs.Labels.{label_of}
use Rattle.ts_cond.specs.declared.query.NamedBox.{NamedBox}
use Rattle.ts_script.specs.Shapes.{◌>>=◌, when, integer, both_items}
use Rattle.ts_script.specs.Parts.{parts_at}
use Rattle.ts_script.specs.Script.{json_of}

-- the number that digits write after those of another
abbrev pub number_from : ℕ → List ℕ → ℕ
number_from n [] = n
number_from n (d ∷ ds) = number_from (n * 10 + (d - 48)) ds

-- 1 to 20 decimal digits
abbrev pub is_number_text : List ℕ → Bool
is_number_text text = nat_lt 0 (length text) && (nat_le (length text) 20 && list_all is_ascii_digit text)

-- a number below 2^64, in 1 to 20 decimal digits
unfoldable pub number_of : List ℕ → Option ℕ
number_of text = if is_number_text text then when (nat_lt (number_from 0 text) (2 ^ 64)) (number_from 0 text) else None

-- the text begins with a zero
abbrev pub begins_with_zero : List ℕ → Bool
begins_with_zero [] = false
begins_with_zero (d ∷ ds) = d == 48

-- the most cells that a generated script brings
abbrev pub most_cells : ℕ
most_cells = 100000

-- how many cells a generated script brings: a number from 1 to 100,000, in decimal digits with no zero before them
unfoldable pub cell_count_of : List ℕ → Option ℕ
cell_count_of text = if begins_with_zero text then None else (number_of text >>= λ n. when (nat_lt 0 n && nat_le n most_cells) n)

-- a byte of a whole number
abbrev pub is_number_byte : ℕ → Bool
is_number_byte b = b == 45 || is_ascii_digit b

-- a whole number from -2^63 to 2^64 - 1, as a script has it
unfoldable pub integer_of : List ℕ → Option ℤ
integer_of text = if list_all is_number_byte text then json_of text >>= integer else None

-- the labels of these parts, after those that are done
abbrev pub labels_onto : List (List ℕ) → List (List ℕ) → Option (List (List ℕ))
labels_onto done [] = Some done
labels_onto done (part ∷ parts) = label_of part >>= λ label. labels_onto (done ++ label ∷ []) parts

-- labels with commas between
unfoldable pub labels_of : List ℕ → Option (List (List ℕ))
labels_of text = labels_onto [] (parts_at 44 text)

-- the three items of a list of three
abbrev pub three_items : {A : Type 0} → List A → Option (A × A × A)
three_items (x ∷ y ∷ z ∷ []) = Some (x, y, z)
three_items _ = None

-- a text of no bytes
abbrev pub is_nothing : List ℕ → Bool
is_nothing text = length text == 0

-- the bounds `low..high`
unfoldable pub bounds_of : List ℕ → Option (ℤ × ℤ)
bounds_of text = do
  parts ← three_items (parts_at 46 text)
  low ← integer_of parts.0
  high ← integer_of parts.2
  when (is_nothing parts.1) (low, high)

-- the bounds of one dimension: `label=low..high`
unfoldable pub named_box_of : List ℕ → Option NamedBox
named_box_of text = do
  halves ← both_items (parts_at 61 text)
  name ← label_of halves.0
  bounds ← bounds_of halves.1
  Some (record { name = name; low = bounds.0; high = bounds.1 })

-- a name is before another by its bytes
abbrev pub is_below : List ℕ → List ℕ → Bool
is_below a b = is_lt (slice_cmp nat_cmp a b)

-- one of the others has the name
abbrev pub has_name : List ℕ → List NamedBox → Bool
has_name name others = list_any (λ other. bytes_eq other.name name) others

-- the place before the first whose name is above
abbrev pub place_of : List ℕ → List NamedBox → ℕ
place_of name others = unwrap_or (position (λ other. is_below name other.name) others) (length others)

-- bounds among others that ascend by their names, unless one of them has the name
unfoldable pub placed : NamedBox → List NamedBox → Option (List NamedBox)
placed box others = if has_name box.name others then None else Some (insert others (place_of box.name others) box)

-- the boxes of these parts, among those that are done
abbrev pub boxes_onto : List NamedBox → List (List ℕ) → Option (List NamedBox)
boxes_onto done [] = Some done
boxes_onto done (part ∷ parts) = named_box_of part >>= λ box. placed box done >>= λ more. boxes_onto more parts

-- a box: bounds of dimensions with commas between, each dimension once, ascending by their names
unfoldable pub boxes_of : List ℕ → Option (List NamedBox)
boxes_of text = boxes_onto [] (parts_at 44 text)
