-- The fields of a version: its coordinates, and then its values.
use Rattle.std.proofs.Common.{◌≡◌, ℕ, zero, suc, ◌+◌, ◌-◌, ◌<◌, ◌≤◌, List, [], ◌∷◌, ◌++◌, map, length, get_or, sym, ap, ◌∙◌, refl, arith, length-append}
use Rattle.std.specs.Prelude.{All, ℤ, pos, None}
use Rattle.std.specs.List.{slice_get}
use Rattle.std.specs.Option.{option_map}
use Rattle.std.proofs.lemmas.List.{length-map, get_or-map}
use Rattle.std.proofs.lemmas.List.Elements.{All-head, All-tail}
use Rattle.std.proofs.lemmas.Option.{slice_get-map, slice_get-get_or, get_or_from_slice_get}
use Rattle.ts_base.specs.declared.heads.Version.{Version}
use Rattle.ts_base.specs.declared.values.Val.{Val}
use Rattle.ts_base.specs.declared.values.Val.TheVariants.{Null, Int}
use Rattle.ts_table.specs.Tables.{column_of, no_version, version_or, HasVals}
use Rattle.ts_select.specs.Cells.{fields_at}
use Rattle.ts_select.specs.Columns.{column_at, or_null, HasField}
use Rattle.ts_select.specs.Sites.{numbers_at}

-- an item of the first of two lists
get_left : {A : Type 0} (xs ys : List A) (i : ℕ) → i < length xs → slice_get (xs ++ ys) i ≡ slice_get xs i
get_left [] ys i within = absurd (omega (arith, within))
get_left (x ∷ xs) ys zero within = refl
get_left (x ∷ xs) ys (suc i) within = get_left xs ys i (omega (arith, within))

-- an item of the second of two lists
get_right : {A : Type 0} (xs ys : List A) (i : ℕ) → length xs ≤ i → slice_get (xs ++ ys) i ≡ slice_get ys (i - length xs)
get_right [] ys i past = let same : i ≡ i - 0 = omega arith in ap (slice_get ys) same
get_right (x ∷ xs) ys zero past = absurd (omega (arith, past))
get_right (x ∷ xs) ys (suc i) past =
    let same : i - length xs ≡ suc i - suc (length xs) = omega arith in
    get_right xs ys i (omega (arith, past)) ∙ ap (slice_get ys) same

-- a field below the number of dimensions is a coordinate
pub number_found : (versions : List Version) (dims place field : ℕ) → All (λ (v : Version). length v.coords ≡ dims) versions → place < length versions → field < dims
    → option_map Int (slice_get (version_or versions place).coords field) ≡ slice_get (fields_at versions place) field
number_found versions dims place field long within below =
    let v = version_or versions place in
    let count : length (map Int v.coords) ≡ dims = length-map v.coords Int ∙ long place no_version within in
    sym (slice_get-map Int v.coords field) ∙ sym (get_left (map Int v.coords) v.row field (omega (arith, below, count)))

-- any other one is a value
pub value_found : (versions : List Version) (dims place field : ℕ) → All (λ (v : Version). length v.coords ≡ dims) versions → place < length versions → dims ≤ field
    → slice_get (version_or versions place).row (field - dims) ≡ slice_get (fields_at versions place) field
value_found versions dims place field long within past =
    let v = version_or versions place in
    let count : length (map Int v.coords) ≡ dims = length-map v.coords Int ∙ long place no_version within in
    ap (λ n. slice_get v.row (field - n)) (sym count) ∙ sym (get_right (map Int v.coords) v.row field (omega (arith, past, count)))

pub ruleset founds = (value_found)

-- the item at a place, or null where there is none
pub null_if_none : (vals : List Val) (place : ℕ) → or_null (slice_get vals place) ≡ get_or vals place Null
null_if_none [] place = refl
null_if_none (val ∷ vals) zero = refl
null_if_none (val ∷ vals) (suc place) = null_if_none vals place

pub ruleset nulls = (null_if_none)

-- where there is no coordinate the default is found
pub zero_if_none : (numbers : List ℤ) (dim : ℕ) → None ≡ slice_get numbers dim → pos 0 ≡ get_or numbers dim (pos 0)
zero_if_none [] dim none = refl
zero_if_none (x ∷ numbers) zero none = cc
zero_if_none (x ∷ numbers) (suc dim) none = zero_if_none numbers dim none

-- the number of all fields
pub fields_long : (versions : List Version) (dims attrs place : ℕ) → All (λ (v : Version). length v.coords ≡ dims) versions → All (λ (v : Version). length v.row ≡ attrs) versions
    → place < length versions → length (fields_at versions place) ≡ dims + attrs
fields_long versions dims attrs place long wide within =
    let v = version_or versions place in
    let first : length v.coords ≡ dims = long place no_version within in
    let second : length v.row ≡ attrs = wide place no_version within in
    length-append (map Int v.coords) v.row ∙ omega (arith, length-map v.coords Int, first, second)

-- a column of an attribute has the values of a field
pub vals_field : (versions : List Version) (dims field : ℕ) (column : List Val) → All (λ (v : Version). length v.coords ≡ dims) versions → dims ≤ field → HasVals versions (field - dims) column → HasField versions field column
vals_field versions dims field column long past has = record {
  long = has.long;
  there = λ place within.
      sym (null_if_none (fields_at versions place) field) ∙ ap or_null (sym (value_found versions dims place field long within past) ∙ has.there place within) ∙ null_if_none column place;
}

-- at some places
pub part_is : (versions : List Version) (field : ℕ) (column : List Val) (places : List ℕ) → HasField versions field column → All (λ place. place < length versions) places
    → map (λ place. get_or column place Null) places ≡ column_at versions places field
part_is versions field column [] has within = refl
part_is versions field column (place ∷ places) has within = λ i.
    sym (has.there place (All-head (λ place. place < length versions) place places within)) i ∷ part_is versions field column places has (All-tail (λ place. place < length versions) place places within) i

pub ruleset columns = (vals_field)

-- the coordinates at some places are the values of a field
pub coordinates_are : (versions : List Version) (dims field : ℕ) (places : List ℕ) → All (λ (v : Version). length v.coords ≡ dims) versions → All (λ place. place < length versions) places → field < dims
    → map Int (numbers_at versions places field) ≡ column_at versions places field
coordinates_are versions dims field [] long within below = refl
coordinates_are versions dims field (place ∷ places) long within below =
    let inside : place < length versions = All-head (λ place. place < length versions) place places within in
    let v = version_or versions place in
    let wide : field < length v.coords = omega (arith, below, long place no_version inside) in
    let one = get_or_from_slice_get (fields_at versions place) field (Int (get_or v.coords field (pos 0))) Null
    (sym (number_found versions dims place field long inside below) ∙ ap (option_map Int) (slice_get-get_or v.coords field (pos 0) wide)) in
    λ i. sym one i ∷ coordinates_are versions dims field places long (All-tail (λ place. place < length versions) place places within) below i

-- a column of coordinates at some places
pub along_part : (versions : List Version) (dim : ℕ) (column : List ℤ) (places : List ℕ) → column ≡ column_of versions dim → All (λ place. place < length versions) places
    → map (λ place. get_or column place (pos 0)) places ≡ numbers_at versions places dim
along_part versions dim column [] is within = refl
along_part versions dim column (place ∷ places) is within =
    let one = ap (λ ns. get_or ns place (pos 0)) is ∙ get_or-map (λ (v : Version). get_or v.coords dim (pos 0)) versions place no_version (pos 0) (All-head (λ place. place < length versions) place places within) in
    λ i. one i ∷ along_part versions dim column places is (All-tail (λ place. place < length versions) place places within) i

-- it is as long as there are versions
pub along_room : (versions : List Version) (dim : ℕ) (column : List ℤ) (places : List ℕ) → column ≡ column_of versions dim → All (λ place. place < length versions) places → All (λ place. place < length column) places
along_room versions dim column places is within k d below = omega (arith, within k d below, ap length is, length-map versions (λ (v : Version). get_or v.coords dim (pos 0)))

pub ruleset alongs = (along_part, along_room)
