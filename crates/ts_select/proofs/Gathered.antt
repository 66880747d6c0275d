-- Columns of fields give the rows that are cut to those fields.
use Rattle.std.proofs.Common.{◌≡◌, ℕ, ◌<◌, true, false, List, [], ◌∷◌, map, length, get_or, Some, refl, sym, ap, ◌∙◌, arith}
use Rattle.std.specs.Prelude.{All, cond, filter, nat_lt}
use Rattle.std.specs.List.{slice_get, cons_option}
use Rattle.std.specs.Option.{option_map}
use Rattle.std.proofs.lemmas.Bool.{ltb-true, ltb-false}
use Rattle.std.proofs.lemmas.List.{length-map, get_or-map, same_lists}
use Rattle.std.proofs.lemmas.List.Elements.{All-map}
use Rattle.std.proofs.lemmas.List.FromFn.{length-map-range_with_len, get_or-map-range_with_len}
use Rattle.std.proofs.lemmas.Option.{slice_get-map, slice_get-get_or, slice_get_past}
use Rattle.ts_base.specs.declared.heads.Version.{Version}
use Rattle.ts_base.specs.declared.values.Val.{Val}
use Rattle.ts_base.specs.declared.values.Val.TheVariants.{Null}
use Rattle.ts_table.specs.Tables.{across}
use Rattle.ts_batch.specs.Rows.{rows_across}
use Rattle.ts_model.specs.Queries.{items_at}
use Rattle.ts_select.specs.Cells.{fields_at}
use Rattle.ts_select.specs.Columns.{column_at, columns_at}

-- each column has a value for each place
pub columns_long : (versions : List Version) (places : List ℕ) (count : ℕ) (fields : List ℕ) → All (λ (column : List Val). length column ≡ length places) (columns_at versions places count fields)
columns_long versions places count fields =
    All-map (λ (column : List Val). length column ≡ length places) (column_at versions places) (filter (λ field. nat_lt field count) fields)
    (λ k d below. length-map places (λ place. get_or (fields_at versions place) (get_or (filter (λ field. nat_lt field count) fields) k d) Null))

module _ (versions : List Version) (places : List ℕ) (count i place : ℕ) (there : slice_get places i ≡ Some place) (wide : length (fields_at versions place) ≡ count) where
  -- the value in the column of a field that there is
  value_there : (field : ℕ) → field < count → slice_get (column_at versions places field) i ≡ slice_get (fields_at versions place) field
  value_there field below =
      slice_get-map (λ place. get_or (fields_at versions place) field Null) places i
      ∙ ap (option_map (λ place. get_or (fields_at versions place) field Null)) there
      ∙ sym (slice_get-get_or (fields_at versions place) field Null (omega (arith, below, wide)))

  -- the values across the columns are the fields that are shown
  row_across : (fields : List ℕ) → across i (columns_at versions places count fields) ≡ items_at fields (fields_at versions place)
  row_across [] = refl
  row_across (field ∷ fields) =
      elim (nat_lt field count) as (λ b. nat_lt field count ≡ b → across i (map (column_at versions places) (cond b (field ∷ filter (λ field. nat_lt field count) fields) (filter (λ field. nat_lt field count) fields)))
      ≡ items_at (field ∷ fields) (fields_at versions place)) [
        | true ↦ λ below. λ j. cons_option (value_there field (ltb-true field count below) j) (row_across fields j)
        | false ↦ λ past. row_across fields ∙ ap (λ found. cons_option found (items_at fields (fields_at versions place))) (sym (slice_get_past (fields_at versions place) field (omega (arith, wide, ltb-false field count past))))
      ] refl

-- the rows across the columns of the versions at some places
pub rows_gathered : (versions : List Version) (places : List ℕ) (count : ℕ) (fields : List ℕ) → ((place : ℕ) → place < length versions → length (fields_at versions place) ≡ count)
    → All (λ place. place < length versions) places → rows_across (columns_at versions places count fields) (length places) ≡ map (λ place. items_at fields (fields_at versions place)) places
rows_gathered versions places count fields wide inside =
    let columns = columns_at versions places count fields in
    let row = λ (place : ℕ). items_at fields (fields_at versions place) in
    let many : length (rows_across columns (length places)) ≡ length places = length-map-range_with_len (λ place. across place columns) 0 (length places) in
    same_lists (rows_across columns (length places)) (map row places) (many ∙ sym (length-map places row)) (λ k d below.
    let within : k < length places = omega (arith, below, many) in
    get_or-map-range_with_len (λ place. across place columns) 0 (length places) k k d within (omega arith)
    ∙ row_across versions places count k (get_or places k 0) (slice_get-get_or places k 0 within) (wide (get_or places k 0) (inside k 0 within)) fields
    ∙ sym (get_or-map row places k 0 d within))

-- the images of images
pub map_map : {A B C : Type 0} (g : B → C) (f : A → B) (xs : List A) → map g (map f xs) ≡ map (λ x. g (f x)) xs
map_map g f [] = refl
map_map g f (x ∷ xs) = ap (λ ys. g (f x) ∷ ys) (map_map g f xs)
