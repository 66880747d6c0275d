-- The columns of all versions.
use Rattle.std.proofs.Common.{◌≡◌, ℕ, ◌+◌, ◌-◌, ◌<◌, ◌≤◌, ◌⊎◌, inl, inr, true, false, ℤ, pos, List, [], ◌∷◌, ◌++◌, length, map, take, get_or, refl, sym, ap, ◌∙◌, arith, length-append}
use Rattle.std.specs.Prelude.{All, cond, filter, nat_lt}
use Rattle.std.specs.Option.{option_map}
use Rattle.std.proofs.lemmas.Bool.{cases_lt, ltb-true}
use Rattle.std.proofs.lemmas.List.Elements.{All-head, All-tail}
use Rattle.std.specs.List.{range_with_len, slice_get}
use Rattle.std.proofs.lemmas.List.{same_lists, length-map, get_or-map, get_or_default, get_or_append_left, get_or-append_right, take_more, take_all}
use Rattle.std.proofs.lemmas.List.FromFn.{length-map-range_with_len, get_or-map-range_with_len}
use Rattle.std.proofs.lemmas.Option.{slice_get-get_or, get_or_from_slice_get}
use Rattle.ts_base.specs.declared.heads.Version.{Version}
use Rattle.ts_base.specs.declared.values.Val.{Val}
use Rattle.ts_base.specs.declared.values.Val.TheVariants.{Null, Int}
use Rattle.ts_table.specs.Tables.{column_of, no_version, version_or, HaveRows, HasVals}
use Rattle.ts_table.proofs.Tables.{across_here, across-length}
use Rattle.ts_select.specs.Cells.{fields_at}
use Rattle.ts_select.specs.Columns.{columns_at, whole_column, HaveFields}
use Rattle.ts_select.proofs.Fields.{number_found, vals_field}
use Rattle.ts_select.proofs.Takings.{columns_in}

-- one coordinate more
pub along_more : (versions : List Version) (dim place : ℕ) → place < length versions → take (place + 1) (column_of versions dim) ≡ take place (column_of versions dim) ++ get_or (version_or versions place).coords dim (pos 0) ∷ []
along_more versions dim place within =
    let number : Version → ℤ = λ v. get_or v.coords dim (pos 0) in
    take_more (column_of versions dim) place (pos 0) (omega (arith, within, length-map versions number))
    ∙ ap (λ x. take place (column_of versions dim) ++ x ∷ []) (get_or-map number versions place no_version (pos 0) within)

pub along_all : (versions : List Version) (dim place : ℕ) → length versions ≤ place → take place (column_of versions dim) ≡ column_of versions dim
along_all versions dim place over =
    let number : Version → ℤ = λ v. get_or v.coords dim (pos 0) in
    take_all place (column_of versions dim) (omega (arith, over, length-map versions number))

pub ruleset alongs = (along_more, along_all)

-- the columns of the coordinates are those of the dimensions
pub dims_have : (versions : List Version) (dims : ℕ) (fields : List ℕ) (columns : List (List Val)) → All (λ (v : Version). length v.coords ≡ dims) versions
    → columns ≡ map (λ dim. map Int (column_of versions dim)) (range_with_len 0 dims) → HaveFields versions dims fields columns
dims_have versions dims fields columns long are =
    let along : ℕ → List Val = λ dim. map Int (column_of versions dim) in record {
      many = ap length are ∙ length-map-range_with_len along 0 dims;
      there = λ j e inside. λ below.
          ap (λ cs. get_or cs (get_or fields j e) []) are ∙ get_or-map-range_with_len along 0 dims (get_or fields j e) (get_or fields j e) [] below (omega arith)
          ∙ dim_column (get_or fields j e) below;
    }
  where
    dim_column : (f : ℕ) → f < dims → map Int (column_of versions f) ≡ whole_column versions f
    dim_column f below =
        let number : Version → ℤ = λ v. get_or v.coords f (pos 0) in
        let value : ℕ → Val = λ place. get_or (fields_at versions place) f Null in
        let many : length (map Int (column_of versions f)) ≡ length versions = length-map (column_of versions f) Int ∙ length-map versions number in
        same_lists (map Int (column_of versions f)) (whole_column versions f) (many ∙ sym (length-map-range_with_len value 0 (length versions))) (λ k d within.
        let inside : k < length versions = omega (arith, within, many) in
        let here : k < length (column_of versions f) = omega (arith, inside, length-map versions number) in
        let wide : f < length (version_or versions k).coords = omega (arith, below, long k no_version inside) in
        get_or-map Int (column_of versions f) k (pos 0) d here ∙ ap Int (get_or-map number versions k no_version (pos 0) inside)
        ∙ sym (get_or_from_slice_get (fields_at versions k) f (Int (number (version_or versions k))) Null
        (sym (number_found versions dims k f long inside below) ∙ ap (option_map Int) (slice_get-get_or (version_or versions k).coords f (pos 0) wide)))
        ∙ sym (get_or-map-range_with_len value 0 (length versions) k k d inside (omega arith)))

-- where no dimension is asked for any columns will do
pub none_have : (versions : List Version) (dims : ℕ) (fields : List ℕ) (columns : List (List Val)) → length columns ≡ dims → All (λ field. dims ≤ field) fields → HaveFields versions dims fields columns
none_have versions dims fields columns many past = record {
  many = many;
  there = λ j e inside. λ below. absurd (omega (arith, below, past j e inside));
}

pub ruleset dimensions = (dims_have, none_have)

module _ (versions : List Version) (dims attrs : ℕ) (fields : List ℕ) (columns vals : List (List Val)) (some : 0 < length versions) (long : All (λ (v : Version). length v.coords ≡ dims) versions) (wide : All (λ (v : Version). length v.row ≡ attrs) versions) (have : HaveFields versions dims fields columns) (rows : HaveRows versions vals) where
  -- the column of an attribute
  attr_column : (f : ℕ) → dims ≤ f → f - dims < length vals → get_or vals (f - dims) [] ≡ whole_column versions f
  attr_column f past below =
      let column = get_or vals (f - dims) [] in
      let has : HasVals versions (f - dims) column = record {
        long = rows.long (f - dims) [] below;
        there = λ i few. ap (λ row. slice_get row (f - dims)) (rows.rows i few)
            ∙ across_here i vals (f - dims) column (λ k it h. let high = rows.long k it h in omega (arith, few, high)) below (get_or_default vals (f - dims) [] column below);
      } in
      let field = vals_field versions dims f column long past has in
      let value : ℕ → Val = λ place. get_or (fields_at versions place) f Null in
      same_lists column (whole_column versions f) (field.long ∙ sym (length-map-range_with_len value 0 (length versions))) (λ k d within.
      let inside : k < length versions = omega (arith, within, field.long) in
      get_or_default column k d Null within ∙ sym (field.there k inside) ∙ sym (get_or-map-range_with_len value 0 (length versions) k k d inside (omega arith)))

  -- there is one for each attribute
  attrs_many : length vals ≡ attrs
  attrs_many = sym (ap length (rows.rows 0 some) ∙ across-length 0 vals (λ k it h. let high = rows.long k it h in omega (arith, some, high))) ∙ wide 0 no_version some

  -- the columns of the dimensions, and then those of the attributes
  pub fields_have : (all : List (List Val)) → all ≡ columns ++ vals → HaveFields versions (dims + attrs) fields all
  fields_have all are = record {
    many = ap length are ∙ length-append columns vals ∙ omega (arith, have.many, attrs_many);
    there = λ j e inside. λ below. ap (λ cs. get_or cs (get_or fields j e) []) are ∙ field_column j e inside below (cases_lt (get_or fields j e) dims);
  }
    where
      field_column : (j e : ℕ) → j < length fields → get_or fields j e < dims + attrs → (get_or fields j e < dims) ⊎ (dims ≤ get_or fields j e) → get_or (columns ++ vals) (get_or fields j e) [] ≡ whole_column versions (get_or fields j e)
      field_column j e inside below (inl low) = get_or_append_left columns vals [] (get_or fields j e) (omega (arith, low, have.many)) ∙ have.there j e inside low
      field_column j e inside below (inr high) =
          get_or-append_right columns vals dims (get_or fields j e) [] have.many high ∙ attr_column (get_or fields j e) high (omega (arith, below, high, attrs_many))

-- the columns that are taken are those of the fields
pub taken_are : (versions : List Version) (count : ℕ) (fields : List ℕ) (all : List (List Val)) → HaveFields versions count fields all
    → columns_in all fields ≡ columns_at versions (range_with_len 0 (length versions)) count fields
taken_are versions count fields all have = ap (λ n. map (λ field. get_or all field []) (filter (λ field. nat_lt field n) fields)) have.many ∙ go fields have.there
  where
    go : (fs : List ℕ) → All (λ field. field < count → get_or all field [] ≡ whole_column versions field) fs
        → map (λ field. get_or all field []) (filter (λ field. nat_lt field count) fs) ≡ map (whole_column versions) (filter (λ field. nat_lt field count) fs)
    go [] there = refl
    go (f ∷ fs) there =
        let rest = go fs (All-tail (λ field. field < count → get_or all field [] ≡ whole_column versions field) f fs there) in
        elim (nat_lt f count) as (λ b. nat_lt f count ≡ b → map (λ field. get_or all field []) (cond b (f ∷ filter (λ field. nat_lt field count) fs) (filter (λ field. nat_lt field count) fs))
        ≡ map (whole_column versions) (cond b (f ∷ filter (λ field. nat_lt field count) fs) (filter (λ field. nat_lt field count) fs))) [
          | true ↦ λ below. λ i. All-head (λ field. field < count → get_or all field [] ≡ whole_column versions field) f fs there (ltb-true f count below) i ∷ rest i
          | false ↦ λ past. rest
        ] refl
