-- Versions in rows of columns.
use Rattle.std.specs.Prelude.{◌≡◌, ℕ, ◌+◌, ◌<◌, ◌≤◌, ℤ, pos, List, [], map, length, get_or}
use Rattle.std.specs.List.{All, range_with_len}
use Rattle.ts_base.specs.declared.keys.Key.{Key}
use Rattle.ts_base.specs.declared.heads.Version.{Version}
use Rattle.ts_base.specs.declared.values.Val.{Val}
use Rattle.ts_base.specs.declared.values.Val.TheVariants.{Null}
use Rattle.ts_table.specs.declared.origins.Origin.{Origin}

-- what stands for the key of a write that is not there
abbrev pub no_key : Key
no_key = record { t = 0; id = 0 }

-- the write at a place among keys
abbrev pub write_at : List Key → Key → ℕ → Origin
write_at keys schema o = record { key = get_or keys o no_key; schema = schema }

-- the write that laid what stands in a row
abbrev pub origin_there : List Key → Key → List ℕ → ℕ → Origin
origin_there keys schema origins k = write_at keys schema (get_or origins k 0)

-- the version in a row of columns: of the values those of the columns at these places, null where there is none
abbrev pub version_there : List Key → Key → List ℕ → List (List ℤ) → List ℕ → List (List Val) → ℕ → Version
version_there keys schema attrs coords origins vals k = record {
  key = (origin_there keys schema origins k).key;
  schema = schema;
  coords = map (λ column. get_or column k (pos 0)) coords;
  row = map (λ attr. get_or (map (λ column. get_or column k Null) vals) attr Null) attrs;
}

-- there are 1 to 8 columns of coordinates, and all columns have so many rows
pub record AreColumns (count : ℕ) (cs : List (List ℤ)) (os : List ℕ) (vs : List (List Val)) : Type 0 where
  pub some : 1 ≤ length cs
  pub few : length cs ≤ 8
  pub coords : All (λ (column : List ℤ). length column ≡ count) cs
  pub origins : length os ≡ count
  pub vals : All (λ (column : List Val). length column ≡ count) vs

-- these are rows, of so many; where they are as many, they are all in turn
pub record AreRows (count : ℕ) (rows : List ℕ) : Type 0 where
  pub within : All (λ k. k < count) rows
  pub whole : length rows ≡ count → rows ≡ range_with_len 0 count

-- a column at these rows
abbrev pub at_rows : {X : Type 0} → X → List ℕ → List X → List X
at_rows d rows column = map (λ k. get_or column k d) rows

-- the columns of values at these places, at these rows
abbrev pub chosen : List ℕ → List ℕ → List (List Val) → List (List Val)
chosen attrs rows vals = map (λ attr. at_rows Null rows (get_or vals attr [])) attrs

-- places ascend, each once, and lie below an end
pub record AreAscending (attrs : List ℕ) (end : ℕ) : Type 0 where
  pub below : (i : ℕ) → i < length attrs → get_or attrs i 0 < end
  pub rising : (i : ℕ) → i + 1 < length attrs → get_or attrs i 0 < get_or attrs (i + 1) 0
