-- Trees by keys, seen as finite maps, and lists by the places of a box.
use Rattle.std.specs.Prelude.{◌≡◌, ℤ, false, List, [], ◌∷◌, Option, Some, None, cond, filter, not, map as list_map}
use Rattle.std.specs.BTreeMap.{BTreeMap}
use Rattle.std.specs.Cmp.Lexicographic.{slice_cmp}
use Rattle.std.specs.FinMap as map
use Rattle.std.specs.List.Sorted.{IsStrictlySortedBy}
use Rattle.std.specs.Option.{option_map_or, option_or}
use Rattle.std.specs.Ordering.{int_cmp, is_eq, is_lt}
use Rattle.ts_base.specs.declared.keys.Key.{Key}
use Rattle.ts_base.specs.declared.heads.Version.{Version}
use Rattle.ts_base.specs.Keys.{key_cmp, key_eq}
use Rattle.ts_domain.specs.declared.boxes.SubBox.{SubBox}
use Rattle.ts_domain.specs.Boxes.{coords_of_box}
use Rattle.ts_model.specs.declared.states.Opened.{Opened}
use Rattle.ts_model.specs.Merging.{newest_at}
use Rattle.ts_model.specs.Pieces.{Newest}
use Rattle.ts_table.specs.Merges.{newer}

-- the newest version of each cell of a box, in row order
abbrev pub slots_in : SubBox → Newest → List (Option Version)
slots_in sub newest = list_map (λ c. map.get newest c) (coords_of_box sub)

-- the keys of a tree
abbrev pub keys_in : BTreeMap Key Key → map.FinMap key_cmp Key
keys_in tree = map.from_entries tree.entries

-- the keys of the schemas that the heads name beside one
abbrev pub keys_of_others : Key → List Opened → map.FinMap key_cmp Key
keys_of_others current opened = map.from_entries (list_map (λ o. (o.head.schema, o.head.schema)) (filter (λ o. not (key_eq o.head.schema current)) opened))

-- with a key more, unless it is the one
abbrev pub with_other : Key → Key → map.FinMap key_cmp Key → map.FinMap key_cmp Key
with_other current key m = cond (not (key_eq key current)) (map.insert m key key) m

-- ---- the newest of versions in row order

-- the coordinates of the last version, if there is one
abbrev pub last_coords : List Version → Option (List ℤ)
last_coords [] = None
last_coords (v ∷ vs) = option_or (last_coords vs) (Some v.coords)

-- the version does not come before the last of the others, in row order
abbrev pub ComesBehind : List Version → Version → Type 0
ComesBehind vs v = option_map_or (λ c. is_lt (slice_cmp int_cmp v.coords c)) (last_coords vs) false ≡ false

-- of two versions of one cell the newer one, the first where their keys tie; both where they are of two cells
abbrev pub newest_of_two : Version → Version → List Version
newest_of_two v w = cond (is_eq (slice_cmp int_cmp v.coords w.coords)) (newer v w ∷ []) (v ∷ w ∷ [])

-- these are the newest ones of versions, in row order
pub record AreNewest (versions newest : List Version) : Type 0 where
  pub rise : IsStrictlySortedBy (λ (v w : Version). slice_cmp int_cmp v.coords w.coords) newest
  pub each : (c : List ℤ) → newest_at newest c ≡ newest_at versions c
  pub last : last_coords newest ≡ last_coords versions
