-- Merging lists of versions, by an order of coordinates.
use Rattle.std.specs.Prelude.{◌≡◌, ℤ, Bool, true, not, if◌then◌else◌, List, [], ◌∷◌, find, filter, Option, IsTrue}
use Rattle.std.specs.List.{All, AllByRecursion, flat_map}
use Rattle.std.specs.Ordering.{is_eq, ordering_then}
use Rattle.std.specs.declared.cmp.Ordering.{Ordering}
use Rattle.std.specs.declared.cmp.Ordering.TheVariants.{Less, Equal, Greater}
use Rattle.ts_base.specs.declared.heads.Version.{Version}
use Rattle.ts_base.specs.Keys.{key_cmp, key_lt, greater, greatest}
use Rattle.ts_domain.specs.Domains.{is_in_domain}
use Rattle.ts_order.specs.Orders.{global_cmp}
use Rattle.ts_schema.specs.declared.frames.Frame.{Frame}

-- an order of coordinates
abbrev pub Order : Type 0
Order = List ℤ → List ℤ → Ordering

-- of two versions the one with the greater key, the first where they tie
abbrev pub newer : Version → Version → Version
newer v w = if key_lt v.key w.key then w else v

-- the earlier of two first versions and what follows it, or the newer one where their coordinates tie
abbrev pub chosen : Ordering → Version → Version → List Version → List Version → List Version → List Version
chosen Less v w after_first after_second after_both = v ∷ after_first
chosen Greater v w after_first after_second after_both = w ∷ after_second
chosen Equal v w after_first after_second after_both = newer v w ∷ after_both

-- two lists as one
abbrev pub merged : Order → List Version → List Version → List Version
merged cmp [] ws = ws
merged cmp (v ∷ vs) [] = v ∷ vs
merged cmp (v ∷ vs) (w ∷ ws) = chosen (cmp v.coords w.coords) v w (merged cmp vs (w ∷ ws)) (merged cmp (v ∷ vs) ws) (merged cmp vs ws)

-- each version comes before all behind it
abbrev pub Climbs : Order → List Version → Type 0
Climbs cmp [] = Unit {0}
Climbs cmp (v ∷ vs) = AllByRecursion (λ w. cmp v.coords w.coords ≡ Less) vs × Climbs cmp vs

-- the version whose coordinates tie with these
abbrev pub one_at : Order → List ℤ → List Version → Option Version
one_at cmp c vs = find (λ v. is_eq (cmp v.coords c)) vs

-- the global order of an array's cells
abbrev pub global_order : Frame → Order
global_order frame = global_cmp frame.domain frame.tile frame.cell

-- the version's cell lies in the domain
abbrev pub LiesInside : Frame → Version → Type 0
LiesInside frame version = IsTrue (is_in_domain frame.domain version.coords)

-- of two lists that climb, this one climbs too, and has at each place the version with the greater key, that of the first list where keys tie
pub record IsMerged (cmp : Order) (vs ws list : List Version) : Type 0 where
  pub climbs : Climbs cmp list
  pub at : (c : List ℤ) → one_at cmp c list ≡ greater (λ v. v.key) (one_at cmp c vs) (one_at cmp c ws)

-- ---- many lists

-- how two versions stand: by their coordinates, and at one place by their keys
abbrev pub version_cmp : Order → Version → Version → Ordering
version_cmp cmp v w = ordering_then (cmp v.coords w.coords) (key_cmp v.key w.key)

-- each version comes before all behind it, those of one place by ascending key
abbrev pub VersionsAscend : Order → List Version → Type 0
VersionsAscend cmp [] = Unit {0}
VersionsAscend cmp (v ∷ vs) = AllByRecursion (λ w. version_cmp cmp v w ≡ Less) vs × VersionsAscend cmp vs

-- the versions lie in the domain, and ascend in global order
pub record IsOrdered (frame : Frame) (versions : List Version) : Type 0 where
  pub inside : All (LiesInside frame) versions
  pub ascend : VersionsAscend (global_order frame) versions

-- the next version, if there is one, stands at another place
abbrev pub is_last : Order → Version → List Version → Bool
is_last cmp v [] = true
is_last cmp v (w ∷ ws) = not (is_eq (cmp v.coords w.coords))

-- the last version of each place
abbrev pub last_alone : Order → List Version → List Version
last_alone cmp [] = []
last_alone cmp (v ∷ vs) = if is_last cmp v vs then v ∷ last_alone cmp vs else last_alone cmp vs

-- the version's coordinates tie with these
abbrev pub is_at : Order → List ℤ → Version → Bool
is_at cmp c v = is_eq (cmp v.coords c)

-- the versions at a place, list after list
abbrev pub all_at : Order → List ℤ → List (List Version) → List Version
all_at cmp c lists = flat_map (filter (is_at cmp c)) lists

-- this list climbs, and has at each place the version with the greatest key of all lists, that of the first list where keys tie
pub record IsMergedAll (cmp : Order) (lists : List (List Version)) (list : List Version) : Type 0 where
  pub climbs : Climbs cmp list
  pub at : (c : List ℤ) → one_at cmp c list ≡ greatest (λ v. v.key) (all_at cmp c lists)
