-- Of some places those where something holds.
use Rattle.std.specs.Prelude.{◌≡◌, ℕ, ◌<◌, ℤ, pos, Bool, false, ◌&&◌, List, length, get_or}
use Rattle.std.specs.Ordering.{int_cmp}
use Rattle.std.specs.declared.cmp.Ordering.{Ordering}
use Rattle.std.specs.declared.cmp.Ordering.TheVariants.{Less, Equal, Greater}
use Rattle.ts_base.specs.declared.heads.Version.{Version}
use Rattle.ts_base.specs.declared.values.Val.{Val}
use Rattle.ts_base.specs.declared.values.Val.TheVariants.{Int}
use Rattle.ts_cond.specs.Holds.{holds}
use Rattle.ts_cond.specs.declared.fields.CondField.{CondField}
use Rattle.ts_cond.specs.declared.fields.Pick.{Pick}
use Rattle.ts_cond.specs.Picks.{picked, picked_value}
use Rattle.ts_cond.specs.Tests.{Test}
use Rattle.ts_table.specs.Tables.{version_or}
use Rattle.ts_match.specs.declared.comparing.Sides.{Sides}
use Rattle.ts_match.specs.declared.keeping.View.{View}

-- the value that is seen for a field at the version at a place
unfoldable pub value_at : View → ℕ → ℕ → Val
value_at view place = picked_value view.picks.now view.fields.now (version_or view.cells.now place).coords (version_or view.cells.now place).row

-- whether a test holds of the version at a place
abbrev pub holds_at : View → Test → ℕ → Bool
holds_at view t place = holds (value_at view place) t

-- of the places that were kept, those are kept where this holds
pub record AreKept (here : ℕ → Bool) (old new : List Bool) : Type 0 where
  pub long : length new ≡ length old
  pub each : (place : ℕ) → place < length old → get_or new place false ≡ (get_or old place false && here place)

-- these are the values of a field at all versions
pub record AreIntegers (view : View) (field : ℕ) (numbers : List ℤ) : Type 0 where
  pub long : length numbers ≡ length view.cells.now
  pub there : (place : ℕ) → place < length view.cells.now → value_at view place field ≡ Int (get_or numbers place (pos 0))

-- these are the values that a pick finds at all versions, for any field
pub record ArePicked (pick : Pick) (versions : List Version) (numbers : List ℤ) : Type 0 where
  pub long : length numbers ≡ length versions
  pub there : (field : CondField) (place : ℕ) → place < length versions → picked pick field (version_or versions place).coords (version_or versions place).row ≡ Int (get_or numbers place (pos 0))

-- one of three answers, by how two values stand to each other
abbrev pub one_of : Ordering → Bool → Bool → Bool → Bool
one_of Less below there above = below
one_of Equal below there above = there
one_of Greater below there above = above

-- whether an integer passes: it is below the bound, there or above it, as is asked for
abbrev pub is_on : Sides ℤ → ℤ → Bool
is_on sides number = one_of (int_cmp number sides.bound) sides.below sides.there sides.above
