-- What a reader wants of a piece.
use Rattle.std.specs.Prelude.{ℕ, Bool, ◌&&◌, List, map, filter, get_or}
use Rattle.ts_base.specs.declared.heads.Version.{Version}
use Rattle.ts_base.specs.declared.values.Val.{Val}
use Rattle.ts_base.specs.declared.values.Val.TheVariants.{Null}
use Rattle.ts_base.specs.Keys.{is_within}
use Rattle.ts_domain.specs.Boxes.{is_in_box}
use Rattle.ts_schema.specs.declared.wants.Want.{Want}

-- the version's write is stamped in the interval, and its cell lies in the box
abbrev pub is_wanted : Want → Version → Bool
is_wanted want version = is_within want.a want.b version.key && is_in_box want.sub version.coords

-- the value at a place of a row, or null behind its end
abbrev pub value_of : List Val → ℕ → Val
value_of row place = get_or row place Null

-- the values of the attributes at these places
abbrev pub cut_row : List ℕ → List Val → List Val
cut_row attrs row = map (value_of row) attrs

-- the version with the wanted values alone
abbrev pub cut : Want → Version → Version
cut want version = record { key = version.key; schema = version.schema; coords = version.coords; row = cut_row want.attrs version.row }

-- the wanted versions, in their order
abbrev pub taken : Want → List Version → List Version
taken want versions = map (cut want) (filter (is_wanted want) versions)
