-- What a listing gives.
use Rattle.std.specs.Prelude.{◌≡◌, ℕ, List, ◌++◌, All, IsTrue}
use Rattle.std.specs.List.{Contains}
use Rattle.std.specs.List.Sorted.{IsStrictlySortedBy}
use Rattle.ts_base.specs.declared.names.Name.{Name}
use Rattle.ts_base.specs.declared.names.Prefix.{Prefix}
use Rattle.ts_base.specs.Names.{IsSpelled, is_under, name_cmp}
use Rattle.ts_base.specs.Spelling.{FitsName, name_text, prefix_text}

-- the name has a spelling, and stands under the prefix
pub record IsNameUnder (prefix : Prefix) (name : Name) : Type 0 where
  pub spelled : IsSpelled name
  pub under : IsTrue (is_under prefix name)

-- a listing: names under the prefix, ascending and each once
pub record IsListing (prefix : Prefix) (names : List Name) : Type 0 where
  pub each : All (IsNameUnder prefix) names
  pub ascending : IsStrictlySortedBy name_cmp names

-- the file under the prefix is that of the name
pub record IsFileOf (prefix : Prefix) (file : List ℕ) (name : Name) : Type 0 where
  pub fits : FitsName name
  pub under : IsNameUnder prefix name
  pub spells : name_text name ≡ prefix_text prefix ++ file

-- the list has the name whose file under the prefix this is, if it is that of one
abbrev pub HasNameOf : Prefix → List Name → List ℕ → Type 0
HasNameOf prefix names file = (name : Name) → IsFileOf prefix file name → Contains names name
