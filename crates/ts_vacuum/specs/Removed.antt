-- What is removed of a fragment, by sets of fragments.
use Rattle.std.specs.Prelude.{List, [], ◌∷◌, cond}
use Rattle.std.specs.BTreeSet.{BTreeSet, contains}
use Rattle.ts_base.specs.declared.keys.FragKey.{FragKey}
use Rattle.ts_base.specs.declared.names.Name.{Name}
use Rattle.ts_base.specs.Keys.{frag_cmp}

-- an object of a fragment, where the fragment is in the set
abbrev pub where_in : BTreeSet FragKey → (FragKey → Name) → FragKey → List Name
where_in frags object f = cond (contains frag_cmp frags f) (object f ∷ []) []
