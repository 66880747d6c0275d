-- What a listing of the commits names, and which of these names have spellings.
use Rattle.std.specs.Prelude.{List, Option, All}
use Rattle.ts_base.specs.declared.keys.FragKey.{FragKey}
use Rattle.ts_base.specs.declared.names.CommitKind.{CommitKind}
use Rattle.ts_base.specs.declared.names.CommitKind.TheVariants.{Wrt, Del, Vac}
use Rattle.ts_base.specs.declared.names.Name.{Name}
use Rattle.ts_base.specs.declared.names.Name.TheVariants as name
use Rattle.ts_base.specs.Names.{IsSpelled, IsSpelledFrag}
use Rattle.ts_model.specs.declared.states.Opened.{Opened}
use Rattle.ts_model.specs.States.{del_in, vac_in, wrt_in}

-- the fragment or the delete that an object of this kind names
abbrev pub frag_in : CommitKind → Name → Option FragKey
frag_in Wrt name = wrt_in name
frag_in Del name = del_in name
frag_in Vac name = vac_in name

-- the object of this kind has a spelling
abbrev pub IsSpelledAs : CommitKind → FragKey → Type 0
IsSpelledAs kind f = IsSpelled (name.Commit f kind)

-- the object of a delete has a spelling
abbrev pub IsSpelledDelete : FragKey → Type 0
IsSpelledDelete f = IsSpelledAs Del f

-- the `.vac` of a fragment has a spelling
abbrev pub IsSpelledVac : FragKey → Type 0
IsSpelledVac f = IsSpelledAs Vac f

-- the fragments have spellings
abbrev pub AreSpelled : List Opened → Type 0
AreSpelled opened = All (λ o. IsSpelledFrag o.frag) opened
