-- Names of objects: their order, which stand under a prefix, and which have a spelling.
use Rattle.std.specs.Prelude.{◌≡◌, ℕ, ◌≤◌, Bool, true, false}
use Rattle.std.specs.declared.cmp.Ordering.{Ordering}
use Rattle.std.specs.Ordering.{is_eq}
use Rattle.ts_base.specs.declared.keys.Key.{Key}
use Rattle.ts_base.specs.declared.keys.FragKey.{FragKey}
use Rattle.ts_base.specs.declared.names.Part.{Part}
use Rattle.ts_base.specs.declared.names.Part.TheVariants as part
use Rattle.ts_base.specs.declared.names.CommitKind.{CommitKind}
use Rattle.ts_base.specs.declared.names.CommitKind.TheVariants as kind
use Rattle.ts_base.specs.declared.names.Name.{Name}
use Rattle.ts_base.specs.declared.names.Name.TheVariants as name
use Rattle.ts_base.specs.declared.names.Prefix.{Prefix}
use Rattle.ts_base.specs.declared.names.Prefix.TheVariants as prefix
use Rattle.ts_base.specs.contracts.names.NameOrd.TheImpl as derived
use Rattle.ts_base.specs.Keys.{frag_eq, frag_of}

-- names are compared by kind, and then by content
abbrev pub name_cmp : Name → Name → Ordering
name_cmp = (derived.ghosts).cmp

-- n and m are one name
abbrev pub name_eq : Name → Name → Bool
name_eq n m = is_eq (name_cmp n m)

-- the commit of a fragment
abbrev pub wrt_of : FragKey → Name
wrt_of f = name.Commit f kind.Wrt

-- the delete of a key
abbrev pub del_of : Key → Name
del_of k = name.Commit (frag_of k) kind.Del

-- the name begins with the prefix
abbrev pub is_under : Prefix → Name → Bool
is_under prefix.Schemas (name.Schema k) = true
is_under prefix.Commits (name.Commit f kind) = true
is_under prefix.Leases (name.Lease k mode) = true
is_under (prefix.Fragment f) (name.Part g part) = frag_eq f g
is_under _ _ = false

-- the versions of the format that a fragment may be written in
abbrev pub IsVersion : ℕ → Type 0
IsVersion v = v ≡ 1

-- a fragment's key has a spelling where its span runs forward and its version is known
pub record IsSpelledFrag (f : FragKey) : Type 0 where
  pub span : f.t1 ≤ f.t2
  pub version : IsVersion f.v

-- attributes are numbered up to 63, dimensions up to 7
abbrev pub IsSpelledPart : Part → Type 0
IsSpelledPart (part.Attr n) = n ≤ 63
IsSpelledPart (part.Var n) = n ≤ 63
IsSpelledPart (part.Validity n) = n ≤ 63
IsSpelledPart (part.Dim n) = n ≤ 7
IsSpelledPart _ = Unit {0}

-- what a commit says fits its fragment: a delete is stamped once
abbrev pub IsSpelledKind : FragKey → CommitKind → Type 0
IsSpelledKind f kind.Del = f.t1 ≡ f.t2
IsSpelledKind f _ = Unit {0}

-- the name has a spelling
abbrev pub IsSpelled : Name → Type 0
IsSpelled (name.Commit f kind) = IsSpelledFrag f × IsSpelledKind f kind
IsSpelled (name.Part f part) = IsSpelledFrag f × IsSpelledPart part
IsSpelled _ = Unit {0}
