-- How keys, names and prefixes are spelled.
use Rattle.std.specs.Prelude.{◌≡◌, ℕ, ◌<◌, ◌^◌, List, ◌++◌, codes, decimal}
use Rattle.std.specs.Int.{to_be_bytes, w128}
use Rattle.uuid.specs.Text.{simple_text, lower}
use Rattle.ts_base.specs.declared.keys.Key.{Key}
use Rattle.ts_base.specs.declared.keys.FragKey.{FragKey}
use Rattle.ts_base.specs.declared.names.Part.{Part}
use Rattle.ts_base.specs.declared.names.Part.TheVariants as part
use Rattle.ts_base.specs.declared.names.CommitKind.{CommitKind}
use Rattle.ts_base.specs.declared.names.CommitKind.TheVariants as kind
use Rattle.ts_base.specs.declared.names.LeaseMode.{LeaseMode}
use Rattle.ts_base.specs.declared.names.LeaseMode.TheVariants as mode
use Rattle.ts_base.specs.declared.names.Name.{Name}
use Rattle.ts_base.specs.declared.names.Name.TheVariants as name
use Rattle.ts_base.specs.declared.names.Prefix.{Prefix}
use Rattle.ts_base.specs.declared.names.Prefix.TheVariants as prefix

-- an identifier: 32 digits out of 0 to 9 and a to f, the highest first
abbrev pub id_text : ℕ → List ℕ
id_text id = simple_text lower (to_be_bytes w128 id)

-- two timestamps and an identifier: `__t1_t2_id`
abbrev pub span_text : ℕ → ℕ → ℕ → List ℕ
span_text t1 t2 id = codes "__" ++ decimal t1 ++ codes "_" ++ decimal t2 ++ codes "_" ++ id_text id

-- the key of a schema or a lease: `__t_t_id`
abbrev pub stamp_text : Key → List ℕ
stamp_text k = span_text k.t k.t k.id

-- the key of a fragment: `__t1_t2_id_v`
abbrev pub frag_text : FragKey → List ℕ
frag_text f = span_text f.t1 f.t2 f.id ++ codes "_" ++ decimal f.v

-- the file of a part
abbrev pub part_text : Part → List ℕ
part_text part.Meta = codes "__fragment_metadata.tdb"
part_text (part.Attr n) = codes "a" ++ decimal n ++ codes ".tdb"
part_text (part.Var n) = codes "a" ++ decimal n ++ codes "_var.tdb"
part_text (part.Validity n) = codes "a" ++ decimal n ++ codes "_validity.tdb"
part_text (part.Dim n) = codes "d" ++ decimal n ++ codes ".tdb"
part_text part.Origin = codes "o.tdb"
part_text part.Plain = codes "plain.tdb"

-- the ending of a commit
abbrev pub kind_text : CommitKind → List ℕ
kind_text kind.Wrt = codes "wrt"
kind_text kind.Del = codes "del"
kind_text kind.Vac = codes "vac"

-- the ending of a lease
abbrev pub mode_text : LeaseMode → List ℕ
mode_text mode.Shr = codes "shr"
mode_text mode.Exc = codes "exc"

-- the spelling of a name
abbrev pub name_text : Name → List ℕ
name_text name.Domain = codes "__domain.tdb"
name_text (name.Schema k) = codes "__schema/" ++ stamp_text k
name_text (name.Commit f kind) = codes "__commits/" ++ frag_text f ++ codes "." ++ kind_text kind
name_text (name.Part f part) = codes "__fragments/" ++ frag_text f ++ codes "/" ++ part_text part
name_text (name.Lease k mode) = codes "__leases/" ++ stamp_text k ++ codes "." ++ mode_text mode

-- the spelling of a prefix
abbrev pub prefix_text : Prefix → List ℕ
prefix_text prefix.Schemas = codes "__schema/"
prefix_text prefix.Commits = codes "__commits/"
prefix_text prefix.Leases = codes "__leases/"
prefix_text (prefix.Fragment f) = codes "__fragments/" ++ frag_text f ++ codes "/"

-- the text begins with start
abbrev pub Begins : List ℕ → List ℕ → Type 0
Begins text start = (rest : List ℕ) × (text ≡ start ++ rest)

-- the numbers of a key are such as its fields hold
pub record FitsKey (k : Key) : Type 0 where
  pub t : k.t < 2 ^ 64
  pub id : k.id < 2 ^ 128

-- the numbers of a fragment's key are such as its fields hold
pub record FitsFrag (f : FragKey) : Type 0 where
  pub t1 : f.t1 < 2 ^ 64
  pub t2 : f.t2 < 2 ^ 64
  pub id : f.id < 2 ^ 128
  pub v : f.v < 2 ^ 8

-- the number of a part is such as a byte holds
abbrev pub FitsPart : Part → Type 0
FitsPart (part.Attr n) = n < 2 ^ 8
FitsPart (part.Var n) = n < 2 ^ 8
FitsPart (part.Validity n) = n < 2 ^ 8
FitsPart (part.Dim n) = n < 2 ^ 8
FitsPart _ = Unit {0}

-- the numbers of a name are such as its fields hold
abbrev pub FitsName : Name → Type 0
FitsName (name.Schema k) = FitsKey k
FitsName (name.Commit f kind) = FitsFrag f
FitsName (name.Part f part) = FitsFrag f × FitsPart part
FitsName (name.Lease k mode) = FitsKey k
FitsName _ = Unit {0}

-- the numbers of a prefix are such as its fields hold
abbrev pub FitsPrefix : Prefix → Type 0
FitsPrefix (prefix.Fragment f) = FitsFrag f
FitsPrefix _ = Unit {0}
