-- What a piece holds of the writes of a history, whether one write made it or a consolidation.
use Rattle.std.specs.Prelude.{◌≡◌, ℕ, ℤ, Bool, true, false, ◌&&◌, List, Option, option_and_then, filter, find, Contains}
use Rattle.std.specs.List.{list_any}
use Rattle.std.specs.List.Sorted.{IsStrictlySortedBy}
use Rattle.ts_base.specs.declared.keys.Key.{Key}
use Rattle.ts_base.specs.declared.heads.Head.{Head}
use Rattle.ts_base.specs.declared.heads.Piece.{Piece}
use Rattle.ts_base.specs.declared.heads.Version.{Version}
use Rattle.ts_base.specs.Keys.{key_cmp, key_eq, greatest, is_within}
use Rattle.ts_domain.specs.declared.boxes.SubBox.{SubBox}
use Rattle.ts_domain.specs.Boxes.{is_in_box, Covers}
use Rattle.ts_commit.specs.Selections.{has_origin, keeps_last}
use Rattle.ts_model.specs.declared.deeds.Written.{Written}
use Rattle.ts_model.specs.Deeds.{History, writes, has_cell}
use Rattle.ts_model.specs.Pieces.{version_at, version_of}
use Rattle.ts_model.specs.Consolidated.{NamesOwn}
pub use Rattle.ts_model.specs.Consolidated.{IsSpan, box_in}
pub use Rattle.ts_model.specs.Merging.{newest_at, with_key}

-- ---- the writes that went into fragments

-- the writes of a history that went into a fragment
abbrev pub origins_of : History → Head → List Written
origins_of h head = filter (λ w. has_origin w.key head) (writes h)

-- the writes in [a, b] that went into one of the fragments
abbrev pub wrote_in : History → ℕ → ℕ → List Head → List Written
wrote_in h a b heads = filter (λ w. is_within a b w.key && list_any (has_origin w.key) heads) (writes h)

-- of these writes the last one that has a coordinate
abbrev pub last_of : List Written → List ℤ → Option Written
last_of ws c = greatest (λ w. w.key) (filter (has_cell c) ws)

-- and the version that it makes
abbrev pub last_version : List Written → List ℤ → Option Version
last_version ws c = option_and_then (λ w. version_of w c) (last_of ws c)

-- ---- what is kept of them

-- the version that the write of a key makes of a coordinate
abbrev pub made_by : List Written → Key → List ℤ → Option Version
made_by ws k c = option_and_then (λ w. version_of w c) (find (λ w. key_eq w.key k) ws)

-- what is kept of a key and a coordinate: the version of that write; where the last versions are kept alone, only if it is the last one
abbrev pub kept_of : Bool → List Written → Key → List ℤ → Option Version
kept_of true ws k c = with_key k (last_version ws c)
kept_of false ws k c = made_by ws k c

-- ---- what a piece holds

-- the box has each cell of these writes
abbrev pub HasCells : SubBox → List Written → Type 0
HasCells sub ws = (w : Written) (c : List ℤ) → Contains ws w → has_cell c w ≡ true → is_in_box sub c ≡ true

-- the box is the least one that has each cell of these writes
pub record IsHullOfCells (sub : SubBox) (ws : List Written) : Type 0 where
  pub cells : HasCells sub ws
  pub least : (outer : SubBox) → HasCells outer ws → Covers outer sub

-- the key is that of a write in a schema
abbrev pub IsWriteIn : History → Key → Key → Type 0
IsWriteIn h schema k = (w : Written) × Contains (writes h) w × (w.key ≡ k) × (w.schema ≡ schema)

-- the piece holds what its origins wrote, and nothing else
pub record HoldsWrites (h : History) (p : Piece) : Type 0 where
  -- its origins are keys of writes in its schema, ascending and each once
  pub origins : (k : Key) → Contains p.head.origins k → IsWriteIn h p.head.schema k
  pub ascend : IsStrictlySortedBy key_cmp p.head.origins
  pub span : IsSpan p.head.frag p.head.origins
  -- a piece that no consolidation made has one origin, which names it
  pub ordinary : NamesOwn p.head
  -- at each key and coordinate it has what is kept of its origins
  pub versions : (k : Key) (c : List ℤ) → version_at p.versions k c ≡ kept_of (keeps_last p.head) (origins_of h p.head) k c
  -- a dense one lies between the corners of its origins' cells
  pub hull : p.head.dense ≡ true → IsHullOfCells (box_in p.head) (origins_of h p.head)
