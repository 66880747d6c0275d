-- Which part is broken, and where; and bytes that were got of parts.
use Rattle.std.specs.Prelude.{ℕ, ◌+◌, cond, List, [], ◌∷◌, Result, Ok, Err}
use Rattle.ts_base.specs.declared.names.Part.{Part}
use Rattle.ts_base.specs.declared.names.Part.TheVariants as part
use Rattle.ts_base.specs.contracts.names.PartPartialEq.TheImpl as same
use Rattle.ts_column.specs.Tiles.{TileBreak, InFixed, InVar, InValidity}

-- a part that breaks its layout, and the offset at which it does so first
pub record Fault : Type 0 where
  pub part : Part
  pub at : ℕ

-- the next step, if the one before gave a value
abbrev pub and_then : {A B : Type 0} → Result A Fault → (A → Result B Fault) → Result B Fault
and_then (Ok x) next = next x
and_then (Err fault) next = Err fault

-- bytes of a part, from an offset on
pub record Ranged : Type 0 where
  pub part : Part
  pub from : ℕ
  pub bytes : List ℕ

-- the bytes of a part among these, none where there are none
abbrev pub bytes_of : List Ranged → Part → List ℕ
bytes_of [] p = []
bytes_of (r ∷ ranges) p = cond ((same.ghosts).eq r.part p) r.bytes (bytes_of ranges p)

-- the offset of the first of them
abbrev pub from_of : List Ranged → Part → ℕ
from_of [] p = 0
from_of (r ∷ ranges) p = cond ((same.ghosts).eq r.part p) r.from (from_of ranges p)

-- what is broken in the bytes of a part is broken so far behind their offset
abbrev pub fault_in : List Ranged → Part → ℕ → Fault
fault_in ranges p at = record { part = p; at = from_of ranges p + at }

-- what was read of the bytes of a part
abbrev pub in_part : {A : Type 0} → List Ranged → Part → Result A ℕ → Result A Fault
in_part ranges p (Ok x) = Ok x
in_part ranges p (Err at) = Err (fault_in ranges p at)

-- what is broken in the tile of the attribute at a place
abbrev pub fault_of : List Ranged → ℕ → TileBreak → Fault
fault_of ranges k (InFixed at) = fault_in ranges (part.Attr k) at
fault_of ranges k (InVar at) = fault_in ranges (part.Var k) at
fault_of ranges k (InValidity at) = fault_in ranges (part.Validity k) at

-- what was read of the tile of the attribute at a place
abbrev pub in_tile : {A : Type 0} → List Ranged → ℕ → Result A TileBreak → Result A Fault
in_tile ranges k (Ok x) = Ok x
in_tile ranges k (Err broken) = Err (fault_of ranges k broken)
