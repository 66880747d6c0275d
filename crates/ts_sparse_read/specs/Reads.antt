-- What the private calls of the reading of a tile say of their answers.
use Rattle.std.specs.Prelude.{◌≡◌, ⊤, ℕ, List, Option, Some, None, Result, Ok, Err}
use Rattle.ts_sparse_read.specs.declared.faults.CellFault.{CellFault}
use Rattle.ts_sparse_read.specs.declared.faults.CellFault.TheVariants as fault
use Rattle.ts_base.specs.declared.names.Part.TheVariants as part
use Rattle.ts_column.specs.declared.tiles.TileFault.{TileFault}
use Rattle.ts_column.specs.declared.tiles.TileFault.TheVariants as tile
use Rattle.ts_fetch.specs.declared.judging.Verdict.{Verdict}
use Rattle.ts_fetch.specs.declared.judging.Verdict.TheVariants.{Broken}
use Rattle.ts_sparse_read.specs.Faults.{Fault, Ranged, fault_in}

-- it tells this part and this offset, unless there was no memory
abbrev pub IsCellFault : Fault → CellFault → Type 0
IsCellFault wanted (fault.Broken part at) = wanted ≡ record { part = part; at = at }
IsCellFault wanted fault.OutOfMemory = ⊤

-- the values are those of the answer, or the fault is; but there may be no memory
abbrev pub DecodesFault : {A B : Type 0} → (A → B) → Result B Fault → Result A CellFault → Type 0
DecodesFault seen answer (Ok x) = answer ≡ Ok (seen x)
DecodesFault seen answer (Err (fault.Broken part at)) = answer ≡ Err (record { part = part; at = at })
DecodesFault seen answer (Err fault.OutOfMemory) = ⊤

-- there is no fault, or it is this one; but there may be no memory
abbrev pub TellsFault : {A : Type 0} → Option Fault → Result A CellFault → Type 0
TellsFault wanted (Ok _) = wanted ≡ None
TellsFault wanted (Err (fault.Broken part at)) = wanted ≡ Some (record { part = part; at = at })
TellsFault wanted (Err fault.OutOfMemory) = ⊤

-- it tells what is broken in the tile of the attribute at a place, unless there was no memory
abbrev pub TellsTile : List Ranged → ℕ → TileFault → CellFault → Type 0
TellsTile ranges k (tile.Fixed damaged) told = IsCellFault (fault_in ranges (part.Attr k) damaged.at) told
TellsTile ranges k (tile.Var damaged) told = IsCellFault (fault_in ranges (part.Var k) damaged.at) told
TellsTile ranges k (tile.Validity damaged) told = IsCellFault (fault_in ranges (part.Validity k) damaged.at) told
TellsTile ranges k tile.OutOfMemory told = told ≡ fault.OutOfMemory

-- the verdict tells what is broken; there is none where there was no memory
abbrev pub IsToldAs : CellFault → Verdict → Type 0
IsToldAs (fault.Broken part at) verdict = verdict ≡ Broken part at
IsToldAs fault.OutOfMemory verdict = ⊥
