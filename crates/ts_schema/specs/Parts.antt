-- Parts of a fragment: what is held of them, and what was got of them.
use Rattle.std.specs.Prelude.{ℕ, ◌^◌, ◌<◌, Bool, cond, List, [], ◌∷◌, length, Option, Some, None}
use Rattle.ts_base.specs.declared.names.Part.{Part}
use Rattle.ts_base.specs.declared.names.PartBytes.{PartBytes}
use Rattle.ts_base.specs.contracts.names.PartPartialEq.TheImpl as part

-- the bytes of each part that a fragment has
abbrev pub Look : Type 0
Look = Part → Option (List ℕ)

-- the parts of a list: at each one its bytes
abbrev pub look_in : List PartBytes → Look
look_in [] p = None
look_in (x ∷ xs) p = cond ((part.ghosts).eq x.part p) (Some x.bytes) (look_in xs p)

-- bytes that were got of a part: from which place on, and whether the object ends with them
pub record Got : Type 0 where
  pub part : Part
  pub at : ℕ
  pub bytes : List ℕ
  pub ends : Bool

-- the size of a part, as it was told
pub record Sized : Type 0 where
  pub part : Part
  pub size : ℕ

-- an object of so few bytes that one get can ask for all of them
abbrev pub IsShort : List ℕ → Type 0
IsShort bytes = length bytes < 2 ^ 64
