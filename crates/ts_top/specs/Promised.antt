-- What a run promises, by what is seen of it.
use Rattle.std.specs.Prelude.{◌≡◌, [], Option, Some, ◌⊎◌}
use Rattle.std.specs.FinMap as map
use Rattle.ts_base.specs.Held.{Held}
use Rattle.ts_model.specs.Deeds.{History}
use Rattle.ts_law.specs.Fresh.{IsFreshSeed}
use Rattle.ts_top.specs.Lanes.{PromiseOfLanes}
use Rattle.ts_top.specs.Promise.{IsStored}
use Rattle.ts_top.specs.Seen.{Seen}

-- the run began with its commands, by its status or by a call that it made of the store
abbrev pub Began : {S : Type 0} → Seen S → Type 0
Began seen = (seen.status ≡ 0) ⊎ (seen.status ≡ 5) ⊎ (seen.status ≡ 6) ⊎ (seen.journal ≡ [] → ⊥)

-- a run that began keeps the promise, whose `alone` says more of a script of one lane.
-- Over a store that held what stands for a history the seed is to be fresh; over one that held nothing any seed will do.
pub record Promised {S : Type 0} (held : S → Option Held) (seen : Seen S) : Type 0 where
  pub over : Began seen → (m : Held) → held seen.store ≡ Some m → (past : History) → IsStored m past → IsFreshSeed m past seen.seed → PromiseOfLanes held seen m past
  pub from_nothing : Began seen → held seen.store ≡ Some map.empty → PromiseOfLanes held seen map.empty []
