-- The origins of the slots of a space tile, each by itself, or one of all.
use Rattle.std.specs.Prelude.{ℕ, List, replicate}
use Rattle.ts_dense_read.specs.declared.slots.HeldOrigins.{HeldOrigins}
use Rattle.ts_dense_read.specs.declared.slots.HeldOrigins.TheVariants.{One, Each}

-- the origins that are held
abbrev pub origins_held : HeldOrigins → List ℕ
origins_held (One origin count) = replicate count origin
origins_held (Each origins) = origins
