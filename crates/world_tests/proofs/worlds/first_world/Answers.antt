-- An empty store stands for the empty history.
use Rattle.std.proofs.Common.{[], sym, subst}
use Rattle.ts_base.specs.Held.{Held}
use Rattle.ts_store.specs.Memory.{held_in}
use Rattle.ts_plain.specs.Pieces.{IsPlain}
use Rattle.ts_model.specs.Deeds.{History}
use Rattle.ts_law.specs.Stands.{Stands}
use Rattle.ts_law.proofs.FirstStands.{nothing_stands}
use Rattle.world_tests.proofs.worlds.first_world.Goals as goal

pub new-requires-3 : goal.new-requires-3
new-requires-3 c =
    let Q : History → Type 0 = λ h. Stands IsPlain (held_in c.new-store.result) h in
    subst Q (sym c.new-2.ensures) (let R : Held → Type 0 = λ m. Stands IsPlain m [] in subst R (sym c.new-store.ensures.held) (nothing_stands IsPlain))
