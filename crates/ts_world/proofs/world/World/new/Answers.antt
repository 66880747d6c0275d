-- A new world keeps what a world keeps.
use Rattle.std.proofs.Common.{refl}
use Rattle.ts_store.specs.Memory.{held_in}
use Rattle.ts_world.proofs.Laws.{first_kept}
use Rattle.ts_world.proofs.Sounds.{is_sound}
use Rattle.ts_world.proofs.world.World.new.Goals as goal

pub invariant_of-result : goal.invariant_of-result
invariant_of-result g c =
    rw (c.of-opening.ensures, c.new.ensures, c.new-2.ensures.items, c.new-3.ensures, c.new-4.ensures.items)
    (first_kept {P = g.row.P.Denot} g.P.Pieces.codec g.P.Spelling.spelled g.P.Pieces.tracks c.args.past (held_in c.args.store) c.requires)

pub returns-clause-sound : goal.returns-clause-sound
returns-clause-sound g c =
    rw (c.of-opening.ensures, c.new.ensures, c.new-2.ensures.items, c.new-3.ensures, c.new-4.ensures.items)
    (is_sound g.P.Pieces.codec g.P.Spelling.spelled g.P.Pieces.tracks g.met.P.Pieces.laws _ _ _ _ _ _ _ (first_kept {P = g.row.P.Denot} g.P.Pieces.codec g.P.Spelling.spelled g.P.Pieces.tracks c.args.past (held_in c.args.store) c.requires))

pub returns-clause-began : goal.returns-clause-began
returns-clause-began g c = rw (c.of-opening.ensures, c.new.ensures, c.new-2.ensures.items, c.new-3.ensures, c.new-4.ensures.items) (record { replied = tt; held_told_is = refl; held_is = refl })
