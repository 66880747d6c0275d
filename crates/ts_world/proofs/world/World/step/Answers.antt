-- Whatever happened, what the parts keep holds of the world, and what the world began with stays.
use Rattle.std.proofs.Common.{◌≡◌, ◌∙◌, ap}
use Rattle.ts_model.specs.Codecs.{Codec, CodecLaws, Spelled, Tracking}
use Rattle.ts_world.specs.declared.events.Event.TheVariants.{Spawn, Step, Stop, Break}
use Rattle.ts_world.specs.declared.parts.Parts.{Parts}
use Rattle.ts_world.specs.Views.{WorldView}
use Rattle.ts_world.specs.Slots.{ArePartsOk, view_of}
use Rattle.ts_world.specs.Clauses.{IsSound}
use Rattle.ts_world.proofs.Sounds.{is_sound}
use Rattle.ts_world.proofs.Began.{opening_either}
use Rattle.ts_world.proofs.world.World.step.Goals as goal

sound : {P F : Type 0} (codec : Codec F) (spelled : Spelled) (tracks : Tracking F) → CodecLaws codec spelled tracks → (p : Parts P F) → ArePartsOk codec spelled tracks p → IsSound codec spelled (view_of p)
sound codec spelled tracks laws p kept = is_sound codec spelled tracks laws _ _ _ _ _ _ _ kept

-- what is seen of the beginning is what it was
seen : (later v w : WorldView) → v ≡ w → later.opening ≡ v.opening → later.opening ≡ w.opening
seen later v w is stays = stays ∙ ap (λ u. u.opening) is

pub returns-in-Spawn-clause-sound : goal.returns-in-Spawn-clause-sound
returns-in-Spawn-clause-sound g c = sound g.P.Pieces.codec g.P.Spelling.spelled g.P.Pieces.tracks g.met.P.Pieces.laws c.spawn.new.parts c.spawn.ensures.kept

pub returns-in-Spawn-clause-began : goal.returns-in-Spawn-clause-began
returns-in-Spawn-clause-began g c =
    seen (view_of c.spawn.new.parts) _ _ c.self.view_is
    (opening_either g.P.Pieces.codec (Spawn c.in-Spawn.command c.in-Spawn.at c.in-Spawn.id) (view_of c.self.inside.parts) (view_of c.spawn.new.parts) c.spawn.result c.spawn.ensures.spawned c.spawn.ensures.same)

pub returns-in-Step-clause-sound : goal.returns-in-Step-clause-sound
returns-in-Step-clause-sound g c = sound g.P.Pieces.codec g.P.Spelling.spelled g.P.Pieces.tracks g.met.P.Pieces.laws c.step.new.parts c.step.ensures.kept

pub returns-in-Step-clause-began : goal.returns-in-Step-clause-began
returns-in-Step-clause-began g c =
    seen (view_of c.step.new.parts) _ _ c.self.view_is
    (opening_either g.P.Pieces.codec (Step c.in-Step.number c.in-Step.fate) (view_of c.self.inside.parts) (view_of c.step.new.parts) c.step.result c.step.ensures.called c.step.ensures.same)

pub returns-in-Stop-clause-sound : goal.returns-in-Stop-clause-sound
returns-in-Stop-clause-sound g c = sound g.P.Pieces.codec g.P.Spelling.spelled g.P.Pieces.tracks g.met.P.Pieces.laws c.stop.new.parts c.stop.ensures.kept

pub returns-in-Stop-clause-began : goal.returns-in-Stop-clause-began
returns-in-Stop-clause-began g c =
    seen (view_of c.stop.new.parts) _ _ c.self.view_is
    (opening_either g.P.Pieces.codec (Stop c.in-Stop.number c.in-Stop.fate) (view_of c.self.inside.parts) (view_of c.stop.new.parts) c.stop.result c.stop.ensures.called c.stop.ensures.same)

pub returns-in-Break-clause-sound : goal.returns-in-Break-clause-sound
returns-in-Break-clause-sound g c = sound g.P.Pieces.codec g.P.Spelling.spelled g.P.Pieces.tracks g.met.P.Pieces.laws c.break_lease.new.parts c.break_lease.ensures.kept

pub returns-in-Break-clause-began : goal.returns-in-Break-clause-began
returns-in-Break-clause-began g c =
    seen (view_of c.break_lease.new.parts) _ _ c.self.view_is
    (opening_either g.P.Pieces.codec (Break c.in-Break.lease) (view_of c.self.inside.parts) (view_of c.break_lease.new.parts) c.break_lease.result c.break_lease.ensures.broken c.break_lease.ensures.same)

pub returns-in-Restart-clause-sound : goal.returns-in-Restart-clause-sound
returns-in-Restart-clause-sound g c = sound g.P.Pieces.codec g.P.Spelling.spelled g.P.Pieces.tracks g.met.P.Pieces.laws c.restart.new.parts c.restart.ensures.kept
