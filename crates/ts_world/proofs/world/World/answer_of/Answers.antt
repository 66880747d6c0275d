-- The end is that of the slot with the number.
use Rattle.std.proofs.Common.{◌∙◌, ap}
use Rattle.ts_world.specs.Slots.{standings}
use Rattle.ts_world.specs.Views.{WorldView, end_of}
use Rattle.ts_world.proofs.world.World.answer_of.Goals as goal

pub returns : goal.returns
returns g c =
    c.end_of.ensures
    ∙ ap (λ l. end_of (standings l) c.args.actor) c.as_slice.ensures.value
    ∙ ap (λ (w : WorldView). end_of w.actors c.args.actor) c.self.view_is
