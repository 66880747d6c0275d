-- Any actor goes on as the one that it is.
use Rattle.std.proofs.Common.{◌≡◌, subst, sym}
use Rattle.ts_store.specs.declared.call.Reply.{Reply}
use Rattle.ts_model.specs.Codecs.{Codec}
use Rattle.ts_model.specs.Driven.{EndsBy}
use Rattle.ts_model.specs.declared.answers.Outcome.{Outcome}
use Rattle.ts_actor.specs.Traces.{CanCome, GoesOn, Trace, filled}
use Rattle.ts_actor.specs.declared.actor.Step.{Step}
use Rattle.ts_commands.specs.declared.actors.AnyActor.{AnyActor}
use Rattle.ts_commands.specs.Actors.{Follows, job_of}

-- after any calls that an actor followed, and a reply to the last, another goes on to the step, or it ends by them
abbrev Goes : {P F : Type 0} → Codec F → AnyActor P F → AnyActor P F → Reply → Step Outcome → Type 0
Goes codec now later reply step = (t : Trace) → Follows codec now t → CanCome t.asked reply → GoesOn (Follows codec later) (λ past end. EndsBy codec (job_of now) past end) (filled t reply) step

-- so it does under another name
pub goes_as : {P F : Type 0} (codec : Codec F) (now is later : AnyActor P F) (reply : Reply) (step : Step Outcome) → now ≡ is → Goes codec is later reply step → Goes codec now later reply step
goes_as codec now is later reply step same goes = subst (λ a. Goes codec a later reply step) (sym same) goes
