-- The bounds of a read that there can be are in order.
use Rattle.std.proofs.Common.{subst}
use Rattle.std.specs.Prelude.{IsTrue}
use Rattle.ts_model.specs.declared.commands.Command.{Command}
use Rattle.ts_model.specs.Commands.{fits}
use Rattle.ts_reader.proofs.QueryLaws.{bounds_ordered}
use Rattle.ts_reader.proofs.opening.begin_reading.Goals as goal

pub ask_for-requires-clause-bounds : goal.ask_for-requires-clause-bounds
ask_for-requires-clause-bounds g c κs within =
    let read = c.in-Read in
    bounds_ordered read.from read.to read.query (subst (λ (command : Command). IsTrue (fits command)) read.is c.requires.job.0.command)
