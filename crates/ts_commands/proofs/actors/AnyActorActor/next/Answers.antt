-- Any actor goes on as the one that it is does.
use Rattle.ts_commands.specs.declared.actors.AnyActor.TheVariants.{Creator, Evolver, Writer, Deleter, Reader, Consolidator, Vacuum, Unlocker, Lister}
use Rattle.ts_commands.proofs.Goes.{goes_as}
use Rattle.ts_commands.proofs.actors.AnyActorActor.next.Goals as goal

pub returns-in-Creator-clause-goes_on : goal.returns-in-Creator-clause-goes_on
returns-in-Creator-clause-goes_on g c = goes_as g.P.Pieces.codec c.args.self.now (Creator c.in-Creator.creator) (Creator c.next.new.self) c.args.reply c.next.result c.in-Creator.is c.next.ensures.goes_on

pub returns-in-Evolver-clause-goes_on : goal.returns-in-Evolver-clause-goes_on
returns-in-Evolver-clause-goes_on g c = goes_as g.P.Pieces.codec c.args.self.now (Evolver c.in-Evolver.evolver) (Evolver c.next-in-Evolver.new.self) c.args.reply c.next-in-Evolver.result c.in-Evolver.is c.next-in-Evolver.ensures.goes_on

pub returns-in-Writer-clause-goes_on : goal.returns-in-Writer-clause-goes_on
returns-in-Writer-clause-goes_on g c = goes_as g.P.Pieces.codec c.args.self.now (Writer c.in-Writer.writer) (Writer c.next-in-Writer.new.self) c.args.reply c.next-in-Writer.result c.in-Writer.is c.next-in-Writer.ensures.goes_on

pub returns-in-Deleter-clause-goes_on : goal.returns-in-Deleter-clause-goes_on
returns-in-Deleter-clause-goes_on g c = goes_as g.P.Pieces.codec c.args.self.now (Deleter c.in-Deleter.deleter) (Deleter c.next-in-Deleter.new.self) c.args.reply c.next-in-Deleter.result c.in-Deleter.is c.next-in-Deleter.ensures.goes_on

pub returns-in-Reader-clause-goes_on : goal.returns-in-Reader-clause-goes_on
returns-in-Reader-clause-goes_on g c = goes_as g.P.Pieces.codec c.args.self.now (Reader c.in-Reader.reader) (Reader c.next-in-Reader.new.self) c.args.reply c.next-in-Reader.result c.in-Reader.is c.next-in-Reader.ensures.goes_on

pub returns-in-Consolidator-clause-goes_on : goal.returns-in-Consolidator-clause-goes_on
returns-in-Consolidator-clause-goes_on g c = goes_as g.P.Pieces.codec c.args.self.now (Consolidator c.in-Consolidator.consolidator) (Consolidator c.next-in-Consolidator.new.self) c.args.reply c.next-in-Consolidator.result c.in-Consolidator.is c.next-in-Consolidator.ensures.goes_on

pub returns-in-Vacuum-clause-goes_on : goal.returns-in-Vacuum-clause-goes_on
returns-in-Vacuum-clause-goes_on g c = goes_as g.P.Pieces.codec c.args.self.now (Vacuum c.in-Vacuum.vacuum) (Vacuum c.next-in-Vacuum.new.self) c.args.reply c.next-in-Vacuum.result c.in-Vacuum.is c.next-in-Vacuum.ensures.goes_on

pub returns-in-Unlocker-clause-goes_on : goal.returns-in-Unlocker-clause-goes_on
returns-in-Unlocker-clause-goes_on g c = goes_as g.P.Pieces.codec c.args.self.now (Unlocker c.in-Unlocker.unlocker) (Unlocker c.next-in-Unlocker.new.self) c.args.reply c.next-in-Unlocker.result c.in-Unlocker.is c.next-in-Unlocker.ensures.goes_on

pub returns-in-Lister-clause-goes_on : goal.returns-in-Lister-clause-goes_on
returns-in-Lister-clause-goes_on g c = goes_as g.P.Pieces.codec c.args.self.now (Lister c.in-Lister.lister) (Lister c.next-in-Lister.new.self) c.args.reply c.next-in-Lister.result c.in-Lister.is c.next-in-Lister.ensures.goes_on
