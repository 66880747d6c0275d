-- A fetch that goes on is still one of what lies in the box.
use Rattle.ts_actor.specs.PieceLaws.{Went}
use Rattle.ts_reader.proofs.fetching.go_on.Goals as goal

pub returns-in-Ask-clause-inside : goal.returns-in-Ask-clause-inside
returns-in-Ask-clause-inside g c = λ sub on. Went c.args.fetch c.args.reply c.next.new.fetch c.in-Ask.call on c.in-Ask.ensures.is
