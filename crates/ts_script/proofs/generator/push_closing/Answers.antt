use Rattle.std.specs.Prelude.{All}
use Rattle.std.proofs.lemmas.List.Elements.{All-push}
use Rattle.ts_model.specs.Jobs.{IsFitLine}
use Rattle.ts_script.proofs.generator.push_closing.Goals as goal

pub returns-clause-fit : goal.returns-clause-fit
returns-clause-fit c =
    let one : All IsFitLine c.push.new.self.items = rw c.in_ok-push.ensures.items (All-push IsFitLine c.args.lines.now.items c.stamped.result c.requires.fit c.stamped.ensures.fit) in
    let two : All IsFitLine c.push-2.new.self.items = rw c.in_ok-push-2.ensures.items (All-push IsFitLine c.push.new.self.items c.stamped-2.result one c.stamped-2.ensures.fit) in
    let three : All IsFitLine c.push-3.new.self.items = rw c.in_ok-push-3.ensures.items (All-push IsFitLine c.push-2.new.self.items c.stamped-3.result two c.stamped-3.ensures.fit) in
    rw c.in_ok-push-4.ensures.items (All-push IsFitLine c.push-3.new.self.items c.stamped-4.result three c.stamped-4.ensures.fit)
