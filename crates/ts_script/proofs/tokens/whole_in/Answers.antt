use Rattle.serde_json.specs.View.{number_view}
use Rattle.ts_script.proofs.NumberLemmas.{whole_seen}
use Rattle.ts_script.proofs.tokens.whole_in.Goals as goal

pub returns-in-Some : goal.returns-in-Some
returns-in-Some c = whole_seen c.args.text.now (number_view c.in-Some.number) c.as_i128.result c.in-Some.ensures c.as_i128.ensures
