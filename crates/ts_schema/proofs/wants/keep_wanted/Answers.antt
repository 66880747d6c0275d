-- What is kept passed the test.
use Rattle.std.proofs.Common.{rules}
use Rattle.std.proofs.lemmas.Fn.{filter_same}
use Rattle.ts_schema.specs.Wants.{is_wanted}
use Rattle.ts_schema.proofs.wants.keep_wanted.Goals as goal

pub returns : goal.returns
returns c = filter_same _ (is_wanted c.args.want.now) _ (λ x b f' k. search rules) _ _ c.retain.ensures.filtered
