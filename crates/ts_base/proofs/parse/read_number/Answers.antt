use Rattle.std.proofs.Common.{◌∙◌, ap}
use Rattle.std.specs.Result.{result_unwrap_or}
use Rattle.std.proofs.lemmas.Fmt.{parse-decimal}
use Rattle.ts_base.proofs.parse.read_number.Goals as goal

pub returns : goal.returns
returns c = λ number fits is.
    c.unwrap_or.ensures ∙ ap (λ r. result_unwrap_or r 0) (parse-decimal 64 number c.args.text.now c.parse.result fits fits is c.parse.ensures.value.0)
