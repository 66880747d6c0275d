use Rattle.std.proofs.Common.{sym, ap, ◌∙◌, arith}
use Rattle.ts_script.specs.Readings.{value_at}
use Rattle.ts_script.specs.Trees.{view}
use Rattle.ts_script.proofs.ReadSteps.{read-none, read-over, read-not_over}
use Rattle.ts_script.proofs.tokens.read_text.Goals as goal

pub returns-in_err-value-clause-form : goal.returns-in_err-value-clause-form
returns-in_err-value-clause-form c refused = read-none c.args.text.now (ap (value_at 127) (sym c.in_ok-reader.ensures.ok) ∙ c.read_value.ensures.form (grind arith))

pub returns-then-is_some-clause-form : goal.returns-then-is_some-clause-form
returns-then-is_some-clause-form c refused =
    read-not_over c.args.text.now (view c.in_ok-value.value) c.read_value.new.reader c.next.new.self c.next.result c.next.ensures.value
    (ap (value_at 127) (sym c.in_ok-reader.ensures.ok) ∙ c.in_ok-value.ensures.value) (sym c.if-is_some.ensures)

pub returns-clause-value : goal.returns-clause-value
returns-clause-value c =
    read-over c.args.text.now (view c.in_ok-value.value) c.read_value.new.reader c.next.new.self c.next.result c.next.ensures.value
    (ap (value_at 127) (sym c.in_ok-reader.ensures.ok) ∙ c.in_ok-value.ensures.value) (sym c.if-is_some.ensures)
