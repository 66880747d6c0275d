-- By the laws of the grammar, and by what each token keeps.
use Rattle.std.proofs.Common.{◌<◌, ◌^◌, length, arith, rules}
use Rattle.ts_wire.specs.Exact.{IsBytes}
use Rattle.ts_cond.proofs.ParsedLaws.{parses_object}
use Rattle.ts_cond.specs.Machine.{parsed}
use Rattle.ts_cond.proofs.BreakLaws.{broken_is_refused}
use Rattle.ts_cond.proofs.CauseLaws.{has_cause, one_of_two, answer_has_cause, answer_is_read}
use Rattle.ts_cond.proofs.GrammarReads.{grammar_is_read}
use Rattle.ts_cond.proofs.cond.Cond.parse.Goals as goal

pub returns-clause-cause : goal.returns-clause-cause
returns-clause-cause c =
    let text = c.args.text.now in
    let fields = c.args.fields.now in
    answer_has_cause c.read_text.result (parsed text fields) text fields c.read_text.ensures (has_cause text fields)

pub returns-clause-spelled : goal.returns-clause-spelled
returns-clause-spelled c = λ tree is.
    let text = c.args.text.now in
    let fields = c.args.fields.now in
    answer_is_read c.read_text.result (parsed text fields) fields tree c.read_text.ensures (grammar_is_read text fields tree is)

pub returns-clause-broken : goal.returns-clause-broken
returns-clause-broken c = λ at is.
    let text = c.args.text.now in
    let fields = c.args.fields.now in
    broken_is_refused text fields at is c.read_text.result (answer_has_cause c.read_text.result (parsed text fields) text fields c.read_text.ensures (has_cause text fields))

pub returns-clause-either : goal.returns-clause-either
returns-clause-either c = one_of_two c.args.text.now

pub returns-clause-object : goal.returns-clause-object
returns-clause-object c are =
    let bytes : IsBytes c.args.text.now = λ i. omega (arith, c.type_inv.text i) in
    let short : length c.args.text.now < 2 ^ 64 = search rules in
    parses_object c.read_text.result c.args.text.now c.args.fields.now bytes short are c.read_text.ensures
