use Rattle.std.proofs.Common.{◌≡◌, drop, true, false, sym, ap, ◌∙◌, arith, take_all, length-drop}
use Rattle.fast_float.specs.Text.{scan}
use Rattle.serde_json.specs.Read.{number_of, number_from}
use Rattle.ts_script.proofs.NumberLemmas.{number_of-below, number_of-above}
use Rattle.ts_script.proofs.tokens.number_in.Goals as goal

pub returns-then-has_minus : goal.returns-then-has_minus
returns-then-has_minus c =
    let text = c.as_bytes-bytes.result.now in
    let parts : c.scan.result ≡ scan (drop 1 text) = c.scan.ensures.parts ∙ ap scan (take_all _ (drop 1 text) (omega (arith, length-drop 1 text))) in
    c.below_zero.ensures ∙ ap (number_from true) parts ∙ sym (number_of-below text (sym c.if-has_minus.ensures.is)) ∙ ap number_of c.as_bytes-bytes.ensures.value

pub returns-else-has_minus : goal.returns-else-has_minus
returns-else-has_minus c =
    let text = c.as_bytes-bytes.result.now in
    c.above_zero.ensures ∙ ap (number_from false) c.scan-else-has_minus.ensures.parts ∙ sym (number_of-above text (sym c.if-has_minus.ensures.is)) ∙ ap number_of c.as_bytes-bytes.ensures.value
