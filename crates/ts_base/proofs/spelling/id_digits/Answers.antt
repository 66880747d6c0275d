use Rattle.std.proofs.Common.{◌≡◌, ◌∙◌, ap, sym, length, IsAscii, subst}
use Rattle.uuid.specs.Text.{simple_text, lower}
use Rattle.ts_base.specs.Spelling.{id_text}
use Rattle.ts_base.proofs.Ids.{length_of_id, ascii_id}
use Rattle.ts_base.proofs.spelling.id_digits.Goals as goal

pub returns : goal.returns
returns c =
    let is : c.encode_lower.result.now ≡ id_text c.args.id = c.encode_lower.ensures.text ∙ ap (simple_text lower) (c.simple.ensures ∙ c.from_u128.ensures) in
    record { text = is; len = ap length is ∙ length_of_id c.args.id; ascii = subst IsAscii (sym is) (ascii_id c.args.id) }
