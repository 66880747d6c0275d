-- All fields are there, and they are few.
use Rattle.std.proofs.Common.{arith, ◌≡◌, ◌≤◌, ◌++◌, ◌∙◌, ap, length, map}
use Rattle.std.proofs.lemmas.List.{take_all}
use Rattle.ts_model.specs.Queries.{attr_field, dim_fields, fields_in}
use Rattle.ts_model.proofs.Checked.{few_fields}
use Rattle.ts_model.proofs.fields.fields_in.Goals as goal

pub returns-clause-few : goal.returns-clause-few
returns-clause-few c =
    let attrs = c.args.schema.now.attrs in
    let past : length attrs ≤ c.loop-attr.attr-index = omega (arith, ap length c.as_slice-attr-items.ensures, c.loop-attr-test.false) in
    let whole : c.loop-attr.fields ≡ fields_in c.args.frame.now.domain attrs =
    c.loop-attr.invariant ∙ ap (λ xs. dim_fields 0 c.args.frame.now.domain ++ map attr_field xs) (take_all c.loop-attr.attr-index attrs past) in
    rw whole (few_fields c.args.frame.now attrs c.as_slice-dim-items.ensures.domain c.requires)
