use Rattle.std.proofs.Common.{◌≡◌, ap, ◌∙◌, cond, true, false, Some, None, rules}
use Rattle.ts_table.specs.Columns.{val_seen}
use Rattle.ts_model.specs.Commands.{value_of}
use Rattle.ts_writer.proofs.Said.{added_more, added_none}
use Rattle.ts_writer.proofs.values.values_of.Goals as goal

pub returns-then-not-branch : goal.returns-then-not-branch
returns-then-not-branch c =
    let fails : c.in_ok-add_value.field-0 ≡ false = search rules in
    added_none (value_of c.args.attr.now) c.args.vals.now c.loop-place.place _ (val_seen c.at.result) c.loop-place.found c.at.ensures
    (c.in_ok-add_value.ensures ∙ ap (λ b. cond b (Some c.add_value.new.found) None) fails) c.loop-place.invariant

pub loop-place-preserved : goal.loop-place-preserved
loop-place-preserved c =
    let fits : c.in_ok-add_value.field-0 ≡ true = search rules in
    added_more (value_of c.args.attr.now) c.args.vals.now c.loop-place.place _ (val_seen c.at.result) c.loop-place.found c.add_value.new.found c.at.ensures
    (c.in_ok-add_value.ensures ∙ ap (λ b. cond b (Some c.add_value.new.found) None) fits) c.loop-place.invariant
