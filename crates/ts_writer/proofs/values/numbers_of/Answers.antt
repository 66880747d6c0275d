use Rattle.std.proofs.Common.{◌≡◌, ap, ◌∙◌, cond, true, false, Some, None, rules}
use Rattle.ts_table.specs.Columns.{val_seen}
use Rattle.ts_model.specs.Commands.{coordinate}
use Rattle.ts_writer.proofs.Said.{added_more, added_none}
use Rattle.ts_writer.proofs.values.numbers_of.Goals as goal

pub returns-then-not-branch : goal.returns-then-not-branch
returns-then-not-branch c =
    let fails : c.in_ok-add_number.field-0 ≡ false = search rules in
    added_none coordinate c.args.vals.now c.loop-place.place _ (val_seen c.at.result) c.loop-place.numbers c.at.ensures
    (c.in_ok-add_number.ensures ∙ ap (λ b. cond b (Some c.add_number.new.numbers) None) fails) c.loop-place.invariant

pub loop-place-preserved : goal.loop-place-preserved
loop-place-preserved c =
    let is : c.in_ok-add_number.field-0 ≡ true = search rules in
    added_more coordinate c.args.vals.now c.loop-place.place _ (val_seen c.at.result) c.loop-place.numbers c.add_number.new.numbers c.at.ensures
    (c.in_ok-add_number.ensures ∙ ap (λ b. cond b (Some c.add_number.new.numbers) None) is) c.loop-place.invariant
