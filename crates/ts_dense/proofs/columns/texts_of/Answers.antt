-- Full slots have the byte lists of the versions.
use Rattle.std.proofs.Common.{map, sym, ap, ◌∙◌}
use Rattle.std.proofs.lemmas.Result.{IfOk-weaker}
use Rattle.ts_column.specs.Spelled.{text_of}
use Rattle.ts_dense.proofs.FullSlots.{full_values}
use Rattle.ts_dense.proofs.columns.texts_of.Goals as goal

pub returns-in-Full : goal.returns-in-Full
returns-in-Full c =
    IfOk-weaker c.texts_of.result _ _ (λ texts is. is ∙ ap (map text_of) (sym (full_values c.args.slots.now c.in-Full.is c.args.attr))) c.texts_of.ensures
