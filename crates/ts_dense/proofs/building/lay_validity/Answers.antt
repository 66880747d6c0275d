-- The marks are those of the slots.
use Rattle.std.proofs.lemmas.Result.{on_ok_weaker}
use Rattle.ts_dense.proofs.SlotLays.{validity_laid}
use Rattle.ts_dense.proofs.building.lay_validity.Goals as goal

pub returns : goal.returns
returns c =
    on_ok_weaker c.lay.result
    (λ push. validity_laid c.args.laid.now c.lay.new.self c.args.place c.args.nullable c.args.slots.now c.in_ok-bytes.bytes c.if-not-nullable.false c.in_ok-bytes.ensures push) c.lay.ensures
