-- The integers are those of the slots.
use Rattle.std.proofs.lemmas.Result.{on_ok_weaker}
use Rattle.ts_dense.proofs.SlotLays.{numbers_laid}
use Rattle.ts_dense.proofs.building.lay_numbers.Goals as goal

pub returns : goal.returns
returns c =
    on_ok_weaker c.lay.result (λ push. numbers_laid c.args.laid.now c.lay.new.self c.args.place c.args.attr.now c.args.slots.now c.in_ok-bytes.bytes c.in_ok-bytes.ensures push)
    c.lay.ensures
