-- The origins are those of the slots.
use Rattle.std.proofs.lemmas.Result.{on_ok_weaker}
use Rattle.ts_dense.proofs.SlotLays.{origins_laid}
use Rattle.ts_dense.proofs.building.lay_origins.Goals as goal

pub returns : goal.returns
returns c =
    on_ok_weaker c.lay.result
    (λ push. origins_laid c.args.laid.now c.lay.new.self c.args.consolidated c.args.slots.now c.in_ok-bytes.bytes c.if-not-consolidated.false c.in_ok-bytes.ensures push) c.lay.ensures
