use Rattle.ts_model.proofs.Checked.{box_ordered}
use Rattle.ts_model.proofs.checking.box_of.Goals as goal

pub returns-clause-ordered : goal.returns-clause-ordered
returns-clause-ordered c = λ ordered.
    rw (c.low_corner.ensures, c.high_corner.ensures, c.as_slice.ensures.value, c.as_slice-2.ensures.value) (box_ordered c.args.named.now c.args.domain.now c.as_slice.ensures.sound ordered)
