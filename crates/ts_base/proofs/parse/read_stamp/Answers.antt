use Rattle.ts_base.proofs.Reading.{stamp_read}
use Rattle.ts_base.proofs.parse.read_stamp.Goals as goal

pub returns : goal.returns
returns c = λ key fits is.
    let pieces = stamp_read key _ _ _ _ _ _ fits is c.cut.ensures.after c.cut-2.ensures.after c.cut-3.ensures.before c.cut-3.ensures.after c.cut-4.ensures.after in
    λ i. record { t = c.read_number.ensures key.t fits.t pieces.0 i; id = c.read_id.ensures key.id fits.id pieces.1 i }
