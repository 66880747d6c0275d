use Rattle.ts_base.proofs.Reading.{frag_read}
use Rattle.ts_base.proofs.parse.read_frag.Goals as goal

pub returns : goal.returns
returns c = λ frag fits is.
    let pieces = frag_read frag _ _ _ _ _ _ _ _ _ fits is c.cut.ensures.after c.cut-2.ensures.after c.cut-3.ensures.before c.cut-3.ensures.after c.cut-4.ensures.before c.cut-4.ensures.after c.cut-5.ensures.before c.cut-5.ensures.after in
    λ i. record {
      t1 = c.read_number.ensures frag.t1 fits.t1 pieces.0 i;
      t2 = c.read_number-2.ensures frag.t2 fits.t2 pieces.1 i;
      id = c.read_id.ensures frag.id fits.id pieces.2 i;
      v = c.read_index.ensures frag.v fits.v pieces.3 i;
    }
