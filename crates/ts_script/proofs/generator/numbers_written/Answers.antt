use Rattle.ts_script.proofs.Generating.{writes_fit}
use Rattle.ts_script.proofs.generator.numbers_written.Goals as goal

pub returns-clause-fit : goal.returns-clause-fit
returns-clause-fit c =
    rw (c.from_vec.ensures, c.in_ok-vec.ensures.items, c.new.ensures, c.column_of-v.ensures, c.column_of-x.ensures, c.in_ok-values_from.ensures, c.in_ok-places_from.ensures)
    (writes_fit c.args.first c.args.count c.requires.some.0 c.requires.some.1 c.requires.few)
