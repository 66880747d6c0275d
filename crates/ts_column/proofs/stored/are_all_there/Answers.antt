-- All values are there.
use Rattle.std.proofs.Common.{◌≡◌, length, sym, ◌∙◌, rules}
use Rattle.ts_column.specs.Stored.{stored_vals}
use Rattle.ts_column.proofs.StoredLaws.{all_marked}
use Rattle.ts_column.proofs.stored.are_all_there.Goals as goal

pub returns : goal.returns
returns c ones =
    let long : length c.args.marks.now ≡ length (stored_vals c.args.stored.now) = search rules in
    all_marked c.args.stored.now c.args.marks.now long (sym c.are_ones.ensures ∙ ones)
