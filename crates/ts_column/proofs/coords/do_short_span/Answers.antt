-- None lies outside.
use Rattle.std.proofs.Common.{sym, ◌∙◌}
use Rattle.ts_column.proofs.CoordLaws.{all_span}
use Rattle.ts_column.proofs.coords.do_short_span.Goals as goal

pub returns : goal.returns
returns c within =
    all_span c.args.low.now c.args.high.now c.args.all.now (sym c.has_short_at_most.ensures ∙ c.if-not-has_short_at_most.false) (sym c.has_short_at_least.ensures ∙ c.if-not-has_short_at_least.false) (sym c.are_short_within.ensures ∙ within)
