-- One place more.
use Rattle.std.proofs.Common.{ap, ◌∙◌, ◌&&◌, ◌<◌, arith, false, get_or, pos, length}
use Rattle.ts_base.specs.declared.values.Val.TheVariants.{Int}
use Rattle.ts_cond.specs.Holds.{compares}
use Rattle.ts_match.proofs.Kept.{kept_next}
use Rattle.ts_match.proofs.comparing.keep_short.Goals as goal

pub loop-place-preserved : goal.loop-place-preserved
loop-place-preserved c =
    let l = c.loop-place in
    let within : c.loop-place.place < length c.args.kept.now = omega (arith, c.loop-place-test.true) in
    let found = c.is_short_found-found.ensures in
    kept_next (λ i. compares c.args.op (Int (get_or c.args.numbers.now i (pos 0))) (Int c.args.bound.now)) c.args.kept.now l.kept l.place _ within l.invariant
    (c.both.ensures ∙ ap (λ b. get_or l.kept l.place false && b) (found.found ∙ c.short_sides-sides.ensures _ found.fits))
