use Rattle.ts_footer.proofs.Writes.{length_there, fixed_on, var_on}
use Rattle.ts_footer.proofs.writing.write_sizes.Goals as goal
use Rattle.ts_footer.proofs.writing.write_sizes.Goals.{in-Fixed, in-Var+in_ok-write_starts-in-Var}

pub at-requires : goal.at-requires
at-requires c = let l = c.loop-place in length_there c.args.forms.now c.args.lengths.now c.args.starts.now l.place l.next _ _ l.invariant c.loop-place-test.true

pub loop-place-preserved : goal.loop-place-preserved
loop-place-preserved c =
    let l = c.loop-place in
    elim c.match-forms-place.branch [
      | in-Fixed w ↦
          rw (w.scribe-is, w.next-is)
          (fixed_on c.args.forms.now c.args.lengths.now c.args.starts.now l.place l.next l.scribe _ _ _ _ c.at.result.now l.invariant c.loop-place-test.true w.in-Fixed.is c.at.ensures c.in_ok-u64.ensures.ok)
      | in-Var+in_ok-write_starts-in-Var w ↦
          rw (w.scribe-is, w.next-is)
          (var_on c.args.forms.now c.args.lengths.now c.args.starts.now l.place l.next l.scribe _ _ _ _ c.at.result.now w.at-in-Var.result.now l.invariant c.loop-place-test.true w.in-Var.is c.at.ensures w.at-in-Var.ensures c.in_ok-u64.ensures.ok w.in_ok-write_starts-in-Var.ensures)
    ]
