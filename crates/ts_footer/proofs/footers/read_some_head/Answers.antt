use Rattle.std.proofs.Common.{List, ℕ, subst}
use Rattle.ts_wire.specs.Exact.{IsBytes}
use Rattle.ts_footer.specs.Tilings.{full_in}
use Rattle.ts_footer.proofs.FooterReads.{head_some}
use Rattle.ts_footer.proofs.footers.read_some_head.Goals as goal

pub returns-clause-some : goal.returns-clause-some
returns-clause-some c =
    head_some (full_in c.args.tiling c.args.frame.now.dense) c.args.frame.now c.args.frag c.args.cursor.now c.read_laid_fields.new.cursor c.in_ok-head.head
    (subst (λ (bytes : List ℕ). IsBytes bytes) c.rest.ensures c.are_bytes.ensures) c.in_ok-head.ensures.reads
