use Rattle.std.proofs.Common.{sym, ap, ◌∙◌, nat_lt}
use Rattle.ts_cond.proofs.Outer.{inside_by_count}
use Rattle.ts_cond.proofs.machine.is_inside.Goals as goal

pub returns : goal.returns
returns c = ap (nat_lt 0) c.len.ensures ∙ sym (inside_by_count c.args.state.now.outer)
