use Rattle.std.proofs.Common.{◌∙◌, sym}
use Rattle.ts_base.proofs.ReadingNames.{commit_only, part_only, lease_only}
use Rattle.ts_base.proofs.parse.read_name.Goals as goal

pub returns-in-text-2 : goal.returns-in-text-2
returns-in-text-2 c = λ name fits is.
    commit_only name _ _ _ _ _ _ fits is (sym c.cut.ensures.before ∙ c.in-text-2.is) c.cut.ensures.after c.cut-in-text-2.ensures.before c.cut-in-text-2.ensures.after c.read_frag.ensures c.read_kind.ensures

pub returns-in-text-3 : goal.returns-in-text-3
returns-in-text-3 c = λ name fits is.
    part_only name _ _ _ _ _ _ fits is (sym c.cut.ensures.before ∙ c.in-text-3.is) c.cut.ensures.after c.cut-in-text-3.ensures.before c.cut-in-text-3.ensures.after c.read_frag-in-text-3.ensures c.read_part.ensures

pub returns-in-text-4 : goal.returns-in-text-4
returns-in-text-4 c = λ name fits is.
    lease_only name _ _ _ _ _ _ fits is (sym c.cut.ensures.before ∙ c.in-text-4.is) c.cut.ensures.after c.cut-in-text-4.ensures.before c.cut-in-text-4.ensures.after c.read_stamp-in-text-4.ensures c.read_mode.ensures
