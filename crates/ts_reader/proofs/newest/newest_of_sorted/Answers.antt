-- Versions that ascend are the newest ones, and else these are found among them.
use Rattle.std.proofs.Common.{int_cmp, sym, subst}
use Rattle.std.specs.Cmp.Lexicographic.{slice_cmp}
use Rattle.std.specs.List.Sorted.{IsStrictlySortedBy}
use Rattle.ts_base.specs.declared.heads.Version.{Version}
use Rattle.ts_reader.proofs.Ordered.{newest_of_ascending}
use Rattle.ts_reader.proofs.newest.newest_of_sorted.Goals as goal

pub returns-then-ascend : goal.returns-then-ascend
returns-then-ascend c =
    let up = subst (IsStrictlySortedBy (λ (a b : Version). slice_cmp int_cmp a.coords b.coords)) c.as_slice.ensures (c.ascend.ensures.0 c.if-ascend.true) in
    sym (newest_of_ascending c.args.versions up)
