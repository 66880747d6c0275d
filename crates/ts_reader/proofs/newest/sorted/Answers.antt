-- The sort is stable, so the newest versions stay the same.
use Rattle.std.proofs.Common.{int_cmp, ap, ◌∙◌, rules}
use Rattle.std.specs.Cmp.Lexicographic.{slice_cmp}
use Rattle.std.specs.Ordering.{is_lt}
use Rattle.std.proofs.lemmas.List.Sorted.{answers_always, ranks_by}
use Rattle.ts_base.specs.declared.heads.Version.{Version}
use Rattle.ts_model.specs.Pieces.{newest_of}
use Rattle.ts_model.proofs.Newest.{coords_total}
use Rattle.ts_reader.proofs.Ordered.{newest_of_sorted}
use Rattle.ts_reader.proofs.newest.sorted.Goals as goal

pub returns-clause-same : goal.returns-clause-same
returns-clause-same c =
    ap newest_of c.from_vec.ensures
    ∙ newest_of_sorted _ _
    (c.sort_by.ensures.stable (λ (a b : Version). is_lt (slice_cmp int_cmp a.coords b.coords)) (ranks_by coords_total (λ (v : Version). v.coords)) (answers_always _ _ _ (λ f a r f' k. ap is_lt (search rules))))
    ∙ ap newest_of c.into_vec-versions.ensures

pub returns-clause-order : goal.returns-clause-order
returns-clause-order c =
    rw c.from_vec.ensures
    (c.in_ok-sort_by.ensures.sorted (λ (a b : Version). is_lt (slice_cmp int_cmp a.coords b.coords)) (ranks_by coords_total (λ (v : Version). v.coords)) (answers_always _ _ _ (λ f a r f' k. ap is_lt (search rules))))
