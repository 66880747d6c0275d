-- All places are kept at first, and those that match are left.
use Rattle.std.proofs.Common.{rules, ap, ◌∙◌}
use Rattle.std.proofs.lemmas.List.{take_at}
use Rattle.ts_cond.specs.Holds.{holds}
use Rattle.ts_cond.specs.Picks.{picked_value}
use Rattle.ts_cond.specs.Views.{test_of}
use Rattle.ts_table.specs.Tables.{version_or}
use Rattle.ts_match.specs.declared.keeping.View.{View}
use Rattle.ts_match.specs.Matching.{matches_at}
use Rattle.ts_match.specs.Keeping.{holds_at, value_at}
use Rattle.ts_match.proofs.Kept.{kept_list}
use Rattle.ts_match.proofs.keeping.matches_all.Goals as goal

pub returns : goal.returns
unfolding value_at
returns c =
    let versions = c.args.cells.now in
    let view : View = record { picks = c.as_slice.result; fields = c.as_slice-2.result; cells = c.args.cells } in
    let is = kept_list (holds_at view (test_of c.condition.inside.root)) (matches_at c.args.picks.now c.args.condition.now) versions _ c.keep.new.kept (search rules) (λ i within. (λ k. holds (picked_value (c.as_slice.ensures k) (c.as_slice-2.ensures k) (version_or versions i).coords (version_or versions i).row) (test_of c.condition.inside.root)) ∙ ap (λ condition. matches_at c.args.picks.now condition (version_or versions i)) c.condition.view_is) c.in_ok-keep.ensures in
    take_at c.keep.new.kept _ c.in_ok-kept.kept.len (search rules) ∙ is
