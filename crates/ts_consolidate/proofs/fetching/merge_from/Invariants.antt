-- The consolidation goes on as it would from here, with what was got so far.
use Rattle.std.proofs.Common.{◌≡◌, ◌≤◌, drop, take}
use Rattle.ts_model.specs.States.{merging_from}
use Rattle.ts_consolidate.specs.Merges.{AreGot}
use Rattle.ts_consolidate.proofs.fetching.merge_from.Given as goal

abbrev pub invariant-loop-place : goal.invariant-loop-place
invariant-loop-place g l = record {
  within : l.initial.place ≤ l.place;
  goes_on : merging_from g.P.Pieces.codec l.job l.merged.survey l.merged.opened l.merged.schema l.initial.place (drop l.initial.place l.merged.opened) l.initial.got
      ≡ merging_from g.P.Pieces.codec l.job l.merged.survey l.merged.opened l.merged.schema l.place (drop l.place l.merged.opened) l.got;
  got : AreGot g.P.Pieces.codec l.merged.survey.frame l.merged.schema.attrs (take l.place l.merged.opened) l.got;
}
