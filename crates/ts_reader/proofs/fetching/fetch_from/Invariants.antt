use Rattle.std.proofs.Common.{◌≡◌, ◌≤◌, drop}
use Rattle.ts_actor.specs.PieceLaws.{AreInBox}
use Rattle.ts_model.specs.States.{fetching}
use Rattle.ts_reader.proofs.fetching.fetch_from.Given as goal

-- the read goes on as it would from here, with the versions so far, which lie in its box
abbrev pub invariant-loop-place : goal.invariant-loop-place
invariant-loop-place g l = record {
  within : l.initial.place ≤ l.place;
  goes_on : fetching g.P.Pieces.codec l.gathered.reading l.gathered.opened l.gathered.schemas l.initial.place (drop l.initial.place l.gathered.opened) l.initial.got
      ≡ fetching g.P.Pieces.codec l.gathered.reading l.gathered.opened l.gathered.schemas l.place (drop l.place l.gathered.opened) l.got;
  inside : AreInBox (l.gathered.reading.ready).sub l.got;
}
