-- Where two neighbours stand at one cell two versions do, and else the places are those of global order.
use Rattle.std.proofs.Common.{◌<◌, length, subst, sym}
use Rattle.std.specs.List.{All}
use Rattle.ts_writer.specs.Tables.{AreApart, HasNeighbours}
use Rattle.ts_writer.proofs.Globals.{global_from, places_within, twins_of}
use Rattle.ts_writer.proofs.places.global_places.Goals as goal

pub have_twins-requires : goal.have_twins-requires
have_twins-requires c = subst (All (λ place. place < length c.args.table.now)) (sym c.as_slice.ensures) (places_within (length c.args.table.now) c.in_ok-places.places c.in_ok-places.ensures.each)

pub returns-then-have_twins : goal.returns-then-have_twins
returns-then-have_twins c =
    let near = subst (HasNeighbours c.args.table.now) c.as_slice.ensures (c.have_twins.ensures.twins c.if-have_twins.true) in
    record { some = tt; none = twins_of c.args.table.now c.in_ok-places.places c.in_ok-places.ensures.each near }

pub returns : goal.returns
returns c =
    let apart = subst (λ places. AreApart c.args.table.now places (length places)) c.as_slice.ensures (c.have_twins.ensures.apart c.if-have_twins.false) in
    record { some = global_from c.args.frame.now c.args.table.now c.in_ok-places.places c.in_ok-places.ensures apart; none = tt }
