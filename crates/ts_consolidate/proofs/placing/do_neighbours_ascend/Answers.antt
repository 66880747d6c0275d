-- One version more is behind the last one.
use Rattle.std.proofs.Common.{◌∙◌, sym, arith}
use Rattle.std.specs.Prelude.{IsTrue}
use Rattle.ts_base.specs.declared.heads.Version.{Version}
use Rattle.ts_domain.specs.Domains.{is_in_domain}
use Rattle.ts_consolidate.proofs.Neighbours.{all_at, last_next, up_next}
use Rattle.ts_consolidate.proofs.placing.do_neighbours_ascend.Goals as goal

pub place_at-place-requires-clause-inside : goal.place_at-place-requires-clause-inside
place_at-place-requires-clause-inside c =
    let inside = λ (version : Version). IsTrue (is_in_domain c.args.frame.now.domain version.coords) in
    all_at inside c.args.batches.now c.args.spots.now c.loop-next.next (record { batch = 0; place = 0 }) (omega arith) c.requires.inside

pub loop-next-preserved : goal.loop-next-preserved
loop-next-preserved c =
    let frame = c.args.frame.now in
    let batches = c.args.batches.now in
    let spots = c.args.spots.now in
    let next = c.loop-next.next in
    let place = c.place_at-place.result in
    record {
      last = last_next frame batches spots next (record { batch = 0; place = 0 }) (omega arith) (omega arith) place c.place_at-place.ensures;
      up = up_next frame batches spots next (record { batch = 0; place = 0 }) (omega arith) (omega arith) c.loop-next.last place c.loop-next.invariant.last c.place_at-place.ensures (sym c.cmp.ensures ∙ c.in-Less.is) c.loop-next.invariant.up;
    }
