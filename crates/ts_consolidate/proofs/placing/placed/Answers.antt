-- One version more takes its place.
use Rattle.std.proofs.Common.{◌∷◌, [], subst, ap, ◌∙◌}
use Rattle.std.specs.Prelude.{IsTrue, All}
use Rattle.std.proofs.lemmas.List.{map-append}
use Rattle.ts_base.specs.declared.heads.Version.{Version}
use Rattle.ts_domain.specs.Domains.{is_in_domain}
use Rattle.ts_piece.specs.Spots.{version_in, spotted, IsSpot}
use Rattle.ts_consolidate.proofs.Placed.{all_but_last, placed_next}
use Rattle.ts_consolidate.proofs.placing.placed.Goals as goal

pub loop-spot-preserved : goal.loop-spot-preserved
loop-spot-preserved c =
    let batches = c.args.batches.now in
    let inside = λ (version : Version). IsTrue (is_in_domain c.args.frame.now.domain version.coords) in
    let split = c.in-Some.ensures.items in
    record {
      there = (all_but_last (IsSpot batches) c.pop.new.self.items c.in-Some.spot (subst (All (IsSpot batches)) split c.loop-spot.invariant.there)).0;
      inside = (all_but_last inside (spotted batches c.pop.new.self.items) (version_in batches c.in-Some.spot)
          (subst (All inside) (ap (spotted batches) split ∙ map-append (version_in batches) c.pop.new.self.items (c.in-Some.spot ∷ [])) c.loop-spot.invariant.inside)).0;
      placed = placed_next c.args.frame.now batches c.loop-spot.spots.items c.pop.new.self.items c.in-Some.spot c.place_at-place.result c.loop-spot.placed.entries c.insert.new.self.entries _
          split c.place_at-place.ensures c.in_ok-insert.ensures.entries c.loop-spot.invariant.placed;
    }
