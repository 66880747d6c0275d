use Rattle.std.proofs.Common.{◌≡◌, sym}
use Rattle.ts_order.proofs.OrderedCoords.{slice_get-place_of}
use Rattle.ts_gather.specs.Parts.{place_in}
use Rattle.ts_writer.proofs.spots.spot_of.Goals as goal

pub returns : goal.returns
returns c =
    let layout = c.args.layout in
    let sub = c.args.sub.now in
    let at = c.args.at.now in
    let same : c.position_of.result ≡ place_in layout sub at = sym (c.position_of.ensures.only (place_in layout sub at) (slice_get-place_of layout sub at c.requires.inside)) in
    λ i. record { batch = 0; place = same i }
