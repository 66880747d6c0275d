use Rattle.std.proofs.Common.{◌∙◌, sym}
use Rattle.ts_domain.proofs.Between.{length-are_bounds}
use Rattle.ts_domain.proofs.BoxLemmas.{IsBox-hull_of, IsHullOf-hull_of}
use Rattle.ts_domain.proofs.boxes.SubBox.hull.Goals as goal

pub greatest_corner-requires : goal.greatest_corner-requires
greatest_corner-requires c =
    let this = c.args.self.now in
    let that = c.args.other.now in
    length-are_bounds that.low that.high c.requires.that ∙ c.requires.dims ∙ sym (length-are_bounds this.low this.high c.requires.this)

pub returns-clause-valid : goal.returns-clause-valid
returns-clause-valid c =
    rw (c.least_corner.ensures, c.greatest_corner.ensures) (IsBox-hull_of c.args.self.now c.args.other.now c.requires.this c.requires.that c.requires.dims)

pub returns-clause-least : goal.returns-clause-least
returns-clause-least c =
    rw (c.least_corner.ensures, c.greatest_corner.ensures) (IsHullOf-hull_of c.args.self.now c.args.other.now c.requires.this c.requires.that c.requires.dims)
