-- The answers by the places of the tiles are those of the tiles in turn.
use Rattle.std.proofs.Common.{◌≡◌, ℕ, ◌<◌, ◌-◌, ◌∙◌, List, length, ap, subst, arith}
use Rattle.std.specs.List.{AllZip, range_with_len}
use Rattle.rayon.specs.Numbers.{nat_range}
use Rattle.rayon.proofs.ToStd.{nat_range-All}
use Rattle.ts_column.proofs.Gathering.{AnswersAt, by_place, gathered_all}
use Rattle.ts_column.proofs.parallel.decode_all.Goals as goal

pub collect-decoded-requires-clause-ready : goal.collect-decoded-requires-clause-ready
collect-decoded-requires-clause-ready g c κs within =
    let ends = c.into_par_iter.ensures in
    let inside = nat_range-All (λ i. (i < length c.args.tiles.now) × (i < length c.args.counts.now)) 0 (length c.args.tiles.now)
    (λ i low high. (high, omega (arith, c.requires))) in
    rw (c.map.ensures.base, c.map.ensures.f, c.with_min_len.ensures.base, ends.0, ends.1) (λ k d lt. (inside k d lt, λ y p. tt))

pub returns-in-Ok : goal.returns-in-Ok
returns-in-Ok g c =
    let ends = c.into_par_iter.ensures in
    let h = c.in-Ok.ensures in
    let chain = rw (c.map.ensures.base, c.map.ensures.f, c.with_min_len.ensures.base) at h.1 in
    let n = length c.args.tiles.now in
    let whole : n - 0 ≡ n = omega arith in
    let places = chain.1 ∙ (λ i. nat_range (ends.0 i) (ends.1 i)) ∙ ap (range_with_len 0) whole in
    let counts = c.args.counts.now in
    let tiles = c.args.tiles.now in
    let answers = by_place c.args.ty c.args.nullable counts tiles n 0 h.0 (omega (arith, c.requires)) c.requires (subst (λ (ys : List ℕ). AllZip (AnswersAt c.args.ty c.args.nullable counts tiles) ys h.0) places chain.2) in
    gathered_all c.args.ty c.args.nullable counts tiles h.0 _ answers (rw h.2 at c.gathered.ensures)
