-- The part is that of the cells that both have.
use Rattle.std.proofs.Common.{rules, arith, ◌≡◌, length}
use Rattle.ts_domain.specs.declared.boxes.SubBox.{SubBox}
use Rattle.ts_domain.proofs.Between.{length-are_bounds}
use Rattle.ts_gather.proofs.SharedLaws.{shared_uneven, shared_is, shared_none}
use Rattle.ts_gather.proofs.shared.shared_part.Goals.{then-len-count-via-then-len-count, then-len-count-via-else-len-count+then-len-count-2}
use Rattle.ts_gather.proofs.shared.shared_part.Goals as goal

pub returns-then-len-count-clause-none : goal.returns-then-len-count-clause-none
returns-then-len-count-clause-none c =
    λ order. shared_uneven c.args.a.now c.args.b.now c.requires order
    (λ lows highs.
    elim c.then-len-count.branch [
      | then-len-count-via-then-len-count w ↦ w.if-len-count.true (omega (arith, lows, c.len-count.ensures.count, c.len.ensures.count))
      | then-len-count-via-else-len-count+then-len-count-2 w ↦ w.if-len-count-2.true (omega (arith, highs, c.len-count.ensures.count, w.len-else-len-count.ensures.count))
    ])

pub least_corner-requires : goal.least_corner-requires
least_corner-requires c = omega (arith, length-are_bounds c.args.a.now.low c.args.a.now.high c.requires, c.if-len-count-2.false, c.len-count.ensures.count, c.len-else-len-count.ensures.count)

pub returns-then-contains-clause-some : goal.returns-then-contains-clause-some
returns-then-contains-clause-some c =
    let part : SubBox = record { low = c.greatest_corner.result; high = c.least_corner.result } in
    let lows : length c.args.b.now.low ≡ length c.args.a.now.low = omega (arith, c.if-len-count.false, c.len-count.ensures.count, c.len.ensures.count) in
    let highs : length c.args.b.now.high ≡ length c.args.a.now.low = omega (arith, c.if-len-count-2.false, c.len-count.ensures.count, c.len-else-len-count.ensures.count) in
    shared_is c.args.a.now c.args.b.now c.requires part lows highs c.greatest_corner.ensures c.least_corner.ensures (search rules)

pub returns-else-contains-clause-none : goal.returns-else-contains-clause-none
returns-else-contains-clause-none c =
    let part : SubBox = record { low = c.greatest_corner.result; high = c.least_corner.result } in
    let lows : length c.args.b.now.low ≡ length c.args.a.now.low = omega (arith, c.if-len-count.false, c.len-count.ensures.count, c.len.ensures.count) in
    let highs : length c.args.b.now.high ≡ length c.args.a.now.low = omega (arith, c.if-len-count-2.false, c.len-count.ensures.count, c.len-else-len-count.ensures.count) in
    λ order. shared_none c.args.a.now c.args.b.now c.requires part lows highs c.greatest_corner.ensures c.least_corner.ensures order (search rules)
