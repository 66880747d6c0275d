-- One rank more.
use Rattle.std.proofs.Common.{rules, ◌≡◌, ℕ, ◌<◌, ◌/◌, ◌++◌, ◌∷◌, [], length, get_or, pos, sym, ap, ◌∙◌, arith}
use Rattle.ts_domain.specs.Bounds.{count_between, numbers_from}
use Rattle.ts_domain.proofs.Between.{length-are_bounds}
use Rattle.ts_order.specs.Orders.{turned, dim_at}
use Rattle.ts_order.proofs.OrderLemmas.{length-turned, get_or-turned}
use Rattle.ts_order.proofs.TurnedLemmas.{are_bounds-turned, cells_between-turned}
use Rattle.ts_gather.specs.Sides.{stretched, repeated}
use Rattle.ts_gather.proofs.SideLaws.{ranking_none, ranking_more, times_few}
use Rattle.ts_gather.proofs.sides.ranked_columns.Goals as goal

pub loop-rank-init : goal.loop-rank-init
loop-rank-init c =
    let a = c.args in
    let same = length-are_bounds a.low.now a.high.now c.requires.valid in
    ranking_none (turned a.order a.low.now) (turned a.order a.high.now) c.new-columns.result.items a.cells c.new-columns.ensures.items (c.requires.count ∙ sym (cells_between-turned a.order a.low.now a.high.now same))

pub overflow_mul-times : goal.overflow_mul-times
overflow_mul-times c =
    let a = c.args in
    let l = c.loop-rank in
    let low = c.args.low.now in
    let high = c.args.high.now in
    let same = length-are_bounds low high c.requires.valid in
    let ls = turned a.order low in
    let hs = turned a.order high in
    let even : length (turned c.args.order c.args.high.now) ≡ length (turned c.args.order c.args.low.now) = length-turned a.order high ∙ same ∙ sym (length-turned a.order low) in
    let within : c.loop-rank.rank < length c.args.low.now = search rules in
    let inside : c.loop-rank.rank < length (turned c.args.order c.args.low.now) = omega (arith, within, length-turned a.order low) in
    let low_is = ap (λ (d : ℕ). get_or low d (pos 0)) c.rank_dim-dim.ensures.value ∙ sym (get_or-turned a.order low l.rank (pos 0) within) in
    let high_is = ap (λ (d : ℕ). get_or high d (pos 0)) (c.rank_dim-dim.ensures.value ∙ ap (λ (n : ℕ). dim_at a.order n l.rank) (sym same)) ∙ sym (get_or-turned a.order high l.rank (pos 0) (omega (arith, within, same))) in
    let side : c.side_at-side.result ≡ count_between (get_or ls l.rank (pos 0)) (get_or hs l.rank (pos 0)) = c.side_at-side.ensures.value ∙ (λ j. count_between (low_is j) (high_is j)) in
    let few = times_few ls hs l.columns.items l.rest l.times l.rank c.side_at-side.result l.invariant even inside side c.side_at-side.ensures.some a.cells (are_bounds-turned a.order low high c.requires.valid)
    (c.requires.count ∙ sym (cells_between-turned a.order low high same)) in
    record { fits = omega (arith, few) }

pub loop-rank-preserved : goal.loop-rank-preserved
loop-rank-preserved c =
    let a = c.args in
    let l = c.loop-rank in
    let low = c.args.low.now in
    let high = c.args.high.now in
    let same = length-are_bounds low high c.requires.valid in
    let ls = turned a.order low in
    let hs = turned a.order high in
    let even : length (turned c.args.order c.args.high.now) ≡ length (turned c.args.order c.args.low.now) = length-turned a.order high ∙ same ∙ sym (length-turned a.order low) in
    let within : c.loop-rank.rank < length c.args.low.now = search rules in
    let inside : c.loop-rank.rank < length (turned c.args.order c.args.low.now) = omega (arith, within, length-turned a.order low) in
    let low_is = ap (λ (d : ℕ). get_or low d (pos 0)) c.rank_dim-dim.ensures.value ∙ sym (get_or-turned a.order low l.rank (pos 0) within) in
    let high_is = ap (λ (d : ℕ). get_or high d (pos 0)) (c.rank_dim-dim.ensures.value ∙ ap (λ (n : ℕ). dim_at a.order n l.rank) (sym same)) ∙ sym (get_or-turned a.order high l.rank (pos 0) (omega (arith, within, same))) in
    let side : c.side_at-side.result ≡ count_between (get_or ls l.rank (pos 0)) (get_or hs l.rank (pos 0)) = c.side_at-side.ensures.value ∙ (λ j. count_between (low_is j) (high_is j)) in
    let push : c.push.new.self.items ≡ c.loop-rank.columns.items ++ c.in_ok-column_along.field-0 ∷ [] = search rules in
    ranking_more ls hs l.columns.items l.rest l.times l.rank c.side_at-side.result l.invariant even inside side c.side_at-side.ensures.some c.push.new.self.items c.in_ok-column_along.field-0
    (c.in_ok-column_along.ensures ∙ (λ j. repeated l.times (stretched (l.rest / c.side_at-side.result) (numbers_from (low_is j) (count_between (low_is j) (high_is j)))))) push
