-- Each place is counted on by the steps along the dimension.
use Rattle.std.proofs.Common.{arith, ◌≡◌, ◌∙◌, ap, sym, length}
use Rattle.std.proofs.lemmas.Option.{get_or_from_slice_get}
use Rattle.ts_order.specs.Orders.{dim_at}
use Rattle.ts_table.proofs.RankSteps.{side_few, can_count, placed_on, none_placed}
use Rattle.ts_table.proofs.ranks.count_on.Goals as goal

pub line_of-line-requires-clause-few : goal.line_of-line-requires-clause-few
line_of-line-requires-clause-few c =
    let dims = c.args.domain.now in
    let d = c.dim.result.now in
    side_few dims c.dim_at-dim.result d c.requires.sound c.requires.countable (omega arith) (sym (get_or_from_slice_get dims c.dim_at-dim.result d d c.dim.ensures.place))

pub count_along-requires : goal.count_along-requires
count_along-requires c =
    let dims = c.args.domain.now in
    let dim : c.dim_at-dim.result ≡ dim_at c.args.order (length dims) c.args.rank = c.dim_at-dim.ensures.value ∙ ap (λ n. dim_at c.args.order n c.args.rank) c.count.ensures.count in
    rw c.in-Some.ensures.some
    (can_count c.args.counted dims c.args.order c.args.table.now c.requires.sound c.requires.countable c.requires.inside c.args.rank c.dim_at-dim.result c.dim.result.now c.line_of-line.result c.requires.within dim c.dim.ensures.place
    c.line_of-line.ensures c.args.places.now c.requires.so_far)

pub returns-in-Some : goal.returns-in-Some
returns-in-Some c =
    let dims = c.args.domain.now in
    let dim : c.dim_at-dim.result ≡ dim_at c.args.order (length dims) c.args.rank = c.dim_at-dim.ensures.value ∙ ap (λ n. dim_at c.args.order n c.args.rank) c.count.ensures.count in
    placed_on c.args.counted dims c.args.order c.args.table.now c.requires.sound c.requires.countable c.requires.inside c.args.rank c.dim_at-dim.result c.dim.result.now c.line_of-line.result c.requires.within dim c.dim.ensures.place
    c.line_of-line.ensures c.args.places.now c.requires.so_far
    c.count_along.new.places (rw c.in-Some.ensures.some at c.count_along.ensures)

pub returns-in_default : goal.returns-in_default
returns-in_default c =
    let dims = c.args.domain.now in
    let dim : c.dim_at-dim.result ≡ dim_at c.args.order (length dims) c.args.rank = c.dim_at-dim.ensures.value ∙ ap (λ n. dim_at c.args.order n c.args.rank) c.count.ensures.count in
    none_placed c.args.counted dims c.args.order c.args.table.now c.requires.sound c.requires.countable c.requires.inside c.args.rank c.dim_at-dim.result c.dim.result.now c.line_of-line.result c.requires.within dim c.dim.ensures.place
    c.line_of-line.ensures c.args.places.now c.requires.so_far c.in_default.ensures.none
