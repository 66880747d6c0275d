-- Block after block, all runs of the box.
use Rattle.std.proofs.Common.{arith, ◌≡◌, ◌+◌, ◌-◌, ◌*◌, ◌/◌, ◌<◌, ◌++◌, map, subst, sym, ap, ◌∙◌}
use Rattle.std.specs.List.{range_with_len}
use Rattle.ts_domain.specs.Boxes.{cells_of}
use Rattle.ts_gather.specs.Parts.{run_in}
use Rattle.ts_gather.proofs.PartLaws.{fewer, outer_valid, begin_of, begin_found, blocks_all, block_begins, block_ends, block_more}
use Rattle.ts_gather.proofs.starts.run_starts.Goals as goal

pub run_in-run-requires-clause-few : goal.run_in-run-requires-clause-few
run_in-run-requires-clause-few c = let less = fewer c.args.order c.args.outer.now c.args.inner.now c.requires.valid c.requires.within in omega (arith, less, c.requires.few)

pub rows_in-rows-requires-clause-few : goal.rows_in-rows-requires-clause-few
rows_in-rows-requires-clause-few c = let less = fewer c.args.order c.args.outer.now c.args.inner.now c.requires.valid c.requires.within in omega (arith, less, c.requires.few)

pub run_in-apart-requires-clause-valid : goal.run_in-apart-requires-clause-valid
run_in-apart-requires-clause-valid c = outer_valid c.args.order c.args.outer.now c.args.inner.now c.requires.valid c.requires.within

pub overflow_mul-block-in-loop-block : goal.overflow_mul-block-in-loop-block
overflow_mul-block-in-loop-block c =
    let a = c.args in
    let run = c.run_in-run in
    let rows = c.rows_in-rows in
    let less = fewer a.order a.outer.now a.inner.now c.requires.valid c.requires.within in
    let cells : c.cells.result ≡ cells_of c.args.inner.now = omega (arith, c.cells.ensures.capped, less, c.requires.few) in
    let blocks = ap (λ n. n / run.result / rows.result) cells ∙ ap (λ m. cells_of a.inner.now / m / rows.result) run.ensures.value in
    let within : c.loop-block.block < cells_of c.args.inner.now / run_in c.args.order c.args.inner.now / c.rows_in-rows.result = omega (arith, c.loop-block-test.true, blocks) in
    let filled : 0 < run_in c.args.order c.args.inner.now = omega (arith, run.ensures.some, run.ensures.value) in
    let below = subst (λ n. c.loop-block.block * rows.result * n < cells_of a.inner.now) (sym run.ensures.value)
    (block_begins a.order a.outer.now a.inner.now c.requires.valid c.requires.within run.ensures.dims rows.result rows.ensures.one rows.ensures.more rows.ensures.some filled c.loop-block.block within) in
    record { fits = omega (arith, below, less, c.requires.few) }

pub coords_at-first-requires-clause-few : goal.coords_at-first-requires-clause-few
coords_at-first-requires-clause-few c = let less = fewer c.args.order c.args.outer.now c.args.inner.now c.requires.valid c.requires.within in omega (arith, less, c.requires.few)

pub coords_at-first-requires-clause-below : goal.coords_at-first-requires-clause-below
coords_at-first-requires-clause-below c =
    let a = c.args in
    let run = c.run_in-run in
    let rows = c.rows_in-rows in
    let less = fewer a.order a.outer.now a.inner.now c.requires.valid c.requires.within in
    let cells : c.cells.result ≡ cells_of c.args.inner.now = omega (arith, c.cells.ensures.capped, less, c.requires.few) in
    let blocks = ap (λ n. n / run.result / rows.result) cells ∙ ap (λ m. cells_of a.inner.now / m / rows.result) run.ensures.value in
    let within : c.loop-block.block < cells_of c.args.inner.now / run_in c.args.order c.args.inner.now / c.rows_in-rows.result = omega (arith, c.loop-block-test.true, blocks) in
    let filled : 0 < run_in c.args.order c.args.inner.now = omega (arith, run.ensures.some, run.ensures.value) in
    subst (λ n. c.loop-block.block * rows.result * n < cells_of a.inner.now) (sym run.ensures.value)
    (block_begins a.order a.outer.now a.inner.now c.requires.valid c.requires.within run.ensures.dims rows.result rows.ensures.one rows.ensures.more rows.ensures.some filled c.loop-block.block within)

pub push_rows-requires : goal.push_rows-requires
push_rows-requires c =
    let a = c.args in
    let run = c.run_in-run in
    let rows = c.rows_in-rows in
    let less = fewer a.order a.outer.now a.inner.now c.requires.valid c.requires.within in
    let cells : c.cells.result ≡ cells_of c.args.inner.now = omega (arith, c.cells.ensures.capped, less, c.requires.few) in
    let blocks = ap (λ n. n / run.result / rows.result) cells ∙ ap (λ m. cells_of a.inner.now / m / rows.result) run.ensures.value in
    let within : c.loop-block.block < cells_of c.args.inner.now / run_in c.args.order c.args.inner.now / c.rows_in-rows.result = omega (arith, c.loop-block-test.true, blocks) in
    let filled : 0 < run_in c.args.order c.args.inner.now = omega (arith, run.ensures.some, run.ensures.value) in
    let begins = begin_found a.order a.outer.now a.inner.now c.requires.valid c.requires.within run.ensures.dims run.result (c.loop-block.block * rows.result) c.position_of.result c.coords_at-first.result run.ensures.value c.coords_at-first.ensures.place c.position_of.ensures.place in
    let ends = subst (λ n. begin_of a.order a.outer.now a.inner.now c.requires.valid c.requires.within run.ensures.dims (c.loop-block.block * rows.result) + (rows.result - 1) * n < cells_of a.outer.now) (sym c.run_in-apart.ensures.value)
    (block_ends a.order a.outer.now a.inner.now c.requires.valid c.requires.within run.ensures.dims rows.result rows.ensures.one rows.ensures.more rows.ensures.some filled c.loop-block.block within) in
    omega (arith, begins, ends, c.requires.few)

pub loop-block-preserved : goal.loop-block-preserved
loop-block-preserved c =
    let a = c.args in
    let run = c.run_in-run in
    let rows = c.rows_in-rows in
    let less = fewer a.order a.outer.now a.inner.now c.requires.valid c.requires.within in
    let cells : c.cells.result ≡ cells_of c.args.inner.now = omega (arith, c.cells.ensures.capped, less, c.requires.few) in
    let blocks = ap (λ n. n / run.result / rows.result) cells ∙ ap (λ m. cells_of a.inner.now / m / rows.result) run.ensures.value in
    let within : c.loop-block.block < cells_of c.args.inner.now / run_in c.args.order c.args.inner.now / c.rows_in-rows.result = omega (arith, c.loop-block-test.true, blocks) in
    let filled : 0 < run_in c.args.order c.args.inner.now = omega (arith, run.ensures.some, run.ensures.value) in
    let begins = begin_found a.order a.outer.now a.inner.now c.requires.valid c.requires.within run.ensures.dims run.result (c.loop-block.block * rows.result) c.position_of.result c.coords_at-first.result run.ensures.value c.coords_at-first.ensures.place c.position_of.ensures.place in
    let push = subst (λ n. c.push_rows.new.starts.items ≡ c.loop-block.starts.items ++ map (λ row. c.position_of.result + row * n) (range_with_len 0 rows.result)) c.run_in-apart.ensures.value c.in_ok-push_rows.ensures in
    block_more a.order a.outer.now a.inner.now c.requires.valid c.requires.within run.ensures.dims rows.result rows.ensures.one rows.ensures.more rows.ensures.some filled c.loop-block.block within
    c.loop-block.starts.items c.push_rows.new.starts.items c.position_of.result c.loop-block.invariant begins push

pub returns : goal.returns
returns c =
    let a = c.args in
    let run = c.run_in-run in
    let rows = c.rows_in-rows in
    let less = fewer a.order a.outer.now a.inner.now c.requires.valid c.requires.within in
    let cells : c.cells.result ≡ cells_of c.args.inner.now = omega (arith, c.cells.ensures.capped, less, c.requires.few) in
    let blocks = ap (λ n. n / run.result / rows.result) cells ∙ ap (λ m. cells_of a.inner.now / m / rows.result) run.ensures.value in
    let filled : 0 < run_in c.args.order c.args.inner.now = omega (arith, run.ensures.some, run.ensures.value) in
    let last : c.loop-block.block ≡ cells_of c.args.inner.now / run_in c.args.order c.args.inner.now / c.rows_in-rows.result = omega (arith, c.loop-block-test.false, c.loop-block.auto.block-end, blocks) in
    let all = blocks_all a.order a.outer.now a.inner.now c.requires.valid c.requires.within run.ensures.dims rows.result rows.ensures.one rows.ensures.more rows.ensures.some filled in
    c.loop-block.invariant ∙ ap (λ n. map (begin_of a.order a.outer.now a.inner.now c.requires.valid c.requires.within run.ensures.dims) (range_with_len 0 n)) (ap (λ b. b * rows.result) last ∙ all)
