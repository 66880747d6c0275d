-- The cells of a run follow one another in both boxes.
use Rattle.std.proofs.Common.{arith, ◌<◌, ◌≤◌, ◌/◌, get_or, length, ap, ◌∙◌}
use Rattle.ts_domain.specs.Boxes.{cells_of}
use Rattle.ts_gather.proofs.PartLaws.{fewer, run_fits, runs_all, runs_joined, starts_at, starts_many}
use Rattle.ts_gather.proofs.parts.part_over.Goals as goal

pub run_in-run-requires-clause-few : goal.run_in-run-requires-clause-few
run_in-run-requires-clause-few c = let less = fewer c.args.order c.args.outer.now c.args.inner.now c.requires.valid c.requires.within in omega (arith, less, c.requires.few)

pub append_part-requires : goal.append_part-requires
append_part-requires c =
    let a = c.args in
    let run = c.run_in-run in
    let row = c.loop-from.from-index in
    let starts = c.as_slice-from-items.result.now in
    let are = c.as_slice-from-items.ensures.value ∙ c.in_ok-starts.ensures in
    let there : c.loop-from.from-index < length c.as_slice-from-items.result.now = omega (arith, c.loop-from-test.true, c.loop-from.auto.from-index-end) in
    let within : c.loop-from.from-index < cells_of c.args.inner.now / c.run_in-run.result =
    omega (arith, there, starts_many a.order a.outer.now a.inner.now c.requires.valid c.requires.within run.ensures.dims starts are, ap (λ m. cells_of a.inner.now / m) run.ensures.value) in
    omega (
      arith,
      c.requires.long,
      run_fits a.order a.outer.now a.inner.now c.requires.valid c.requires.within run.ensures.dims run.result row (get_or starts row 0) run.ensures.value run.ensures.some within (starts_at a.order a.outer.now a.inner.now c.requires.valid c.requires.within run.ensures.dims starts row 0 are there),
    )

pub returns : goal.returns
returns c =
    let a = c.args in
    let run = c.run_in-run in
    let row = c.loop-from.from-index in
    let starts = c.as_slice-from-items.result.now in
    let are = c.as_slice-from-items.ensures.value ∙ c.in_ok-starts.ensures in
    let many = starts_many a.order a.outer.now a.inner.now c.requires.valid c.requires.within run.ensures.dims starts are in
    let over : length c.as_slice-from-items.result.now ≤ c.loop-from.from-index = omega (arith, c.loop-from-test.false) in
    let most : c.loop-from.from-index ≤ length c.as_slice-from-items.result.now = omega (arith, c.loop-from.auto.from-index-end) in
    let all : cells_of c.args.inner.now / c.run_in-run.result ≤ c.loop-from.from-index = omega (arith, over, many, ap (λ m. cells_of a.inner.now / m) run.ensures.value) in
    runs_all a.order a.outer.now a.inner.now c.requires.valid c.requires.within run.ensures.dims run.result row a.column.now c.loop-from.part run.ensures.value run.ensures.some all
    (c.loop-from.invariant ∙ runs_joined a.order a.outer.now a.inner.now c.requires.valid c.requires.within run.ensures.dims run.result starts a.column.now run.ensures.value run.ensures.some are c.requires.long row most)
