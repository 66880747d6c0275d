-- One strip more has the next versions.
use Rattle.std.proofs.Common.{arith, ◌+◌, ◌*◌, ◌<◌, ◌≤◌, ◌/◌, ◌++◌, [], length, get_or, take, drop, sym, ap, ◌∙◌, refl}
use Rattle.std.specs.List.{flat_map}
use Rattle.std.proofs.lemmas.List.{length-map, take_all}
use Rattle.std.proofs.lemmas.List.Elements.{All-push}
use Rattle.ts_base.specs.declared.heads.Version.{Version}
use Rattle.ts_domain.specs.Boxes.{cells_of, coords_of_box}
use Rattle.ts_domain.specs.declared.orders.Order.TheVariants.{Row}
use Rattle.ts_domain.proofs.Between.{length-coords_between}
use Rattle.ts_gather.proofs.PartLaws.{run_cells, run_ends, runs_end, starts_at, starts_many}
use Rattle.ts_strip.specs.declared.strips.Strip.{Strip}
use Rattle.ts_strip.specs.Strips.{strip_versions, IsStrip}
use Rattle.ts_strip.proofs.StripLaws.{in_row_order, next_strip, versions_more}
use Rattle.ts_strip.proofs.strips.add_rows.Goals as goal

pub overflow_add-place : goal.overflow_add-place
overflow_add-place c =
    let a = c.args in
    let run = c.run_in-count in
    let row = c.loop-start.start-index in
    let starts = c.as_slice-start-items.result.now in
    let covers = c.does_cover.ensures.cells c.if-not-does_cover.false in
    let are = c.as_slice-start-items.ensures.value ∙ c.in_ok-starts.ensures in
    let there : c.loop-start.start-index < length c.as_slice-start-items.result.now = omega (arith, c.loop-start-test.true, c.loop-start.auto.start-index-end) in
    let within : c.loop-start.start-index < cells_of c.args.inner.now / c.run_in-count.result =
    omega (arith, there, starts_many Row a.sub.now a.inner.now c.requires.valid covers run.ensures.dims starts are, ap (λ m. cells_of a.inner.now / m) run.ensures.value) in
    let room = run_ends Row a.sub.now a.inner.now c.requires.valid covers run.ensures.dims run.result row 0 run.ensures.value run.ensures.some within in
    record { fits = omega (arith, room, c.loop-start.invariant.2, c.requires.few_inner) }

pub loop-start-preserved : goal.loop-start-preserved
loop-start-preserved c =
    let a = c.args in
    let batches = c.args.batches.now in
    let run = c.run_in-count in
    let row = c.loop-start.start-index in
    let place = c.loop-start.place in
    let starts = c.as_slice-start-items.result.now in
    let from = get_or starts row 0 in
    let covers = c.does_cover.ensures.cells c.if-not-does_cover.false in
    let are = c.as_slice-start-items.ensures.value ∙ c.in_ok-starts.ensures in
    let there : c.loop-start.start-index < length c.as_slice-start-items.result.now = omega (arith, c.loop-start-test.true, c.loop-start.auto.start-index-end) in
    let within : c.loop-start.start-index < cells_of c.args.inner.now / c.run_in-count.result =
    omega (arith, there, starts_many Row a.sub.now a.inner.now c.requires.valid covers run.ensures.dims starts are, ap (λ m. cells_of a.inner.now / m) run.ensures.value) in
    let ends = run_ends Row a.sub.now a.inner.now c.requires.valid covers run.ensures.dims run.result row from run.ensures.value run.ensures.some within in
    let room : c.loop-start.place + c.run_in-count.result ≤ cells_of c.args.inner.now = omega (arith, ends, c.loop-start.invariant.2) in
    let cells = run_cells Row a.sub.now a.inner.now c.requires.valid covers run.ensures.dims run.result row from run.ensures.value run.ensures.some within (starts_at Row a.sub.now a.inner.now c.requires.valid covers run.ensures.dims starts row 0 are there) in
    let same = ap (λ p. take run.result (drop p (coords_of_box a.inner.now))) c.loop-start.invariant.2
    ∙ ap (λ cs. take run.result (drop (row * run.result) cs)) (sym (in_row_order a.inner.now)) ∙ cells ∙ ap (λ cs. take run.result (drop from cs)) (in_row_order a.sub.now) in
    let strip = next_strip batches a.sub.now a.inner.now a.batch place run.result from c.requires.within c.requires.cells room same in
    let next : Strip = record { start = from; count = run.result; batch = a.batch; place = place } in
    rw c.in_ok-push.ensures.items (
      All-push (IsStrip batches (coords_of_box a.sub.now)) c.loop-start.strips.items next c.loop-start.invariant.0 strip,
      versions_more batches c.loop-start.strips.items next (flat_map (strip_versions batches) a.strips.now.items) (get_or batches a.batch []) place c.loop-start.invariant.1 refl refl,
      omega (arith, c.loop-start.invariant.2),
    )

pub returns-clause-more : goal.returns-clause-more
returns-clause-more c told =
    let a = c.args in
    let batches = c.args.batches.now in
    let versions = get_or batches a.batch [] in
    let run = c.run_in-count in
    let row = c.loop-start.start-index in
    let starts = c.as_slice-start-items.result.now in
    let covers = c.does_cover.ensures.cells c.if-not-does_cover.false in
    let are = c.as_slice-start-items.ensures.value ∙ c.in_ok-starts.ensures in
    let over : length c.as_slice-start-items.result.now ≤ c.loop-start.start-index = omega (arith, c.loop-start-test.false) in
    let all : cells_of c.args.inner.now / c.run_in-count.result ≤ c.loop-start.start-index =
    omega (arith, over, starts_many Row a.sub.now a.inner.now c.requires.valid covers run.ensures.dims starts are, ap (λ m. cells_of a.inner.now / m) run.ensures.value) in
    let end = runs_end Row a.sub.now a.inner.now c.requires.valid covers run.ensures.dims run.result row run.ensures.value run.ensures.some all in
    let long = sym (length-map versions (λ (v : Version). v.coords)) ∙ ap length c.requires.cells ∙ length-coords_between a.inner.now.low a.inner.now.high in
    c.loop-start.invariant.1 ∙ ap (λ vs. flat_map (strip_versions batches) a.strips.now.items ++ vs) (take_all c.loop-start.place versions (omega (arith, long, end, c.loop-start.invariant.2)))
