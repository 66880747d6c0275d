-- One strip more, and in the end the fills behind the last.
use Rattle.std.proofs.Common.{◌+◌, ◌-◌, ◌≤◌, ◌++◌, drop, length, get_or, replicate, sym, ap, ◌∙◌, arith}
use Rattle.std.proofs.lemmas.List.{append_assoc, drop_all, drop_more}
use Rattle.ts_strip.specs.declared.strips.Strip.{Strip}
use Rattle.ts_strip.specs.Strips.{strip_versions}
use Rattle.ts_reader.specs.Laid.{laid}
use Rattle.ts_reader.specs.Shown.{slot_vals, version_vals}
use Rattle.ts_reader.proofs.LaidSlots.{climb_ends}
use Rattle.ts_reader.proofs.LaidVals.{laid_end, laid_more, next_of}
use Rattle.ts_reader.proofs.laid.laid_column.Goals as goal

abbrev nothing : Strip
nothing = record { start = 0; count = 0; batch = 0; place = 0 }

pub overflow_add-at : goal.overflow_add-at
overflow_add-at c =
    let strips = c.args.strips.now in
    let i = c.loop-strip.strip-index in
    let next = next_of strips i c.loop-strip.at c.args.cells nothing c.loop-strip-test.true c.loop-strip.invariant.0 in
    let ends = climb_ends ((get_or strips i nothing).start + (get_or strips i nothing).count) (drop (i + 1) strips) c.args.cells next.1 in
    record { fits = omega (arith, ends, c.ranges.cells.fits) }

pub loop-strip-preserved : goal.loop-strip-preserved
loop-strip-preserved c =
    let r = c.args.reading.now in
    let schemas = c.args.schemas.now in
    let a = c.args.attr.now in
    let strips = c.args.strips.now in
    let batches = c.args.batches.now in
    let cells = c.args.cells in
    let i = c.loop-strip.strip-index in
    let at = c.loop-strip.at in
    let s = get_or strips i nothing in
    let column = c.loop-strip.column in
    let next = next_of strips i at cells nothing c.loop-strip-test.true c.loop-strip.invariant.0 in
    let gap = replicate (s.start - at) a.fill in
    let own = version_vals r schemas (strip_versions batches s) a in
    let rest = slot_vals r schemas (laid batches (s.start + s.count) (drop (i + 1) strips) cells) a in (
      next.1,
      ap (λ vs. vs ++ rest) (c.in_ok-push_strip.ensures ∙ ap (λ vs. vs ++ own) c.in_ok-push_times.ensures)
          ∙ append_assoc (column ++ gap) own rest ∙ append_assoc column gap (own ++ rest)
          ∙ ap (λ vs. column ++ vs) (sym (laid_more r schemas a batches at s (drop (i + 1) strips) cells) ∙ ap (λ l. slot_vals r schemas (laid batches at l cells) a) (sym (drop_more strips i nothing c.loop-strip-test.true)))
          ∙ c.loop-strip.invariant.1,
    )

pub returns : goal.returns
returns c =
    let r = c.args.reading.now in
    let schemas = c.args.schemas.now in
    let a = c.args.attr.now in
    let strips = c.args.strips.now in
    let batches = c.args.batches.now in
    let at = c.loop-strip.at in
    let i = c.loop-strip.strip-index in
    let all : length strips ≤ i = omega (arith, c.loop-strip-test.false) in
    c.in_ok-push_times-2.ensures
    ∙ ap (λ vs. c.loop-strip.column ++ vs) (sym (laid_end r schemas a batches at c.args.cells) ∙ ap (λ l. slot_vals r schemas (laid batches at l c.args.cells) a) (sym (drop_all i strips all)))
    ∙ c.loop-strip.invariant.1
