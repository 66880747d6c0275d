-- One version more of the strip, at the place of its cell.
use Rattle.std.proofs.Common.{◌+◌, [], ◌∷◌, get_or, take, Some, sym, ap, ◌∙◌, arith}
use Rattle.std.proofs.lemmas.List.{get_or_default}
use Rattle.ts_domain.specs.Boxes.{coords_of_box}
use Rattle.ts_domain.proofs.Between.{length-coords_between}
use Rattle.ts_model.specs.Pieces.{newest_after}
use Rattle.ts_strip.specs.Strips.{strip_versions}
use Rattle.ts_table.specs.Tables.{version_or}
use Rattle.ts_reader.specs.Newest.{slots_in}
use Rattle.ts_reader.proofs.Newer.{newest_after_more}
use Rattle.ts_reader.proofs.StripSlots.{one_place, strip_more, strip_there, strip_within}
use Rattle.ts_reader.proofs.slots.put_strip.Goals as goal

pub overflow_add-strip-in-loop-step : goal.overflow_add-strip-in-loop-step
overflow_add-strip-in-loop-step c =
    let sub = c.args.sub.now in
    let inside = strip_within c.args.batches.now (coords_of_box sub) c.args.strip c.requires.strip c.loop-step.step c.loop-step-test.true in
    let many = length-coords_between sub.low sub.high in
    record { fits = omega (arith, inside, many, c.requires.few_cells) }

pub put_at-requires-clause-below : goal.put_at-requires-clause-below
put_at-requires-clause-below c =
    let sub = c.args.sub.now in
    let inside = strip_within c.args.batches.now (coords_of_box sub) c.args.strip c.requires.strip c.loop-step.step c.loop-step-test.true in
    let many = length-coords_between sub.low sub.high in
    omega (arith, inside, many, c.loop-step.invariant.1)

pub put_at-requires-clause-there : goal.put_at-requires-clause-there
put_at-requires-clause-there c =
    let s = c.args.strip in
    let batches = c.args.batches.now in
    let step = c.loop-step.step in
    let own = c.of-version.ensures ∙ ap (λ vs. version_or vs (s.place + step)) (c.index-batches-strip.is ∙ get_or_default batches s.batch c.index-batches-strip.result [] c.requires.strip.named) in
    strip_there batches (coords_of_box c.args.sub.now) s c.requires.strip step c.loop-step-test.true ∙ ap (λ v. Some v.coords) (sym own)

pub put_at-requires-clause-only : goal.put_at-requires-clause-only
put_at-requires-clause-only c = λ other there.
    let s = c.args.strip in
    let batches = c.args.batches.now in
    let step = c.loop-step.step in
    let own = c.of-version.ensures ∙ ap (λ vs. version_or vs (s.place + step)) (c.index-batches-strip.is ∙ get_or_default batches s.batch c.index-batches-strip.result [] c.requires.strip.named) in
    one_place c.args.sub.now c.requires.valid other (s.start + step) c.of-version.result.coords there (strip_there batches (coords_of_box c.args.sub.now) s c.requires.strip step c.loop-step-test.true ∙ ap (λ v. Some v.coords) (sym own))

pub loop-step-preserved : goal.loop-step-preserved
loop-step-preserved c =
    let sub = c.args.sub.now in
    let s = c.args.strip in
    let batches = c.args.batches.now in
    let step = c.loop-step.step in
    let own = c.of-version.ensures ∙ ap (λ vs. version_or vs (s.place + step)) (c.index-batches-strip.is ∙ get_or_default batches s.batch c.index-batches-strip.result [] c.requires.strip.named) in
    let before = take step (strip_versions batches s) in
    let more = strip_more batches (coords_of_box sub) s c.requires.strip step c.loop-step-test.true in (
      (λ newest are.
          c.put_at.ensures.put (newest_after newest before) (c.loop-step.invariant.0 newest are)
          ∙ ap (λ v. slots_in sub (newest_after (newest_after newest before) (v ∷ []))) own
          ∙ ap (slots_in sub) (sym (newest_after_more before (version_or (get_or batches s.batch []) (s.place + step) ∷ []) newest) ∙ ap (newest_after newest) (sym more))),
      c.put_at.ensures.long ∙ c.loop-step.invariant.1,
    )
