-- One strip more, and in the end all of them.
use Rattle.std.proofs.Common.{[], ◌∷◌, ◌++◌, get_or, length, take, sym, ap, ◌∙◌}
use Rattle.std.specs.FinMap as map
use Rattle.std.specs.List.{flat_map}
use Rattle.std.proofs.lemmas.Grind.{flat_map-append}
use Rattle.std.proofs.lemmas.List.{append-nil, take_all, take_more}
use Rattle.ts_model.specs.Pieces.{newest_after}
use Rattle.ts_strip.specs.declared.strips.Strip.{Strip}
use Rattle.ts_strip.specs.Strips.{strip_versions}
use Rattle.ts_reader.specs.Newest.{slots_in}
use Rattle.ts_reader.proofs.Newer.{newest_after_more, newest_of_is}
use Rattle.ts_reader.proofs.BoxSlots.{slots_empty, slots_length}
use Rattle.ts_reader.proofs.slots.strip_slots.Goals as goal

abbrev nothing : Strip
nothing = record { start = 0; count = 0; batch = 0; place = 0 }

pub loop-strip-init : goal.loop-strip-init
loop-strip-init c = c.in_ok-slots.ensures ∙ slots_empty c.args.sub.now

pub put_strip-requires-clause-all : goal.put_strip-requires-clause-all
put_strip-requires-clause-all c = ap length c.loop-strip.invariant ∙ slots_length c.args.sub.now _

pub loop-strip-preserved : goal.loop-strip-preserved
loop-strip-preserved c =
    let batches = c.args.batches.now in
    let strips = c.args.strips.now in
    let i = c.loop-strip.strip-index in
    let s = get_or strips i nothing in
    let before = flat_map (strip_versions batches) (take i strips) in
    let next = ap (flat_map (strip_versions batches)) (take_more strips i nothing c.loop-strip-test.true) ∙ flat_map-append (strip_versions batches) (take i strips) (s ∷ []) ∙ ap (λ vs. before ++ vs) (append-nil (strip_versions batches s)) in
    c.put_strip.ensures.put (newest_after map.empty before) c.loop-strip.invariant
    ∙ ap (slots_in c.args.sub.now) (sym (newest_after_more before (strip_versions batches s) map.empty) ∙ ap (newest_after map.empty) (sym next))

pub returns : goal.returns
returns c =
    let batches = c.args.batches.now in
    let strips = c.args.strips.now in
    c.loop-strip.invariant ∙ ap (λ l. slots_in c.args.sub.now (newest_after map.empty (flat_map (strip_versions batches) l))) (take_all c.loop-strip.strip-index strips c.loop-strip-test.false)
    ∙ ap (slots_in c.args.sub.now) (sym (newest_of_is (flat_map (strip_versions batches) strips)))
