-- One version more is put in its slot.
use Rattle.std.proofs.Common.{◌∙◌, sym, ap, length, take, ◌++◌, [], ◌∷◌}
use Rattle.std.proofs.lemmas.List.{take_all, take_more}
use Rattle.std.specs.FinMap as map
use Rattle.ts_base.specs.declared.heads.Version.{Version}
use Rattle.ts_model.specs.Pieces.{newest_after}
use Rattle.ts_reader.specs.Newest.{slots_in}
use Rattle.ts_reader.proofs.Newer.{newest_after_more, newest_of_is}
use Rattle.ts_reader.proofs.BoxSlots.{slots_empty, slots_length}
use Rattle.ts_reader.proofs.slots.slots_of.Goals as goal

pub loop-version-init : goal.loop-version-init
loop-version-init c = c.in_ok-slots.ensures ∙ slots_empty c.args.sub.now

pub put-requires-clause-all : goal.put-requires-clause-all
put-requires-clause-all c = ap length c.loop-version.invariant ∙ slots_length c.args.sub.now (newest_after map.empty (take c.loop-version.version-index c.args.got.now))

pub loop-version-preserved : goal.loop-version-preserved
loop-version-preserved c =
    let got = c.args.got.now in
    let place = c.loop-version.version-index in
    let v = c.version-item.result in
    let before = take place got in
    let next = take_more got place v c.loop-version-test.true ∙ ap (λ (w : Version). before ++ w ∷ []) (sym c.version-item.is) in
    c.put.ensures (newest_after map.empty before) c.loop-version.invariant
    ∙ ap (slots_in c.args.sub.now) (sym (newest_after_more before (v ∷ []) map.empty) ∙ ap (newest_after map.empty) (sym next))

pub returns : goal.returns
returns c =
    let got = c.args.got.now in
    c.loop-version.invariant ∙ ap (λ vs. slots_in c.args.sub.now (newest_after map.empty vs)) (take_all c.loop-version.version-index got c.loop-version-test.false) ∙ ap (slots_in c.args.sub.now) (sym (newest_of_is got))
