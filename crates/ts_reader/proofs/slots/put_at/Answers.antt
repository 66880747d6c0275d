-- The version is newer than the one in its slot, or it changes nothing.
use Rattle.std.proofs.Common.{true, sym, ap, ◌∙◌}
use Rattle.std.specs.Prelude.{slice_get, slice_set, Some}
use Rattle.std.specs.Option.{option_map_or}
use Rattle.ts_base.specs.declared.heads.Version.{Version}
use Rattle.ts_base.specs.Keys.{key_lt}
use Rattle.ts_reader.proofs.BoxSlots.{slot_left, slot_put, tells_new}
use Rattle.ts_reader.proofs.slots.put_at.Goals as goal

pub returns-then-is_new-clause-put : goal.returns-then-is_new-clause-put
returns-then-is_new-clause-put c = λ m are.
    let sub = c.args.sub.now in
    let v = c.args.version.now in
    let place = c.args.place in
    let at = c.requires.there in
    let stands = ap (λ slots. slice_get slots place) (sym are) ∙ c.at.ensures in
    let tells = ap (λ k. option_map_or (λ (w : Version). key_lt w.key k) c.at.result.now true) (sym c.key.ensures) ∙ sym c.is_new.ensures in
    c.set.ensures ∙ ap (λ (w : Version). slice_set c.args.slots.now place (Some w)) c.again.ensures ∙ ap (λ slots. slice_set slots place (Some v)) are
    ∙ slot_put sub m v place at c.requires.only (tells_new sub m v place c.at.result.now at stands ∙ tells ∙ c.if-is_new.true)

pub returns-else-is_new-clause-put : goal.returns-else-is_new-clause-put
returns-else-is_new-clause-put c = λ m are.
    let sub = c.args.sub.now in
    let v = c.args.version.now in
    let place = c.args.place in
    let at = c.requires.there in
    let stands = ap (λ slots. slice_get slots place) (sym are) ∙ c.at.ensures in
    let tells = ap (λ k. option_map_or (λ (w : Version). key_lt w.key k) c.at.result.now true) (sym c.key.ensures) ∙ sym c.is_new.ensures in
    are ∙ slot_left sub m v (tells_new sub m v place c.at.result.now at stands ∙ tells ∙ c.if-is_new.false)
