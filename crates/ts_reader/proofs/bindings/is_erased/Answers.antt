-- One more delete is looked at.
use Rattle.std.proofs.Common.{◌+◌, ◌||◌, List, drop, sym, ap, ◌∙◌}
use Rattle.std.specs.Prelude.{slice_get}
use Rattle.std.specs.List.{list_any}
use Rattle.ts_cond.specs.Picks.{picks_of}
use Rattle.ts_cond.specs.declared.fields.Pick.{Pick}
use Rattle.ts_model.specs.declared.deeds.Deletion.{Deletion}
use Rattle.ts_model.specs.Queries.{attr_fields}
use Rattle.ts_reader.specs.Deletes.{erases}
use Rattle.ts_reader.proofs.Erased.{any_on, mapped_at}
use Rattle.ts_reader.proofs.bindings.is_erased.Goals as goal

pub returns-then-erases : goal.returns-then-erases
returns-then-erases c =
    let attrs = c.args.binding.now.attrs in
    let erased = c.args.erased.now in
    let place = c.loop-place.place in
    let test = erases attrs c.args.version.now in
    let f : Deletion → List Pick = λ e. picks_of (attr_fields attrs) (e.cond).fields in
    let picks = mapped_at f erased place c.at.result.now c.at-in-loop-place.result.now c.at.ensures (ap (λ ps. slice_get ps place) (sym c.requires) ∙ c.at-in-loop-place.ensures) in
    let tells = sym (c.erases.ensures attrs picks) ∙ c.if-erases.true in
    sym (sym c.loop-place.invariant ∙ any_on test erased place c.at.result.now c.at.ensures ∙ ap (λ b. b || list_any test (drop (place + 1) erased)) tells)

pub loop-place-preserved : goal.loop-place-preserved
loop-place-preserved c =
    let attrs = c.args.binding.now.attrs in
    let erased = c.args.erased.now in
    let place = c.loop-place.place in
    let test = erases attrs c.args.version.now in
    let f : Deletion → List Pick = λ e. picks_of (attr_fields attrs) (e.cond).fields in
    let picks = mapped_at f erased place c.at.result.now c.at-in-loop-place.result.now c.at.ensures (ap (λ ps. slice_get ps place) (sym c.requires) ∙ c.at-in-loop-place.ensures) in
    let tells = sym (c.erases.ensures attrs picks) ∙ c.if-erases.false in
    sym (ap (λ b. b || list_any test (drop (place + 1) erased)) tells) ∙ sym (any_on test erased place c.at.result.now c.at.ensures) ∙ c.loop-place.invariant
