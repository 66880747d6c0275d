-- One field more is looked at.
use Rattle.std.proofs.Common.{◌+◌, ◌||◌, false, drop, sym, ap, ◌∙◌}
use Rattle.std.specs.Prelude.{slice_get}
use Rattle.std.specs.Option.{option_map_or}
use Rattle.ts_schema.specs.Attrs.{has_label, same_name}
use Rattle.ts_model.specs.Queries.{items_at}
use Rattle.ts_model.specs.Used.{field_names}
use Rattle.ts_reader.proofs.UsedNames.{shown_on}
use Rattle.ts_reader.proofs.used.shows_name.Goals as goal

pub returns-then-is_named : goal.returns-then-is_named
returns-then-is_named c =
    let r = c.args.reading.now in
    let name = c.args.name.now in
    let names = field_names r.frame.domain r.current.attrs in
    let rest = has_label (items_at (drop (c.loop-field.field + 1) r.ready.fields) names) name in
    let tells = (λ i. option_map_or (λ other. same_name other name) (slice_get (field_names (sym c.as_slice-dims.ensures.value i) (sym c.as_slice-attrs.ensures i)) c.at.result.now) false) ∙ sym c.is_named.ensures ∙ c.if-is_named.true in
    sym (sym c.loop-field.invariant ∙ shown_on names name r.ready.fields c.loop-field.field c.at.result.now c.at.ensures ∙ ap (λ b. b || rest) tells)

pub loop-field-preserved : goal.loop-field-preserved
loop-field-preserved c =
    let r = c.args.reading.now in
    let name = c.args.name.now in
    let names = field_names r.frame.domain r.current.attrs in
    let rest = has_label (items_at (drop (c.loop-field.field + 1) r.ready.fields) names) name in
    let tells = (λ i. option_map_or (λ other. same_name other name) (slice_get (field_names (sym c.as_slice-dims.ensures.value i) (sym c.as_slice-attrs.ensures i)) c.at.result.now) false) ∙ sym c.is_named.ensures ∙ c.if-is_named.false in
    sym (shown_on names name r.ready.fields c.loop-field.field c.at.result.now c.at.ensures ∙ ap (λ b. b || rest) tells) ∙ c.loop-field.invariant
