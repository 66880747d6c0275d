-- The value at the place of the attribute is the one that is shown.
use Rattle.std.proofs.Common.{[], ◌∷◌, ◌++◌, ap, ◌∙◌}
use Rattle.std.proofs.lemmas.Result.{on_ok_weaker}
use Rattle.ts_model.specs.States.{attrs_got}
use Rattle.ts_schema.specs.Attrs.{shown_val}
use Rattle.ts_reader.specs.Sources.{val_there}
use Rattle.ts_reader.proofs.Places.{shown_there}
use Rattle.ts_reader.proofs.vals.push_version.Goals as goal

pub returns : goal.returns
returns c =
    let r = c.args.reading.now in
    let schemas = c.args.schemas.now in
    let attr = c.args.attr.now in
    let v = c.args.version.now in
    let shows = ap (λ p. val_there p v.row attr) c.place_at-place.ensures ∙ shown_there attr v.row (attrs_got r schemas c.schema.result) ∙ ap (λ k. shown_val (attrs_got r schemas k) v.row attr) c.schema.ensures in
    on_ok_weaker c.push_there.result (λ is. is ∙ ap (λ val. c.args.column.now ++ val ∷ []) shows) c.push_there.ensures
