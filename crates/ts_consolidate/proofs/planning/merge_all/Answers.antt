-- The sources are of the schema that is found.
use Rattle.std.proofs.Common.{◌≡◌, Some, sym, ap, subst, ◌∙◌}
use Rattle.std.specs.Prelude.{All}
use Rattle.std.proofs.lemmas.List.Elements.{All-contains}
use Rattle.ts_base.specs.Keys.{key_eq}
use Rattle.ts_schema.specs.declared.schemas.Schema.{Schema}
use Rattle.ts_schema.specs.SchemaTexts.{AreAttrs}
use Rattle.ts_model.specs.declared.states.Opened.{Opened}
use Rattle.ts_model.specs.States.{schema_among}
use Rattle.ts_model.proofs.ListLemmas.{find-Some}
use Rattle.ts_consolidate.proofs.planning.merge_all.Goals as goal

pub merge_from-requires-clause-has : goal.merge_from-requires-clause-has
merge_from-requires-clause-has g c κs within =
    let schema = c.in-Some.schema.now in
    let key = c.first-item.result.head.schema in
    let found : schema_among c.args.schemas.now key ≡ Some schema = ap (λ schemas. schema_among schemas key) (sym c.as_slice-2.ensures) ∙ sym c.in-Some.ensures in
    let attrs : AreAttrs schema.attrs = All-contains (λ (s : Schema). AreAttrs s.attrs) c.args.schemas.now schema c.requires.attrs (find-Some (λ (s : Schema). key_eq s.key key) c.args.schemas.now schema found).0 in
    let all : All (λ (o : Opened). o.head.schema ≡ schema.key) c.args.sources = subst (All (λ (o : Opened). o.head.schema ≡ schema.key)) c.as_slice-3.ensures (c.are_of_schema.ensures c.if-not-are_of_schema.false) in
    record {
      survey = c.requires.survey;
      attrs = subst (λ (s : Schema). AreAttrs s.attrs) (sym c.in_ok-schema.ensures) attrs;
      each = λ k d lt. record { opened = c.requires.opened k d lt; in_schema = all k d lt ∙ ap (λ (s : Schema). s.key) (sym c.in_ok-schema.ensures) };
    }
