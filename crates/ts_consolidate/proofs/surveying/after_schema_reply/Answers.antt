-- One schema more is known.
use Rattle.std.proofs.Common.{Some, sym, ap, ◌∙◌, subst}
use Rattle.std.specs.Prelude.{slice_get}
use Rattle.std.proofs.lemmas.List.Elements.{All-push}
use Rattle.ts_schema.specs.declared.schemas.Schema.{Schema}
use Rattle.ts_schema.specs.SchemaTexts.{AreAttrs}
use Rattle.ts_actor.specs.Known.{AreFirst}
use Rattle.ts_actor.proofs.Rising.{next_first}
use Rattle.ts_consolidate.specs.declared.planning.Surveyed.{Surveyed}
use Rattle.ts_consolidate.specs.Merges.{HaveAttrs}
use Rattle.ts_consolidate.proofs.surveying.after_schema_reply.Goals as goal

pub next_schema-requires-clause-first : goal.next_schema-requires-clause-first
next_schema-requires-clause-first g c κs within =
    subst (λ (surveyed : Surveyed). AreFirst c.args.keys surveyed.schemas) (sym c.in_ok-with_schema-in-Ok.ensures)
    (next_first c.args.keys c.args.surveyed.schemas c.in-Ok.schema c.requires.first
    (sym (ap (slice_get c.args.keys) c.len-place.ensures) ∙ c.at-key.ensures ∙ ap Some (sym c.in-Ok.ensures.key)))

pub next_schema-requires-clause-attrs : goal.next_schema-requires-clause-attrs
next_schema-requires-clause-attrs g c κs within =
    subst (λ (surveyed : Surveyed). HaveAttrs surveyed.schemas) (sym c.in_ok-with_schema-in-Ok.ensures)
    (All-push (λ (s : Schema). AreAttrs s.attrs) c.args.surveyed.schemas c.in-Ok.schema c.requires.attrs c.in-Ok.ensures.found.0)
