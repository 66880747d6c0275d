-- One schema more is known.
use Rattle.std.proofs.Common.{Some, sym, ap, ◌∙◌, subst}
use Rattle.std.specs.Prelude.{slice_get}
use Rattle.ts_reader.specs.declared.fetching.Gathered.{Gathered}
use Rattle.ts_actor.specs.Known.{AreFirst}
use Rattle.ts_actor.proofs.Rising.{next_first}
use Rattle.ts_reader.proofs.opening.after_further.Goals as goal

pub gather_next-requires-clause-first : goal.gather_next-requires-clause-first
gather_next-requires-clause-first g c κs within =
    subst (λ (gathered : Gathered). AreFirst c.args.keys gathered.schemas) (sym c.in_ok-with_schema-in-Ok.ensures)
    (next_first c.args.keys c.args.gathered.schemas c.in-Ok.schema c.requires.first
    (sym (ap (slice_get c.args.keys) c.len-place.ensures) ∙ c.at-key.ensures ∙ ap Some (sym c.in-Ok.ensures.key)))
