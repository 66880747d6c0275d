-- What is chosen is among the fragments that are loaded.
use Rattle.std.proofs.Common.{ap, sym, subst, ◌∙◌}
use Rattle.std.specs.Prelude.{map as list_map}
use Rattle.std.proofs.lemmas.List.Elements.{All-filter}
use Rattle.ts_base.specs.Names.{IsSpelledFrag}
use Rattle.ts_commit.specs.Selections.{is_among, loaded}
use Rattle.ts_model.specs.States.{heads_of, opened_among}
use Rattle.ts_actor.specs.Listings.{AreSpelled}
use Rattle.ts_reader.proofs.loading.choose.Goals as goal

pub returns-clause-chosen : goal.returns-clause-chosen
returns-clause-chosen c =
    c.in_ok-chosen.ensures
    ∙ ap (λ fs. opened_among fs c.args.opened)
    ((rw c.get-known.ensures at c.in_ok-loaded.ensures.loaded) ∙ ap (λ hs. list_map (λ head. head.frag) (loaded c.args.reading.from c.args.reading.to hs c.args.reading.vacs)) (c.in_ok-heads.ensures ∙ ap heads_of c.as_slice.ensures))

pub returns-clause-spelled : goal.returns-clause-spelled
returns-clause-spelled c = subst AreSpelled (sym c.in_ok-chosen.ensures) (All-filter (λ o. is_among o.frag c.in_ok-loaded.field-0.loaded) (λ o. IsSpelledFrag o.frag) c.args.opened c.requires)
