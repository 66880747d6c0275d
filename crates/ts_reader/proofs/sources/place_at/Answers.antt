-- The place for a further schema stands at the place of the schema.
use Rattle.std.proofs.Common.{◌≡◌, Some, None, false, get_or, refl, sym, ap, ◌∙◌, rules}
use Rattle.std.specs.Prelude.{find, slice_get}
use Rattle.ts_base.specs.Keys.{key_eq}
use Rattle.ts_model.specs.Used.{used_attrs}
use Rattle.ts_reader.specs.Sources.{place_in}
use Rattle.ts_reader.proofs.Erased.{known_further, mapped_at, there_at}
use Rattle.ts_reader.proofs.Places.{places_bound}
use Rattle.ts_reader.proofs.sources.place_at.Goals as goal

pub returns-in-Ok : goal.returns-in-Ok
returns-in-Ok c =
    let r = c.args.reading.now in
    let schemas = c.args.schemas.now in
    let wanted = c.args.wanted.now in
    let ss = c.as_slice.result.now in
    let place = c.in-Ok.place in
    let other : key_eq c.args.key (r.current).key ≡ false = search rules in
    let found = ap (find (λ s. key_eq s.key c.args.key)) (sym c.as_slice.ensures) ∙ c.in-Ok.ensures.found r.current in
    let at = ap (λ xs. slice_get xs place) (sym c.as_slice.ensures) ∙ there_at ss place r.current c.in-Ok.ensures.bound in
    let further = ap (λ ps. slice_get ps place) (sym (ap (λ source. source.further) c.requires.are ∙ places_bound r r.deletions wanted schemas)) ∙ c.at.ensures in
    mapped_at (λ s. place_in (used_attrs r s.attrs) wanted) schemas place (get_or ss place r.current) c.at.result.now at further
    ∙ ap (λ attrs. place_in (used_attrs r attrs) wanted) (sym (known_further r schemas c.args.key (Some (get_or ss place r.current)) other found))

pub returns-in-Err : goal.returns-in-Err
returns-in-Err c =
    let r = c.args.reading.now in
    let other : key_eq c.args.key (r.current).key ≡ false = search rules in
    let absent = ap (find (λ s. key_eq s.key c.args.key)) (sym c.as_slice.ensures) ∙ c.in-Err.ensures.absent refl in
    ap (λ attrs. place_in (used_attrs r attrs) c.args.wanted.now) (sym (known_further r c.args.schemas.now c.args.key None other absent))
