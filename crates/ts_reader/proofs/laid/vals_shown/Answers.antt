-- The column at the attribute's place has what the versions show.
use Rattle.std.proofs.Common.{Option, Some, None, sym, ap, ◌∙◌}
use Rattle.std.specs.Prelude.{IfSome}
use Rattle.ts_reader.specs.Shown.{version_vals}
use Rattle.ts_reader.proofs.LaidVals.{column_shows, one_schema}
use Rattle.ts_reader.proofs.laid.vals_shown.Goals as goal

some_weaker : {X : Type 0} (o : Option X) (P Q : X → Type 0) → ((x : X) → P x → Q x) → IfSome o P → IfSome o Q
some_weaker None P Q on p = tt
some_weaker (Some x) P Q on p = on x p

pub returns : goal.returns
returns c =
    let r = c.args.reading.now in
    let schemas = c.args.schemas.now in
    let a = c.args.attr.now in
    let versions = c.in_ok-table.table.now in
    let parts = c.parts.result in
    let place = c.in_ok-place.place in
    let one = one_schema versions parts.origin parts.attrs.now parts.order parts.sub.now c.parts.ensures.made in
    some_weaker c.vals.result _ _
    (λ column has. column_shows r schemas a versions (parts.origin).schema place column.now one (sym c.in_ok-place.was ∙ c.place_at.ensures) has ∙ ap (λ vs. version_vals r schemas vs a) c.in_ok-table.ensures) c.vals.ensures
