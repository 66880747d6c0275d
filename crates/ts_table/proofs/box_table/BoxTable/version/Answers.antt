-- The fields of the version at the place.
use Rattle.std.proofs.Common.{◌∙◌, sym, ap}
use Rattle.ts_table.specs.Tables.{version_or}
use Rattle.ts_table.proofs.BoxTables.{version_over}
use Rattle.ts_table.proofs.box_table.BoxTable.version.Goals as goal

pub returns : goal.returns
returns c =
    let within = rw (← c.self.view_is) at c.requires in
    let fields = version_over c.self.inside.origin c.self.inside.attrs.items c.self.inside.order c.self.inside.sub c.args.place within in
    let whole = c.self.view_is in
    let key = sym fields.0 ∙ ap (λ vs. (version_or vs c.args.place).key) whole in
    let schema = sym fields.1 ∙ ap (λ vs. (version_or vs c.args.place).schema) whole in
    λ i. record { key = key i; schema = schema i; coords = c.coords.ensures i; row = c.in_ok-row.ensures i }
