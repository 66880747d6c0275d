-- A place without a column has nulls.
use Rattle.std.proofs.Common.{arith, ◌≡◌, replicate, get_or, []}
use Rattle.ts_base.specs.declared.values.Val.TheVariants.{Null}
use Rattle.ts_domain.specs.Boxes.{cells_of}
use Rattle.ts_gather.specs.Parts.{vals_over}
use Rattle.ts_gather.proofs.PartLaws.{fewer}
use Rattle.ts_gather.proofs.BoxLaws.{ok_then, none_over}
use Rattle.ts_gather.proofs.boxes.copied_column.Goals as goal

pub returns-else-place-vals : goal.returns-else-place-vals
returns-else-place-vals c =
    let a = c.args in
    let less = fewer a.order a.outer.now a.inner.now c.requires.valid c.requires.within in
    let cells : c.cells.result ≡ cells_of c.args.inner.now = omega (arith, c.cells.ensures.capped, less, c.requires.few) in
    ok_then (λ column. column ≡ replicate c.cells.result Null) (λ column. column ≡ vals_over a.order a.outer.now a.inner.now (get_or a.vals.now a.attr [])) c.nulls.result
    (λ column is. none_over a.order a.outer.now a.inner.now a.vals.now a.attr c.cells.result column c.requires.valid c.if-place-vals.false cells is) c.nulls.ensures.ok
