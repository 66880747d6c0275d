-- The columns are those of what is left of the newest versions.
use Rattle.std.proofs.Common.{◌≡◌, ℕ, List, length, map, sym, ap, subst, ◌∙◌, refl}
use Rattle.std.specs.List.{All}
use Rattle.std.proofs.lemmas.List.{length-map}
use Rattle.std.proofs.lemmas.Result.{IfOk-weaker}
use Rattle.ts_base.specs.declared.heads.Version.{Version}
use Rattle.ts_model.specs.States.{cell_shown}
use Rattle.ts_reader.specs.Left.{versions_left}
use Rattle.ts_reader.specs.Shown.{AreShown, cells_across, version_val}
use Rattle.ts_reader.proofs.Across.{columns_shown, versions_cells}
use Rattle.ts_reader.proofs.ShownCells.{left_wide}
use Rattle.ts_reader.proofs.shown.cells_left.Goals as goal

pub coords_of-requires-clause-wide : goal.coords_of-requires-clause-wide
coords_of-requires-clause-wide c =
    let r = c.args.reading.now in
    let schemas = c.args.schemas.now in
    let left = c.as_slice-versions.ensures ∙ c.in_ok-left.ensures ∙ ap (versions_left r schemas) c.in_ok-newest.ensures in
    subst (λ (n : ℕ). All (λ (v : Version). length v.coords ≡ n) c.as_slice-versions.result.now) (sym c.count.ensures.count)
    (subst (λ (vs : List Version). All (λ (v : Version). length v.coords ≡ length (r.frame).domain) vs) (sym left) (left_wide r c.requires.reading schemas c.args.got c.requires.inside))

pub batch_of-requires : goal.batch_of-requires
batch_of-requires c =
    let r = c.args.reading.now in
    let versions = c.as_slice-versions.result.now in
    let count = c.len-cells.ensures ∙ ap length (sym c.as_slice-versions.ensures) in
    subst (λ n. AreShown n c.in_ok-dims.dims.items c.in_ok-vals.vals.items) (sym count)
    (columns_shown (version_val r c.args.schemas.now) versions (map (λ (v : Version). v.coords) versions) c.in_ok-dims.dims.items (r.current).attrs c.in_ok-vals.vals.items c.in_ok-dims.ensures (length-map versions (λ (v : Version). v.coords)) c.in_ok-vals.ensures)

pub returns : goal.returns
returns c =
    let r = c.args.reading.now in
    let schemas = c.args.schemas.now in
    let versions = c.as_slice-versions.result.now in
    let dims = c.in_ok-dims.dims.items in
    let vals = c.in_ok-vals.vals.items in
    let count = c.len-cells.ensures ∙ ap length (sym c.as_slice-versions.ensures) in
    let left = c.as_slice-versions.ensures ∙ c.in_ok-left.ensures ∙ ap (versions_left r schemas) c.in_ok-newest.ensures in
    let are = ap (cells_across dims vals) count ∙ versions_cells r schemas versions (map (λ (v : Version). v.coords) versions) dims vals c.in_ok-dims.ensures refl c.in_ok-vals.ensures ∙ ap (map (cell_shown r schemas)) left in
    IfOk-weaker c.batch_of.result _ _ (λ cells is. is ∙ are) c.batch_of.ensures
