-- The next version tells it.
use Rattle.std.proofs.Common.{◌+◌, not, get_or, refl, ap, sym, ◌∙◌}
use Rattle.ts_base.specs.declared.heads.Version.{Version}
use Rattle.ts_base.specs.Coords.{coords_eq}
use Rattle.ts_piece.specs.declared.spots.Spot.{Spot}
use Rattle.ts_piece.specs.Spots.{version_in, spotted}
use Rattle.ts_table.specs.Tables.{version_or}
use Rattle.ts_consolidate.proofs.LastAlone.{here_at, last_before}
use Rattle.ts_consolidate.proofs.versions.is_last.Goals as goal

pub returns-then-place-spots : goal.returns-then-place-spots
returns-then-place-spots c =
    let batches = c.args.batches.now in
    let spots = c.args.spots.now in
    let none : Spot = record { batch = 0; place = 0 } in
    let here = here_at batches spots c.args.place (get_or spots c.args.place none) none c.requires.within refl in
    let next = last_before batches spots (c.args.place + 1) (get_or spots (c.args.place + 1) none) none (version_or (spotted batches spots) c.args.place) c.if-place-spots.true refl in
    ap not (c.is_one_cell.ensures ∙ ap (λ (v : Version). coords_eq v.coords (version_in batches (get_or spots (c.args.place + 1) none)).coords) (sym here)) ∙ sym next
