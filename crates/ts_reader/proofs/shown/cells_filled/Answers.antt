-- The columns have the values of the cells of the box.
use Rattle.std.proofs.Common.{◌≡◌, List, length, map, sym, subst, ◌∙◌, refl}
use Rattle.std.specs.List.{All}
use Rattle.ts_base.specs.declared.values.Val.{Val}
use Rattle.ts_domain.specs.Boxes.{cells_of}
use Rattle.ts_model.specs.Pieces.{newest_of}
use Rattle.ts_reader.specs.Left.{slot_left}
use Rattle.ts_reader.specs.Newest.{slots_in}
use Rattle.ts_reader.proofs.Across.{filled_long, slots_over}
use Rattle.ts_reader.proofs.shown.cells_filled.Goals as goal

pub box_of-requires-clause-long : goal.box_of-requires-clause-long
box_of-requires-clause-long c =
    let r = c.args.reading.now in
    subst (λ (vs : List (List Val)). All (λ (column : List Val). length column ≡ cells_of (r.ready).sub) vs) (sym c.in_ok-vals.ensures) (filled_long r c.args.schemas.now c.args.got.now)

pub returns : goal.returns
returns c =
    let r = c.args.reading.now in
    let schemas = c.args.schemas.now in
    let got = c.args.got.now in
    c.box_of.ensures ∙ slots_over r schemas got (map (slot_left r schemas) (slots_in (r.ready).sub (newest_of got))) c.in_ok-vals.vals.items refl c.in_ok-vals.ensures
