use Rattle.std.proofs.Common.{◌≡◌, ◌++◌, ◌∷◌, [], subst, sym, arith}
use Rattle.std.specs.List.{All}
use Rattle.std.proofs.lemmas.List.Elements.{All-push}
use Rattle.ts_wire.proofs.Loop.{items_loop}
use Rattle.ts_plain.specs.Insides.{IsInside}
use Rattle.ts_plain.proofs.reading.read_cells.Goals as goal

pub loop-place-preserved : goal.loop-place-preserved
loop-place-preserved c =
    let pushed : c.push.new.self ≡ c.loop-place.cells ++ c.in_ok-cell.cell ∷ [] = c.in_ok-push.ensures.ok in
    let inside = All-push (IsInside c.args.frame.now) c.loop-place.cells c.in_ok-cell.cell c.loop-place.invariant.0 c.in_ok-cell.ensures.inside in
    (subst (All (IsInside c.args.frame.now)) (sym pushed) inside, grind (arith, items_loop))
