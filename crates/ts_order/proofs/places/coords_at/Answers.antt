use Rattle.std.proofs.Common.{◌∙◌, sym, ap, Some}
use Rattle.ts_order.specs.Orders.{turned}
use Rattle.ts_order.proofs.OrderLemmas.{turned-turned}
use Rattle.ts_order.proofs.OrderedCoords.{slice_get-coords_in_order, is_in_box-coords_in_order, Ascends-coords_in_order}
use Rattle.ts_order.proofs.places.coords_at.Goals as goal

pub returns-clause-place : goal.returns-clause-place
returns-clause-place c =
    let order = c.args.order in
    let found = sym (turned-turned order c.numbers_at.result) ∙ ap (turned order) c.numbers_at.ensures in
    slice_get-coords_in_order order c.args.sub.now c.requires.valid c.args.position c.requires.below ∙ ap Some (sym found)

pub returns-clause-inside : goal.returns-clause-inside
returns-clause-inside c =
    let order = c.args.order in
    let found = sym (turned-turned order c.numbers_at.result) ∙ ap (turned order) c.numbers_at.ensures in
    rw found (is_in_box-coords_in_order order c.args.sub.now c.requires.valid c.args.position c.requires.below)

pub returns-clause-ascending : goal.returns-clause-ascending
returns-clause-ascending c = Ascends-coords_in_order c.args.order c.args.sub.now c.requires.valid
