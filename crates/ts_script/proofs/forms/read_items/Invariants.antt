use Rattle.std.proofs.Common.{◌≡◌, drop, true}
use Rattle.std.specs.List.{list_all}
use Rattle.ts_script.specs.Shapes.{items_onto}
use Rattle.ts_script.specs.Trees.{items_view}
use Rattle.ts_script.proofs.forms.read_items.Given as goal

abbrev pub invariant-loop-item : goal.invariant-loop-item
invariant-loop-item g l = record {
  gives : items_onto g.T.FromJson.form l.done (items_view (drop l.item-index l.items)) ≡ items_onto g.T.FromJson.form l.fn.done (items_view l.items);
  typed : list_all g.T.FromJson.typed l.done ≡ true;
}
