use Rattle.std.proofs.Common.{◌≡◌, [], drop, map, true}
use Rattle.std.specs.List.{list_all}
use Rattle.serde_json.specs.View.{items_of}
use Rattle.ts_script.specs.Shapes.{items_onto}
use Rattle.ts_script.specs.Trees.{data_of}
use Rattle.ts_script.proofs.forms.read_cells.Given as goal

abbrev pub invariant-loop-place : goal.invariant-loop-place
invariant-loop-place g l = record {
  gives : items_onto g.T.FromJson.form l.done (items_of (map data_of (drop l.place l.cells.column))) ≡ items_onto g.T.FromJson.form [] (items_of (map data_of l.cells.column));
  typed : list_all g.T.FromJson.typed l.done ≡ true;
}
