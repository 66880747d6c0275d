use Rattle.std.proofs.Common.{◌≡◌, [], true}
use Rattle.std.specs.List.{list_all}
use Rattle.ts_script.specs.Trees.{members_view}
use Rattle.ts_script.specs.Typed.{is_typed_col}
use Rattle.ts_script.specs.Values.{columns_onto}
use Rattle.ts_script.proofs.values.read_members.Given as goal

abbrev pub invariant-loop-key : goal.invariant-loop-key
invariant-loop-key l = record {
  gives : columns_onto l.done (members_view l.key-iterator) ≡ columns_onto [] (members_view l.fn.members.entries);
  typed : list_all is_typed_col l.done ≡ true;
}
