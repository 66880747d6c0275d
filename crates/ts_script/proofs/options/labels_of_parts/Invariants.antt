use Rattle.std.proofs.Common.{◌≡◌, [], map, drop, true}
use Rattle.std.specs.List.{list_all}
use Rattle.ts_base.specs.Labels.{is_label}
use Rattle.ts_script.specs.Options.{labels_onto}
use Rattle.ts_script.proofs.options.labels_of_parts.Given as goal

abbrev pub invariant-loop-part : goal.invariant-loop-part
invariant-loop-part l = record {
  gives : labels_onto l.done (map (λ p. p.now) (drop l.part-index l.parts)) ≡ labels_onto [] (map (λ p. p.now) l.parts);
  typed : list_all is_label l.done ≡ true;
}
