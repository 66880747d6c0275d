use Rattle.std.proofs.Common.{◌≡◌, map, take}
use Rattle.ts_model.specs.Used.{used_attrs}
use Rattle.ts_reader.specs.Deletes.{binding_of}
use Rattle.ts_reader.proofs.bindings.further_bindings.Given as goal

-- those of the schemas so far
abbrev pub invariant-loop-schema : goal.invariant-loop-schema
invariant-loop-schema l = l.bindings ≡ map (λ s. binding_of (l.reading).deletions (used_attrs l.reading s.attrs)) (take l.schema-index l.schemas)
