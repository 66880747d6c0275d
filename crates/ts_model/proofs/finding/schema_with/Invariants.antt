use Rattle.std.proofs.Common.{◌≡◌, drop}
use Rattle.ts_model.specs.Deeds.{schema_with}
use Rattle.ts_model.proofs.finding.schema_with.Given as goal

-- the schema is among the deeds from here on
abbrev pub invariant-loop-deed : goal.invariant-loop-deed
invariant-loop-deed l = schema_with (drop l.deed-index l.deeds) l.key ≡ schema_with l.deeds l.key
