-- Sources and sinks in memory, as contracts see them.
use Rattle.std.specs.Prelude.{ℕ, List}
use Rattle.ts_store.specs.declared.fate.Fault.{Fault}

-- a source in memory: the bytes that are left, the planned faults, the number of reads, and of those that failed
pub record SourceState : Type 0 where
  pub left : List ℕ
  pub plan : List Fault
  pub calls : ℕ
  pub faults : ℕ

-- a sink in memory: the bytes that it holds, the planned faults, the number of writes, and of those that failed
pub record SinkState : Type 0 where
  pub bytes : List ℕ
  pub plan : List Fault
  pub calls : ℕ
  pub faults : ℕ
