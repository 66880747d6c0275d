-- Vacuums: the calls that each has made.
use Rattle.std.specs.Prelude.{ℕ}
use Rattle.ts_model.specs.declared.commands.Job.{Job}
use Rattle.ts_model.specs.Codecs.{Codec}
use Rattle.ts_actor.specs.Traces.{Trace}
use Rattle.ts_actor.specs.Machines as machine
use Rattle.ts_actor.specs.declared.machine.Phase.{Phase}
use Rattle.ts_vacuum.specs.Sweeping.{IsSweepState, IsVacuumJob, sweeps_left}

-- the vacuum of a job has asked for the calls of the trace, and they had these replies
abbrev pub Follows : {F : Type 0} → Codec F → Job → Phase F → Trace → Type 0
Follows codec job phase t = machine.Follows codec IsVacuumJob (λ job s. IsSweepState s) job phase t

-- more than the calls that a vacuum still asks for
abbrev pub calls_left : {F : Type 0} → Job → Phase F → ℕ
calls_left job phase = machine.calls_left sweeps_left job phase
