-- Jobs: what carries their identifiers, and which jobs there can be.
use Rattle.std.specs.Prelude.{◌≡◌, ℕ, ◌^◌, ◌<◌, List, Option, Some, None, nat_eq, slice_get, IsTrue, IfSome, All, find}
use Rattle.ts_base.specs.declared.keys.Key.{Key}
use Rattle.ts_base.specs.declared.keys.FragKey.{FragKey}
use Rattle.ts_base.specs.declared.heads.Cell.{Cell}
use Rattle.ts_model.specs.declared.commands.Command.{Command}
use Rattle.ts_model.specs.declared.commands.Job.{Job}
use Rattle.ts_model.specs.declared.commands.Line.{Line}
use Rattle.ts_model.specs.declared.answers.Refusal.{Refusal}
use Rattle.ts_model.specs.declared.deeds.Written.{Written}
use Rattle.ts_model.specs.declared.deeds.Deletion.{Deletion}
use Rattle.ts_cond.specs.Tests.{Condition}
use Rattle.ts_schema.specs.declared.schemas.Schema.{Schema}
use Rattle.ts_schema.specs.declared.attrs.Attr.{Attr}
use Rattle.ts_base.specs.Keys.{frag_of}
use Rattle.ts_model.specs.declared.commands.Command.TheVariants.{Create, Read}
use Rattle.ts_model.specs.Commands.{create_refusal, fits}

-- the key of what a job makes
abbrev pub key_of : Job → Key
key_of job = record { t = job.at; id = job.id }

-- the fragment of a write job, and the name of a delete job
abbrev pub frag_of_job : Job → FragKey
frag_of_job job = frag_of (key_of job)

-- the schema of a job, with these attributes
abbrev pub schema_of_job : Job → List Attr → Schema
schema_of_job job attrs = record { key = key_of job; attrs = attrs }

-- what a write job writes, of these cells in the schema of a key
abbrev pub written_as : Job → Key → List Cell → Written
written_as job schema cells = record { key = key_of job; schema = schema; cells = cells }

-- what a delete job erases, by this condition
abbrev pub deletion_as : Job → Condition → Deletion
deletion_as job condition = record { key = key_of job; cond = condition }

-- a job that there can be: its stamp has 64 bits and its identifier 128, and its command is one that there can be
pub record IsFit (job : Job) : Type 0 where
  pub stamp : job.at < 2 ^ 64
  pub id : job.id < 2 ^ 128
  pub command : IsTrue (fits job.command)

-- so is each job
abbrev pub AreFit : List Job → Type 0
AreFit jobs = All IsFit jobs

-- a line that there can be: one of the lanes 0 to 7, a stamp of 64 bits where it has one, and a command that there can be
pub record IsFitLine (line : Line) : Type 0 where
  pub lane : line.lane < 8
  pub stamp : IfSome line.at (λ at. at < 2 ^ 64)
  pub command : IsTrue (fits line.command)

-- no two jobs have one identifier
abbrev pub AreApart : List Job → Type 0
AreApart jobs = (i j : ℕ) (a b : Job) → slice_get jobs i ≡ Some a → slice_get jobs j ≡ Some b → a.id ≡ b.id → i ≡ j

-- why a command is refused before its first call, if it is
abbrev pub refused_before : Command → Option Refusal
refused_before (Create f) = create_refusal f
refused_before _ = None

-- where the schema of a job's work is looked for: a read at the end of its interval, another job at its stamp
abbrev pub looks_at : Job → Command → ℕ
looks_at job (Read from to query) = to
looks_at job _ = job.at

-- the timestamp at which a job looks for the schema of its work
abbrev pub looked_at : Job → ℕ
looked_at job = looks_at job job.command

-- the job with an identifier
abbrev pub job_with : List Job → ℕ → Option Job
job_with jobs id = find (λ job. nat_eq job.id id) jobs
