-- A job on its way: the calls that it has made, and what they did.
use Rattle.std.specs.Prelude.{◌≡◌, ℕ, List, ◌++◌, Option, Some, IfSome, All}
use Rattle.ts_store.specs.declared.journal.Entry.{Entry}
use Rattle.ts_model.specs.declared.commands.Job.{Job}
use Rattle.ts_model.specs.declared.answers.Outcome.{Outcome}
use Rattle.ts_model.specs.declared.answers.Driven.{Driven}
use Rattle.ts_base.specs.Held.{Held}
use Rattle.ts_model.specs.Driven.{AskedFrom, IsDriven}
use Rattle.ts_model.specs.Told.{Told, trace_of, held_told, Suits, Replied, only_lane, entries_of}
use Rattle.ts_model.specs.States.{Exchange}
use Rattle.ts_model.specs.Stages.{first_stage}
use Rattle.ts_model.specs.Codecs.{Codec}

-- over a store that held m each call is replied to as by a store of one thread, and the store now holds what the calls leave
pub record Leaves (m : Held) (now : Option Held) (told : List Told) : Type 0 where
  pub replied : Replied m told
  pub held : now ≡ Some (held_told m told)

-- calls of one job over a store: each reply suits its call, the journal has their entries, and over a store that told what it held they leave what it holds now
pub record Calls (number lane : ℕ) (held now : Option Held) (before after : List Entry) (told : List Told) : Type 0 where
  pub own : All (λ e. e.job ≡ Some number) told
  pub suit : All Suits told
  pub entries : after ≡ before ++ entries_of (only_lane lane) told
  pub over : IfSome held (λ m. Leaves m now told)

-- the job made calls that it may make, and these are they
pub record RanTo {F : Type 0} (codec : Codec F) (number lane : ℕ) (job : Job) (held now : Option Held) (before after : List Entry) (trace : List Exchange) : Type 0 where
  pub told : List Told
  pub calls : Calls number lane held now before after told
  pub same : trace_of number told ≡ trace
  pub asked : AskedFrom codec job (first_stage job) trace

-- the job made calls that it may make, and came out so by their replies
pub record Ran {F : Type 0} (codec : Codec F) (number lane : ℕ) (job : Job) (held now : Option Held) (before after : List Entry) (result : Driven Outcome) : Type 0 where
  pub told : List Told
  pub calls : Calls number lane held now before after told
  pub driven : IsDriven codec job (trace_of number told) result
