-- Reads: the states in which a read can be.
use Rattle.std.specs.Prelude.{◌≡◌, ℕ, ◌+◌, ◌*◌, ◌-◌, ◌^◌, ◌<◌, ◌≤◌, true, List, length, suc, All, ⊤}
use Rattle.ts_base.specs.Names.{IsSpelledFrag}
use Rattle.ts_base.specs.declared.heads.Stop.TheVariants.{Never}
use Rattle.ts_base.specs.declared.heads.Version.{Version}
use Rattle.ts_domain.specs.Boxes.{IsBox, Covers, cells_of}
use Rattle.ts_domain.specs.Domains.{whole_domain}
use Rattle.ts_actor.specs.Fetches.{IsWorkCall}
use Rattle.ts_schema.specs.declared.schemas.Schema.{Schema}
use Rattle.ts_schema.specs.FrameTexts.{IsFrame}
use Rattle.ts_schema.specs.SchemaTexts.{AreAttrs}
use Rattle.ts_cond.specs.declared.query.Query.{Query}
use Rattle.ts_model.specs.declared.commands.Command.{Command}
use Rattle.ts_model.specs.declared.commands.Command.TheVariants.{Read}
use Rattle.ts_model.specs.declared.commands.Job.{Job}
use Rattle.ts_model.specs.declared.states.Listed.{Listed}
use Rattle.ts_model.specs.declared.states.Opened.{Opened}
use Rattle.ts_model.specs.declared.states.Reading.{Reading}
use Rattle.ts_model.specs.declared.states.State.{State}
use Rattle.ts_model.specs.declared.states.State.TheVariants.{Collects}
use Rattle.ts_model.specs.declared.states.Collecting.{Collecting}
use Rattle.ts_model.specs.declared.states.Collecting.TheVariants.{GetsVacs, GetsHeads, GetsSchemas, GetsDeletes, Fetches}
use Rattle.ts_model.specs.Codecs.{Codec}
use Rattle.ts_model.specs.Jobs.{IsFit}
use Rattle.ts_model.specs.Queries.{most_cells}
use Rattle.ts_actor.specs.PieceLaws.{AreInBox, IsFetchIn}
use Rattle.ts_actor.specs.Seeks.{MaySeek, state_left}
use Rattle.ts_actor.specs.Listings.{IsSpelledDelete, IsSpelledVac, AreSpelled}
use Rattle.ts_actor.specs.Known.{AreRising, AreFirst}

-- the command is a read
abbrev pub IsRead : Command → Type 0
IsRead (Read from to query) = ⊤
IsRead _ = ⊥

-- the job is one that there can be, and its command is a read
abbrev pub IsReadJob : Job → Type 0
IsReadJob job = IsFit job × IsRead job.command

-- what a read looks into has spellings
pub record AreListed (listed : Listed) : Type 0 where
  pub fragments : All IsSpelledFrag listed.fragments
  pub counting : All IsSpelledVac listed.counting
  pub deletes : All IsSpelledDelete listed.delete_names

-- the array has a frame and attributes, the box lies in the domain, and what is looked into has spellings
pub record IsReading (r : Reading) : Type 0 where
  pub is_frame : IsFrame r.frame
  pub are_attrs : AreAttrs (r.current).attrs
  pub inside : Covers (whole_domain (r.frame).domain) (r.ready).sub
  pub valid : IsBox (r.ready).sub
  -- a read of a dense array has not too many cells
  pub few_cells : (r.frame).dense ≡ true → cells_of (r.ready).sub ≤ most_cells
  pub fragments : All IsSpelledFrag r.fragments
  pub counting : All IsSpelledVac r.counting
  pub deletes : All IsSpelledDelete r.delete_names

-- a read that is at the fragments has opened them, and knows the further schemas
pub record IsKnown (r : Reading) (opened : List Opened) (schemas : List Schema) : Type 0 where
  pub reading : IsReading r
  pub spelled : AreSpelled opened
  pub rise : AreRising schemas

-- a read fetches the fragment at a place, in its box
pub record IsFetching {F : Type 0} (codec : Codec F) (r : Reading) (opened : List Opened) (schemas : List Schema) (next : ℕ) (got : List Version) (f : F) : Type 0 where
  pub known : IsKnown r opened schemas
  pub within : next < length opened
  pub inside : AreInBox (r.ready).sub got
  pub in_box : IsFetchIn codec (r.ready).sub f

-- a read can collect so: what it looks into has spellings, the further schemas rise, and what it gets lies in its box
abbrev pub IsCollecting : {F : Type 0} → Codec F → Collecting F → Type 0
IsCollecting codec (GetsVacs r) = IsReading r
IsCollecting codec (GetsHeads r opened) = IsReading r × AreSpelled opened
IsCollecting codec (GetsSchemas r opened keys schemas) = IsReading r × AreSpelled opened × AreFirst keys schemas
IsCollecting codec (GetsDeletes r opened schemas) = IsKnown r opened schemas
IsCollecting codec (Fetches r opened schemas next frag got f c) = IsFetching codec r opened schemas next got f × IsWorkCall c

-- the state is one of a read that collects
abbrev pub MayCollect : {F : Type 0} → Codec F → State F → Type 0
MayCollect codec (Collects s) = IsCollecting codec s
MayCollect codec _ = ⊥

-- a read can be in the state: it seeks, it collects, or it is over
abbrev pub IsReadState : {F : Type 0} → Codec F → State F → Type 0
IsReadState codec s = MaySeek AreListed (MayCollect codec) s

-- more than the calls that a read makes for so many fragments, one after the other
abbrev pub fetches_left : ℕ → ℕ
fetches_left fragments = fragments * 2 ^ 128

-- the most calls of a read that collects, where a fetch has so many left: those of its fetches, of the deletes, of the further schemas, of the heads and of the `.vac` objects
abbrev pub collect_left : {F : Type 0} → (F → ℕ) → Collecting F → ℕ
collect_left left (GetsVacs r) = 2 ^ 194 + 2 ^ 193 + (length r.counting - length r.vacs)
collect_left left (GetsHeads r opened) = 2 ^ 194 + (length r.fragments - length opened)
collect_left left (GetsSchemas r opened keys schemas) = 2 ^ 193 + (length keys - length schemas)
collect_left left (GetsDeletes r opened schemas) = 2 ^ 192 + (length r.delete_names - length r.deletions)
collect_left left (Fetches r opened schemas next frag got f c) = fetches_left (length opened - suc next) + suc (left f)

-- so many a read has left in a state in which it collects, and none in another
abbrev pub collects_left : {F : Type 0} → (F → ℕ) → State F → ℕ
collects_left left (Collects s) = collect_left left s
collects_left left _ = 0

-- the most calls that a read makes from a state on
abbrev pub reads_left : {F : Type 0} → (F → ℕ) → State F → ℕ
reads_left left s = state_left (collects_left left) s

-- the job that reads the interval from `from` to `to`; it is stopped nowhere
abbrev pub read_job : ℕ → ℕ → ℕ → ℕ → Query → Job
read_job at id from to query = record { command = Read from to query; at = at; id = id; stop = Never }

-- so can the read of any job
abbrev pub MayRead : {F : Type 0} → Codec F → Job → State F → Type 0
MayRead codec job s = IsReadState codec s
