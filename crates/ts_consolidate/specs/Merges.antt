-- Consolidations: the states in which one can be.
use Rattle.std.specs.Prelude.{◌≡◌, ℕ, ◌+◌, ◌*◌, ◌-◌, ◌^◌, ◌<◌, List, [], ◌∷◌, Some, Ok, length, slice_get, take, suc, All, ⊤}
use Rattle.ts_base.specs.declared.keys.FragKey.{FragKey}
use Rattle.ts_base.specs.declared.heads.Stop.TheVariants.{Never}
use Rattle.ts_base.specs.declared.heads.Version.{Version}
use Rattle.ts_base.specs.Names.{IsSpelled, IsSpelledFrag}
use Rattle.ts_commit.specs.declared.vacs.Limits.{Limits}
use Rattle.ts_schema.specs.declared.attrs.Attr.{Attr}
use Rattle.ts_schema.specs.declared.frames.Frame.{Frame}
use Rattle.ts_schema.specs.declared.schemas.Schema.{Schema}
use Rattle.ts_schema.specs.FrameTexts.{IsFrame}
use Rattle.ts_schema.specs.Parts.{Got, Sized, IsShort}
use Rattle.ts_schema.specs.SchemaTexts.{AreAttrs}
use Rattle.ts_store.specs.declared.call.Call.{Call}
use Rattle.ts_wire.specs.Exact.{IsBytes}
use Rattle.ts_model.specs.declared.commands.Command.{Command}
use Rattle.ts_model.specs.declared.commands.Command.TheVariants.{Consolidate}
use Rattle.ts_model.specs.declared.commands.Job.{Job}
use Rattle.ts_model.specs.declared.states.Candidates.{Candidates}
use Rattle.ts_model.specs.declared.states.Merging.{Merging}
use Rattle.ts_model.specs.declared.states.Merging.TheVariants.{ListsCommits, ListsSchemas, GetsFrame, GetsVacs, GetsHeads, GetsSchemas, Fetches}
use Rattle.ts_model.specs.declared.states.NewObject.{NewObject}
use Rattle.ts_model.specs.declared.states.Opened.{Opened}
use Rattle.ts_model.specs.declared.states.State.{State}
use Rattle.ts_model.specs.declared.states.State.TheVariants.{Merges, Puts, Over}
use Rattle.ts_model.specs.declared.states.Survey.{Survey}
use Rattle.ts_model.specs.Codecs.{Codec}
use Rattle.ts_model.specs.Consolidated.{IsStorable}
use Rattle.ts_model.specs.Jobs.{IsFit}
use Rattle.ts_model.specs.States.{all_of}
use Rattle.ts_actor.specs.Fetches.{IsWorkCall}
use Rattle.ts_actor.specs.PieceLaws.{IsFetchOf}
use Rattle.ts_actor.specs.Known.{AreFirst}
use Rattle.ts_actor.specs.Listings.{IsSpelledVac}

-- the command is a consolidation
abbrev pub IsConsolidate : Command → Type 0
IsConsolidate (Consolidate from to limits) = ⊤
IsConsolidate _ = ⊥

-- the job is one that there can be, and its command is a consolidation
pub record IsMergeJob (job : Job) : Type 0 where
  pub fit : IsFit job
  pub kind : IsConsolidate job.command

-- what a consolidation chooses from has spellings
pub record AreCandidates (c : Candidates) : Type 0 where
  pub fragments : All IsSpelledFrag c.fragments
  pub counting : All IsSpelledVac c.counting

-- the array has a frame, and what may be merged has spellings
pub record IsSurvey (s : Survey) : Type 0 where
  pub is_frame : IsFrame s.frame
  pub fragments : All IsSpelledFrag s.fragments
  pub counting : All IsSpelledVac s.counting

-- the head of the fragment was read from its object
pub record IsOpened {F : Type 0} (codec : Codec F) (frame : Frame) (o : Opened) : Type 0 where
  pub spelled : IsSpelledFrag o.frag
  pub bytes : IsBytes o.object
  pub short : IsShort o.object
  pub read : codec.head frame o.frag o.object ≡ Ok o.head

-- so was that of each of these
abbrev pub AreOpened : {F : Type 0} → Codec F → Frame → List Opened → Type 0
AreOpened codec frame opened = All (IsOpened codec frame) opened

-- each of the schemas has attributes such as there can be
abbrev pub HaveAttrs : List Schema → Type 0
HaveAttrs schemas = All (λ (s : Schema). AreAttrs s.attrs) schemas

-- a source of a consolidation: its head was read, and names the schema
pub record IsSource {F : Type 0} (codec : Codec F) (frame : Frame) (schema : Schema) (o : Opened) : Type 0 where
  pub opened : IsOpened codec frame o
  pub in_schema : o.head.schema ≡ schema.key

-- what a consolidation merges: sources of one schema
pub record HasSources {F : Type 0} (codec : Codec F) (s : Survey) (schema : Schema) (sources : List Opened) : Type 0 where
  pub survey : IsSurvey s
  pub attrs : AreAttrs schema.attrs
  pub each : All (IsSource codec s.frame schema) sources

-- the versions that were got of a fragment are, with its head, a piece that can be written once more
abbrev pub IsGot : {F : Type 0} → Codec F → Frame → List Attr → Opened → List Version → Type 0
IsGot codec frame attrs o versions = IsStorable frame attrs (record { head = o.head; versions = versions }) × codec.writable frame attrs (record { head = o.head; versions = versions })

-- so are those of each fragment
abbrev pub AreGot : {F : Type 0} → Codec F → Frame → List Attr → List Opened → List (List Version) → Type 0
AreGot codec frame attrs [] [] = ⊤
AreGot codec frame attrs (o ∷ opened) (versions ∷ got) = IsGot codec frame attrs o versions × AreGot codec frame attrs opened got
AreGot codec frame attrs _ _ = ⊥

-- a fetch of all of a fragment waits for the reply to a call
pub record IsGoing {F : Type 0} (codec : Codec F) (frame : Frame) (schema : Schema) (o : Opened) (f : F) (c : Call) : Type 0 where
  pub gots : List Got
  pub sizes : List Sized
  pub going : IsFetchOf codec frame schema o.frag o.object (all_of frame schema.attrs) gots sizes f c

-- a consolidation fetches the source at a place, and has got those before
pub record IsFetching {F : Type 0} (codec : Codec F) (s : Survey) (sources : List Opened) (schema : Schema) (next : ℕ) (frag : FragKey) (got : List (List Version)) (f : F) (c : Call) : Type 0 where
  pub has : HasSources codec s schema sources
  pub taken : AreGot codec s.frame schema.attrs (take next sources) got
  pub within : next < length sources
  pub source : Opened
  pub at : slice_get sources next ≡ Some source
  pub named : source.frag ≡ frag
  pub going : IsGoing codec s.frame schema source f c

-- a consolidation can merge so
abbrev pub IsMerging : {F : Type 0} → Codec F → Merging F → Type 0
IsMerging codec ListsCommits = ⊤
IsMerging codec (ListsSchemas c) = AreCandidates c
IsMerging codec (GetsFrame c) = AreCandidates c
IsMerging codec (GetsVacs s) = IsSurvey s
IsMerging codec (GetsHeads s opened) = IsSurvey s × AreOpened codec s.frame opened
IsMerging codec (GetsSchemas s opened keys schemas) = IsSurvey s × AreOpened codec s.frame opened × AreFirst keys schemas × HaveAttrs schemas
IsMerging codec (Fetches s sources schema next frag got f c) = IsFetching codec s sources schema next frag got f c × IsWorkCall c

-- each of the objects has a name with a spelling
abbrev pub HaveNames : List NewObject → Type 0
HaveNames objects = All (λ (o : NewObject). IsSpelled o.name) objects

-- a consolidation can be in the state: it merges, it puts its objects, or it is over
abbrev pub IsMergeState : {F : Type 0} → Codec F → State F → Type 0
IsMergeState codec (Merges s) = IsMerging codec s
IsMergeState codec (Puts objects next end) = HaveNames objects
IsMergeState codec (Over end) = ⊤
IsMergeState codec _ = ⊥

-- so can the consolidation of any job
abbrev pub MayMerge : {F : Type 0} → Codec F → Job → State F → Type 0
MayMerge codec job s = IsMergeState codec s

-- more than the calls that the fetches of so many sources make, and then the puts
abbrev pub fetches_left : ℕ → ℕ
fetches_left sources = sources * 2 ^ 128 + 2 ^ 64

-- the most calls of a consolidation that has not come to its puts, where a fetch has so many left
abbrev pub merge_left : {F : Type 0} → (F → ℕ) → Merging F → ℕ
merge_left left ListsCommits = 2 ^ 195 + 3
merge_left left (ListsSchemas c) = 2 ^ 195 + 2
merge_left left (GetsFrame c) = 2 ^ 195 + 1
merge_left left (GetsVacs s) = 2 ^ 194 + 2 ^ 193 + (length s.counting - length s.vacs)
merge_left left (GetsHeads s opened) = 2 ^ 194 + (length s.fragments - length opened)
merge_left left (GetsSchemas s opened keys schemas) = 2 ^ 193 + (length keys - length schemas)
merge_left left (Fetches s sources schema next frag got f c) = fetches_left (length sources - suc next) + suc (left f)

-- the most calls that a consolidation makes from a state on
abbrev pub merges_left : {F : Type 0} → (F → ℕ) → State F → ℕ
merges_left left (Merges s) = merge_left left s
merges_left left (Puts objects next end) = length objects - next
merges_left left _ = 0

-- the job that merges fragments of the interval from `from` to `to`; it is stopped nowhere
abbrev pub merge_job : ℕ → ℕ → ℕ → ℕ → Limits → Job
merge_job at id from to limits = record { command = Consolidate from to limits; at = at; id = id; stop = Never }
