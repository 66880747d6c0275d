-- Jobs that seek the schema that they work in, and the frame: the states in which they can be, and how many calls they have left.
use Rattle.std.specs.Prelude.{ℕ, ◌+◌, ◌^◌, ⊤}
use Rattle.ts_schema.specs.SchemaTexts.{AreAttrs}
use Rattle.ts_model.specs.declared.states.Creating.{Creating}
use Rattle.ts_model.specs.declared.states.Creating.TheVariants.{PutsFrame, ComparesFrame, ListsDeclared}
use Rattle.ts_model.specs.declared.states.Listed.{Listed}
use Rattle.ts_model.specs.declared.states.Seeking.{Seeking}
use Rattle.ts_model.specs.declared.states.Seeking.TheVariants.{ListsCommits, ListsSchemas, GetsSchema, GetsFrame}
use Rattle.ts_model.specs.declared.states.State.{State}
use Rattle.ts_model.specs.declared.states.State.TheVariants.{Creates, Seeks, Over}

-- a job that knows this of what it looks into can be in the state; the attributes of the schema are such as there can be
abbrev pub IsSeeking : (Listed → Type 0) → Seeking → Type 0
IsSeeking knows ListsCommits = ⊤
IsSeeking knows (ListsSchemas listed) = knows listed
IsSeeking knows (GetsSchema listed current) = knows listed
IsSeeking knows (GetsFrame listed current) = knows listed × AreAttrs current.attrs

-- a job can be in the state that seeks so, and then may be in these states
abbrev pub MaySeek : {F : Type 0} → (Listed → Type 0) → (State F → Type 0) → State F → Type 0
MaySeek knows may (Seeks s) = IsSeeking knows s
MaySeek knows may (Over end) = ⊤
MaySeek knows may s = may s

-- the most calls of a create that has not come to its puts
abbrev pub create_left : Creating → ℕ
create_left PutsFrame = 2 ^ 195 + 2
create_left ComparesFrame = 2 ^ 195 + 1
create_left ListsDeclared = 2 ^ 195

-- the most calls of a job that seeks
abbrev pub seek_left : Seeking → ℕ
seek_left ListsCommits = 2 ^ 195 + 3
seek_left (ListsSchemas listed) = 2 ^ 195 + 2
seek_left (GetsSchema listed current) = 2 ^ 195 + 1
seek_left (GetsFrame listed current) = 2 ^ 195

-- the most calls of a job from a state on, where it has so many left once it has what it sought
abbrev pub state_left : {F : Type 0} → (State F → ℕ) → State F → ℕ
state_left left (Creates s) = create_left s
state_left left (Seeks s) = seek_left s
state_left left (Over end) = 0
state_left left s = left s
