-- Why a command is refused: what its refusal tells of its calls, and of the histories before and after it.
use Rattle.std.specs.Prelude.{◌≡◌, ◌≢◌, ℕ, List, [], ◌∷◌, ◌++◌, Some, None, Contains, ◌⊎◌}
use Rattle.ts_base.specs.Keys.{frag_of}
use Rattle.ts_base.specs.declared.keys.Key.{Key}
use Rattle.ts_base.specs.declared.names.LeaseMode.{LeaseMode}
use Rattle.ts_base.specs.declared.names.Name.{Name}
use Rattle.ts_base.specs.declared.names.Name.TheVariants as name
use Rattle.ts_base.specs.declared.names.Place.{Place}
use Rattle.ts_base.specs.declared.names.Place.TheVariants as place
use Rattle.ts_base.specs.declared.names.Prefix.TheVariants.{Leases}
use Rattle.ts_commit.specs.declared.vacs.Planned.TheVariants.{Nothing}
use Rattle.ts_lease.specs.declared.verdicts.Verdict.TheVariants.{Held as Opposed}
use Rattle.ts_lease.specs.Leases.{verdict_in}
use Rattle.ts_store.specs.declared.fate.Fate.TheVariants as fate
use Rattle.ts_store.specs.declared.journal.Entry.{Entry}
use Rattle.ts_store.specs.Calls.{names_under}
use Rattle.ts_store.specs.Journals.{held_after}
use Rattle.ts_schema.specs.declared.frames.Frame.{Frame}
use Rattle.ts_schema.specs.declared.schemas.Schema.{Schema}
use Rattle.ts_model.specs.declared.commands.Command.{Command}
use Rattle.ts_model.specs.declared.commands.Command.TheVariants.{Create, Read, Consolidate, Vacuum, Unlock, Fragments}
use Rattle.ts_model.specs.declared.answers.Refusal.{Refusal}
use Rattle.ts_model.specs.declared.answers.Refusal.TheVariants as refusal
use Rattle.ts_model.specs.Commands.{create_refusal, frame_made}
use Rattle.ts_model.specs.Deeds.{History, IsNewKey, frame_in, current_schema, schemas}
use Rattle.ts_model.specs.Stages.{mode_of}
use Rattle.ts_model.specs.States.{place_of}
use Rattle.ts_law.specs.Ends.{kind_of}
use Rattle.ts_law.specs.Refusals.{refusal_in}
use Rattle.ts_top.specs.Merges.{Calls, Plans}

-- faults of a command's own puts by which a deed may come: of its commit, and of its schema
abbrev pub own_faults : Key → Command → List Refusal
own_faults k (Read from to query) = []
own_faults k (Consolidate from to limits) = []
own_faults k Vacuum = []
own_faults k (Unlock seed lane) = []
own_faults k Fragments = []
own_faults k command = refusal.StoreFault (place.Name (name.Commit (frag_of k) (kind_of command))) ∷ refusal.StoreFault (place.Name (name.Schema k)) ∷ []

-- one of the calls failed, which speaks of this object or prefix
abbrev pub OneFailed : Calls → Place → Type 0
OneFailed calls p = (e : Entry) × Contains calls.entries e × (p ≡ place_of e.call) × (e.fate ≢ fate.Done)

-- a lease was in the way: of those that were held after some front of the calls this one was the first that opposes the command's own
abbrev pub IsOpposed : Calls → Key → Command → Name → Type 0
IsOpposed calls k command other =
    (front : List Entry) × (back : List Entry) × (calls.entries ≡ front ++ back) × (mode : LeaseMode) × (mode_of command ≡ Some mode)
    × (verdict_in (names_under Leases (held_after calls.opening front)) (name.Lease k mode) ≡ Opposed other)

-- where a command looks for its schema: a read at the end of its interval, another one at its stamp
abbrev pub looks_for : Key → Command → ℕ
looks_for k (Read from to query) = to
looks_for k _ = k.t

-- the cause of a refusal in a history.
-- A create finds another frame than its own, or a schema, or is refused for itself.
-- An unlock and a list of the commits are refused for failed calls alone.
-- Another command finds no schema, or a lease in its way, or is refused in the frame and the schema there.
-- A consolidation that has nothing to do finds a schema at its stamp, and its plan takes nothing, where so many fragments may be merged.
abbrev pub HasCause : Calls → History → Key → Refusal → Command → Type 0
HasCause calls h k refusal.ArrayExists (Create made) = ((frame : Frame) × (frame_in h ≡ Some frame) × (frame ≢ frame_made made)) ⊎ ((s : Schema) × Contains (schemas h) s)
HasCause calls h k r (Create made) = create_refusal made ≡ Some r
HasCause calls h k r (Unlock seed lane) = ⊥
HasCause calls h k r Fragments = ⊥
HasCause calls h k (refusal.NoSchema at) command = (at ≡ looks_for k command) × (current_schema h at ≡ None)
HasCause calls h k (refusal.Leased other) command = IsOpposed calls k command other
HasCause calls h k (refusal.NothingToDo eligible) (Consolidate from to limits) = (current : Schema) × (current_schema h k.t ≡ Some current) × Plans calls h from to limits (Nothing eligible)
HasCause calls h k r command = (current : Schema) × (current_schema h (looks_for k command) ≡ Some current) × (frame : Frame) × (frame_in h ≡ Some frame) × (refusal_in frame current.attrs command ≡ Some r)

-- what a refusal tells.
-- No object is missing, damaged or taken.
-- Where a call failed, the history has no deed of the command, but perhaps that of the put that failed.
-- A command that is refused else did no deed, for a cause.
abbrev pub TellsRefusal : Calls → History → History → Key → Command → Refusal → Type 0
TellsRefusal calls before now k command (refusal.Missing n) = ⊥
TellsRefusal calls before now k command (refusal.Damaged n at) = ⊥
TellsRefusal calls before now k command (refusal.Taken n) = ⊥
TellsRefusal calls before now k command (refusal.StoreFault p) = OneFailed calls p × (IsNewKey now k ⊎ Contains (own_faults k command) (refusal.StoreFault p))
TellsRefusal calls before now k command r = (now ≡ before) × IsNewKey now k × HasCause calls now k r command
