-- What one call of a job does to what is kept.
use Rattle.std.specs.Prelude.{◌≡◌, ℕ, true, List, [], ◌∷◌, ◌++◌, Some, slice_get, Contains, ◌⊎◌}
use Rattle.ts_base.specs.declared.keys.Key.{Key}
use Rattle.ts_base.specs.declared.names.Name.{Name}
use Rattle.ts_model.specs.declared.commands.Job.{Job}
use Rattle.ts_model.specs.declared.commands.Command.TheVariants.{Vacuum}
use Rattle.ts_model.specs.declared.states.State.{State}
use Rattle.ts_base.specs.Held.{Held}
use Rattle.ts_law.specs.Kept.{Claims, StageClaims}
use Rattle.ts_model.specs.Told.{Told, after_told, IsShortCall, IsReplied, held_told, history_told}
use Rattle.ts_law.specs.Fresh.{id_in, AreSpent, IsSpent}
use Rattle.ts_law.specs.Leases.{is_granted}
use Rattle.ts_law.specs.Stands.{DoesName, IsCommitted, IsNamed, Stands, IsNoLease}
use Rattle.ts_base.specs.declared.keys.FragKey.{FragKey}
use Rattle.ts_model.specs.States.{asks, goes}
use Rattle.ts_model.specs.Stages.{goes_on}
use Rattle.ts_model.specs.Driven.{MayAsk}
use Rattle.ts_model.specs.declared.states.Stage.{Stage}
use Rattle.ts_model.specs.Codecs.{Codec, Spelled, Tracking}
use Rattle.ts_model.specs.Jobs.{IsFit, AreApart}
use Rattle.ts_model.specs.Deeds.{History, keys}
use Rattle.ts_base.specs.declared.names.Name.TheVariants as name
use Rattle.ts_store.specs.declared.call.Call.TheVariants as call
use Rattle.std.specs.FinMap as map

-- the objects on which another job may rely to stay: all but leases
abbrev pub Stays : Name → Type 0
Stays n = IsNoLease n

-- a call of the job with an identifier leads from m and h to these: what is held stays, but perhaps leases; what comes carries the identifier or is the frame, and the history grows by deeds of that identifier
pub record Keeps (m m' : Held) (h h' : History) (id : ℕ) : Type 0 where
  pub keeps : (n : Name) (bytes : List ℕ) → Stays n → map.get m n ≡ Some bytes → map.get m' n ≡ Some bytes
  pub adds : (n : Name) (bytes : List ℕ) → map.get m' n ≡ Some bytes → (map.get m n ≡ Some bytes) ⊎ ((id_in n ≡ Some id) ⊎ (n ≡ name.Domain))
  -- what the `.vac` of a committed fragment names was committed before, or was named by one before
  pub names : (g f : FragKey) → IsCommitted m' g → DoesName m' g f → IsCommitted m f ⊎ IsNamed m f
  pub more : History
  pub grows : h' ≡ h ++ more
  pub come : (k : Key) → Contains (keys more) k → k.id ≡ id

-- what a call of a job leads to that removes nothing but perhaps a lease: the objects stand for the history after it, and it leaves the other jobs' claims alone
pub record Leads (spelled : Spelled) (past : History) (jobs : List Job) (seen : List Told) (e : Told) (m : Held) (id : ℕ) : Type 0 where
  pub stands : Stands spelled (after_told m e) (history_told jobs past (seen ++ e ∷ []))
  pub leaves : Keeps m (after_told m e) (history_told jobs past seen) (history_told jobs past (seen ++ e ∷ [])) id

-- what a removal of a vacuum leads to: the objects stand for the same history, and what is removed carries an identifier that was spent
pub record Clears (spelled : Spelled) (opening : Held) (past : History) (jobs : List Job) (seen : List Told) (e : Told) (m : Held) (job : Job) : Type 0 where
  pub vacuums : job.command ≡ Vacuum
  pub removed : Name
  pub removes : e.call ≡ call.Remove removed
  pub id : ℕ
  pub carries : id_in removed ≡ Some id
  pub spent : IsSpent opening past seen id
  pub same_history : history_told jobs past (seen ++ e ∷ []) ≡ history_told jobs past seen
  pub stands : Stands spelled (after_told m e) (history_told jobs past (seen ++ e ∷ []))

-- what a call of a job leads to that removes nothing but perhaps a lease: the claims of the job itself are those of where its work comes
pub record Advances {F : Type 0} (codec : Codec F) (spelled : Spelled) (tracks : Tracking F) (opening : Held) (past : History) (jobs : List Job) (seen : List Told) (e : Told) (m : Held) (number : ℕ) (job : Job) (s : State F) : Type 0 where
  pub leads : Leads spelled past jobs seen e m job.id
  pub own : Claims codec spelled tracks opening past jobs (seen ++ e ∷ []) (after_told m e) number job (goes codec job s e.reply)

-- what any call of a job at its work leads to
pub record Moves {F : Type 0} (codec : Codec F) (spelled : Spelled) (tracks : Tracking F) (opening : Held) (past : History) (jobs : List Job) (seen : List Told) (e : Told) (m : Held) (number : ℕ) (job : Job) (s : State F) : Type 0 where
  pub leads : Leads spelled past jobs seen e m job.id ⊎ Clears spelled opening past jobs seen e m job
  pub own : Claims codec spelled tracks opening past jobs (seen ++ e ∷ []) (after_told m e) number job (goes codec job s e.reply)

-- a call of a job at its work that comes after these, in a state whose claims hold
pub record Comes {F : Type 0} (codec : Codec F) (spelled : Spelled) (tracks : Tracking F) (opening : Held) (past : History) (jobs : List Job) (seen : List Told) (e : Told) (m : Held) (number : ℕ) (job : Job) (s : State F) : Type 0 where
  pub stands : Stands spelled m (history_told jobs past seen)
  pub is_held : m ≡ held_told opening seen
  pub spent : AreSpent opening past seen m
  pub apart : AreApart jobs
  pub fit : IsFit job
  pub own : e.job ≡ Some number
  pub is_job : slice_get jobs number ≡ Some job
  pub replied : IsReplied m e
  pub short : IsShortCall e.call
  pub asked : asks codec job s ≡ Some e.call
  pub claims : Claims codec spelled tracks opening past jobs seen m number job s

-- a vacuum that was granted its lease clears an object
pub record StageClears {F : Type 0} (spelled : Spelled) (opening : Held) (past : History) (jobs : List Job) (seen : List Told) (e : Told) (m : Held) (job : Job) (stage : Stage F) : Type 0 where
  pub clears : Clears spelled opening past jobs seen e m job
  pub granted : is_granted stage ≡ true

-- what any call of a job leads to: the claims of the job itself are those of the stage where it comes
pub record StageAdvances {F : Type 0} (codec : Codec F) (spelled : Spelled) (tracks : Tracking F) (opening : Held) (past : History) (jobs : List Job) (seen : List Told) (e : Told) (m : Held) (number : ℕ) (job : Job) (stage : Stage F) : Type 0 where
  pub leads : Leads spelled past jobs seen e m job.id ⊎ StageClears spelled opening past jobs seen e m job stage
  pub own : StageClaims codec spelled tracks opening past jobs (seen ++ e ∷ []) (after_told m e) number job (goes_on codec job stage (record { call = e.call; reply = e.reply }))

-- a call of a job that comes after these, in a stage whose claims hold
pub record StageComes {F : Type 0} (codec : Codec F) (spelled : Spelled) (tracks : Tracking F) (opening : Held) (past : History) (jobs : List Job) (seen : List Told) (e : Told) (m : Held) (number : ℕ) (job : Job) (stage : Stage F) : Type 0 where
  pub stands : Stands spelled m (history_told jobs past seen)
  pub is_held : m ≡ held_told opening seen
  pub spent : AreSpent opening past seen m
  pub apart : AreApart jobs
  pub fit : IsFit job
  pub own : e.job ≡ Some number
  pub is_job : slice_get jobs number ≡ Some job
  pub replied : IsReplied m e
  pub short : IsShortCall e.call
  pub asked : MayAsk codec job stage e.call
  pub claims : StageClaims codec spelled tracks opening past jobs seen m number job stage
