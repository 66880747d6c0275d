-- What a consolidation tells of the fragments: what it found, and what it merged.
use Rattle.std.specs.Prelude.{◌≡◌, ℕ, List, ◌++◌, filter, length}
use Rattle.std.specs.List.{list_any}
use Rattle.ts_base.specs.Held.{Held}
use Rattle.ts_base.specs.declared.keys.FragKey.{FragKey}
use Rattle.ts_base.specs.declared.keys.Key.{Key}
use Rattle.ts_base.specs.declared.heads.Piece.{Piece}
use Rattle.ts_commit.specs.Selections.{has_origin, is_among, names_merged}
use Rattle.ts_commit.specs.declared.vacs.Limits.{Limits}
use Rattle.ts_commit.specs.declared.vacs.Planned.{Planned}
use Rattle.ts_commit.specs.declared.vacs.Planned.TheVariants.{Take}
use Rattle.ts_store.specs.declared.journal.Entry.{Entry}
use Rattle.ts_store.specs.Journals.{held_after}
use Rattle.ts_model.specs.Deeds.{History}
use Rattle.ts_law.specs.Ends.{IsPlanned}
use Rattle.ts_law.specs.Stands.{HoldsIn, IsCommitted, Names}
use Rattle.ts_top.specs.Runners.{run_spelled}

-- the calls that a command made, with what was held before them
pub record Calls : Type 0 where
  pub opening : Held
  pub entries : List Entry

-- what was held after some front of the calls
abbrev pub held_by : Calls → List Entry → Held
held_by calls front = held_after calls.opening front

-- a consolidation came to this plan: it is that of the fragments in its interval that were committed after some front of its calls
pub record Plans (calls : Calls) (h : History) (from to : ℕ) (limits : Limits) (plan : Planned) : Type 0 where
  pub front : List Entry
  pub back : List Entry
  pub parts : calls.entries ≡ front ++ back
  pub by_plan : IsPlanned run_spelled h (held_by calls front) from to limits plan

-- a consolidation with the key merged so many fragments into one of its own: those that its plan takes.
-- At the end of its calls that one is committed.
-- All that went into a source went into it, and nothing else.
-- Its `.vac` names the sources, and what the `.vac` objects of these named.
pub record Merged (calls : Calls) (h : History) (k : Key) (from to : ℕ) (limits : Limits) (f : FragKey) (count : ℕ) : Type 0 where
  pub sources : List FragKey
  pub plans : Plans calls h from to limits (Take sources)
  pub counted : count ≡ length sources
  pub own : f.id ≡ k.id
  pub committed : IsCommitted (held_by calls calls.entries) f
  pub piece : Piece
  pub holds : HoldsIn run_spelled h (held_by calls calls.entries) f piece
  pub origins : (w : Key) → has_origin w piece.head ≡ list_any (has_origin w) (filter (λ head. is_among head.frag sources) (plans.by_plan).heads)
  pub vac : Names (held_by calls calls.entries) f (names_merged (plans.by_plan).vacs sources)
