-- What a call to a store may answer and do.
use Rattle.std.specs.Prelude.{◌≡◌, ◌≢◌, ℕ, ◌≤◌, Bool, true, false, Option, Some, IsSome, IfSome}
use Rattle.ts_base.specs.Held.{Held}
use Rattle.ts_store.specs.declared.fate.Fate.{Fate}
use Rattle.ts_store.specs.declared.fate.Fate.TheVariants as fate
use Rattle.ts_store.specs.declared.call.Call.{Call}
use Rattle.ts_store.specs.declared.call.Reply.{Reply}
use Rattle.ts_store.specs.declared.call.Reply.TheVariants as reply
use Rattle.ts_store.specs.Calls.{after, reply_of, is_no_memory}
use Rattle.ts_store.specs.Counts.{Rose}

-- one call on what is held: for want of memory nothing changes, and else the fate decides effect and reply
abbrev pub Steps : Bool → Held → Option Held → Fate → Call → Reply → Type 0
Steps true m now fate call reply = now ≡ Some m
Steps false m now fate call reply = (now ≡ Some (after m call fate)) × (reply ≡ reply_of m call fate)

-- a call of a store that may tell what it holds
pub record Answers (before now : Option Held) (done : Fate) (call : Call) (said : Reply) : Type 0 where
  pub told : IfSome before (λ m. Steps (is_no_memory said) m now done call said)
  pub known : IsSome before → done ≢ fate.Unknown
  pub failed : said ≡ reply.Failed → done ≢ fate.Done
  pub served : said ≢ reply.Failed → done ≡ fate.Done

-- the count of faults never falls, and a call failed only where it went up
pub record HasCause (before now : ℕ) (said : Reply) : Type 0 where
  pub later : before ≤ now
  pub failed : said ≡ reply.Failed → Rose before now
