-- What the calls of a turnstile say of passes.
use Rattle.std.specs.Prelude.{◌≡◌, ◌≢◌, ℕ, false, IfSome, List, [], ◌∷◌, ◌++◌}
use Rattle.ts_store.specs.declared.fate.Fate.{Fate}
use Rattle.ts_store.specs.declared.fate.Fate.TheVariants as fate
use Rattle.ts_store.specs.declared.call.Call.{Call}
use Rattle.ts_store.specs.declared.call.Reply.{Reply}
use Rattle.ts_store.specs.declared.call.Reply.TheVariants as reply
use Rattle.ts_store.specs.Calls.{reply_of, is_no_memory}
use Rattle.ts_store.specs.Journals.{held_after}
use Rattle.ts_turnstile.specs.declared.turn.Turn.{Turn}
use Rattle.ts_turnstile.specs.declared.view.View.{View}
use Rattle.ts_turnstile.specs.declared.pass.Pass.{Pass}
use Rattle.ts_turnstile.specs.Lanes.{Hears}
use Rattle.ts_turnstile.specs.Turns.{turn, entries_in}
use Rattle.ts_turnstile.specs.Views.{view_in, lanes_of, saw}

-- what a pass knows
abbrev pub pass_view : Pass → View
pass_view pass = view_in pass.badge.views

-- the turns go on from what the pass had seen, by turns of others
abbrev pub GoesOn : View → List Turn → Type 0
GoesOn v turns = Hears v.seen (lanes_of v) turns

-- a call of the pass's lane for a command was made in its turn, and nothing changed but what the pass has seen: after what it had seen, and turns of others, this turn is the last one
pub record CalledInTurn (v w : View) (number : ℕ) (call : Call) (said : Reply) : Type 0 where
  pub same : w ≡ saw v w.seen
  pub before : List Turn
  pub did : Fate
  pub goes_on : GoesOn v before
  pub turns : w.seen ≡ before ++ turn v.lane number call did said ∷ []
  -- but for want of memory its reply is that of a store of one thread that holds what the entries before leave
  pub replied : is_no_memory said ≡ false → IfSome v.opening.held (λ m. (said ≡ reply_of (held_after m (entries_in before)) call did) × (did ≢ fate.Unknown))
  pub failed : said ≡ reply.Failed → did ≢ fate.Done
  pub served : said ≢ reply.Failed → did ≡ fate.Done
