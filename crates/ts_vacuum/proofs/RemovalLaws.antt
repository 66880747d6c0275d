-- Jobs that begin with a listing: where it leads, and the states of one that removes objects.
use Rattle.std.proofs.Common.{◌≡◌, List, refl, sym, subst}
use Rattle.std.specs.Prelude.{All}
use Rattle.ts_base.specs.declared.names.Name.{Name}
use Rattle.ts_base.specs.Names.{IsSpelled}
use Rattle.ts_store.specs.declared.call.Call.{Call}
use Rattle.ts_store.specs.declared.call.Reply.{Reply}
use Rattle.ts_store.specs.declared.call.Reply.TheVariants as reply
use Rattle.ts_model.specs.declared.states.State.{State}
use Rattle.ts_model.specs.declared.states.State.TheVariants.{Over, Removes}
use Rattle.ts_model.specs.States.{ended, on_names}
use Rattle.ts_vacuum.specs.Listing.{IsListState}
use Rattle.ts_vacuum.specs.Removing.{IsRemoving}

-- a reply that has no names ends a job that made a listing
pub no_names : {F : Type 0} (c : Call) (on : List Name → State F) (r : Reply) → ((names : List Name) → r ≡ reply.Names names → ⊥) → on_names c on r ≡ ended c r
no_names c on (reply.Names names) none = absurd (none names refl)
no_names c on _ none = refl

-- a job that removes objects whose names have spellings
pub list_removing : {F : Type 0} (names : List Name) (s : State F) → All IsSpelled names → IsRemoving names s → IsListState s
list_removing names (Removes others next end) spelled is = subst (All IsSpelled) (sym is) spelled
list_removing names (Over end) spelled is = tt
list_removing names _ spelled is = absurd is
