-- What is recorded of a call that was made.
use Rattle.std.proofs.Common.{◌≡◌, ◌≢◌, ℕ, Bool, true, false, cond, inr, List, [], ◌∷◌, ◌++◌, refl, sym, ap, ◌∙◌, subst}
use Rattle.std.specs.Prelude.{Result, Ok, Err}
use Rattle.ts_store.specs.declared.fate.Fate.{Fate}
use Rattle.ts_store.specs.declared.fate.Fate.TheVariants as fate
use Rattle.ts_store.specs.declared.call.Call.{Call}
use Rattle.ts_store.specs.declared.call.Reply.{Reply}
use Rattle.ts_store.specs.declared.call.Reply.TheVariants as reply
use Rattle.ts_store.specs.declared.call.StoreError.{StoreError}
use Rattle.ts_store.specs.declared.call.StoreError.TheVariants as error
use Rattle.ts_store.specs.declared.journal.Entry.{Entry}
use Rattle.ts_store.specs.declared.recorder.Book.{Book}
use Rattle.ts_store.specs.declared.recorder.Recorder.{Recorder}
use Rattle.ts_store.specs.Calls.{is_no_memory, reply_to}
use Rattle.ts_store.specs.Stores.{HasCause}
use Rattle.ts_store.specs.Journals.{entry, EntersIf, Enters}
use Rattle.ts_store.specs.Recorders.{found_none, vacant, WasMade, Recorded}
use Rattle.ts_store.proofs.JournalLemmas.{failures-Enters}

-- a call found no memory exactly where its reply says so
pub found_none_reply : {X : Type 0} (told : X → Reply) → ((x : X) → is_no_memory (told x) ≡ false) → (answer : Result X StoreError) → found_none answer ≡ is_no_memory (reply_to told answer)
found_none_reply told served (Ok x) = sym (served x)
found_none_reply told served (Err error.Failed) = refl
found_none_reply told served (Err error.OutOfMemory) = refl

-- the fate that is kept is that of the call, where it was made
kept_entry : (missed : Bool) (lane : ℕ) (call : Call) (did kept : Fate) (journal longer : List Entry) → EntersIf missed journal longer (entry lane call did) → kept ≡ cond missed fate.Done did → EntersIf missed journal longer (entry lane call kept)
kept_entry true lane call did kept journal longer enters is = enters
kept_entry false lane call did kept journal longer enters is = enters ∙ ap (λ f. journal ++ entry lane call f ∷ []) (sym is)

kept_served : (missed : Bool) (did kept : Fate) → kept ≡ cond missed fate.Done did → did ≡ fate.Done → kept ≡ fate.Done
kept_served true did kept is served = is
kept_served false did kept is served = is ∙ served

-- the fate that is kept is the one that the store told
kept_tied : (missed : Bool) (said : Reply) (did kept told : Fate) → missed ≡ is_no_memory said → kept ≡ cond missed fate.Done did → did ≡ told → (said ≢ reply.Failed → told ≡ fate.Done) → kept ≡ told
kept_tied true said did kept told same is tied served = is ∙ sym (served (λ failed. let other : is_no_memory said ≡ false = ap is_no_memory failed in cc))
kept_tied false said did kept told same is tied served = is ∙ tied

-- a call was made: its place was taken before, and then it was entered there
pub recorded : {S : Type 0} (faults asked : S → ℕ) (told : S → Fate) (notes : S → Call → Reply → S → Type 0) (before now : Recorder S) (opened : Book) (call : Call) (said : Reply) (missed : Bool) (did : Fate)
    → opened.lane ≡ before.book.lane → opened.journal ≡ before.book.journal ++ vacant before.book.lane ∷ []
    → ((front : List Entry) (e : Entry) → opened.journal ≡ front ++ e ∷ [] → EntersIf missed front now.book.journal (entry opened.lane call did))
    → now.book.last ≡ cond missed fate.Done did → now.book.lane ≡ opened.lane → missed ≡ is_no_memory said
    → WasMade asked notes before.store call said now.store → did ≡ told now.store → HasCause (faults before.store) (faults now.store) said → (said ≢ reply.Failed → told now.store ≡ fate.Done)
    → Recorded faults asked told notes before now call said
recorded faults asked told notes before now opened call said missed did lane place closes last stays is made tied cause served =
    let L : ℕ → Type 0 = λ l. EntersIf missed before.book.journal now.book.journal (entry l call did) in
    let enters = subst L lane (closes before.book.journal (vacant before.book.lane) place) in
    let kept = kept_entry missed before.book.lane call did now.book.last before.book.journal now.book.journal enters last in
    let P : Bool → Type 0 = λ b. EntersIf b before.book.journal now.book.journal (entry before.book.lane call now.book.last) in
    let entered : Enters before.book.journal now.book.journal before.book.lane call now.book.last said = subst P is kept in
    record {
      lane = stays ∙ lane;
      enters = entered;
      noted = inr (made, kept_tied missed said did now.book.last (told now.store) is last tied served);
      counted = λ base counts. failures-Enters base _ _ _ _ before.book.lane call now.book.last said counts cause (λ other. kept_served missed did now.book.last last (tied ∙ served other)) entered;
    }
