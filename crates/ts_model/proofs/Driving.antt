-- One more call of a job on its way.
use Rattle.std.proofs.Common.{◌≡◌, ℕ, Bool, true, false, cond, inl, inr, List, [], ◌∷◌, ◌++◌, Option, Some, None, refl, sym, ◌∙◌, ap, subst, append_assoc, append-nil}
use Rattle.std.specs.Prelude.{IfSome}
use Rattle.std.proofs.lemmas.List.Elements.{All-nil, All-push, filter_map-append}
use Rattle.ts_base.specs.Held.{Held}
use Rattle.ts_store.specs.declared.fate.Fate.{Fate}
use Rattle.ts_store.specs.declared.call.Call.{Call}
use Rattle.ts_store.specs.declared.call.Reply.{Reply}
use Rattle.ts_store.specs.declared.journal.Entry.{Entry}
use Rattle.ts_store.specs.Calls.{after, is_no_memory, FitsCall}
use Rattle.ts_store.specs.Stores.{Steps, Answers}
use Rattle.ts_store.specs.Journals.{Enters, EntersIf, entry}
use Rattle.ts_model.specs.declared.commands.Job.{Job}
use Rattle.ts_model.specs.States.{Exchange}
use Rattle.ts_model.specs.Stages.{first_stage, stage_of}
use Rattle.ts_model.specs.Codecs.{Codec}
use Rattle.ts_model.specs.Told.{Told, IsShortCall, Suits, IsReplied, Replied, after_told, held_told, changes, only_lane, entry_of, entries_of}
use Rattle.ts_model.specs.Driven.{MayAsk}
use Rattle.ts_model.specs.Driving.{Leaves, RanTo}
use Rattle.ts_model.proofs.Asked.{asked-push}
use Rattle.ts_model.proofs.Traces.{held_told-append, trace_of-own}

-- one more call is replied to over what those before it left
replied-push : (m : Held) (told : List Told) (e : Told) → Replied m told → IsReplied (held_told m told) e → Replied m (told ++ e ∷ [])
replied-push m [] e r q = (q, tt)
replied-push m (d ∷ told) e r q = (r.0, replied-push (after_told m d) told e r.1 q)

-- whether a call changed what is held, where the store told that; over one that does not tell it is said not to
abbrev pub changed_at : Option Held → Call → Fate → Reply → Bool
changed_at None c fate r = false
changed_at (Some m) c fate r = cond (is_no_memory r) false (changes m c fate)

-- what a call that was made is told as
abbrev pub told_as : ℕ → Option Held → Call → Fate → Reply → Told
told_as number now c fate r = record { job = Some number; call = c; fate = fate; reply = r; changed = changed_at now c fate r }

-- a call on what is held is replied to, and leaves what it does to it
step_replied : (number : ℕ) (m : Held) (c : Call) (fate : Fate) (r : Reply) (later : Option Held) (b : Bool) → is_no_memory r ≡ b → Steps b m later fate c r → IsReplied m (record { job = Some number; call = c; fate = fate; reply = r; changed = cond b false (changes m c fate) }) × (later ≡ Some (cond b m (after m c fate)))
step_replied number m c fate r later true is steps = (inl (is, refl), steps)
step_replied number m c fate r later false is steps = (inr (steps.1, refl), steps.0)

-- what is held after one more call
leaves-push : (number : ℕ) (m : Held) (now later : Option Held) (told : List Told) (c : Call) (fate : Fate) (r : Reply) → Leaves m now told → IfSome now (λ h. Steps (is_no_memory r) h later fate c r) → Leaves m later (told ++ told_as number now c fate r ∷ [])
leaves-push number m now later told c fate r leaves steps =
    let here : Held = held_told m told in
    let P : Option Held → Type 0 = λ o. IfSome o (λ h. Steps (is_no_memory r) h later fate c r) in
    let Q : Option Held → Type 0 = λ o. Leaves m later (told ++ told_as number o c fate r ∷ []) in
    let done = step_replied number here c fate r later (is_no_memory r) refl (subst P leaves.held steps) in
    subst Q (sym leaves.held) (record {
      replied = replied-push m told (told_as number (Some here) c fate r) leaves.replied done.0;
      held = done.1 ∙ ap Some (sym (held_told-append m told (told_as number (Some here) c fate r ∷ [])));
    })

-- so it is over a store that may tell what it holds
over-push : (number : ℕ) (held now later : Option Held) (told : List Told) (c : Call) (fate : Fate) (r : Reply) → IfSome held (λ m. Leaves m now told) → IfSome now (λ h. Steps (is_no_memory r) h later fate c r) → IfSome held (λ m. Leaves m later (told ++ told_as number now c fate r ∷ []))
over-push number None now later told c fate r leaves steps = tt
over-push number (Some m) now later told c fate r leaves steps = leaves-push number m now later told c fate r leaves steps

-- the journal has the entry of one more call
entered : (number lane : ℕ) (now : Option Held) (c : Call) (fate : Fate) (r : Reply) (before after_ : List Entry) (told : List Told) (journal : List Entry) (b : Bool) → is_no_memory r ≡ b → journal ≡ before ++ entries_of (only_lane lane) told → EntersIf b journal after_ (entry lane c fate) → after_ ≡ before ++ entries_of (only_lane lane) (told ++ told_as number now c fate r ∷ [])
entered number lane now c fate r before after_ told journal b is q enters =
    by_case b is enters ∙ sym (ap (λ es. before ++ es) (filter_map-append (entry_of (only_lane lane)) told (told_as number now c fate r ∷ [])))
  where
    by_case : (b : Bool) → is_no_memory r ≡ b → EntersIf b journal after_ (entry lane c fate) → after_ ≡ before ++ (entries_of (only_lane lane) told ++ entries_of (only_lane lane) (told_as number now c fate r ∷ []))
    by_case true is' enters' = enters' ∙ q ∙ ap (λ es. before ++ es) (sym (append-nil (entries_of (only_lane lane) told)) ∙ ap (λ es. entries_of (only_lane lane) told ++ es) (sym (none is')))
      where
        none : is_no_memory r ≡ true → entries_of (only_lane lane) (told_as number now c fate r ∷ []) ≡ []
        none e = rw e refl
    by_case false is' enters' = enters' ∙ ap (λ es. es ++ entry lane c fate ∷ []) q ∙ append_assoc before (entries_of (only_lane lane) told) (entry lane c fate ∷ []) ∙ ap (λ es. before ++ (entries_of (only_lane lane) told ++ es)) (sym (some is'))
      where
        some : is_no_memory r ≡ false → entries_of (only_lane lane) (told_as number now c fate r ∷ []) ≡ entry lane c fate ∷ []
        some e = rw e refl

-- a job that has made these calls makes one that it may make after them
pub ran-step : {F : Type 0} (codec : Codec F) (number lane : ℕ) (job : Job) (held now later : Option Held) (before journal after_ : List Entry) (trace : List Exchange) (c : Call) (fate : Fate) (r : Reply)
    → RanTo codec number lane job held now before journal trace → MayAsk codec job (stage_of codec job trace) c → IsShortCall c → FitsCall c r → Answers now later fate c r → Enters journal after_ lane c fate r
    → RanTo codec number lane job held later before after_ (trace ++ record { call = c; reply = r } ∷ [])
ran-step codec number lane job held now later before journal after_ trace c fate r ran asks_it short fits answers enters =
    let e : Told = told_as number now c fate r in
    record {
      told = ran.told ++ e ∷ [];
      calls = record {
        own = All-push (λ d. d.job ≡ Some number) ran.told e ran.calls.own refl;
        suit = All-push Suits ran.told e ran.calls.suit (record { short = short; fits = fits; failed = answers.failed; served = answers.served });
        entries = entered number lane now c fate r before after_ ran.told journal (is_no_memory r) refl ran.calls.entries enters;
        over = over-push number held now later ran.told c fate r ran.calls.over answers.told;
      };
      same = trace_of-own number ran.told e refl ∙ ap (λ xs. xs ++ record { call = c; reply = r } ∷ []) ran.same;
      asked = asked-push codec job (first_stage job) trace (record { call = c; reply = r }) ran.asked asks_it;
    }

-- a job that has made no call
pub ran-none : {F : Type 0} (codec : Codec F) (number lane : ℕ) (job : Job) (held : Option Held) (journal : List Entry) → RanTo codec number lane job held held journal journal []
ran-none codec number lane job held journal = record {
  told = [];
  calls = record { own = All-nil (λ e. e.job ≡ Some number); suit = All-nil Suits; entries = sym (append-nil journal); over = over held };
  same = refl;
  asked = tt;
}
  where
    over : (held : Option Held) → IfSome held (λ m. Leaves m held [])
    over None = tt
    over (Some m) = record { replied = tt; held = refl }

-- ---- a job that was driven over a store

-- a call was made of a store and entered in its journal
pub record Makes (lane : ℕ) (now later : Option Held) (journal after_ : List Entry) (x : Exchange) : Type 0 where
  pub fate : Fate
  pub short : IsShortCall x.call
  pub fits : FitsCall x.call x.reply
  pub answers : Answers now later fate x.call x.reply
  pub enters : Enters journal after_ lane x.call fate x.reply
