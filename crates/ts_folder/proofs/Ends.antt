-- A call that ended as its work on files came out meets the clauses of a store that tells nothing.
use Rattle.std.proofs.Common.{◌≡◌, ℕ, refl, sym, ap, ◌∙◌, ◌≤◌, subst, arith, List, Option, None, Some, Result, Ok, Err, false}
use Rattle.ts_store.specs.declared.call.Made.{Made}
use Rattle.ts_store.specs.declared.call.Made.TheVariants as made
use Rattle.ts_store.specs.declared.call.Reply.{Reply}
use Rattle.ts_store.specs.declared.call.StoreError.{StoreError}
use Rattle.ts_store.specs.Calls.{reply_to, made_reply, part_reply, length_reply}
use Rattle.ts_store.specs.Stores.{HasCause}
use Rattle.ts_folder.specs.declared.folder.Tally.{Tally}
use Rattle.ts_folder.specs.declared.trouble.Trouble.{Trouble}
use Rattle.ts_folder.specs.declared.trouble.Trouble.TheVariants as trouble
use Rattle.ts_folder.specs.Notes.{Ended, is_failed}

-- answers of a kind are never the reply Failed
pub made_is_no_failure : (m : Made) → is_failed (made_reply m) ≡ false
made_is_no_failure made.New = refl
made_is_no_failure made.Taken = refl

pub part_is_no_failure : (part : Option (List ℕ)) → is_failed (part_reply part) ≡ false
part_is_no_failure None = refl
part_is_no_failure (Some bytes) = refl

pub length_is_no_failure : (len : Option ℕ) → is_failed (length_reply len) ≡ false
length_is_no_failure None = refl
length_is_no_failure (Some n) = refl

module _ {X : Type 0} (told : X → Reply) (apart : (x : X) → is_failed (told x) ≡ false) where
  pub ended_cause : (before now : Tally) (o : Result X Trouble) (r : Result X StoreError) → before.faults ≤ now.faults → Ended before now o r
      → HasCause before.faults now.faults (reply_to told r)
  ended_cause before now (Ok x) r later e =
      subst (λ s. HasCause before.faults now.faults (reply_to told s)) (sym e.0)
      (record { later = later; failed = λ is. let clash = sym (apart x) ∙ ap is_failed is in cc })
  ended_cause before now (Err trouble.Memory) r later e =
      subst (λ s. HasCause before.faults now.faults (reply_to told s)) (sym e.0)
      (record { later = later; failed = λ is. let clash = ap is_failed is in cc })
  ended_cause before now (Err trouble.Device) r later e =
      subst (λ s. HasCause before.faults now.faults (reply_to told s)) (sym e.0)
      (record { later = later; failed = λ is. grind (arith, e.1) })
