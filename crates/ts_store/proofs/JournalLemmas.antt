-- Journals that grow: what is held, the failed calls and the calls of a lane after one journal and another.
use Rattle.std.proofs.Common.{◌≡◌, ◌≢◌, ◌≤◌, ℕ, ◌+◌, ◌==◌, Bool, true, false, List, [], ◌∷◌, ◌++◌, refl, sym, ap, ◌∙◌, add_assoc, zero-add, append-nil, arith, cond, if◌then◌else◌, subst, Option, Some, IfSome}
use Rattle.std.proofs.lemmas.Bool.{eq-eqb}
use Rattle.ts_base.specs.Held.{Held}
use Rattle.ts_store.specs.declared.journal.Entry.{Entry}
use Rattle.ts_store.specs.declared.fate.Fate.{Fate}
use Rattle.ts_store.specs.declared.fate.Fate.TheVariants as fate
use Rattle.ts_store.specs.declared.call.Call.{Call}
use Rattle.ts_store.specs.declared.call.Reply.{Reply}
use Rattle.ts_store.specs.declared.call.Reply.TheVariants as reply
use Rattle.ts_store.specs.Calls.{after, is_no_memory}
use Rattle.ts_store.specs.Counts.{capped, Rose}
use Rattle.ts_store.specs.Stores.{Steps, HasCause}
use Rattle.ts_store.specs.Journals.{entry, held_after, has_failed, failing, failures, calls_by, EntersIf, Enters}

-- what is held after two journals is what the second leaves of what the first left
pub held_after-append : (m : Held) (journal more : List Entry) → held_after m (journal ++ more) ≡ held_after (held_after m journal) more
held_after-append m [] more = refl
held_after-append m (e ∷ journal) more = held_after-append (after m e.call e.fate) journal more

-- one more call
pub held_after-snoc : (m : Held) (journal : List Entry) (e : Entry) → held_after m (journal ++ e ∷ []) ≡ after (held_after m journal) e.call e.fate
held_after-snoc m journal e = held_after-append m journal (e ∷ [])

pub failures-append : (journal more : List Entry) → failures (journal ++ more) ≡ failures journal + failures more
failures-append [] more = sym (zero-add (failures more))
failures-append (e ∷ journal) more = ap (λ n. failing e + n) (failures-append journal more) ∙ sym (add_assoc (failing e) (failures journal) (failures more))

pub failures-snoc : (journal : List Entry) (e : Entry) → failures (journal ++ e ∷ []) ≡ failures journal + failing e
failures-snoc journal e = omega (arith, failures-append journal (e ∷ []))

cond-append : (b : Bool) (e : Entry) (xs ys : List Entry) → cond b (e ∷ (xs ++ ys)) (xs ++ ys) ≡ cond b (e ∷ xs) xs ++ ys
cond-append true e xs ys = refl
cond-append false e xs ys = refl

pub calls_by-append : (lane : ℕ) (journal more : List Entry) → calls_by lane (journal ++ more) ≡ calls_by lane journal ++ calls_by lane more
calls_by-append lane [] more = refl
calls_by-append lane (e ∷ journal) more =
    ap (λ xs. cond (e.lane == lane) (e ∷ xs) xs) (calls_by-append lane journal more)
    ∙ cond-append (e.lane == lane) e (calls_by lane journal) (calls_by lane more)

-- one more call of the lane
pub calls_by-same : (lane : ℕ) (journal : List Entry) (e : Entry) → e.lane ≡ lane → calls_by lane (journal ++ e ∷ []) ≡ calls_by lane journal ++ e ∷ []
calls_by-same lane journal e is = calls_by-append lane journal (e ∷ []) ∙ ap (λ b. calls_by lane journal ++ cond b (e ∷ []) []) (eq-eqb e.lane lane is)

-- one more call of another lane
pub calls_by-other : (lane : ℕ) (journal : List Entry) (e : Entry) → (e.lane == lane) ≡ false → calls_by lane (journal ++ e ∷ []) ≡ calls_by lane journal
calls_by-other lane journal e apart = calls_by-append lane journal (e ∷ []) ∙ ap (λ b. calls_by lane journal ++ cond b (e ∷ []) []) apart ∙ append-nil (calls_by lane journal)

entered : (refused : Bool) (m : Held) (before now : Option Held) (journal longer : List Entry) (lane : ℕ) (call : Call) (fate : Fate) (reply : Reply)
    → before ≡ Some (held_after m journal) → IfSome before (λ n. Steps refused n now fate call reply) → EntersIf refused journal longer (entry lane call fate)
    → now ≡ Some (held_after m longer)
entered true m before now journal longer lane call fate reply is told enters =
    subst (λ o. IfSome o (λ n. Steps true n now fate call reply)) is told
    ∙ ap (λ entries. Some (held_after m entries)) (sym enters)
entered false m before now journal longer lane call fate reply is told enters =
    (subst (λ o. IfSome o (λ n. Steps false n now fate call reply)) is told).0
    ∙ ap Some (sym (held_after-snoc m journal (entry lane call fate)))
    ∙ ap (λ entries. Some (held_after m entries)) (sym enters)

-- a call that is entered keeps that the store holds what the journal leaves
pub held_after-Enters : (m : Held) (before now : Option Held) (journal longer : List Entry) (lane : ℕ) (call : Call) (fate : Fate) (reply : Reply)
    → before ≡ Some (held_after m journal) → IfSome before (λ n. Steps (is_no_memory reply) n now fate call reply) → Enters journal longer lane call fate reply
    → now ≡ Some (held_after m longer)
held_after-Enters m before now journal longer lane call fate reply is told enters =
    entered (is_no_memory reply) m before now journal longer lane call fate reply is told enters

-- a call whose fate is that of a failed one was answered Failed
failed_reply : (done : Fate) (said : Reply) → (said ≢ reply.Failed → done ≡ fate.Done) → has_failed done ≡ true → said ≡ reply.Failed
failed_reply done reply.Failed served failed = refl
failed_reply done _ served failed = let none : has_failed done ≡ false = ap has_failed (served (λ same. cc)) in cc

-- the count goes on: with a call that failed it went up, and else it did not fall
count_goes_on : (failed : Bool) (count before now : ℕ) → capped count ≤ before → before ≤ now → (failed ≡ true → Rose before now)
    → capped (count + (if failed then 1 else 0)) ≤ now
count_goes_on true count before now kept later rose = let up = rose refl in omega arith
count_goes_on false count before now kept later rose = omega arith

counted : (refused : Bool) (base before now : ℕ) (journal longer : List Entry) (lane : ℕ) (call : Call) (done : Fate)
    → capped (base + failures journal) ≤ before → before ≤ now → (has_failed done ≡ true → Rose before now) → EntersIf refused journal longer (entry lane call done)
    → capped (base + failures longer) ≤ now
counted true base before now journal longer lane call done kept later rose enters =
    let same : failures longer ≡ failures journal = ap failures enters in omega arith
counted false base before now journal longer lane call done kept later rose enters =
    let more : failures longer ≡ failures journal + failing (entry lane call done) = ap failures enters ∙ failures-snoc journal (entry lane call done) in
    let goes_on = count_goes_on (has_failed done) (base + failures journal) before now kept later rose in
    omega (arith, more, goes_on)

-- a call that is entered keeps that the count of faults went up by the failed calls of the journal
pub failures-Enters : (base before now : ℕ) (journal longer : List Entry) (lane : ℕ) (call : Call) (done : Fate) (said : Reply)
    → capped (base + failures journal) ≤ before → HasCause before now said → (said ≢ reply.Failed → done ≡ fate.Done) → Enters journal longer lane call done said
    → capped (base + failures longer) ≤ now
failures-Enters base before now journal longer lane call done said kept cause served enters =
    counted (is_no_memory said) base before now journal longer lane call done kept cause.later (λ failed. cause.failed (failed_reply done said served failed)) enters
