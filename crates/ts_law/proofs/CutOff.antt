-- A job that its stop cuts off would have made one more call.
use Rattle.std.proofs.Common.{◌≡◌, ◌⊎◌, List, [], ◌∷◌, ◌++◌, Some, refl, sym, ◌∙◌, ap, inl, inr, subst}
use Rattle.std.proofs.lemmas.List.Elements.{All-pop, Contains-push_cases}
use Rattle.ts_store.specs.declared.call.Call.{Call}
use Rattle.ts_model.specs.declared.commands.Job.{Job}
use Rattle.ts_model.specs.Codecs.{Codec}
use Rattle.ts_model.specs.States.{Exchange}
use Rattle.ts_law.specs.Courses.{Found, MergesFound, SaysFound, AreFound, Looks, IsNext, Along, EndsAt}
use Rattle.ts_law.proofs.CourseBacked.{AreBacked, AreTold, swept_stays}
use Rattle.ts_store.specs.declared.call.Reply.TheVariants as reply

-- ---- a job that is cut off

-- lists with one last item are one
pub last_same : (a b : List Exchange) (x y : Exchange) → a ++ x ∷ [] ≡ b ++ y ∷ [] → (a ≡ b) × (x ≡ y)
last_same [] [] x y e = (refl, cc)
last_same [] (z ∷ []) x y e = cc
last_same [] (z ∷ w ∷ b) x y e = cc
last_same (z ∷ []) [] x y e = cc
last_same (z ∷ w ∷ a) [] x y e = cc
last_same (z ∷ a) (w ∷ b) x y e =
    let tails : a ++ x ∷ [] ≡ b ++ y ∷ [] = cc in
    let heads : z ≡ w = cc in
    let rest = last_same a b x y tails in
    (ap (λ h. h ∷ a) heads ∙ ap (λ t. w ∷ t) rest.0, rest.1)

-- the call that was not made, as if there had been no memory for it
abbrev pub as_if : Call → Exchange
as_if c = record { call = c; reply = reply.NoMemory }

-- where one more call would have come along the course
abbrev pub Unmade : Looks → List Call → List Exchange → Call → Type 0
Unmade looks course trace c = (left : List Call) × (rest : List Call) × Along looks [] course trace left × IsNext looks trace left c rest

-- a trace with one more call has some
pub no_calls : (trace : List Exchange) (x : Exchange) → trace ++ x ∷ [] ≡ [] → ⊥
no_calls [] x e = cc
no_calls (y ∷ trace) x e = cc

-- the call that was not made would have come along the course
pub unmade_of : (looks : Looks) (course : List Call) (trace : List Exchange) (c : Call)
    → (trace ++ as_if c ∷ [] ≡ []) ⊎ ((last : Exchange) × EndsAt looks [] course (trace ++ as_if c ∷ []) last) → Unmade looks course trace c
unmade_of looks course trace c (inl none) = absurd (no_calls trace (as_if c) none)
unmade_of looks course trace c (inr (last, at)) =
    let same = last_same trace at.front (as_if c) last at.parts in
    let P : List Exchange → Type 0 = λ t. Along looks [] course t at.left in
    let Q : Exchange → Type 0 = λ x. IsNext looks trace at.left x.call at.rest in
    let R : List Exchange → Type 0 = λ t. IsNext looks t at.left last.call at.rest in
    (at.left, at.rest, subst P (sym same.0) at.along, subst Q (sym same.1) (subst R (sym same.0) at.next))

-- what all replies say, those before the last say
pub found_before : (job : Job) (found : Found) (trace : List Exchange) (x : Exchange) → AreFound job found (trace ++ x ∷ []) → AreFound job found trace
found_before job found trace x all = (All-pop (λ y. SaysFound found job.command y.call y.reply) (trace ++ x ∷ []) trace (Some x) refl all).0

-- a list with one last item falls apart before that, or at it
last_apart : (trace front later : List Exchange) (x last : Exchange) → trace ++ x ∷ [] ≡ front ++ last ∷ later → (last ≡ x) ⊎ ((rest : List Exchange) × (trace ≡ front ++ last ∷ rest))
last_apart [] [] later x last e = inl (sym (first_same e))
  where
    first_same : x ∷ [] ≡ last ∷ later → x ≡ last
    first_same same = cc
last_apart [] (z ∷ front) later x last e = absurd (no_calls front last later (tails e))
  where
    tails : x ∷ [] ≡ z ∷ front ++ last ∷ later → front ++ last ∷ later ≡ []
    tails same = cc

    no_calls : (front : List Exchange) (last : Exchange) (later : List Exchange) → front ++ last ∷ later ≡ [] → ⊥
    no_calls [] last later same = cc
    no_calls (w ∷ front) last later same = cc
last_apart (y ∷ trace) [] later x last e = inr (trace, ap (λ z. z ∷ trace) (first_same e))
  where
    first_same : y ∷ trace ++ x ∷ [] ≡ last ∷ later → y ≡ last
    first_same same = cc
last_apart (y ∷ trace) (z ∷ front) later x last e = elim (last_apart trace front later x last (tails e)) [
  | inl same ↦ inl same
  | inr (rest, is) ↦ inr (rest, ap (λ h. h ∷ trace) (first_same e) ∙ ap (λ t. z ∷ t) is)
]
  where
    first_same : y ∷ trace ++ x ∷ [] ≡ z ∷ front ++ last ∷ later → y ≡ z
    first_same same = cc

    tails : y ∷ trace ++ x ∷ [] ≡ z ∷ front ++ last ∷ later → trace ++ x ∷ [] ≡ front ++ last ∷ later
    tails same = cc

-- what was merged was merged before a call that was not made
merged_before : {F : Type 0} (codec : Codec F) (job : Job) (found : Found) (trace : List Exchange) (c : Call) → MergesFound codec job found (trace ++ as_if c ∷ []) → MergesFound codec job found trace
merged_before codec job found trace c merges merge some =
    let has = merges merge some in
    elim (last_apart trace has.front has.later (as_if c) has.last has.parts) [
      | inl same ↦ absurd (has.was_told (ap (λ (x : Exchange). x.reply) same))
      | inr (rest, is) ↦ record { front = has.front; last = has.last; later = rest; parts = is; was_told = has.was_told; count = has.count; by_told = has.by_told }
    ]

-- what was told was told before a call that was not made
told_before : (trace : List Exchange) (c : Call) → AreTold (trace ++ as_if c ∷ []) trace
told_before trace c x tells at = elim (Contains-push_cases trace (as_if c) x at) [
  | inl before ↦ before
  | inr same ↦ absurd (tells (ap (λ (y : Exchange). y.reply) (sym same)))
]

-- so is what a job is said to have merged or to remove
pub backed_before : {F : Type 0} (codec : Codec F) (job : Job) (found : Found) (trace : List Exchange) (c : Call) → AreBacked codec job found (trace ++ as_if c ∷ []) → AreBacked codec job found trace
backed_before codec job found trace c (merges, sweeps) = (merged_before codec job found trace c merges, swept_stays job found (trace ++ as_if c ∷ []) trace (told_before trace c) sweeps)
