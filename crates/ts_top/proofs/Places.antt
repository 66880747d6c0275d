-- Where the calls of a command stand among all calls: after those of the commands before it.
use Rattle.std.proofs.Common.{◌≡◌, ℕ, ◌+◌, ◌<◌, ◌≤◌, List, [], ◌∷◌, ◌++◌, Some, length, drop, length-append, refl, sym, ◌∙◌, ap, subst, arith}
use Rattle.std.specs.Prelude.{get_or, Contains}
use Rattle.std.proofs.lemmas.List.{append-nil}
use Rattle.ts_base.specs.declared.names.Prefix.{Prefix}
use Rattle.ts_store.specs.declared.call.Call.{Call}
use Rattle.ts_model.specs.declared.commands.Job.{Job}
use Rattle.ts_model.specs.Deeds.{History}
use Rattle.ts_model.specs.Told.{Told, history_told}
use Rattle.ts_model.proofs.ListLemmas.{Contains-here, Contains-there}
use Rattle.ts_model.proofs.Traces.{history_told_grows}
use Rattle.ts_law.specs.Ends.{ListedAt}
use Rattle.ts_law.specs.Refusals.{MadeAt}
use Rattle.ts_top.specs.Promise.{Extends}

-- ---- lists

-- where two lists are one, a first part of one begins with a first part of the other that has no item at which the other breaks off
pub fronts : {X : Type 0} (a b a' b' : List X) → a ++ b ≡ a' ++ b' → ((x : X) (xs : List X) → b' ≡ x ∷ xs → Contains a x → ⊥) → (c : List X) × (a' ≡ a ++ c)
fronts [] b a' b' is apart = (a', refl)
fronts (e ∷ a) b [] b' is apart = absurd (apart e (a ++ b) (sym is) (Contains-here e a))
fronts (e ∷ a) b (e' ∷ a') b' is apart =
    let head : e ≡ e' = ap (λ l. get_or l 0 e) is in
    let tail : a ++ b ≡ a' ++ b' = ap (drop 1) is in
    let (c, parts) = fronts a b a' b' tail (λ x xs q at. apart x xs q (Contains-there e a x at)) in
    (c, ap (λ l. e' ∷ l) parts ∙ ap (λ x. x ∷ a ++ c) (sym head))

pub cancelled : {X : Type 0} (a b b' : List X) → a ++ b ≡ a ++ b' → b ≡ b'
cancelled [] b b' is = is
cancelled (e ∷ a) b b' is = cancelled a b b' (ap (drop 1) is)

no_items : {X : Type 0} (xs : List X) → length xs ≡ 0 → xs ≡ []
no_items [] is = refl
no_items (x ∷ xs) is = absurd (omega (arith, is))

-- a history that goes on from another, and this one from it, is that one
pub same_history : (h g : History) → Extends h g → Extends g h → g ≡ h
same_history h g (a, on) (b, back) =
    let total : length h ≡ length h + length a + length b = ap length (back ∙ ap (λ l. l ++ b) on) ∙ length-append (h ++ a) b ∙ ap (λ n. n + length b) (length-append h a) in
    on ∙ ap (λ l. h ++ l) (no_items a (omega (arith, total))) ∙ append-nil h

-- ---- calls

-- the calls of jobs before a number, and of the others
abbrev pub Early : ℕ → List Told → Type 0
Early n told = (e : Told) → Contains told e → (number : ℕ) → e.job ≡ Some number → number < n

abbrev pub Late : ℕ → List Told → Type 0
Late n told = (e : Told) → Contains told e → (number : ℕ) → e.job ≡ Some number → n ≤ number

module _ (jobs : List Job) (past : History) where
  -- the history after a first part of what was told goes on to the one after it all
  pub goes_on : (a b told : List Told) → told ≡ a ++ b → Extends (history_told jobs past a) (history_told jobs past told)
  goes_on a b told parts = let grows = history_told_grows jobs past a b in (grows.0, ap (history_told jobs past) parts ∙ grows.1)

  module _ (a c told : List Told) (parts : told ≡ a ++ c) (number : ℕ) (early : Early number a) where
    -- a call of a job stands after the calls of the jobs before it
    pub stands_after : (before : List Told) (e : Told) (later : List Told) → told ≡ before ++ e ∷ later → e.job ≡ Some number → (d : List Told) × (before ≡ a ++ d)
    stands_after before e later place own =
        let apart : (x : Told) (xs : List Told) → e ∷ later ≡ x ∷ xs → Contains a x → ⊥ = λ x xs q among.
        let head : e ≡ x = ap (λ l. get_or l 0 e) q in
        let less = early x among number (ap (λ (t : Told). t.job) (sym head) ∙ own) in
        omega (arith, less) in
        fronts a c before (e ∷ later) (sym parts ∙ place) apart

    -- so its history goes on from the one before the job, and to the one after it
    pub made_after : (c : Call) (at : MadeAt told number c) → Extends (history_told jobs past a) (history_told jobs past at.before)
    made_after c at = let (d, behind) = stands_after at.before at.made at.later at.place at.own in goes_on a d at.before behind

    pub listed_after : (prefix : Prefix) (at : ListedAt told number prefix) → Extends (history_told jobs past a) (history_told jobs past at.before)
    listed_after prefix at = let (d, behind) = stands_after at.before at.listing at.later at.place at.own in goes_on a d at.before behind

    -- among the calls of a job that did nothing the history was the one after it
    pub between_now : (b rest : List Told) → told ≡ (a ++ b) ++ rest → history_told jobs past told ≡ history_told jobs past a → history_told jobs past (a ++ b) ≡ history_told jobs past told
    between_now b rest place still =
        same_history (history_told jobs past told) (history_told jobs past (a ++ b)) (subst (λ h. Extends h (history_told jobs past (a ++ b))) (sym still) (goes_on a b (a ++ b) refl))
        (goes_on (a ++ b) rest told place)

    -- a call of a job that did nothing was made over the history after it
    pub made_now : (c : Call) (at : MadeAt told number c) → history_told jobs past told ≡ history_told jobs past a → history_told jobs past at.before ≡ history_told jobs past told
    made_now c at still =
        let on = goes_on at.before (at.made ∷ at.later) told at.place in
        same_history (history_told jobs past told) (history_told jobs past at.before) (subst (λ h. Extends h (history_told jobs past at.before)) (sym still) (made_after c at)) on

    pub listed_now : (prefix : Prefix) (at : ListedAt told number prefix) → history_told jobs past told ≡ history_told jobs past a → history_told jobs past at.before ≡ history_told jobs past told
    listed_now prefix at still =
        let on = goes_on at.before (at.listing ∷ at.later) told at.place in
        same_history (history_told jobs past told) (history_told jobs past at.before) (subst (λ h. Extends h (history_told jobs past at.before)) (sym still) (listed_after prefix at)) on
