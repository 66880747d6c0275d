-- A text is broken at one offset at most, and then it spells no tree.
use Rattle.std.proofs.Common.{◌≡◌, refl, sym, subst, ap, ◌∙◌, ℕ, List, [], ◌∷◌, ◌++◌, append_assoc, Result, Ok, Err}
use Rattle.ts_cond.specs.declared.faults.CondFault.{CondFault}
use Rattle.ts_cond.specs.declared.faults.CondFault.TheVariants as fault
use Rattle.ts_cond.specs.declared.fields.CondField.{CondField}
use Rattle.ts_cond.specs.Causes.{CanBegin, Splits, BreaksAt, IsBroken, HasCause, IsRefusedAt}
use Rattle.ts_cond.specs.Grammar.{Cond, cond_then, AreKinds}
use Rattle.ts_cond.specs.Tests.{Condition}
use Rattle.ts_cond.specs.Tokens.{Kind, Scan, End, Bad, Then, tokens_of}
use Rattle.ts_cond.proofs.GrammarLaws.{one_more, no_more}

abbrev place_of : Scan → ℕ
place_of (End at) = at
place_of (Bad at) = at
place_of (Then kind at rest) = at

breaks_there : (at : ℕ) (ks : List Kind) (rest : Scan) → BreaksAt at ks rest → place_of rest ≡ at
breaks_there at ks (End place) is = is.0
breaks_there at ks (Bad place) is = is
breaks_there at ks (Then kind place rest) is = is.0

-- a front of a front begins a condition too
shorter : (a b more : List Kind) → b ≡ a ++ more → CanBegin b → CanBegin a
shorter a b more e begins =
    let rest = begins.1.0 in
    (begins.0, (more ++ rest, begins.1.1 ∙ ap (λ ks. ks ++ rest) e ∙ append_assoc a more rest))

-- the next token, moved to those before
moved_over : (done ks a : List Kind) (kind k : Kind) → kind ≡ k → a ≡ done ++ k ∷ ks → a ≡ (done ++ kind ∷ []) ++ ks
moved_over done ks a kind k same e = e ∙ ap (λ j. done ++ j ∷ ks) (sym same) ∙ sym (one_more done kind ks)

-- no condition goes on where it breaks
stops : (ts rest : Scan) (kind : Kind) (place at : ℕ) (more : Scan) (a b ks : List Kind) → ts ≡ Then kind place more → ts ≡ rest → b ≡ (a ++ kind ∷ []) ++ ks → CanBegin b → BreaksAt at a rest → ⊥
stops ts rest kind place at more a b ks is same e begins breaks =
    let there : BreaksAt at a (Then kind place more) = subst (BreaksAt at a) (sym same ∙ is) breaks in
    there.1 (shorter (a ++ kind ∷ []) b ks e begins)

one_place : (ts : Scan) (done ks js a b : List Kind) (rest more : Scan) (at place : ℕ) → Splits ts ks rest → Splits ts js more → a ≡ done ++ ks → b ≡ done ++ js → CanBegin a → CanBegin b
    → BreaksAt at a rest → BreaksAt place b more → at ≡ place
one_place ts done [] [] a b rest more at place is are e f begin starts breaks ends =
    sym (breaks_there at a rest breaks) ∙ ap place_of (sym is ∙ are) ∙ breaks_there place b more ends
one_place (Then kind here ts) done [] (j ∷ js) a b rest more at place is are e f begin starts breaks ends =
    let whole : a ≡ done = e ∙ no_more done in
    absurd (stops (Then kind here ts) rest kind here at ts a b js refl is (moved_over done js b kind j are.0 f ∙ ap (λ ks. (ks ++ kind ∷ []) ++ js) (sym whole)) starts breaks)
one_place (Then kind here ts) done (k ∷ ks) [] a b rest more at place is are e f begin starts breaks ends =
    let whole : b ≡ done = f ∙ no_more done in
    absurd (stops (Then kind here ts) more kind here place ts b a ks refl are (moved_over done ks a kind k is.0 e ∙ ap (λ js. (js ++ kind ∷ []) ++ ks) (sym whole)) begin ends)
one_place (Then kind here ts) done (k ∷ ks) (j ∷ js) a b rest more at place is are e f begin starts breaks ends =
    one_place ts (done ++ kind ∷ []) ks js a b rest more at place is.1 are.1 (moved_over done ks a kind k is.0 e) (moved_over done js b kind j are.0 f) begin starts breaks ends
one_place (End here) done [] (j ∷ js) a b rest more at place is are e f begin starts breaks ends = absurd are
one_place (End here) done (k ∷ ks) js a b rest more at place is are e f begin starts breaks ends = absurd is
one_place (Bad here) done [] (j ∷ js) a b rest more at place is are e f begin starts breaks ends = absurd are
one_place (Bad here) done (k ∷ ks) js a b rest more at place is are e f begin starts breaks ends = absurd is

-- where it breaks a text does not go on as a tree does
no_tree_here : (ts : Scan) (done js a : List Kind) (at : ℕ) (c : Cond) → AreKinds ts js → a ≡ done → cond_then c [] ≡ done ++ js → BreaksAt at a ts → ⊥
no_tree_here (End place) done [] a at c are e f breaks = breaks.1 c (f ∙ no_more done ∙ sym e)
no_tree_here (End place) done (j ∷ js) a at c are e f breaks = absurd are
no_tree_here (Bad place) done js a at c are e f breaks = absurd are
no_tree_here (Then kind place ts) done [] a at c are e f breaks = absurd are
no_tree_here (Then kind place ts) done (j ∷ js) a at c are e f breaks =
    breaks.1 (c, (js, moved_over done js (cond_then c []) kind j are.0 f ∙ ap (λ ks. (ks ++ kind ∷ []) ++ js) (sym e)))

no_tree : (ts : Scan) (done ks js a : List Kind) (rest : Scan) (at : ℕ) (c : Cond) → Splits ts ks rest → AreKinds ts js → a ≡ done ++ ks → cond_then c [] ≡ done ++ js → BreaksAt at a rest → ⊥
no_tree ts done [] js a rest at c is are e f breaks = no_tree_here ts done js a at c are (e ∙ no_more done) f (subst (BreaksAt at a) (sym is) breaks)
no_tree (Then kind here ts) done (k ∷ ks) (j ∷ js) a rest at c is are e f breaks =
    no_tree ts (done ++ kind ∷ []) ks js a rest at c is.1 are.1 (moved_over done ks a kind k is.0 e) (moved_over done js (cond_then c []) kind j are.0 f) breaks
no_tree (Then kind here ts) done (k ∷ ks) [] a rest at c is are e f breaks = absurd are
no_tree (End here) done (k ∷ ks) js a rest at c is are e f breaks = absurd is
no_tree (Bad here) done (k ∷ ks) js a rest at c is are e f breaks = absurd is

module _ (text : List ℕ) (fields : List CondField) (at : ℕ) (broken : IsBroken (tokens_of text) at) where
  spells_none : (c : Cond) → AreKinds (tokens_of text) (cond_then c []) → ⊥
  spells_none c are = no_tree (tokens_of text) [] broken.0 (cond_then c []) broken.0 broken.1 at c broken.2 are refl refl broken.4

  pub broken_is_refused : (answer : Result Condition CondFault) → HasCause answer text fields → IsRefusedAt answer at
  broken_is_refused (Ok condition) cause = spells_none cause.0 cause.1
  broken_is_refused (Err (fault.UnknownField name)) cause = spells_none cause.0 cause.1
  broken_is_refused (Err (fault.TypeClash name)) cause = spells_none cause.0 cause.1
  broken_is_refused (Err (fault.Syntax place)) cause =
      one_place (tokens_of text) [] cause.0 broken.0 cause.0 broken.0 cause.1 broken.1 place at cause.2 broken.2 refl refl cause.3 broken.3 cause.4 broken.4
  broken_is_refused (Err fault.TooDeep) cause = tt
  broken_is_refused (Err fault.TooLarge) cause = tt
  broken_is_refused (Err fault.OutOfMemory) cause = tt
