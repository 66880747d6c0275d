-- Each answer to a text has its cause.
use Rattle.std.proofs.Common.{◌⊎◌, inl, inr, ◌≡◌, ◌≤◌, ◌<◌, refl, sym, subst, ap, ◌∙◌, ℕ, Bool, true, false, if◌then◌else◌, nat_lt, List, [], ◌∷◌, ◌++◌, Option, Some, None, Result, Ok, Err, arith}
use Rattle.std.proofs.lemmas.Bool.{ltb-true}
use Rattle.ts_cond.specs.declared.faults.CondFault.{CondFault}
use Rattle.ts_cond.specs.declared.faults.CondFault.TheVariants as fault
use Rattle.ts_cond.specs.declared.fields.CondField.{CondField}
use Rattle.ts_cond.specs.declared.machine.Expect.{Expect}
use Rattle.ts_cond.specs.declared.machine.Wrong.TheVariants as wrong
use Rattle.ts_cond.specs.Causes.{IsReadAs, HasTree, CanBegin, IsNone, Splits, IsBroken, IsOneOfTwo, BeginsOnly, HasCause}
use Rattle.ts_cond.specs.Grammar.{Cond, cond_then, AreKinds, IsSpelled}
use Rattle.ts_cond.specs.Limits.{depth_of, nodes_of}
use Rattle.ts_cond.specs.Machine.{Reading, stands, moved, is_inside, within, after, depth_in, may_end, reads, start, settled, settled_by, parsed}
use Rattle.ts_cond.specs.States.{Parses}
use Rattle.ts_cond.specs.Tests.{Condition}
use Rattle.ts_cond.specs.Tokens.{Kind, Scan, End, Bad, Then, tokens_of}
use Rattle.ts_cond.proofs.Fronts.{Front, none, expected, front_then, completed}
use Rattle.ts_cond.proofs.FrontSteps.{AreAs, Next, goes_on, tree_at_end}
use Rattle.ts_cond.proofs.GrammarLaws.{Rest, reading, goes, deepest, largest, one_more, no_more, tree_lands}
use Rattle.ts_cond.proofs.GrammarReads.{IsOfTest, deep_here, large_here, grammar_is_read, spelled_of_test}

-- what was read of a text: its first tokens, the rest of it, and a part of a tree with these tokens
pub record Seen (all : Scan) (fields : List CondField) (ks : List Kind) (ts : Scan) (r : Reading) (p : Front) : Type 0 where
  pub splits : Splits all ks ts
  pub expects : r.expects ≡ expected p.part
  pub around : AreAs p.outer r.outer
  pub spells : (rest : List Kind) → ks ++ rest ≡ front_then p rest
  pub reached : (rest : List Kind) → goes (start fields) (ks ++ rest) ≡ goes r rest
  pub deep : (rest : List Kind) → deepest r rest ≤ deepest (start fields) (ks ++ rest)
  pub large : (rest : List Kind) → largest r rest ≤ largest (start fields) (ks ++ rest)

splits_next : (all : Scan) (ks : List Kind) (k : Kind) (at : ℕ) (rest : Scan) → Splits all ks (Then k at rest) → Splits all (ks ++ k ∷ []) rest
splits_next all [] k at rest is = subst (λ ts. Splits ts (k ∷ []) rest) (sym is) (refl, refl)
splits_next (Then kind place ts) (j ∷ ks) k at rest is = (is.0, splits_next ts ks k at rest is.1)
splits_next (End place) (j ∷ ks) k at rest is = absurd is
splits_next (Bad place) (j ∷ ks) k at rest is = absurd is

splits_whole : (all : Scan) (ks : List Kind) (at : ℕ) → Splits all ks (End at) → AreKinds all ks
splits_whole all [] at is = subst (λ ts. AreKinds ts []) (sym is) tt
splits_whole (Then kind place ts) (j ∷ ks) at is = (is.0, splits_whole ts ks at is.1)
splits_whole (End place) (j ∷ ks) at is = absurd is
splits_whole (Bad place) (j ∷ ks) at is = absurd is

-- one token more, by what is expected
next_by : (e : Expect) (k : Kind) (r : Reading) (p : Front) → r.expects ≡ e → e ≡ expected p.part → AreAs p.outer r.outer → stands r.expects (is_inside r.outer) k ≡ true → Next k r p
next_by e k r p is same around may =
    let known : r.expects ≡ expected p.part = is ∙ same in
    let x : Rest = record { nodes = r.nodes; field = r.field; op = r.op; negated = r.negated; vals = r.vals } in
    subst (λ f. stands f (is_inside r.outer) k ≡ true → Next k (reading f r.group r.outer r.naming x) p) (sym known) (goes_on p.part k p.outer p.group r.group r.outer r.naming x around) may

pub record Further (all : Scan) (fields : List CondField) (ks : List Kind) (ts : Scan) (r : Reading) : Type 0 where
  pub front : Front
  pub seen : Seen all fields ks ts r front

further : (all : Scan) (fields : List CondField) (ks : List Kind) (k : Kind) (at : ℕ) (rest : Scan) (r : Reading) (p : Front)
    → Seen all fields ks (Then k at rest) r p → stands r.expects (is_inside r.outer) k ≡ true → Further all fields (ks ++ k ∷ []) rest (moved k r)
unfolding goes deepest largest
further all fields ks k at rest r p seen may =
    let next = next_by r.expects k r p refl seen.expects seen.around may in
    let gathered = one_more ks k in
    record {
      front = next.next;
      seen = record {
        splits = splits_next all ks k at rest seen.splits;
        expects = next.expects;
        around = next.around;
        spells = λ more. gathered more ∙ seen.spells (k ∷ more) ∙ next.spells more;
        reached = λ more. ap (goes (start fields)) (gathered more) ∙ seen.reached (k ∷ more) ∙ ap (λ b. if b then goes (moved k r) more else None) may;
        deep = λ more.
            let same : deepest (start fields) ((ks ++ k ∷ []) ++ more) ≡ deepest (start fields) (ks ++ k ∷ more) = ap (deepest (start fields)) (gathered more) in
            omega (arith, seen.deep (k ∷ more));
        large = λ more.
            let same : largest (start fields) ((ks ++ k ∷ []) ++ more) ≡ largest (start fields) (ks ++ k ∷ more) = ap (largest (start fields)) (gathered more) in
            omega (arith, seen.large (k ∷ more));
      };
    }

module _ (all : Scan) (fields : List CondField) where
  can_begin : (ks : List Kind) (ts : Scan) (r : Reading) (p : Front) → Seen all fields ks ts r p → CanBegin ks
  can_begin ks ts r p seen =
      let found = completed p in
      (found.tree, (found.rest, found.spells ∙ sym (seen.spells found.rest)))

  is_none : (ks : List Kind) (ts : Scan) (r : Reading) (p : Front) → Seen all fields ks ts r p → may_end r.expects r.outer ≡ false → IsNone ks
  unfolding goes
  is_none ks ts r p seen ends c same =
      let lands = (tree_lands c fields).lands in
      let nothing : goes (start fields) ks ≡ None =
      ap (goes (start fields)) (sym (no_more ks)) ∙ seen.reached [] ∙ ap (λ b. if b then Some r else None) ends
      in
      let read : goes (start fields) (cond_then c []) ≡ None = ap (goes (start fields)) same ∙ nothing in
      cc (sym lands ∙ read)

  is_bad : (ks : List Kind) (ts : Scan) (r : Reading) (p : Front) (k : Kind) → Seen all fields ks ts r p → stands r.expects (is_inside r.outer) k ≡ false → CanBegin (ks ++ k ∷ []) → ⊥
  unfolding goes
  is_bad ks ts r p k seen bad begins =
      let c = begins.0 in
      let more = begins.1.0 in
      let lands = (tree_lands c fields).lands in
      let read : goes (start fields) (cond_then c []) ≡ None =
      ap (goes (start fields)) (begins.1.1 ∙ one_more ks k more) ∙ seen.reached (k ∷ more) ∙ ap (λ b. if b then goes (moved k r) more else None) bad
      in
      cc (sym lands ∙ read)

  is_deep : (ks : List Kind) (ts : Scan) (r : Reading) (p : Front) → Seen all fields ks ts r p → 32 < depth_in r.group → BeginsOnly all (λ c. 32 < depth_of c)
  is_deep ks ts r p seen deep = (
    ks,
    ts,
    seen.splits,
    can_begin ks ts r p seen,
    λ c begins.
        let same : deepest (start fields) (cond_then c []) ≡ deepest (start fields) (ks ++ begins.0) = ap (deepest (start fields)) begins.1 in
        omega (arith, (tree_lands c fields).deep, seen.deep begins.0, deep_here r begins.0),
  )

  is_large : (ks : List Kind) (ts : Scan) (r : Reading) (p : Front) → Seen all fields ks ts r p → 1024 < r.nodes → BeginsOnly all (λ c. 1024 < nodes_of c)
  is_large ks ts r p seen large = (
    ks,
    ts,
    seen.splits,
    can_begin ks ts r p seen,
    λ c begins.
        let same : largest (start fields) (cond_then c []) ≡ largest (start fields) (ks ++ begins.0) = ap (largest (start fields)) begins.1 in
        omega (arith, (tree_lands c fields).large, seen.large begins.0, large_here r begins.0),
  )

-- what the reading of a text says of it
abbrev Came : Scan → Result Reading CondFault → Type 0
Came all (Ok s) = (c : Cond) × AreKinds all (cond_then c [])
Came all (Err (fault.Syntax at)) = IsBroken all at
Came all (Err fault.TooDeep) = BeginsOnly all (λ c. 32 < depth_of c)
Came all (Err fault.TooLarge) = BeginsOnly all (λ c. 1024 < nodes_of c)
Came all (Err (fault.UnknownField name)) = ⊥
Came all (Err (fault.TypeClash name)) = ⊥
Came all (Err fault.OutOfMemory) = ⊥

end_case : (all : Scan) (b : Bool) (r : Reading) (at : ℕ) → (b ≡ true → Came all (Ok r)) → (b ≡ false → IsBroken all at) → Came all (if b then Ok r else Err (fault.Syntax at))
end_case all true r at good bad = good refl
end_case all false r at good bad = bad refl

within_case : (all : Scan) (a b : Bool) (t : Reading) (at : ℕ) (next : Reading → Result Reading CondFault)
    → (a ≡ true → Came all (Err fault.TooDeep)) → (b ≡ true → Came all (Err fault.TooLarge)) → Came all (next t)
    → Came all (after (if a then Err wrong.TooDeep else (if b then Err wrong.TooLarge else Ok t)) at next)
within_case all true b t at next deep large goes_on = deep refl
within_case all false true t at next deep large goes_on = large refl
within_case all false false t at next deep large goes_on = goes_on

step_case : (all : Scan) (b : Bool) (t : Reading) (at : ℕ) (next : Reading → Result Reading CondFault) → (b ≡ false → IsBroken all at) → (b ≡ true → Came all (after (within t) at next))
    → Came all (after (if b then within t else Err wrong.Syntax) at next)
step_case all true t at next bad good = good refl
step_case all false t at next bad good = bad refl

ended : (all : Scan) (fields : List CondField) (ks : List Kind) (at : ℕ) (r : Reading) (p : Front) → Seen all fields ks (End at) r p → may_end r.expects r.outer ≡ true → Came all (Ok r)
ended all fields ks at r p seen ends =
    let found = tree_at_end p.part p.outer p.group r.outer seen.around (ap (λ e. may_end e r.outer) (sym seen.expects) ∙ ends) in
    let same : ks ≡ cond_then found.0 [] = sym (no_more ks) ∙ seen.spells [] ∙ found.1 in
    (found.0, subst (AreKinds all) same (splits_whole all ks at seen.splits))

came : (ts all : Scan) (fields : List CondField) (ks : List Kind) (r : Reading) (p : Front) → Seen all fields ks ts r p → Came all (reads r ts)
unfolding reads
came (End at) all fields ks r p seen =
    end_case all (may_end r.expects r.outer) r at (ended all fields ks at r p seen)
    (λ ends. (ks, End at, seen.splits, can_begin all fields ks (End at) r p seen, (refl, is_none all fields ks (End at) r p seen ends)))
came (Bad at) all fields ks r p seen = (ks, Bad at, seen.splits, can_begin all fields ks (Bad at) r p seen, refl)
came (Then k at rest) all fields ks r p seen =
    step_case all (stands r.expects (is_inside r.outer) k) (moved k r) at (λ s. reads s rest)
    (λ bad. (ks, Then k at rest, seen.splits, can_begin all fields ks (Then k at rest) r p seen, (refl, is_bad all fields ks (Then k at rest) r p k seen bad)))
    (λ may.
    let more = further all fields ks k at rest r p seen may in
    let t = moved k r in
    within_case all (nat_lt 32 (depth_in t.group)) (nat_lt 1024 t.nodes) t at (λ s. reads s rest)
    (λ deep. is_deep all fields (ks ++ k ∷ []) rest t more.front more.seen (ltb-true 32 (depth_in t.group) deep))
    (λ large. is_large all fields (ks ++ k ∷ []) rest t more.front more.seen (ltb-true 1024 t.nodes large))
    (came rest all fields (ks ++ k ∷ []) t more.front more.seen))

-- nothing is read yet
at_start : (all : Scan) (fields : List CondField) → Seen all fields [] all (start fields) (record { outer = []; group = record { terms = []; facts = []; nots = 0 }; part = none })
at_start all fields = record {
  splits = refl;
  expects = refl;
  around = tt;
  spells = λ rest. refl;
  reached = λ rest. refl;
  deep = λ rest. omega arith;
  large = λ rest. omega arith;
}

settle_case : (clash : Option CondFault) (r : Reading) (text : List ℕ) (fields : List CondField) → IsOfTest clash → HasTree (settled_by clash r) text fields → HasCause (settled_by clash r) text fields
settle_case None r text fields is tree = tree
settle_case (Some (fault.UnknownField name)) r text fields is tree = tree
settle_case (Some (fault.TypeClash name)) r text fields is tree = tree
settle_case (Some (fault.Syntax at)) r text fields is tree = absurd is
settle_case (Some fault.TooDeep) r text fields is tree = absurd is
settle_case (Some fault.TooLarge) r text fields is tree = absurd is
settle_case (Some fault.OutOfMemory) r text fields is tree = absurd is

cause_case : (x : Result Reading CondFault) (text : List ℕ) (fields : List CondField) → Came (tokens_of text) x
    → ((c : Cond) → IsSpelled text c → IsReadAs (settled x) fields c) → ((c : Cond) (r : Reading) → IsSpelled text c → x ≡ Ok r → IsOfTest r.naming.clash) → HasCause (settled x) text fields
cause_case (Ok r) text fields came read test = settle_case r.naming.clash r text fields (test came.0 r came.1 refl) (came.0, came.1, read came.0 came.1)
cause_case (Err (fault.Syntax at)) text fields came read test = came
cause_case (Err fault.TooDeep) text fields came read test = came
cause_case (Err fault.TooLarge) text fields came read test = came
cause_case (Err (fault.UnknownField name)) text fields came read test = absurd came
cause_case (Err (fault.TypeClash name)) text fields came read test = absurd came
cause_case (Err fault.OutOfMemory) text fields came read test = absurd came

pub has_cause : (text : List ℕ) (fields : List CondField) → HasCause (parsed text fields) text fields
has_cause text fields =
    cause_case (reads (start fields) (tokens_of text)) text fields (came (tokens_of text) (tokens_of text) fields [] (start fields) _ (at_start (tokens_of text) fields))
    (grammar_is_read text fields) (spelled_of_test text fields)

-- an answer that is the one that is spelled, or want of memory
pub answer_has_cause : (answer there : Result Condition CondFault) (text : List ℕ) (fields : List CondField) → Parses answer there → HasCause there text fields → HasCause answer text fields
answer_has_cause (Ok condition) there text fields is cause = subst (λ x. HasCause x text fields) is cause
answer_has_cause (Err (fault.Syntax at)) there text fields is cause = subst (λ x. HasCause x text fields) is cause
answer_has_cause (Err (fault.UnknownField name)) there text fields is cause = subst (λ x. HasCause x text fields) is cause
answer_has_cause (Err (fault.TypeClash name)) there text fields is cause = subst (λ x. HasCause x text fields) is cause
answer_has_cause (Err fault.TooDeep) there text fields is cause = subst (λ x. HasCause x text fields) is cause
answer_has_cause (Err fault.TooLarge) there text fields is cause = subst (λ x. HasCause x text fields) is cause
answer_has_cause (Err fault.OutOfMemory) there text fields is cause = tt

pub answer_is_read : (answer there : Result Condition CondFault) (fields : List CondField) (c : Cond) → Parses answer there → IsReadAs there fields c → IsReadAs answer fields c
answer_is_read (Ok condition) there fields c is read = subst (λ x. IsReadAs x fields c) is read
answer_is_read (Err (fault.Syntax at)) there fields c is read = subst (λ x. IsReadAs x fields c) is read
answer_is_read (Err (fault.UnknownField name)) there fields c is read = subst (λ x. IsReadAs x fields c) is read
answer_is_read (Err (fault.TypeClash name)) there fields c is read = subst (λ x. IsReadAs x fields c) is read
answer_is_read (Err fault.TooDeep) there fields c is read = subst (λ x. IsReadAs x fields c) is read
answer_is_read (Err fault.TooLarge) there fields c is read = subst (λ x. IsReadAs x fields c) is read
answer_is_read (Err fault.OutOfMemory) there fields c is read = tt

-- a tree, or where the tokens break
abbrev Sorted : Scan → Type 0
Sorted all = ((c : Cond) × AreKinds all (cond_then c [])) ⊎ ((at : ℕ) × IsBroken all at)

sorted_by : (all : Scan) (b : Bool) → (b ≡ true → Sorted all) → (b ≡ false → Sorted all) → Sorted all
sorted_by all true good bad = good refl
sorted_by all false good bad = bad refl

sorted : (ts all : Scan) (fields : List CondField) (ks : List Kind) (r : Reading) (p : Front) → Seen all fields ks ts r p → Sorted all
sorted (End at) all fields ks r p seen =
    sorted_by all (may_end r.expects r.outer) (λ ends. inl (ended all fields ks at r p seen ends))
    (λ ends. inr (at, (ks, End at, seen.splits, can_begin all fields ks (End at) r p seen, (refl, is_none all fields ks (End at) r p seen ends))))
sorted (Bad at) all fields ks r p seen = inr (at, (ks, Bad at, seen.splits, can_begin all fields ks (Bad at) r p seen, refl))
sorted (Then k at rest) all fields ks r p seen =
    sorted_by all (stands r.expects (is_inside r.outer) k)
    (λ may.
    let more = further all fields ks k at rest r p seen may in
    sorted rest all fields (ks ++ k ∷ []) (moved k r) more.front more.seen)
    (λ bad. inr (at, (ks, Then k at rest, seen.splits, can_begin all fields ks (Then k at rest) r p seen, (refl, is_bad all fields ks (Then k at rest) r p k seen bad))))

pub one_of_two : (text : List ℕ) → IsOneOfTwo text
one_of_two text = sorted (tokens_of text) (tokens_of text) [] [] (start []) _ (at_start (tokens_of text) [])
