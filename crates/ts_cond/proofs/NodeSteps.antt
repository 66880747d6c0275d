-- Reading a node step by step.
use Rattle.std.proofs.Common.{◌≡◌, ℕ, zero, suc, ◌+◌, ◌≤◌, List, [], ◌∷◌, ◌++◌, length, Result, Ok, Err, refl, sym, subst, ap, ◌∙◌, arith, length-append}
use Rattle.ts_wire.specs.declared.faults.ReadFault.{ReadFault}
use Rattle.ts_wire.specs.declared.faults.ReadFault.TheVariants as fault
use Rattle.ts_wire.specs.Place.{Place, Read, ◌>>=◌}
use Rattle.ts_wire.specs.Reading.{ReadsOr}
use Rattle.ts_cond.specs.declared.fields.CondField.{CondField}
use Rattle.ts_cond.specs.declared.tags.Tag.{Tag}
use Rattle.ts_cond.specs.declared.tags.Tag.TheVariants.{AllOf, AnyOf}
use Rattle.ts_cond.specs.CondTexts.{Walk, past_tag, tag_at, nodes_at, untagged_at, node_at, node_bytes, nodes_bytes, last_index, last_of}
use Rattle.ts_cond.specs.Machine.{tests_from}
use Rattle.ts_cond.specs.Tests.{Test, All, Any}

-- a node that may have no height
pub node_none : (fields : List CondField) (most : ℕ) (w : Walk) (p : Place) → most ≡ 0 → node_at fields most w p ≡ Err p.at
unfolding node_at
node_none fields zero w p none = refl
node_none fields (suc most) w p none = absurd (omega (arith, none))

abbrev untagged_of : List CondField → ℕ → Walk → Tag × Place → Read (Tag × Test)
untagged_of fields most w a = untagged_at fields (λ v. node_at fields most v) (past_tag w) a.0 a.1 >>= λ b. Ok ((a.0, b.0), b.1)

abbrev second_of : (Tag × Test) × Place → Read Test
second_of y = Ok (y.0.1, y.1)

-- the tag is broken
pub node_stop : (fields : List CondField) (most : ℕ) (w : Walk) (p : Place) (at : ℕ) → 1 ≤ most → tag_at w.nodes p ≡ Err at → node_at fields most w p ≡ Err at
unfolding node_at
node_stop fields zero w p at some h = absurd (omega (arith, some))
node_stop fields (suc most) w p at some h = ap (λ r. r >>= untagged_of fields most w >>= second_of) h

-- behind the tag
pub node_on : (fields : List CondField) (most less : ℕ) (w : Walk) (p q : Place) (tag : Tag) (r : Read Test) → most ≡ less + 1 → tag_at w.nodes p ≡ Ok (tag, q)
    → untagged_at fields (λ v. node_at fields less v) (past_tag w) tag q ≡ r → node_at fields most w p ≡ r
unfolding node_at
node_on fields zero less w p q tag r some h next = absurd (omega (arith, some))
node_on fields (suc most) less w p q tag r some h next =
    let same : most ≡ less = omega (arith, some) in
    ap (λ m. node_at fields (suc m) w p) same ∙ ap (λ s. s >>= untagged_of fields less w >>= second_of) h ∙ ap (λ s. (s >>= λ b. Ok ((tag, b.0), b.1)) >>= second_of) next ∙ ends r
  where
    ends : (r : Read Test) → ((r >>= λ b. Ok ((tag, b.0), b.1)) >>= second_of) ≡ r
    ends (Ok x) = refl
    ends (Err at) = refl

-- the nodes of a list, behind its tag

pub all_stop : (fields : List CondField) (node : Walk → Place → Read Test) (w : Walk) (tag : Tag) (p : Place) (at : ℕ) → tag ≡ AllOf → nodes_at node w p ≡ Err at
    → untagged_at fields node w tag p ≡ Err at
unfolding untagged_at
all_stop fields node w tag p at is h = ap (λ k. untagged_at fields node w k p) is ∙ ap (λ r. r >>= λ x. Ok (All (tests_from x.0), x.1)) h

pub any_stop : (fields : List CondField) (node : Walk → Place → Read Test) (w : Walk) (tag : Tag) (p : Place) (at : ℕ) → tag ≡ AnyOf → nodes_at node w p ≡ Err at
    → untagged_at fields node w tag p ≡ Err at
unfolding untagged_at
any_stop fields node w tag p at is h = ap (λ k. untagged_at fields node w k p) is ∙ ap (λ r. r >>= λ x. Ok (Any (tests_from x.0), x.1)) h

pub all_on : (fields : List CondField) (node : Walk → Place → Read Test) (w : Walk) (tag : Tag) (p q : Place) (ts : List Test) (t : Test) → tag ≡ AllOf → nodes_at node w p ≡ Ok (ts, q)
    → t ≡ All (tests_from ts) → untagged_at fields node w tag p ≡ Ok (t, q)
unfolding untagged_at
all_on fields node w tag p q ts t is h same =
    ap (λ k. untagged_at fields node w k p) is ∙ ap (λ r. r >>= λ x. Ok (All (tests_from x.0), x.1)) h ∙ ap (λ u. Ok (u, q)) (sym same)

pub any_on : (fields : List CondField) (node : Walk → Place → Read Test) (w : Walk) (tag : Tag) (p q : Place) (ts : List Test) (t : Test) → tag ≡ AnyOf → nodes_at node w p ≡ Ok (ts, q)
    → t ≡ Any (tests_from ts) → untagged_at fields node w tag p ≡ Ok (t, q)
unfolding untagged_at
any_on fields node w tag p q ts t is h same =
    ap (λ k. untagged_at fields node w k p) is ∙ ap (λ r. r >>= λ x. Ok (Any (tests_from x.0), x.1)) h ∙ ap (λ u. Ok (u, q)) (sym same)

-- what one reader gives, another gives that has the same answer
pub reads_as : {A B : Type 0} (seen : A → B) (read other : Place → Read B) (old start new : Place) (result : Result A ReadFault) → other start ≡ read old
    → ReadsOr seen read old new result → ReadsOr seen other start new result
reads_as seen read other old start new (Ok x) same h = same ∙ h
reads_as seen read other old start new (Err (fault.Damaged damaged)) same h = same ∙ h
reads_as seen read other old start new (Err fault.OutOfMemory) same h = tt

-- where one reader stops, another stops that stops where it does
pub stops_as : {A B C D : Type 0} (seen : A → B) (shown : C → D) (read : Place → Read B) (other : Place → Read D) (old new : Place) (fault : ReadFault) (result : Result C ReadFault)
    → ((at : ℕ) → read old ≡ Err at → other old ≡ Err at) → ReadsOr seen read old new (Err fault) → result ≡ Err fault → ReadsOr shown other old new result
stops_as seen shown read other old new (fault.Damaged damaged) result stop h is = subst (ReadsOr shown other old new) (sym is) (stop damaged.at h)
stops_as seen shown read other old new fault.OutOfMemory result stop h is = subst (ReadsOr shown other old new) (sym is) tt

-- one node more, in what is spelled and in where the last index stands

pub bytes_more : (ts : List Test) (t : Test) → length (nodes_bytes (tests_from (ts ++ t ∷ []))) ≡ length (nodes_bytes (tests_from ts)) + length (node_bytes t)
unfolding node_bytes nodes_bytes
bytes_more [] t = length-append (node_bytes t) [] ∙ omega arith
bytes_more (u ∷ us) t =
    length-append (node_bytes u) (nodes_bytes (tests_from (us ++ t ∷ [])))
    ∙ omega (arith, bytes_more us t, length-append (node_bytes u) (nodes_bytes (tests_from us)))

pub last_more : (ts : List Test) (t : Test) → last_of (tests_from (ts ++ t ∷ [])) ≡ length (nodes_bytes (tests_from ts)) + last_index t
unfolding node_bytes nodes_bytes
last_more [] t = omega arith
last_more (u ∷ []) t = omega (arith, length-append (node_bytes u) [])
last_more (u ∷ v ∷ us) t = omega (arith, last_more (v ∷ us) t, length-append (node_bytes u) (nodes_bytes (tests_from (v ∷ us))))
