-- A condition that a text spells has an object.
use Rattle.std.proofs.Common.{◌≡◌, ℕ, zero, suc, ◌+◌, ◌^◌, ◌<◌, ◌≤◌, Bool, true, false, nat_eq, nat_lt, if◌then◌else◌, List, [], ◌∷◌, ◌++◌, length, Option, Some, None, Result, Ok, Err, IfOk, refl, sym, ap, ◌∙◌, subst, arith, length-append}
use Rattle.std.proofs.lemmas.List.{append-nil}
use Rattle.ts_wire.specs.Exact.{IsBytes}
use Rattle.ts_cond.specs.declared.faults.CondFault.{CondFault}
use Rattle.ts_cond.specs.declared.faults.CondFault.TheVariants as fault
use Rattle.ts_cond.specs.declared.fields.CondField.{CondField}
use Rattle.ts_cond.specs.declared.machine.Expect.{Expect}
use Rattle.ts_cond.specs.declared.machine.Expect.TheVariants as expect
use Rattle.ts_cond.specs.declared.machine.Wrong.{Wrong}
use Rattle.ts_cond.specs.declared.machine.Wrong.TheVariants as wrong
use Rattle.ts_cond.specs.declared.naming.Naming.{Naming}
use Rattle.ts_cond.specs.CondTexts.{indexes, all_indexes, compared, is_field_count, named_by, more_named, AreInTurn, AreCompared, IsWide, AreWide, count_of, IsCond, AreFields}
use Rattle.ts_cond.specs.Machine.{named_from, newly_named, newly, meets_by, judged, Group, closed, depth_in, Reading, stands, expecting, left, moved, within, is_inside, step, at_token, after, may_end, reads, start, settled_by, settled, parsed}
use Rattle.ts_cond.specs.States.{Parses}
use Rattle.ts_cond.specs.Tests.{Test, Tests, All, Any, Not, Compare, Member, IsNull, no_test, test, Condition}
use Rattle.ts_cond.specs.Tokens.{Kind, Open, Close, Comma, And, Or, Not as Denies, In, Is, Null, Compares, Label, Number, Text, Blob, Scan, End, Bad, Then, tokens_of}
use Rattle.ts_cond.proofs.GoodTokens.{IsGood, AreGood, good_tokens}
use Rattle.ts_cond.proofs.GroupLaws.{group_flat, indexes_flatten, compared_flatten, flat_closed, fresh_fits, closed_wide, closed_low, closed_cost}
use Rattle.ts_cond.proofs.NamingLaws.{in_turn_split, judges_clear, some_first}
use Rattle.ts_cond.proofs.ReadingLaws.{Kept, Sound, moved_kept}

-- ---- a fault of a test stays

newly_named_back : (place : ℕ) (got : Option CondField) (naming : Naming) → (newly_named place got naming).clash ≡ None → naming.clash ≡ None
newly_named_back place None naming clear = clear
newly_named_back place (Some f) naming clear = clear

newly_back : (found : Option ℕ) (name : List ℕ) (naming : Naming) → (newly found name naming).1.clash ≡ None → naming.clash ≡ None
newly_back None name naming clear = absurd (some_first naming.clash (fault.UnknownField name) clear)
newly_back (Some place) name naming clear = newly_named_back place _ naming clear

meets_back : (found : Option ℕ) (name : List ℕ) (naming : Naming) → (meets_by found name naming).1.clash ≡ None → naming.clash ≡ None
meets_back None name naming clear = newly_back (named_from 0 name naming.unused) name naming clear
meets_back (Some place) name naming clear = clear

judged_back : (got : Option CondField) (kind : Kind) (naming : Naming) → (judged got kind naming).clash ≡ None → naming.clash ≡ None
judged_back got kind naming clear = sym (ap (λ m. m.clash) (judges_clear got kind naming clear).0) ∙ clear

left_back : (outer : List Group) (t : Test) (r : Reading) → (left outer t r).naming.clash ≡ None → r.naming.clash ≡ None
left_back [] t r clear = clear
left_back (l ∷ outer) t r clear = clear

moved_back : (kind : Kind) (e : Expect) (r : Reading) → stands e (is_inside r.outer) kind ≡ true → (moved kind (expecting e r)).naming.clash ≡ None → r.naming.clash ≡ None
moved_back Open expect.Fact r may clear = clear
moved_back Open expect.Members r may clear = clear
moved_back Close expect.MoreMembers r may clear = clear
moved_back Close expect.Joint r may clear = left_back r.outer (closed r.group) (expecting expect.Joint r) clear
moved_back Comma expect.MoreMembers r may clear = clear
moved_back Denies expect.Fact r may clear = clear
moved_back Denies expect.Verb r may clear = clear
moved_back And expect.Joint r may clear = clear
moved_back Or expect.Joint r may clear = clear
moved_back In expect.Verb r may clear = clear
moved_back In expect.Within r may clear = clear
moved_back Is expect.Verb r may clear = clear
moved_back Null expect.Nothing r may clear = clear
moved_back (Compares o) expect.Verb r may clear = clear
moved_back (Label name) expect.Fact r may clear = meets_back (named_from 0 name r.naming.used) name r.naming clear
moved_back (Number z) expect.Operand r may clear = judged_back _ (Number z) r.naming clear
moved_back (Number z) expect.Member r may clear = judged_back _ (Number z) r.naming clear
moved_back (Text raw) expect.Operand r may clear = judged_back _ (Text raw) r.naming clear
moved_back (Text raw) expect.Member r may clear = judged_back _ (Text raw) r.naming clear
moved_back (Blob digits) expect.Operand r may clear = judged_back _ (Blob digits) r.naming clear
moved_back (Blob digits) expect.Member r may clear = judged_back _ (Blob digits) r.naming clear
moved_back _ _ r may clear = absurd (let same : false ≡ true = may in cc)

-- ---- a step

within_case : (a b : Bool) (m s : Reading) → nat_lt 32 (depth_in m.group) ≡ a → nat_lt 1024 m.nodes ≡ b
    → (if a then Err wrong.TooDeep else (if b then Err wrong.TooLarge else Ok m)) ≡ Ok s → (m ≡ s) × (depth_in m.group ≤ 32) × (m.nodes ≤ 1024)
within_case true b m s e f h = absurd (let same : Err wrong.TooDeep ≡ Ok s = h in cc)
within_case false true m s e f h = absurd (let same : Err wrong.TooLarge ≡ Ok s = h in cc)
within_case false false m s e f h = (let same : Ok m ≡ Ok s = h in cc, grind (arith, e), grind (arith, f))

stands_case : (b : Bool) (m s : Reading) → (if b then within m else Err wrong.Syntax) ≡ Ok s → (b ≡ true) × (within m ≡ Ok s)
stands_case true m s h = (refl, h)
stands_case false m s h = absurd (let same : Err wrong.Syntax ≡ Ok s = h in cc)

-- a step keeps what was read sound, unless a test has a fault
step_sound : (kind : Kind) (r s : Reading) → IsGood kind → (r.naming.clash ≡ None → Sound r) → step kind r ≡ Ok s → s.naming.clash ≡ None → Sound s
step_sound kind r s good sound h clear =
    let may = stands_case (stands r.expects (is_inside r.outer) kind) (moved kind r) s h in
    let is = within_case (nat_lt 32 (depth_in (moved kind r).group)) (nat_lt 1024 (moved kind r).nodes) (moved kind r) s refl refl may.1 in
    let clear_there : (moved kind r).naming.clash ≡ None = ap (λ m. m.naming.clash) is.0 ∙ clear in
    let was = sound (moved_back kind r.expects r may.0 clear_there) in
    subst Sound is.0 (record { kept = moved_kept kind r.expects r may.0 good was clear_there; deep = is.1; few = is.2 })

after_case : (x : Result Reading Wrong) (at : ℕ) (next : Reading → Result Reading CondFault) (s : Reading) → after x at next ≡ Ok s → (m : Reading) × (x ≡ Ok m) × (next m ≡ Ok s)
after_case (Ok m) at next s h = (m, refl, h)
after_case (Err w) at next s h = absurd (let same : Err (at_token at w) ≡ Ok s = h in cc)

end_case : (b : Bool) (r s : Reading) (at : ℕ) → (if b then Ok r else Err (fault.Syntax at)) ≡ Ok s → (r ≡ s) × (b ≡ true)
end_case true r s at h = (let same : Ok r ≡ Ok s = h in cc, refl)
end_case false r s at h = absurd (let same : Err (fault.Syntax at) ≡ Ok s = h in cc)

-- what was read to the end of a text
record IsWhole (s : Reading) : Type 0 where
  pub sound : Sound s
  pub end : may_end s.expects s.outer ≡ true

reads_sound : (ts : Scan) (r s : Reading) → AreGood ts → (r.naming.clash ≡ None → Sound r) → reads r ts ≡ Ok s → s.naming.clash ≡ None → IsWhole s
unfolding reads
reads_sound (End at) r s good sound h clear =
    let is = end_case (may_end r.expects r.outer) r s at h in
    let clear_there : r.naming.clash ≡ None = ap (λ m. m.naming.clash) is.0 ∙ clear in
    subst IsWhole is.0 (record { sound = sound clear_there; end = is.1 })
reads_sound (Bad at) r s good sound h clear = absurd (let same : Err (fault.Syntax at) ≡ Ok s = h in cc)
reads_sound (Then kind at rest) r s good sound h clear =
    let next = after_case (step kind r) at (λ u. reads u rest) s h in
    reads_sound rest next.0 s good.1 (λ there. step_sound kind r next.0 good.0 sound next.1 there) next.2 clear

-- ---- the whole text

-- a tree names a field
mutual
  some_index : (t : Test) → IsWide t → 1 ≤ length (indexes t)
  some_index (All ts) wide = some_indexes ts (let two = wide.0 in omega (arith, two)) wide.1
  some_index (Any ts) wide = some_indexes ts (let two = wide.0 in omega (arith, two)) wide.1
  some_index (Not t) wide = some_index t wide
  some_index (Compare o field v) wide = omega arith
  some_index (Member negated field vs) wide = omega arith
  some_index (IsNull field) wide = omega arith

  some_indexes : (ts : Tests) → 1 ≤ count_of ts → AreWide ts → 1 ≤ length (all_indexes ts)
  some_indexes no_test some wide = absurd (omega (arith, some))
  some_indexes (test t ts) some wide = omega (arith, some_index t wide.0, length-append (indexes t) (all_indexes ts))

more_case : (b : Bool) (n : ℕ) → n ≤ (if b then n + 1 else n)
more_case true n = omega arith
more_case false n = omega arith

named_up : (n : ℕ) (is : List ℕ) → n ≤ named_by n is
named_up n [] = omega arith
named_up n (i ∷ is) = omega (arith, more_case (nat_eq i n) n, named_up (more_named n i) is)

-- the first index is that of the first field
some_named : (count : ℕ) (is : List ℕ) → 1 ≤ length is → AreInTurn count 0 is → 1 ≤ named_by 0 is
some_named count [] some turn = absurd (omega (arith, some))
some_named count (zero ∷ is) some turn = named_up 1 is
some_named count (suc i ∷ is) some turn = absurd (let few = turn.1 in omega (arith, few))

count_fits : (count : ℕ) → 1 ≤ count → count ≤ 72 → is_field_count count ≡ true
count_fits count some few = grind (arith, some, few)

-- what was read to the end of a text is a condition that has an object
finished : (e : Expect) (outer : List Group) (r : Reading) → may_end e outer ≡ true → Kept (record r { expects = e; outer = outer }) → depth_in r.group ≤ 32 → r.nodes ≤ 1024
    → IsCond (record { fields = r.naming.used; root = closed r.group })
finished expect.Joint [] r end k deep few =
    let idx : group_flat indexes r.group ++ [] ≡ indexes (closed r.group) = append-nil (group_flat indexes r.group) ∙ sym (flat_closed indexes indexes_flatten r.group) in
    let cmp : group_flat compared r.group ++ [] ≡ compared (closed r.group) = append-nil (group_flat compared r.group) ∙ sym (flat_closed compared compared_flatten r.group) in
    let wide = closed_wide r.group k.group k.fact in
    let turn = subst (AreInTurn (length r.naming.used) 0) idx k.turn in
    let named = sym (ap (named_by 0) idx) ∙ k.named in
    let depth : r.group.depth ≤ 32 = omega (arith, deep) in
    let room = k.naming.few in
    let nodes = k.nodes in
    let split = in_turn_split [] r.naming.used r.naming.unused k.naming.each in
    record {
      count = count_fits (length r.naming.used) (omega (arith, named, some_named (length r.naming.used) (indexes (closed r.group)) (some_index (closed r.group) wide) turn)) (omega (arith, room));
      each = split.0;
      in_turn = turn;
      named = named;
      vals = subst (AreCompared r.naming.used) cmp k.vals;
      wide = wide;
      height = omega (arith, closed_low r.group k.group k.fact depth);
      nodes = omega (arith, nodes, few, closed_cost r.group k.fact);
    }
finished expect.Joint (l ∷ outer) r end k deep few = absurd (let same : false ≡ true = end in cc)
finished _ outer r end k deep few = absurd (let same : false ≡ true = end in cc)

-- before the first token
start_sound : (fields : List CondField) → AreFields fields → Sound (start fields)
start_sound fields are = record {
  kept = record {
    naming = record { each = are.each; few = let few = are.count in omega (arith, few) };
    turn = tt;
    named = refl;
    vals = tt;
    group = fresh_fits 0;
    around = tt;
    nested = tt;
    fact = tt;
    val = tt;
    nodes = omega arith;
  };
  deep = omega arith;
  few = omega arith;
}

abbrev ok_or : Condition → Result Condition CondFault → Condition
ok_or d (Ok x) = x
ok_or d (Err w) = d

settled_case : (clash : Option CondFault) (r : Reading) (c : Condition) → settled_by clash r ≡ Ok c → (clash ≡ None) × (record { fields = r.naming.used; root = closed r.group } ≡ c)
settled_case None r c h = (refl, ap (ok_or c) h)
settled_case (Some w) r c h = absurd (let same : Err w ≡ Ok c = h in cc)

read_case : (x : Result Reading CondFault) (c : Condition) → settled x ≡ Ok c → (s : Reading) × (x ≡ Ok s) × (settled_by s.naming.clash s ≡ Ok c)
read_case (Ok s) c h = (s, refl, h)
read_case (Err w) c h = absurd (let same : Err w ≡ Ok c = h in cc)

-- a condition that a text in memory spells over the fields of an array has an object
pub parsed_has_object : (text : List ℕ) (fields : List CondField) (c : Condition) → IsBytes text → length text < 2 ^ 64 → AreFields fields → parsed text fields ≡ Ok c → IsCond c
parsed_has_object text fields c bytes short are h =
    let read = read_case (reads (start fields) (tokens_of text)) c h in
    let s = read.0 in
    let is = settled_case s.naming.clash s c read.2 in
    let whole = reads_sound (tokens_of text) (start fields) s (good_tokens text bytes short) (λ clear. start_sound fields are) read.1 is.0 in
    subst IsCond is.1 (finished s.expects s.outer s whole.end whole.sound.kept whole.sound.deep whole.sound.few)

-- the same of what a call answers
pub parses_object : (result : Result Condition CondFault) (text : List ℕ) (fields : List CondField) → IsBytes text → length text < 2 ^ 64 → AreFields fields
    → Parses result (parsed text fields) → IfOk result IsCond
parses_object (Ok c) text fields bytes short are h = parsed_has_object text fields c bytes short are h
parses_object (Err w) text fields bytes short are h = tt
