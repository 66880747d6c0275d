-- What was read of a condition, as the code has it.
use Rattle.std.specs.Prelude.{◌≡◌, map, reverse, Result, Ok, Err}
use Rattle.ts_base.specs.declared.lists.OutOfMemory.{OutOfMemory}
use Rattle.ts_cond.specs.declared.faults.CondFault.{CondFault}
use Rattle.ts_cond.specs.declared.faults.CondFault.TheVariants as fault
use Rattle.ts_cond.specs.Tests.{Condition}
use Rattle.ts_cond.specs.declared.machine.Group as code
use Rattle.ts_cond.specs.declared.machine.State.{State}
use Rattle.ts_cond.specs.declared.machine.Wrong.{Wrong}
use Rattle.ts_cond.specs.declared.machine.Wrong.TheVariants as wrong
use Rattle.ts_cond.specs.Machine.{Group, Reading}
use Rattle.ts_cond.specs.Views.{test_of}

abbrev pub group_of : code.Group → Group
group_of l = record { terms = map test_of l.terms; facts = map test_of l.facts; nots = l.nots; depth = l.depth }

abbrev pub reading_of : State → Reading
reading_of s = record {
  expects = s.expects;
  group = group_of s.group;
  outer = reverse (map group_of s.outer);
  nodes = s.nodes;
  naming = s.naming;
  field = s.field;
  op = s.op;
  negated = s.negated;
  vals = s.vals;
}

-- the step leads there, or to this fault; or there was no memory for it
abbrev pub Went : {A : Type 0} → Result A Wrong → Reading → Result Reading Wrong → Type 0
Went (Ok _) new there = there ≡ Ok new
Went (Err wrong.OutOfMemory) new there = Unit {0}
Went (Err fault) new there = there ≡ Err fault

-- what was read is this, unless there was no memory for it
abbrev pub Moves : {A : Type 0} → Result A OutOfMemory → Reading → Reading → Type 0
Moves (Ok _) new there = new ≡ there
Moves (Err _) new there = Unit {0}

-- the answer leads there, or is this fault; or there was no memory for it
abbrev pub Comes : {A : Type 0} → Result A CondFault → Reading → Result Reading CondFault → Type 0
Comes (Ok _) new there = there ≡ Ok new
Comes (Err fault.OutOfMemory) new there = Unit {0}
Comes (Err wrong) new there = there ≡ Err wrong

-- what was read is this, or there is this fault; or there was no memory for it
abbrev pub Ends : Result State CondFault → Result Reading CondFault → Type 0
Ends (Ok state) there = there ≡ Ok (reading_of state)
Ends (Err fault.OutOfMemory) there = Unit {0}
Ends (Err wrong) there = there ≡ Err wrong

-- the condition is the one that is spelled, or the fault is its fault; or there was no memory for it
abbrev pub Parses : Result Condition CondFault → Result Condition CondFault → Type 0
Parses (Ok condition) there = there ≡ Ok condition
Parses (Err fault.OutOfMemory) there = Unit {0}
Parses (Err wrong) there = there ≡ Err wrong
