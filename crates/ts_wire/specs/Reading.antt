-- What a call that reads says of its answer: it is the answer of a reader, value for value and offset for offset.
use Rattle.std.specs.Prelude.{◌≡◌, ◌≢◌, ℕ, Bool, true, false, [], Option, Some, None, Result, Ok, Err, IsErr}
use Rattle.ts_wire.specs.declared.faults.Damaged.{Damaged}
use Rattle.ts_wire.specs.declared.faults.ReadFault.{ReadFault}
use Rattle.ts_wire.specs.declared.faults.ReadFault.TheVariants as fault
use Rattle.ts_wire.specs.Place.{Place, Read}

-- the value is the one that stands at the old place, and the new place is behind it; or the field is broken, and the place is the old one
abbrev pub Gives : {A B : Type 0} → (A → B) → (Place → Read B) → Place → Place → Result A Damaged → Type 0
Gives seen read old new (Ok x) = read old ≡ Ok (seen x, new)
Gives seen read old new (Err damaged) = (read old ≡ Err damaged.at) × (new ≡ old)

-- the same, but there may be no memory: then the place is the old one too
abbrev pub GivesOr : {A B : Type 0} → (A → B) → (Place → Read B) → Place → Place → Result A ReadFault → Type 0
GivesOr seen read old new (Ok x) = read old ≡ Ok (seen x, new)
GivesOr seen read old new (Err (fault.Damaged damaged)) = (read old ≡ Err damaged.at) × (new ≡ old)
GivesOr seen read old new (Err fault.OutOfMemory) = new ≡ old

-- the value is the one that stands at the old place, and the new place is behind it; or there is none, and the field is broken at the old place
abbrev pub GivesSome : {A B : Type 0} → (A → B) → (Place → Read B) → Place → Place → Option A → Type 0
GivesSome seen read old new (Some x) = read old ≡ Ok (seen x, new)
GivesSome seen read old new None = read old ≡ Err old.at

-- the value is the one that stands at the old place, and the new place is behind it; or there is none, and something is broken
abbrev pub ReadsSome : {A B : Type 0} → (A → B) → (Place → Read B) → Place → Place → Option A → Type 0
ReadsSome seen read old new (Some x) = read old ≡ Ok (seen x, new)
ReadsSome seen read old new None = IsErr (read old)

-- the value is the one that stands at the old place, and the new place is behind it; or a field is broken, at this offset
abbrev pub Reads : {A B : Type 0} → (A → B) → (Place → Read B) → Place → Place → Result A Damaged → Type 0
Reads seen read old new (Ok x) = read old ≡ Ok (seen x, new)
Reads seen read old new (Err damaged) = read old ≡ Err damaged.at

-- the same, but there may be no memory
abbrev pub ReadsOr : {A B : Type 0} → (A → B) → (Place → Read B) → Place → Place → Result A ReadFault → Type 0
ReadsOr seen read old new (Ok x) = read old ≡ Ok (seen x, new)
ReadsOr seen read old new (Err (fault.Damaged damaged)) = read old ≡ Err damaged.at
ReadsOr seen read old new (Err fault.OutOfMemory) = Unit {0}

-- the value, or the offset of the first broken field, is that of the answer
abbrev pub Decodes : {A B : Type 0} → (A → B) → Result B ℕ → Result A Damaged → Type 0
Decodes seen answer (Ok x) = answer ≡ Ok (seen x)
Decodes seen answer (Err damaged) = answer ≡ Err damaged.at

-- the same, but there may be no memory
abbrev pub DecodesOr : {A B : Type 0} → (A → B) → Result B ℕ → Result A ReadFault → Type 0
DecodesOr seen answer (Ok x) = answer ≡ Ok (seen x)
DecodesOr seen answer (Err (fault.Damaged damaged)) = answer ≡ Err damaged.at
DecodesOr seen answer (Err fault.OutOfMemory) = Unit {0}

-- nothing is left at the place; or something is, and it begins where the fault says
abbrev pub IsEnd : {A : Type 0} → Place → Result A Damaged → Type 0
IsEnd old (Ok _) = old.rest ≡ []
IsEnd old (Err damaged) = (old.rest ≢ []) × (damaged.at ≡ old.at)

-- the value is this one, unless there was no memory for it
abbrev pub IsRead : {A B : Type 0} → (A → B) → B → Result A ReadFault → Type 0
IsRead seen x (Ok y) = seen y ≡ x
IsRead seen x (Err (fault.Damaged damaged)) = ⊥
IsRead seen x (Err fault.OutOfMemory) = Unit {0}

-- the object is damaged at this offset, unless there was no memory to find it
abbrev pub IsDamagedAt : {A : Type 0} → ℕ → Result A ReadFault → Type 0
IsDamagedAt at (Ok _) = ⊥
IsDamagedAt at (Err (fault.Damaged damaged)) = damaged.at ≡ at
IsDamagedAt at (Err fault.OutOfMemory) = Unit {0}

-- the value is this one, and its rule holds; or the fault is at this offset, and the rule does not hold
abbrev pub Keeps : {A : Type 0} → ℕ → A → Bool → Result A Damaged → Type 0
Keeps at x keeps (Ok y) = (y ≡ x) × (keeps ≡ true)
Keeps at x keeps (Err damaged) = (damaged.at ≡ at) × (keeps ≡ false)
