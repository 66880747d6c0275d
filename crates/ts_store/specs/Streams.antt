-- What is read from a source and written to a sink.
use Rattle.std.specs.Prelude.{◌≡◌, ℕ, ◌+◌, ◌^◌, ◌<◌, ◌≤◌, List, [], ◌++◌, length, Option, None, Some, Result, OnOk, OnErr}
use Rattle.std.specs.Io.KnownBytes.{Appends}
use Rattle.ts_store.specs.Counts.{Rose}

-- a stream failed only where its count of faults went up, and a call that did not fail left the count
pub record StreamCause {T E : Type 0} (before now : ℕ) (result : Result T E) : Type 0 where
  pub later : before ≤ now
  pub same : OnOk result (now ≡ before)
  pub failed : OnErr result (Rose before now)

-- one byte more than an input may have, so that a longer one is seen to be
abbrev pub read_limit : ℕ
read_limit = 2 ^ 26 + 1

-- bytes are what was taken from their front, up to the limit, and the rest: where less was taken there is none
pub record IsFront (all taken rest : List ℕ) : Type 0 where
  pub whole : all ≡ taken ++ rest
  pub within : length taken ≤ read_limit
  pub to_end : length taken < read_limit → rest ≡ []

-- of a source that tells its bytes, these were taken, and it has the others left
abbrev pub TakesInput : Option (List ℕ) → Option (List ℕ) → List ℕ → Type 0
TakesInput None new taken = Unit {0}
TakesInput (Some all) None taken = ⊥
TakesInput (Some all) (Some rest) taken = IsFront all taken rest

-- a front of a text was appended, maybe none or all of it
abbrev pub AppendsFront : Option (List ℕ) → Option (List ℕ) → List ℕ → Type 0
AppendsFront old new text =
    (front : List ℕ) × (back : List ℕ) × (text ≡ front ++ back) × Appends old new front
