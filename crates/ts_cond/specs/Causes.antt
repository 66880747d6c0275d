-- What each answer to a text says of it, told by the grammar.
use Rattle.std.specs.Prelude.{◌≡◌, ◌<◌, ◌⊎◌, ℕ, List, [], ◌∷◌, ◌++◌, Result, Ok, Err}
use Rattle.ts_cond.specs.declared.faults.CondFault.{CondFault}
use Rattle.ts_cond.specs.declared.faults.CondFault.TheVariants as fault
use Rattle.ts_cond.specs.declared.fields.CondField.{CondField}
use Rattle.ts_cond.specs.Grammar.{Cond, cond_then, IsSpelled, meant}
use Rattle.ts_cond.specs.Limits.{depth_of, nodes_of, IsWithin}
use Rattle.ts_cond.specs.Tests.{Condition}
use Rattle.ts_cond.specs.Tokens.{Kind, Scan, End, Bad, Then, tokens_of}

-- the answer to a text that spells this tree: what the tree means if it is within the limits, and else that it is too deep or too large
abbrev pub IsReadAs : Result Condition CondFault → List CondField → Cond → Type 0
IsReadAs (Ok condition) fields c = IsWithin c × (meant fields c ≡ Ok condition)
IsReadAs (Err (fault.UnknownField name)) fields c = IsWithin c × (meant fields c ≡ Err (fault.UnknownField name))
IsReadAs (Err (fault.TypeClash name)) fields c = IsWithin c × (meant fields c ≡ Err (fault.TypeClash name))
IsReadAs (Err fault.TooDeep) fields c = 32 < depth_of c
IsReadAs (Err fault.TooLarge) fields c = 1024 < nodes_of c
IsReadAs (Err (fault.Syntax at)) fields c = ⊥
IsReadAs (Err fault.OutOfMemory) fields c = Unit {0}

-- the text spells a tree, and the answer is the one to this tree
abbrev pub HasTree : Result Condition CondFault → List ℕ → List CondField → Type 0
HasTree answer text fields = (c : Cond) × IsSpelled text c × IsReadAs answer fields c

-- the tree's tokens begin with these
abbrev pub BeginsWith : List Kind → Cond → Type 0
BeginsWith ks c = (rest : List Kind) × (cond_then c [] ≡ ks ++ rest)

-- some condition begins with these tokens
abbrev pub CanBegin : List Kind → Type 0
CanBegin ks = (c : Cond) × BeginsWith ks c

-- these tokens are no whole condition
abbrev pub IsNone : List Kind → Type 0
IsNone ks = (c : Cond) → cond_then c [] ≡ ks → ⊥

-- the first tokens are of these kinds, and this is the rest
abbrev pub Splits : Scan → List Kind → Scan → Type 0
Splits ts [] rest = ts ≡ rest
Splits (Then kind at ts) (k ∷ ks) rest = (kind ≡ k) × Splits ts ks rest
Splits _ (k ∷ ks) rest = ⊥

-- what follows tokens of these kinds cannot stand there: a token with which no condition goes on, a byte that begins no token, or the end of a text that is no condition
abbrev pub BreaksAt : ℕ → List Kind → Scan → Type 0
BreaksAt at ks (End place) = (place ≡ at) × IsNone ks
BreaksAt at ks (Bad place) = place ≡ at
BreaksAt at ks (Then kind place rest) = (place ≡ at) × (CanBegin (ks ++ kind ∷ []) → ⊥)

-- the tokens before this offset begin a condition, and what is at the offset cannot stand there
abbrev pub IsBroken : Scan → ℕ → Type 0
IsBroken ts at = (ks : List Kind) × (rest : Scan) × Splits ts ks rest × CanBegin ks × BreaksAt at ks rest

-- the text spells a tree, or is broken at an offset
abbrev pub IsOneOfTwo : List ℕ → Type 0
IsOneOfTwo text = ((c : Cond) × IsSpelled text c) ⊎ ((at : ℕ) × IsBroken (tokens_of text) at)

-- the first tokens begin a condition, and each condition that begins so has this property
abbrev pub BeginsOnly : Scan → (Cond → Type 0) → Type 0
BeginsOnly ts P = (ks : List Kind) × (rest : Scan) × Splits ts ks rest × CanBegin ks × ((c : Cond) → BeginsWith ks c → P c)

-- why the answer is this one
abbrev pub HasCause : Result Condition CondFault → List ℕ → List CondField → Type 0
HasCause (Err (fault.Syntax at)) text fields = IsBroken (tokens_of text) at
HasCause (Err fault.TooDeep) text fields = BeginsOnly (tokens_of text) (λ c. 32 < depth_of c)
HasCause (Err fault.TooLarge) text fields = BeginsOnly (tokens_of text) (λ c. 1024 < nodes_of c)
HasCause (Err fault.OutOfMemory) text fields = Unit {0}
HasCause answer text fields = HasTree answer text fields

-- the answer to a text that is broken at this offset: that, unless it is too deep or too large before
abbrev pub IsRefusedAt : Result Condition CondFault → ℕ → Type 0
IsRefusedAt (Ok condition) at = ⊥
IsRefusedAt (Err (fault.UnknownField name)) at = ⊥
IsRefusedAt (Err (fault.TypeClash name)) at = ⊥
IsRefusedAt (Err (fault.Syntax place)) at = place ≡ at
IsRefusedAt (Err fault.TooDeep) at = Unit {0}
IsRefusedAt (Err fault.TooLarge) at = Unit {0}
IsRefusedAt (Err fault.OutOfMemory) at = Unit {0}
