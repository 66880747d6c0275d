-- Reading, as a function from a place in an object to a value and the place behind it. Where a field is broken the answer is its offset.
use Rattle.std.specs.Prelude.{ℕ, zero, suc, ◌+◌, Bool, nat_lt, nat_eq, if◌then◌else◌, List, [], ◌∷◌, ◌++◌, length, take, drop, Option, Some, None, Result, Ok, Err}

-- a place in an object: the bytes from here on, and the offset of the first of them from the object's start
pub record Place : Type 0 where
  pub rest : List ℕ
  pub at : ℕ

-- the place with these bytes from here on, at this offset
abbrev pub place : List ℕ → ℕ → Place
place rest at = record { rest = rest; at = at }

-- what a reader gives: a value and the place behind it, or the offset of the first broken field
abbrev pub Read : Type 0 → Type 0
Read A = Result (A × Place) ℕ

-- the next step, if the one before gave a value
infixl 10 ◌>>=◌
abbrev pub ◌>>=◌ : {A B : Type 0} → Result A ℕ → (A → Result B ℕ) → Result B ℕ
Ok x >>= f = f x
Err at >>= f = Err at

-- the next n bytes
abbrev pub bytes_at : ℕ → Place → Read (List ℕ)
bytes_at n p = if nat_lt (length p.rest) n then Err p.at else Ok (take n p.rest, place (drop n p.rest) (p.at + n))

-- a value that takes no bytes
abbrev pub given : {A : Type 0} → A → Place → Read A
given x p = Ok (x, p)

-- what f makes of the value that is read
abbrev pub mapped : {A B : Type 0} → (A → B) → (Place → Read A) → Place → Read B
mapped f read p = read p >>= λ x. Ok (f x.0, x.1)

-- one value and then the next, whose reader may depend on the first
abbrev pub both : {A B : Type 0} → (Place → Read A) → (A → Place → Read B) → Place → Read (A × B)
both read next p = read p >>= λ a. next a.0 a.1 >>= λ b. Ok ((a.0, b.0), b.1)

-- the same answer, but broken at this offset wherever it was broken
abbrev pub start_of : {A : Type 0} → ℕ → Read A → Read A
start_of at (Ok x) = Ok x
start_of at (Err here) = Err at

-- several parts that are one field: it is broken at its start
abbrev pub field : {A : Type 0} → (Place → Read A) → Place → Read A
field read p = start_of p.at (read p)

-- a value with a rule: it is broken at its start where the rule fails
abbrev pub ruled : {A : Type 0} → (A → Bool) → (Place → Read A) → Place → Read A
ruled rule read p = read p >>= λ x. if rule x.0 then Ok x else Err p.at

-- the answer, or its fault, so many bytes behind an offset
abbrev pub judged_from : {A : Type 0} → ℕ → A × Place → Option ℕ → Read A
judged_from at x None = Ok x
judged_from at x (Some far) = Err (at + far)

-- a value whose fault, if it has one, is broken so many bytes behind its start
abbrev pub judged : {A : Type 0} → (A → Option ℕ) → (Place → Read A) → Place → Read A
judged fault read p = read p >>= λ x. judged_from p.at x (fault x.0)

-- n values, each read by those before it
unfoldable pub items_at : {A : Type 0} → (List A → Place → Read A) → ℕ → List A → Place → Read (List A)
items_at read zero front = given []
items_at read (suc n) front = mapped (λ x. x.0 ∷ x.1) (both (read front) (λ a. items_at read n (front ++ a ∷ [])))

-- a count, and then so many values
abbrev pub counted_at : {A : Type 0} → (Place → Read ℕ) → (List A → Place → Read A) → Place → Read (List A)
counted_at count read = mapped (λ x. x.1) (both count (λ n. items_at read n []))

-- a count, and then so many values, each read by the count and those before it
abbrev pub numbered_at : {A : Type 0} → (Place → Read ℕ) → (ℕ → List A → Place → Read A) → Place → Read (List A)
numbered_at count read = mapped (λ x. x.1) (both count (λ n. items_at (read n) n []))

-- one value for each item of a list that is known
unfoldable pub each_at : {D A : Type 0} → (D → Place → Read A) → List D → Place → Read (List A)
each_at read [] = given []
each_at read (d ∷ ds) = mapped (λ x. x.0 ∷ x.1) (both (read d) (λ _. each_at read ds))

-- a value and nothing behind it: what is too much is broken at its first byte
abbrev pub whole : {A : Type 0} → (Place → Read A) → Place → Result A ℕ
whole read p = read p >>= λ x. if nat_eq (length x.1.rest) 0 then Ok x.0 else Err x.1.at
