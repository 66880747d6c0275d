-- What it means that an object is broken at an offset, said apart from how it is read.
use Rattle.std.specs.Prelude.{◌≡◌, ℕ, ◌+◌, List, ◌∷◌, ◌++◌, length, Err}
use Rattle.std.specs.List.{flat_map}
use Rattle.ts_wire.specs.Place.{Place, Read}
use Rattle.ts_wire.specs.Exact.{IsBytes, Exact}

-- the spellings of some fields, one after the other
abbrev pub joined : List (List ℕ) → List ℕ
joined fields = flat_map (λ field. field) fields

-- At the offset begins the first broken field.
-- The fields before it are whole and right: some value that fits begins with them.
-- The next is not: no value that fits and begins with them has its next field here.
pub record Broken {A : Type 0} (Fits : A → Type 0) (fields : A → List (List ℕ)) (p : Place) (at : ℕ) : Type 0 where
  pub before : List (List ℕ)
  pub rest : List ℕ
  pub parts : p.rest ≡ joined before ++ rest
  pub here : at ≡ p.at + length (joined before)
  pub right : (x : A) × Fits x × (after : List (List ℕ)) × (fields x ≡ before ++ after)
  pub wrong : (x : A) (next : List ℕ) (after : List (List ℕ)) (tail : List ℕ) → Fits x → fields x ≡ before ++ (next ∷ after) → rest ≡ next ++ tail → ⊥

-- a value that fits stands at the place, and at the offset there is a byte too many behind it
pub record Surplus {A : Type 0} (Fits : A → Type 0) (fields : A → List (List ℕ)) (p : Place) (at : ℕ) : Type 0 where
  pub value : A
  pub fits : Fits value
  pub first : ℕ
  pub others : List ℕ
  pub parts : p.rest ≡ joined (fields value) ++ (first ∷ others)
  pub here : at ≡ p.at + length (joined (fields value))

-- a reader that is broken at its start alone
abbrev pub BreaksAtStart : {A : Type 0} → (Place → Read A) → Type 0
BreaksAtStart read = (p : Place) (at : ℕ) → read p ≡ Err at → at ≡ p.at

-- a field: what is read was spelled so, what is spelled is read whatever follows it, and it is broken at its start alone
pub record IsField {A : Type 0} (Fits : A → Type 0) (spell : A → List ℕ) (read : Place → Read A) : Type 0 where
  pub exact : Exact Fits spell read
  pub start : BreaksAtStart read

-- a reader that is broken where its first broken field begins
abbrev pub BreaksFirst : {A : Type 0} → (A → Type 0) → (A → List (List ℕ)) → (Place → Read A) → Type 0
BreaksFirst Fits fields read = (p : Place) (at : ℕ) → IsBytes p.rest → read p ≡ Err at → Broken Fits fields p at
