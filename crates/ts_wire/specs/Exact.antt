-- What it means that a spelling is read exactly: one spelling for each value, whatever follows it.
use Rattle.std.specs.Prelude.{◌≡◌, ℕ, ◌+◌, ◌<◌, ◌≤◌, List, [], ◌∷◌, ◌++◌, length, slice_index, Ok, Err}
use Rattle.ts_wire.specs.Place.{Place, Read, place}

-- each of these numbers is a byte
abbrev pub IsBytes : List ℕ → Type 0
IsBytes bs = (i : ℕ) → slice_index bs i < 256

-- from the place p to the place q lies just this text
pub record Takes (p : Place) (text : List ℕ) (q : Place) : Type 0 where
  pub parts : p.rest ≡ text ++ q.rest
  pub count : q.at ≡ p.at + length text
  pub bytes : IsBytes q.rest

-- what is read fits and was spelled so; what fits and is spelled so is read, whatever follows; what is broken is broken within the bytes
pub record Exact {A : Type 0} (Fits : A → Type 0) (spell : A → List ℕ) (read : Place → Read A) : Type 0 where
  pub takes : (p : Place) (y : A × Place) → IsBytes p.rest → read p ≡ Ok y → Takes p (spell y.0) y.1 × Fits y.0
  pub again : (x : A) (rest : List ℕ) (at : ℕ) → Fits x → read (place (spell x ++ rest) at) ≡ Ok (x, place rest (at + length (spell x)))
  pub within : (p : Place) (at : ℕ) → IsBytes p.rest → read p ≡ Err at → (p.at ≤ at) × (at ≤ p.at + length p.rest)

-- what f makes of what fits, fits and is spelled the same, and each value that fits is made so
pub record Restates {A B : Type 0} (FitsA : A → Type 0) (spellA : A → List ℕ) (FitsB : B → Type 0) (spellB : B → List ℕ) (f : A → B) : Type 0 where
  pub there : (a : A) → FitsA a → FitsB (f a) × (spellA a ≡ spellB (f a))
  pub back : (b : B) → FitsB b → (a : A) × FitsA a × (f a ≡ b) × (spellA a ≡ spellB b)

-- each value fits behind those before it
abbrev pub InTurn : {A : Type 0} → (List A → A → Type 0) → List A → List A → Type 0
InTurn Fits front [] = Unit {0}
InTurn Fits front (x ∷ xs) = Fits front x × InTurn Fits (front ++ x ∷ []) xs

-- there is one value for each item of the known list, and it fits that item
abbrev pub EachFits : {D A : Type 0} → (D → A → Type 0) → List D → List A → Type 0
EachFits Fits [] [] = Unit {0}
EachFits Fits [] (x ∷ xs) = ⊥
EachFits Fits (d ∷ ds) [] = ⊥
EachFits Fits (d ∷ ds) (x ∷ xs) = Fits d x × EachFits Fits ds xs

-- the values' spellings one after the other, each by its item of the known list
abbrev pub each_bytes : {D A : Type 0} → (D → A → List ℕ) → List D → List A → List ℕ
each_bytes spell [] xs = []
each_bytes spell (d ∷ ds) [] = []
each_bytes spell (d ∷ ds) (x ∷ xs) = spell d x ++ each_bytes spell ds xs
