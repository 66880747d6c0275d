-- The envelope in front of an object's body: magic, kind, version and length.
use Rattle.std.specs.Prelude.{◌≡◌, ◌≢◌, ◌≤◌, ℕ, nat_eq, if◌then◌else◌, List, [], ◌∷◌, ◌++◌, length, codes, Result, Ok, Err}
use Rattle.ts_wire.specs.declared.kinds.Kind.{Kind}
use Rattle.ts_wire.specs.declared.kinds.Kind.TheVariants as kind
use Rattle.ts_wire.specs.Place.{Place, Read, place, ◌>>=◌, both, whole}
use Rattle.ts_wire.specs.Numbers.{number_bytes, number_at, constant_at}

-- the number of each kind
abbrev pub kind_code : Kind → ℕ
kind_code kind.Domain = 1
kind_code kind.Schema = 2
kind_code kind.Delete = 3
kind_code kind.Vac = 4
kind_code kind.Meta = 5
kind_code kind.Column = 6
kind_code kind.Plain = 7

-- the text TDBU, as a number of four bytes
abbrev pub magic : ℕ
magic = 0x55424454

-- the envelope of a body of n bytes: the magic text, the kind, the version 1, and the length
unfoldable pub envelope_bytes : Kind → ℕ → List ℕ
envelope_bytes k n = codes "TDBU" ++ (kind_code k ∷ 1 ∷ number_bytes 8 n)

-- an object: its envelope, and then its body
unfoldable pub wrapped : Kind → List ℕ → List ℕ
wrapped k body = envelope_bytes k (length body) ++ body

-- the magic text, the kind and the version
abbrev pub front_at : Kind → Place → Read (ℕ × (ℕ × ℕ))
front_at k = both (constant_at 4 magic) (λ _. both (constant_at 1 (kind_code k)) (λ _. constant_at 1 1))

-- the length, which has to be that of all that follows
abbrev pub length_at : Place → Read ℕ
length_at p = number_at 8 p >>= λ x. if nat_eq x.0 (length x.1.rest) then Ok x else Err p.at

-- the body of an object of this kind
unfoldable pub unwrapped : Kind → List ℕ → Result (List ℕ) ℕ
unwrapped k object = front_at k (place object 0) >>= λ x. length_at x.1 >>= λ y. Ok y.1.rest

-- this part is the whole without its end, which is not nothing, and holds its first n bytes
pub record IsCut (n : ℕ) (whole part : List ℕ) : Type 0 where
  pub end : List ℕ
  pub some : end ≢ []
  pub parts : whole ≡ part ++ end
  pub kept : n ≤ length part

-- the value that an object of this kind spells: its body has the offset 14, and nothing may follow the value
unfoldable pub object_at : {A : Type 0} → Kind → (Place → Read A) → List ℕ → Result A ℕ
object_at k read object = unwrapped k object >>= λ body. whole read (place body 14)
