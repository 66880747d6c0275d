-- Shapes: what a JSON value has to be, and what it then stands for.
use Rattle.std.specs.Prelude.{◌≡◌, ℕ, ℤ, List, [], ◌∷◌, ◌++◌, nat_lt, ◌^◌, Bool, true, false, ◌&&◌, ◌||◌, Option, Some, None, option_and_then, option_map, Result, Ok, Err}
use Rattle.std.specs.Option.{option_map_or}
use Rattle.std.specs.Str.{bytes_eq}
use Rattle.serde_json.specs.Data.{Data, object, Items, no_items, item, Members, no_members, member}
use Rattle.serde_json.specs.Find.{get, as_array, as_integer, as_number, as_u64}
use Rattle.ts_script.specs.declared.forms.FormFault.{FormFault}
use Rattle.ts_script.specs.declared.forms.FormFault.TheVariants as fault

-- the first answer, and then what follows from it
infixl 10 ◌>>=◌
abbrev pub ◌>>=◌ : {A B : Type 0} → Option A → (A → Option B) → Option B
o >>= f = option_and_then f o

-- a value that stands where a test holds
abbrev pub when : {A : Type 0} → Bool → A → Option A
when true x = Some x
when false x = None

-- a whole number of 64 bits with or without a sign
abbrev pub integer : Data → Option ℤ
integer d = as_number d >>= as_integer

-- a whole number of 64 bits without a sign
abbrev pub unsigned : Data → Option ℕ
unsigned d = as_number d >>= as_u64

-- the value under a key, in this form
abbrev pub required : {A : Type 0} → (Data → Option A) → List ℕ → Data → Option A
required form key d = get key d >>= form

-- the items, each in this form, after those that are done
abbrev pub items_onto : {A : Type 0} → (Data → Option A) → List A → Items → Option (List A)
items_onto form done no_items = Some done
items_onto form done (item d ds) = form d >>= λ x. items_onto form (done ++ x ∷ []) ds

-- the value under a key, in this form, or this one where the key is not there
abbrev pub optional : {A : Type 0} → (Data → Option A) → A → List ℕ → Data → Option A
optional form missing key d = option_map_or form (get key d) (Some missing)

-- the value under a key, in this form, if the key is there
abbrev pub if_there : {A : Type 0} → (Data → Option A) → List ℕ → Data → Option (Option A)
if_there form key d = option_map_or (λ v. option_map Some (form v)) (get key d) (Some None)

-- an array of items in this form
abbrev pub list_of : {A : Type 0} → (Data → Option A) → Data → Option (List A)
list_of form d = as_array d >>= items_onto form []

-- a whole number of 32 bits without a sign
abbrev pub unsigned_32 : Data → Option ℕ
unsigned_32 d = unsigned d >>= λ n. when (nat_lt n (2 ^ 32)) n

-- the two items of a list of two
abbrev pub both_items : {A : Type 0} → List A → Option (A × A)
both_items (x ∷ y ∷ []) = Some (x, y)
both_items _ = None

-- a key is one of these
abbrev pub is_one_of : List ℕ → List (List ℕ) → Bool
is_one_of key [] = false
is_one_of key (known ∷ rest) = bytes_eq known key || is_one_of key rest

-- each key is a common one or one of its own
abbrev pub keys_within : List (List ℕ) → List (List ℕ) → Members → Bool
keys_within common own no_members = true
keys_within common own (member key d ms) = (is_one_of key common || is_one_of key own) && keys_within common own ms

-- an object with no key but the common ones and its own
abbrev pub has_only : List (List ℕ) → List (List ℕ) → Data → Bool
has_only common own (object ms) = keys_within common own ms
has_only common own _ = false

-- what a reader answered is what the form gives, unless there was no memory
abbrev pub Gives : {A : Type 0} → Result A FormFault → Option A → Type 0
Gives (Ok x) said = said ≡ Some x
Gives (Err fault.Form) said = said ≡ None
Gives (Err fault.OutOfMemory) said = Unit {0}
