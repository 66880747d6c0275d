-- What is read of the items of a list.
use Rattle.std.proofs.Common.{◌≡◌, ℕ, zero, suc, ◌+◌, ℤ, pos, negsuc, List, [], ◌∷◌, ◌++◌, map, drop, Vec, Box, Global, Option, Some, None, option_and_then, Err, refl, ap, ◌∙◌, rules, append_assoc, append-nil, add-one}
use Rattle.std.specs.Prelude.{slice_get}
use Rattle.serde_json.specs.Data.{Data, array}
use Rattle.serde_json.specs.Find.{as_integer, of_integer}
use Rattle.serde_json.specs.View.{items_of}
use Rattle.ts_base.specs.declared.values.Val.{Val}
use Rattle.ts_base.specs.declared.values.Val.TheVariants.{Null, Int, Bytes}
use Rattle.ts_script.specs.declared.cells.Cells.{Cells}
use Rattle.ts_script.specs.declared.tree.Json.{Json, Values, the_lemmas}
use Rattle.ts_script.specs.declared.forms.FormFault.{FormFault}
use Rattle.ts_script.specs.declared.forms.FormFault.TheVariants as fault
use Rattle.ts_script.specs.Shapes.{items_onto, Gives}
use Rattle.ts_script.specs.Values.{value}
use Rattle.ts_script.specs.Trees.{data_of, view}

pub view-Values : (cells : Box Cells Global) (rest : Vec Json Global) → view (Values cells rest) ≡ array (items_of (map data_of cells.value.column ++ map view rest.items))
view-Values cells rest = search (rules, the_lemmas)

both_by : {A : Type 0} (form : Data → Option A) (done : List A) (ds es : List Data) (o : Option A)
    → ((x : A) → items_onto form (done ++ x ∷ []) (items_of (ds ++ es)) ≡ option_and_then (λ more. items_onto form more (items_of es)) (items_onto form (done ++ x ∷ []) (items_of ds)))
    → option_and_then (λ x. items_onto form (done ++ x ∷ []) (items_of (ds ++ es))) o ≡ option_and_then (λ more. items_onto form more (items_of es)) (option_and_then (λ x. items_onto form (done ++ x ∷ []) (items_of ds)) o)
both_by form done ds es None same = refl
both_by form done ds es (Some x) same = same x

-- a list is read by reading its front and then its rest
pub items_onto-both : {A : Type 0} (form : Data → Option A) (done : List A) (ds es : List Data)
    → items_onto form done (items_of (ds ++ es)) ≡ option_and_then (λ more. items_onto form more (items_of es)) (items_onto form done (items_of ds))
items_onto-both form done [] es = refl
items_onto-both form done (d ∷ ds) es = both_by form done ds es (form d) (λ x. items_onto-both form (done ++ x ∷ []) ds es)

-- an integer is the one that its number is
pub as_integer-of_integer : (z : ℤ) → as_integer (of_integer z) ≡ Some z
as_integer-of_integer (pos n) = refl
as_integer-of_integer (negsuc n) = refl

value-data_of : (v : Val) → value (data_of v) ≡ Some v
value-data_of Null = refl
value-data_of (Int z) = rw as_integer-of_integer
value-data_of (Bytes bytes) = refl

-- plain values at the front of a list are the values that are read of it first
pub items_onto-plain : (done vs : List Val) (es : List Data) → items_onto value done (items_of (map data_of vs ++ es)) ≡ items_onto value (done ++ vs) (items_of es)
items_onto-plain done [] es = rw append-nil
items_onto-plain done (v ∷ vs) es = rw (value-data_of v) (items_onto-plain (done ++ v ∷ []) vs es ∙ ap (λ all. items_onto value all (items_of es)) (append_assoc done (v ∷ []) vs))

rest_from : {A : Type 0} (xs : List A) (i : ℕ) (x : A) → slice_get xs i ≡ Some x → drop i xs ≡ x ∷ drop (suc i) xs
rest_from [] i x e = absurd (cc)
rest_from (y ∷ ys) zero x e = let same : y ≡ x = cc in ap (λ z. z ∷ ys) same
rest_from (y ∷ ys) (suc i) x e = rest_from ys i x e

-- reading the plain values from a place on begins with the one at the place
pub items_onto-at : {A : Type 0} (form : Data → Option A) (done : List A) (vs : List Val) (i : ℕ) (v : Val) → slice_get vs i ≡ Some v
    → items_onto form done (items_of (map data_of (drop i vs))) ≡ option_and_then (λ x. items_onto form (done ++ x ∷ []) (items_of (map data_of (drop (i + 1) vs)))) (form (data_of v))
items_onto-at form done vs i v e = rw (add-one, rest_from vs i v e)

-- what stops the reader stops it where more would follow
pub Gives-stopped : {A B : Type 0} (e : FormFault) (said : Option A) (next : A → Option B) → Gives {A = A} (Err e) said → Gives {A = B} (Err e) (option_and_then next said)
Gives-stopped fault.Form said next h = rw h
Gives-stopped fault.OutOfMemory said next h = tt
