-- A loop over the parts of a slice has gone over all of them at its end.
use Rattle.std.proofs.Common.{◌≡◌, Bool, List, Option, None, false, map}
use Rattle.std.specs.Borrow.{Bor}
use Rattle.std.specs.Iterator.{Yields}
use Rattle.std.specs.List.{slice_split}
use Rattle.std.specs.Slice.Iter as slice
use Rattle.std.proofs.lemmas.Iterator.Consumers.{YieldsList-end}
use Rattle.std.proofs.lemmas.Iterator.Splits.{YieldsList-from_slice_split}
use Rattle.std.specs.Fn.{CalledAt}
use denote.Param.Members.{Mut}

pub parts_are : {A F : Type 0} {g : Mut F (Bor A × Unit {0}) Bool} (s t u : _) {r : Option (Bor (List A))} (p : A → Bool) (xs : List A) {f : F} (parts : List (Bor (List A))) → Yields (slice.split_steps g) s parts t → r ≡ None → slice.split_steps g t r u
    → slice.split_rest s ≡ xs → slice.split_done s ≡ false → slice.split_callee s ≡ f → ((x : A) (b : Bool) (q : F) → CalledAt g f x b q → (q ≡ f) × (b ≡ p x)) → map (λ part. part.now) parts ≡ slice_split p xs
parts_are {g = g} s t u {r = r} p xs parts run none step rest done closure tests =
    (YieldsList-end (YieldsList-from_slice_split g p xs rest done closure tests) parts t run r u none step).0
