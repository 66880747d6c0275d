-- What values say, one after another.
use Rattle.std.proofs.Common.{◌≡◌, ℕ, zero, suc, ◌+◌, ◌≤◌, Bool, true, false, cond, List, [], ◌∷◌, ◌++◌, length, drop, Option, Some, None, refl, sym, ap, ◌∙◌, append_assoc, arith}
use Rattle.std.specs.Prelude.{slice_get}
use Rattle.std.specs.Option.{option_map, option_and_then}
use Rattle.std.proofs.lemmas.Option.{same_Some}
use Rattle.std.proofs.lemmas.List.{append-nil, drop_all}
use Rattle.ts_base.specs.declared.values.Val.{Val}
use Rattle.ts_base.specs.declared.values.Val.TheVariants.{Bytes}
use Rattle.ts_base.specs.declared.values.ValType.TheVariants.{Blob}
use Rattle.ts_value.specs.Fits.{fits_of}
use Rattle.ts_schema.specs.declared.attrs.Attr.{Attr}
use Rattle.ts_model.specs.Commands.{all_of, blob_bytes, said_by, value_of}

-- what is left at a place begins with what stands there
drop_at : {A : Type 0} (xs : List A) (i : ℕ) (x : A) → slice_get xs i ≡ Some x → drop i xs ≡ x ∷ drop (i + 1) xs
drop_at [] i x e = cc
drop_at (y ∷ ys) zero x e = ap (λ z. z ∷ ys) (same_Some y x e)
drop_at (y ∷ ys) (suc i) x e =
    let next : suc (i + 1) ≡ suc i + 1 = omega arith in
    drop_at ys i x e ∙ ap (λ n. x ∷ drop n (y ∷ ys)) next

module _ {A B : Type 0} (f : A → Option B) (xs : List A) (i : ℕ) (whole : Option (List B)) where
  -- an item of which something is said
  said_more : (x : A) (y : B) (done : List B) → slice_get xs i ≡ Some x → f x ≡ Some y
      → option_map (λ rest. done ++ rest) (all_of f (drop i xs)) ≡ whole → option_map (λ rest. (done ++ y ∷ []) ++ rest) (all_of f (drop (i + 1) xs)) ≡ whole
  said_more x y done there says was = by (all_of f (drop (i + 1) xs)) refl
    where
      left : all_of f (drop i xs) ≡ option_map (λ ys. y ∷ ys) (all_of f (drop (i + 1) xs))
      left = ap (all_of f) (drop_at xs i x there) ∙ ap (option_and_then (λ z. option_map (λ ys. z ∷ ys) (all_of f (drop (i + 1) xs)))) says

      by : (o : Option (List B)) → all_of f (drop (i + 1) xs) ≡ o → option_map (λ rest. (done ++ y ∷ []) ++ rest) (all_of f (drop (i + 1) xs)) ≡ whole
      by None e = ap (option_map (λ rest. (done ++ y ∷ []) ++ rest)) e ∙ sym (ap (option_map (λ rest. done ++ rest)) (left ∙ ap (option_map (λ ys. y ∷ ys)) e)) ∙ was
      by (Some ys) e =
          ap (option_map (λ rest. (done ++ y ∷ []) ++ rest)) e ∙ ap Some (append_assoc done (y ∷ []) ys)
          ∙ sym (ap (option_map (λ rest. done ++ rest)) (left ∙ ap (option_map (λ zs. y ∷ zs)) e)) ∙ was

  -- an item of which nothing is said
  said_none : (x : A) (done : List B) → slice_get xs i ≡ Some x → f x ≡ None → option_map (λ rest. done ++ rest) (all_of f (drop i xs)) ≡ whole → None ≡ whole
  said_none x done there none was =
      sym (ap (option_map (λ rest. done ++ rest)) (ap (all_of f) (drop_at xs i x there) ∙ ap (option_and_then (λ z. option_map (λ ys. z ∷ ys) (all_of f (drop (i + 1) xs)))) none)) ∙ was

  -- no item is left
  pub said_all : (done : List B) → length xs ≤ i → option_map (λ rest. done ++ rest) (all_of f (drop i xs)) ≡ whole → Some done ≡ whole
  said_all done le was = ap Some (sym (append-nil done)) ∙ sym (ap (λ ys. option_map (λ rest. done ++ rest) (all_of f ys)) (drop_all i xs le)) ∙ was

  -- an item of which something is said that was appended
  pub added_more : (x : A) (old new : List B) → slice_get xs i ≡ Some x → option_map (λ y. old ++ y ∷ []) (f x) ≡ Some new
      → option_map (λ rest. old ++ rest) (all_of f (drop i xs)) ≡ whole → option_map (λ rest. new ++ rest) (all_of f (drop (i + 1) xs)) ≡ whole
  added_more x old new there says was = by (f x) refl says
    where
      by : (o : Option B) → f x ≡ o → option_map (λ y. old ++ y ∷ []) o ≡ Some new → option_map (λ rest. new ++ rest) (all_of f (drop (i + 1) xs)) ≡ whole
      by None is e = cc
      by (Some y) is e = ap (λ ys. option_map (λ rest. ys ++ rest) (all_of f (drop (i + 1) xs))) (sym (same_Some _ _ e)) ∙ said_more x y old there is was

  -- an item of which nothing is said, so that nothing was appended
  pub added_none : (x : A) (old : List B) → slice_get xs i ≡ Some x → option_map (λ y. old ++ y ∷ []) (f x) ≡ None → option_map (λ rest. old ++ rest) (all_of f (drop i xs)) ≡ whole → None ≡ whole
  added_none x old there none was = by (f x) refl none
    where
      by : (o : Option B) → f x ≡ o → option_map (λ y. old ++ y ∷ []) o ≡ None → None ≡ whole
      by None is e = said_none x old there is was
      by (Some y) is e = cc

pub ruleset values = (added_more, added_none, said_all)

-- the digits of a blob say its bytes
pub blob_said : (a : Attr) (v : Val) (text : List ℕ) (old : List Val) → a.ty ≡ Blob → v ≡ Bytes text → option_map (λ said. old ++ said ∷ []) (value_of a v) ≡ option_map (λ bytes. old ++ Bytes bytes ∷ []) (blob_bytes text)
blob_said a v text old blob is =
    (λ i. option_map (λ said. old ++ said ∷ []) (option_and_then (λ said. cond (fits_of (blob i) a.nullable said) (Some said) None) (said_by (blob i) (is i)))) ∙ by (blob_bytes text)
  where
    by : (o : Option (List ℕ)) → option_map (λ said. old ++ said ∷ []) (option_and_then (λ said. cond (fits_of Blob a.nullable said) (Some said) None) (option_map Bytes o)) ≡ option_map (λ bytes. old ++ Bytes bytes ∷ []) o
    by None = refl
    by (Some bytes) = refl

-- a value that says itself
pub plain_said : (a : Attr) (v : Val) (old : List Val) → said_by a.ty v ≡ Some v → option_map (λ said. old ++ said ∷ []) (value_of a v) ≡ cond (fits_of a.ty a.nullable v) (Some (old ++ v ∷ [])) None
plain_said a v old says =
    ap (λ o. option_map (λ said. old ++ said ∷ []) (option_and_then (λ said. cond (fits_of a.ty a.nullable said) (Some said) None) o)) says ∙ by (fits_of a.ty a.nullable v)
  where
    by : (b : Bool) → option_map (λ said. old ++ said ∷ []) (cond b (Some v) None) ≡ cond b (Some (old ++ v ∷ [])) None
    by true = refl
    by false = refl

pub ruleset said = (blob_said, plain_said)
