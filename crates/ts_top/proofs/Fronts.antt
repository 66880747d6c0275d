-- Texts that are written one behind the other.
use Rattle.std.proofs.Common.{◌≡◌, ℕ, ◌+◌, ◌<◌, List, [], ◌∷◌, ◌++◌, length, get_or, take, drop, Option, Result, Ok, Err, append_assoc, sym, ap, ◌∙◌}
use Rattle.std.specs.Prelude.{OnErr}
use Rattle.std.specs.List.{flat_map}
use Rattle.std.proofs.lemmas.List.{drop_more, take-append-drop}
use Rattle.std.proofs.lemmas.Grind.{flat_map-append}
use Rattle.std.specs.Io.KnownBytes.{Appends}
use Rattle.std.proofs.KnownBytes.{Appends-trans}
use Rattle.ts_store.specs.Streams.{AppendsFront}

-- a front of what follows what was written is a front of both
pub front_behind : (a b c : Option (List ℕ)) (xs ys : List ℕ) → Appends a b xs → AppendsFront b c ys → AppendsFront a c (xs ++ ys)
front_behind a b c xs ys first (front, back, whole, second) = (xs ++ front, back, ap (λ zs. xs ++ zs) whole ∙ sym (append_assoc xs front back), Appends-trans a b c xs front first second)

-- and a front of a text is one of a longer text
pub front_of_longer : (a b : Option (List ℕ)) (xs ys : List ℕ) → AppendsFront a b xs → AppendsFront a b (xs ++ ys)
front_of_longer a b xs ys (front, back, whole, appended) = (front, back ++ ys, ap (λ zs. zs ++ ys) whole ∙ append_assoc front back ys, appended)

-- what holds where a result is an error holds in any case
pub on_err : {A E : Type 0} (r : Result A E) (P : Type 0) → P → OnErr r P
on_err (Ok x) P holds = tt
on_err (Err e) P holds = holds

-- the pieces before one, that one, and those behind it
pub around : (pieces : List (List ℕ)) (i : ℕ) (piece : List ℕ) → i < length pieces → piece ≡ get_or pieces i [] → flat_map (λ (p : List ℕ). p) pieces ≡ (flat_map (λ (p : List ℕ). p) (take i pieces) ++ piece) ++ flat_map (λ (p : List ℕ). p) (drop (i + 1) pieces)
around pieces i piece within is =
    ap (flat_map (λ (p : List ℕ). p)) (sym (take-append-drop i pieces) ∙ ap (λ qs. take i pieces ++ qs) (drop_more pieces i [] within))
    ∙ flat_map-append (λ (p : List ℕ). p) (take i pieces) (get_or pieces i [] ∷ drop (i + 1) pieces)
    ∙ sym (append_assoc (flat_map (λ (p : List ℕ). p) (take i pieces)) (get_or pieces i []) (flat_map (λ (p : List ℕ). p) (drop (i + 1) pieces)))
    ∙ ap (λ x. (flat_map (λ (p : List ℕ). p) (take i pieces) ++ x) ++ flat_map (λ (p : List ℕ). p) (drop (i + 1) pieces)) (sym is)
