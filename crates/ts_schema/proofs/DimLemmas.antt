-- Dimensions without a fault, and one more behind them.
use Rattle.std.proofs.Common.{◌≡◌, suc, ◌+◌, ◌-◌, ◌<◌, Bool, true, false, cond, List, [], ◌∷◌, ◌++◌, length, take, drop, replicate, Option, Some, None, refl, sym, ap, ◌∙◌, arith, append_assoc, length-append}
use Rattle.std.specs.Prelude.{nat_lt}
use Rattle.std.specs.List.{All}
use Rattle.std.specs.Option.{option_or}
use Rattle.std.proofs.Math.Seq.{take-append_seam}
use Rattle.std.proofs.lemmas.List.{drop-replicate, append-nil}
use Rattle.std.proofs.lemmas.List.Elements.{All-nil, All-cons, All-head, All-tail}
use Rattle.ts_domain.specs.declared.dims.Dim.{Dim}
use Rattle.ts_domain.specs.Dims.{IsDim, dim_fault, fault_behind, domain_fault}

-- of a choice of two there is none exactly where there is neither
pub neither : {A : Type 0} (a b : Option A) → option_or a b ≡ None → (a ≡ None) × (b ≡ None)
neither None b e = (refl, e)
neither (Some x) b e = cc

pub no_fault : {A : Type 0} (b : Bool) (x : A) (rest : Option A) → cond b (Some x) rest ≡ None → (b ≡ false) × (rest ≡ None)
no_fault true x rest e = cc
no_fault false x rest e = (refl, e)

or_none : {A : Type 0} (a : Option A) → option_or a None ≡ a
or_none None = refl
or_none (Some x) = refl

-- behind dimensions without a fault the first fault is that of the others
fault_behind-append : (earlier front rest : List Dim) → fault_behind earlier front ≡ None → fault_behind earlier (front ++ rest) ≡ fault_behind (earlier ++ front) rest
fault_behind-append earlier [] rest none = ap (λ ds. fault_behind ds rest) (sym (append-nil earlier))
fault_behind-append earlier (d ∷ ds) rest none =
    let parts = neither (dim_fault earlier d) (fault_behind (earlier ++ d ∷ []) ds) none in
    ap (λ o. option_or o (fault_behind (earlier ++ d ∷ []) (ds ++ rest))) parts.0
    ∙ fault_behind-append (earlier ++ d ∷ []) ds rest parts.1
    ∙ ap (λ es. fault_behind es rest) (append_assoc earlier (d ∷ []) ds)

pub next_fault : (front : List Dim) (d : Dim) → length front < 8 → fault_behind [] front ≡ None → domain_fault (front ++ d ∷ []) ≡ dim_fault front d
next_fault front d few none =
    let long : nat_lt 8 (length (front ++ d ∷ [])) ≡ false = grind (arith, length-append front (d ∷ []), few) in
    rw long (fault_behind-append [] front (d ∷ []) none ∙ or_none (dim_fault front d))

pub next_valid : (front : List Dim) (d : Dim) → All IsDim front → IsDim d → All IsDim (front ++ d ∷ [])
next_valid [] d valid next = All-cons IsDim d [] next (All-nil IsDim)
next_valid (e ∷ es) d valid next = All-cons IsDim e (es ++ d ∷ []) (All-head IsDim e es valid) (next_valid es d (All-tail IsDim e es valid) next)

-- a list written over the front of a buffer of one dimension, and that dimension behind it
pub written_next : (front written : List Dim) (d : Dim) → length front < 8 → written ≡ front
    → take (length front + 1) (written ++ drop (length front) (replicate 8 d)) ≡ front ++ d ∷ []
written_next front written d few same =
    let left : 8 - length front ≡ suc (7 - length front) = omega arith in
    let rest : drop (length front) (replicate 8 d) ≡ d ∷ replicate (7 - length front) d = drop-replicate (length front) 8 d ∙ ap (λ n. replicate n d) left in
    let parts : written ++ drop (length front) (replicate 8 d) ≡ (front ++ d ∷ []) ++ replicate (7 - length front) d =
    ap (λ xs. xs ++ drop (length front) (replicate 8 d)) same ∙ ap (λ xs. front ++ xs) rest ∙ sym (append_assoc front (d ∷ []) (replicate (7 - length front) d)) in
    ap (λ n. take n (written ++ drop (length front) (replicate 8 d))) (sym (length-append front (d ∷ [])))
    ∙ ap (λ xs. take (length (front ++ d ∷ [])) xs) parts
    ∙ take-append_seam (front ++ d ∷ []) (replicate (7 - length front) d)
