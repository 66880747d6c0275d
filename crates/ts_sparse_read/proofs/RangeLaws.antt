-- Seeking the bytes of a part among those that were got.
use Rattle.std.proofs.Common.{◌≡◌, ℕ, zero, suc, ◌+◌, ◌<◌, ◌≤◌, true, false, List, [], ◌∷◌, length, get_or, drop, refl, sym, ap, ◌∙◌, add-one, cond}
use Rattle.std.proofs.lemmas.List.{drop_more, drop_all}
use Rattle.ts_base.specs.declared.names.Part.{Part}
use Rattle.ts_base.specs.contracts.names.PartPartialEq.TheImpl as same
use Rattle.ts_sparse_read.specs.declared.opened.Span.{Span}
use Rattle.ts_sparse_read.specs.Faults.{Ranged, bytes_of, from_of}
use Rattle.ts_sparse_read.specs.Judges.{ranged}

-- what was got of a span
abbrev range_of : Span → List ℕ → Ranged
range_of s bytes = record { part = s.part; from = s.from; bytes = bytes }

-- what was got of the spans from the k-th on
abbrev ranged_from : List Span → List (List ℕ) → ℕ → List Ranged
ranged_from spans got k = ranged (drop k spans) (drop k got)

bytes_next : (s : Span) (spans : List Span) (got : List (List ℕ)) (k : ℕ) → ranged (s ∷ spans) (drop k got) ≡ range_of s (get_or got k []) ∷ ranged spans (drop (suc k) got)
bytes_next s spans [] zero = refl
bytes_next s spans [] (suc k) = refl
bytes_next s spans (bytes ∷ got) zero = refl
bytes_next s spans (bytes ∷ got) (suc k) = bytes_next s spans got k

ranged_next : (spans : List Span) (got : List (List ℕ)) (k : ℕ) (s : Span) → k < length spans → ranged_from spans got k ≡ range_of (get_or spans k s) (get_or got k []) ∷ ranged_from spans got (k + 1)
ranged_next spans got k s within =
    ap (λ ss. ranged ss (drop k got)) (drop_more spans k s within)
    ∙ bytes_next (get_or spans k s) (drop (k + 1) spans) got k
    ∙ ap (λ i. range_of (get_or spans k s) (get_or got k []) ∷ ranged (drop (k + 1) spans) (drop i got)) (sym (add-one k))

-- ---- the bytes

abbrev pub SeekingBytes : List Span → List (List ℕ) → Part → ℕ → Type 0
SeekingBytes spans got p k = bytes_of (ranged (drop k spans) (drop k got)) p ≡ bytes_of (ranged spans got) p

pub bytes_here : (spans : List Span) (got : List (List ℕ)) (p : Part) (k : ℕ) (s : Span) → SeekingBytes spans got p k → k < length spans → (same.ghosts).eq (get_or spans k s).part p ≡ true
    → get_or got k [] ≡ bytes_of (ranged spans got) p
bytes_here spans got p k s seeking within hit =
    ap (λ b. cond b (get_or got k []) (bytes_of (ranged_from spans got (k + 1)) p)) (sym hit) ∙ ap (λ rs. bytes_of rs p) (sym (ranged_next spans got k s within)) ∙ seeking

pub bytes_on : (spans : List Span) (got : List (List ℕ)) (p : Part) (k : ℕ) (s : Span) → SeekingBytes spans got p k → k < length spans → (same.ghosts).eq (get_or spans k s).part p ≡ false
    → SeekingBytes spans got p (k + 1)
bytes_on spans got p k s seeking within miss =
    ap (λ b. cond b (get_or got k []) (bytes_of (ranged_from spans got (k + 1)) p)) (sym miss) ∙ ap (λ rs. bytes_of rs p) (sym (ranged_next spans got k s within)) ∙ seeking

pub bytes_none : (spans : List Span) (got : List (List ℕ)) (p : Part) (k : ℕ) → SeekingBytes spans got p k → length spans ≤ k → [] ≡ bytes_of (ranged spans got) p
bytes_none spans got p k seeking over = ap (λ ss. bytes_of (ranged ss (drop k got)) p) (sym (drop_all k spans over)) ∙ seeking

-- ---- their offset

-- it is the same whatever was got
pub from_any : (spans : List Span) (got : List (List ℕ)) (p : Part) → from_of (ranged spans got) p ≡ from_of (ranged spans []) p
from_any [] got p = refl
from_any (s ∷ spans) [] p = refl
from_any (s ∷ spans) (bytes ∷ got) p = ap (cond ((same.ghosts).eq s.part p) s.from) (from_any spans got p)

abbrev pub SeekingFrom : List Span → Part → ℕ → Type 0
SeekingFrom spans p k = from_of (ranged (drop k spans) []) p ≡ from_of (ranged spans []) p

from_next : (spans : List Span) (p : Part) (k : ℕ) (s : Span) → k < length spans
    → from_of (ranged (drop k spans) []) p ≡ cond ((same.ghosts).eq (get_or spans k s).part p) (get_or spans k s).from (from_of (ranged (drop (k + 1) spans) []) p)
from_next spans p k s within = ap (λ ss. from_of (ranged ss []) p) (drop_more spans k s within)

pub from_here : (spans : List Span) (p : Part) (k : ℕ) (s : Span) → SeekingFrom spans p k → k < length spans → (same.ghosts).eq (get_or spans k s).part p ≡ true
    → (get_or spans k s).from ≡ from_of (ranged spans []) p
from_here spans p k s seeking within hit =
    ap (λ b. cond b (get_or spans k s).from (from_of (ranged (drop (k + 1) spans) []) p)) (sym hit) ∙ sym (from_next spans p k s within) ∙ seeking

pub from_on : (spans : List Span) (p : Part) (k : ℕ) (s : Span) → SeekingFrom spans p k → k < length spans → (same.ghosts).eq (get_or spans k s).part p ≡ false → SeekingFrom spans p (k + 1)
from_on spans p k s seeking within miss =
    ap (λ b. cond b (get_or spans k s).from (from_of (ranged (drop (k + 1) spans) []) p)) (sym miss) ∙ sym (from_next spans p k s within) ∙ seeking

pub from_none : (spans : List Span) (p : Part) (k : ℕ) → SeekingFrom spans p k → length spans ≤ k → 0 ≡ from_of (ranged spans []) p
from_none spans p k seeking over = ap (λ ss. from_of (ranged ss []) p) (sym (drop_all k spans over)) ∙ seeking
