-- A short list in a buffer of fixed size: the rest of the buffer is filled with one item.
use Rattle.std.specs.Prelude.{◌≡◌, ℕ, ◌-◌, ◌≤◌, List, ◌++◌, length, take, drop, replicate}
use Rattle.std.proofs.Common.{sym, ap}
use Rattle.std.proofs.Math.Seq.{take-append_seam}
use Rattle.std.proofs.lemmas.List.{drop-replicate}

-- the list, and then the filler up to the size
abbrev pub pad : {A : Type 0} → ℕ → A → List A → List A
pad size fill xs = xs ++ replicate (size - length xs) fill

-- the buffer is the padded list of its first items, as many as the count says
pub record IsPadded {A : Type 0} (size : ℕ) (fill : A) (buffer : List A) (count : ℕ) : Type 0 where
  pub fits : count ≤ size
  pub used : length (take count buffer) ≡ count
  pub rest : pad size fill (take count buffer) ≡ buffer

-- a list written over the front of a buffer of filler is that padded list
pub padded_is : {A : Type 0} → (size : ℕ) (fill : A) (xs ys : List A) → ys ≡ xs → length xs ≤ size
    → IsPadded size fill (ys ++ drop (length xs) (replicate size fill)) (length xs)
padded_is size fill xs ys same room =
    let front = take-append_seam xs (drop (length xs) (replicate size fill)) in
    rw same (record {
      fits = room;
      used = ap length front;
      rest = rw front (ap (λ rest. xs ++ rest) (sym (drop-replicate (length xs) size fill)));
    })
