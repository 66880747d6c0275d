-- Counts of 64 bits, which stay at the end of their range once they are there.
use Rattle.std.specs.Prelude.{ℕ, ◌+◌, ◌-◌, ◌^◌, ◌≤◌, min}

-- a number as such a count shows it
abbrev pub capped : ℕ → ℕ
capped n = min n (2 ^ 64 - 1)

-- one more, or the end of the range
abbrev pub one_more : ℕ → ℕ
one_more n = capped (n + 1)

-- the count went up, or stands at the end of its range
abbrev pub Rose : ℕ → ℕ → Type 0
Rose before now = one_more before ≤ now
