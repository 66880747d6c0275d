-- Where the last call of a lane stands in a journal.
use Rattle.std.specs.Prelude.{ℕ, ◌+◌, ◌==◌, Bool, true, false, Option, Some, None, List, [], ◌∷◌}
use Rattle.ts_store.specs.declared.journal.Entry.{Entry}

-- one place further on, where there is one after it, and else the place itself where the call is one of the lane
abbrev pub place_or : Bool → Option ℕ → Option ℕ
place_or own (Some place) = Some (place + 1)
place_or true None = Some 0
place_or false None = None

-- the place of the last call of a lane, counted from 0
abbrev pub place_in : ℕ → List Entry → Option ℕ
place_in lane [] = None
place_in lane (e ∷ entries) = place_or (e.lane == lane) (place_in lane entries)

-- the place of the last call of a lane, after one that may have come
abbrev pub place_after : Option ℕ → Option ℕ → Option ℕ
place_after (Some place) before = Some place
place_after None before = before
