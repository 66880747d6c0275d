-- Lists of lanes, and what was seen of the calls of these lanes.
use Rattle.std.specs.Prelude.{◌≡◌, ℕ, ◌==◌, ◌||◌, Bool, true, false, List, [], ◌∷◌}
use Rattle.ts_turnstile.specs.declared.turn.Turn.{Turn}
use Rattle.ts_turnstile.specs.Turns.{turns_by, GoesInto}

-- the lane is one of these
abbrev pub has : ℕ → List ℕ → Bool
has lane [] = false
has lane (one ∷ lanes) = (one == lane) || has lane lanes

-- the longer list of turns goes on from the shorter one, with no more turns of these lanes
pub record Hears (part : List Turn) (lanes : List ℕ) (seen : List Turn) : Type 0 where
  pub begins : GoesInto part seen
  pub own : (lane : ℕ) → has lane lanes ≡ true → turns_by lane seen ≡ turns_by lane part
