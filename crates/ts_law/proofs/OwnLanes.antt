-- Jobs that each have a lane of their own, which is not nobody's: the journal tells the history of their calls.
use Rattle.std.proofs.Common.{◌≡◌, ℕ, ◌≤◌, ◌<◌, List, [], ◌∷◌, ◌++◌, Option, Some, None, length, sym, ap, subst, arith}
use Rattle.std.specs.Prelude.{All}
use Rattle.std.proofs.lemmas.List.{append-nil}
use Rattle.std.proofs.lemmas.List.Elements.{All-cons, All-contains, All-nil, Contains-append_right}
use Rattle.ts_base.specs.Held.{Held}
use Rattle.ts_model.specs.declared.commands.Job.{Job}
use Rattle.ts_model.specs.Codecs.{Codec, CodecLaws, Spelled, Tracking}
use Rattle.ts_model.specs.Deeds.{History}
use Rattle.ts_model.specs.Told.{Replied, Told, entries_of, history_told}
use Rattle.ts_model.proofs.ListLemmas.{Contains-here}
use Rattle.ts_law.specs.Histories.{history_of}
use Rattle.ts_law.specs.Kept.{AreAllowed, Kept}
use Rattle.ts_law.specs.Lanes.{IsWithin, lane_by, nobodys_lane, own_lane}
use Rattle.ts_law.proofs.JournalHistories.{AreInTurn, IsOwn, OwnsLane, front_history}

-- a call in the lane of a job is its own
is_own : (number : ℕ) → number < nobodys_lane → (o : Option ℕ) → lane_by own_lane o ≡ number → o ≡ Some number
is_own number fewer (Some other) same = ap Some same
is_own number fewer None same = absurd (omega (arith, fewer, same))

-- so a job has its lane all the time
owns_own : (number : ℕ) → number < nobodys_lane → (told : List Told) → OwnsLane (lane_by own_lane) number told
owns_own number fewer [] = tt
owns_own number fewer (e ∷ told) = ((λ own. all_own told), owns_own number fewer told)
  where
    all_own : (es : List Told) → All (IsOwn (lane_by own_lane) number) es
    all_own [] = All-nil (IsOwn (lane_by own_lane) number)
    all_own (d ∷ es) = All-cons (IsOwn (lane_by own_lane) number) d es (is_own number fewer d.job) (all_own es)

own_turns : (jobs : List Job) (told : List Told) → length jobs ≤ nobodys_lane → All (IsWithin jobs) told → AreInTurn (lane_by own_lane) told
own_turns jobs told few within seen back e number parts own =
    let less : number < length jobs = All-contains (IsWithin jobs) (seen ++ e ∷ back) e (subst (All (IsWithin jobs)) parts within) (Contains-append_right seen (e ∷ back) e (Contains-here e back)) number own in
    owns_own number (omega (arith, less, few)) seen

-- the journal alone tells the history of the calls
pub journal_tells : {F : Type 0} (codec : Codec F) (spelled : Spelled) (tracks : Tracking F) → CodecLaws codec spelled tracks → (opening : Held) (past : History) (jobs : List Job) (told : List Told) (last : List ℕ)
    → length jobs ≤ nobodys_lane → Kept codec spelled tracks opening past jobs [] [] opening → AreAllowed codec jobs [] last [] told → Replied opening told → All (IsWithin jobs) told
    → history_told jobs past told ≡ history_of past opening jobs (entries_of (lane_by own_lane) told)
journal_tells codec spelled tracks laws opening past jobs told last few begins may replied within =
    front_history codec spelled tracks laws jobs past opening told (lane_by own_lane) last begins may replied (own_turns jobs told few within) told [] (sym (append-nil told))
