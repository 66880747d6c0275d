-- How the commands of all lanes came out, in one list.
use Rattle.std.proofs.Common.{◌≡◌, ◌+◌, ◌≤◌, List, [], ◌∷◌, ◌++◌, length, length-append, arith, ◌∙◌, ap}
use Rattle.std.specs.Iterator.{Yields}
use Rattle.std.specs.declared.alloc.Global.{Global}
use Rattle.std.specs.declared.vec.Vec.{Vec}
use Rattle.std.specs.declared.vec.IntoIter.{IntoIter}
use Rattle.std.specs.Vec.Iter.{into_iter_items, into_iter_steps}
use Rattle.std.proofs.lemmas.Grind.{flat_map-append}
use Rattle.ts_model.specs.declared.answers.Driven.{Driven}
use Rattle.ts_model.specs.declared.answers.Outcome.{Outcome}
use Rattle.ts_top.specs.Crews.{all_ends}

-- what the iterator of a vector has given is a front of its items
pub given_first : {X A : Type 0} (s : IntoIter X A) (xs : List X) (t : IntoIter X A) → Yields into_iter_steps s xs t → into_iter_items s ≡ xs ++ into_iter_items t
given_first s [] t is = ap into_iter_items is
given_first s (x ∷ xs) t is = is.1.0 ∙ ap (λ ys. x ∷ ys) (given_first is.0 xs t is.2)

-- where there is room for all there is room for the next lane
pub room_left : (ends front rest : List (Vec (Driven Outcome) Global)) (own : Vec (Driven Outcome) Global) → ends ≡ (front ++ own ∷ []) ++ rest → length (all_ends front) + length own.items ≤ length (all_ends ends)
room_left ends front rest own are =
    let items = (λ (room : Vec (Driven Outcome) Global). room.items) in
    let all = ap (λ l. length (all_ends l)) are ∙ ap length (flat_map-append items (front ++ own ∷ []) rest) ∙ length-append (all_ends (front ++ own ∷ [])) (all_ends rest) in
    let with_own = ap length (flat_map-append items front (own ∷ [])) ∙ length-append (all_ends front) (all_ends (own ∷ [])) in
    let one : length (all_ends (own ∷ [])) ≡ length own.items = length-append own.items [] ∙ omega arith in
    omega (arith, all, with_own, one)
