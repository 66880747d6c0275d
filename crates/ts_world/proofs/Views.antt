-- What contracts see of slots.
use Rattle.std.proofs.Common.{◌≡◌, ◌<◌, ◌≤◌, ℕ, true, false, List, [], ◌∷◌, Option, Some, None, Bor, length, get_or, map, refl, sym, ◌∙◌, ap}
use Rattle.std.specs.Prelude.{option_map, option_and_then, slice_get}
use Rattle.std.proofs.lemmas.Option.{same_Some, none-some, slice_get-map, slice_get-get_or, slice_get_past}
use Rattle.ts_model.specs.declared.answers.Outcome.{Outcome}
use Rattle.ts_world.specs.declared.slots.Running.{Running}
use Rattle.ts_world.specs.declared.slots.Slot.{Slot}
use Rattle.ts_world.specs.declared.slots.Slot.TheVariants as slot
use Rattle.ts_world.specs.Views.{Standing, Runs, Ended, dropped, end_in, end_of}
use Rattle.ts_world.specs.Slots.{standing_of, standings, dropped_slot, is_up}

-- where an actor stands is seen
pub seen_at : {P F : Type 0} (slots : List (Slot P F)) (number : ℕ) (s : Slot P F) → slice_get slots number ≡ Some s → slice_get (standings slots) number ≡ Some (standing_of s)
seen_at slots number s at = slice_get-map standing_of slots number ∙ ap (option_map standing_of) at

running_only : {P F : Type 0} (s : Slot P F) → standing_of s ≡ Runs → (r : Running P F) × (s ≡ slot.Runs r)
running_only (slot.Runs r) is = (r, refl)
running_only (slot.Ended end) is = cc
running_only slot.Dropped is = cc

ended_only : {P F : Type 0} (s : Slot P F) (end : Outcome) → standing_of s ≡ Ended end → s ≡ slot.Ended end
ended_only (slot.Runs r) end is = cc
ended_only (slot.Ended other) end is = ap slot.Ended (one_end other end is)
  where
    one_end : (a b : Outcome) → Ended a ≡ Ended b → a ≡ b
    one_end a b same = cc
ended_only slot.Dropped end is = cc

slot_at : {P F : Type 0} (o : Option (Slot P F)) (x : Standing) → option_map standing_of o ≡ Some x → (s : Slot P F) × (o ≡ Some s) × (standing_of s ≡ x)
slot_at None x is = absurd (none-some x is)
slot_at (Some s) x is = (s, refl, same_Some (standing_of s) x is)

-- an actor that is seen to run does
pub up_at : {P F : Type 0} (slots : List (Slot P F)) (number : ℕ) → slice_get (standings slots) number ≡ Some Runs → (r : Running P F) × (slice_get slots number ≡ Some (slot.Runs r))
up_at slots number is =
    let there = slot_at (slice_get slots number) Runs (sym (slice_get-map standing_of slots number) ∙ is) in
    let runs = running_only there.0 there.2 in
    (runs.0, there.1 ∙ ap Some runs.1)

-- an end that is seen is the actor's
pub ended_at : {P F : Type 0} (slots : List (Slot P F)) (number : ℕ) (end : Outcome) → slice_get (standings slots) number ≡ Some (Ended end) → slice_get slots number ≡ Some (slot.Ended end)
ended_at slots number end is =
    let there = slot_at (slice_get slots number) (Ended end) (sym (slice_get-map standing_of slots number) ∙ is) in
    there.1 ∙ ap Some (ended_only there.0 end there.2)

-- a restart is seen
dropped_seen : {P F : Type 0} (s : Slot P F) → standing_of (dropped_slot s) ≡ dropped (standing_of s)
dropped_seen (slot.Runs r) = refl
dropped_seen (slot.Ended end) = refl
dropped_seen slot.Dropped = refl

pub restart_seen : {P F : Type 0} (slots : List (Slot P F)) → standings (map dropped_slot slots) ≡ map dropped (standings slots)
restart_seen [] = refl
restart_seen (s ∷ slots) = ap (λ x. x ∷ standings (map dropped_slot slots)) (dropped_seen s) ∙ ap (λ xs. dropped (standing_of s) ∷ xs) (restart_seen slots)

-- the item that is read at a place is the one there
pub index_at : {X : Type 0} (xs : List X) (i : ℕ) (x : X) → i < length xs → x ≡ get_or xs i x → slice_get xs i ≡ Some x
index_at xs i x within is = slice_get-get_or xs i x within ∙ ap Some (sym is)

-- the test of a slot
pub no_slot_up : {P F : Type 0} (slots : List (Slot P F)) (i : ℕ) → length slots ≤ i → is_up (slice_get slots i) ≡ false
no_slot_up {P} {F} slots i past = ap (λ (o : Option (Slot P F)). is_up o) (slice_get_past slots i past)

pub slot_up : {P F : Type 0} (slots : List (Slot P F)) (i : ℕ) (s : Slot P F) (r : Running P F) → i < length slots → s ≡ get_or slots i s → s ≡ slot.Runs r → is_up (slice_get slots i) ≡ true
slot_up {P} {F} slots i s r within is runs = ap (λ (o : Option (Slot P F)). is_up o) (index_at slots i s within is ∙ ap Some runs)

not_up : {P F : Type 0} (s : Slot P F) → ((r : Running P F) → s ≡ slot.Runs r → ⊥) → is_up (Some s) ≡ false
not_up (slot.Runs r) none = absurd (none r refl)
not_up (slot.Ended end) none = refl
not_up slot.Dropped none = refl

pub slot_down : {P F : Type 0} (slots : List (Slot P F)) (i : ℕ) (s : Slot P F) → i < length slots → s ≡ get_or slots i s → ((r : Running P F) → s ≡ slot.Runs r → ⊥) → is_up (slice_get slots i) ≡ false
slot_down {P} {F} slots i s within is none = ap (λ (o : Option (Slot P F)). is_up o) (index_at slots i s within is) ∙ not_up s none

-- the end of an actor whose slot is this
pub end_at : {P F : Type 0} (slots : List (Slot P F)) (number : ℕ) (s : Slot P F) → slice_get slots number ≡ Some s → end_of (standings slots) number ≡ end_in (standing_of s)
end_at slots number s at = ap (option_and_then end_in) (seen_at slots number s at)

-- where there is no slot there is no end
pub no_end_at : {P F : Type 0} (slots : List (Slot P F)) (number : ℕ) → slice_get slots number ≡ None → end_of (standings slots) number ≡ None
no_end_at slots number at = ap (option_and_then end_in) (slice_get-map standing_of slots number ∙ ap (option_map standing_of) at)
