-- Lists of turns that begin one another, and the turns of a lane in them.
use Rattle.std.proofs.Common.{◌≡◌, ℕ, ◌<◌, ◌≤◌, ◌==◌, Bool, true, false, List, [], ◌∷◌, ◌++◌, length, nat_lt, refl, sym, ap, ◌∙◌, arith, append_assoc, append-nil, length-append, add-one, if◌then◌else◌, Some, None, cond, eq-eqb}
use Rattle.std.specs.List.{cons_option}
use Rattle.std.proofs.lemmas.List.Elements.{filter_map-append}
use Rattle.ts_turnstile.specs.declared.turn.Turn.{Turn}
use Rattle.ts_store.specs.declared.journal.Entry.{Entry}
use Rattle.ts_store.specs.Calls.{is_no_memory}
use Rattle.ts_store.specs.Journals.{calls_by, entry, GrowsInto}
use Rattle.ts_store.proofs.JournalLemmas.{calls_by-append}
use Rattle.ts_turnstile.specs.Turns.{entry_in, entries_in, turns_by, GoesInto}
use Rattle.std.proofs.lemmas.Bool.Decides.{nat_tests}
use Rattle.ts_turnstile.specs.Views.{longer}
use Rattle.ts_turnstile.specs.Places.{place_in, place_or}

-- turns one after the other
turns_if : (b : Bool) (t : Turn) (xs ys : List Turn) → cond b (t ∷ (xs ++ ys)) (xs ++ ys) ≡ cond b (t ∷ xs) xs ++ ys
turns_if true t xs ys = refl
turns_if false t xs ys = refl

pub turns_by-append : (lane : ℕ) (turns more : List Turn) → turns_by lane (turns ++ more) ≡ turns_by lane turns ++ turns_by lane more
turns_by-append lane [] more = refl
turns_by-append lane (t ∷ turns) more = ap (λ xs. cond (t.lane == lane) (t ∷ xs) xs) (turns_by-append lane turns more) ∙ turns_if (t.lane == lane) t (turns_by lane turns) (turns_by lane more)

-- one more turn of the lane
pub turns_by-same : (lane : ℕ) (turns : List Turn) (t : Turn) → t.lane ≡ lane → turns_by lane (turns ++ t ∷ []) ≡ turns_by lane turns ++ t ∷ []
turns_by-same lane turns t is = turns_by-append lane turns (t ∷ []) ∙ ap (λ b. turns_by lane turns ++ cond b (t ∷ []) []) (eq-eqb t.lane lane is)

-- one more turn of another lane
pub turns_by-other : (lane : ℕ) (turns : List Turn) (t : Turn) → (t.lane == lane) ≡ false → turns_by lane (turns ++ t ∷ []) ≡ turns_by lane turns
turns_by-other lane turns t apart = turns_by-append lane turns (t ∷ []) ∙ ap (λ b. turns_by lane turns ++ cond b (t ∷ []) []) apart ∙ append-nil (turns_by lane turns)

-- the entries of turns one after the other
pub entries_in-append : (turns more : List Turn) → entries_in (turns ++ more) ≡ entries_in turns ++ entries_in more
entries_in-append turns more = filter_map-append entry_in turns more

-- the entries of a lane are those of its turns
pub calls_by-entries : (lane : ℕ) (turns : List Turn) → calls_by lane (entries_in turns) ≡ entries_in (turns_by lane turns)
calls_by-entries lane [] = refl
calls_by-entries lane (t ∷ turns) = of_first (is_no_memory t.reply) (calls_by-entries lane turns) ∙ sym (first_of (t.lane == lane))
  where
    same_two : (own : Bool) (xs : List Entry) → xs ≡ cond own xs xs
    same_two true xs = refl
    same_two false xs = refl

    first_of : (own : Bool) → entries_in (cond own (t ∷ turns_by lane turns) (turns_by lane turns)) ≡ cond own (cons_option (entry_in t) (entries_in (turns_by lane turns))) (entries_in (turns_by lane turns))
    first_of true = refl
    first_of false = refl

    of_first : (missed : Bool) → calls_by lane (entries_in turns) ≡ entries_in (turns_by lane turns)
        → calls_by lane (cons_option (cond missed None (Some (entry t.lane t.call t.fate))) (entries_in turns)) ≡ cond (t.lane == lane) (cons_option (cond missed None (Some (entry t.lane t.call t.fate))) (entries_in (turns_by lane turns))) (entries_in (turns_by lane turns))
    of_first true same = same ∙ same_two (t.lane == lane) (entries_in (turns_by lane turns))
    of_first false same = ap (λ l. cond (t.lane == lane) (entry t.lane t.call t.fate ∷ l) l) same

pub no_rest : {A : Type 0} (xs rest : List A) → xs ++ rest ≡ xs → rest ≡ []
no_rest xs [] e = refl
no_rest xs (y ∷ ys) e = absurd (omega (arith, ap length e, length-append xs (y ∷ ys)))

pub begins_self : (xs : List Turn) → GoesInto xs xs
begins_self xs = ([], sym (append-nil xs))

pub begins_nil : (xs : List Turn) → GoesInto [] xs
begins_nil xs = (xs, refl)

-- where each begins the other they are the same
pub begins_both : (xs ys : List Turn) → GoesInto xs ys → GoesInto ys xs → xs ≡ ys
begins_both xs ys a b =
    let round : xs ++ (a.0 ++ b.0) ≡ xs = sym (append_assoc xs a.0 b.0) ∙ sym (ap (λ l. l ++ b.0) a.1) ∙ sym b.1 in
    let none : a.0 ++ b.0 ≡ [] = no_rest xs (a.0 ++ b.0) round in
    let first : a.0 ≡ [] = left_nil a.0 b.0 none in
    sym (append-nil xs) ∙ ap (λ l. xs ++ l) (sym first) ∙ sym a.1
  where
    left_nil : (p q : List Turn) → p ++ q ≡ [] → p ≡ []
    left_nil [] q e = refl
    left_nil (x ∷ p) q e = absurd (omega (arith, ap length e))

prefix_of : (a b r q : List Turn) → a ++ r ≡ b ++ q → length a ≤ length b → GoesInto a b
prefix_of [] b r q e le = (b, refl)
prefix_of (x ∷ a) [] r q e le = absurd (omega arith)
prefix_of (x ∷ a) (y ∷ b) r q e le =
    let heads : x ≡ y = cc in
    let tails : a ++ r ≡ b ++ q = cc in
    let on = prefix_of a b r q tails (omega arith) in
    (on.0, λ k. sym heads k ∷ on.1 k)

pub shorter_begins : (a b turns : List Turn) → GoesInto a turns → GoesInto b turns → length a ≤ length b → GoesInto a b
shorter_begins a b turns p q le = prefix_of a b p.0 q.0 (sym p.1 ∙ q.1) le

longer_if : (t : Bool) (a b : List Turn) → (t ≡ true → GoesInto a b) → (t ≡ false → GoesInto b a) → GoesInto a (if t then b else a) × GoesInto b (if t then b else a)
longer_if true a b shorter other = (shorter refl, begins_self b)
longer_if false a b shorter other = (begins_self a, other refl)

-- the longer of two beginnings of a turns
pub longer_goes_on : (a b turns : List Turn) → GoesInto a turns → GoesInto b turns → GoesInto a (longer a b) × GoesInto b (longer a b)
longer_goes_on a b turns p q =
    longer_if (nat_lt (length a) (length b)) a b
    (λ is. let lt : length a < length b = grind (arith, nat_tests) in shorter_begins a b turns p q (omega arith))
    (λ is. let ge : length b ≤ length a = grind (arith, nat_tests) in shorter_begins b a turns q p ge)

pub longer_begins : (a b turns : List Turn) → GoesInto a turns → GoesInto b turns → GoesInto (longer a b) turns
longer_begins a b turns p q = either_one (nat_lt (length a) (length b))
  where
    either_one : (t : Bool) → GoesInto (if t then b else a) turns
    either_one true = q
    either_one false = p

-- between two turnss with the same calls of a lane there are no others
pub between_same : (lane : ℕ) (a b c : List Turn) → GoesInto a b → GoesInto b c → turns_by lane c ≡ turns_by lane a → turns_by lane b ≡ turns_by lane a
between_same lane a b c p q same =
    let all : turns_by lane c ≡ turns_by lane a ++ (turns_by lane p.0 ++ turns_by lane q.0) = ap (turns_by lane) (q.1 ∙ ap (λ l. l ++ q.0) p.1) ∙ turns_by-append lane (a ++ p.0) q.0 ∙ ap (λ l. l ++ turns_by lane q.0) (turns_by-append lane a p.0) ∙ append_assoc (turns_by lane a) (turns_by lane p.0) (turns_by lane q.0) in
    let none : turns_by lane p.0 ++ turns_by lane q.0 ≡ [] = no_rest (turns_by lane a) (turns_by lane p.0 ++ turns_by lane q.0) (sym all ∙ same) in
    let first : turns_by lane p.0 ≡ [] = left_nil (turns_by lane p.0) (turns_by lane q.0) none in
    ap (turns_by lane) p.1 ∙ turns_by-append lane a p.0 ∙ ap (λ l. turns_by lane a ++ l) first ∙ append-nil (turns_by lane a)
  where
    left_nil : (x y : List Turn) → x ++ y ≡ [] → x ≡ []
    left_nil [] y e = refl
    left_nil (h ∷ x) y e = absurd (omega (arith, ap length e))

-- no calls of a lane in a turns, none in its beginning
pub none_before : (lane : ℕ) (a b : List Turn) → GoesInto a b → turns_by lane b ≡ [] → turns_by lane a ≡ []
none_before lane a b p none = left_nil (turns_by lane a) (turns_by lane p.0) (sym (turns_by-append lane a p.0) ∙ sym (ap (turns_by lane) p.1) ∙ none)
  where
    left_nil : (x y : List Turn) → x ++ y ≡ [] → x ≡ []
    left_nil [] y e = refl
    left_nil (h ∷ x) y e = absurd (omega (arith, ap length e))

-- a lane without calls has no last one
pub no_place : (lane : ℕ) (entries : List Entry) → calls_by lane entries ≡ [] → place_in lane entries ≡ None
no_place lane [] none = refl
no_place lane (e ∷ entries) none = no_place_if (e.lane == lane) (λ rest. no_place lane entries rest) none
  where
    no_place_if : (own : Bool) → (calls_by lane entries ≡ [] → place_in lane entries ≡ None) → cond own (e ∷ calls_by lane entries) (calls_by lane entries) ≡ [] → place_or own (place_in lane entries) ≡ None
    no_place_if true on some = absurd (omega (arith, ap length some))
    no_place_if false on rest = ap (place_or false) (on rest)

-- the place of the last call of a lane stays where no other of its calls comes
pub place_stays : (lane : ℕ) (a more : List Entry) → calls_by lane more ≡ [] → place_in lane (a ++ more) ≡ place_in lane a
place_stays lane [] more none = no_place lane more none
place_stays lane (e ∷ a) more none = ap (place_or (e.lane == lane)) (place_stays lane a more none)

pub place_kept : (lane : ℕ) (a b : List Entry) → GrowsInto a b → calls_by lane b ≡ calls_by lane a → place_in lane b ≡ place_in lane a
place_kept lane a b p same =
    let none : calls_by lane p.0 ≡ [] = no_rest (calls_by lane a) (calls_by lane p.0) (sym (calls_by-append lane a p.0) ∙ sym (ap (calls_by lane) p.1) ∙ same) in
    ap (place_in lane) p.1 ∙ place_stays lane a p.0 none

-- the last call of all
pub place_last : (lane : ℕ) (a : List Entry) (e : Entry) → (e.lane == lane) ≡ true → place_in lane (a ++ e ∷ []) ≡ Some (length a)
place_last lane [] e own = ap (λ b. place_or b None) own
place_last lane (x ∷ a) e own = ap (place_or (x.lane == lane)) (place_last lane a e own) ∙ ap Some (add-one (length a))
