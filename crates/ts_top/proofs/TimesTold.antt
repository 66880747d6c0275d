-- The times of a run, by what was told: a first part of the calls leads to a time, and each call of the journal is one that was told.
use Rattle.std.proofs.Common.{◌≡◌, ◌⊎◌, inl, inr, ℕ, zero, suc, ◌+◌, ◌<◌, ◌≤◌, Bool, true, false, cond, List, [], ◌∷◌, ◌++◌, Option, Some, None, length, take, refl, sym, ◌∙◌, ap, subst, arith}
use Rattle.std.specs.Prelude.{All, slice_get}
use Rattle.std.specs.List.{cons_option, filter_map}
use Rattle.std.proofs.lemmas.Bool.{cases_eq}
use Rattle.std.proofs.lemmas.List.{length-append, take_at}
use Rattle.std.proofs.lemmas.List.Elements.{All-head, All-tail, filter_map-append}
use Rattle.std.proofs.lemmas.Option.{none-some, same_Some}
use Rattle.ts_store.specs.Calls.{is_no_memory}
use Rattle.ts_model.specs.Told.{Told, entries_of}
use Rattle.ts_law.specs.Lanes.{IsOwned}
use Rattle.ts_top.specs.Times.{IsSpan, Made, Timeline, journal_of}

-- ---- the calls of the journal

-- a call that was told, as one of the command with a number
abbrev pub call_made : (Option ℕ → ℕ) → Told → ℕ → Made
call_made lane e number = record { number = number; entry = record { lane = lane (Some number); call = e.call; fate = e.fate } }

abbrev pub made_in : (Option ℕ → ℕ) → Told → Option ℕ → Option Made
made_in lane e None = None
made_in lane e (Some number) = Some (call_made lane e number)

-- the call in the journal, where there was memory for it
abbrev pub made_of : (Option ℕ → ℕ) → Told → Option Made
made_of lane e = cond (is_no_memory e.reply) None (made_in lane e e.job)

abbrev pub all_made : (Option ℕ → ℕ) → List Told → List Made
all_made lane told = filter_map (made_of lane) told

-- the item behind a list
item_behind : {X : Type 0} (xs : List X) (x : X) (ys : List X) → slice_get (xs ++ x ∷ ys) (length xs) ≡ Some x
item_behind [] x ys = refl
item_behind (y ∷ xs) x ys = item_behind xs x ys

module _ (lane : Option ℕ → ℕ) where
  made_is : (e : Told) (number : ℕ) → e.job ≡ Some number → is_no_memory e.reply ≡ false → made_of lane e ≡ Some (call_made lane e number)
  made_is e number mine memory = ap (λ b. cond b None (made_in lane e e.job)) memory ∙ ap (made_in lane e) mine

  -- they have the entries of the calls
  pub journal_is : (told : List Told) → All IsOwned told → journal_of (all_made lane told) ≡ entries_of lane told
  journal_is [] owned = refl
  journal_is (e ∷ told) owned = by (journal_is told (All-tail IsOwned e told owned)) (is_no_memory e.reply)
    where
      mine : IsOwned e
      mine = All-head IsOwned e told owned

      Step : Bool → Type 0
      Step b = journal_of (cons_option (cond b None (made_in lane e e.job)) (all_made lane told)) ≡ cons_option (cond b None (Some (record { lane = lane e.job; call = e.call; fate = e.fate }))) (entries_of lane told)

      by : journal_of (all_made lane told) ≡ entries_of lane told → (b : Bool) → Step b
      by rest true = rest
      by rest false =
          let P : Option ℕ → Type 0 = λ o. journal_of (cons_option (made_in lane e o) (all_made lane told)) ≡ record { lane = lane o; call = e.call; fate = e.fate } ∷ entries_of lane told in
          subst P (sym mine.1) (ap (λ es. record { lane = lane (Some mine.0); call = e.call; fate = e.fate } ∷ es) rest)

  -- the time to which calls lead
  abbrev pub time : List Told → ℕ
  time told = length (all_made lane told)

  -- a first part of the calls made the first of those in the journal
  pub first_made : (told d r : List Told) → told ≡ d ++ r → take (time d) (all_made lane told) ≡ all_made lane d
  first_made told d r parts = ap (take (time d)) (ap (all_made lane) parts ∙ filter_map-append (made_of lane) d r) ∙ take_at (all_made lane d) (all_made lane r) (time d) refl

  pub time_within : (told d r : List Told) → told ≡ d ++ r → time d ≤ time told
  time_within told d r parts =
      let whole : time told ≡ time d + time r = ap length (ap (all_made lane) parts ∙ filter_map-append (made_of lane) d r) ∙ length-append (all_made lane d) (all_made lane r) in
      omega (arith, whole)

  -- a call with memory leads to the next time
  pub time_next : (d : List Told) (e : Told) (number : ℕ) → e.job ≡ Some number → is_no_memory e.reply ≡ false → time (d ++ e ∷ []) ≡ time d + 1
  time_next d e number mine memory =
      ap length (filter_map-append (made_of lane) d (e ∷ [])) ∙ length-append (all_made lane d) (all_made lane (e ∷ [])) ∙ ap (λ o. time d + length (cons_option o [])) (made_is e number mine memory)

  -- it is the call at its time
  pub call_at : (told d r : List Told) (e : Told) (number : ℕ) → told ≡ d ++ e ∷ r → e.job ≡ Some number → is_no_memory e.reply ≡ false → slice_get (all_made lane told) (time d) ≡ Some (call_made lane e number)
  call_at told d r e number parts mine memory =
      ap (λ l. slice_get l (time d)) (ap (all_made lane) parts ∙ filter_map-append (made_of lane) d (e ∷ r) ∙ ap (λ o. all_made lane d ++ cons_option o (all_made lane r)) (made_is e number mine memory))
      ∙ item_behind (all_made lane d) (call_made lane e number) (all_made lane r)

  -- a call of the journal is one that was told, with memory
  pub record IsTold (told : List Told) (n : ℕ) (c : Made) : Type 0 where
    pub earlier : List Told
    pub e : Told
    pub later : List Told
    pub parts : told ≡ earlier ++ e ∷ later
    pub time_is : time earlier ≡ n
    pub memory : is_no_memory e.reply ≡ false
    pub mine : e.job ≡ Some c.number
    pub is : call_made lane e c.number ≡ c

  further : (told : List Told) (n k : ℕ) (c : Made) (e : Told) → ((d : List Told) → time d ≡ n → time (e ∷ d) ≡ k) → IsTold told n c → IsTold (e ∷ told) k c
  further told n k c e next is = record { earlier = e ∷ is.earlier; e = is.e; later = is.later; parts = ap (λ l. e ∷ l) is.parts; time_is = next is.earlier is.time_is; memory = is.memory; mine = is.mine; is = is.is }

  pub find_call : (told : List Told) (n : ℕ) (c : Made) → slice_get (all_made lane told) n ≡ Some c → IsTold told n c
  find_call [] n c at = absurd (none-some c at)
  find_call (e ∷ told) n c at = by (λ k there. find_call told k c there) (is_no_memory e.reply) refl e.job refl at
    where
      -- a call of the others is one that was told
      Later : Type 0
      Later = (k : ℕ) → slice_get (all_made lane told) k ≡ Some c → IsTold told k c

      Place : Option Made → Type 0
      Place o = slice_get (cons_option o (all_made lane told)) n ≡ Some c

      -- the call is not in the journal
      past : Later → made_of lane e ≡ None → slice_get (all_made lane told) n ≡ Some c → IsTold (e ∷ told) n c
      past later none there = further told n n c e (λ d is. ap (λ o. length (cons_option o (all_made lane d))) none ∙ is) (later n there)

      here : Later → (k p : ℕ) → is_no_memory e.reply ≡ false → e.job ≡ Some k → n ≡ p → slice_get (call_made lane e k ∷ all_made lane told) p ≡ Some c → IsTold (e ∷ told) n c
      here later k zero memory mine same there =
          let it : call_made lane e k ≡ c = same_Some (call_made lane e k) c there in
          let number : k ≡ c.number = ap (λ (x : Made). x.number) it in
          record { earlier = []; e = e; later = told; parts = refl; time_is = sym same; memory = memory; mine = mine ∙ ap Some number; is = ap (call_made lane e) (sym number) ∙ it }
      here later k (suc p) memory mine same there =
          further told p n c e (λ d is. ap (λ o. length (cons_option o (all_made lane d))) (made_is e k mine memory) ∙ ap suc is ∙ sym same) (later p there)

      by : Later → (b : Bool) → is_no_memory e.reply ≡ b → (o : Option ℕ) → e.job ≡ o → Place (cond b None (made_in lane e o)) → IsTold (e ∷ told) n c
      by later true short o is there = past later (ap (λ b. cond b None (made_in lane e e.job)) short) there
      by later false memory None is there = past later (ap (λ b. cond b None (made_in lane e e.job)) memory ∙ ap (made_in lane e) is) there
      by later false memory (Some k) is there = here later k n memory is refl there

-- ---- the times of a command

-- the calls of a command stand from one place to another
record Bounds (number : ℕ) (calls : List Made) : Type 0 where
  first : ℕ
  last : ℕ
  at_first : (c : Made) × (slice_get calls first ≡ Some c) × (c.number ≡ number)
  at_last : (c : Made) × (slice_get calls last ≡ Some c) × (c.number ≡ number)
  within : (n : ℕ) (c : Made) → slice_get calls n ≡ Some c → c.number ≡ number → (first ≤ n) × (n ≤ last)

-- it made none of the calls
abbrev MadeNone : ℕ → List Made → Type 0
MadeNone number calls = (n : ℕ) (c : Made) → slice_get calls n ≡ Some c → c.number ≡ number → ⊥

bounds : (number : ℕ) (calls : List Made) → MadeNone number calls ⊎ Bounds number calls
bounds number [] = inl (λ n c at mine. none-some c at)
bounds number (c ∷ calls) = by (bounds number calls) (cases_eq c.number number)
  where
    by : MadeNone number calls ⊎ Bounds number calls → (c.number ≡ number) ⊎ (c.number ≡ number → ⊥) → MadeNone number (c ∷ calls) ⊎ Bounds number (c ∷ calls)
    by (inl none) (inr apart) = inl alone
      where
        alone : MadeNone number (c ∷ calls)
        alone zero d at mine = apart (ap (λ (x : Made). x.number) (same_Some c d at) ∙ mine)
        alone (suc n) d at mine = none n d at mine
    by (inl none) (inl same) = inr (record { first = 0; last = 0; at_first = (c, refl, same); at_last = (c, refl, same); within = only })
      where
        only : (n : ℕ) (d : Made) → slice_get (c ∷ calls) n ≡ Some d → d.number ≡ number → (0 ≤ n) × (n ≤ 0)
        only zero d at mine = (omega arith, omega arith)
        only (suc n) d at mine = absurd (none n d at mine)
    by (inr b) (inl same) = inr (record { first = 0; last = suc b.last; at_first = (c, refl, same); at_last = b.at_last; within = from_first })
      where
        from_first : (n : ℕ) (d : Made) → slice_get (c ∷ calls) n ≡ Some d → d.number ≡ number → (0 ≤ n) × (n ≤ suc b.last)
        from_first zero d at mine = (omega arith, omega arith)
        from_first (suc n) d at mine = let most = (b.within n d at mine).1 in (omega arith, omega (arith, most))
    by (inr b) (inr apart) = inr (record { first = suc b.first; last = suc b.last; at_first = b.at_first; at_last = b.at_last; within = later })
      where
        later : (n : ℕ) (d : Made) → slice_get (c ∷ calls) n ≡ Some d → d.number ≡ number → (suc b.first ≤ n) × (n ≤ suc b.last)
        later zero d at mine = absurd (apart (ap (λ (x : Made). x.number) (same_Some c d at) ∙ mine))
        later (suc n) d at mine = let between = b.within n d at mine in (omega (arith, between.0), omega (arith, between.1))

-- a place that has an item is one of the list
pub place_within : {X : Type 0} (xs : List X) (n : ℕ) (x : X) → slice_get xs n ≡ Some x → n < length xs
place_within [] n x at = absurd (none-some x at)
place_within (y ∷ xs) zero x at = omega arith
place_within (y ∷ xs) (suc n) x at = let less = place_within xs n x at in omega (arith, less)

-- the times of a command
pub record Spanned (run : Timeline) (number : ℕ) : Type 0 where
  pub from : ℕ
  pub to : ℕ
  pub is : IsSpan (record { run = run; number = number; from = from; to = to })
  pub empty : from ≡ to → to ≡ 0

pub span_of : (run : Timeline) (number : ℕ) → Spanned run number
span_of run number = by (bounds number run.calls)
  where
    by : MadeNone number run.calls ⊎ Bounds number run.calls → Spanned run number
    by (inl none) = record { from = 0; to = 0; is = record { ordered = omega arith; whole = omega arith; all = λ n mine. absurd (none n mine.0 mine.1 mine.2); tight = inl refl }; empty = λ same. refl }
    by (inr b) =
        let last_there = place_within run.calls b.last b.at_last.0 b.at_last.1 in
        let rise = (b.within b.first b.at_first.0 b.at_first.1 b.at_first.2).1 in
        record {
          from = b.first;
          to = b.last + 1;
          is = record {
            ordered = omega (arith, rise);
            whole = omega (arith, last_there);
            all = λ n mine. let between = b.within n mine.0 mine.1 mine.2 in (between.0, omega (arith, between.1));
            tight = inr (b.at_first, (b.last, refl, b.at_last));
          };
          empty = λ same. absurd (omega (arith, rise, same));
        }
