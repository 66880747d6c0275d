-- Loops that read a list: what was read so far, and what is still to be read, give the whole list.
use Rattle.std.proofs.Common.{◌≡◌, ℕ, zero, suc, ◌+◌, ◌-◌, ◌<◌, ◌≤◌, List, [], ◌∷◌, ◌++◌, length, drop, get_or, Ok, Err, refl, sym, ap, ◌∙◌, arith, append_assoc}
use Rattle.std.proofs.lemmas.List.{append-nil, drop_more, drop_all, get_or_default}
use Rattle.ts_wire.specs.Place.{Place, Read, ◌>>=◌, mapped, both, items_at, each_at}

-- what a reader gives, behind the values that were read before
abbrev pub with_front : {A : Type 0} → List A → Read (List A) → Read (List A)
with_front front (Ok x) = Ok (front ++ x.0, x.1)
with_front front (Err at) = Err at

module _ {A : Type 0} where
  -- a value, the others, and the list that they make
  abbrev others_of : (A → Place → Read (List A)) → A × Place → Read (A × List A)
  others_of next a = next a.0 a.1 >>= λ b. Ok ((a.0, b.0), b.1)

  abbrev list_of : (A × List A) × Place → Read (List A)
  list_of y = Ok (y.0.0 ∷ y.0.1, y.1)

  abbrev listed : List A → (A → Place → Read (List A)) → Read A → Read (List A)
  listed front next r = with_front front ((r >>= others_of next) >>= list_of)

  -- reading one value and the others is reading the others behind it
  step : (read : Place → Read A) (next : A → Place → Read (List A)) (front : List A) (p q : Place) (x : A) → read p ≡ Ok (x, q)
      → with_front front (mapped (λ y. y.0 ∷ y.1) (both read next) p) ≡ with_front (front ++ x ∷ []) (next x q)
  step read next front p q x h = ap (listed front next) h ∙ regrouped (next x q)
    where
      regrouped : (r : Read (List A)) → with_front front ((r >>= λ b. Ok ((x, b.0), b.1)) >>= list_of) ≡ with_front (front ++ x ∷ []) r
      regrouped (Ok b) = ap (λ list. Ok (list, b.1)) (sym (append_assoc front (x ∷ []) b.0))
      regrouped (Err at) = refl

  -- a value that is broken breaks the list
  stop : (read : Place → Read A) (next : A → Place → Read (List A)) (front : List A) (p : Place) (at : ℕ) → read p ≡ Err at
      → with_front front (mapped (λ y. y.0 ∷ y.1) (both read next) p) ≡ Err at
  stop read next front p at h = ap (listed front next) h

  -- nothing more is to be read
  done : (front : List A) (p : Place) → with_front front (Ok ([], p)) ≡ Ok (front, p)
  done front p = ap (λ list. Ok (list, p)) (append-nil front)

  -- ---- n values, of which i were read

  pub items_on : (read : List A → Place → Read A) (n i : ℕ) (front : List A) (p q : Place) (x : A) (all : Read (List A)) → i < n → read front p ≡ Ok (x, q)
      → with_front front (items_at read (n - i) front p) ≡ all → with_front (front ++ x ∷ []) (items_at read (n - (i + 1)) (front ++ x ∷ []) q) ≡ all
  unfolding items_at
  items_on read n i front p q x all more h was =
      let left : n - i ≡ suc (n - (i + 1)) = omega arith in
      sym (step (read front) (λ a. items_at read (n - (i + 1)) (front ++ a ∷ [])) front p q x h) ∙ ap (λ k. with_front front (items_at read k front p)) (sym left) ∙ was

  pub items_stop : (read : List A → Place → Read A) (n i : ℕ) (front : List A) (p : Place) (all : Read (List A)) → i < n
      → with_front front (items_at read (n - i) front p) ≡ all → (at : ℕ) → read front p ≡ Err at → all ≡ Err at
  unfolding items_at
  items_stop read n i front p all more was at h =
      let left : n - i ≡ suc (n - (i + 1)) = omega arith in
      sym was ∙ ap (λ k. with_front front (items_at read k front p)) left ∙ stop (read front) (λ a. items_at read (n - (i + 1)) (front ++ a ∷ [])) front p at h

  pub items_done : (read : List A → Place → Read A) (n i : ℕ) (front : List A) (p : Place) (all : Read (List A)) → n ≤ i
      → with_front front (items_at read (n - i) front p) ≡ all → all ≡ Ok (front, p)
  unfolding items_at
  items_done read n i front p all over was =
      let left : n - i ≡ zero = omega arith in
      sym was ∙ ap (λ k. with_front front (items_at read k front p)) left ∙ done front p

  -- what is to be read before the first
  pub items_start : (read : List A → Place → Read A) (n : ℕ) (p : Place) → with_front [] (items_at read (n - 0) [] p) ≡ items_at read n [] p
  items_start read n p = ap (λ k. with_front [] (items_at read k [] p)) (omega arith) ∙ nothing (items_at read n [] p)
    where
      nothing : (r : Read (List A)) → with_front [] r ≡ r
      nothing (Ok x) = refl
      nothing (Err at) = refl

module _ {D A : Type 0} where
  -- ---- one value for each item of a known list, of which those before i were read

  pub each_on : (read : D → Place → Read A) (ds : List D) (i : ℕ) (d : D) (front : List A) (p q : Place) (x : A) (all : Read (List A)) → i < length ds → d ≡ get_or ds i d
      → read d p ≡ Ok (x, q) → with_front front (each_at read (drop i ds) p) ≡ all → with_front (front ++ x ∷ []) (each_at read (drop (i + 1) ds) q) ≡ all
  unfolding each_at
  each_on read ds i d front p q x all more this h was =
      let left : drop i ds ≡ d ∷ drop (i + 1) ds = drop_more ds i d more ∙ ap (λ e. e ∷ drop (i + 1) ds) (sym this) in
      sym (step (read d) (λ _. each_at read (drop (i + 1) ds)) front p q x h) ∙ ap (λ es. with_front front (each_at read es p)) (sym left) ∙ was

  pub each_stop : (read : D → Place → Read A) (ds : List D) (i : ℕ) (d : D) (front : List A) (p : Place) (all : Read (List A)) → i < length ds → d ≡ get_or ds i d
      → with_front front (each_at read (drop i ds) p) ≡ all → (at : ℕ) → read d p ≡ Err at → all ≡ Err at
  unfolding each_at
  each_stop read ds i d front p all more this was at h =
      let left : drop i ds ≡ d ∷ drop (i + 1) ds = drop_more ds i d more ∙ ap (λ e. e ∷ drop (i + 1) ds) (sym this) in
      sym was ∙ ap (λ es. with_front front (each_at read es p)) left ∙ stop (read d) (λ _. each_at read (drop (i + 1) ds)) front p at h

  pub each_done : (read : D → Place → Read A) (ds : List D) (i : ℕ) (front : List A) (p : Place) (all : Read (List A)) → length ds ≤ i
      → with_front front (each_at read (drop i ds) p) ≡ all → all ≡ Ok (front, p)
  unfolding each_at
  each_done read ds i front p all over was =
      sym was ∙ ap (λ es. with_front front (each_at read es p)) (drop_all i ds over) ∙ done front p

  -- the same where the item is named by its place, as an item that is a number is

  pub each_place_on : (read : D → Place → Read A) (ds : List D) (i : ℕ) (e : D) (front : List A) (p q : Place) (x : A) (all : Read (List A)) → i < length ds
      → read (get_or ds i e) p ≡ Ok (x, q) → with_front front (each_at read (drop i ds) p) ≡ all → with_front (front ++ x ∷ []) (each_at read (drop (i + 1) ds) q) ≡ all
  each_place_on read ds i e front p q x all more h was =
      each_on read ds i (get_or ds i e) front p q x all more (get_or_default ds i e (get_or ds i e) more) h was

  pub each_place_stop : (read : D → Place → Read A) (ds : List D) (i : ℕ) (e : D) (front : List A) (p : Place) (all : Read (List A)) → i < length ds
      → with_front front (each_at read (drop i ds) p) ≡ all → (at : ℕ) → read (get_or ds i e) p ≡ Err at → all ≡ Err at
  each_place_stop read ds i e front p all more was at h =
      each_stop read ds i (get_or ds i e) front p all more (get_or_default ds i e (get_or ds i e) more) was at h

-- what closes a loop over `items_at`, and one over `each_at` whose items are structs, or numbers: name one of them by `using`
pub ruleset items_loop = (items_on, items_stop, items_done)

pub ruleset each_loop = (each_on, each_stop, each_done)

pub ruleset each_number_loop = (each_place_on, each_place_stop, each_done)
