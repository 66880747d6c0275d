-- Lines are read exactly, and so is the object of a `.vac`.
use Rattle.std.proofs.Common.{◌≡◌, ℕ, suc, ◌+◌, ◌<◌, ◌≤◌, ◌^◌, Bool, true, false, cond, nat_lt, List, [], ◌∷◌, ◌++◌, length, length-append, take, drop, get_or, Option, Some, None, Result, Ok, Err, IfOk, max, refl, sym, ap, ◌∙◌, subst, arith, append_assoc}
use Rattle.std.specs.Prelude.{filter}
use Rattle.std.specs.List.{flat_map, position, position_or_len}
use Rattle.std.proofs.lemmas.Bool.{eqb-true, lt-ltb}
use Rattle.std.proofs.lemmas.Bool.Decides.{nat_tests}
use Rattle.std.proofs.lemmas.List.{take_at, drop_at, take-append-drop, drop_more, length-take-le}
use Rattle.std.proofs.lemmas.List.Elements.{filter-append}
use Rattle.std.proofs.lemmas.List.Sums.{length-filter}
use Rattle.std.proofs.lemmas.List.Quantifiers.{position-Some}
use Rattle.ts_base.specs.declared.keys.FragKey.{FragKey}
use Rattle.ts_base.specs.Spelling.{frag_text, FitsFrag}
use Rattle.ts_base.proofs.Cuts.{Lacks}
use Rattle.ts_base.proofs.Reading.{lacks_frag}
use Rattle.ts_wire.specs.declared.kinds.Kind.TheVariants as kind
use Rattle.ts_wire.specs.declared.faults.ReadFault.{ReadFault}
use Rattle.ts_wire.specs.Exact.{IsBytes, Takes, Exact, InTurn}
use Rattle.ts_wire.specs.Envelope.{wrapped, unwrapped, object_at, IsCut}
use Rattle.ts_wire.specs.Place.{Place, Read, place, ◌>>=◌, items_at, whole}
use Rattle.ts_wire.specs.Reading.{DecodesOr, IsRead, IsDamagedAt}
use Rattle.ts_wire.proofs.Laws.{IsBytes-drop, items_exact, AreInTurn, not_both, same_ok}
use Rattle.ts_wire.proofs.Objects.{decoded_found, decoded_only, decoded_cut, unwrapped_only, length-wrapped}
use Rattle.ts_commit.specs.Vacs.{line_bytes, vac_object, follows, FitsName, AreNames, frag_in, is_feed, behind_of, named_at, line_to, line_at, lines_in, names_of}
use Rattle.ts_commit.proofs.FragTexts.{frag_in-only, frag_in-found}

-- ---- where a line ends

-- a line feed stands behind a text that has none
place_of_feed : (text rest : List ℕ) → Lacks 10 text → position_or_len is_feed (text ++ 10 ∷ rest) ≡ length text
place_of_feed [] rest lacks = grind (arith, nat_tests)
place_of_feed (x ∷ xs) rest lacks = rw lacks.0 (omega (arith, place_of_feed xs rest lacks.1))

feed_behind : (text rest : List ℕ) → Lacks 10 text → position is_feed (text ++ 10 ∷ rest) ≡ Some (length text)
feed_behind text rest lacks =
    let at = place_of_feed text rest lacks in
    let within : length text < length (text ++ 10 ∷ rest) = omega (arith, length-append text (10 ∷ rest)) in
    ap (λ n. cond (nat_lt n (length (text ++ 10 ∷ rest))) (Some n) None) at ∙ ap (λ b. cond b (Some (length text)) None) (lt-ltb (length text) (length (text ++ 10 ∷ rest)) within)

-- what is before the first line feed, the line feed, and what is behind it
cut_there : (text : List ℕ) (n : ℕ) → position is_feed text ≡ Some n → text ≡ (take n text ++ 10 ∷ []) ++ drop (n + 1) text
cut_there text n at =
    let found = position-Some is_feed text n 0 at in
    let feed : get_or text n 0 ≡ 10 = eqb-true (get_or text n 0) 10 found.1 in
    let rest : drop n text ≡ 10 ∷ drop (n + 1) text = drop_more text n 0 found.0 ∙ ap (λ b. b ∷ drop (n + 1) text) feed in
    sym (take-append-drop n text) ∙ ap (λ l. take n text ++ l) rest ∙ sym (append_assoc (take n text) (10 ∷ []) (drop (n + 1) text))

-- ---- a line

line_lacks : (f : FragKey) → FitsFrag f → Lacks 10 (frag_text f)
line_lacks f fits = lacks_frag 10 f (omega arith) (omega arith) fits

module _ (front : List FragKey) where
  again : (f : FragKey) (rest : List ℕ) (at : ℕ) → FitsName front f → line_at front (place (line_bytes f ++ rest) at) ≡ Ok (f, place rest (at + length (line_bytes f)))
  unfolding line_at line_bytes
  again f rest at fits =
      let text = frag_text f in
      let split : (text ++ 10 ∷ []) ++ rest ≡ text ++ 10 ∷ rest = append_assoc text (10 ∷ []) rest in
      let found : position is_feed ((text ++ 10 ∷ []) ++ rest) ≡ Some (length text) = ap (position is_feed) split ∙ feed_behind text rest (line_lacks f fits.fits) in
      let line : take (length text) ((text ++ 10 ∷ []) ++ rest) ≡ text = ap (take (length text)) split ∙ take_at text (10 ∷ rest) (length text) refl in
      let is : frag_in text ≡ Some f = frag_in-only f text (record { spelled = fits.spelled; fits = fits.fits; same = refl }) in
      let far : length (text ++ 10 ∷ []) ≡ length text + 1 = length-append text (10 ∷ []) ∙ omega arith in
      let behind : drop (length text + 1) ((text ++ 10 ∷ []) ++ rest) ≡ rest = drop_at (text ++ 10 ∷ []) rest (length text + 1) far in
      ap (line_to front (place ((text ++ 10 ∷ []) ++ rest) at)) found
      ∙ ap (λ t. named_at (place ((text ++ 10 ∷ []) ++ rest) at) (length text) (behind_of front (frag_in t))) line
      ∙ ap (λ o. named_at (place ((text ++ 10 ∷ []) ++ rest) at) (length text) (behind_of front o)) is
      ∙ ap (λ t. named_at (place ((text ++ 10 ∷ []) ++ rest) at) (length text) (cond t (Some f) None)) fits.ascends
      ∙ ap (λ l. Ok (f, place l (at + (length text + 1)))) behind ∙ ap (λ n. Ok (f, place rest (at + n))) (sym far)

  takes : (p : Place) (y : FragKey × Place) → IsBytes p.rest → line_at front p ≡ Ok y → Takes p (line_bytes y.0) y.1 × FitsName front y.0
  unfolding line_at line_bytes
  takes p y all h = by_place (position is_feed p.rest) refl h
    where
      by_order : (n : ℕ) (f : FragKey) → position is_feed p.rest ≡ Some n → frag_in (take n p.rest) ≡ Some f → (t : Bool) → follows front f ≡ t
          → named_at p n (cond t (Some f) None) ≡ Ok y → Takes p (frag_text y.0 ++ 10 ∷ []) y.1 × FitsName front y.0
      by_order n f at is true ascends h =
          let text = frag_in-found f (take n p.rest) is in
          let found = position-Some is_feed p.rest n 0 at in
          let cut = cut_there p.rest n at in
          let P : FragKey × Place → Type 0 = λ z. Takes p (frag_text z.0 ++ 10 ∷ []) z.1 × FitsName front z.0 in
          let line : take n p.rest ++ 10 ∷ [] ≡ frag_text f ++ 10 ∷ [] = ap (λ l. l ++ 10 ∷ []) text.same in
          let count : length (take n p.rest ++ 10 ∷ []) ≡ n + 1 = length-append (take n p.rest) (10 ∷ []) ∙ ap (λ k. k + 1) (length-take-le n p.rest (omega (arith, found.0))) in
          subst P (same_ok (Ok (f, place (drop (n + 1) p.rest) (p.at + (n + 1)))) _ _ refl h) (
            record { parts = cut ∙ ap (λ l. l ++ drop (n + 1) p.rest) line; count = ap (λ k. p.at + k) (sym count ∙ ap length line); bytes = IsBytes-drop (n + 1) p.rest all },
            record { spelled = text.spelled; fits = text.fits; ascends = ascends },
          )
      by_order n f at is false ascends h = absurd (not_both (Err p.at) y p.at h refl)

      by_name : (n : ℕ) (o : Option FragKey) → position is_feed p.rest ≡ Some n → frag_in (take n p.rest) ≡ o → named_at p n (behind_of front o) ≡ Ok y → Takes p (frag_text y.0 ++ 10 ∷ []) y.1 × FitsName front y.0
      by_name n (Some f) at is h = by_order n f at is (follows front f) refl h
      by_name n None at is h = absurd (not_both (Err p.at) y p.at h refl)

      by_place : (o : Option ℕ) → position is_feed p.rest ≡ o → line_to front p o ≡ Ok y → Takes p (frag_text y.0 ++ 10 ∷ []) y.1 × FitsName front y.0
      by_place (Some n) at h = by_name n (frag_in (take n p.rest)) at refl h
      by_place None at h = absurd (not_both (Err p.at) y p.at h refl)

  start : (p : Place) (at : ℕ) → line_at front p ≡ Err at → p.at ≡ at
  unfolding line_at
  start p at h = by_place (position is_feed p.rest) h
    where
      by_name : (n : ℕ) (o : Option FragKey) → named_at p n o ≡ Err at → p.at ≡ at
      by_name n (Some f) h = absurd (not_both (Ok (f, place (drop (n + 1) p.rest) (p.at + (n + 1)))) _ at refl h)
      by_name n None h = cc

      by_place : (o : Option ℕ) → line_to front p o ≡ Err at → p.at ≡ at
      by_place (Some n) h = by_name n (behind_of front (frag_in (take n p.rest))) h
      by_place None h = cc

  pub line_exact : Exact (FitsName front) line_bytes (line_at front)
  line_exact = record { takes = takes; again = again; within = λ p at all h. let same = start p at h in (omega arith, omega arith) }

-- ---- how many lines there are

no_feeds : (text : List ℕ) → Lacks 10 text → filter is_feed text ≡ []
no_feeds [] lacks = refl
no_feeds (x ∷ xs) lacks = ap (λ b. cond b (x ∷ filter is_feed xs) (filter is_feed xs)) lacks.0 ∙ no_feeds xs lacks.1

feeds_of : (front names : List FragKey) → InTurn FitsName front names → length (filter is_feed (flat_map line_bytes names)) ≡ length names
unfolding line_bytes
feeds_of front [] each = refl
feeds_of front (f ∷ names) each =
    let line : filter is_feed (frag_text f ++ 10 ∷ []) ≡ 10 ∷ [] = filter-append is_feed (frag_text f) (10 ∷ []) ∙ ap (λ l. l ++ 10 ∷ []) (no_feeds (frag_text f) (line_lacks f each.0.fits)) in
    ap length (filter-append is_feed (frag_text f ++ 10 ∷ []) (flat_map line_bytes names) ∙ ap (λ l. l ++ filter is_feed (flat_map line_bytes names)) line) ∙ ap suc (feeds_of (front ++ f ∷ []) names each.1)

pub lines_are : (names : List FragKey) → AreNames names → lines_in (flat_map line_bytes names) ≡ length names
lines_are names are = ap (max 1) (feeds_of [] names are.each) ∙ (let some = are.some in omega arith)

-- ---- the object

-- how many lines the body is to have
abbrev lines_of : Result (List ℕ) ℕ → ℕ
lines_of (Ok body) = lines_in body
lines_of (Err at) = 1

-- reading as many lines as there are to be
abbrev lines_at : ℕ → Place → Read (List FragKey)
lines_at n = items_at line_at n []

lines_exact : (n : ℕ) → Exact (AreInTurn FitsName n []) (flat_map line_bytes) (lines_at n)
lines_exact n = items_exact line_exact n []

names_by_count : (object : List ℕ) → names_of object ≡ object_at kind.Vac (lines_at (lines_of (unwrapped kind.Vac object))) object
unfolding names_of object_at
names_by_count object = by (unwrapped kind.Vac object)
  where
    by : (r : Result (List ℕ) ℕ) → (r >>= λ body. whole (lines_at (lines_in body)) (place body 14)) ≡ (r >>= λ body. whole (lines_at (lines_of r)) (place body 14))
    by (Ok body) = refl
    by (Err at) = refl

some_lines : (r : Result (List ℕ) ℕ) → 1 ≤ lines_of r
some_lines (Ok body) = omega arith
some_lines (Err at) = omega arith

module _ {A : Type 0} (seen : A → List FragKey) (object : List ℕ) (result : Result A ReadFault) where
  by_count : DecodesOr seen (names_of object) result → DecodesOr seen (object_at kind.Vac (lines_at (lines_of (unwrapped kind.Vac object))) object) result
  by_count h = subst (λ r. DecodesOr seen r result) (names_by_count object) h

  pub names_found : IsBytes object → DecodesOr seen (names_of object) result → IfOk result (λ x. AreNames (seen x) × (object ≡ vac_object (seen x)))
  unfolding vac_object
  names_found all h = found result (decoded_found (lines_exact (lines_of (unwrapped kind.Vac object))) seen kind.Vac object result all (by_count h))
    where
      found : (r : Result A ReadFault) → IfOk r (λ x. AreInTurn FitsName (lines_of (unwrapped kind.Vac object)) [] (seen x) × (object ≡ wrapped kind.Vac (flat_map line_bytes (seen x))))
          → IfOk r (λ x. AreNames (seen x) × (object ≡ wrapped kind.Vac (flat_map line_bytes (seen x))))
      found (Ok x) is = let some = some_lines (unwrapped kind.Vac object) in (record { some = omega (arith, is.0.0, some); each = is.0.1 }, is.1)
      found (Err fault) is = tt

  pub names_only : length object < 2 ^ 64 → DecodesOr seen (names_of object) result → (names : List FragKey) → AreNames names → object ≡ vac_object names → IsRead seen names result
  unfolding vac_object
  names_only few h names are same =
      let body = flat_map line_bytes names in
      let room : length body < 2 ^ 64 = omega (arith, ap length same, length-wrapped kind.Vac body) in
      let count : length names ≡ lines_of (unwrapped kind.Vac object) = sym (lines_are names are) ∙ ap lines_of (sym (ap (unwrapped kind.Vac) same ∙ unwrapped_only kind.Vac body room)) in
      decoded_only (lines_exact (lines_of (unwrapped kind.Vac object))) seen kind.Vac object result few (by_count h) names (count, are.each) same

  pub names_cut : DecodesOr seen (names_of object) result → (names : List FragKey) → length (flat_map line_bytes names) < 2 ^ 64 → IsCut 14 (vac_object names) object → IsDamagedAt 6 result
  unfolding vac_object
  names_cut h names few cut = decoded_cut (lines_exact (lines_of (unwrapped kind.Vac object))) seen kind.Vac object result (by_count h) names few cut

-- how many line feeds there are
pub ruleset feeds = (length-filter)
