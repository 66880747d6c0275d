-- Objects are read exactly: the envelope and its body, and a value that fills the body.
use Rattle.std.proofs.Common.{◌≡◌, ◌≢◌, ℕ, ◌+◌, ◌^◌, ◌<◌, Bool, true, false, nat_eq, if◌then◌else◌, List, [], ◌∷◌, ◌++◌, length, take, drop, Result, Ok, Err, IfOk, IsOkAnd, IsErrAnd, refl, sym, ap, ◌∙◌, subst, arith, codes, append_assoc, length-append}
use Rattle.std.proofs.lemmas.Bool.{eqb-true, eq-eqb, ne_eqb}
use Rattle.std.proofs.lemmas.List.{take_at, drop_at, take-append-drop, drop-append-le, take-append-le, nil_from_length}
use Rattle.ts_wire.specs.declared.faults.Damaged.{Damaged}
use Rattle.ts_wire.specs.declared.faults.ReadFault.{ReadFault}
use Rattle.ts_wire.specs.declared.faults.ReadFault.TheVariants as fault
use Rattle.ts_wire.specs.declared.kinds.Kind.{Kind}
use Rattle.ts_wire.specs.declared.kinds.Kind.TheVariants as kind
use Rattle.ts_wire.specs.Place.{Place, Read, place, ◌>>=◌, whole}
use Rattle.ts_wire.specs.Exact.{IsBytes, Takes, Exact}
use Rattle.ts_wire.specs.Numbers.{number_bytes, number_at, constant_at}
use Rattle.ts_wire.specs.Envelope.{kind_code, magic, envelope_bytes, wrapped, front_at, length_at, unwrapped, IsCut, object_at}
use Rattle.ts_wire.specs.Reading.{Decodes, DecodesOr, IsRead, IsDamagedAt}
use Rattle.ts_wire.proofs.Laws.{bound, goes_on, same_ok, same_err, not_both, both_exact, ruled_exact, restated, IsBytes-drop, whole_found, whole_only}
use Rattle.ts_wire.proofs.Numbers.{number_exact, one_byte, length-number_bytes}

-- ---- the magic text, the kind and the version

kind_code_few : (k : Kind) → kind_code k < 256
kind_code_few kind.Domain = omega arith
kind_code_few kind.Schema = omega arith
kind_code_few kind.Delete = omega arith
kind_code_few kind.Vac = omega arith
kind_code_few kind.Meta = omega arith
kind_code_few kind.Column = omega arith
kind_code_few kind.Plain = omega arith

-- a number that has to be this one
constant_exact : (n x : ℕ) → x < 256 ^ n → Exact (λ y. y ≡ x) (λ y. number_bytes n x) (constant_at n x)
constant_exact n x few = restated (ruled_exact (λ y. nat_eq y x) (number_exact n))
    (λ y fits. let same = eqb-true y x fits.1 in (same, ap (number_bytes n) same))
    (λ y same. (rw same few, eq-eqb y x same))

-- the first six bytes of an object
abbrev front_bytes : Kind → List ℕ
front_bytes k = number_bytes 4 magic ++ (number_bytes 1 (kind_code k) ++ number_bytes 1 1)

abbrev IsFront : Kind → ℕ × (ℕ × ℕ) → Type 0
IsFront k x = (x.0 ≡ magic) × ((x.1.0 ≡ kind_code k) × (x.1.1 ≡ 1))

front_exact : (k : Kind) → Exact (IsFront k) (λ x. front_bytes k) (front_at k)
front_exact k = both_exact (constant_exact 4 magic (omega arith)) (λ _ _. both_exact (constant_exact 1 (kind_code k) (kind_code_few k)) (λ _ _. constant_exact 1 1 (omega arith)))

front_bytes_are : (k : Kind) → front_bytes k ≡ codes "TDBU" ++ (kind_code k ∷ 1 ∷ [])
unfolding number_bytes
front_bytes_are k = ap (λ code. codes "TDBU" ++ (code ++ (1 ∷ []))) (one_byte (kind_code k) (kind_code_few k))

envelope_is : (k : Kind) (n : ℕ) → envelope_bytes k n ≡ front_bytes k ++ number_bytes 8 n
unfolding envelope_bytes
envelope_is k n = sym (ap (λ front. front ++ number_bytes 8 n) (front_bytes_are k))

length-front_bytes : (k : Kind) → length (front_bytes k) ≡ 6
length-front_bytes k = ap length (front_bytes_are k)

pub length-envelope_bytes : (k : Kind) (n : ℕ) → length (envelope_bytes k n) ≡ 14
length-envelope_bytes k n = ap length (envelope_is k n) ∙ length-append (front_bytes k) (number_bytes 8 n) ∙ omega (arith, length-front_bytes k, length-number_bytes 8 n)

-- ---- the length

-- what is left behind the length has that length
length_takes : (p : Place) (y : ℕ × Place) → IsBytes p.rest → length_at p ≡ Ok y → Takes p (number_bytes 8 (length y.1.rest)) y.1
length_takes p y all h =
    let b = bound (number_at 8 p) (λ x. if nat_eq x.0 (length x.1.rest) then Ok x else Err p.at) y h in
    let kept = kept_by p.at b.first y (nat_eq b.first.0 (length b.first.1.rest)) refl b.next in
    let was = (number_exact 8).takes p b.first all b.was in
    let P : ℕ × Place → Type 0 = λ z. Takes p (number_bytes 8 (length z.1.rest)) z.1 in
    subst P kept.0 (subst (λ n. Takes p (number_bytes 8 n) b.first.1) kept.1 was.0)
  where
    kept_by : (at : ℕ) (x y : ℕ × Place) (b : Bool) → nat_eq x.0 (length x.1.rest) ≡ b → (if b then Ok x else Err at) ≡ Ok y
        → (x ≡ y) × (x.0 ≡ length x.1.rest)
    kept_by at x y true e h = (same_ok (Ok x) x y refl h, eqb-true x.0 (length x.1.rest) e)
    kept_by at x y false e h = absurd (not_both (Err at) y at h refl)

length_again : (rest : List ℕ) (at : ℕ) → length rest < 2 ^ 64
    → length_at (place (number_bytes 8 (length rest) ++ rest) at) ≡ Ok (length rest, place rest (at + length (number_bytes 8 (length rest))))
length_again rest at few =
    goes_on (number_at 8 (place (number_bytes 8 (length rest) ++ rest) at)) (λ x. if nat_eq x.0 (length x.1.rest) then Ok x else Err at) _ _
    ((number_exact 8).again (length rest) rest at few) (rw (eq-eqb (length rest) (length rest) refl) refl)

length_off : (n : ℕ) (rest : List ℕ) (at : ℕ) → n < 2 ^ 64 → n ≢ length rest → length_at (place (number_bytes 8 n ++ rest) at) ≡ Err at
length_off n rest at few off =
    goes_on (number_at 8 (place (number_bytes 8 n ++ rest) at)) (λ x. if nat_eq x.0 (length x.1.rest) then Ok x else Err at) _ _
    ((number_exact 8).again n rest at few) (rw (ne_eqb n (length rest) off) refl)

-- ---- objects

-- the front of an object, and what follows it
abbrev Front : Kind → List ℕ → ℕ × (ℕ × ℕ) → Place → Type 0
Front k object x q = (object ≡ front_bytes k ++ q.rest) × (q.at ≡ 6) × IsBytes q.rest

front_takes : (k : Kind) (object : List ℕ) (x : (ℕ × (ℕ × ℕ)) × Place) → IsBytes object → front_at k (place object 0) ≡ Ok x → Front k object x.0 x.1
front_takes k object x all h =
    let was = (front_exact k).takes (place object 0) x all h in
    (was.0.parts, omega (arith, was.0.count, length-front_bytes k), was.0.bytes)

-- what is unwrapped was wrapped
pub unwrapped_found : (k : Kind) (object body : List ℕ) → IsBytes object → unwrapped k object ≡ Ok body → object ≡ wrapped k body
unfolding unwrapped wrapped
unwrapped_found k object body all h =
    let b = bound (front_at k (place object 0)) (λ x. length_at x.1 >>= λ y. Ok y.1.rest) body h in
    let front = front_takes k object b.first all b.was in
    let c = bound (length_at b.first.1) (λ y. Ok y.1.rest) body b.next in
    let count = length_takes b.first.1 c.first front.2 c.was in
    let P : List ℕ → Type 0 = λ rest. object ≡ envelope_bytes k (length rest) ++ rest in
    subst P (same_ok (Ok c.first.1.rest) _ _ refl c.next)
    (front.0 ∙ ap (λ rest. front_bytes k ++ rest) count.parts ∙ sym (append_assoc (front_bytes k) (number_bytes 8 (length c.first.1.rest)) c.first.1.rest)
    ∙ ap (λ envelope. envelope ++ c.first.1.rest) (sym (envelope_is k (length c.first.1.rest))))

-- behind the front the length decides
front_on : (k : Kind) (n : ℕ) (rest : List ℕ) (r : Result (List ℕ) ℕ)
    → (length_at (place (number_bytes 8 n ++ rest) 6) >>= λ y. Ok y.1.rest) ≡ r → unwrapped k (envelope_bytes k n ++ rest) ≡ r
unfolding unwrapped
front_on k n rest r h =
    let split : envelope_bytes k n ++ rest ≡ front_bytes k ++ (number_bytes 8 n ++ rest) = ap (λ envelope. envelope ++ rest) (envelope_is k n) ∙ append_assoc (front_bytes k) (number_bytes 8 n) rest in
    let P : List ℕ → Type 0 = λ object. (front_at k (place object 0) >>= λ x. length_at x.1 >>= λ y. Ok y.1.rest) ≡ r in
    let Q : ℕ → Type 0 = λ at. (length_at (place (number_bytes 8 n ++ rest) at) >>= λ y. Ok y.1.rest) ≡ r in
    subst P (sym split) (goes_on (front_at k (place (front_bytes k ++ (number_bytes 8 n ++ rest)) 0)) (λ x. length_at x.1 >>= λ y. Ok y.1.rest) _ _
    ((front_exact k).again (magic, (kind_code k, 1)) (number_bytes 8 n ++ rest) 0 (refl, (refl, refl))) (subst Q (sym (ap (λ i. 0 + i) (length-front_bytes k) ∙ omega arith)) h))

-- what is wrapped is unwrapped
pub unwrapped_only : (k : Kind) (body : List ℕ) → length body < 2 ^ 64 → unwrapped k (wrapped k body) ≡ Ok body
unfolding wrapped
unwrapped_only k body few = front_on k (length body) body _ (goes_on (length_at (place (number_bytes 8 (length body) ++ body) 6)) (λ y. Ok y.1.rest) _ _ (length_again body 6 few) refl)

-- a length that is not that of what follows is broken
pub unwrapped_length : (k : Kind) (n : ℕ) (rest : List ℕ) → n < 2 ^ 64 → n ≢ length rest → unwrapped k (envelope_bytes k n ++ rest) ≡ Err 6
unwrapped_length k n rest few off = front_on k n rest _ (ap (λ r. r >>= λ y. Ok y.1.rest) (length_off n rest 6 few off))

-- an object that is cut behind its envelope is broken at its length
pub unwrapped_cut : (k : Kind) (body object : List ℕ) → length body < 2 ^ 64 → IsCut 14 (wrapped k body) object → unwrapped k object ≡ Err 6
unfolding wrapped
unwrapped_cut k body object few cut =
    let envelope = envelope_bytes k (length body) in
    let count = length-envelope_bytes k (length body) in
    let first : take 14 object ≡ envelope = sym (take-append-le 14 object cut.end cut.kept) ∙ ap (take 14) (sym cut.parts) ∙ take_at envelope body 14 count in
    let others : drop 14 object ++ cut.end ≡ body = sym (drop-append-le 14 object cut.end cut.kept) ∙ ap (drop 14) (sym cut.parts) ∙ drop_at envelope body 14 count in
    let split : envelope ++ drop 14 object ≡ object = ap (λ front. front ++ drop 14 object) (sym first) ∙ take-append-drop 14 object in
    let longer : length body ≢ length (drop 14 object) = λ same. cut.some (nil_from_length cut.end (omega (arith, ap length others, length-append (drop 14 object) cut.end, same))) in
    subst (λ text. unwrapped k text ≡ Err 6) split (unwrapped_length k (length body) (drop 14 object) few longer)

-- an object has 14 bytes more than its body
pub length-wrapped : (k : Kind) (body : List ℕ) → length (wrapped k body) ≡ 14 + length body
unfolding wrapped
length-wrapped k body = length-append (envelope_bytes k (length body)) body ∙ omega (arith, length-envelope_bytes k (length body))

-- the body of an object of bytes are bytes
body_bytes : (k : Kind) (object body : List ℕ) → IsBytes object → object ≡ wrapped k body → IsBytes body
unfolding wrapped
body_bytes k object body all same =
    let cut : drop 14 object ≡ body = ap (drop 14) same ∙ drop_at (envelope_bytes k (length body)) body 14 (length-envelope_bytes k (length body)) in
    subst IsBytes cut (IsBytes-drop 14 object all)

-- ---- a value that fills the body of an object

module _ {A : Type 0} {Fits : A → Type 0} {spell : A → List ℕ} {read : Place → Read A} where
  pub object_found : Exact Fits spell read → (k : Kind) (object : List ℕ) (x : A) → IsBytes object → object_at k read object ≡ Ok x
      → Fits x × (object ≡ wrapped k (spell x))
  unfolding object_at
  object_found exact k object x all h =
      let b = bound (unwrapped k object) (λ body. whole read (place body 14)) x h in
      let was = unwrapped_found k object b.first all b.was in
      let found = whole_found exact (place b.first 14) x (body_bytes k object b.first all was) b.next in
      (found.1, was ∙ ap (wrapped k) found.0)

  pub object_only : Exact Fits spell read → (k : Kind) (x : A) → length (spell x) < 2 ^ 64 → Fits x → object_at k read (wrapped k (spell x)) ≡ Ok x
  unfolding object_at
  object_only exact k x few fits =
      goes_on (unwrapped k (wrapped k (spell x))) (λ body. whole read (place body 14)) _ _ (unwrapped_only k (spell x) few) (whole_only exact x 14 fits)

  pub object_cut : Exact Fits spell read → (k : Kind) (x : A) (object : List ℕ) → length (spell x) < 2 ^ 64 → IsCut 14 (wrapped k (spell x)) object → object_at k read object ≡ Err 6
  unfolding object_at
  object_cut exact k x object few cut = ap (λ r. r >>= λ body. whole read (place body 14)) (unwrapped_cut k (spell x) object few cut)

-- ---- what a call that unwraps an object says

module _ {A : Type 0} where
  pub body_found : (seen : A → List ℕ) (k : Kind) (object : List ℕ) (result : Result A Damaged) → IsBytes object
      → Decodes seen (unwrapped k object) result → IfOk result (λ body. object ≡ wrapped k (seen body))
  body_found seen k object (Ok x) all exact = unwrapped_found k object (seen x) all exact
  body_found seen k object (Err damaged) all exact = tt

  pub body_only : (seen : A → List ℕ) (k : Kind) (object : List ℕ) (result : Result A Damaged) → Decodes seen (unwrapped k object) result
      → (body : List ℕ) → length body < 2 ^ 64 → object ≡ wrapped k body → IsOkAnd result (λ found. seen found ≡ body)
  body_only seen k object result exact body few same = found result (answer_is body object few same exact)
    where
      answer_is : (body object : List ℕ) → length body < 2 ^ 64 → object ≡ wrapped k body → Decodes seen (unwrapped k object) result → Decodes seen (Ok body) result
      answer_is body object few same exact = subst (λ r. Decodes seen r result) (ap (unwrapped k) same ∙ unwrapped_only k body few) exact

      found : (result : Result A Damaged) → Decodes seen (Ok body) result → IsOkAnd result (λ found. seen found ≡ body)
      found (Ok x) exact = sym (same_ok (Ok body) _ _ refl exact)
      found (Err damaged) exact = absurd (not_both (Ok body) body damaged.at refl exact)

  pub body_cut : (seen : A → List ℕ) (k : Kind) (object : List ℕ) (result : Result A Damaged) → Decodes seen (unwrapped k object) result
      → (body : List ℕ) → length body < 2 ^ 64 → IsCut 14 (wrapped k body) object → IsErrAnd result (λ damaged. damaged.at ≡ 6)
  body_cut seen k object result exact body few cut = broken result (subst (λ r. Decodes seen r result) (unwrapped_cut k body object few cut) exact)
    where
      broken : (result : Result A Damaged) → Decodes seen (Err 6) result → IsErrAnd result (λ damaged. damaged.at ≡ 6)
      broken (Ok x) exact = absurd (not_both (Err 6) (seen x) 6 exact refl)
      broken (Err damaged) exact = same_err (Err 6) damaged.at 6 exact refl

-- ---- what a call that decodes an object says

module _ {A B : Type 0} {Fits : B → Type 0} {spell : B → List ℕ} {read : Place → Read B} where
  -- what is decoded fits, and was spelled so
  pub decoded_found : Exact Fits spell read → (seen : A → B) (k : Kind) (object : List ℕ) (result : Result A ReadFault) → IsBytes object
      → DecodesOr seen (object_at k read object) result → IfOk result (λ x. Fits (seen x) × (object ≡ wrapped k (spell (seen x))))
  decoded_found exact seen k object (Ok x) all h = object_found exact k object (seen x) all h
  decoded_found exact seen k object (Err damaged) all h = tt

  -- what fits and is spelled so is decoded
  pub decoded_only : Exact Fits spell read → (seen : A → B) (k : Kind) (object : List ℕ) (result : Result A ReadFault) → length object < 2 ^ 64
      → DecodesOr seen (object_at k read object) result → (x : B) → Fits x → object ≡ wrapped k (spell x) → IsRead seen x result
  decoded_only exact seen k object result few h x fits same =
      let room : length (spell x) < 2 ^ 64 = omega (arith, ap length same, length-wrapped k (spell x)) in
      found result (subst (λ r. DecodesOr seen r result) (ap (object_at k read) same ∙ object_only exact k x room fits) h)
    where
      found : (result : Result A ReadFault) → DecodesOr seen (Ok x) result → IsRead seen x result
      found (Ok y) h = sym (same_ok (Ok x) _ _ refl h)
      found (Err (fault.Damaged damaged)) h = not_both (Ok x) x damaged.at refl h
      found (Err fault.OutOfMemory) h = tt

  -- an object that is cut behind its envelope is damaged at its length
  pub decoded_cut : Exact Fits spell read → (seen : A → B) (k : Kind) (object : List ℕ) (result : Result A ReadFault) → DecodesOr seen (object_at k read object) result
      → (x : B) → length (spell x) < 2 ^ 64 → IsCut 14 (wrapped k (spell x)) object → IsDamagedAt 6 result
  decoded_cut exact seen k object result h x few cut = broken result (subst (λ r. DecodesOr seen r result) (object_cut exact k x object few cut) h)
    where
      broken : (result : Result A ReadFault) → DecodesOr seen (Err 6) result → IsDamagedAt 6 result
      broken (Ok y) h = not_both (Err 6) (seen y) 6 h refl
      broken (Err (fault.Damaged damaged)) h = same_err (Err 6) damaged.at 6 h refl
      broken (Err fault.OutOfMemory) h = tt

  -- the same three where no memory is taken
  pub plain_found : Exact Fits spell read → (seen : A → B) (k : Kind) (object : List ℕ) (result : Result A Damaged) → IsBytes object
      → Decodes seen (object_at k read object) result → IfOk result (λ x. Fits (seen x) × (object ≡ wrapped k (spell (seen x))))
  plain_found exact seen k object (Ok x) all h = object_found exact k object (seen x) all h
  plain_found exact seen k object (Err damaged) all h = tt

  pub plain_only : Exact Fits spell read → (seen : A → B) (k : Kind) (object : List ℕ) (result : Result A Damaged) → length object < 2 ^ 64
      → Decodes seen (object_at k read object) result → (x : B) → Fits x → object ≡ wrapped k (spell x) → IsOkAnd result (λ y. seen y ≡ x)
  plain_only exact seen k object result few h x fits same =
      let room : length (spell x) < 2 ^ 64 = omega (arith, ap length same, length-wrapped k (spell x)) in
      found result (subst (λ r. Decodes seen r result) (ap (object_at k read) same ∙ object_only exact k x room fits) h)
    where
      found : (result : Result A Damaged) → Decodes seen (Ok x) result → IsOkAnd result (λ y. seen y ≡ x)
      found (Ok y) h = sym (same_ok (Ok x) _ _ refl h)
      found (Err damaged) h = absurd (not_both (Ok x) x damaged.at refl h)

  pub plain_cut : Exact Fits spell read → (seen : A → B) (k : Kind) (object : List ℕ) (result : Result A Damaged) → Decodes seen (object_at k read object) result
      → (x : B) → length (spell x) < 2 ^ 64 → IsCut 14 (wrapped k (spell x)) object → IsErrAnd result (λ damaged. damaged.at ≡ 6)
  plain_cut exact seen k object result h x few cut = broken result (subst (λ r. Decodes seen r result) (object_cut exact k x object few cut) h)
    where
      broken : (result : Result A Damaged) → Decodes seen (Err 6) result → IsErrAnd result (λ damaged. damaged.at ≡ 6)
      broken (Ok y) h = absurd (not_both (Err 6) (seen y) 6 h refl)
      broken (Err damaged) h = same_err (Err 6) damaged.at 6 h refl
