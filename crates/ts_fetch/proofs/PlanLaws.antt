-- What fetches by a plan keep.
use Rattle.std.proofs.Common.{◌≡◌, ℕ, ◌+◌, ◌≤◌, Bool, true, false, nat_eq, min, List, [], ◌∷◌, ◌++◌, length, Option, Some, None, refl, sym, ap, subst, ◌∙◌, arith, append_assoc}
use Rattle.std.specs.Prelude.{IsTrue, if◌then◌else◌}
use Rattle.std.specs.List.{All}
use Rattle.std.proofs.lemmas.Bool.{eq-eqb, ne_eqb, cond-true, cond-false}
use Rattle.std.proofs.lemmas.Option.{same_Some}
use Rattle.std.proofs.lemmas.List.{append-nil}
use Rattle.std.proofs.lemmas.List.Elements.{All-head, All-tail}
use Rattle.ts_base.specs.declared.keys.FragKey.{FragKey}
use Rattle.ts_base.specs.declared.names.Part.{Part}
use Rattle.ts_base.specs.declared.names.Name.TheVariants as name
use Rattle.ts_base.specs.declared.heads.Version.{Version}
use Rattle.ts_store.specs.declared.call.Call.{Call}
use Rattle.ts_store.specs.declared.call.Call.TheVariants as call
use Rattle.ts_store.specs.declared.call.Reply.{Reply}
use Rattle.ts_store.specs.declared.call.Reply.TheVariants as reply
use Rattle.ts_store.specs.Calls.{part_of}
use Rattle.ts_schema.specs.Parts.{Look}
use Rattle.ts_model.specs.Codecs.{Stepped, Asks, Breaks, is_look, IsToldOf, SpeaksOf, AsksHeld, GoesWell}
use Rattle.ts_actor.specs.PieceLaws.{gets_of}
use Rattle.ts_fetch.specs.declared.planned.Planned.{Planned}
use Rattle.ts_fetch.specs.declared.planned.Planned.TheVariants.{SizeOf, Range}
use Rattle.ts_fetch.specs.declared.judging.Verdict.{Verdict}
use Rattle.ts_fetch.specs.declared.judging.Verdict.TheVariants.{Whole, Broken}
use Rattle.ts_fetch.specs.Plans.{Judging, Going, call_of, stepped, asks_next, asks_size, told, IsRight, bytes_in, ranges_of, gets_planned, gets_left, OnPlan}
use Rattle.ts_fetch.specs.PlanLaws.{StartsWell, AsksParts, GoesOn, PlanLooks, PlanPays, PlanOwn, BreaksAtLesser}

module _ {G : Type 0} (judge : Judging G) where
  -- a fetch that finds what is wanted goes on well
  next_well : (look : Look) (frag : FragKey) (wanted : List Version) (given : G) (left : List Planned) (got : List (List ℕ)) → All (IsRight look) left → judge given (got ++ ranges_of look left) ≡ Whole wanted
      → GoesWell (OnPlan judge look frag wanted) wanted (asks_next judge given frag left got)
  next_well look frag wanted given [] got all finds = over (judge given got) (ap (judge given) (sym (append-nil got)) ∙ finds)
    where
      over : (j : Verdict) → j ≡ Whole wanted → GoesWell (OnPlan judge look frag wanted) wanted (stepped j)
      over (Whole vs) e = let same : vs ≡ wanted = cc in same
      over (Broken part at) e = absurd (cc)
  next_well look frag wanted given (p ∷ left) got all finds = record {
    now = p;
    waits = refl;
    frag_is = refl;
    call_is = refl;
    right = All-head (IsRight look) p left all;
    rest = All-tail (IsRight look) p left all;
    finds = finds;
  }

  -- the first call goes well
  pub starts_well : StartsWell judge
  starts_well look frag wanted given left all finds = next_well look frag wanted given left [] all finds

  -- the call is on a part that is held
  pub asks_held : AsksParts judge
  asks_held look frag wanted f c on = by on.now on.call_is on.right
    where
      by : (p : Planned) → c ≡ call_of frag p → IsRight look p → AsksHeld look frag c
      by (SizeOf part size) is right = record { part = part; bytes = right.0; held = right.1; named = subst (λ (d : Call). SpeaksOf d (name.Part frag part)) (sym is) refl }
      by (Range part from len) is right = record { part = part; bytes = right.0; held = right.1; named = subst (λ (d : Call). SpeaksOf d (name.Part frag part)) (sym is) refl }

  -- a fetch that is told what is held goes on well
  pub goes_well : GoesOn judge
  goes_well look frag wanted f c part bytes r on held speaks is_told =
      subst (λ (q : Option Planned). GoesWell (OnPlan judge look frag wanted) wanted (told judge f.given f.frag q f.left f.got r)) (sym on.waits)
      (subst (λ (k : FragKey). GoesWell (OnPlan judge look frag wanted) wanted (told judge f.given k (Some on.now) f.left f.got r)) (sym on.frag_is)
      (by on.now on.right (subst (λ (d : Call). SpeaksOf d (name.Part frag part)) on.call_is speaks) (subst (λ (d : Call). IsToldOf d bytes r) on.call_is is_told) on.finds))
    where
      same_part : (p q : Part) → name.Part frag p ≡ name.Part frag q → p ≡ q
      same_part p q e = cc

      by : (p : Planned) → IsRight look p → SpeaksOf (call_of frag p) (name.Part frag part) → IsToldOf (call_of frag p) bytes r → judge f.given (f.got ++ ranges_of look (p ∷ f.left)) ≡ Whole wanted
          → GoesWell (OnPlan judge look frag wanted) wanted (told judge f.given frag (Some p) f.left f.got r)
      by (SizeOf q size) right names replied finds =
          let here : look q ≡ Some bytes = ap look (same_part q part names) ∙ held in
          let size_is : length bytes ≡ size = ap length (same_Some bytes right.0 (sym here ∙ right.1)) ∙ right.2 in
          subst (λ (a : Reply). GoesWell (OnPlan judge look frag wanted) wanted (told judge f.given frag (Some (SizeOf q size)) f.left f.got a)) (sym replied)
          (subst (λ (s : Stepped (Going G)). GoesWell (OnPlan judge look frag wanted) wanted s) (sym (cond-true (nat_eq (length bytes) size) (asks_next judge f.given frag f.left f.got) (Breaks q (min (length bytes) size)) (eq-eqb (length bytes) size size_is)))
          (next_well look frag wanted f.given f.left f.got on.rest finds))
      by (Range q from len) right names replied finds =
          let here : look q ≡ Some bytes = ap look (same_part q part names) ∙ held in
          let more : judge f.given ((f.got ++ part_of from len bytes ∷ []) ++ ranges_of look f.left) ≡ Whole wanted =
          ap (judge f.given) (append_assoc f.got (part_of from len bytes ∷ []) (ranges_of look f.left) ∙ ap (λ b. f.got ++ (part_of from len b ∷ ranges_of look f.left)) (sym (ap bytes_in here))) ∙ finds in
          subst (λ (a : Reply). GoesWell (OnPlan judge look frag wanted) wanted (told judge f.given frag (Some (Range q from len)) f.left f.got a)) (sym replied)
          (next_well look frag wanted f.given f.left (f.got ++ part_of from len bytes ∷ []) on.rest more)

  -- a step of a fetch of this fragment, which may make so many gets, may ask so
  record Asked (frag : FragKey) (most : ℕ) (g : Going G) (c : Call) : Type 0 where
    looks : IsTrue (is_look c)
    pays : gets_left g + gets_of c ≤ most
    own : (g.frag ≡ frag) × ((part : Part) × SpeaksOf c (name.Part frag part))

  -- who asks alike asks one call in one state
  asked_as : (frag : FragKey) (most : ℕ) (h g : Going G) (d c : Call) → Asks h d ≡ Asks g c → Asked frag most h d → Asked frag most g c
  asked_as frag most h g d c e is =
      let states : h ≡ g = cc in
      let calls : d ≡ c = cc in
      subst (λ (k : Going G). Asked frag most k c) states (subst (λ (k : Call). Asked frag most h k) calls is)

  -- the next call of the plan
  asked_next : (given : G) (frag : FragKey) (p : Planned) (left : List Planned) (got : List (List ℕ))
      → Asked frag (gets_planned (p ∷ left)) (record { given = given; frag = frag; waits = Some p; left = left; got = got }) (call_of frag p)
  asked_next given frag (SizeOf part size) left got = record { looks = refl; pays = omega arith; own = (refl, (part, refl)) }
  asked_next given frag (Range part from count) left got = record { looks = refl; pays = omega arith; own = (refl, (part, refl)) }

  next_asked : (given : G) (frag : FragKey) (left : List Planned) (got : List (List ℕ)) (g : Going G) (c : Call) → asks_next judge given frag left got ≡ Asks g c → Asked frag (gets_planned left) g c
  next_asked given frag [] got g c e = absurd (over (judge given got) e)
    where
      over : (j : Verdict) → stepped j ≡ Asks g c → ⊥
      over (Whole vs) e = cc
      over (Broken part at) e = cc
  next_asked given frag (p ∷ left) got g c e = asked_as frag (gets_planned (p ∷ left)) _ g (call_of frag p) c e (asked_next given frag p left got)

  size_asked : (given : G) (frag : FragKey) (p : Planned) (part : Part) (left : List Planned) (got : List (List ℕ)) (g : Going G) (c : Call) → asks_size given frag p part left got ≡ Asks g c → Asked frag (gets_planned left) g c
  size_asked given frag p part left got g c e = asked_as frag (gets_planned left) _ g (call.Size (name.Part frag part)) c e (record { looks = refl; pays = omega arith; own = (refl, (part, refl)) })

  -- each step asks so
  told_asked : (given : G) (frag : FragKey) (w : Option Planned) (left : List Planned) (got : List (List ℕ)) (g : Going G) (r : Reply) (c : Call) → told judge given frag w left got r ≡ Asks g c → Asked frag (gets_planned left) g c
  told_asked given frag None left got g r c e = next_asked given frag left got g c e
  told_asked given frag (Some (SizeOf part size)) left got g (reply.Length count) c e =
      next_asked given frag left got g c (tested (nat_eq count size) (asks_next judge given frag left got) e)
    where
      tested : (b : Bool) (s : Stepped (Going G)) → (if b then s else Breaks part (min count size)) ≡ Asks g c → s ≡ Asks g c
      tested true s e = e
      tested false s e = absurd (cc)
  told_asked given frag (Some (Range part from count)) left got g (reply.Bytes bytes) c e = next_asked given frag left (got ++ bytes ∷ []) g c e
  told_asked given frag (Some (SizeOf part size)) left got g r c e = size_asked given frag (SizeOf part size) part left got g c e
  told_asked given frag (Some (Range part from count)) left got g r c e = size_asked given frag (Range part from count) part left got g c e

  pub plan_looks : PlanLooks judge
  plan_looks f g r c e = (told_asked f.given f.frag f.waits f.left f.got g r c e).looks

  pub plan_pays : PlanPays judge
  plan_pays f g r c e = (told_asked f.given f.frag f.waits f.left f.got g r c e).pays

  pub plan_own : PlanOwn judge
  plan_own f g r c e = (told_asked f.given f.frag f.waits f.left f.got g r c e).own

  -- a told size other than the stated one is damage at the lesser of the two
  pub breaks_lesser : BreaksAtLesser judge
  breaks_lesser f part size count waits other =
      subst (λ (q : Option Planned). told judge f.given f.frag q f.left f.got (reply.Length count) ≡ Breaks part (min count size)) (sym waits)
      (cond-false (nat_eq count size) (asks_next judge f.given f.frag f.left f.got) (Breaks part (min count size)) (ne_eqb count size other))
