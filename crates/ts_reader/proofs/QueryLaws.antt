-- Queries: the bounds of one that there can be are in order, and the box that it asks for lies in the domain.
use Rattle.std.proofs.Common.{◌≡◌, ℕ, ℤ, suc, Bool, true, false, ◌&&◌, List, [], ◌∷◌, Option, Some, None, Result, Ok, Err, map, refl, sym, ap, arith, All, subst}
use Rattle.std.specs.Prelude.{IsTrue, int_le, nat_lt, ◌^◌}
use Rattle.std.specs.List.{list_all, AllByRecursion}
use Rattle.std.specs.Option.{option_or, option_map, option_map_or}
use Rattle.std.proofs.lemmas.Bool.{and_parts, and_from}
use Rattle.std.proofs.lemmas.List.Elements.{All-from_recursion}
use Rattle.ts_base.specs.Labels.{is_label}
use Rattle.ts_domain.specs.declared.dims.Dim.{Dim}
use Rattle.ts_domain.specs.declared.outside.Outside.{Outside}
use Rattle.ts_domain.specs.Bounds.{is_between}
use Rattle.ts_domain.specs.Boxes.{Covers}
use Rattle.ts_domain.specs.Domains.{whole_domain, outside_dim, first_bound_outside, first_bound_outside_from}
use Rattle.ts_domain.proofs.Between.{within_parts, within_from}
use Rattle.ts_schema.specs.declared.attrs.Attr.{Attr}
use Rattle.ts_schema.specs.declared.frames.Frame.{Frame}
use Rattle.ts_cond.specs.declared.query.NamedBox.{NamedBox}
use Rattle.ts_cond.specs.declared.query.Query.{Query}
use Rattle.ts_cond.specs.Tests.{Condition}
use Rattle.ts_model.specs.declared.answers.Refusal.{Refusal}
use Rattle.ts_model.specs.declared.answers.Refusal.TheVariants as refusal
use Rattle.ts_model.specs.declared.commands.Command.TheVariants.{Read}
use Rattle.ts_model.specs.declared.queries.Ready.{Ready}
use Rattle.ts_model.specs.Commands.{fits, is_spelled_box, is_spelled_query, is_text}
use Rattle.ts_model.specs.Queries.{box_of, high_of, low_of, query_refusal, filter_in, ready_in, ready_with, too_many, unknown_in}
use Rattle.ts_model.specs.Selections.{IsNamedBox}
use Rattle.ts_model.proofs.Laying.{named_spelled}

-- ---- the bounds

-- bounds that have spellings are in order
each_in_order : (bs : List NamedBox) → list_all is_spelled_box bs ≡ true → AllByRecursion IsNamedBox bs
each_in_order [] t = tt
each_in_order (b ∷ bs) t = let parts = and_parts (is_spelled_box b) (list_all is_spelled_box bs) t in (named_spelled b parts.0, each_in_order bs parts.1)

-- the bounds of a read that there can be are in order
pub bounds_ordered : (from to : ℕ) (q : Query) → IsTrue (fits (Read from to q)) → All IsNamedBox q.sub
bounds_ordered from to q fit =
    let one = and_parts (nat_lt from (2 ^ 64)) (nat_lt to (2 ^ 64) && is_spelled_query q) fit in
    let two = and_parts (nat_lt to (2 ^ 64)) (is_spelled_query q) one.1 in
    let three = and_parts (list_all is_spelled_box q.sub) (list_all is_label q.fields && option_map_or is_text q.filter true) two.1 in
    All-from_recursion IsNamedBox q.sub (each_in_order q.sub three.0)

-- ---- the box

neither : {A : Type 0} (a b : Option A) → option_or a b ≡ None → (a ≡ None) × (b ≡ None)
neither None b none = (refl, none)
neither (Some x) b none = absurd (cc)

-- a number that is not outside lies within
not_outside : (place : ℕ) (d : Dim) (x : ℤ) → outside_dim place d x ≡ None → IsTrue (int_le d.low x && int_le x d.high)
not_outside place d x none = by_test (int_le d.low x && int_le x d.high) refl
  where
    by_test : (b : Bool) → (int_le d.low x && int_le x d.high) ≡ b → IsTrue (int_le d.low x && int_le x d.high)
    by_test true e = e
    by_test false e = absurd (some (record { dim = place; value = x }) (sym (rw e at none)))
      where
        some : (o : Outside) → None ≡ Some o → ⊥
        some o same = cc

module _ (f g : Dim → ℤ) where
  -- what lies between bounds of which none is outside lies in the domain
  between : (place : ℕ) (dims : List Dim) (c : List ℤ) → first_bound_outside_from place dims (map f dims) (map g dims) ≡ None → IsTrue (is_between (map f dims) (map g dims) c)
      → IsTrue (is_between (map (λ d. d.low) dims) (map (λ d. d.high) dims) c)
  between place [] [] none t = t
  between place [] (x ∷ c) none t = t
  between place (d ∷ dims) [] none t = t
  between place (d ∷ dims) (x ∷ c) none t =
      let one = neither (outside_dim place d (f d)) (option_or (outside_dim place d (g d)) (first_bound_outside_from (suc place) dims (map f dims) (map g dims))) none in
      let two = neither (outside_dim place d (g d)) (first_bound_outside_from (suc place) dims (map f dims) (map g dims)) one.1 in
      let low = within_parts d.low d.high (f d) (not_outside place d (f d) one.0) in
      let high = within_parts d.low d.high (g d) (not_outside place d (g d) two.0) in
      let parts = and_parts (int_le (f d) x && int_le x (g d)) (is_between (map f dims) (map g dims) c) t in
      let here = within_parts (f d) (g d) x parts.0 in
      and_from (int_le d.low x && int_le x d.high) (is_between (map (λ d. d.low) dims) (map (λ d. d.high) dims) c)
      (within_from d.low d.high x (omega (arith, low.0, here.0)) (omega (arith, high.1, here.1))) (between (suc place) dims c two.1 parts.1)

same_box : (x : Result Ready Refusal) (a b : Ready) → x ≡ Ok a → x ≡ Ok b → a.sub ≡ b.sub
same_box x a b one other = let same : a ≡ b = cc in ap (λ r. r.sub) same

-- a query that is ready has the box of its bounds, and none of them is outside
ready_box : (frame : Frame) (attrs : List Attr) (q : Query) (ready : Ready) (refused : Option Refusal) (found : Result (Option Condition) Refusal) → ready_with frame attrs q refused found ≡ Ok ready
    → (refused ≡ None) × (box_of q.sub frame.domain ≡ ready.sub)
ready_box frame attrs q ready (Some r) found is = absurd (cc)
ready_box frame attrs q ready None (Err r) is = absurd (cc)
ready_box frame attrs q ready None (Ok condition) is = (refl, same_box (ready_with frame attrs q None (Ok condition)) _ ready refl is)

none_mapped : {A B : Type 0} (f : A → B) (o : Option A) → option_map f o ≡ None → o ≡ None
none_mapped f None none = refl
none_mapped f (Some x) none = absurd (cc)

-- the box of a query that is ready lies in the domain
pub ready_covered : (frame : Frame) (attrs : List Attr) (q : Query) (ready : Ready) → ready_in frame attrs q ≡ Ok ready → Covers (whole_domain frame.domain) ready.sub
ready_covered frame attrs q ready is =
    let box = box_of q.sub frame.domain in
    let was = ready_box frame attrs q ready (query_refusal frame attrs q) (filter_in frame.domain attrs q.filter) is in
    let known = neither (option_map refusal.UnknownField (unknown_in frame.domain attrs q)) (option_or (option_map (λ o. refusal.Domain o.dim o.value) (first_bound_outside frame.domain box)) (too_many frame box)) was.0 in
    let inside = neither (option_map (λ o. refusal.Domain o.dim o.value) (first_bound_outside frame.domain box)) (too_many frame box) known.1 in
    let none = none_mapped (λ o. refusal.Domain o.dim o.value) (first_bound_outside frame.domain box) inside.0 in
    subst (Covers (whole_domain frame.domain)) was.1 (λ c t. between (low_of q.sub) (high_of q.sub) 0 frame.domain c none t)
