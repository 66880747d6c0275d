-- Queries that are checked: places that are counted, and boxes of named bounds.
use Rattle.std.proofs.Common.{◌≡◌, ℕ, zero, suc, ◌+◌, ◌<◌, ◌≤◌, ℤ, ◌≤ℤ◌, Bool, true, false, cond, List, [], ◌∷◌, ◌++◌, map, length, length-append, take, set, get_or, Some, refl, sym, ap, ◌∙◌, arith}
use Rattle.std.specs.Prelude.{find, nat_le, IsTrue, int_le}
use Rattle.std.specs.Option.{option_map_or}
use Rattle.std.specs.List.{All}
use Rattle.std.proofs.lemmas.Bool.{and_from, and_parts, leb-true}
use Rattle.std.proofs.lemmas.Int.{ints}
use Rattle.std.proofs.lemmas.List.{take_more, take_more_set, length-map, get_or-map}
use Rattle.std.proofs.lemmas.List.Elements.{All-head, All-tail}
use Rattle.ts_cond.specs.declared.query.NamedBox.{NamedBox}
use Rattle.ts_domain.specs.declared.dims.Dim.{Dim}
use Rattle.ts_domain.specs.Bounds.{are_bounds}
use Rattle.ts_domain.specs.Dims.{IsSoundDim, IsDomain}
use Rattle.ts_domain.proofs.DomainLemmas.{length-IsDomain}
use Rattle.ts_schema.specs.declared.attrs.Attr.{Attr}
use Rattle.ts_schema.specs.declared.frames.Frame.{Frame}
use Rattle.ts_schema.specs.SchemaTexts.{AreAttrs}
use Rattle.ts_schema.specs.Attrs.{same_name}
use Rattle.ts_model.specs.Queries.{places_from, attr_field, attr_fields, dim_fields, fields_in, low_of, high_of}
use Rattle.ts_model.specs.Selections.{IsNamedBox}

-- one number more
numbers_more_from : (first n : ℕ) → places_from first (suc n) ≡ places_from first n ++ (first + n) ∷ []
numbers_more_from first zero = ap (λ x. x ∷ []) (omega arith)
numbers_more_from first (suc n) = ap (λ xs. first ∷ xs) (numbers_more_from (suc first) n ∙ ap (λ x. places_from (suc first) n ++ x ∷ []) (omega arith))

pub numbers_more : (n : ℕ) → places_from 0 (n + 1) ≡ places_from 0 n ++ n ∷ []
numbers_more n =
    let next : n + 1 ≡ suc n = omega arith in
    let last : 0 + n ≡ n = omega arith in
    ap (places_from 0) next ∙ numbers_more_from 0 n ∙ ap (λ x. places_from 0 n ++ x ∷ []) last

-- there is a field for each dimension
pub length-dim_fields : (place : ℕ) (dims : List Dim) → length (dim_fields place dims) ≡ length dims
length-dim_fields place [] = refl
length-dim_fields place (d ∷ dims) = ap suc (length-dim_fields (suc place) dims)

-- the bounds of a dimension are in order
bounds_of_dim : (named : List NamedBox) (d : Dim) → All IsNamedBox named → d.low ≤ℤ d.high → low_of named d ≤ℤ high_of named d
bounds_of_dim [] d ordered own = own
bounds_of_dim (b ∷ named) d ordered own = by_test (same_name b.name d.name) (bounds_of_dim named d (All-tail IsNamedBox b named ordered) own)
  where
    p : NamedBox → Bool
    p = λ (x : NamedBox). same_name x.name d.name

    by_test : (t : Bool) → low_of named d ≤ℤ high_of named d
        → option_map_or (λ x. x.low) (cond t (Some b) (find p named)) d.low ≤ℤ option_map_or (λ x. x.high) (cond t (Some b) (find p named)) d.high
    by_test true later = All-head IsNamedBox b named ordered
    by_test false later = later

le_true : (a b : ℤ) → a ≤ℤ b → int_le a b ≡ true
le_true a b h = grind (arith, ints)

-- a box of named bounds has its low bounds below its high ones
pub box_ordered : (named : List NamedBox) (dims : List Dim) → All IsSoundDim dims → All IsNamedBox named → IsTrue (are_bounds (map (low_of named) dims) (map (high_of named) dims))
box_ordered named [] sound ordered = refl
box_ordered named (d ∷ dims) sound ordered =
    and_from (int_le (low_of named d) (high_of named d)) (are_bounds (map (low_of named) dims) (map (high_of named) dims))
    (le_true (low_of named d) (high_of named d) (bounds_of_dim named d ordered (All-head IsSoundDim d dims sound).ordered))
    (box_ordered named dims (All-tail IsSoundDim d dims sound) ordered)

-- the bound of one dimension more
pub corner_more : (f : Dim → ℤ) (xs : List ℤ) (dims : List Dim) (i : ℕ) (v : ℤ) (d : Dim) → i < length xs → i < length dims → d ≡ get_or dims i d → v ≡ f d → take i xs ≡ take i (map f dims)
    → take (i + 1) (set xs i v) ≡ take (i + 1) (map f dims)
corner_more f xs dims i v d in_xs in_dims is same before =
    let in_map : i < length (map f dims) = rw (length-map dims f) in_dims in
    take_more_set xs i v in_xs ∙ ap (λ ys. ys ++ v ∷ []) before
    ∙ ap (λ z. take i (map f dims) ++ z ∷ []) (same ∙ ap f is ∙ sym (get_or-map f dims i d (f d) in_dims))
    ∙ sym (take_more (map f dims) i (f d) in_map)

-- there are at most 72 fields
pub few_fields : (frame : Frame) (attrs : List Attr) → IsDomain frame.domain → AreAttrs attrs → length (fields_in frame.domain attrs) ≤ 72
few_fields frame attrs domain are =
    let few : length frame.domain ≤ 8 = length-IsDomain frame.domain domain in
    let count : length attrs ≤ 64 = leb-true (length attrs) 64 (and_parts (nat_le 1 (length attrs)) (nat_le (length attrs) 64) are.count).1 in
    let whole = length-append (dim_fields 0 frame.domain) (attr_fields attrs) in
    omega (arith, few, count, whole, length-dim_fields 0 frame.domain, length-map attrs attr_field)
