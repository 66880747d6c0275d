-- What was heard of a plan tells what was got and told, in the order of the plan.
use Rattle.std.proofs.Common.{◌≡◌, ℕ, suc, List, [], ◌∷◌, ◌++◌, length, map, drop, reverse, refl, sym, ap, ◌∙◌, subst, arith, append_assoc}
use Rattle.std.specs.Prelude.{nat_lt, Contains}
use Rattle.std.specs.List.{flat_map, All}
use Rattle.std.proofs.lemmas.List.{append-nil, reverse-append}
use Rattle.std.proofs.lemmas.List.Elements.{All-head, All-tail, All-cons}
use Rattle.ts_base.specs.declared.names.Part.{Part}
use Rattle.ts_schema.specs.Parts.{Got, Sized}
use Rattle.ts_actor.specs.PieceLaws.{whole_got}
use Rattle.ts_fetch.specs.declared.planned.Planned.{Planned}
use Rattle.ts_fetch.specs.declared.planned.Planned.TheVariants.{SizeOf, Range}
use Rattle.ts_fetch.specs.Plans.{AreRanges, gots_after, sizes_after, HeardAll}
use Rattle.ts_sparse_read.specs.declared.opened.Span.{Span}
use Rattle.ts_sparse_read.specs.declared.opened.UsedColumn.{UsedColumn}
use Rattle.ts_sparse_read.specs.declared.opened.WantedTile.{WantedTile}
use Rattle.ts_sparse_read.specs.Opens.{size_call, span_call, tile_calls, calls_for}
use Rattle.ts_sparse_read.specs.Judges.{ranged}

-- what was got of the parts by the gets of a plan, in their order
abbrev pub gots_on : List Planned → List (List ℕ) → List Got
gots_on [] got = []
gots_on (SizeOf part size ∷ plan) got = gots_on plan got
gots_on (Range part from count ∷ plan) [] = []
gots_on (Range part from count ∷ plan) (bytes ∷ got) = record { part = part; at = from; bytes = bytes; ends = nat_lt (length bytes) count } ∷ gots_on plan got

-- which sizes were told on a plan, in its order
abbrev pub sizes_on : List Planned → List Sized
sizes_on [] = []
sizes_on (SizeOf part size ∷ plan) = record { part = part; size = size } ∷ sizes_on plan
sizes_on (Range part from count ∷ plan) = sizes_on plan

-- an item in front comes last
reverse_push : {X : Type 0} (x : X) (xs ys : List X) → reverse (x ∷ xs) ++ ys ≡ reverse xs ++ x ∷ ys
reverse_push x xs ys = ap (λ zs. zs ++ ys) (reverse-append (x ∷ []) xs) ∙ append_assoc (reverse xs) (x ∷ []) ys

-- the last that was got is the last of the plan
gots_turned : (plan : List Planned) (got : List (List ℕ)) (gots : List Got) → reverse (gots_after plan got gots) ≡ reverse gots ++ gots_on plan got
gots_turned [] got gots = sym (append-nil (reverse gots))
gots_turned (SizeOf part size ∷ plan) got gots = gots_turned plan got gots
gots_turned (Range part from count ∷ plan) [] gots = sym (append-nil (reverse gots))
gots_turned (Range part from count ∷ plan) (bytes ∷ got) gots =
    let g : Got = record { part = part; at = from; bytes = bytes; ends = nat_lt (length bytes) count } in
    gots_turned plan got (g ∷ gots) ∙ reverse_push g gots (gots_on plan got)

sizes_turned : (plan : List Planned) (sizes : List Sized) → reverse (sizes_after plan sizes) ≡ reverse sizes ++ sizes_on plan
sizes_turned [] sizes = sym (append-nil (reverse sizes))
sizes_turned (SizeOf part size ∷ plan) sizes = sizes_turned plan (record { part = part; size = size } ∷ sizes) ∙ reverse_push (record { part = part; size = size }) sizes (sizes_on plan)
sizes_turned (Range part from count ∷ plan) sizes = sizes_turned plan sizes

-- what was got, in the order of the plan
pub heard_gots : (part : Part) (object : List ℕ) (plan : List Planned) (got : List (List ℕ)) (gots : List Got) (sizes : List Sized) → HeardAll (whole_got part object) plan got gots sizes
    → reverse gots ≡ whole_got part object ++ gots_on plan got
heard_gots part object plan got gots sizes heard = ap reverse heard.gots_are ∙ gots_turned plan got (whole_got part object)

-- which sizes were told, in the order of the plan
pub heard_sizes : (start : List Got) (plan : List Planned) (got : List (List ℕ)) (gots : List Got) (sizes : List Sized) → HeardAll start plan got gots sizes → reverse sizes ≡ sizes_on plan
heard_sizes start plan got gots sizes heard = ap reverse heard.sizes_are ∙ sizes_turned plan []

-- what holds of the first of what was got, and of what was got by the plan, holds of all
gots_all : (P : Got → Type 0) (plan : List Planned) (got : List (List ℕ)) (gots : List Got) → All P gots → All P (gots_on plan got) → All P (gots_after plan got gots)
gots_all P [] got gots first more = first
gots_all P (SizeOf part size ∷ plan) got gots first more = gots_all P plan got gots first more
gots_all P (Range part from count ∷ plan) [] gots first more = first
gots_all P (Range part from count ∷ plan) (bytes ∷ got) gots first more =
    let g : Got = record { part = part; at = from; bytes = bytes; ends = nat_lt (length bytes) count } in
    gots_all P plan got (g ∷ gots) (All-cons P g gots (All-head P g (gots_on plan got) more) first) (All-tail P g (gots_on plan got) more)

-- what holds of the start, and of what was got by the plan, holds of all that was got
pub heard_all : (P : Got → Type 0) (start : List Got) (plan : List Planned) (got : List (List ℕ)) (gots : List Got) (sizes : List Sized) → HeardAll start plan got gots sizes → All P start → All P (gots_on plan got) → All P gots
heard_all P start plan got gots sizes heard first more = subst (All P) (sym heard.gots_are) (gots_all P plan got start first more)

-- what was got before is still there
still_got : (plan : List Planned) (got : List (List ℕ)) (gots : List Got) (g : Got) → Contains gots g → Contains (gots_after plan got gots) g
still_got [] got gots g there = there
still_got (SizeOf part size ∷ plan) got gots g there = still_got plan got gots g there
still_got (Range part from count ∷ plan) [] gots g there = there
still_got (Range part from count ∷ plan) (bytes ∷ got) gots g there =
    still_got plan got (record { part = part; at = from; bytes = bytes; ends = nat_lt (length bytes) count } ∷ gots) g (suc there.0, omega (arith, there.1), there.2)

-- the start is among what was got
pub heard_there : (start : List Got) (plan : List Planned) (got : List (List ℕ)) (gots : List Got) (sizes : List Sized) (g : Got) → HeardAll start plan got gots sizes → Contains start g → Contains gots g
heard_there start plan got gots sizes g heard there = subst (λ (all : List Got). Contains all g) (sym heard.gots_are) (still_got plan got start g there)

-- what holds of the sizes in the order of the plan holds of all
sizes_all : (P : Sized → Type 0) (plan : List Planned) (sizes : List Sized) → All P sizes → All P (sizes_on plan) → All P (sizes_after plan sizes)
sizes_all P [] sizes first more = first
sizes_all P (SizeOf part size ∷ plan) sizes first more =
    let one : Sized = record { part = part; size = size } in
    sizes_all P plan (one ∷ sizes) (All-cons P one sizes (All-head P one (sizes_on plan) more) first) (All-tail P one (sizes_on plan) more)
sizes_all P (Range part from count ∷ plan) sizes first more = sizes_all P plan sizes first more

-- what holds of the sizes of the plan holds of all that were told
pub told_all : (P : Sized → Type 0) (start : List Got) (plan : List Planned) (got : List (List ℕ)) (gots : List Got) (sizes : List Sized) → HeardAll start plan got gots sizes → All P [] → All P (sizes_on plan) → All P sizes
told_all P start plan got gots sizes heard none more = subst (All P) (sym heard.sizes_are) (sizes_all P plan [] none more)

-- ---- of a fetch of tiles

-- the size that is told of an object
abbrev pub sized_of : UsedColumn → Sized
sized_of column = record { part = column.part; size = column.size.length }

-- the gets come behind the sizes
pub gots_behind : (used : List UsedColumn) (plan : List Planned) (got : List (List ℕ)) → gots_on (map size_call used ++ plan) got ≡ gots_on plan got
gots_behind [] plan got = refl
gots_behind (c ∷ used) plan got = gots_behind used plan got

-- the ranges of a plan that begins with sizes are those behind them
pub ranges_behind : (used : List UsedColumn) (plan : List Planned) (got : List (List ℕ)) → AreRanges (map size_call used ++ plan) got → AreRanges plan got
ranges_behind [] plan got are = are
ranges_behind (c ∷ used) plan got are = ranges_behind used plan got are

-- gets tell no sizes
sizes_none : (spans : List Span) (plan : List Planned) → sizes_on (map span_call spans ++ plan) ≡ sizes_on plan
sizes_none [] plan = refl
sizes_none (s ∷ spans) plan = sizes_none spans plan

sizes_tiles : (tiles : List WantedTile) → sizes_on (flat_map tile_calls tiles) ≡ []
sizes_tiles [] = refl
sizes_tiles (t ∷ tiles) = sizes_none t.spans (flat_map tile_calls tiles) ∙ sizes_tiles tiles

sizes_before : (used : List UsedColumn) (plan : List Planned) → sizes_on plan ≡ [] → sizes_on (map size_call used ++ plan) ≡ map sized_of used
sizes_before [] plan none = none
sizes_before (c ∷ used) plan none = ap (λ sizes. sized_of c ∷ sizes) (sizes_before used plan none)

-- the size of each object is told
pub sizes_used : (used : List UsedColumn) (tiles : List WantedTile) → sizes_on (calls_for used tiles) ≡ map sized_of used
sizes_used used tiles = sizes_before used (flat_map tile_calls tiles) (sizes_tiles tiles)

-- ---- two plans that heard the same

-- lists that begin alike begin with one item
pub cons_parts : {X : Type 0} (x y : X) (xs ys : List X) → x ∷ xs ≡ y ∷ ys → (x ≡ y) × (xs ≡ ys)
cons_parts x y xs ys e = let first : x ≡ y = cc in let rest : xs ≡ ys = cc in (first, rest)

-- what was got of a span
abbrev pub got_of : Span → List ℕ → Got
got_of s bytes = record { part = s.part; at = s.from; bytes = bytes; ends = nat_lt (length bytes) s.count }

-- what was got of these spans is the same, and so is what was got of those behind them
pub record SameSpans (spans : List Span) (plan other : List Planned) (got heard : List (List ℕ)) : Type 0 where
  pub same : ranged spans got ≡ ranged spans heard
  pub one : AreRanges plan (drop (length spans) got)
  pub two : AreRanges other (drop (length spans) heard)
  pub rest : gots_on plan (drop (length spans) got) ≡ gots_on other (drop (length spans) heard)

-- plans with the same spans in front that heard the same got the same of these spans
pub same_spans : (spans : List Span) (plan other : List Planned) (got heard : List (List ℕ)) → AreRanges (map span_call spans ++ plan) got → AreRanges (map span_call spans ++ other) heard
    → gots_on (map span_call spans ++ plan) got ≡ gots_on (map span_call spans ++ other) heard → SameSpans spans plan other got heard
same_spans [] plan other got heard one two e = record { same = refl; one = one; two = two; rest = e }
same_spans (s ∷ spans) plan other [] heard one two e = absurd one
same_spans (s ∷ spans) plan other (b ∷ got) [] one two e = absurd two
same_spans (s ∷ spans) plan other (b ∷ got) (c ∷ heard) one two e =
    let parts = cons_parts (got_of s b) (got_of s c) (gots_on (map span_call spans ++ plan) got) (gots_on (map span_call spans ++ other) heard) e in
    let bytes : b ≡ c = ap (λ (g : Got). g.bytes) parts.0 in
    let behind = parts.1 in
    let rest = same_spans spans plan other got heard one.1 two.1 behind in
    record {
      same = (λ i. record { part = s.part; from = s.from; bytes = bytes i } ∷ rest.same i);
      one = rest.one;
      two = rest.two;
      rest = rest.rest;
    }
