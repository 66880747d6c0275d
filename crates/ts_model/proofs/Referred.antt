-- The end of a scan: the cells of its box lie in the domain, they are those in row order, and the later history has a frame.
use Rattle.std.proofs.Common.{◌≡◌, ℕ, ℤ, Bool, true, false, cond, ◌&&◌, List, [], ◌∷◌, map, length, Option, Some, None, Ok, Result, refl, sym, ◌∙◌, ap, subst, suc, arith}
use Rattle.std.specs.Prelude.{◌≤◌, ◌-◌, Err, ◌^◌, IsTrue, if◌then◌else◌, int_le, min, nat_lt, option_map}
use Rattle.std.specs.Option.{option_or, IsSome}
use Rattle.std.specs.BTreeMap.{BTreeMap}
use Rattle.std.specs.List.{All}
use Rattle.std.specs.Map.{keys_of}
use Rattle.std.proofs.lemmas.Bool.{true≢false, and_parts, and_from, ltb-false}
use Rattle.std.proofs.lemmas.Int.{ints}
use Rattle.std.proofs.lemmas.Cmp.{eq_by_cmp_equiv}
use Rattle.std.proofs.lemmas.List.Elements.{All-nil, All-cons, All-head, All-tail}
use Rattle.std.proofs.lemmas.Map.Views.{All-keys_from_lookup}
use Rattle.std.proofs.lemmas.Option.{none-some}
use Rattle.ts_base.specs.declared.values.Val.{Val}
use Rattle.ts_cond.specs.declared.query.Query.{Query}
use Rattle.ts_cond.specs.Tests.{Condition}
use Rattle.ts_domain.specs.declared.dims.Dim.{Dim}
use Rattle.ts_domain.specs.Bounds.{is_between}
use Rattle.ts_domain.specs.Boxes.{IsBox, is_in_box, cells_of}
use Rattle.ts_domain.specs.Domains.{is_in_domain, LiesInDomain, first_bound_outside}
use Rattle.ts_domain.proofs.Between.{within_parts, within_from}
use Rattle.ts_domain.proofs.DomainLemmas.{first_bound_outside-none, is_in_domain-first_outside, All-IsDomain}
use Rattle.ts_schema.specs.declared.attrs.Attr.{Attr}
use Rattle.ts_schema.specs.declared.frames.Frame.{Frame}
use Rattle.ts_schema.specs.declared.schemas.Schema.{Schema}
use Rattle.ts_schema.specs.FrameTexts.{IsFrame}
use Rattle.ts_schema.specs.SchemaTexts.{AreAttrs}
use Rattle.ts_store.proofs.Trees.{get-tree}
use Rattle.ts_model.specs.declared.answers.Refusal.{Refusal}
use Rattle.ts_model.specs.declared.queries.Ready.{Ready}
use Rattle.ts_model.specs.declared.queries.Shown.{Shown}
use Rattle.ts_model.specs.Answers.{shown_at, shown_inside, unwritten}
use Rattle.ts_model.specs.Deeds.{History, IsHistory, frame_in, current_schema}
use Rattle.ts_model.specs.Queries.{box_of, field_places, low_of, high_of, most_cells, too_many, query_refusal, filter_in, ready_with, ready_in}
use Rattle.ts_model.specs.Scans.{cells_in, shown_of, AreInside}
use Rattle.ts_model.specs.Selections.{IsNamedBox, placed}
use Rattle.ts_model.specs.declared.answers.Refusal.TheVariants as refusal
use Rattle.ts_model.proofs.Checked.{box_ordered}
use Rattle.ts_model.proofs.HistoryLaws.{current_is_with, framed_by_schema, frame_facts, schema_facts}
use Rattle.ts_model.proofs.Newest.{coords_total}

-- ---- the box is that of the bounds, and lies in the domain

-- the box of a query that is not refused is that of its bounds
ready_box_by : (frame : Frame) (attrs : List Attr) (q : Query) (r : Option Refusal) (filter : Result (Option Condition) Refusal) (ready : Ready) → ready_with frame attrs q r filter ≡ Ok ready → ready.sub ≡ box_of q.sub frame.domain
ready_box_by frame attrs q (Some r) filter ready is = cc
ready_box_by frame attrs q None (Err r) ready is = cc
ready_box_by frame attrs q None (Ok found) ready is =
    let made : Ready = record { sub = box_of q.sub frame.domain; fields = field_places frame.domain attrs q.fields; filter = found; layout = q.layout } in
    let same : made ≡ ready = cc in
    ap (λ x. x.sub) (sym same)

-- so is that of a query that is ready
pub ready_box : (frame : Frame) (attrs : List Attr) (q : Query) (ready : Ready) → ready_in frame attrs q ≡ Ok ready → ready.sub ≡ box_of q.sub frame.domain
ready_box frame attrs q ready is = ready_box_by frame attrs q (query_refusal frame attrs q) (filter_in frame.domain attrs q.filter) ready is

-- where neither of two is there the second is not
second_none : {A : Type 0} (a b : Option A) → option_or a b ≡ None → b ≡ None
second_none (Some x) b is = absurd (none-some x (sym is))
second_none None b is = is

-- where the first of two is not there it is not
first_none : {A : Type 0} (a b : Option A) → option_or a b ≡ None → a ≡ None
first_none (Some x) b is = absurd (none-some x (sym is))
first_none None b is = refl

-- what is not there after a change was not there before it
none_before : {A B : Type 0} (f : A → B) (a : Option A) → option_map f a ≡ None → a ≡ None
none_before f (Some x) is = absurd (none-some (f x) (sym is))
none_before f None is = refl

-- a query that is ready is not refused
ready_unrefused : (frame : Frame) (attrs : List Attr) (q : Query) (r : Option Refusal) (filter : Result (Option Condition) Refusal) (ready : Ready) → ready_with frame attrs q r filter ≡ Ok ready → r ≡ None
ready_unrefused frame attrs q (Some r) filter ready is = cc
ready_unrefused frame attrs q None filter ready is = refl

corners_long : (f g : Dim → ℤ) (dims : List Dim) → (length (map f dims) ≡ length dims) × (length (map g dims) ≡ length (map f dims))
corners_long f g [] = (refl, refl)
corners_long f g (d ∷ dims) = let rest = corners_long f g dims in (ap suc rest.0, ap suc rest.1)

-- its box lies in the domain, and in a dense array it does not have too many cells
ready_none : (frame : Frame) (attrs : List Attr) (q : Query) (ready : Ready) → ready_in frame attrs q ≡ Ok ready
    → (first_bound_outside frame.domain (box_of q.sub frame.domain) ≡ None) × (too_many frame (box_of q.sub frame.domain) ≡ None)
ready_none frame attrs q ready is =
    let dims = frame.domain in
    let refused : query_refusal frame attrs q ≡ None = ready_unrefused frame attrs q (query_refusal frame attrs q) (filter_in dims attrs q.filter) ready is in
    let later = second_none _ _ refused in
    (none_before _ (first_bound_outside dims (box_of q.sub dims)) (first_none _ (too_many frame (box_of q.sub dims)) later), second_none _ _ later)

-- its box lies in the domain
pub ready_inside : (frame : Frame) (attrs : List Attr) (q : Query) (ready : Ready) → ready_in frame attrs q ≡ Ok ready → LiesInDomain frame.domain ready.sub
ready_inside frame attrs q ready is =
    let dims = frame.domain in
    let inside = (ready_none frame attrs q ready is).0 in
    let long = corners_long (low_of q.sub) (high_of q.sub) dims in
    let corners = first_bound_outside-none 0 dims (map (low_of q.sub) dims) (map (high_of q.sub) dims) long.1 inside in
    subst (LiesInDomain dims) (sym (ready_box frame attrs q ready is)) (
      is_in_domain-first_outside 0 dims (map (low_of q.sub) dims) long.0 corners.0,
      is_in_domain-first_outside 0 dims (map (high_of q.sub) dims) (long.1 ∙ long.0) corners.1,
    )

-- it is a box, where the bounds of the query are in order
pub ready_is_box : (frame : Frame) (attrs : List Attr) (q : Query) (ready : Ready) → IsFrame frame → All IsNamedBox q.sub → ready_in frame attrs q ≡ Ok ready → IsBox ready.sub
ready_is_box frame attrs q ready is_frame ordered is =
    subst IsBox (sym (ready_box frame attrs q ready is)) (box_ordered q.sub frame.domain (All-IsDomain frame.domain is_frame.domain) ordered)

-- what is not more than the most is at most that
not_over : (dense : Bool) (cells : ℕ) → (if dense && nat_lt most_cells (min cells (2 ^ 64 - 1)) then Some (refusal.TooMany (min cells (2 ^ 64 - 1))) else None) ≡ None → dense ≡ true → cells ≤ most_cells
not_over false cells is dense = absurd (true≢false (sym dense))
not_over true cells is dense = by_test (nat_lt most_cells (min cells (2 ^ 64 - 1))) is refl
  where
    by_test : (t : Bool) → (if t then Some (refusal.TooMany (min cells (2 ^ 64 - 1))) else None) ≡ None → nat_lt most_cells (min cells (2 ^ 64 - 1)) ≡ t → cells ≤ most_cells
    by_test true none test = absurd (none-some _ (sym none))
    by_test false none test = let level : min cells (2 ^ 64 - 1) ≤ most_cells = ltb-false most_cells (min cells (2 ^ 64 - 1)) test in omega arith

-- in a dense array it has few cells
pub ready_few : (frame : Frame) (attrs : List Attr) (q : Query) (ready : Ready) → ready_in frame attrs q ≡ Ok ready → frame.dense ≡ true → cells_of ready.sub ≤ most_cells
ready_few frame attrs q ready is dense =
    subst (λ sub. cells_of sub ≤ most_cells) (sym (ready_box frame attrs q ready is)) (not_over frame.dense (cells_of (box_of q.sub frame.domain)) (ready_none frame attrs q ready is).1 dense)

-- ---- the cells of the box

-- what lies between two corners that lie between two others lies between these
between_inner : (os qs ls hs xs : List ℤ) → IsTrue (is_between os qs ls) → IsTrue (is_between os qs hs) → IsTrue (is_between ls hs xs) → IsTrue (is_between os qs xs)
between_inner [] [] [] [] xs a b t = t
between_inner [] [] [] (h ∷ hs) xs a b t = cc
between_inner [] [] (l ∷ ls) hs xs a b t = cc
between_inner [] (q ∷ qs) ls hs xs a b t = cc
between_inner (o ∷ os) [] ls hs xs a b t = cc
between_inner (o ∷ os) (q ∷ qs) [] hs xs a b t = cc
between_inner (o ∷ os) (q ∷ qs) (l ∷ ls) [] xs a b t = cc
between_inner (o ∷ os) (q ∷ qs) (l ∷ ls) (h ∷ hs) [] a b t = cc
between_inner (o ∷ os) (q ∷ qs) (l ∷ ls) (h ∷ hs) (x ∷ xs) a b t =
    let first = and_parts (int_le o l && int_le l q) (is_between os qs ls) a in
    let second = and_parts (int_le o h && int_le h q) (is_between os qs hs) b in
    let parts = and_parts (int_le l x && int_le x h) (is_between ls hs xs) t in
    let from_low = within_parts o q l first.0 in
    let to_high = within_parts o q h second.0 in
    let within = within_parts l h x parts.0 in
    and_from (int_le o x && int_le x q) (is_between os qs xs) (within_from o q x (omega (arith, ints)) (omega (arith, ints))) (between_inner os qs ls hs xs first.1 second.1 parts.1)

-- a coordinate at which something is shown lies in the box
shown_in_box : (h : History) (frame : Frame) (there : Schema) (ready : Ready) (a b : ℕ) (c : List ℤ) → IsSome (shown_inside h frame there ready a b c) → IsTrue (is_in_box ready.sub c)
shown_in_box h frame there ready a b c some = by_test (is_in_box ready.sub c) some
  where
    by_test : (t : Bool) → IsSome (cond t (option_or (shown_at h there a b c) (unwritten frame there.attrs)) None) → t ≡ true
    by_test true is = refl
    by_test false is = cc

-- what holds of each key holds of the coordinates of each cell
cells_all : (P : List ℤ → Type 0) (es : List (List ℤ × List Val)) → All P (keys_of es) → All (λ (cell : Shown). P cell.coords) (map shown_of es)
cells_all P [] all = All-nil (λ (cell : Shown). P cell.coords)
cells_all P (e ∷ es) all = All-cons (λ (cell : Shown). P cell.coords) (shown_of e) (map shown_of es) (All-head P e.0 (keys_of es) all) (cells_all P es (All-tail P e.0 (keys_of es) all))

-- the cells that are found lie in the domain
pub cells_inside : (dims : List Dim) (h : History) (frame : Frame) (there : Schema) (ready : Ready) (a b : ℕ) (m : BTreeMap (List ℤ) (List Val)) → LiesInDomain dims ready.sub → AreInside h frame there ready a b (cells_in m)
    → All (λ (cell : Shown). IsTrue (is_in_domain dims cell.coords)) (map shown_of m.entries)
cells_inside dims h frame there ready a b m lies each =
    cells_all (λ c. IsTrue (is_in_domain dims c)) m.entries (All-keys_from_lookup (eq_by_cmp_equiv coords_total) (λ c. IsTrue (is_in_domain dims c)) m.entries (λ c some.
    between_inner (map (λ (d : Dim). d.low) dims) (map (λ (d : Dim). d.high) dims) ready.sub.low ready.sub.high c lies.0 lies.1
    (shown_in_box h frame there ready a b c (subst IsSome (sym (get-tree coords_total m c) ∙ each c) some))))

-- a cell is a pair of its coordinates and its row
pub placed_back : (es : List (List ℤ × List Val)) → map placed (map shown_of es) ≡ es
placed_back [] = refl
placed_back (e ∷ es) = ap (λ xs. e ∷ xs) (placed_back es)

-- ---- the later history

-- a history with a schema that holds has a frame
pub current_is_frame : (h : History) (b : ℕ) (s : Schema) → IsHistory h → current_schema h b ≡ Some s → frame_in h ≡ None → ⊥
current_is_frame h b s is holds none =
    let framed = framed_by_schema h s.key s is (current_is_with h b s is holds) in
    none-some framed.0 (sym none ∙ framed.1)

-- and the attributes of that schema are such as an array can have
pub current_attrs : (h : History) (b : ℕ) (s : Schema) → IsHistory h → current_schema h b ≡ Some s → AreAttrs s.attrs
current_attrs h b s is holds = (schema_facts h s.key s is (current_is_with h b s is holds)).0

-- its frame is one
pub framed_is : (h : History) (frame : Frame) → IsHistory h → frame_in h ≡ Some frame → IsFrame frame
framed_is h frame is framed = frame_facts h frame is framed
