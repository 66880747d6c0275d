-- Scans of a history: one more deed or cell is looked at, and at the end all of them were.
use Rattle.std.proofs.Common.{◌≡◌, ℕ, ℤ, Bool, true, false, cond, ◌&&◌, ◌⊎◌, inl, inr, List, [], ◌∷◌, ◌++◌, Option, Some, None, refl, sym, ◌∙◌, ap, subst, append_assoc, append-nil}
use Rattle.std.specs.Prelude.{filter, nat_le, Result, Ok, Err, IfOk}
use Rattle.std.specs.Option.{is_some}
use Rattle.std.specs.Ordering.{int_cmp}
use Rattle.std.specs.Cmp.Lexicographic.{slice_cmp}
use Rattle.std.specs.FinMap as map
use Rattle.std.proofs.lemmas.List.Elements.{filter-append, filter_map-append}
use Rattle.std.proofs.lemmas.Option.{none-some}
use Rattle.ts_base.specs.declared.keys.Key.{Key}
use Rattle.ts_base.specs.declared.heads.Cell.{Cell}
use Rattle.ts_base.specs.declared.values.Val.{Val}
use Rattle.ts_base.specs.Coords.{coords_eq}
use Rattle.ts_base.specs.Keys.{is_within, greater, greatest}
use Rattle.ts_schema.specs.declared.schemas.Schema.{Schema}
use Rattle.ts_model.specs.declared.deeds.Written.{Written}
use Rattle.ts_model.specs.declared.deeds.Deed.{Deed}
use Rattle.ts_model.specs.declared.deeds.Deed.TheVariants.{Framed, Declared, Wrote, Erased}
use Rattle.ts_model.specs.Deeds.{History, frame_in, write_in, writes, schema_in, schemas, current_schema, row_at, has_cell, last_write}
use Rattle.ts_schema.specs.declared.frames.Frame.{Frame}
use Rattle.ts_cond.specs.declared.query.Query.{Query}
use Rattle.ts_domain.specs.Boxes.{is_in_box}
use Rattle.ts_model.specs.declared.answers.Outcome.{Outcome}
use Rattle.ts_model.specs.declared.answers.Outcome.TheVariants as outcome
use Rattle.ts_model.specs.declared.queries.Ready.{Ready}
use Rattle.ts_model.specs.Answers.{Cells, shown_in, left_inside}
use Rattle.std.specs.Option.{option_and_then}
use Rattle.ts_model.specs.Scans.{with_shown, cells_of_deed, cells_of_deeds, Shows, AreShown, IsAsked, IsReferred}
use Rattle.ts_model.proofs.Newest.{greater_assoc, coords_total, coords_same, coords_tie}

-- ---- the greatest of two lists

-- the greatest of two lists is the greater of the greatest of each
greatest-append : {X : Type 0} (key : X → Key) (xs ys : List X) → greatest key (xs ++ ys) ≡ greater key (greatest key xs) (greatest key ys)
greatest-append key [] ys = refl
greatest-append key (x ∷ xs) ys = ap (greater key (Some x)) (greatest-append key xs ys) ∙ sym (greater_assoc key (Some x) (greatest key xs) (greatest key ys))

-- of the deeds before and one more the last write is that of the greater key
pub last_write-push : (h : History) (d : Deed) (a b : ℕ) (c : List ℤ) → last_write (h ++ d ∷ []) a b c ≡ greater (λ w. w.key) (last_write h a b c) (last_write (d ∷ []) a b c)
last_write-push h d a b c =
    let p : Written → Bool = λ w. is_within a b w.key && has_cell c w in
    ap (λ ws. greatest (λ w. w.key) (filter p ws)) (filter_map-append write_in h (d ∷ []))
    ∙ ap (greatest (λ w. w.key)) (filter-append p (writes h) (writes (d ∷ [])))
    ∙ greatest-append (λ w. w.key) (filter p (writes h)) (filter p (writes (d ∷ [])))

-- the schema there is that of the greater key, too
pub current_schema-push : (h : History) (d : Deed) (b : ℕ) → current_schema (h ++ d ∷ []) b ≡ greater (λ s. s.key) (current_schema h b) (current_schema (d ∷ []) b)
current_schema-push h d b =
    let p : Schema → Bool = λ s. nat_le s.key.t b in
    ap (λ ss. greatest (λ s. s.key) (filter p ss)) (filter_map-append schema_in h (d ∷ []))
    ∙ ap (greatest (λ s. s.key)) (filter-append p (schemas h) (schemas (d ∷ [])))
    ∙ greatest-append (λ s. s.key) (filter p (schemas h)) (filter p (schemas (d ∷ [])))

-- ---- the cells so far

-- a coordinate that is in neither list is not in both together
absent_append : (c : List ℤ) (xs ys : List Cell) → row_at c xs ≡ None → row_at c ys ≡ None → row_at c (xs ++ ys) ≡ None
absent_append c [] ys first second = second
absent_append c (x ∷ xs) ys first second = by_test (coords_eq x.coords c) first (λ none. absent_append c xs ys none second)
  where
    by_test : (b : Bool) → cond b (Some x.row) (row_at c xs) ≡ None → (row_at c xs ≡ None → row_at c (xs ++ ys) ≡ None) → cond b (Some x.row) (row_at c (xs ++ ys)) ≡ None
    by_test true is later = absurd (none-some x.row (sym is))
    by_test false is later = later is

-- one that is not in both together is in neither
absent_left : (c : List ℤ) (xs ys : List Cell) → row_at c (xs ++ ys) ≡ None → row_at c xs ≡ None
absent_left c [] ys is = refl
absent_left c (x ∷ xs) ys is = by_test (coords_eq x.coords c) is (absent_left c xs ys)
  where
    by_test : (b : Bool) → cond b (Some x.row) (row_at c (xs ++ ys)) ≡ None → (row_at c (xs ++ ys) ≡ None → row_at c xs ≡ None) → cond b (Some x.row) (row_at c xs) ≡ None
    by_test true is' later = absurd (none-some x.row (sym is'))
    by_test false is' later = later is'

-- one that is not in both together is not in the second
absent_right : (c : List ℤ) (xs ys : List Cell) → row_at c (xs ++ ys) ≡ None → row_at c ys ≡ None
absent_right c [] ys is = is
absent_right c (x ∷ xs) ys is = by_test (coords_eq x.coords c) is (absent_right c xs ys)
  where
    by_test : (b : Bool) → cond b (Some x.row) (row_at c (xs ++ ys)) ≡ None → (row_at c (xs ++ ys) ≡ None → row_at c ys ≡ None) → row_at c ys ≡ None
    by_test true is' later = absurd (none-some x.row (sym is'))
    by_test false is' later = later is'

-- what a map has at a coordinate after one row more
pub get_more : (m : Cells) (k : List ℤ) (row : List Val) (c : List ℤ) → map.get (map.insert m k row) c ≡ cond (coords_eq k c) (Some row) (map.get m c)
get_more m k row c = map.get-insert coords_total m k row c ∙ ap (λ b. cond b (Some row) (map.get m c)) (coords_tie c k)

-- one cell more, with what is shown at its coordinates
pub shows-push : (f : List ℤ → Option (List Val)) (m : Cells) (before : List Cell) (cell : Cell) → Shows f m before → Shows f (with_shown m cell.coords (f cell.coords)) (before ++ cell ∷ [])
shows-push f m before cell h c = by_shown (f cell.coords) refl (coords_eq cell.coords c) refl (h c)
  where
    by_shown : (o : Option (List Val)) → f cell.coords ≡ o → (b : Bool) → coords_eq cell.coords c ≡ b → (map.get m c ≡ f c) ⊎ ((map.get m c ≡ None) × (row_at c before ≡ None))
        → (map.get (with_shown m cell.coords o) c ≡ f c) ⊎ ((map.get (with_shown m cell.coords o) c ≡ None) × (row_at c (before ++ cell ∷ []) ≡ None))
    by_shown None is b test (inl had) = inl had
    by_shown None is true test (inr not_yet) = inl (not_yet.0 ∙ sym (ap f (sym (coords_same cell.coords c test)) ∙ is))
    by_shown None is false test (inr not_yet) = inr (not_yet.0, absent_append c before (cell ∷ []) not_yet.1 (ap (λ t. cond t (Some cell.row) None) test))
    by_shown (Some row) is true test had =
        inl (get_more m cell.coords row c ∙ ap (λ t. cond t (Some row) (map.get m c)) test ∙ sym (ap f (sym (coords_same cell.coords c test)) ∙ is))
    by_shown (Some row) is false test (inl had) = inl (get_more m cell.coords row c ∙ ap (λ t. cond t (Some row) (map.get m c)) test ∙ had)
    by_shown (Some row) is false test (inr not_yet) =
        inr (get_more m cell.coords row c ∙ ap (λ t. cond t (Some row) (map.get m c)) test ∙ not_yet.0, absent_append c before (cell ∷ []) not_yet.1 (ap (λ t. cond t (Some cell.row) None) test))

-- before the first cell a map shows what it showed
pub shows-start : (f : List ℤ → Option (List Val)) (m : Cells) (before : List Cell) → Shows f m before → Shows f m (before ++ [])
shows-start f m before h = subst (Shows f m) (sym (append-nil before)) h

-- the map of nothing shows what no cells show
pub shows-none : (f : List ℤ → Option (List Val)) → Shows f map.empty []
shows-none f c = inr (map.get-empty (slice_cmp int_cmp) c, refl)

-- the cells of one deed more
pub cells_of_deeds-push : (ds : List Deed) (d : Deed) → cells_of_deeds (ds ++ d ∷ []) ≡ cells_of_deeds ds ++ cells_of_deed d
cells_of_deeds-push [] d = append-nil (cells_of_deed d)
cells_of_deeds-push (x ∷ ds) d = ap (λ cs. cells_of_deed x ++ cs) (cells_of_deeds-push ds d) ∙ sym (append_assoc (cells_of_deed x) (cells_of_deeds ds) (cells_of_deed d))

-- ---- the end of a scan

-- no write has a coordinate that no cell has
no_writes : (h : History) (a b : ℕ) (c : List ℤ) → row_at c (cells_of_deeds h) ≡ None → filter (λ w. is_within a b w.key && has_cell c w) (writes h) ≡ []
no_writes [] a b c is = refl
no_writes (Framed frame ∷ h) a b c is = no_writes h a b c is
no_writes (Declared s ∷ h) a b c is = no_writes h a b c is
no_writes (Erased e ∷ h) a b c is = no_writes h a b c is
no_writes (Wrote w ∷ h) a b c is =
    let p : Written → Bool = λ v. is_within a b v.key && has_cell c v in
    let no_cell : has_cell c w ≡ false = ap is_some (absent_left c w.cells (cells_of_deeds h) is) in
    let fails : p w ≡ false = ap (λ t. is_within a b w.key && t) no_cell ∙ neither (is_within a b w.key) in
    ap (λ t. cond t (w ∷ filter p (writes h)) (filter p (writes h))) fails ∙ no_writes h a b c (absent_right c w.cells (cells_of_deeds h) is)
  where
    neither : (t : Bool) → (t && false) ≡ false
    neither true = refl
    neither false = refl

-- once all deeds were looked at the map has what is left at each coordinate of the box
pub all_left : (h : History) (there : Schema) (ready : Ready) (a b : ℕ) (m : Cells) → Shows (left_inside h there ready a b) m (cells_of_deeds h) → AreShown (left_inside h there ready a b) m
all_left h there ready a b m shows c = by_case (shows c)
  where
    nothing : (t : Bool) (o : Option (List Val)) → cond t o o ≡ o
    nothing true o = refl
    nothing false o = refl

    by_case : (map.get m c ≡ left_inside h there ready a b c) ⊎ ((map.get m c ≡ None) × (row_at c (cells_of_deeds h) ≡ None)) → map.get m c ≡ left_inside h there ready a b c
    by_case (inl same) = same
    by_case (inr none) =
        none.0
        ∙ sym (ap (λ ws. cond (is_in_box ready.sub c) (option_and_then (shown_in h there a b c) (greatest (λ w. w.key) ws)) None) (no_writes h a b c none.1) ∙ nothing (is_in_box ready.sub c) None)

-- what is asked through the frame and the schema of the later history is referred
pub referred : (seen later : History) (frame : Frame) (there : Schema) (a b : ℕ) (query : Query) (end : Outcome) → frame_in later ≡ Some frame → current_schema later b ≡ Some there
    → IsAsked seen frame there a b query end → IsReferred seen later a b query end
referred seen later frame there a b query (outcome.Read answer) framed holds asked = (
  record {
    frame = frame;
    framed = framed;
    current = there;
    holds = holds;
    ready = asked.0;
    is_ready = asked.1;
    cells = asked.3.cells;
    each = asked.3.each;
    rows = asked.3.same;
    types = asked.2;
  },
  asked.4,
)
referred seen later frame there a b query (outcome.Refused r) framed holds asked = inr (frame, there, framed, holds, asked)
referred seen later frame there a b query outcome.Created framed holds asked = absurd asked
referred seen later frame there a b query (outcome.Evolved key) framed holds asked = absurd asked
referred seen later frame there a b query (outcome.Written frag) framed holds asked = absurd asked
referred seen later frame there a b query (outcome.Deleted frag) framed holds asked = absurd asked
referred seen later frame there a b query (outcome.Consolidated frag count) framed holds asked = absurd asked
referred seen later frame there a b query (outcome.Vacuumed count) framed holds asked = absurd asked
referred seen later frame there a b query (outcome.Unlocked count) framed holds asked = absurd asked
referred seen later frame there a b query (outcome.Listed names) framed holds asked = absurd asked
referred seen later frame there a b query outcome.OutOfMemory framed holds asked = absurd asked

-- so it is where there may be want of memory
pub referred_or : {E : Type 0} (seen later : History) (frame : Frame) (there : Schema) (a b : ℕ) (query : Query) (r : Result Outcome E) → frame_in later ≡ Some frame → current_schema later b ≡ Some there
    → IfOk r (IsAsked seen frame there a b query) → IfOk r (IsReferred seen later a b query)
referred_or seen later frame there a b query (Ok end) framed holds asked = referred seen later frame there a b query end framed holds asked
referred_or seen later frame there a b query (Err e) framed holds asked = tt
