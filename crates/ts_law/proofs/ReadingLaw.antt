-- The law of reading: what a read gets from the fragments of its listing shows what the history shows without its clipped writes.
use Rattle.std.proofs.Common.{◌≡◌, ℕ, ℤ, Bool, true, false, cond, not, ◌&&◌, List, [], ◌∷◌, length, Option, Some, None, Ok, refl, sym, ◌∙◌, ap, subst}
use Rattle.std.specs.Prelude.{Contains, filter, find, option_map, option_and_then}
use Rattle.std.specs.List.{list_any}
use Rattle.std.specs.Option.{option_map_or, option_or}
use Rattle.std.specs.Cmp.{both_ways}
use Rattle.std.specs.FinMap as map
use Rattle.std.proofs.lemmas.Bool.{and_parts, and_from}
use Rattle.std.proofs.lemmas.List.{length-map}
use Rattle.std.proofs.lemmas.List.Folds.{Any-from_list_any, list_any-from_Any}
use Rattle.std.proofs.lemmas.Option.{same_Some, none-some}
use Rattle.ts_base.specs.declared.keys.Key.{Key}
use Rattle.ts_base.specs.declared.values.Val.{Val}
use Rattle.ts_base.specs.declared.heads.Head.{Head}
use Rattle.ts_base.specs.declared.heads.Version.{Version}
use Rattle.ts_base.specs.Keys.{is_within, greatest, key_eq}
use Rattle.ts_cond.specs.declared.query.Query.{Query}
use Rattle.ts_domain.specs.declared.boxes.SubBox.{SubBox}
use Rattle.ts_domain.specs.Boxes.{is_in_box}
use Rattle.ts_schema.specs.declared.schemas.Schema.{Schema}
use Rattle.ts_schema.specs.Attrs.{shown_row}
use Rattle.ts_commit.specs.Selections.{has_origin, is_clipped}
use Rattle.ts_model.specs.declared.deeds.Deletion.{Deletion}
use Rattle.ts_model.specs.declared.deeds.Deed.TheVariants.{Framed, Declared, Wrote, Erased}
use Rattle.ts_model.specs.declared.deeds.Written.{Written}
use Rattle.ts_model.specs.declared.states.Reading.{Reading}
use Rattle.ts_model.specs.Deeds.{History, writes, deletions, schemas as schemas_in, row_at, has_cell, last_write, attrs_with, frame_in, current_schema}
use Rattle.ts_model.specs.Answers.{Cells, erases_cell, is_erased, shown_in, shown_at, shown_inside, fills_of, unwritten, IsAnswer}
use Rattle.ts_model.specs.Pieces.{version_of}
use Rattle.ts_model.specs.Queries.{low_of, high_of, ready_in, selected}
use Rattle.ts_model.specs.States.{known_attrs, cells_left, cells_filled, cells_shown, answer_of}
use Rattle.ts_law.specs.Ends.{without_clipped}
use Rattle.ts_law.specs.Kept.{AreGot, used_version}
use Rattle.ts_law.specs.Origins.{last_version, newest_at, wrote_in}
use Rattle.ts_model.proofs.ListLemmas.{filter-Contains}
use Rattle.ts_model.proofs.KeyLemmas.{greatest-Some}
use Rattle.ts_model.proofs.Referred.{ready_box}
use Rattle.ts_model.proofs.Filled.{box_map, entries_box, get_box, or_fill, left_alone}
use Rattle.ts_law.proofs.UsedCells.{erased_whole, shown_whole, left_whole, whole_or_fill, whole_left, whole_at, sparse_rows, dense_rows}
use Rattle.ts_law.proofs.NewestBy.{version_with}

-- a test that a member passes is passed by one
any_from_member : {X : Type 0} (p : X → Bool) (xs : List X) (x : X) → Contains xs x → p x ≡ true → list_any p xs ≡ true
any_from_member p xs x at passes = list_any-from_Any p xs (at.0, x, at.1, at.2, passes)

-- ---- a history without its clipped writes

-- one item more, of two lists of which the same is kept
keep_step : {X : Type 0} (p q : X → Bool) (x : X) (xs ys : List X) (s t u v : Bool) → p x ≡ s && t → q x ≡ t → (s ≡ true → v ≡ u) → filter p xs ≡ filter q ys
    → filter p (cond u (x ∷ xs) xs) ≡ filter q (cond (s && v) (x ∷ ys) ys)
keep_step p q x xs ys true t true v first second same rest =
    ap (λ b. cond b (x ∷ filter p xs) (filter p xs)) first ∙ ap (λ l. cond t (x ∷ l) l) rest ∙ ap (λ b. cond b (x ∷ filter q ys) (filter q ys)) (sym second) ∙ sym (ap (λ b. filter q (cond b (x ∷ ys) ys)) (same refl))
keep_step p q x xs ys true t false v first second same rest = rest ∙ sym (ap (λ b. filter q (cond b (x ∷ ys) ys)) (same refl))
keep_step p q x xs ys false t true v first second same rest = ap (λ b. cond b (x ∷ filter p xs) (filter p xs)) first ∙ rest
keep_step p q x xs ys false t false v first second same rest = rest

module _ (from to : ℕ) (heads : List Head) where
  -- it has the schemas of the whole one
  same_schemas : (h : History) → schemas_in (without_clipped from to heads h) ≡ schemas_in h
  same_schemas [] = refl
  same_schemas (Framed x ∷ h) = same_schemas h
  same_schemas (Declared x ∷ h) = ap (λ l. x ∷ l) (same_schemas h)
  same_schemas (Erased x ∷ h) = same_schemas h
  same_schemas (Wrote w ∷ h) = elim (not (is_clipped from to heads w.key)) as (λ t. schemas_in (cond t (Wrote w ∷ without_clipped from to heads h) (without_clipped from to heads h)) ≡ schemas_in h) [ true ↦ same_schemas h | false ↦ same_schemas h ]

  -- and its deletes
  same_deletions : (h : History) → deletions (without_clipped from to heads h) ≡ deletions h
  same_deletions [] = refl
  same_deletions (Framed x ∷ h) = same_deletions h
  same_deletions (Declared x ∷ h) = same_deletions h
  same_deletions (Erased x ∷ h) = ap (λ l. x ∷ l) (same_deletions h)
  same_deletions (Wrote w ∷ h) = elim (not (is_clipped from to heads w.key)) as (λ t. deletions (cond t (Wrote w ∷ without_clipped from to heads h) (without_clipped from to heads h)) ≡ deletions h) [ true ↦ same_deletions h | false ↦ same_deletions h ]

  -- its writes are those that are not clipped
  left_writes : (h : History) → writes (without_clipped from to heads h) ≡ filter (λ w. not (is_clipped from to heads w.key)) (writes h)
  left_writes [] = refl
  left_writes (Framed x ∷ h) = left_writes h
  left_writes (Declared x ∷ h) = left_writes h
  left_writes (Erased x ∷ h) = left_writes h
  left_writes (Wrote w ∷ h) =
      elim (not (is_clipped from to heads w.key)) as (λ t. writes (cond t (Wrote w ∷ without_clipped from to heads h) (without_clipped from to heads h))
      ≡ cond t (w ∷ filter (λ v. not (is_clipped from to heads v.key)) (writes h)) (filter (λ v. not (is_clipped from to heads v.key)) (writes h))) [
        | true ↦ ap (λ l. w ∷ l) (left_writes h)
        | false ↦ left_writes h
      ]

  -- ---- its last writes

  -- where just the writes in the interval that are not clipped went into some fragments
  module _ (loads : List Head) (loaded_is : (k : Key) → is_within from to k ≡ true → list_any (has_origin k) loads ≡ not (is_clipped from to heads k)) (c : List ℤ) where
    -- the writes that have a coordinate are those that went into one of these
    seen_there : (ws : List Written) → filter (λ w. is_within from to w.key && has_cell c w) (filter (λ w. not (is_clipped from to heads w.key)) ws)
        ≡ filter (has_cell c) (filter (λ w. is_within from to w.key && list_any (has_origin w.key) loads) ws)
    seen_there [] = refl
    seen_there (w ∷ ws) =
        keep_step (λ x. is_within from to x.key && has_cell c x) (has_cell c) w (filter (λ x. not (is_clipped from to heads x.key)) ws) (filter (λ x. is_within from to x.key && list_any (has_origin x.key) loads) ws)
        (is_within from to w.key) (has_cell c w) (not (is_clipped from to heads w.key)) (list_any (has_origin w.key) loads) refl refl (loaded_is w.key) (seen_there ws)

    -- so the last of these is the last write
    last_is_left : (h : History) → last_version (wrote_in h from to loads) c ≡ option_and_then (λ w. version_of w c) (last_write (without_clipped from to heads h) from to c)
    last_is_left h = ap (λ ws. option_and_then (λ w. version_of w c) (greatest (λ w. w.key) ws)) (sym (ap (filter (λ w. is_within from to w.key && has_cell c w)) (left_writes h) ∙ seen_there (writes h)))

-- ---- the law

-- in the box the newest whole version of a coordinate is that of its last write, and outside there is none
module _ (h : History) (from to : ℕ) (sub : SubBox) (whole : List Version)
    (newest_is : (c : List ℤ) → is_in_box sub c ≡ true → newest_at whole c ≡ option_and_then (λ w. version_of w c) (last_write h from to c))
    (none_outside : (c : List ℤ) → is_in_box sub c ≡ false → newest_at whole c ≡ None) where
  -- a read got what it uses of them
  module _ (r : Reading) (schemas : List Schema) (got : List Version) (uses : (c : List ℤ) → newest_at got c ≡ option_map (used_version r schemas) (newest_at whole c)) (box : (r.ready).sub ≡ sub)
      (known : (w : Written) → Contains (writes h) w → is_within from to w.key ≡ true → known_attrs r schemas w.schema ≡ attrs_with h w.schema)
      (deleted_in : (x : Deletion) → Contains r.deletions x → Contains (deletions h) x × (is_within from to x.key ≡ true))
      (all_deletions : (x : Deletion) → Contains (deletions h) x → is_within from to x.key ≡ true → Contains r.deletions x) where
    -- the deletes that were got erase what those of the history in the interval do
    same_erased : (p : Deletion → Bool) → list_any p r.deletions ≡ list_any (λ x. is_within from to x.key && p x) (deletions h)
    same_erased p = both_ways (list_any p r.deletions) (list_any (λ x. is_within from to x.key && p x) (deletions h))
        (λ some.
        let found = Any-from_list_any p r.deletions some in
        let of = deleted_in found.1 (found.0, found.2, found.3) in
        any_from_member (λ x. is_within from to x.key && p x) (deletions h) found.1 of.0 (and_from (is_within from to (found.1).key) (p found.1) of.1 found.4))
        (λ some.
        let found = Any-from_list_any (λ x. is_within from to x.key && p x) (deletions h) some in
        let tests = and_parts (is_within from to (found.1).key) (p found.1) found.4 in
        any_from_member p r.deletions found.1 (all_deletions found.1 (found.0, found.2, found.3) tests.0) tests.1)

    -- the version of a write is left where its cell is
    left_cell : (c : List ℤ) (w : Written) (row : List Val) → known_attrs r schemas w.schema ≡ attrs_with h w.schema
        → left_whole r schemas (version_with w c row) ≡ option_map (λ row. shown_row (attrs_with h w.schema) row r.current.attrs) (cond (is_erased h from to c w row) None (Some row))
    left_cell c w row same =
        ap (λ b. cond (not b) (Some (shown_whole r schemas (version_with w c row))) None) is_same
        ∙ ap (λ attrs. cond (not (is_erased h from to c w row)) (Some (shown_row attrs row r.current.attrs)) None) same
        ∙ by_test (is_erased h from to c w row)
      where
        is_same : erased_whole r schemas (version_with w c row) ≡ is_erased h from to c w row
        is_same = ap (λ attrs. list_any (erases_cell w attrs c row) r.deletions) same ∙ same_erased (erases_cell w (attrs_with h w.schema) c row)

        by_test : (b : Bool) → cond (not b) (Some (shown_row (attrs_with h w.schema) row r.current.attrs)) None
            ≡ option_map (λ row. shown_row (attrs_with h w.schema) row r.current.attrs) (cond b None (Some row))
        by_test true = refl
        by_test false = refl

    -- the version of a write shows what is left of its cell
    shows_cell : (c : List ℤ) (w : Written) (v : Version) → known_attrs r schemas w.schema ≡ attrs_with h w.schema → version_of w c ≡ Some v → left_whole r schemas v ≡ shown_in h r.current from to c w
    shows_cell c w v same = elim (row_at c w.cells) as (λ o. option_map (version_with w c) o ≡ Some v
        → left_whole r schemas v ≡ option_map (λ row. shown_row (attrs_with h w.schema) row r.current.attrs) (option_and_then (λ row. cond (is_erased h from to c w row) None (Some row)) o)) [
          | None ↦ λ e. absurd (none-some v e)
          | Some row ↦ λ e. ap (left_whole r schemas) (sym (same_Some (version_with w c row) v e)) ∙ left_cell c w row same
        ]

    -- what is newest at a coordinate of the box shows what the history shows there
    shows : (c : List ℤ) → is_in_box sub c ≡ true → option_and_then (left_whole r schemas) (newest_at whole c) ≡ shown_at h r.current from to c
    shows c inside = ap (option_and_then (left_whole r schemas)) (newest_is c inside) ∙ by_write (last_write h from to c) refl
      where
        nothing_there : (w : Written) → version_of w c ≡ None → None ≡ shown_in h r.current from to c w
        nothing_there w none = by_row (row_at c w.cells) none
          where
            by_row : (o : Option (List Val)) → option_map (version_with w c) o ≡ None
                → None ≡ option_map (λ row. shown_row (attrs_with h w.schema) row r.current.attrs) (option_and_then (λ row. cond (is_erased h from to c w row) None (Some row)) o)
            by_row None e = refl
            by_row (Some row) e = absurd (none-some (version_with w c row) (sym e))

        by_version : (w : Written) → Contains (writes h) w → is_within from to w.key ≡ true → (o : Option Version) → version_of w c ≡ o → option_and_then (left_whole r schemas) o ≡ shown_in h r.current from to c w
        by_version w at within None none = nothing_there w none
        by_version w at within (Some v) made = shows_cell c w v (known w at within) made

        by_write : (o : Option Written) → last_write h from to c ≡ o
            → option_and_then (left_whole r schemas) (option_and_then (λ w. version_of w c) o) ≡ option_and_then (shown_in h r.current from to c) o
        by_write None last = refl
        by_write (Some w) last =
            let parts = filter-Contains _ (writes h) w (greatest-Some (λ u. u.key) (filter (λ u. is_within from to u.key && has_cell c u) (writes h)) w last).member in
            by_version w parts.0 (and_parts (is_within from to w.key) (has_cell c w) parts.1).0 (version_of w c) refl

    -- so it is at each coordinate, if nothing is shown outside the box
    shows_inside : (c : List ℤ) (b : Bool) → is_in_box sub c ≡ b → option_and_then (left_whole r schemas) (newest_at whole c) ≡ cond b (shown_at h r.current from to c) None
    shows_inside c true inside = shows c inside
    shows_inside c false outside = ap (option_and_then (left_whole r schemas)) (none_outside c outside)

    -- the rows that are selected of cells
    abbrev rows_of : List (List ℤ × List Val) → List (List Val)
    rows_of cells = selected r.frame r.current.attrs r.ready cells

    -- outside the box of what is ready there is none
    outside : (c : List ℤ) → is_in_box r.ready.sub c ≡ false → newest_at whole c ≡ None
    outside c apart = none_outside c (subst (λ s. is_in_box s c ≡ false) box apart)

    -- of a map that has at each coordinate what the history shows the rows are selected with which a read answers
    abbrev ShowsAll : Type 0
    ShowsAll = (cells : Cells) × (rows_of (cells_shown r schemas got) ≡ rows_of (map.entries cells)) × ((c : List ℤ) → map.get cells c ≡ shown_inside h r.frame r.current r.ready from to c)

    -- the rows that are selected in each kind of array
    abbrev of_kind : Bool → List (List Val)
    of_kind dense = rows_of (cond dense (cells_filled r schemas got) (cells_left r schemas got))

    -- what is shown where no write is left, in each kind of array
    abbrev fill_of_kind : Bool → Option (List Val)
    fill_of_kind dense = cond dense (Some (fills_of r.current.attrs)) None

    module _ (low : length r.ready.sub.low ≡ length r.frame.domain) (high : length r.ready.sub.high ≡ length r.ready.sub.low) where
      -- a sparse array shows what is left
      shows_sparse : r.frame.dense ≡ false → ShowsAll
      shows_sparse sparse = (
        whole_left r schemas got whole uses outside low high,
        ap of_kind sparse ∙ sparse_rows r schemas got whole uses outside low high,
        λ c. whole_at r schemas got whole uses outside low high c ∙ shows_inside c (is_in_box sub c) refl
            ∙ ap (λ s. cond (is_in_box s c) (shown_at h r.current from to c) None) (sym box)
            ∙ left_alone (is_in_box r.ready.sub c) (shown_at h r.current from to c) (unwritten r.frame r.current.attrs) (ap fill_of_kind sparse),
      )

      -- a dense array shows that, or else the fill, at each coordinate of the box
      shows_dense : r.frame.dense ≡ true → ShowsAll
      shows_dense dense = (
        box_map r.ready.sub.low r.ready.sub.high high row_there,
        ap of_kind dense ∙ dense_rows r schemas got whole uses outside low high ∙ ap rows_of (sym (entries_box r.ready.sub.low r.ready.sub.high high row_there)),
        λ c. get_box r.ready.sub.low r.ready.sub.high high row_there c ∙ each c (is_in_box r.ready.sub c) refl,
      )
        where
          row_there : List ℤ → List Val
          row_there = λ c. whole_or_fill r schemas (newest_at whole c)

          each : (c : List ℤ) (t : Bool) → is_in_box r.ready.sub c ≡ t → cond t (Some (row_there c)) None ≡ cond t (option_or (shown_at h r.current from to c) (unwritten r.frame r.current.attrs)) None
          each c true inside =
              or_fill (option_and_then (left_whole r schemas) (newest_at whole c)) (fills_of r.current.attrs)
              ∙ ap (λ o. option_or o (Some (fills_of r.current.attrs))) (shows_inside c true (subst (λ s. is_in_box s c ≡ true) box inside))
              ∙ ap (option_or (shown_at h r.current from to c)) (sym (ap fill_of_kind dense))
          each c false apart = refl

      -- so each array shows what its history shows
      shows_all : (dense : Bool) → r.frame.dense ≡ dense → ShowsAll
      shows_all true dense = shows_dense dense
      shows_all false sparse = shows_sparse sparse

    -- the answer of a read that got these versions is that of the history
    answer_is : (later : History) (query : Query) → frame_in later ≡ Some r.frame → current_schema later to ≡ Some r.current → ready_in r.frame (r.current).attrs query ≡ Ok r.ready
        → IsAnswer h later from to query (answer_of r schemas got)
    answer_is later query framed there is_ready =
        let dims = r.frame.domain in
        let asked = sym (ready_box r.frame r.current.attrs query r.ready is_ready) in
        let low = subst (λ (s : SubBox). length s.low ≡ length dims) asked (length-map dims (low_of query.sub)) in
        let high = subst (λ (s : SubBox). length s.high ≡ length s.low) asked (length-map dims (high_of query.sub) ∙ sym (length-map dims (low_of query.sub))) in
        let found = shows_all low high r.frame.dense refl in
        record {
          frame = r.frame;
          framed = framed;
          current = r.current;
          holds = there;
          ready = r.ready;
          is_ready = is_ready;
          cells = found.0;
          each = found.2;
          rows = found.1;
          types = refl;
        }

-- a read that got what it wants of fragments answers by the history without its clipped writes, where just the writes in the interval that are not clipped went into these
module _ (h : History) (from to : ℕ) (heads loads : List Head) (loaded_is : (k : Key) → is_within from to k ≡ true → list_any (has_origin k) loads ≡ not (is_clipped from to heads k))
    (sub : SubBox) (whole : List Version) (are : AreGot h from to sub loads whole) (r : Reading) (schemas : List Schema) (got : List Version)
    (uses : (c : List ℤ) → newest_at got c ≡ option_map (used_version r schemas) (newest_at whole c)) (box : (r.ready).sub ≡ sub)
    (known : (w : Written) → Contains (writes h) w → is_within from to w.key ≡ true → is_clipped from to heads w.key ≡ false → known_attrs r schemas w.schema ≡ attrs_with h w.schema)
    (deleted_in : (x : Deletion) → Contains r.deletions x → Contains (deletions h) x × (is_within from to x.key ≡ true))
    (all_deletions : (x : Deletion) → Contains (deletions h) x → is_within from to x.key ≡ true → Contains r.deletions x) where
  pub answer_left : (later : History) (query : Query) → frame_in later ≡ Some r.frame → current_schema later to ≡ Some r.current → ready_in r.frame (r.current).attrs query ≡ Ok r.ready
      → IsAnswer (without_clipped from to heads h) later from to query (answer_of r schemas got)
  answer_left =
      answer_is (without_clipped from to heads h) from to sub whole (λ c inside. are.inside c inside ∙ last_is_left from to heads loads loaded_is c h) are.outside r schemas got uses box known_left
      (λ x at. let is = deleted_in x at in (subst (λ xs. Contains xs x) (sym (same_deletions from to heads h)) is.0, is.1))
      (λ x at within. all_deletions x (subst (λ xs. Contains xs x) (same_deletions from to heads h) at) within)
    where
      not_false : (t : Bool) → not t ≡ true → t ≡ false
      not_false false e = refl
      not_false true e = sym e

      known_left : (w : Written) → Contains (writes (without_clipped from to heads h)) w → is_within from to w.key ≡ true → known_attrs r schemas w.schema ≡ attrs_with (without_clipped from to heads h) w.schema
      known_left w at within =
          let own = filter-Contains (λ u. not (is_clipped from to heads u.key)) (writes h) w (subst (λ ws. Contains ws w) (left_writes from to heads h) at) in
          known w own.0 within (not_false (is_clipped from to heads w.key) own.1) ∙ ap (λ ss. option_map_or (λ s. s.attrs) (find (λ s. key_eq s.key w.schema) ss) []) (sym (same_schemas from to heads h))
