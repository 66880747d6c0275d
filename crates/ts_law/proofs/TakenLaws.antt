-- What a fetch takes of a piece: its versions in the interval and in the box, each with its whole row; the newest of a coordinate is that of the last origin there.
use Rattle.std.proofs.Common.{◌≡◌, ℕ, suc, zero, ℤ, Bool, true, false, cond, ◌&&◌, List, [], ◌∷◌, ◌++◌, Option, Some, None, length, refl, sym, ◌∙◌, ap, subst, arith}
use Rattle.std.specs.Prelude.{Contains, All, filter, find, option_map, map as list_map}
use Rattle.std.proofs.lemmas.Bool.{and_parts, and_from}
use Rattle.std.proofs.lemmas.List.Elements.{All-contains}
use Rattle.std.proofs.lemmas.Option.{same_Some, none-some}
use Rattle.ts_base.specs.declared.keys.Key.{Key}
use Rattle.ts_base.specs.declared.heads.Cell.{Cell}
use Rattle.ts_base.specs.declared.heads.Piece.{Piece}
use Rattle.ts_base.specs.declared.heads.Version.{Version}
use Rattle.ts_base.specs.declared.values.Val.{Val}
use Rattle.ts_base.specs.Keys.{key_eq, key_lt, greater, greatest, is_within}
use Rattle.ts_base.specs.Coords.{coords_eq}
use Rattle.ts_domain.specs.Boxes.{is_in_box}
use Rattle.ts_schema.specs.declared.attrs.Attr.{Attr}
use Rattle.ts_schema.specs.declared.wants.Want.{Want}
use Rattle.ts_schema.specs.Wants.{value_of, cut_row, cut, is_wanted, taken}
use Rattle.ts_commit.specs.Selections.{has_origin, keeps_last, is_usable}
use Rattle.ts_domain.specs.declared.boxes.SubBox.{SubBox}
use Rattle.ts_schema.specs.declared.frames.Frame.{Frame}
use Rattle.ts_schema.specs.declared.schemas.Schema.{Schema}
use Rattle.ts_model.specs.declared.deeds.Written.{Written}
use Rattle.ts_model.specs.declared.deeds.Deed.TheVariants.{Wrote}
use Rattle.ts_model.specs.Deeds.{History, IsHistory, row_at, RowFits, CellFits, frame_in, schema_with, writes}
use Rattle.ts_model.specs.Pieces.{version_at, version_of}
use Rattle.ts_model.specs.Queries.{places_from}
use Rattle.ts_model.specs.declared.states.Reading.{Reading}
use Rattle.ts_model.specs.States.{known_attrs, want_of, wanted}
use Rattle.ts_model.specs.Used.{places_used, used_row, uses_name}
use Rattle.ts_law.specs.Kept.{used_version}
use Rattle.ts_law.specs.Origins.{origins_of, last_of, last_version, newest_at, HoldsWrites}
use Rattle.ts_model.proofs.ListLemmas.{Contains-here, Contains-there, filter-Contains, find-filter}
use Rattle.ts_model.proofs.KeyLemmas.{key_same}
use Rattle.ts_model.proofs.HistoryLaws.{one_write, write_follows, frame_in-append, schema_with-append}
use Rattle.ts_model.proofs.Newest.{coords_same, version_key}
use Rattle.ts_law.proofs.NewestBy.{key_of_version, last_is, newest_by, newest_is_at}
use Rattle.ts_law.proofs.OriginLaws.{kept_of-is, key_there, reads_own, reads_last}

-- ---- rows that are left whole

-- the values behind the first one stand one place further
one_further : (x : Val) (row : List Val) (first count : ℕ) → list_map (value_of (x ∷ row)) (places_from (suc first) count) ≡ list_map (value_of row) (places_from first count)
one_further x row first zero = refl
one_further x row first (suc more) = ap (λ vs. value_of row first ∷ vs) (one_further x row (suc first) more)

-- the values at all places are the row
all_places : (row : List Val) → cut_row (places_from 0 (length row)) row ≡ row
all_places [] = refl
all_places (x ∷ row) = ap (λ vs. x ∷ vs) (one_further x row 0 (length row) ∙ all_places row)

-- a row that fits has a value for each attribute
fits_long : (attrs : List Attr) (row : List Val) → RowFits attrs row → length attrs ≡ length row
fits_long [] [] fit = refl
fits_long [] (v ∷ row) fit = absurd fit
fits_long (a ∷ attrs) [] fit = absurd fit
fits_long (a ∷ attrs) (v ∷ row) fit = ap suc (fits_long attrs row fit.2)

-- a row that fits is left whole
pub whole_row : (attrs : List Attr) (row : List Val) → RowFits attrs row → cut_row (places_from 0 (length attrs)) row ≡ row
whole_row attrs row fit = ap (λ n. cut_row (places_from 0 n) row) (fits_long attrs row fit) ∙ all_places row

-- ---- searches

-- a search among images
find-map : {X Y : Type 0} (p : Y → Bool) (f : X → Y) (xs : List X) → find p (list_map f xs) ≡ option_map f (find (λ x. p (f x)) xs)
find-map p f [] = refl
find-map p f (x ∷ xs) = elim (p (f x)) as (λ b. cond b (Some (f x)) (find p (list_map f xs)) ≡ option_map f (cond b (Some x) (find (λ y. p (f y)) xs))) [
  | true ↦ refl
  | false ↦ find-map p f xs
]

-- a search by two tests, of which the second tells the same of all that pass the first
find_both : {X : Type 0} (p q : X → Bool) (t : Bool) (xs : List X) → ((x : X) → p x ≡ true → q x ≡ t) → find (λ x. p x && q x) xs ≡ cond t (find p xs) None
find_both p q true [] same = refl
find_both p q false [] same = refl
find_both p q t (x ∷ xs) same = by_tests (find_both p q t xs same) (p x) refl
  where
    passes : (b : Bool) → find (λ y. p y && q y) xs ≡ cond b (find p xs) None → cond b (Some x) (find (λ y. p y && q y) xs) ≡ cond b (Some x) None
    passes true rest = refl
    passes false rest = rest

    by_tests : find (λ y. p y && q y) xs ≡ cond t (find p xs) None → (b : Bool) → p x ≡ b → cond (b && q x) (Some x) (find (λ y. p y && q y) xs) ≡ cond t (cond b (Some x) (find p xs)) None
    by_tests rest true passed = ap (λ b. cond b (Some x) (find (λ y. p y && q y) xs)) (same x passed) ∙ passes t rest
    by_tests rest false fails = rest

-- ---- what is taken

-- a version is wanted where its key lies in the interval and its coordinates in the box
version_wanted : (want : Want) (vs : List Version) (k : Key) (c : List ℤ) → version_at (filter (is_wanted want) vs) k c ≡ cond (is_within want.a want.b k && is_in_box want.sub c) (version_at vs k c) None
version_wanted want vs k c =
    find-filter (λ v. key_eq v.key k && coords_eq v.coords c) (is_wanted want) vs ∙ find_both (λ v. key_eq v.key k && coords_eq v.coords c) (is_wanted want) (is_within want.a want.b k && is_in_box want.sub c) vs same
  where
    same : (v : Version) → (key_eq v.key k && coords_eq v.coords c) ≡ true → is_wanted want v ≡ (is_within want.a want.b k && is_in_box want.sub c)
    same v passes =
        let parts = and_parts (key_eq v.key k) (coords_eq v.coords c) passes in
        λ i. is_within want.a want.b (key_same v.key k parts.0 i) && is_in_box want.sub (coords_same v.coords c parts.1 i)

-- so it is taken there
version_taken : (want : Want) (vs : List Version) (k : Key) (c : List ℤ)
    → version_at (taken want vs) k c ≡ option_map (cut want) (cond (is_within want.a want.b k && is_in_box want.sub c) (version_at vs k c) None)
version_taken want vs k c =
    find-map (λ v. key_eq v.key k && coords_eq v.coords c) (cut want) (filter (is_wanted want) vs) ∙ ap (option_map (cut want)) (version_wanted want vs k c)

-- the coordinates of versions that are cut are theirs
coords_cut : (want : Want) (vs : List Version) (c : List ℤ) → filter (λ v. coords_eq v.coords c) (list_map (cut want) vs) ≡ list_map (cut want) (filter (λ v. coords_eq v.coords c) vs)
coords_cut want [] c = refl
coords_cut want (v ∷ vs) c =
    ap (λ l. cond (coords_eq v.coords c) (cut want v ∷ l) l) (coords_cut want vs c)
    ∙ elim (coords_eq v.coords c) as (λ t. cond t (cut want v ∷ list_map (cut want) (filter (λ v. coords_eq v.coords c) vs)) (list_map (cut want) (filter (λ v. coords_eq v.coords c) vs))
    ≡ list_map (cut want) (cond t (v ∷ filter (λ v. coords_eq v.coords c) vs) (filter (λ v. coords_eq v.coords c) vs))) [ true ↦ refl | false ↦ refl ]

-- of two versions that are cut the same one is newer
newer_cut : (want : Want) (a b : Option Version) → greater version_key (option_map (cut want) a) (option_map (cut want) b) ≡ option_map (cut want) (greater version_key a b)
newer_cut want None b = refl
newer_cut want (Some v) None = refl
newer_cut want (Some v) (Some w) = elim (key_lt v.key w.key) as (λ t. Some (cond t (cut want w) (cut want v)) ≡ option_map (cut want) (Some (cond t w v))) [ true ↦ refl | false ↦ refl ]

-- so is the same one the greatest
greatest_cut : (want : Want) (vs : List Version) → greatest version_key (list_map (cut want) vs) ≡ option_map (cut want) (greatest version_key vs)
greatest_cut want [] = refl
greatest_cut want (v ∷ vs) = ap (greater version_key (Some (cut want v))) (greatest_cut want vs) ∙ newer_cut want (Some v) (greatest version_key vs)

-- and the newest at a coordinate
newest_cut : (want : Want) (vs : List Version) (c : List ℤ) → newest_at (list_map (cut want) vs) c ≡ option_map (cut want) (newest_at vs c)
newest_cut want vs c = ap (greatest version_key) (coords_cut want vs c) ∙ greatest_cut want (filter (λ v. coords_eq v.coords c) vs)

-- ---- the values that are used

module _ (r : Reading) where
  -- the values behind the first one stand one place further
  used_further : (x : Val) (row : List Val) (attrs : List Attr) (first : ℕ) → list_map (value_of (x ∷ row)) (places_used r (suc first) attrs) ≡ list_map (value_of row) (places_used r first attrs)
  used_further x row [] first = refl
  used_further x row (a ∷ attrs) first =
      by_use (used_further x row attrs (suc first)) (uses_name r a.name)
    where
      by_use : list_map (value_of (x ∷ row)) (places_used r (suc (suc first)) attrs) ≡ list_map (value_of row) (places_used r (suc first) attrs) → (u : Bool)
          → list_map (value_of (x ∷ row)) (cond u (suc first ∷ places_used r (suc (suc first)) attrs) (places_used r (suc (suc first)) attrs)) ≡ list_map (value_of row) (cond u (first ∷ places_used r (suc first) attrs) (places_used r (suc first) attrs))
      by_use rest true = ap (λ vs. value_of row first ∷ vs) rest
      by_use rest false = rest

  -- the values at the places that are used are those that are used
  at_used : (attrs : List Attr) (row : List Val) → length attrs ≡ length row → cut_row (places_used r 0 attrs) row ≡ used_row r attrs row
  at_used [] row long = refl
  at_used (a ∷ attrs) [] long = absurd (omega (arith, long))
  at_used (a ∷ attrs) (v ∷ row) long = by_use (used_further v row attrs 0 ∙ at_used attrs row (omega (arith, long))) (uses_name r a.name)
    where
      by_use : list_map (value_of (v ∷ row)) (places_used r 1 attrs) ≡ used_row r attrs row → (u : Bool)
          → list_map (value_of (v ∷ row)) (cond u (0 ∷ places_used r 1 attrs) (places_used r 1 attrs)) ≡ cond u (v ∷ used_row r attrs row) (used_row r attrs row)
      by_use rest true = ap (λ vs. v ∷ vs) rest
      by_use rest false = rest

-- the cell of a row
cell_of_row : (c : List ℤ) (cells : List Cell) (row : List Val) → row_at c cells ≡ Some row → (cell : Cell) × Contains cells cell × (cell.coords ≡ c) × (cell.row ≡ row)
cell_of_row c [] row found = absurd (none-some row found)
cell_of_row c (cell ∷ cells) row found = elim (coords_eq cell.coords c)
    as (λ b. coords_eq cell.coords c ≡ b → cond b (Some cell.row) (row_at c cells) ≡ Some row → (x : Cell) × Contains (cell ∷ cells) x × (x.coords ≡ c) × (x.row ≡ row)) [
      | true ↦ λ same h. (cell, Contains-here cell cells, coords_same cell.coords c same, same_Some cell.row row h)
      | false ↦ λ _ h. let later = cell_of_row c cells row h in (later.0, Contains-there cell cells later.0 later.1, later.2, later.3)
    ] refl found

-- the cells of a write fit the frame and its schema
cells_fit : (h : History) (w : Written) (frame : Frame) (s : Schema) → IsHistory h → Contains (writes h) w → frame_in h ≡ Some frame → schema_with h w.schema ≡ Some s
    → All (CellFits frame.domain s.attrs) w.cells
cells_fit h w frame s is at framed declared =
    let place = write_follows h w is at in
    let follows = place.3 in
    let later : h ≡ place.0 ++ Wrote w ∷ place.1 = place.2 in
    let one_frame : follows.frame ≡ frame = same_Some follows.frame frame (sym (frame_in-append place.0 (Wrote w ∷ place.1) follows.frame follows.framed) ∙ ap frame_in (sym later) ∙ framed) in
    let one_schema : follows.schema ≡ s = same_Some follows.schema s (sym (schema_with-append place.0 (Wrote w ∷ place.1) w.schema follows.schema follows.declared)
    ∙ ap (λ g. schema_with g w.schema) (sym later) ∙ declared) in
    subst (λ f. All (CellFits f.domain s.attrs) w.cells) one_frame (subst (λ t. All (CellFits (follows.frame).domain t.attrs) w.cells) one_schema follows.fit)

-- ---- the versions of a piece

-- the version that a row makes
abbrev made : Written → List ℤ → List Val → Version
made w c row = record { key = w.key; schema = w.schema; coords = c; row = row }

module _ (h : History) (is : IsHistory h) (frame : Frame) (framed : frame_in h ≡ Some frame) (s : Schema) (p : Piece) (declared : schema_with h p.head.schema ≡ Some s) (holds : HoldsWrites h p)
    (sub : SubBox) (a b : ℕ) where
  -- what a read wants of the piece
  abbrev want : Want
  want = wanted sub a b s.attrs

  -- a version of the piece is that of a write in its schema, whose cells fit
  written_at : (k : Key) (c : List ℤ) (v : Version) → version_at p.versions k c ≡ Some v → (w : Written) × (w.schema ≡ p.head.schema) × All (CellFits frame.domain s.attrs) w.cells × (version_of w c ≡ Some v)
  written_at k c v found =
      let of = kept_of-is (keeps_last p.head) (origins_of h p.head) k c v (sym (holds.versions k c) ∙ found) in
      let w = of.0 in
      let at = filter-Contains (λ u. has_origin u.key p.head) (writes h) w of.1 in
      let own = holds.origins w.key (key_there w.key p.head.origins at.1) in
      let schema : w.schema ≡ p.head.schema = ap (λ (u : Written). u.schema) (sym (one_write h own.0 w is own.1 at.0 own.2)) ∙ own.3 in
      (w, schema, cells_fit h w frame s is at.0 framed (ap (schema_with h) schema ∙ declared), of.2)

  -- a version of the piece is left whole
  whole_version : (k : Key) (c : List ℤ) (v : Version) → version_at p.versions k c ≡ Some v → cut want v ≡ v
  whole_version k c v found =
      let of = written_at k c v found in
      by_row of.0 of.2 (row_at c of.0.cells) refl of.3
    where
      by_row : (w : Written) → All (CellFits frame.domain s.attrs) w.cells → (o : Option (List Val)) → row_at c w.cells ≡ o → option_map (made w c) o ≡ Some v → cut want v ≡ v
      by_row w fit None there is_made = absurd (none-some v is_made)
      by_row w fit (Some row) there is_made =
          let cell = cell_of_row c w.cells row there in
          let fits = All-contains (CellFits frame.domain s.attrs) w.cells cell.0 fit cell.1 in
          let whole : cut want (made w c row) ≡ made w c row = ap (made w c) (whole_row s.attrs row (subst (RowFits s.attrs) cell.3 fits.row)) in
          subst (λ x. cut want x ≡ x) (same_Some (made w c row) v is_made) whole

  -- what is taken at a key and a coordinate is what the piece has there, where it is wanted
  taken_at : (k : Key) (c : List ℤ) → version_at (taken want p.versions) k c ≡ cond (is_within a b k && is_in_box sub c) (version_at p.versions k c) None
  taken_at k c = version_taken want p.versions k c ∙ by (is_within a b k && is_in_box sub c) (version_at p.versions k c) refl
    where
      by : (t : Bool) (o : Option Version) → version_at p.versions k c ≡ o → option_map (cut want) (cond t o None) ≡ cond t o None
      by true None found = refl
      by true (Some v) found = ap Some (whole_version k c v found)
      by false o found = refl

  -- outside the box nothing is taken
  pub none_taken : (c : List ℤ) → is_in_box sub c ≡ false → newest_at (taken want p.versions) c ≡ None
  none_taken c outside = by (newest_at (taken want p.versions) c) refl
    where
      fails : (t : Bool) (o : Option Version) (v : Version) → cond (t && false) o None ≡ Some v → ⊥
      fails true o v e = none-some v e
      fails false o v e = none-some v e

      by : (o : Option Version) → newest_at (taken want p.versions) c ≡ o → o ≡ None
      by None newest = refl
      by (Some v) newest =
          absurd (fails (is_within a b v.key) (version_at p.versions v.key c) v (ap (λ t. cond (is_within a b v.key && t) (version_at p.versions v.key c) None) (sym outside)
          ∙ sym (taken_at v.key c) ∙ newest_is_at (taken want p.versions) c v newest))

  -- in the box the newest version that is taken is that of the last origin in the interval
  module _ (usable : is_usable a b p.head ≡ true) (c : List ℤ) (inside : is_in_box sub c ≡ true) where
    -- the origins in the interval
    abbrev wrote : List Written
    wrote = filter (λ w. is_within a b w.key) (origins_of h p.head)

    -- a version that is taken is that of one of them
    of_write : (v : Version) → version_at (taken want p.versions) v.key c ≡ Some v → (w : Written) × Contains wrote w × (version_of w c ≡ Some v)
    of_write v found = by (is_within a b v.key && is_in_box sub c) refl (sym (taken_at v.key c) ∙ found)
      where
        by : (t : Bool) → (is_within a b v.key && is_in_box sub c) ≡ t → cond t (version_at p.versions v.key c) None ≡ Some v → (w : Written) × Contains wrote w × (version_of w c ≡ Some v)
        by true tests e = reads_own h is p holds a b usable c v (and_parts (is_within a b v.key) (is_in_box sub c) tests).0 e
        by false tests e = absurd (none-some v e)

    -- the version of the last one is taken
    has_last : (w : Written) (v : Version) → last_of wrote c ≡ Some w → version_of w c ≡ Some v → version_at (taken want p.versions) v.key c ≡ Some v
    has_last w v last is_made =
        let of = filter-Contains (λ u. is_within a b u.key) (origins_of h p.head) w (last_is wrote c w last).0 in
        let within : is_within a b v.key ≡ true = subst (λ k. is_within a b k ≡ true) (sym (key_of_version w c v is_made)) of.1 in
        taken_at v.key c
        ∙ ap (λ t. cond t (version_at p.versions v.key c) None) (and_from (is_within a b v.key) (is_in_box sub c) within inside)
        ∙ reads_last h is p holds a b usable c w v last is_made

    pub newest_taken : newest_at (taken want p.versions) c ≡ last_version wrote c
    newest_taken = newest_by (taken want p.versions) wrote c of_write has_last

-- ---- what a read takes

module _ (h : History) (is : IsHistory h) (frame : Frame) (framed : frame_in h ≡ Some frame) (s : Schema) (p : Piece) (declared : schema_with h p.head.schema ≡ Some s) (holds : HoldsWrites h p)
    (r : Reading) (schemas : List Schema) (known : known_attrs r schemas p.head.schema ≡ s.attrs) where
  -- the versions that it wants, with all their values
  abbrev all : Want
  all = wanted r.ready.sub r.from r.to s.attrs

  -- a version of the piece has the values that the read wants where it has those that it uses
  used_cut : (k : Key) (c : List ℤ) (v : Version) → version_at p.versions k c ≡ Some v → cut (want_of r s.attrs) v ≡ used_version r schemas v
  used_cut k c v found =
      let of = written_at h is frame framed s p declared holds r.ready.sub r.from r.to k c v found in
      by_row of.0 of.1 of.2 (row_at c of.0.cells) refl of.3
    where
      by_row : (w : Written) → w.schema ≡ p.head.schema → All (CellFits frame.domain s.attrs) w.cells → (o : Option (List Val)) → row_at c w.cells ≡ o → option_map (made w c) o ≡ Some v → cut (want_of r s.attrs) v ≡ used_version r schemas v
      by_row w schema fit None there is_made = absurd (none-some v is_made)
      by_row w schema fit (Some row) there is_made =
          let cell = cell_of_row c w.cells row there in
          let fits = All-contains (CellFits frame.domain s.attrs) w.cells cell.0 fit cell.1 in
          let attrs : known_attrs r schemas w.schema ≡ s.attrs = ap (known_attrs r schemas) schema ∙ known in
          let same : cut (want_of r s.attrs) (made w c row) ≡ used_version r schemas (made w c row) =
          ap (made w c) (at_used r s.attrs row (fits_long s.attrs row (subst (RowFits s.attrs) cell.3 fits.row)) ∙ ap (λ l. used_row r l row) (sym attrs)) in
          subst (λ x. cut (want_of r s.attrs) x ≡ used_version r schemas x) (same_Some (made w c row) v is_made) same

  -- so it takes of the newest version what it uses
  pub newest_used : (c : List ℤ) → newest_at (taken (want_of r s.attrs) p.versions) c ≡ option_map (used_version r schemas) (newest_at (taken all p.versions) c)
  newest_used c =
      newest_cut (want_of r s.attrs) (filter (is_wanted all) p.versions) c ∙ by (newest_at (filter (is_wanted all) p.versions) c) refl ∙ ap (option_map (used_version r schemas)) (sym (newest_cut all (filter (is_wanted all) p.versions) c))
    where
      there : (v : Version) (t : Bool) → cond t (version_at p.versions v.key c) None ≡ Some v → version_at p.versions v.key c ≡ Some v
      there v true e = e
      there v false e = absurd (none-some v e)

      by : (o : Option Version) → newest_at (filter (is_wanted all) p.versions) c ≡ o → option_map (cut (want_of r s.attrs)) o ≡ option_map (used_version r schemas) (option_map (cut all) o)
      by None newest = refl
      by (Some v) newest =
          let at = there v (is_within r.from r.to v.key && is_in_box r.ready.sub c) (sym (version_wanted all p.versions v.key c) ∙ newest_is_at (filter (is_wanted all) p.versions) c v newest) in
          ap Some (used_cut v.key c v at ∙ ap (used_version r schemas) (sym (whole_version h is frame framed s p declared holds r.ready.sub r.from r.to v.key c v at)))
