-- Versions that took their places in a tree stand there as in the map of all of them.
use Rattle.std.proofs.Common.{◌≡◌, List, [], ◌∷◌, ◌++◌, map, length, refl, sym, ap, ◌∙◌, subst, arith}
use Rattle.std.specs.Prelude.{All}
use Rattle.std.specs.Map.{values_of}
use Rattle.std.specs.declared.cmp.Ordering.{Ordering}
use Rattle.std.specs.declared.cmp.Ordering.TheVariants.{Less, Equal, Greater}
use Rattle.std.specs.Ordering.{match_ordering}
use Rattle.std.specs.BTreeMap.{insert_entry}
use Rattle.std.specs.FinMap as finite
use Rattle.std.specs.FinMap.Entries.{by_order}
use Rattle.std.proofs.lemmas.List.{get_or_append_left, get_or_at, length_push, nil_from_length}
use Rattle.std.proofs.lemmas.List.Elements.{All-nil, All-head, All-tail, All-append}
use Rattle.std.proofs.lemmas.Map.Views.{All-values-insert_entry}
use Rattle.ts_base.specs.declared.heads.Version.{Version}
use Rattle.ts_schema.specs.declared.frames.Frame.{Frame}
use Rattle.ts_piece.specs.declared.spots.Spot.{Spot}
use Rattle.ts_piece.specs.Spots.{version_in, spotted, IsSpot}
use Rattle.ts_model.specs.declared.merging.VersionPlace.{VersionPlace}
use Rattle.ts_model.specs.Merging.{version_place_cmp, placed_of, in_version_order, all_got}
use Rattle.ts_model.proofs.UnionLaws.{version_total}
use Rattle.ts_consolidate.specs.Placing.{place_of, placed_behind}

-- an entry, with what its value is seen as
abbrev seen : {K X Y : Type 0} → (X → Y) → K × X → K × Y
seen f e = (e.0, f e.1)

-- an entry takes its place in a list as what it is seen as does in a map
seen_put : {K X Y : Type 0} (R : K → K → Ordering) (f : X → Y) (k : K) (x : X) (es : List (K × X)) → map (seen f) (insert_entry R es k x) ≡ finite.put R k (f x) (map (seen f) es)
seen_put R f k x [] = refl
seen_put R f k x (e ∷ es) =
    elim (R k e.0) as (λ r. map (seen f) (match_ordering r ((k, x) ∷ e ∷ es) ((e.0, x) ∷ es) (e ∷ insert_entry R es k x)) ≡ by_order r ((k, f x) ∷ seen f e ∷ map (seen f) es) ((e.0, f x) ∷ map (seen f) es) (seen f e ∷ finite.put R k (f x) (map (seen f) es))) [
      | Less ↦ refl
      | Equal ↦ refl
      | Greater ↦ ap (λ l. seen f e ∷ l) (seen_put R f k x es)
    ]

-- the values of entries, seen
seen_values : {K X Y : Type 0} (f : X → Y) (es : List (K × X)) → map f (values_of es) ≡ values_of (map (seen f) es)
seen_values f [] = refl
seen_values f (e ∷ es) = ap (λ l. f e.1 ∷ l) (seen_values f es)

module _ (frame : Frame) (batches : List (List Version)) where
  -- the version at the last spot takes its place first
  placed_last : (ss : List Spot) (s : Spot) (es : List (VersionPlace × Spot))
      → placed_behind frame batches (ss ++ s ∷ []) es ≡ placed_behind frame batches ss (insert_entry version_place_cmp es (place_of frame (version_in batches s)) s)
  placed_last [] s es = refl
  placed_last (x ∷ ss) s es = ap (λ l. insert_entry version_place_cmp l (place_of frame (version_in batches x)) x) (placed_last ss s es)

  -- one version more has taken its place
  pub placed_next : (ss left : List Spot) (s : Spot) (p : VersionPlace) (es new all : List (VersionPlace × Spot)) → ss ≡ left ++ s ∷ [] → p ≡ place_of frame (version_in batches s)
      → new ≡ insert_entry version_place_cmp es p s → placed_behind frame batches ss es ≡ all → placed_behind frame batches left new ≡ all
  placed_next ss left s p es new all split at put was =
      ap (placed_behind frame batches left) (put ∙ ap (λ q. insert_entry version_place_cmp es q s) at) ∙ sym (placed_last left s es) ∙ ap (λ l. placed_behind frame batches l es) (sym split) ∙ was

  -- all versions have taken their places
  placed_all : (ss : List Spot) → map (seen (version_in batches)) (placed_behind frame batches ss []) ≡ finite.entries (placed_of frame (spotted batches ss))
  unfolding placed_of
  placed_all [] =
      sym (nil_from_length (finite.entries (finite.empty {X = Version} {R = version_place_cmp})) (sym (finite.len-entries (finite.empty {X = Version} {R = version_place_cmp})) ∙ finite.len-empty version_place_cmp Version))
  placed_all (s ∷ ss) =
      seen_put version_place_cmp (version_in batches) (place_of frame (version_in batches s)) s (placed_behind frame batches ss [])
      ∙ ap (finite.put version_place_cmp (place_of frame (version_in batches s)) (version_in batches s)) (placed_all ss)
      ∙ sym (finite.entries-insert version_total (placed_of frame (spotted batches ss)) (place_of frame (version_in batches s)) (version_in batches s))

  -- those that took their places are all versions in order
  pub placed_in_order : (ss : List Spot) → spotted batches (values_of (placed_behind frame batches ss [])) ≡ in_version_order frame (spotted batches ss)
  placed_in_order ss = seen_values (version_in batches) (placed_behind frame batches ss []) ∙ ap values_of (placed_all ss)

  -- they stand where they stood
  pub placed_there : (ss : List Spot) → All (IsSpot batches) ss → All (IsSpot batches) (values_of (placed_behind frame batches ss []))
  placed_there [] all = All-nil (IsSpot batches)
  placed_there (s ∷ ss) all =
      All-values-insert_entry version_place_cmp (place_of frame (version_in batches s)) s (IsSpot batches) (placed_behind frame batches ss []) (placed_there ss (All-tail (IsSpot batches) s ss all)) (All-head (IsSpot batches) s ss all)

-- what holds of each of a list and of one more
pub all_but_last : {A : Type 0} (P : A → Type 0) (xs : List A) (x : A) → All P (xs ++ x ∷ []) → All P xs × P x
all_but_last P xs x all =
    let long = length_push xs x in (
      λ k d lt. subst P (get_or_append_left xs (x ∷ []) d k lt) (all k d (omega (arith, lt, long))),
      subst P (get_or_at xs x [] x (length xs) refl) (all (length xs) x (omega (arith, long))),
    )

-- what holds of each version of several lists holds of each of all
pub joined_all : (P : Version → Type 0) (lists : List (List Version)) → All (All P) lists → All P (all_got lists)
joined_all P [] all = All-nil P
joined_all P (vs ∷ lists) all = All-append P vs (all_got lists) (All-head (All P) vs lists all) (joined_all P lists (All-tail (All P) vs lists all))
