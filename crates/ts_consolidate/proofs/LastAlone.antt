-- The last version of each cell, where those of one cell are neighbours: one place after another.
use Rattle.std.proofs.Common.{◌≡◌, ℕ, ◌+◌, ◌<◌, ◌≤◌, true, false, not, List, [], ◌∷◌, ◌++◌, length, drop, get_or, refl, sym, ap, ◌∙◌, append_assoc, arith}
use Rattle.std.proofs.lemmas.List.{drop_more, drop_all, get_or-map, length-map, map-append}
use Rattle.ts_base.specs.declared.heads.Version.{Version}
use Rattle.ts_base.specs.Coords.{coords_eq}
use Rattle.ts_piece.specs.declared.spots.Spot.{Spot}
use Rattle.ts_piece.specs.Spots.{version_in, spotted}
use Rattle.ts_table.specs.Tables.{no_version, version_or}
use Rattle.ts_consolidate.specs.Placing.{is_last, last_alone}

-- what is behind a place
rest_at : (vs : List Version) (place : ℕ) → place < length vs → drop place vs ≡ version_or vs place ∷ drop (place + 1) vs
rest_at vs place within = drop_more vs place no_version within

-- one version is kept, or none
last_kept : (vs : List Version) (place : ℕ) → place < length vs → is_last (version_or vs place) (drop (place + 1) vs) ≡ true → last_alone (drop place vs) ≡ version_or vs place ∷ last_alone (drop (place + 1) vs)
last_kept vs place within last = rw (rest_at vs place within, last) refl

last_left : (vs : List Version) (place : ℕ) → place < length vs → is_last (version_or vs place) (drop (place + 1) vs) ≡ false → last_alone (drop place vs) ≡ last_alone (drop (place + 1) vs)
last_left vs place within last = rw (rest_at vs place within, last) refl

module _ (batches : List (List Version)) (spots : List Spot) where
  -- the version at a place
  pub here_at : (place : ℕ) (s d : Spot) → place < length spots → s ≡ get_or spots place d → version_or (spotted batches spots) place ≡ version_in batches s
  here_at place s d within is = get_or-map (version_in batches) spots place d no_version within ∙ ap (version_in batches) (sym is)

  within_all : (place : ℕ) → place < length spots → place < length (spotted batches spots)
  within_all place within = omega (arith, within, length-map spots (version_in batches))

  -- whether the one at the next place stands at another cell
  pub last_before : (place : ℕ) (s d : Spot) (v : Version) → place < length spots → s ≡ get_or spots place d → is_last v (drop place (spotted batches spots)) ≡ not (coords_eq v.coords (version_in batches s).coords)
  last_before place s d v within is =
      ap (is_last v) (rest_at (spotted batches spots) place (within_all place within)) ∙ ap (λ (w : Version). not (coords_eq v.coords w.coords)) (here_at place s d within is)

  pub last_of_all : (place : ℕ) (v : Version) → length spots ≤ place → is_last v (drop place (spotted batches spots)) ≡ true
  last_of_all place v past = ap (is_last v) (drop_all place (spotted batches spots) (omega (arith, past, length-map spots (version_in batches))))

  -- one version more was kept
  pub kept_on : (list more : List Spot) (place : ℕ) (s d : Spot) → place < length spots → s ≡ get_or spots place d → is_last (version_or (spotted batches spots) place) (drop (place + 1) (spotted batches spots)) ≡ true → more ≡ list ++ s ∷ []
      → spotted batches list ++ last_alone (drop place (spotted batches spots)) ≡ last_alone (spotted batches spots) → spotted batches more ++ last_alone (drop (place + 1) (spotted batches spots)) ≡ last_alone (spotted batches spots)
  kept_on list more place s d within is last put was =
      let vs = spotted batches spots in
      let rest = last_alone (drop (place + 1) vs) in
      ap (λ xs. xs ++ rest) (ap (spotted batches) put ∙ map-append (version_in batches) list (s ∷ [])) ∙ append_assoc (spotted batches list) (version_in batches s ∷ []) rest
      ∙ ap (λ (w : Version). spotted batches list ++ w ∷ rest) (sym (here_at place s d within is)) ∙ ap (λ xs. spotted batches list ++ xs) (sym (last_kept vs place (within_all place within) last)) ∙ was

  -- none was kept
  pub left_on : (list same : List Spot) (place : ℕ) → place < length spots → is_last (version_or (spotted batches spots) place) (drop (place + 1) (spotted batches spots)) ≡ false → same ≡ list
      → spotted batches list ++ last_alone (drop place (spotted batches spots)) ≡ last_alone (spotted batches spots) → spotted batches same ++ last_alone (drop (place + 1) (spotted batches spots)) ≡ last_alone (spotted batches spots)
  left_on list same place within last put was =
      let vs = spotted batches spots in
      ap (λ (ss : List Spot). spotted batches ss ++ last_alone (drop (place + 1) vs)) put ∙ ap (λ xs. spotted batches list ++ xs) (sym (last_left vs place (within_all place within) last)) ∙ was
