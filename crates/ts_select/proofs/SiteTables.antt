-- The table of the coordinates of versions at some places.
use Rattle.std.proofs.Common.{◌≡◌, ℕ, ◌<◌, ◌≤◌, ℤ, pos, List, [], ◌∷◌, length, map, get_or, replicate, refl, sym, ap, ◌∙◌, subst, arith}
use Rattle.std.specs.Option.{option_map}
use Rattle.std.specs.Prelude.{IsTrue}
use Rattle.std.specs.List.{All, range_with_len}
use Rattle.std.specs.List.Sorted.{IsPermutation}
use Rattle.std.proofs.lemmas.List.{same_lists, length-map, length-replicate, get_or-map, get_or-replicate}
use Rattle.std.proofs.lemmas.List.Elements.{All-nil, All-map}
use Rattle.std.proofs.lemmas.List.FromFn.{fill_by_all, length-range_with_len}
use Rattle.std.proofs.lemmas.Option.{slice_get-map, slice_get-get_or}
use Rattle.std.proofs.lemmas.List.Sorted.{All-permutation, IsPermutation-map}
use Rattle.ts_base.specs.declared.heads.Version.{Version}
use Rattle.ts_base.specs.declared.values.Val.{Val}
use Rattle.ts_domain.specs.declared.dims.Dim.{Dim}
use Rattle.ts_domain.specs.Domains.{is_in_domain}
use Rattle.ts_table.specs.declared.origins.Origin.{Origin}
use Rattle.ts_table.specs.Tables.{across, no_version, version_or, versions_from, IsTable}
use Rattle.ts_table.proofs.Tables.{versions-length, version_is, across_first}
use Rattle.ts_select.specs.Sites.{numbers_at}
use Rattle.ts_select.proofs.Ranges.{range_within}

module _ (versions : List Version) (places : List ℕ) where
  -- the coordinates of the version at a place
  abbrev at : ℕ → List ℤ
  at place = (version_or versions place).coords

  -- each is named by the one origin
  abbrev named : List ℕ
  named = replicate (length places) 0

  named_long : length named ≡ length places
  named_long = length-replicate (length places) 0

  -- what stands at an index of the columns of these dimensions
  numbers_across : (k : ℕ) → k < length places → (dims : List ℕ) → across k (map (numbers_at versions places) dims) ≡ map (λ dim. get_or (at (get_or places k 0)) dim (pos 0)) dims
  numbers_across k within [] = refl
  numbers_across k within (dim ∷ dims) =
      let number : ℕ → ℤ = λ place. get_or (at place) dim (pos 0) in
      let there = slice_get-map number places k ∙ ap (option_map number) (slice_get-get_or places k 0 within) in
      across_first k (numbers_at versions places dim) (map (numbers_at versions places) dims) (number (get_or places k 0)) there
      ∙ ap (λ xs. number (get_or places k 0) ∷ xs) (numbers_across k within dims)

  -- versions with the coordinates of those at the places are as many
  pub sites_many : (sites : List Version) → map (λ (v : Version). v.coords) sites ≡ map at places → length sites ≡ length places
  sites_many sites are = sym (length-map sites (λ (v : Version). v.coords)) ∙ ap length are ∙ length-map places at

  -- and they lie in the domain where those do
  pub sites_inside : (dims : List Dim) (sites : List Version) → map (λ (v : Version). v.coords) sites ≡ map at places → All (λ (v : Version). IsTrue (is_in_domain dims v.coords)) versions
      → All (λ place. place < length versions) places → All (λ (v : Version). IsTrue (is_in_domain dims v.coords)) sites
  sites_inside dims sites are inside within k d below =
      let coords : Version → List ℤ = λ v. v.coords in
      let here : k < length places = omega (arith, below, sites_many sites are) in
      let place = get_or places k 0 in
      let is : (get_or sites k d).coords ≡ at place = sym (get_or-map coords sites k d [] below) ∙ ap (λ (cs : List (List ℤ)). get_or cs k []) are ∙ get_or-map at places k 0 [] here in
      subst (λ (c : List ℤ). IsTrue (is_in_domain dims c)) (sym is) (inside place no_version (within k 0 here))

  -- the places at all indices, in another order, are the places in another order
  pub places_moved : (count : ℕ) (order : List ℕ) → count ≡ length places → IsPermutation (range_with_len 0 count) order → IsPermutation places (map (λ index. get_or places index 0) order)
  places_moved count order many each =
      let place : ℕ → ℕ = λ index. get_or places index 0 in
      subst (λ ps. IsPermutation ps (map place order)) (sym (fill_by_all place places count 0 (sym many) (λ k below. refl))) (IsPermutation-map place (range_with_len 0 count) order each)

  -- the indices are those of places
  pub indices_within : (count : ℕ) (order : List ℕ) → count ≡ length places → IsPermutation (range_with_len 0 count) order → All (λ index. index < length places) order
  indices_within count order many each =
      let within : All (λ index. index < length places) (range_with_len 0 count) = subst (λ (n : ℕ). All (λ index. index < n) (range_with_len 0 count)) many (range_within count) in
      All-permutation (λ index. index < length places) (range_with_len 0 count) order each within

  module _ (count : ℕ) (columns : List (List ℤ)) (are : columns ≡ map (numbers_at versions places) (range_with_len 0 count)) where
    -- the columns make a table
    pub sites_table : (origin : Origin) → 1 ≤ count → count ≤ 8 → IsTable (origin ∷ []) columns [] named
    sites_table origin some few =
        let many : length columns ≡ count = ap length are ∙ length-map (range_with_len 0 count) (numbers_at versions places) ∙ length-range_with_len 0 count in
        record {
          some = omega (arith, many, some);
          room = omega (arith, many, few);
          named = λ k d within. subst (λ (n : ℕ). n < 1) (sym (get_or-replicate (length places) k 0 d (omega (arith, within, named_long)))) (omega arith);
          dims_long = subst (λ (cs : List (List ℤ)). All (λ (column : List ℤ). length column ≡ length named) cs) (sym are)
              (All-map (λ (column : List ℤ). length column ≡ length named) (numbers_at versions places) (range_with_len 0 count)
              (λ k d within. length-map places (λ place. get_or (at place) (get_or (range_with_len 0 count) k d) (pos 0)) ∙ sym named_long));
          attrs_long = All-nil (λ (column : List Val). length column ≡ length named);
        }

    -- its versions have the coordinates of the versions at the places
    pub sites_coords : (origin : Origin) → All (λ (v : Version). length v.coords ≡ count) versions → All (λ place. place < length versions) places
        → map (λ (v : Version). v.coords) (versions_from (origin ∷ []) columns [] 0 named) ≡ map at places
    sites_coords origin wide inside =
        let made = versions_from (origin ∷ []) columns [] 0 named in
        let coords : Version → List ℤ = λ v. v.coords in
        let long : length made ≡ length places = versions-length (origin ∷ []) columns [] 0 named ∙ named_long in
        same_lists (map coords made) (map at places) (length-map made coords ∙ long ∙ sym (length-map places at)) (λ k d within.
        let here : k < length places = omega (arith, within, length-map made coords, long) in
        let low : k < length named = omega (arith, here, named_long) in
        let place = get_or places k 0 in
        get_or-map coords made k no_version d (omega (arith, here, long))
        ∙ ap coords (version_is (origin ∷ []) columns [] named k 0 low)
        ∙ ap (across k) are ∙ numbers_across k here (range_with_len 0 count)
        ∙ sym (fill_by_all (λ dim. get_or (at place) dim (pos 0)) (at place) count (pos 0) (wide place no_version (inside k 0 here)) (λ i below. refl))
        ∙ sym (get_or-map at places k 0 d here))
