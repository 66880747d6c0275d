-- Where the values of an attribute stand in rows, and what they show.
use Rattle.std.proofs.Common.{◌≡◌, ℕ, ◌+◌, ◌<◌, ◌≤◌, ◌⊎◌, inl, inr, Bool, true, false, cond, List, [], ◌∷◌, length, drop, get_or, Option, Some, map, refl, sym, ap, ◌∙◌, arith}
use Rattle.std.specs.List.{position_from}
use Rattle.std.specs.Option.{option_map_or}
use Rattle.std.proofs.lemmas.Bool.{cases_lt}
use Rattle.std.proofs.lemmas.List.{drop_all, drop_more}
use Rattle.std.proofs.lemmas.Option.{slice_get-get_or, slice_get_past}
use Rattle.ts_base.specs.declared.values.Val.{Val}
use Rattle.ts_base.specs.declared.values.Val.TheVariants.{Null}
use Rattle.ts_schema.specs.declared.attrs.Attr.{Attr}
use Rattle.ts_schema.specs.declared.schemas.Schema.{Schema}
use Rattle.ts_schema.specs.Attrs.{agrees, shown_val}
use Rattle.ts_model.specs.declared.deeds.Deletion.{Deletion}
use Rattle.ts_model.specs.declared.states.Reading.{Reading}
use Rattle.ts_model.specs.Used.{used_attrs}
use Rattle.ts_reader.specs.Deletes.{binding_of}
use Rattle.ts_reader.specs.Sources.{place_in, val_there}

-- ---- the value there

no_value : (attrs : List Attr) (wanted : Attr) → shown_val attrs [] wanted ≡ wanted.fill
no_value [] wanted = refl
no_value (a ∷ attrs) wanted = refl

module _ (wanted : Attr) (row : List Val) where
  -- where attributes so far are left out
  shown_from : (i : ℕ) (attrs : List Attr) → val_there (position_from (λ (b : Attr). agrees b wanted) i attrs) row wanted ≡ shown_val attrs (drop i row) wanted
  shown_from i [] = refl
  shown_from i (a ∷ attrs) = by_end (cases_lt i (length row)) (shown_from (i + 1) attrs)
    where
      rest : Option ℕ
      rest = position_from (λ (b : Attr). agrees b wanted) (i + 1) attrs

      within_row : i < length row → val_there rest row wanted ≡ shown_val attrs (drop (i + 1) row) wanted → (b : Bool) → val_there (cond b (Some i) rest) row wanted ≡ cond b (get_or row i Null) (shown_val attrs (drop (i + 1) row) wanted)
      within_row within further true = ap (λ o. option_map_or (λ (val : Val). val) o wanted.fill) (slice_get-get_or row i Null within)
      within_row within further false = further

      past_row : length row ≤ i → val_there rest row wanted ≡ shown_val attrs (drop (i + 1) row) wanted → (b : Bool) → val_there (cond b (Some i) rest) row wanted ≡ wanted.fill
      past_row past further true = ap (λ o. option_map_or (λ (val : Val). val) o wanted.fill) (slice_get_past row i past)
      past_row past further false = further ∙ ap (λ vals. shown_val attrs vals wanted) (drop_all (i + 1) row (omega (arith, past))) ∙ no_value attrs wanted

      by_end : (i < length row) ⊎ (length row ≤ i) → val_there rest row wanted ≡ shown_val attrs (drop (i + 1) row) wanted
          → val_there (cond (agrees a wanted) (Some i) rest) row wanted ≡ shown_val (a ∷ attrs) (drop i row) wanted
      by_end (inl within) further = within_row within further (agrees a wanted) ∙ sym (ap (λ vals. shown_val (a ∷ attrs) vals wanted) (drop_more row i Null within))
      by_end (inr past) further = past_row past further (agrees a wanted) ∙ sym (ap (λ vals. shown_val (a ∷ attrs) vals wanted) (drop_all i row past))

  -- the value at the place of the first attribute that agrees is the one that is shown
  pub shown_there : (attrs : List Attr) → val_there (place_in attrs wanted) row wanted ≡ shown_val attrs row wanted
  shown_there attrs = shown_from 0 attrs

-- ---- for each further schema

-- the places in rows of bindings of schemas are those in rows of the schemas
pub places_bound : (r : Reading) (erased : List Deletion) (wanted : Attr) (schemas : List Schema)
    → map (λ b. place_in b.attrs wanted) (map (λ s. binding_of erased (used_attrs r s.attrs)) schemas) ≡ map (λ s. place_in (used_attrs r s.attrs) wanted) schemas
places_bound r erased wanted [] = refl
places_bound r erased wanted (s ∷ schemas) = ap (λ ps. place_in (used_attrs r s.attrs) wanted ∷ ps) (places_bound r erased wanted schemas)
