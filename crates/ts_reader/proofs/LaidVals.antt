-- What versions in strips show, and the fills between them.
use Rattle.std.proofs.Common.{◌≡◌, ℕ, zero, suc, ◌+◌, ◌-◌, ◌<◌, ◌≤◌, List, [], ◌∷◌, ◌++◌, length, map, get_or, take, drop, replicate, Some, None, refl, sym, ap, subst, ◌∙◌, arith}
use Rattle.std.specs.Prelude.{slice_get}
use Rattle.std.specs.Option.{option_map_or}
use Rattle.std.proofs.lemmas.List.{same_lists, get_or-drop, length-drop, length-map, get_or-map, map-append, drop_more, take_more}
use Rattle.std.proofs.lemmas.Option.{slice_get-get_or}
use Rattle.ts_base.specs.declared.heads.Version.{Version}
use Rattle.ts_base.specs.declared.keys.Key.{Key}
use Rattle.ts_base.specs.declared.values.Val.{Val}
use Rattle.ts_model.specs.declared.states.Reading.{Reading}
use Rattle.ts_model.specs.States.{attrs_got}
use Rattle.ts_schema.specs.declared.attrs.Attr.{Attr}
use Rattle.ts_schema.specs.declared.schemas.Schema.{Schema}
use Rattle.ts_strip.specs.declared.strips.Strip.{Strip}
use Rattle.ts_domain.specs.declared.boxes.SubBox.{SubBox}
use Rattle.ts_domain.specs.declared.orders.Order.{Order}
use Rattle.ts_order.specs.Orders.{coords_in_order}
use Rattle.ts_strip.specs.Strips.{strip_versions, Climb}
use Rattle.ts_table.specs.declared.origins.Origin.{Origin}
use Rattle.ts_table.specs.BoxTables.{versions_over}
use Rattle.ts_table.proofs.BoxTables.{version_over}
use Rattle.ts_table.specs.Tables.{HasVals, no_version, version_or}
use Rattle.ts_reader.specs.Laid.{laid}
use Rattle.ts_reader.specs.Shown.{slot_val, slot_vals, version_val, version_vals}
use Rattle.ts_reader.specs.Sources.{place_in, val_there}
use Rattle.ts_reader.proofs.Places.{shown_there}

pub map_take : {X Y : Type 0} (f : X → Y) (n : ℕ) (xs : List X) → map f (take n xs) ≡ take n (map f xs)
map_take f zero xs = refl
map_take f (suc n) [] = refl
map_take f (suc n) (x ∷ xs) = ap (λ ys. f x ∷ ys) (map_take f n xs)

-- the next strip begins behind the others
pub next_of : (strips : List Strip) (i at cells : ℕ) (d : Strip) → i < length strips → Climb at (drop i strips) cells
    → (at ≤ (get_or strips i d).start) × Climb ((get_or strips i d).start + (get_or strips i d).count) (drop (i + 1) strips) cells
next_of strips i at cells d within climb = subst (λ l. Climb at l cells) (drop_more strips i d within) climb

-- all versions over a box are written in one schema
pub one_schema : (versions : List Version) (o : Origin) (attrs : List (List Val)) (order : Order) (sub : SubBox) → versions ≡ versions_over o attrs 0 (coords_in_order order sub)
    → (i : ℕ) → i < length versions → (version_or versions i).schema ≡ o.schema
one_schema versions o attrs order sub made i within =
    ap (λ vs. (version_or vs i).schema) made ∙ (version_over o attrs order sub i (subst (λ vs. i < length vs) made within)).1

module _ (r : Reading) (schemas : List Schema) (a : Attr) where
  fills : (n : ℕ) → map (slot_val r schemas a) (replicate n None) ≡ replicate n a.fill
  fills n = same n
    where
      same : (n : ℕ) → map (slot_val r schemas a) (replicate n None) ≡ replicate n a.fill
      same zero = refl
      same (suc n) = ap (λ vs. a.fill ∷ vs) (same n)

  shown : (vs : List Version) → map (slot_val r schemas a) (map Some vs) ≡ version_vals r schemas vs a
  shown [] = refl
  shown (v ∷ vs) = ap (λ vals. version_val r schemas a v ∷ vals) (shown vs)

  -- one strip more
  pub laid_more : (batches : List (List Version)) (at : ℕ) (s : Strip) (strips : List Strip) (cells : ℕ)
      → slot_vals r schemas (laid batches at (s ∷ strips) cells) a ≡ replicate (s.start - at) a.fill ++ (version_vals r schemas (strip_versions batches s) a ++ slot_vals r schemas (laid batches (s.start + s.count) strips cells) a)
  laid_more batches at s strips cells =
      let own = map Some (strip_versions batches s) in
      let behind = laid batches (s.start + s.count) strips cells in
      map-append (slot_val r schemas a) (replicate (s.start - at) None) (own ++ behind)
      ∙ ap (λ vs. vs ++ map (slot_val r schemas a) (own ++ behind)) (fills (s.start - at))
      ∙ ap (λ vs. replicate (s.start - at) a.fill ++ vs) (map-append (slot_val r schemas a) own behind ∙ ap (λ vs. vs ++ map (slot_val r schemas a) behind) (shown (strip_versions batches s)))

  -- no strip more
  pub laid_end : (batches : List (List Version)) (at cells : ℕ) → slot_vals r schemas (laid batches at [] cells) a ≡ replicate (cells - at) a.fill
  laid_end batches at cells = fills (cells - at)

  -- a column that has the values at the attribute's place has what versions of one schema show
  pub column_shows : (versions : List Version) (key : Key) (place : ℕ) (column : List Val)
      → ((i : ℕ) → i < length versions → (version_or versions i).schema ≡ key) → Some place ≡ place_in (attrs_got r schemas key) a → HasVals versions place column
      → column ≡ version_vals r schemas versions a
  column_shows versions key place column one there has =
      same_lists column (version_vals r schemas versions a) (has.long ∙ sym (length-map versions (version_val r schemas a)))
      (λ i d within.
      let here : i < length versions = omega (arith, within, has.long) in
      let v = version_or versions i in
      let got : slice_get v.row place ≡ Some (get_or column i d) = has.there i here ∙ slice_get-get_or column i d within in
      let shows : val_there (Some place) v.row a ≡ version_val r schemas a v =
      ap (λ p. val_there p v.row a) there ∙ shown_there a v.row (attrs_got r schemas key) ∙ ap (λ k. version_val r schemas a (record { key = v.key; schema = k; coords = v.coords; row = v.row })) (sym (one i here)) in
      sym (ap (λ o. option_map_or (λ (val : Val). val) o a.fill) got) ∙ shows ∙ sym (get_or-map (version_val r schemas a) versions i no_version d here))

  -- one version more of a part
  pub part_more : (versions : List Version) (from step count : ℕ) → from + count ≤ length versions → step < count
      → version_vals r schemas (take (step + 1) (drop from versions)) a ≡ version_vals r schemas (take step (drop from versions)) a ++ version_val r schemas a (version_or versions (from + step)) ∷ []
  part_more versions from step count many within =
      let long = length-drop from versions in
      ap (λ vs. version_vals r schemas vs a) (take_more (drop from versions) step no_version (omega (arith, many, within, long)) ∙ ap (λ v. take step (drop from versions) ++ v ∷ []) (get_or-drop from versions step no_version))
      ∙ map-append (version_val r schemas a) (take step (drop from versions)) (version_or versions (from + step) ∷ [])
