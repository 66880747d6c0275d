-- A fetch that wants all of a piece takes its versions as they are, so what is made of what was got is what the pieces are merged into.
use Rattle.std.proofs.Common.{◌≡◌, ℕ, ◌-◌, ◌^◌, true, cond, inl, inr, List, [], ◌∷◌, refl, sym, ◌∙◌, ap, arith}
use Rattle.std.specs.Prelude.{IsTrue, Contains, All, nat_le, filter, map as list_map}
use Rattle.std.specs.List.{AllByRecursion}
use Rattle.std.proofs.lemmas.Bool.{and_from, le-leb}
use Rattle.std.proofs.lemmas.List.Elements.{All-contains, All-head, All-tail}
use Rattle.ts_base.specs.declared.keys.Key.{Key}
use Rattle.ts_base.specs.declared.heads.Piece.{Piece}
use Rattle.ts_base.specs.declared.heads.Version.{Version}
use Rattle.ts_base.specs.Keys.{is_within}
use Rattle.ts_domain.specs.Boxes.{is_in_box}
use Rattle.ts_domain.specs.Domains.{whole_domain, is_in_domain}
use Rattle.ts_schema.specs.declared.attrs.Attr.{Attr}
use Rattle.ts_schema.specs.declared.frames.Frame.{Frame}
use Rattle.ts_schema.specs.declared.wants.Want.{Want}
use Rattle.ts_schema.specs.Wants.{cut, is_wanted, taken}
use Rattle.ts_model.specs.Consolidated.{IsMergedVersion, IsStorable}
use Rattle.ts_model.specs.Deeds.{IsKey, RowFits}
use Rattle.ts_model.specs.Merging.{AreSources, EachAlike, all_got, heads_of, merged_piece, merged_with}
use Rattle.ts_model.specs.Pieces.{IsVersion, version_at}
use Rattle.ts_model.specs.States.{wanted}
use Rattle.ts_model.proofs.Alike.{merged_got}
use Rattle.ts_model.proofs.ListLemmas.{Contains-here, Contains-there}
use Rattle.ts_model.proofs.Members.{key_there}
use Rattle.ts_law.proofs.TakenLaws.{whole_row}

-- what is wanted of a piece of which all is wanted
abbrev pub all_of : Frame → List Attr → Want
all_of frame attrs = wanted (whole_domain frame.domain) 0 (2 ^ 64 - 1) attrs

module _ (frame : Frame) (attrs : List Attr) where
  -- a version with a key, a cell of the domain and a whole row
  record IsWhole (v : Version) : Type 0 where
    key : IsKey v.key
    inside : IsTrue (is_in_domain frame.domain v.coords)
    row : RowFits attrs v.row

  -- each version that can be written is such a one
  of_write : (p : Piece) (k : Key) → IsKey k → (vs : List Version) → All (IsVersion frame attrs p.head k) vs → AllByRecursion IsWhole vs
  of_write p k fits [] all = tt
  of_write p k fits (v ∷ vs) all =
      let is = All-head (IsVersion frame attrs p.head k) v vs all in
      let t = ap (λ (x : Key). x.t) is.by_own in
      let id = ap (λ (x : Key). x.id) is.by_own in
      (record { key = record { t = omega (arith, fits.t, t); id = omega (arith, fits.id, id) }; inside = is.inside; row = is.row }, of_write p k fits vs (All-tail (IsVersion frame attrs p.head k) v vs all))

  of_origins : (p : Piece) → All IsKey p.head.origins → (vs : List Version) → All (IsMergedVersion frame attrs p.head) vs → AllByRecursion IsWhole vs
  of_origins p keys [] all = tt
  of_origins p keys (v ∷ vs) all =
      let is = All-head (IsMergedVersion frame attrs p.head) v vs all in
      (record { key = All-contains IsKey p.head.origins v.key keys (key_there v.key p.head.origins is.by_origin); inside = is.inside; row = is.row }, of_origins p keys vs (All-tail (IsMergedVersion frame attrs p.head) v vs all))

  are_whole : (p : Piece) → IsStorable frame attrs p → AllByRecursion IsWhole p.versions
  are_whole p storable = elim storable [
    | inl is ↦ of_write p is.key is.is_key p.versions is.versions
    | inr is ↦ of_origins p is.are_keys p.versions is.versions
  ]

  -- such a version is wanted, and left as it is
  is_taken : (v : Version) → IsWhole v → is_wanted (all_of frame attrs) v ≡ true
  is_taken v is =
      and_from (is_within 0 (2 ^ 64 - 1) v.key) (is_in_box (whole_domain frame.domain) v.coords)
      (and_from (nat_le 0 v.key.t) (nat_le v.key.t (2 ^ 64 - 1)) (le-leb 0 v.key.t (omega arith)) (le-leb v.key.t (2 ^ 64 - 1) (omega (arith, is.key.t)))) is.inside

  is_cut : (v : Version) → IsWhole v → cut (all_of frame attrs) v ≡ v
  is_cut v is = let row = whole_row attrs v.row is.row in λ i. record { key = v.key; schema = v.schema; coords = v.coords; row = row i }

  all_taken : (vs : List Version) → AllByRecursion IsWhole vs → taken (all_of frame attrs) vs ≡ vs
  all_taken [] are = refl
  all_taken (v ∷ vs) are =
      ap (λ b. list_map (cut (all_of frame attrs)) (cond b (v ∷ filter (is_wanted (all_of frame attrs)) vs) (filter (is_wanted (all_of frame attrs)) vs))) (is_taken v are.0)
      ∙ ap (λ x. x ∷ taken (all_of frame attrs) vs) (is_cut v are.0) ∙ ap (λ l. v ∷ l) (all_taken vs are.1)

  -- a fetch that wants all takes the versions of the piece
  pub taken_whole : (p : Piece) → IsStorable frame attrs p → taken (all_of frame attrs) p.versions ≡ p.versions
  taken_whole p storable = all_taken p.versions (are_whole p storable)

  -- what such fetches take of pieces
  abbrev pub all_taken_of : List Piece → List (List Version)
  all_taken_of ps = list_map (λ p. taken (all_of frame attrs) p.versions) ps

  each_alike : (ps : List Piece) → ((p : Piece) → Contains ps p → IsStorable frame attrs p) → EachAlike ps (all_taken_of ps)
  each_alike [] storable = tt
  each_alike (p ∷ ps) storable =
      (λ k c. ap (λ vs. version_at vs k c) (sym (taken_whole p (storable p (Contains-here p ps)))), each_alike ps (λ q at. storable q (Contains-there p ps q at)))

  -- so what is made of the heads and of what they take is what the sources are merged into
  pub merged_taken : (id : ℕ) (p : Piece) (ps : List Piece) → AreSources frame attrs (p ∷ ps) → merged_with frame id p.head (heads_of ps) (all_got (all_taken_of (p ∷ ps))) ≡ merged_piece frame id p ps
  merged_taken id p ps are = merged_got frame id p ps (all_taken_of (p ∷ ps)) (each_alike (p ∷ ps) are.storable)
