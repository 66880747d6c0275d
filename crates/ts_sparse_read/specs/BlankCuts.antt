-- What is wanted of cells asks for the attributes that are read of them alone.
use Rattle.std.proofs.Common.{◌≡◌, ℕ, zero, suc, ◌+◌, ◌<◌, ◌≤◌, Bool, true, false, nat_eq, List, [], ◌∷◌, length, map, get_or, inl, inr, refl, sym, ap, ◌∙◌, subst, arith}
use Rattle.std.specs.Prelude.{◌⊎◌, cond, filter}
use Rattle.std.specs.List.{All}
use Rattle.std.proofs.lemmas.Bool.{eq-eqb, cases_lt, or_left, or_right, cond-true}
use Rattle.std.proofs.lemmas.List.{get_or_past}
use Rattle.std.proofs.lemmas.List.Elements.{All-head, All-tail}
use Rattle.ts_base.specs.declared.heads.Version.{Version}
use Rattle.ts_base.specs.declared.values.Val.{Val}
use Rattle.ts_base.specs.declared.values.Val.TheVariants.{Null}
use Rattle.ts_schema.specs.declared.attrs.Attr.{Attr}
use Rattle.ts_schema.specs.declared.wants.Want.{Want}
use Rattle.ts_schema.specs.Wants.{is_wanted, value_of, cut_row, cut, taken}
use Rattle.ts_plain.specs.declared.stored.StoredHead.{StoredHead}
use Rattle.ts_plain.specs.declared.stored.StoredCell.{StoredCell}
use Rattle.ts_plain.specs.Pieces.{version_in}
use Rattle.ts_sparse_read.specs.TileReads.{is_among}
use Rattle.ts_sparse_read.specs.Blanks.{blanked_row, blanked}

-- ---- rows

blank_long : (places : List ℕ) (k : ℕ) (attrs : List Attr) (row : List Val) → length (blanked_row places k attrs row) ≡ length attrs
blank_long places k [] row = refl
blank_long places k (a ∷ attrs) row = ap suc (blank_long places (suc k) attrs row)

-- a value that is read is kept
kept_at : (places : List ℕ) (k : ℕ) (attrs : List Attr) (row : List Val) (j m : ℕ) → m ≡ k + j → is_among places m ≡ true → j < length attrs
    → get_or (blanked_row places k attrs row) j Null ≡ get_or row m Null
kept_at places k [] row j m is among within = absurd (omega (arith, within))
kept_at places k (a ∷ attrs) row zero m is among within =
    let here : m ≡ k = omega (arith, is) in
    cond-true (is_among places k) (get_or row k Null) Null (subst (λ n. is_among places n ≡ true) here among) ∙ ap (λ n. get_or row n Null) (sym here)
kept_at places k (a ∷ attrs) row (suc j) m is among within = kept_at places (suc k) attrs row j m (omega (arith, is)) among (omega (arith, within))

-- so is any place of a row that is no longer than the attributes
value_kept : (places : List ℕ) (attrs : List Attr) (row : List Val) (q : ℕ) → length row ≡ length attrs → is_among places q ≡ true → value_of (blanked_row places 0 attrs row) q ≡ value_of row q
value_kept places attrs row q long among = by (cases_lt q (length attrs))
  where
    by : (q < length attrs) ⊎ (length attrs ≤ q) → value_of (blanked_row places 0 attrs row) q ≡ value_of row q
    by (inl within) = kept_at places 0 attrs row q q (omega arith) among within
    by (inr past) =
        get_or_past (blanked_row places 0 attrs row) q Null (omega (arith, past, blank_long places 0 attrs row)) ∙ sym (get_or_past row q Null (omega (arith, past, long)))

cut_kept : (places : List ℕ) (attrs : List Attr) (row : List Val) (qs : List ℕ) → length row ≡ length attrs → ((q : ℕ) → is_among qs q ≡ true → is_among places q ≡ true)
    → cut_row qs (blanked_row places 0 attrs row) ≡ cut_row qs row
cut_kept places attrs row [] long among = refl
cut_kept places attrs row (q ∷ qs) long among =
    let here = value_kept places attrs row q long (among q (or_left (nat_eq q q) (is_among qs q) (eq-eqb q q refl))) in
    let others = cut_kept places attrs row qs long (λ p is. among p (or_right (nat_eq q p) (is_among qs p) is)) in
    ap (λ v. v ∷ cut_row qs (blanked_row places 0 attrs row)) here ∙ ap (λ vs. value_of row q ∷ vs) others

-- ---- cells

module _ (attrs : List Attr) (want : Want) (head : StoredHead) where
  cell_kept : (c : StoredCell) → length c.row ≡ length attrs → cut want (version_in head (blanked attrs want.attrs c)) ≡ cut want (version_in head c)
  cell_kept c long =
      let with_row : List Val → Version = λ row. record { key = (version_in head c).key; schema = head.schema; coords = c.coords; row = row } in
      ap with_row (cut_kept want.attrs attrs c.row want.attrs long (λ q is. is))

  -- what is wanted of cells is so of the cells of which the wanted attributes are read
  pub blanked_taken : (cells : List StoredCell) → All (λ (c : StoredCell). length c.row ≡ length attrs) cells
      → taken want (map (version_in head) (map (blanked attrs want.attrs) cells)) ≡ taken want (map (version_in head) cells)
  blanked_taken [] long = refl
  blanked_taken (c ∷ cells) long =
      by (is_wanted want (version_in head c)) (cell_kept c (All-head (λ (c : StoredCell). length c.row ≡ length attrs) c cells long)) (blanked_taken cells (All-tail (λ (c : StoredCell). length c.row ≡ length attrs) c cells long))
    where
      blank : List Version
      blank = filter (is_wanted want) (map (version_in head) (map (blanked attrs want.attrs) cells))

      whole : List Version
      whole = filter (is_wanted want) (map (version_in head) cells)

      by : (b : Bool) → cut want (version_in head (blanked attrs want.attrs c)) ≡ cut want (version_in head c) → map (cut want) blank ≡ map (cut want) whole
          → map (cut want) (cond b (version_in head (blanked attrs want.attrs c) ∷ blank) blank) ≡ map (cut want) (cond b (version_in head c ∷ whole) whole)
      by true here others = ap (λ v. v ∷ map (cut want) blank) here ∙ ap (λ vs. cut want (version_in head c) ∷ vs) others
      by false here others = others
