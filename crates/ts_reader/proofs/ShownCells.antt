-- The cells that a read shows: where they lie, how many values they have, and how those of a whole box show.
use Rattle.std.proofs.Common.{◌≡◌, ℤ, Bool, true, false, not, cond, List, [], ◌∷◌, length, map, Option, Some, None, sym, subst, ◌∙◌}
use Rattle.std.specs.Prelude.{IsTrue}
use Rattle.std.specs.FinMap as finite
use Rattle.std.specs.List.{All, AllByRecursion}
use Rattle.std.specs.Option.{option_map_or}
use Rattle.std.proofs.lemmas.List.{length-map}
use Rattle.std.proofs.lemmas.List.Elements.{All-filter, All-from_recursion, All-weaker, recursion_from_All}
use Rattle.ts_base.specs.declared.heads.Version.{Version}
use Rattle.ts_base.specs.declared.values.Val.{Val}
use Rattle.ts_domain.specs.Boxes.{coords_of_box, is_in_box}
use Rattle.ts_domain.specs.Domains.{is_in_domain, whole_domain}
use Rattle.ts_domain.proofs.Between.{length-is_between, is_between-low}
use Rattle.ts_actor.specs.PieceLaws.{AreInBox}
use Rattle.ts_schema.specs.declared.attrs.Attr.{Attr}
use Rattle.ts_schema.specs.declared.schemas.Schema.{Schema}
use Rattle.ts_schema.specs.Attrs.{shown_row, shown_val}
use Rattle.ts_model.specs.declared.states.Reading.{Reading}
use Rattle.ts_model.specs.Answers.{fills_of}
use Rattle.ts_model.specs.Pieces.{newest_of}
use Rattle.ts_model.specs.States.{attrs_got, cell_shown, cells_filled, cells_left, cells_shown, is_erased_by, row_or_fill}
use Rattle.ts_reader.specs.Left.{versions_left}
use Rattle.ts_reader.specs.Reading.{IsReading}
use Rattle.ts_reader.specs.Shown.{pair_of}
use Rattle.ts_reader.proofs.Inside.{shown_lie}
use Rattle.ts_reader.proofs.Newer.{newest_so}

-- ---- cells as pairs

unpaired : (Q : List ℤ × List Val → Type 0) (cells : List Version) → AllByRecursion Q (map pair_of cells) → AllByRecursion (λ (v : Version). Q (pair_of v)) cells
unpaired Q [] all = tt
unpaired Q (v ∷ cells) all = (all.0, unpaired Q cells all.1)

-- what is true of each pair is true of the pair of each cell
pub pairs_so : (Q : List ℤ × List Val → Type 0) (cells : List Version) (es : List (List ℤ × List Val)) → map pair_of cells ≡ es → AllByRecursion Q es → All (λ (v : Version). Q (pair_of v)) cells
pairs_so Q cells es are all =
    let P : Version → Type 0 = λ v. Q (pair_of v) in
    All-from_recursion P cells (unpaired Q cells (subst (AllByRecursion Q) (sym are) all))

-- ---- how many values they have

module _ (r : Reading) (schemas : List Schema) where
  abbrev attrs : List Attr
  attrs = (r.current).attrs

  abbrev AllWide : List (List ℤ × List Val) → Type 0
  AllWide es = AllByRecursion (λ (e : List ℤ × List Val). length e.1 ≡ length attrs) es

  wide_row : (newest : Option Version) → length (row_or_fill r schemas newest) ≡ length attrs
  wide_row None = length-map attrs (λ (a : Attr). a.fill)
  wide_row (Some v) = by_test (is_erased_by r schemas v)
    where
      by_test : (b : Bool) → length (option_map_or (λ (row : List Val). row) (cond (not b) (Some (shown_row (attrs_got r schemas v.schema) v.row attrs)) None) (fills_of attrs)) ≡ length attrs
      by_test true = length-map attrs (λ (a : Attr). a.fill)
      by_test false = length-map attrs (shown_val (attrs_got r schemas v.schema) v.row)

  wide_filled : (newest : List ℤ → Option Version) (cs : List (List ℤ)) → AllWide (map (λ (c : List ℤ). (c, row_or_fill r schemas (newest c))) cs)
  wide_filled newest [] = tt
  wide_filled newest (c ∷ cs) = (wide_row (newest c), wide_filled newest cs)

  wide_left : (versions : List Version) → AllWide (map (cell_shown r schemas) versions)
  wide_left [] = tt
  wide_left (v ∷ versions) = (length-map attrs (shown_val (attrs_got r schemas v.schema) v.row), wide_left versions)

  -- each cell has a value for each attribute of the schema that holds
  pub shown_wide : (got : List Version) → AllWide (cells_shown r schemas got)
  shown_wide got = by_kind (r.frame).dense
    where
      by_kind : (dense : Bool) → AllWide (cond dense (cells_filled r schemas got) (cells_left r schemas got))
      by_kind true = wide_filled (λ c. finite.get (newest_of got) c) (coords_of_box (r.ready).sub)
      by_kind false = wide_left (versions_left r schemas (finite.values (newest_of got)))
      -- ---- where they lie

module _ (r : Reading) (reading : IsReading r) where
  -- coordinates in the box have a number for each dimension
  coords_wide : (c : List ℤ) → IsTrue (is_in_box (r.ready).sub c) → length c ≡ length (r.frame).domain
  coords_wide c lies =
      let bounds = whole_domain (r.frame).domain in
      sym (length-is_between bounds.low bounds.high c (reading.inside c lies)).0 ∙ length-map (r.frame).domain (λ d. d.low)

  low_wide : length ((r.ready).sub).low ≡ length (r.frame).domain
  low_wide = coords_wide ((r.ready).sub).low (is_between-low ((r.ready).sub).low ((r.ready).sub).high reading.valid)

  -- so do those of what is left of versions in the box
  pub left_wide : (schemas : List Schema) (got : List Version) → AreInBox (r.ready).sub got → All (λ (v : Version). length v.coords ≡ length (r.frame).domain) (versions_left r schemas (finite.values (newest_of got)))
  left_wide schemas got in_box =
      let Lies : Version → Type 0 = λ v. IsTrue (is_in_box (r.ready).sub v.coords) in
      let Wide : Version → Type 0 = λ v. length v.coords ≡ length (r.frame).domain in
      let newest = finite.values (newest_of got) in
      All-filter (λ v. not (is_erased_by r schemas v)) Wide newest (All-weaker Lies Wide (λ v. coords_wide v.coords) newest (All-from_recursion Lies newest (newest_so Lies got (recursion_from_All Lies got in_box))))

  -- the cells that are shown lie in the domain
  pub shown_inside : (schemas : List Schema) (got cells : List Version) → AreInBox (r.ready).sub got → map pair_of cells ≡ cells_shown r schemas got → All (λ (v : Version). IsTrue (is_in_domain (r.frame).domain v.coords)) cells
  shown_inside schemas got cells in_box are =
      let Lies : List ℤ × List Val → Type 0 = λ e. IsTrue (is_in_box (r.ready).sub e.0) in
      All-weaker (λ (v : Version). IsTrue (is_in_box (r.ready).sub v.coords)) (λ (v : Version). IsTrue (is_in_domain (r.frame).domain v.coords)) (λ v. reading.inside v.coords) cells
      (pairs_so Lies cells (cells_shown r schemas got) are (shown_lie r schemas got reading.valid in_box))
