-- How a fetch of a sparse fragment began, and what its answer says.
use Rattle.std.proofs.Common.{◌≡◌, ℕ, List, map, Result, Ok, Err, refl, sym, subst}
use Rattle.ts_base.specs.declared.keys.FragKey.{FragKey}
use Rattle.ts_base.specs.declared.names.Part.{Part}
use Rattle.ts_base.specs.declared.heads.Version.{Version}
use Rattle.ts_wire.proofs.Laws.{bound, same_ok}
use Rattle.ts_schema.specs.declared.frames.Frame.{Frame}
use Rattle.ts_schema.specs.declared.schemas.Schema.{Schema}
use Rattle.ts_schema.specs.declared.wants.Want.{Want}
use Rattle.ts_schema.specs.Wants.{taken}
use Rattle.ts_plain.specs.declared.stored.StoredCell.{StoredCell}
use Rattle.ts_plain.specs.Pieces.{version_in}
use Rattle.ts_footer.specs.declared.footers.Footer.{Footer}
use Rattle.ts_footer.specs.Footers.{footer_stored}
use Rattle.ts_fetch.specs.declared.judging.Verdict.TheVariants.{Whole, Broken}
use Rattle.ts_fetch.specs.Plans.{Going, begun}
use Rattle.ts_fetch.specs.PlanCodecs.{GoesByPlan}
use Rattle.ts_sparse_read.specs.declared.opened.Opened.{Opened}
use Rattle.ts_sparse_read.specs.Faults.{Fault}
use Rattle.std.specs.Prelude.{None}
use Rattle.ts_sparse_read.specs.Opens.{used_in, fetch_for, sparse_opens}
use Rattle.ts_sparse_read.specs.Judges.{cells_of_tiles, verdict_on, sparse_judge}
use Rattle.ts_sparse_read.specs.Codecs.{sparse_codec}

-- what the metadata says, and the fetch that begins so
pub record IsBegun (frame : Frame) (s : Schema) (frag : FragKey) (object : List ℕ) (want : Want) (f : Going Opened) : Type 0 where
  pub footer : Footer
  pub read : footer_stored frame s.attrs frag object ≡ Ok footer
  pub is : f ≡ fetch_for frame s.attrs frag want footer (used_in frame s.attrs footer want.attrs)

-- each fetch began so
pub is_begun : (frame : Frame) (s : Schema) (frag : FragKey) (object : List ℕ) (want : Want) (f : Going Opened) → sparse_opens frame s frag object want ≡ Ok f → IsBegun frame s frag object want f
unfolding sparse_opens
is_begun frame s frag object want f h =
    let begins : Footer → Going Opened = λ footer. fetch_for frame s.attrs frag want footer (used_in frame s.attrs footer want.attrs) in
    let b = bound (footer_stored frame s.attrs frag object) (λ footer. Ok (begins footer)) f h in
    record { footer = b.first; read = b.was; is = sym (same_ok (Ok (begins b.first)) (begins b.first) f refl b.next) }

-- it goes by a plan
pub sparse_by_plan : GoesByPlan sparse_judge sparse_codec
sparse_by_plan = record {
  begins = λ frame s frag object want f h. let b = is_begun frame s frag object want f h in subst (λ (g : Going Opened). g ≡ begun g.given frag g.left) (sym b.is) refl;
  steps = λ f r. refl;
}

-- the cells that were read, of which these versions are wanted
pub record TakesCells (opened : Opened) (got : List (List ℕ)) (versions : List Version) : Type 0 where
  pub cells : List StoredCell
  pub read : cells_of_tiles opened.frame opened.attrs (opened.want).attrs opened.head None opened.tiles got ≡ Ok cells
  pub same : versions ≡ taken opened.want (map (version_in opened.head) cells)

-- where the judge takes versions, they are those of cells that were read
pub takes_cells : (opened : Opened) (got : List (List ℕ)) (versions : List Version) → sparse_judge opened got ≡ Whole versions → TakesCells opened got versions
unfolding sparse_judge
takes_cells opened got versions h = by (cells_of_tiles opened.frame opened.attrs (opened.want).attrs opened.head None opened.tiles got) refl h
  where
    by : (r : Result (List StoredCell) Fault) → cells_of_tiles opened.frame opened.attrs (opened.want).attrs opened.head None opened.tiles got ≡ r → verdict_on opened r ≡ Whole versions → TakesCells opened got versions
    by (Ok cells) is e = let same : taken opened.want (map (version_in opened.head) cells) ≡ versions = cc in record { cells = cells; read = is; same = sym same }
    by (Err fault) is e = absurd (cc)

-- where it finds a part broken, the cells are broken there
pub breaks_cells : (opened : Opened) (got : List (List ℕ)) (part : Part) (at : ℕ) → sparse_judge opened got ≡ Broken part at
    → cells_of_tiles opened.frame opened.attrs (opened.want).attrs opened.head None opened.tiles got ≡ Err (record { part = part; at = at })
unfolding sparse_judge
breaks_cells opened got part at h = by (cells_of_tiles opened.frame opened.attrs (opened.want).attrs opened.head None opened.tiles got) h
  where
    by : (r : Result (List StoredCell) Fault) → verdict_on opened r ≡ Broken part at → r ≡ Err (record { part = part; at = at })
    by (Ok cells) e = absurd (cc)
    by (Err fault) e =
        let parts : fault.part ≡ part = cc in
        let places : fault.at ≡ at = cc in
        λ i. Err (record { part = parts i; at = places i })
