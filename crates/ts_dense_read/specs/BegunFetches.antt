-- How a fetch of a dense fragment began, and what its answer says.
use Rattle.std.proofs.Common.{◌≡◌, ℕ, Bool, true, false, if◌then◌else◌, List, Result, Ok, Err, refl, sym, subst}
use Rattle.ts_base.specs.declared.keys.FragKey.{FragKey}
use Rattle.ts_base.specs.declared.names.Part.{Part}
use Rattle.ts_base.specs.declared.heads.Version.{Version}
use Rattle.ts_wire.specs.Place.{◌>>=◌}
use Rattle.ts_wire.proofs.Laws.{bound, same_ok, not_both}
use Rattle.ts_schema.specs.declared.frames.Frame.{Frame}
use Rattle.ts_schema.specs.declared.schemas.Schema.{Schema}
use Rattle.ts_schema.specs.declared.wants.Want.{Want}
use Rattle.ts_schema.specs.Wants.{taken}
use Rattle.ts_plain.specs.declared.stored.StoredCell.{StoredCell}
use Rattle.ts_footer.specs.declared.footers.Footer.{Footer}
use Rattle.ts_footer.specs.Footers.{dense_footer_stored}
use Rattle.ts_fetch.specs.declared.judging.Verdict.TheVariants.{Whole, Broken}
use Rattle.ts_fetch.specs.Plans.{Going, begun}
use Rattle.ts_fetch.specs.PlanCodecs.{GoesByPlan}
use Rattle.ts_dense.specs.Slots.{versions_of}
use Rattle.ts_sparse_read.specs.Faults.{Fault}
use Rattle.ts_dense_read.specs.declared.opened.Opened.{Opened}
use Rattle.ts_dense_read.specs.SpaceOpens.{space_used, space_fetch, space_opens}
use Rattle.ts_dense_read.specs.SpaceJudges.{slots_of_tiles, verdict_on, space_judge}
use Rattle.ts_dense_read.specs.SpaceCodecs.{space_codec}

-- the array is dense, the metadata says this, and the fetch begins so
pub record IsBegun (frame : Frame) (s : Schema) (frag : FragKey) (object : List ℕ) (want : Want) (f : Going Opened) : Type 0 where
  pub dense : frame.dense ≡ true
  pub footer : Footer
  pub read : dense_footer_stored frame s.attrs frag object ≡ Ok footer
  pub is : f ≡ space_fetch frame s.attrs frag want footer (space_used s.attrs footer want.attrs)

-- each fetch began so
pub is_begun : (frame : Frame) (s : Schema) (frag : FragKey) (object : List ℕ) (want : Want) (f : Going Opened) → space_opens frame s frag object want ≡ Ok f → IsBegun frame s frag object want f
unfolding space_opens
is_begun frame s frag object want f h = by frame.dense refl h
  where
    by : (b : Bool) → frame.dense ≡ b → (if b then (dense_footer_stored frame s.attrs frag object >>= λ footer. Ok (space_fetch frame s.attrs frag want footer (space_used s.attrs footer want.attrs))) else Err 0) ≡ Ok f
        → IsBegun frame s frag object want f
    by true dense e =
        let b = bound (dense_footer_stored frame s.attrs frag object) (λ footer. Ok (space_fetch frame s.attrs frag want footer (space_used s.attrs footer want.attrs))) f e in
        let first = space_fetch frame s.attrs frag want b.first (space_used s.attrs b.first want.attrs) in
        record { dense = dense; footer = b.first; read = b.was; is = sym (same_ok (Ok first) first f refl b.next) }
    by false dense e = absurd (not_both (Err 0) f 0 e refl)

-- it goes by a plan
pub space_by_plan : GoesByPlan space_judge space_codec
space_by_plan = record {
  begins = λ frame s frag object want f h. let b = is_begun frame s frag object want f h in subst (λ (g : Going Opened). g ≡ begun g.given frag g.left) (sym b.is) refl;
  steps = λ f r. refl;
}

-- the slots that were read, of which these versions are wanted
pub record TakesSlots (opened : Opened) (got : List (List ℕ)) (versions : List Version) : Type 0 where
  pub slots : List StoredCell
  pub read : slots_of_tiles opened.frame opened.attrs (opened.want).attrs opened.head opened.tiles got ≡ Ok slots
  pub same : versions ≡ taken opened.want (versions_of opened.head slots)

-- where the judge takes versions, they are those of slots that were read
pub takes_slots : (opened : Opened) (got : List (List ℕ)) (versions : List Version) → space_judge opened got ≡ Whole versions → TakesSlots opened got versions
unfolding space_judge
takes_slots opened got versions h = by (slots_of_tiles opened.frame opened.attrs (opened.want).attrs opened.head opened.tiles got) refl h
  where
    by : (r : Result (List StoredCell) Fault) → slots_of_tiles opened.frame opened.attrs (opened.want).attrs opened.head opened.tiles got ≡ r → verdict_on opened r ≡ Whole versions → TakesSlots opened got versions
    by (Ok slots) is e = let same : taken opened.want (versions_of opened.head slots) ≡ versions = cc in record { slots = slots; read = is; same = sym same }
    by (Err fault) is e = absurd (cc)

-- where it finds a part broken, the slots are broken there
pub breaks_slots : (opened : Opened) (got : List (List ℕ)) (part : Part) (at : ℕ) → space_judge opened got ≡ Broken part at
    → slots_of_tiles opened.frame opened.attrs (opened.want).attrs opened.head opened.tiles got ≡ Err (record { part = part; at = at })
unfolding space_judge
breaks_slots opened got part at h = by (slots_of_tiles opened.frame opened.attrs (opened.want).attrs opened.head opened.tiles got) h
  where
    by : (r : Result (List StoredCell) Fault) → verdict_on opened r ≡ Broken part at → r ≡ Err (record { part = part; at = at })
    by (Ok slots) e = absurd (cc)
    by (Err fault) e =
        let parts : fault.part ≡ part = cc in
        let places : fault.at ≡ at = cc in
        λ i. Err (record { part = parts i; at = places i })
