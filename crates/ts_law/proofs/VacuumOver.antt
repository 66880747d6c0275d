-- A vacuum that has no name left to remove is what its end says.
use Rattle.std.proofs.Common.{◌≡◌, ℕ, false, List, arith, length, sym, ◌∙◌, ap, subst}
use Rattle.std.specs.Prelude.{Contains, nat_lt}
use Rattle.std.proofs.lemmas.Bool.{ltb-false}
use Rattle.std.proofs.lemmas.List.{take_all}
use Rattle.std.proofs.lemmas.Option.{slice_get_within}
use Rattle.ts_base.specs.declared.names.Name.{Name}
use Rattle.ts_base.specs.declared.names.Prefix.TheVariants.{Commits}
use Rattle.ts_base.specs.Held.{Held}
use Rattle.ts_commit.specs.Selections.{removal_set}
use Rattle.ts_store.specs.Calls.{names_under}
use Rattle.ts_model.specs.declared.answers.Outcome.{Outcome}
use Rattle.ts_model.specs.declared.commands.Job.{Job}
use Rattle.ts_model.specs.declared.states.Sweep.{Sweep}
use Rattle.ts_model.specs.Codecs.{Spelled}
use Rattle.ts_model.specs.Deeds.{History}
use Rattle.ts_model.specs.States.{names_removed}
use Rattle.ts_model.specs.Told.{Told, held_told}
use Rattle.ts_model.proofs.ListLemmas.{slice_get-Contains}
use Rattle.ts_law.specs.Ends.{AreAllVacs, IsGone, IsVacuumed}
use Rattle.ts_law.specs.Sweeps.{IsFoundIn, Vacuuming}
use Rattle.ts_law.specs.Swept.{sweep_over}
use Rattle.ts_law.proofs.Vacuumed.{each_of_places, sweep_is, vacuumed_by}

-- a vacuum that has as many `.vac` objects as count has all of them
pub all_vacs_of : (m : Held) (s : Sweep) → IsFoundIn m s → length s.vacs ≡ length s.counting → AreAllVacs m s.vacs
all_vacs_of m s found all = record {
  frags = found.are_vacs.frags ∙ take_all (length s.vacs) s.counting (omega (arith, all)) ∙ found.counting_are;
  each = λ v at. (found.are_vacs.each v at).1;
}

module _ (spelled : Spelled) (opening : Held) (past : History) (jobs : List Job) (seen : List Told) (m : Held) (number : ℕ) (job : Job) (names : List Name) (next : ℕ) (end : Outcome)
    (is : Vacuuming spelled opening past jobs seen m number job names next end) where
  -- what is gone once no name is left
  all_gone : nat_lt next (length names) ≡ false → (n : Name) → Contains names n → IsGone opening seen number n
  all_gone none n at =
      let (i, there) = slice_get-Contains names n at in
      let within = slice_get_within names i n there in
      let past_all = ltb-false next (length names) none in
      is.gone i n (omega (arith, within, past_all)) there

  -- what it found
  found_it : is.sweep ≡ sweep_over (names_under Commits (held_told opening (is.commits).before)) (is.sweep).vacs
  found_it = sweep_is (names_under Commits (held_told opening (is.commits).before)) is.sweep is.is_found.committed_are is.is_found.with_vac_are is.is_found.counting_are

  -- a vacuum that has no name left removed what its end says
  pub vacuuming_over : nat_lt next (length names) ≡ false → IsVacuumed opening jobs past seen number job (length (removal_set (is.sweep).vacs))
  vacuuming_over none =
      vacuumed_by opening jobs past seen number job is.commits (is.sweep).vacs is.listed is.vacuums is.found (all_vacs_of (held_told opening (is.commits).before) is.sweep is.is_found is.all_vacs)
      (each_of_places opening seen number (is.commits).before (is.commits).listing (removal_set (is.sweep).vacs) is.listed is.all_listed is.parts)
      (λ n at. all_gone none n (subst (λ ns. Contains ns n) (sym (is.names_are ∙ ap (λ s. names_removed s (removal_set (is.sweep).vacs) is.listed) found_it)) at))
