-- The fragments that a vacuum is to remove: what the `.vac` objects name that it got, whose identifiers were spent then.
use Rattle.std.proofs.Common.{◌≡◌, ℕ, true, List, ◌∷◌, Some, sym, ◌∙◌, ap, subst}
use Rattle.std.specs.Prelude.{Contains}
use Rattle.ts_base.specs.declared.keys.FragKey.{FragKey}
use Rattle.ts_base.specs.declared.names.Name.{Name}
use Rattle.ts_base.specs.Held.{Held}
use Rattle.ts_commit.specs.declared.vacs.VacOf.{VacOf}
use Rattle.ts_commit.specs.Selections.{is_among, is_merged, removal_set}
use Rattle.ts_commit.proofs.Sets.{among_removed}
use Rattle.ts_model.specs.declared.answers.Outcome.{Outcome}
use Rattle.ts_model.specs.declared.commands.Job.{Job}
use Rattle.ts_model.specs.Codecs.{Spelled}
use Rattle.ts_model.specs.Deeds.{History}
use Rattle.ts_model.specs.Told.{Told}
use Rattle.ts_law.specs.Fresh.{IsSpent, id_in}
use Rattle.ts_law.specs.Since.{AreVacs}
use Rattle.ts_law.specs.Stands.{IsNamed}
use Rattle.ts_law.specs.Sweeps.{IsSwept, OfCommit, OfOther, OfPart, OfVac, Vacuuming}
use Rattle.ts_law.proofs.OriginLaws.{member_any}
use Rattle.ts_law.proofs.Spent.{spent_on}
use Rattle.ts_law.proofs.VacTexts.{among_of, of_among}

-- ---- the set

-- each fragment of the set is named by a `.vac`
pub set_named : (vacs : List VacOf) (f : FragKey) → Contains (removal_set vacs) f → (v : VacOf) × Contains vacs v × Contains v.names f
set_named vacs f at =
    let merged : is_merged vacs f ≡ true = sym (among_removed f vacs) ∙ among_of (removal_set vacs) f at in
    let (v, there, names) = member_any (λ (w : VacOf). is_among f w.names) vacs merged in
    (v, there, of_among v.names f names)

module _ (m : Held) (counting : List FragKey) (vacs : List VacOf) (are : AreVacs m counting vacs) where
  -- by that of a committed fragment
  pub set_is_named : (f : FragKey) → Contains (removal_set vacs) f → IsNamed m f
  set_is_named f at =
      let (v, there, names) = set_named vacs f at in
      let own = are.each v there in
      (v.frag, own.0, (v.names, own.1, names))

-- ---- identifiers

module _ (spelled : Spelled) (opening : Held) (past : History) (jobs : List Job) (seen : List Told) (m : Held) (number : ℕ) (job : Job) (names : List Name) (next : ℕ) (end : Outcome)
    (is : Vacuuming spelled opening past jobs seen m number job names next end) where
  -- what was spent at the listing of the commits is spent
  spent_since : (id : ℕ) → IsSpent opening past (is.commits).before id → IsSpent opening past seen id
  spent_since id spent = subst (λ t. IsSpent opening past t id) (sym (is.commits).place) (spent_on opening past (is.commits).before ((is.commits).listing ∷ (is.commits).later) id spent)

  -- the identifier of each fragment that is to be removed is spent
  pub set_spent : (f : FragKey) → Contains (removal_set (is.sweep).vacs) f → IsSpent opening past seen f.id
  set_spent f at = spent_since f.id ((is.spent).named f (set_is_named _ (is.sweep).counting (is.sweep).vacs (is.is_found).are_vacs f at))

  -- so is the identifier that each of the names carries
  pub name_spent : (n : Name) → IsSwept (removal_set (is.sweep).vacs) (is.sweep).vacs n → (id : ℕ) × (id_in n ≡ Some id) × IsSpent opening past seen id
  name_spent n (OfCommit f own same) = (f.id, ap id_in same, set_spent f own)
  name_spent n (OfPart f part own same) = (f.id, ap id_in same, set_spent f own)
  name_spent n (OfVac f own same) = (f.id, ap id_in same, set_spent f own)
  name_spent n (OfOther v at same) = ((v.frag).id, ap id_in same, spent_since (v.frag).id ((is.spent).committed v.frag (((is.is_found).are_vacs).each v at).0))
