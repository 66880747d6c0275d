-- The deletes that a read got are those of its listing of the commits that are stamped in its interval.
use Rattle.std.proofs.Common.{◌≡◌, ℕ, true, List, length, take, arith, sym, ◌∙◌, ap, subst}
use Rattle.std.specs.Prelude.{Contains, filter, map as list_map}
use Rattle.std.proofs.lemmas.List.{take_all}
use Rattle.ts_base.specs.declared.keys.FragKey.{FragKey}
use Rattle.ts_base.specs.Held.{Held}
use Rattle.ts_base.specs.Keys.{frag_of, is_within}
use Rattle.ts_model.specs.declared.commands.Job.{Job}
use Rattle.ts_model.specs.declared.deeds.Deletion.{Deletion}
use Rattle.ts_model.specs.Deeds.{History, IsHistory, deletions}
use Rattle.ts_model.specs.Codecs.{Spelled}
use Rattle.ts_law.specs.Kept.{AreDeletions, LooksInto}
use Rattle.ts_model.specs.Told.{Told, held_told, history_told}
use Rattle.ts_base.specs.declared.names.Prefix.TheVariants.{Commits}
use Rattle.ts_store.specs.Calls.{names_under}
use Rattle.ts_model.specs.States.{deletes_in, meets}
use Rattle.ts_law.proofs.ListSteps.{erase_from_looked, looked_from_erase}
use Rattle.ts_law.proofs.Fetches.{Contains-map, map-Contains}
use Rattle.ts_model.proofs.HistoryLaws.{one_deletion}
use Rattle.ts_model.proofs.KeyLemmas.{key_of_frag}

module _ (spelled : Spelled) (opening : Held) (past : History) (jobs : List Job) (seen : List Told) (m : Held) (number from to : ℕ) (fragments counting delete_names : List FragKey)
    (listed : LooksInto spelled opening past jobs seen m number from to fragments counting delete_names) (is : IsHistory (history_told jobs past seen))
    (grows : (x : Deletion) → Contains (deletions (history_told jobs past listed.since.commits.before)) x → Contains (deletions (history_told jobs past seen)) x)
    (erased : List Deletion) (are : AreDeletions (history_told jobs past seen) delete_names erased) (all : length erased ≡ length delete_names) where
  -- the history at the listing of the commits
  abbrev g : History
  g = history_told jobs past listed.since.commits.before

  -- what was held then
  abbrev then : Held
  then = held_told opening listed.since.commits.before

  -- the deletes that were listed
  listed_names : filter (meets from to) (deletes_in (names_under Commits then)) ≡ delete_names
  listed_names = sym listed.deletes_are

  -- the names of the deletes that were got are all those that were listed
  all_names : list_map (λ x. frag_of x.key) erased ≡ delete_names
  all_names = are.names_are ∙ ap (λ n. take n delete_names) all ∙ take_all (length delete_names) delete_names (omega arith)

  -- a delete that was got is one of the listing, and stamped in the interval
  pub deleted_in : (x : Deletion) → Contains erased x → Contains (deletions g) x × (is_within from to x.key ≡ true)
  deleted_in x at =
      let named = subst (λ fs. Contains fs (frag_of x.key)) all_names (Contains-map (λ y. frag_of y.key) erased x at) in
      let of = erase_from_looked spelled then g listed.since.stands from to (frag_of x.key) (subst (λ fs. Contains fs (frag_of x.key)) (sym listed_names) named) in
      let same : of.0 ≡ x = one_deletion (history_told jobs past seen) of.0 x is (grows of.0 of.1) (are.each x at) (key_of_frag (of.0).key x.key of.2) in
      (subst (Contains (deletions g)) same of.1, subst (λ y. is_within from to y.key ≡ true) same of.3)

  -- a delete of the listing that is stamped in the interval was got
  pub all_deletions : (x : Deletion) → Contains (deletions g) x → is_within from to x.key ≡ true → Contains erased x
  all_deletions x at within =
      let named = map-Contains (λ y. frag_of y.key) erased (frag_of x.key) (subst (λ fs. Contains fs (frag_of x.key)) (listed_names ∙ sym all_names) (looked_from_erase spelled then g listed.since.stands from to x at within)) in
      let same : named.0 ≡ x = one_deletion (history_told jobs past seen) named.0 x is (are.each named.0 named.1) (grows x at) (key_of_frag (named.0).key x.key named.2) in
      subst (Contains erased) same named.1
