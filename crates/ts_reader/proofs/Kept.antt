-- What is left of versions: of one more of them, and where there are no deletes.
use Rattle.std.proofs.Common.{◌≡◌, ℕ, ◌+◌, ◌<◌, Bool, true, false, not, cond, List, [], ◌∷◌, ◌++◌, length, get_or, take, Option, Some, None, map, refl, sym, ap, ◌∙◌}
use Rattle.std.specs.List.{list_any}
use Rattle.std.proofs.lemmas.List.{take_more}
use Rattle.std.proofs.lemmas.List.Elements.{filter-append}
use Rattle.ts_base.specs.declared.heads.Version.{Version}
use Rattle.ts_schema.specs.declared.schemas.Schema.{Schema}
use Rattle.ts_model.specs.declared.states.Reading.{Reading}
use Rattle.ts_model.specs.States.{attrs_got, is_erased_by}
use Rattle.ts_reader.specs.Deletes.{erases}
use Rattle.ts_reader.specs.Left.{slot_left, versions_left}

module _ (r : Reading) (schemas : List Schema) where
  -- without deletes no version is erased
  pub none_erased : (v : Version) → r.deletions ≡ [] → is_erased_by r schemas v ≡ false
  none_erased v none = ap (λ es. list_any (erases (attrs_got r schemas v.schema) v) es) none

  -- and all are left
  pub all_left : (versions : List Version) → r.deletions ≡ [] → versions ≡ versions_left r schemas versions
  all_left [] none = refl
  all_left (v ∷ versions) none =
      ap (λ vs. v ∷ vs) (all_left versions none) ∙ sym (ap (λ b. cond (not b) (v ∷ versions_left r schemas versions) (versions_left r schemas versions)) (none_erased v none))

  -- one version more
  pub left_more : (versions : List Version) (place : ℕ) (v : Version) → place < length versions → v ≡ get_or versions place v
      → versions_left r schemas (take (place + 1) versions) ≡ versions_left r schemas (take place versions) ++ cond (is_erased_by r schemas v) [] (v ∷ [])
  left_more versions place v within is =
      ap (versions_left r schemas) (take_more versions place v within ∙ ap (λ (w : Version). take place versions ++ w ∷ []) (sym is))
      ∙ filter-append (λ w. not (is_erased_by r schemas w)) (take place versions) (v ∷ [])
      ∙ ap (λ ws. versions_left r schemas (take place versions) ++ ws) (by_test (is_erased_by r schemas v))
    where
      by_test : (b : Bool) → cond (not b) (v ∷ []) [] ≡ cond b [] (v ∷ [])
      by_test true = refl
      by_test false = refl

  one_left : (slot : Option Version) → r.deletions ≡ [] → slot ≡ slot_left r schemas slot
  one_left None none = refl
  one_left (Some v) none = sym (ap (λ b. cond (not b) (Some v) None) (none_erased v none))

  -- without deletes all slots are left as they are
  pub slots_all_left : (slots : List (Option Version)) → r.deletions ≡ [] → slots ≡ map (slot_left r schemas) slots
  slots_all_left [] none = refl
  slots_all_left (slot ∷ slots) none = ap (λ os. slot ∷ os) (slots_all_left slots none) ∙ ap (λ o. o ∷ map (slot_left r schemas) slots) (one_left slot none)
