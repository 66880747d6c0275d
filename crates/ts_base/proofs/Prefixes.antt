-- A name stands under a prefix where its text begins with the prefix's text.
use Rattle.std.proofs.Common.{◌≡◌, ◌↔◌, IsTrue, ℕ, List, ◌∷◌, ◌++◌, codes, drop, slice_index, refl, sym, ap, ◌∙◌, arith}
use Rattle.std.proofs.lemmas.List.{append_assoc}
use Rattle.ts_base.specs.declared.keys.FragKey.{FragKey}
use Rattle.ts_base.specs.declared.names.Part.{Part}
use Rattle.ts_base.specs.declared.names.Name.{Name}
use Rattle.ts_base.specs.declared.names.Name.TheVariants as name
use Rattle.ts_base.specs.declared.names.Prefix.{Prefix}
use Rattle.ts_base.specs.declared.names.Prefix.TheVariants as prefix
use Rattle.ts_base.specs.Keys.{frag_eq}
use Rattle.ts_base.specs.Names.{is_under}
use Rattle.ts_base.specs.Spelling.{Begins, FitsFrag, FitsName, FitsPrefix, name_text, prefix_text, stamp_text, frag_text, part_text, kind_text, mode_text}
use Rattle.ts_base.specs.Exact.{frag_decides}
use Rattle.ts_base.proofs.Splits.{frag_split}

-- the folder of a fragment's parts, and what follows it
folder_parts : (f : FragKey) (rest : List ℕ) → prefix_text (prefix.Fragment f) ++ rest ≡ codes "__fragments/" ++ (frag_text f ++ 47 ∷ rest)
folder_parts f rest =
    append_assoc (codes "__fragments/" ++ frag_text f) (codes "/") rest ∙ append_assoc (codes "__fragments/") (frag_text f) (47 ∷ rest)

-- a part stands under the prefix of its own fragment, and of no other
part_begins : (f g : FragKey) (p : Part) → FitsFrag f → FitsFrag g
    → IsTrue (frag_eq f g) ↔ Begins (name_text (name.Part g p)) (prefix_text (prefix.Fragment f))
part_begins f g p fits_f fits_g = (
  λ tied. (part_text p, ap (λ (h : FragKey). name_text (name.Part h p)) (sym ((frag_decides f g).0 tied))),
  λ begins.
      let whole = sym (folder_parts g (part_text p)) ∙ begins.1 ∙ folder_parts f begins.0 in
      let parts = frag_split g f 47 47 (part_text p) begins.0 fits_g fits_f (omega arith) (omega arith) (ap (drop 12) whole) in
      (frag_decides f g).1 (sym parts.0),
)

pub under_begins : (p : Prefix) (n : Name) → FitsPrefix p → FitsName n → IsTrue (is_under p n) ↔ Begins (name_text n) (prefix_text p)
under_begins prefix.Schemas (name.Schema k) fits_p fits_n = (λ _. (stamp_text k, refl), λ _. refl)
under_begins prefix.Commits (name.Commit f kind) fits_p fits_n =
    (λ _. (frag_text f ++ codes "." ++ kind_text kind, refl), λ _. refl)
under_begins prefix.Leases (name.Lease k mode) fits_p fits_n =
    (λ _. (stamp_text k ++ codes "." ++ mode_text mode, refl), λ _. refl)
under_begins (prefix.Fragment f) (name.Part g part) fits_p fits_n = part_begins f g part fits_p fits_n.0
under_begins _ _ _ _ = (λ tied. cc, λ begins. let third = ap (λ (text : List ℕ). slice_index text 2) begins.1 in absurd (omega arith))
